use Rattle.std.proofs.Common.{◌≡◌, map, take}
use Rattle.serde_json.specs.View.{view}
use Rattle.gate_config.specs.Document.{picked, tenant_at}
use Rattle.gate_config.specs.Inner.Found.{found_view}
use Rattle.gate_config.proofs.document.tenant_entries.Given as goal

abbrev pub invariant-loop-position : goal.invariant-loop-position
invariant-loop-position l = map found_view l.entries.items ≡ picked tenant_at (map view (take l.position l.items))
