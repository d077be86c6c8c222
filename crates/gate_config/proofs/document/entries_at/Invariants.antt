use Rattle.std.proofs.Common.{◌≡◌, map, take}
use Rattle.serde_json.specs.View.{view}
use Rattle.gate_config.specs.Document.{picked}
use Rattle.gate_config.specs.Parts.{optional}
use Rattle.gate_config.specs.Inner.Found.{found_view}
use Rattle.gate_config.proofs.document.entries_at.Given as goal

abbrev pub invariant-loop-position : goal.invariant-loop-position
invariant-loop-position l = map found_view l.entries.items ≡ picked (optional l.key) (map view (take l.position l.items))
