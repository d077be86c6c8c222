use Rattle.std.proofs.Common.{Some}
use Rattle.serde_json.specs.View.{view}
use Rattle.gate_config.proofs.Each.{ReadSoFar}
use Rattle.gate_config.specs.Checks.{config_checks}
use Rattle.gate_config.specs.Document.{tenant_texts}
use Rattle.gate_config.specs.Inner.Found.{found_view}
use Rattle.gate_config.specs.Texts.{texts_of_tenant}
use Rattle.gate_config.proofs.pipelines.read_tenants.Given as goal

abbrev pub invariant-loop-entry : goal.invariant-loop-entry
invariant-loop-entry l = ReadSoFar (λ _. config_checks (Some (view l.config)) l.connections) found_view texts_of_tenant (tenant_texts (Some (view l.config)) l.connections) l.entries l.entry-index l.tenants.items
