use Rattle.std.proofs.Common.{◌≡◌, ◌∙◌, ap, map}
use Rattle.serde_json.specs.View.{view}
use Rattle.gate_config.proofs.Faults.{exit, fault_front, after}
use Rattle.gate_config.specs.Document.{pipeline_items}
use Rattle.gate_config.specs.Inner.Found.{found_view}
use Rattle.gate_config.proofs.pipelines.read_items.Goals as goal

pub returns-in_err-check_each : goal.returns-in_err-check_each
returns-in_err-check_each c = exit _ c.from_residual.result c.from_residual.ensures.1 (fault_front _ c.in_err-check_each.ensures)

pub returns : goal.returns
returns c =
    let entries : map found_view c.as_slice.result.now ≡ pipeline_items (map view c.args.items.now) = ap (map found_view) c.as_slice.ensures.value ∙ c.in_ok-entries.ensures in
    after _ _ c.read_pipelines.result c.in_ok-check_each.ensures.0 (rw entries at c.read_pipelines.ensures)
