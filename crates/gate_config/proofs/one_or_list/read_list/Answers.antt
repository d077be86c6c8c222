use Rattle.std.proofs.lemmas.List.{length-map}
use Rattle.serde_json.specs.View.{view}
use Rattle.gate_config.proofs.Faults.{after, exit, fault_front}
use Rattle.gate_config.proofs.one_or_list.read_list.Goals as goal

pub returns-in_err-check_count : goal.returns-in_err-check_count
returns-in_err-check_count g c = exit _ c.from_residual.result c.from_residual.ensures.1 (rw (length-map c.args.values.now view) (fault_front _ c.in_err-check_count.ensures))

pub returns : goal.returns
returns g c = rw (length-map c.args.values.now view) (after _ _ c.read_items.result c.in_ok-check_count.ensures.0 c.read_items.ensures)
