use Rattle.gate_config.proofs.Faults.{after, exit, fault_front}
use Rattle.gate_config.proofs.one_or_list.read_item.Goals as goal

pub returns-in_err-check_position : goal.returns-in_err-check_position
returns-in_err-check_position g c = exit _ c.from_residual.result c.from_residual.ensures.1 (fault_front _ c.in_err-check_position.ensures)

pub returns : goal.returns
returns g c = after _ _ c.read.result c.in_ok-check_position.ensures.0 (rw c.item-here.ensures at c.read.ensures)
