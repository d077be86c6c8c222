use Rattle.gate_config.proofs.Faults.{exit, fault_front}
use Rattle.gate_config.proofs.stanzas.check_entry.Goals as goal

pub returns-in_err-check_object : goal.returns-in_err-check_object
returns-in_err-check_object c =
    exit _ c.from_residual.result c.from_residual.ensures.1
    (fault_front _ (rw (c.member-here.ensures, c.item-item.ensures) at c.in_err-check_object.ensures))
