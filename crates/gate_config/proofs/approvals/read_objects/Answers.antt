use Rattle.gate_config.proofs.Votes.{objects_none, objects_fault, objects_more, objects_all}
use Rattle.gate_config.proofs.Faults.{exit}
use Rattle.gate_config.proofs.approvals.read_objects.Goals as goal

pub loop-position-init : goal.loop-position-init
loop-position-init c = rw c.empty-votes.ensures objects_none

pub returns-in_err-push_item : goal.returns-in_err-push_item
returns-in_err-push_item c =
    exit _ c.from_residual.result c.from_residual.ensures.1
    (objects_fault c.index-items-position.result c.loop-position-test.true c.index-items-position.is c.loop-position.invariant c.in_err-push_item.ensures)

pub loop-position-preserved : goal.loop-position-preserved
loop-position-preserved c =
    rw c.in_ok-push_item.ensures.1
    (objects_more c.index-items-position.result c.loop-position-test.true c.index-items-position.is c.loop-position.invariant c.in_ok-push_item.ensures.0)

pub returns : goal.returns
returns c = objects_all c.loop-position-test.false c.loop-position.invariant
