use Rattle.gate_config.proofs.Votes.{votes_none, votes_fault, votes_more, votes_all}
use Rattle.gate_config.proofs.Faults.{exit}
use Rattle.gate_config.proofs.approvals.push_votes.Goals as goal

pub loop-key-init : goal.loop-key-init
loop-key-init c = votes_none

pub returns-in_err-push_vote : goal.returns-in_err-push_vote
returns-in_err-push_vote c =
    exit _ c.from_residual.result c.from_residual.ensures.1
    (votes_fault c.key-item.result c.loop-key-test.true c.key-item.is c.loop-key.invariant (rw c.as_str.ensures.value at c.in_err-push_vote.ensures))

pub loop-key-preserved : goal.loop-key-preserved
loop-key-preserved c =
    rw (rw c.as_str.ensures.value at c.in_ok-push_vote.ensures.1)
    (votes_more c.key-item.result c.loop-key-test.true c.key-item.is c.loop-key.invariant (rw c.as_str.ensures.value at c.in_ok-push_vote.ensures.0))

pub returns : goal.returns
returns c = votes_all c.loop-key-test.false c.loop-key.invariant
