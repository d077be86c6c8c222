use Rattle.std.proofs.Common.{ap, sym}
use Rattle.gate_queue.proofs.Told.{put_keeps, full_told}
use Rattle.gate_queue.proofs.queue.EventQueue.put.Goals as goal
use Rattle.gate_queue.proofs.queue.EventQueue.put.Goals.{in-Ok, in-Err}

pub push_as-requires-clause-rule : goal.push_as-requires-clause-rule
push_as-requires-clause-rule g c = put_keeps _ _ _ _ c.tail.invariant.knows.known (sym c.tail.invariant.knows.number)

pub returns-clause-refused : goal.returns-clause-refused
returns-clause-refused g c =
    elim c.match-push_as.branch [
      | in-Ok w ↦ rw w.result-is tt
      | in-Err w ↦ rw w.result-is (full_told _ _ _ _ _ _ (ap (λ q. q.capacity) c.self.view_is) c.tail.invariant.knows c.tail.view_is c.requires w.in-Err.ensures.rule.2).0
    ]

pub returns-clause-only_sender : goal.returns-clause-only_sender
returns-clause-only_sender g c one =
    elim c.match-push_as.branch [
      | in-Ok w ↦ rw w.result-is tt
      | in-Err w ↦ rw w.result-is ((full_told _ _ _ _ _ _ (ap (λ q. q.capacity) c.self.view_is) c.tail.invariant.knows c.tail.view_is c.requires w.in-Err.ensures.rule.2).1 one)
    ]
