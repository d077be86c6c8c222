use Rattle.std.proofs.Common.{◌≡◌, ◌<◌, ◌≤◌, List, [], ◌∙◌}
use Rattle.crossbeam_queue.specs.SegBatches.{Holds}
use Rattle.gate_queue.specs.declared.tagged.Tagged.{Tagged}
use Rattle.gate_queue.specs.Inner.Sharing.{CanWait, HasTakenAll}
use Rattle.gate_queue.specs.FreeViews.{known_by}
use Rattle.gate_queue.proofs.FreeKeeps.{free_take_many_keeps}
use Rattle.gate_queue.proofs.FreeHeads.{some_of, taken_from}
use Rattle.gate_queue.proofs.free.batch.fill.Goals as goal

pub try_pop_batch-requires-clause-rule : goal.try_pop_batch-requires-clause-rule
try_pop_batch-requires-clause-rule g c = free_take_many_keeps _ _ _ _ (c.head-first.ensures.1.0.2 ∙ c.attempts.invariant.1 ∙ c.requires.right.1)

pub returns-in-attempts-clause-from : goal.returns-in-attempts-clause-from
returns-in-attempts-clause-from g c =
    let before = c.head-first.new.pass in
    let after = c.try_pop_batch.new.pass in
    let known = c.head-first.ensures.1.0.2 ∙ c.attempts.invariant.1 ∙ c.requires.right.1 in
    let done =
    some_of ((known_by after ≡ known_by before) × CanWait (known_by before) [])
    (λ b. (0 < b.len) × (b.len ≤ c.args.limit)
    × ((xs : List (Tagged g.row.T.Denot)) × Holds c.args.blocks.now after b xs × HasTakenAll (known_by before) xs (known_by after)))
    _ _ c.in-Some-taken.is c.in-Ok.ensures.done in
    let xs = done.2 in
    taken_from (known_by before) (known_by after) _ xs.0 _ known xs.2 (c.read_out.ensures.ready xs.0 xs.1)
