use Rattle.std.proofs.Common.{rules, []}
use Rattle.gate_run_threads.proofs.Paired.{made_more}
use Rattle.gate_run_threads.proofs.lists.empty_lists.Goals as goal

pub loop-list-preserved : goal.loop-list-preserved
loop-list-preserved g c = made_more (λ list. list.items) (λ k. []) c.loop-list.lists.items c.push.new.self.items c.new.result c.loop-list._list c.loop-list.invariant (search rules) c.in_ok-push.ensures.items
