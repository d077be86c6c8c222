use Rattle.std.proofs.Common.{◌≡◌, ◌∙◌, ◌-◌, ◌++◌, List, ap, drop, length, string_bytes, subst, take}
use Rattle.std.specs.List.{range_with_len}
use Rattle.gate_items.specs.Machine.{apply}
use Rattle.gate_items.specs.Sets.{reported}
use Rattle.gate_items.specs.declared.action.Action.{Action}
use Rattle.gate_items.specs.declared.action.Outcome.TheVariants.{Applied}
use Rattle.gate_record.specs.declared.ids.ManagerKind.{ManagerKind}
use Rattle.gate_journal.specs.Follows.{AreLive, Knows, items_after}
use Rattle.gate_journal.specs.Inner.Lines.{cancel_lines}
use Rattle.gate_journal.specs.declared.live.Live.{Live}
use Rattle.gate_journal.specs.declared.live.Live.TheVariants.{Queue}
use Rattle.gate_journal.proofs.Following.{QueueFollows, queue_follows}
use Rattle.gate_journal.proofs.Pushed.{on_ok}
use Rattle.gate_journal.proofs.pipeline_journal.PipelineJournal.push_cancelled.Goals as goal

-- the queue before the action, and what leaves it
module _ (c : goal.After-push_lost) (manager : ManagerKind) (actions : List Action) (knows : Knows c.args.self.now manager (items_after manager actions)) where
  is_live : AreLive (Queue c.in-Queue.sets) manager (items_after manager actions)
  is_live = subst (λ (l : Live). AreLive l manager (items_after manager actions)) c.in-Queue.is knows.live

  follows : (c.args.processed.now.items.now, Applied) ≡ apply (items_after manager actions) c.args.processed.now.action.now → c.args.reports.now ≡ drop c.args.self.now.reports c.args.processed.now.items.now.reported
      → QueueFollows c.in-Queue.sets.items (length c.args.reports.now) (length c.args.processed.now.items.now.items - (c.args.processed.now.items.now.next - c.args.self.now.next)) c.args.self.now.next (items_after manager actions) c.args.processed.now.items.now
  follows e r =
      let items = c.args.processed.now.items.now in
      let told = length c.args.reports.now in
      let count : told ≡ length (reported (items_after manager actions) items) = ap length (r ∙ ap (λ n. drop n items.reported) knows.reports) in
      queue_follows c.each_action_goes_through_its_queue.ensures manager is_live.0 actions c.args.processed.now.action.now items e c.in-Queue.sets.items is_live.1 c.args.self.now.next told knows.next count

pub returns-in_ok-put_new-in-Queue-clause-lines : goal.returns-in_ok-put_new-in-Queue-clause-lines
returns-in_ok-put_new-in-Queue-clause-lines c manager actions knows e r =
    let sets = c.in-Queue.sets.items in
    let told = length c.args.reports.now in
    on_ok c.push_lost.result
    (λ p. p ∙ ap (λ xs. string_bytes c.args.out.now ++ cancel_lines c.args.place.now.config.now c.args.place.now.tenant.0 c.args.place.now.pipeline.0 c.args.processed.now.action.now xs) (c.in_ok-lost-in-Queue.ensures.lost ∙ ap (λ n. drop n (drop told sets)) c.staying-staying.ensures ∙ (follows c manager actions knows e r).lost))
    c.push_lost.ensures

pub returns-in_ok-put_new-in-Queue-clause-live : goal.returns-in_ok-put_new-in-Queue-clause-live
returns-in_ok-put_new-in-Queue-clause-live c manager actions knows e r =
    let items = c.args.processed.now.items.now in
    let next = c.args.self.now.next in
    let told = length c.args.reports.now in
    on_ok c.push_lost.result
    (λ p. (
      (is_live c manager actions knows).0,
      c.in_ok-put_new-in-Queue.ensures
          ∙ ap (λ n. c.take_lost.new.sets.items ++ range_with_len next (n - next)) c.next_set-next.ensures
          ∙ ap (λ xs. xs ++ range_with_len next (items.next - next)) (c.in_ok-lost-in-Queue.ensures.stay ∙ ap (λ n. take n (drop told c.in-Queue.sets.items)) c.staying-staying.ensures)
          ∙ (follows c manager actions knows e r).left,
    ))
    c.push_lost.ensures
