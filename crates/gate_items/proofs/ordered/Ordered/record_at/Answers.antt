use Rattle.std.proofs.Common.{◌≡◌, ◌∙◌, ◌+◌, ◌<◌, ap, arith, drop, get_or, length, refl, set, subst, sym}
use Rattle.gate_record.specs.declared.ids.ManagerKind.TheVariants.{Dependent}
use Rattle.gate_items.specs.Inner.Ring.{RingState}
use Rattle.gate_items.specs.Machine.{State, with_outcome}
use Rattle.gate_items.specs.Inner.Steps.{changed, recorded_at}
use Rattle.gate_items.specs.declared.action.Outcome.TheVariants.{Applied}
use Rattle.gate_items.specs.declared.item.QueueItem.{QueueItem}
use Rattle.gate_items.proofs.Parts.{rest_written}
use Rattle.gate_items.proofs.Plans.{item_at, not_renewed}
use Rattle.gate_items.proofs.ordered.Ordered.record_at.Goals as goal

pub returns-then-not-renews : goal.returns-then-not-renews
returns-then-not-renews c d =
    let s0 : State = record { manager = Dependent; next = c.self.inside.ring.next; items = c.self.inside.ring.items; reported = c.self.inside.reported.items } in
    let w : QueueItem = with_outcome c.args.ended.now.job c.args.ended.now.success (get_or c.self.inside.ring.items c.args.place d) in
    subst (λ (s : State). (record { manager = Dependent; next = c.record.new.self.next; items = c.record.new.self.items; reported = c.self.inside.reported.items }, Applied) ≡ changed s (recorded_at s c.args.place c.args.ended.now (get_or s.items c.args.place d) c.args.renews)) c.self.view_is
    (subst (λ (l : RingState). (record { manager = Dependent; next = l.next; items = l.items; reported = c.self.inside.reported.items }, Applied) ≡ changed s0 (recorded_at s0 c.args.place c.args.ended.now (get_or s0.items c.args.place d) c.args.renews)) (sym (c.record.ensures.new d))
    (not_renewed s0 c.args.place c.args.ended.now (get_or c.self.inside.ring.items c.args.place d) c.args.renews (set c.self.inside.ring.items c.args.place w) c.if-not-renews.true (omega (arith, c.record.ensures.fits, ap (λ (l : RingState). l.next) (c.record.ensures.new d))) (omega (arith, ap (λ (s : State). length s.items) c.self.view_is, c.requires)) refl))

pub renew_from-requires-clause-numbers : goal.renew_from-requires-clause-numbers
renew_from-requires-clause-numbers c =
    let inside : c.args.place < length c.self.inside.ring.items = omega (arith, ap (λ (s : State). length s.items) c.self.view_is, c.requires) in
    let d : QueueItem = (item_at c.self.inside.ring.items c.args.place inside).item in
    let next : c.record-2.new.self.next ≡ c.self.inside.ring.next = ap (λ (l : RingState). l.next) (c.record-2.ensures.new d) in
    let rest : length (drop (c.args.place + 1) c.record-2.new.self.items) ≡ length (drop (c.args.place + 1) c.self.inside.ring.items) =
    ap (λ (l : RingState). length (drop (c.args.place + 1) l.items)) (c.record-2.ensures.new d)
    ∙ ap length (rest_written c.self.inside.ring.items c.args.place (with_outcome c.args.ended.now.job c.args.ended.now.success (get_or c.self.inside.ring.items c.args.place d))) in
    omega (arith, next, rest, c.in-Some.ensures.some)
