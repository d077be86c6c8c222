use Rattle.std.proofs.Common.{◌≡◌, ◌∙◌, ◌+◌, Some, ap, get_or, drop, sym}
use Rattle.std.specs.List.{position}
use Rattle.gate_items.specs.Inner.Ring.{RingState}
use Rattle.gate_items.specs.Machine.{State, is_of, renewed}
use Rattle.gate_items.specs.declared.item.QueueItem.{QueueItem}
use Rattle.gate_items.proofs.Parts.{read_front}
use Rattle.gate_items.proofs.Standing.{passes_at, stands_at}
use Rattle.gate_items.proofs.ordered.Ordered.replace_at.Goals as goal

pub replace-requires-clause-key : goal.replace-requires-clause-key
replace-requires-clause-key c d =
    let at : Some c.args.place ≡ position (is_of c.args.key.now) c.self.inside.ring.items = c.requires ∙ sym (ap (λ (s : State). position (is_of c.args.key.now) s.items) c.self.view_is) in
    ap (λ (i : QueueItem). is_of i.key (get_or c.renew_from.new.self.items c.args.place d)) c.in_ok-item.ensures
    ∙ ap (λ (l : RingState). is_of c.args.key.now (get_or l.items c.args.place d)) c.renew_from.ensures.new
    ∙ ap (is_of c.args.key.now) (read_front c.self.inside.ring.items (renewed c.self.inside.ring.next (drop (c.args.place + 1) c.self.inside.ring.items)) c.args.place d (stands_at (is_of c.args.key.now) c.self.inside.ring.items c.args.place at).inside)
    ∙ passes_at (is_of c.args.key.now) c.self.inside.ring.items c.args.place d at
