use Rattle.std.proofs.Common.{◌≡◌, ◌∙◌, ◌+◌, ◌++◌, List, [], ◌∷◌, None, Some, cond, ℕ, ap, subst, sym}
use Rattle.std.specs.BTreeMap.{get, is_at}
use Rattle.std.specs.List.{position}
use Rattle.std.specs.Map.{lookup}
use Rattle.gate_items.specs.KeyOrder.{key_cmp}
use Rattle.gate_items.specs.Inner.Ring.{IsRing, RingState}
use Rattle.gate_items.specs.Machine.{is_of}
use Rattle.gate_items.specs.declared.key.Key.{Key}
use Rattle.gate_items.specs.declared.ring.Numbered.{Numbered}
use Rattle.gate_items.proofs.RingSteps.{added_ring, unknown}
use Rattle.gate_items.proofs.ring.Ring.put_last.Goals as goal

pub invariant_of-self-in_err-insert : goal.invariant_of-self-in_err-insert
invariant_of-self-in_err-insert c =
    subst (λ (es : List Numbered). IsRing c.self.inside.next es (get key_cmp c.insert.new.self)) (sym c.in_ok-reserve.ensures.items)
    (subst (λ (es : List (Key × ℕ)). IsRing c.self.inside.next c.self.inside.items.items (λ q. lookup (is_at (key_cmp q)) es)) (sym c.in_err-insert.ensures.err) c.self.invariant)

pub invariant_of-self-2 : goal.invariant_of-self-2
invariant_of-self-2 c =
    let set_is : c.args.item.set ≡ c.self.inside.next = c.requires.set ∙ sym (ap (λ (s : RingState). s.next) c.self.view_is) in
    let absent : None ≡ position (is_of c.args.item.key) c.args.self.now.items = c.requires.absent ∙ ap (λ k. position (is_of k) c.args.self.now.items) c.requires.key in
    let free : get key_cmp c.self.inside.by_key c.args.item.key ≡ None =
    unknown c.self.inside.next c.self.inside.items.items (get key_cmp c.self.inside.by_key) c.self.invariant c.args.item.key
    (absent ∙ sym (ap (λ (s : RingState). position (is_of c.args.item.key) s.items) c.self.view_is)) in
    let keys : (q : Key) → get key_cmp c.insert.new.self q ≡ cond (is_at (key_cmp c.args.item.key) q) (Some c.self.inside.next) (get key_cmp c.self.inside.by_key q) =
    λ q. c.in_ok-insert.ensures.updates.0 q ∙ ap (λ k. cond (is_at (key_cmp k) q) (Some c.self.inside.next) (get key_cmp c.self.inside.by_key q)) c.requires.key in
    subst (λ (es : List Numbered). IsRing (c.self.inside.next + 1) es (get key_cmp c.insert.new.self)) (sym (c.push_back_reserved.ensures.items ∙ ap (λ es. es ++ record { number = c.self.inside.next; item = c.args.item } ∷ []) c.in_ok-reserve.ensures.items))
    (added_ring c.self.inside.next c.self.inside.items.items (get key_cmp c.self.inside.by_key) c.self.invariant c.args.item (get key_cmp c.insert.new.self) set_is free keys)
