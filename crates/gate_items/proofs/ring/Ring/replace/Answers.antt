use Rattle.std.proofs.Common.{◌≡◌, ◌∙◌, ◌+◌, ◌<◌, ◌++◌, ◌∷◌, [], List, ap, arith, drop, get_or, length, subst, suc, sym, take, true}
use Rattle.std.specs.BTreeMap.{get}
use Rattle.std.proofs.lemmas.List.{length-map, map-append}
use Rattle.gate_items.specs.KeyOrder.{key_cmp}
use Rattle.gate_items.specs.Keys.{is_same}
use Rattle.gate_items.specs.Ring.{item_of, items_of}
use Rattle.gate_items.specs.Inner.Ring.{IsRing, RingState, after_ring}
use Rattle.gate_items.specs.declared.item.QueueItem.{QueueItem}
use Rattle.gate_items.specs.declared.ring.Numbered.{Numbered}
use Rattle.gate_items.proofs.RingSteps.{Spot, as_found, known, removed_items, replaced_ring, spot}
use Rattle.gate_items.proofs.ring.Ring.replace.Goals as goal

pub move_key-requires : goal.move_key-requires
move_key-requires c =
    let s : Spot c.self.inside.items.items c.args.place = spot c.self.inside.items.items c.args.place (omega (arith, length-map c.self.inside.items.items item_of, ap (λ (t : RingState). length t.items) c.self.view_is, c.requires.inside)) in
    let read : get_or c.args.self.now.items c.args.place s.entry.item ≡ s.entry.item = ap (λ (t : RingState). get_or t.items c.args.place s.entry.item) (sym c.self.view_is) ∙ s.item s.entry.item in
    known c.self.inside.next c.self.inside.items.items (get key_cmp c.self.inside.by_key) c.self.invariant c.args.place s.entry s.is c.args.item.key
    (subst (λ (i : QueueItem). is_same i.key c.args.item.key ≡ true) read (c.requires.key s.entry.item))

pub invariant_of-self : goal.invariant_of-self
invariant_of-self c =
    let inside : c.args.place < length c.self.inside.items.items = omega (arith, length-map c.self.inside.items.items item_of, ap (λ (t : RingState). length t.items) c.self.view_is, c.requires.inside) in
    let s : Spot c.self.inside.items.items c.args.place = spot c.self.inside.items.items c.args.place inside in
    let read : get_or c.args.self.now.items c.args.place s.entry.item ≡ s.entry.item = ap (λ (t : RingState). get_or t.items c.args.place s.entry.item) (sym c.self.view_is) ∙ s.item s.entry.item in
    let set_is : c.args.item.set ≡ c.self.inside.next = c.requires.set ∙ sym (ap (λ (t : RingState). t.next) c.self.view_is) in
    let rest : c.remove-older.new.self.items ≡ take c.args.place c.self.inside.items.items ++ drop (suc c.args.place) c.self.inside.items.items =
    as_found c.remove-older.result _ (c.remove-older.new.self.items ≡ take c.args.place c.self.inside.items.items ++ drop (suc c.args.place) c.self.inside.items.items) (c.remove-older.ensures.succeeds s.entry (omega (arith, inside))) c.remove-older.ensures.items in
    subst (λ (es : List Numbered). IsRing (c.self.inside.next + 1) es (get key_cmp c.move_key.new.by_key)) (sym (c.push_back_reserved.ensures.items ∙ ap (λ es. es ++ record { number = c.self.inside.next; item = c.args.item } ∷ []) rest))
    (replaced_ring c.self.inside.next c.self.inside.items.items (get key_cmp c.self.inside.by_key) c.self.invariant c.args.place s.entry s.is c.args.item (get key_cmp c.move_key.new.by_key) set_is
    (subst (λ (i : QueueItem). is_same i.key c.args.item.key ≡ true) read (c.requires.key s.entry.item)) c.move_key.ensures)

pub returns-clause-new : goal.returns-clause-new
returns-clause-new c =
    let inside : c.args.place < length c.self.inside.items.items = omega (arith, length-map c.self.inside.items.items item_of, ap (λ (t : RingState). length t.items) c.self.view_is, c.requires.inside) in
    let s : Spot c.self.inside.items.items c.args.place = spot c.self.inside.items.items c.args.place inside in
    let rest : c.remove-older.new.self.items ≡ take c.args.place c.self.inside.items.items ++ drop (suc c.args.place) c.self.inside.items.items =
    as_found c.remove-older.result _ (c.remove-older.new.self.items ≡ take c.args.place c.self.inside.items.items ++ drop (suc c.args.place) c.self.inside.items.items) (c.remove-older.ensures.succeeds s.entry (omega (arith, inside))) c.remove-older.ensures.items in
    subst (λ (t : RingState). after_ring (c.self.inside.next + 1) (items_of c.push_back_reserved.new.self.items) ≡ after_ring (t.next + 1) ((take c.args.place t.items ++ drop (c.args.place + 1) t.items) ++ c.args.item ∷ [])) c.self.view_is
    (ap (after_ring (c.self.inside.next + 1)) (
    ap items_of (c.push_back_reserved.ensures.items ∙ ap (λ es. es ++ record { number = c.self.inside.next; item = c.args.item } ∷ []) rest)
    ∙ map-append item_of (take c.args.place c.self.inside.items.items ++ drop (suc c.args.place) c.self.inside.items.items) (record { number = c.self.inside.next; item = c.args.item } ∷ [])
    ∙ ap (λ l. l ++ c.args.item ∷ []) (removed_items c.self.inside.items.items c.args.place)
    ))
