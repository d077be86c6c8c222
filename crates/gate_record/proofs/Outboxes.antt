-- An outbox of which the first item is moved out, and what becomes of that item.
use Rattle.std.proofs.Common.{◌≡◌, ◌∙◌, refl, sym, ap, List, [], ◌∷◌, Option, Some, None}
use Rattle.gate_record.specs.Outboxes.{Unsent, moved_out, put_back}

module _ {R T : Type 0} where
  -- what is known once the first item is out
  pub record IsOut (old new : Unsent R T) (first : R × T) : Type 0 where
    pub items : old.items ≡ first ∷ new.items
    pub out : new.out ≡ Some first.0

  out_by : (items : List (R × T)) (old new : Unsent R T) (first : R × T) → old.items ≡ items → (new, Some first) ≡ moved_out items old → IsOut old new first
  out_by [] old new first e moves =
      let nothing : Some first ≡ None = ap (λ (m : Unsent R T × Option (R × T)). m.1) moves in
      absurd (cc)
  out_by (x ∷ xs) old new first e moves =
      let same : new ≡ record { items = xs; out = Some x.0 } = ap (λ (m : Unsent R T × Option (R × T)). m.0) moves in
      let it : Some first ≡ Some x = ap (λ (m : Unsent R T × Option (R × T)). m.1) moves in
      let one : first ≡ x = cc in
      record {
        items = e ∙ ap (λ y. y ∷ xs) (sym one) ∙ ap (λ ys. first ∷ ys) (sym (ap (λ (u : Unsent R T). u.items) same));
        out = ap (λ (u : Unsent R T). u.out) same ∙ ap (λ (y : R × T). Some y.0) (sym one);
      }

  pub is_out : (old new : Unsent R T) (first : R × T) → (new, Some first) ≡ moved_out old.items old → IsOut old new first
  is_out old new first moves = out_by old.items old new first refl moves

  -- the item that came back is the first again
  pub came_back : (old new : Unsent R T) (first : R × T) → old.out ≡ None → IsOut old new first → put_back first.1 new.out new ≡ old
  came_back old new first none out = ap (λ o. put_back first.1 o new) out.out ∙ (λ i. record { items = sym out.items i; out = sym none i })

  -- what is known where there was no item
  pub record WasEmpty (old new : Unsent R T) : Type 0 where
    pub items : old.items ≡ []
    pub same : new ≡ old

  empty_by : (items : List (R × T)) (old new : Unsent R T) → old.items ≡ items → (new, None) ≡ moved_out items old → WasEmpty old new
  empty_by [] old new e moves = record { items = e; same = ap (λ (m : Unsent R T × Option (R × T)). m.0) moves }
  empty_by (x ∷ xs) old new e moves =
      let something : None ≡ Some x = ap (λ (m : Unsent R T × Option (R × T)). m.1) moves in
      absurd (cc)

  pub was_empty : (old new : Unsent R T) → (new, None) ≡ moved_out old.items old → WasEmpty old new
  was_empty old new moves = empty_by old.items old new refl moves
