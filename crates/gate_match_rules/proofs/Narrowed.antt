-- Rows that are left, one test after another.
use Rattle.std.proofs.Common.{◌≡◌, ◌∙◌, refl, sym, ap, ◌&&◌, Bool, true, false, not, List, map, Result, Ok, Err}
use Rattle.std.specs.Result.{OnOk}
use Rattle.gate_match_rules.specs.Marks.{both, marks_any}
use Rattle.gate_match_rules.proofs.Rows.{narrowed_more, none_left, not_true}

module _ {X : Type 0} (out : List Bool) (xs : List X) (f g : X → Bool) where
  -- none is left, so a further test leaves none
  pub stop : (now : List Bool) → now ≡ both out (map f xs) → not (marks_any now) ≡ true → now ≡ both out (map (λ x. f x && g x) xs)
  stop now is none = is ∙ none_left f g out xs (sym (ap marks_any is) ∙ not_true (marks_any now) none)

  -- a further test
  pub go : (now next : List Bool) → now ≡ both out (map f xs) → next ≡ both now (map g xs) → next ≡ both out (map (λ x. f x && g x) xs)
  go now next is more = more ∙ ap (λ rows. both rows (map g xs)) is ∙ narrowed_more f g out xs

pub regroup : (x d e f g h : Bool) → (x && (d && e && f && g && h)) ≡ (x && d && e && f && g && h)
regroup true d e f g h = refl
regroup false d e f g h = refl

pub on_ok : {T E : Type 0} (r : Result T E) (P Q : Type 0) → (P → Q) → OnOk r P → OnOk r Q
on_ok (Ok x) P Q f h = f h
on_ok (Err e) P Q f h = tt
