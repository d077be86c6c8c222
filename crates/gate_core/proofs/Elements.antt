-- Lists that are changed at one place, and facts of each element at its place.
use Rattle.std.proofs.Common.{◌≡◌, ◌∙◌, sym, ap, refl, subst, ℕ, zero, suc, ◌<◌, List, [], ◌∷◌, ◌++◌, length, map, Some, None, option_map, slice_set}
use Rattle.std.specs.Prelude.{slice_get, slice_index_or}
use Rattle.std.proofs.lemmas.List.{map-set, set-get_or}
use Rattle.std.proofs.lemmas.Option.{get_or_from_slice_get, slice_get-map, slice_get_read}
use Rattle.gate_core.specs.Views.{EachAt}
use Rattle.gate_core.proofs.Spots.{AfterSet, after_set, another, it}

-- what was looked up, written back, changes nothing
pub written_back : {X : Type 0} (xs : List X) (i : ℕ) (x : X) → slice_get xs i ≡ Some x → slice_set xs i x ≡ xs
written_back xs i x e = ap (λ y. slice_set xs i y) (sym (get_or_from_slice_get xs i x x e)) ∙ set-get_or xs i x

-- what a list lends at a place stands there
pub lent : {X : Type 0} (xs : List X) (i : ℕ) (x : X) → i < length xs → x ≡ slice_index_or xs i x → slice_get xs i ≡ Some x
lent xs i x within e = slice_get_read xs (length xs) i x refl within e

-- ---- lists that are seen through a view of their elements

pub seen : {X S : Type 0} (view : X → S) (xs : List X) (i : ℕ) (x : X) → slice_get xs i ≡ Some x → slice_get (map view xs) i ≡ Some (view x)
seen view xs i x e = slice_get-map view xs i ∙ ap (option_map view) e

pub unseen : {X S : Type 0} (view : X → S) (xs : List X) (i : ℕ) → slice_get xs i ≡ None → slice_get (map view xs) i ≡ None
unseen view xs i e = slice_get-map view xs i ∙ ap (option_map view) e

-- an element that looks as the one before
pub seen_same : {X S : Type 0} (view : X → S) (xs : List X) (i : ℕ) (x y : X) → slice_get xs i ≡ Some x → view y ≡ view x → map view (slice_set xs i y) ≡ map view xs
seen_same view xs i x y e same = map-set view xs i y ∙ ap (slice_set (map view xs) i) same ∙ written_back (map view xs) i (view x) (seen view xs i x e)

-- ---- facts of each element

-- where a value stands in a list with one more element
data Pushed {X : Type 0} (xs : List X) (y : X) (i : ℕ) (z : X) : Type 0 where
  before : slice_get xs i ≡ Some z → Pushed xs y i z
  behind : i ≡ length xs → y ≡ z → Pushed xs y i z

one_further : {X : Type 0} (x : X) (xs : List X) (y : X) (i : ℕ) (z : X) → Pushed xs y i z → Pushed (x ∷ xs) y (suc i) z
one_further x xs y i z (before e) = before e
one_further x xs y i z (behind e one) = behind (ap suc e) one

pushed : {X : Type 0} (xs : List X) (y : X) (i : ℕ) (z : X) → slice_get (xs ++ y ∷ []) i ≡ Some z → Pushed xs y i z
pushed [] y zero z e = behind refl (cc)
pushed [] y (suc i) z e = absurd (cc)
pushed (x ∷ xs) y zero z e = before e
pushed (x ∷ xs) y (suc i) z e = one_further x xs y i z (pushed xs y i z e)

module _ {X : Type 0} (has : ℕ → X → Type 0) where
  pub each_none : EachAt has []
  each_none i x e = absurd (cc)

  set_at : (xs : List X) (i j : ℕ) (y z : X) → EachAt has xs → has i y → AfterSet xs i y j → slice_get (slice_set xs i y) j ≡ Some z → has j z
  set_at xs i j y z all here (it same found) e =
      let found_too : Some y ≡ Some z = sym found ∙ e in
      let one : y ≡ z = cc in
      subst (λ k. has k z) same (subst (λ w. has i w) one here)
  set_at xs i j y z all here (another differ found) e = all j z (sym found ∙ e)

  pub each_set : (xs : List X) (i : ℕ) (x y : X) → slice_get xs i ≡ Some x → EachAt has xs → has i y → EachAt has (slice_set xs i y)
  each_set xs i x y at all here j z e = set_at xs i j y z all here (after_set xs i j x y at) e

  push_at : (xs : List X) (y z : X) (i : ℕ) → EachAt has xs → has (length xs) y → Pushed xs y i z → has i z
  push_at xs y z i all last (before e) = all i z e
  push_at xs y z i all last (behind e one) = subst (λ k. has k z) (sym e) (subst (λ w. has (length xs) w) one last)

  pub each_push : (xs : List X) (y : X) → EachAt has xs → has (length xs) y → EachAt has (xs ++ y ∷ [])
  each_push xs y all last i z e = push_at xs y z i all last (pushed xs y i z e)
