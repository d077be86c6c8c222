-- What the columns give back of the events: fields.
use Rattle.std.proofs.Common.{◌≡◌, ◌∙◌, ℕ, ℤ, ◌+◌, ◌==◌, ◌&&◌, ◌||◌, List, [], ◌∷◌, ◌++◌, Bool, true, false, cond, Option, Some, None, map, slice_get, refl, sym, ap, subst, true≢false, arith, add-one, is_none, suc, if◌then◌else◌}
use Rattle.std.specs.Prelude.{not, flat_map}
use Rattle.std.specs.Bool.{Decides, one_answer}
use Rattle.std.specs.Cmp.{IsEquivalence}
use Rattle.std.specs.List.{list_any, position_or_len, filter_map, IsDistinct}
use Rattle.std.specs.Ordering.{int_eq}
use Rattle.std.specs.Str.{bytes_eq}
use Rattle.std.proofs.lemmas.Bool.Decides.{Decides-int_eq, nat_tests}
use Rattle.std.proofs.lemmas.Map.Keys.{IsDistinct-push}
use Rattle.std.proofs.lemmas.Slice.Eq.{bytes_eq-Decides}
use Rattle.indexmap.specs.IndexSet.{insert_key, insert_all}
use Rattle.gate_record.specs.declared.event.Event.{Event}
use Rattle.gate_record.specs.EachOnce.{each_once}
use Rattle.gate_intern.specs.Columns.{field_of, is_same_vote, number_among, texts_of}
use Rattle.gate_intern.specs.GivenBack.{FieldsComeBack, TextsAreDistinct, ApprovalsAreDistinct, ZeroIsMissing, named}
use Rattle.gate_intern.proofs.Numbered.{AreIn, IsIn, all_in}

-- ---- tests that decide what is equal

pub alike_by : {A : Type 0} (same : A → A → Bool) → ((x y : A) → Decides (same x y) (x ≡ y)) → (x : A) → same x x ≡ true
alike_by same decides x = (decides x x).1 refl

equivalence : {A : Type 0} (same : A → A → Bool) → ((x y : A) → Decides (same x y) (x ≡ y)) → IsEquivalence same
equivalence same decides = record {
  refl = λ x. (decides x x).1 refl;
  symm = λ x y. one_answer (same x y) (same y x) (decides x y) ((λ h. sym ((decides y x).0 h)), (λ e. (decides y x).1 (sym e)));
  congr = λ x y z h. ap (λ t. same t z) ((decides x y).0 h);
}

both_true : (p q : Bool) → (p && q) ≡ true → (p ≡ true) × (q ≡ true)
both_true true q h = (refl, h)
both_true false q h = absurd (true≢false (sym h))

pub same_vote : (x y : List ℕ × ℤ) → Decides (is_same_vote x y) (x ≡ y)
same_vote x y = (
  (λ h.
      let parts = both_true (bytes_eq x.0 y.0) (int_eq x.1 y.1) h in
      let category : x.0 ≡ y.0 = (bytes_eq-Decides x.0 y.0).0 parts.0 in
      let vote : x.1 ≡ y.1 = (Decides-int_eq x.1 y.1).0 parts.1 in
      (λ i. (category i, vote i))),
  (λ e.
      subst (λ z. is_same_vote x z ≡ true) e
      (ap (λ b. b && int_eq x.1 x.1) ((bytes_eq-Decides x.0 x.0).1 refl) ∙ (Decides-int_eq x.1 x.1).1 refl)),
)

-- ---- what a number stands for

pub found_at : {A : Type 0} (same : A → A → Bool) → ((x y : A) → Decides (same x y) (x ≡ y)) → (keys : List A) (key : A) → list_any (same key) keys ≡ true → slice_get keys (position_or_len (same key) keys) ≡ Some key
found_at same decides [] key found = absurd (true≢false (sym found))
found_at {A} same decides (x ∷ keys) key found = by (same key x) refl found (found_at same decides keys key)
  where
    by : (b : Bool) → same key x ≡ b → (b || list_any (same key) keys) ≡ true → (list_any (same key) keys ≡ true → slice_get keys (position_or_len (same key) keys) ≡ Some key) → slice_get (x ∷ keys) (cond (not b) (1 + position_or_len (same key) keys) 0) ≡ Some key
    by true e h rest = ap (λ (z : A). Some z) (sym ((decides key x).0 e))
    by false e h rest =
        let next : 1 + position_or_len (same key) keys ≡ suc (position_or_len (same key) keys) = omega arith in
        ap (slice_get (x ∷ keys)) next ∙ rest h

pub named_number : {A : Type 0} (same : A → A → Bool) → ((x y : A) → Decides (same x y) (x ≡ y)) → (keys : List A) (o : Option A) → IsIn same keys o → named keys (number_among same keys o) ≡ o
named_number same decides keys None is = refl
named_number same decides keys (Some key) is = ap (named keys) (add-one (position_or_len (same key) keys)) ∙ found_at same decides keys key is

names_back : {A X : Type 0} (same : A → A → Bool) → ((x y : A) → Decides (same x y) (x ≡ y)) → (h : X → Option A) (keys : List A) (xs : List X) → AreIn same h keys xs → map (named keys) (map (λ x. number_among same keys (h x)) xs) ≡ map h xs
names_back same decides h keys [] are = refl
names_back same decides h keys (x ∷ xs) are =
    ap (λ o. o ∷ map (named keys) (map (λ y. number_among same keys (h y)) xs)) (named_number same decides keys (h x) are.0)
    ∙ ap (λ rest. h x ∷ rest) (names_back same decides h keys xs are.1)

pub fields_come_back : FieldsComeBack
fields_come_back field events =
    names_back bytes_eq bytes_eq-Decides (field_of field) (texts_of field events) events
    (all_in bytes_eq (alike_by bytes_eq bytes_eq-Decides) (field_of field) [] events)

-- ---- 0

no_zero : (n : ℕ) → (n + 1 == 0) ≡ false
no_zero n = grind (arith, nat_tests)

is_zero : {A : Type 0} (same : A → A → Bool) (keys : List A) (o : Option A) → (number_among same keys o == 0) ≡ is_none o
is_zero same keys None = refl
is_zero same keys (Some key) = no_zero (position_or_len (same key) keys)

zeros : {A X : Type 0} (same : A → A → Bool) (h : X → Option A) (keys : List A) (xs : List X) → map (λ n. n == 0) (map (λ x. number_among same keys (h x)) xs) ≡ map (λ x. is_none (h x)) xs
zeros same h keys [] = refl
zeros same h keys (x ∷ xs) =
    ap (λ b. b ∷ map (λ n. n == 0) (map (λ y. number_among same keys (h y)) xs)) (is_zero same keys (h x))
    ∙ ap (λ rest. is_none (h x) ∷ rest) (zeros same h keys xs)

pub zero_is_missing : ZeroIsMissing
zero_is_missing field events = zeros bytes_eq (field_of field) (texts_of field events) events

-- ---- each once

module _ {A : Type 0} (same : A → A → Bool) (decides : (x y : A) → Decides (same x y) (x ≡ y)) where
  stay_distinct : (keys : List A) (key : A) → IsDistinct same keys → IsDistinct same (insert_key same keys key)
  stay_distinct keys key distinct = by (list_any (same key) keys) refl
    where
      by : (b : Bool) → list_any (same key) keys ≡ b → IsDistinct same (if b then keys else keys ++ key ∷ [])
      by true e = distinct
      by false e = IsDistinct-push (equivalence same decides) keys key distinct e

  all_distinct : (keys more : List A) → IsDistinct same keys → IsDistinct same (insert_all same keys more)
  all_distinct keys [] distinct = distinct
  all_distinct keys (key ∷ more) distinct = all_distinct (insert_key same keys key) more (stay_distinct keys key distinct)

  none_distinct : IsDistinct same []
  unfolding IsDistinct
  none_distinct = tt

  pub each_once_distinct : (values : List A) → IsDistinct same (each_once same values)
  each_once_distinct values = all_distinct [] values none_distinct

pub texts_are_distinct : TextsAreDistinct
texts_are_distinct field events = each_once_distinct bytes_eq bytes_eq-Decides (filter_map (field_of field) events)

pub approvals_are_distinct : ApprovalsAreDistinct
approvals_are_distinct events = each_once_distinct is_same_vote same_vote (flat_map (λ (event : Event). event.approvals) events)
