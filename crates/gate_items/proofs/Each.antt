-- What is true of each element of a list.
use Rattle.std.proofs.Common.{◌≡◌, ap, subst, ℕ, zero, suc, List, [], ◌∷◌, ◌++◌, Bool, true, false, cond, Option, Some, refl}
use Rattle.std.specs.Prelude.{not, slice_get, unwrap_or}
use Rattle.std.specs.List.{filter, find}
use Rattle.gate_record.specs.declared.ids.ManagerKind.{ManagerKind}
use Rattle.gate_record.specs.declared.ids.ManagerKind.TheVariants.{Independent, Dependent}
use Rattle.gate_items.specs.declared.item.QueueItem.{QueueItem}
use Rattle.gate_items.specs.Machine.{before, behind, is_complete, rest_of, staying}

abbrev pub Each : {X : Type 0} → (X → Type 0) → List X → Type 0
Each P [] = Unit {0}
Each P (x ∷ xs) = P x × Each P xs

pub each_map : {X : Type 0} (P Q : X → Type 0) → ((x : X) → P x → Q x) → (xs : List X) → Each P xs → Each Q xs
each_map P Q f [] h = tt
each_map P Q f (x ∷ xs) h = (f x h.0, each_map P Q f xs h.1)

pub each_append : {X : Type 0} (P : X → Type 0) (xs ys : List X) → Each P xs → Each P ys → Each P (xs ++ ys)
each_append P [] ys h k = k
each_append P (x ∷ xs) ys h k = (h.0, each_append P xs ys h.1 k)

pub each_at : {X : Type 0} (P : X → Type 0) (xs : List X) (i : ℕ) (x : X) → Each P xs → slice_get xs i ≡ Some x → P x
each_at P [] i x h e = absurd (cc)
each_at P (y ∷ ys) zero x h e = let same : y ≡ x = ap (λ o. unwrap_or o y) e in subst P same h.0
each_at P (y ∷ ys) (suc i) x h e = each_at P ys i x h.1 e

pub each_filter : {X : Type 0} (P : X → Type 0) (test : X → Bool) (xs : List X) → Each P xs → Each P (filter test xs)
each_filter P test [] h = tt
each_filter P test (x ∷ xs) h = by (test x) (each_filter P test xs h.1)
  where
    by : (b : Bool) → Each P (filter test xs) → Each P (cond b (x ∷ filter test xs) (filter test xs))
    by true rest = (h.0, rest)
    by false rest = rest

pub each_before : (P : QueueItem → Type 0) (test : QueueItem → Bool) (items : List QueueItem) → Each P items → Each P (before test items)
each_before P test [] h = tt
each_before P test (item ∷ items) h = by (test item) (each_before P test items h.1)
  where
    by : (b : Bool) → Each P (before test items) → Each P (cond b [] (item ∷ before test items))
    by true rest = tt
    by false rest = (h.0, rest)

pub each_behind : (P : QueueItem → Type 0) (test : QueueItem → Bool) (items : List QueueItem) → Each P items → Each P (behind test items)
each_behind P test [] h = tt
each_behind P test (item ∷ items) h = by (test item) (each_behind P test items h.1)
  where
    by : (b : Bool) → Each P (behind test items) → Each P (cond b items (behind test items))
    by true rest = h.1
    by false rest = rest

pub each_rest : (P : QueueItem → Type 0) (items : List QueueItem) → Each P items → Each P (rest_of items)
each_rest P [] h = tt
each_rest P (item ∷ items) h = by (is_complete item) (each_rest P items h.1)
  where
    by : (b : Bool) → Each P (rest_of items) → Each P (cond b (rest_of items) (item ∷ items))
    by true rest = rest
    by false rest = h

pub each_staying : (P : QueueItem → Type 0) (m : ManagerKind) (items : List QueueItem) → Each P items → Each P (staying m items)
each_staying P Independent items h = each_filter P (λ item. not (is_complete item)) items h
each_staying P Dependent items h = each_rest P items h

pub each_found : (P : QueueItem → Type 0) (test : QueueItem → Bool) (items : List QueueItem) (item : QueueItem) → Each P items → find test items ≡ Some item → P item
each_found P test [] item h e = absurd (cc)
each_found P test (x ∷ xs) item h e = by (test x) (λ k. each_found P test xs item h.1 k) e
  where
    by : (b : Bool) → (find test xs ≡ Some item → P item) → cond b (Some x) (find test xs) ≡ Some item → P item
    by true rest k = let same : x ≡ item = ap (λ (o : Option QueueItem). unwrap_or o x) k in subst P same h.0
    by false rest k = rest k

-- what is true of what stands at each place
pub each_from : {X : Type 0} (P : X → Type 0) (xs : List X) → ((i : ℕ) (x : X) → slice_get xs i ≡ Some x → P x) → Each P xs
each_from P [] h = tt
each_from P (x ∷ xs) h = (h 0 x refl, each_from P xs (λ i y e. h (suc i) y e))
