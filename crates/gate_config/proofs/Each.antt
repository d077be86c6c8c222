-- Loops over the items of a list, each with its checks.
use Rattle.std.proofs.Common.{◌≡◌, ◌∙◌, ◌+◌, ◌<◌, ◌≤◌, ℕ, List, [], ◌∷◌, ◌++◌, map, length, get_or, take, drop, refl, sym, ap, Option, Some, Result, subst, arith, append_assoc, add-zero, zero-add, suc}
use Rattle.std.specs.List.{flat_map, filter_map, enumerate_from}
use Rattle.std.specs.Result.{IsErrAnd}
use Rattle.std.proofs.lemmas.List.{append-nil, map-append, map-id, take_more, take_all, take-append-drop, length-map, length-take-le}
use Rattle.gate_config.specs.declared.fault.ConfigFault.{ConfigFault}
use Rattle.gate_config.specs.Checks.{each}
use Rattle.gate_config.specs.Faults.{Check}
use Rattle.gate_config.specs.Inner.Faults.{HasPassed, HasFault, Reads}
use Rattle.gate_config.proofs.Faults.{exit, fault_front, fault_rest, passed_both}

-- the checks from a position on
abbrev pub each_from : {A : Type 0} → (ℕ → A → List Check) → ℕ → List A → List Check
each_from checks n values = flat_map (λ entry. checks entry.0 entry.1) (enumerate_from n values)

each_from-append : {A : Type 0} (checks : ℕ → A → List Check) (n : ℕ) (xs ys : List A) → each_from checks n (xs ++ ys) ≡ each_from checks n xs ++ each_from checks (n + length xs) ys
each_from-append checks n [] ys = ap (λ k. each_from checks k ys) (sym (add-zero n))
each_from-append checks n (x ∷ xs) ys =
    ap (λ rest. checks n x ++ rest) (each_from-append checks (n + 1) xs ys ∙ ap (λ k. each_from checks (n + 1) xs ++ each_from checks k ys) (omega arith))
    ∙ sym (append_assoc (checks n x) (each_from checks (n + 1) xs) (each_from checks (n + suc (length xs)) ys))

each-append : {A : Type 0} (checks : ℕ → A → List Check) (xs ys : List A) → each checks (xs ++ ys) ≡ each checks xs ++ each_from checks (length xs) ys
each-append checks xs ys = each_from-append checks 0 xs ys ∙ ap (λ k. each checks xs ++ each_from checks k ys) (zero-add (length xs))

-- a list of checks without positions
each_from-flat : {A : Type 0} (checks : A → List Check) (n : ℕ) (xs : List A) → each_from (λ _. checks) n xs ≡ flat_map checks xs
each_from-flat checks n [] = refl
each_from-flat checks n (x ∷ xs) = ap (λ rest. checks x ++ rest) (each_from-flat checks (n + 1) xs)

-- the checks of the first i items, each of them seen by v, pass
pub record TestedSoFar {X A : Type 0} (checks : ℕ → A → List Check) (v : X → A) (items : List X) (i : ℕ) : Type 0 where
  pub passed : HasPassed (each checks (map v (take i items)))

-- and what was read of them has these texts
pub record ReadSoFar {X A T B : Type 0} (checks : ℕ → A → List Check) (v : X → A) (texts : T → B) (gives : A → B) (items : List X) (i : ℕ) (out : List T) : Type 0 where
  pub tested : TestedSoFar checks v items i
  pub says : map texts out ≡ map gives (map v (take i items))

-- one more item
pub map_more : {X A : Type 0} (v : X → A) (items : List X) (i : ℕ) (x : X) → i < length items → x ≡ get_or items i x → map v (take (i + 1) items) ≡ map v (take i items) ++ v x ∷ []
map_more v items i x h e =
    ap (map v) (take_more items i x h) ∙ map-append v (take i items) (get_or items i x ∷ []) ∙ ap (λ y. map v (take i items) ++ v y ∷ []) (sym e)

pub count : {X A : Type 0} (v : X → A) (items : List X) (i : ℕ) → i < length items → length (map v (take i items)) ≡ i
count v items i h = length-map (take i items) v ∙ length-take-le i items (omega arith)

pub split : {X A : Type 0} (v : X → A) (items : List X) (i : ℕ) (x : X) → i < length items → x ≡ get_or items i x → map v items ≡ (map v (take i items) ++ v x ∷ []) ++ map v (drop (i + 1) items)
split v items i x h e =
    ap (map v) (sym (take-append-drop (i + 1) items)) ∙ map-append v (take (i + 1) items) (drop (i + 1) items)
    ∙ ap (λ front. front ++ map v (drop (i + 1) items)) (map_more v items i x h e)

one_more : {A : Type 0} (checks : ℕ → A → List Check) (xs : List A) (x : A) (i : ℕ) → length xs ≡ i → each checks (xs ++ x ∷ []) ≡ each checks xs ++ checks i x
one_more checks xs x i e =
    each-append checks xs (x ∷ []) ∙ ap (λ k. each checks xs ++ (checks k x ++ [])) e ∙ ap (λ rest. each checks xs ++ rest) (append-nil (checks i x))

module _ {X A : Type 0} {checks : ℕ → A → List Check} {v : X → A} {items : List X} where
  pub tested_none : TestedSoFar checks v items 0
  tested_none = record { passed = record { all = tt } }

  pub tested_more : {i : ℕ} (x : X) → i < length items → x ≡ get_or items i x → TestedSoFar checks v items i → HasPassed (checks i (v x)) → TestedSoFar checks v items (i + 1)
  tested_more {i} x h e t p = record {
    passed = subst HasPassed
        (sym (ap (each checks) (map_more v items i x h e) ∙ one_more checks (map v (take i items)) (v x) i (count v items i h)))
        (passed_both t.passed p);
  }

  pub tested_fault : {i : ℕ} (x : X) {found : ConfigFault} → i < length items → x ≡ get_or items i x → TestedSoFar checks v items i → HasFault (checks i (v x)) found → HasFault (each checks (map v items)) found
  tested_fault {i} x {found} h e t f =
      let front = map v (take i items) in
      let rest = map v (drop (i + 1) items) in
      subst (λ cs. HasFault cs found)
      (sym (ap (each checks) (split v items i x h e) ∙ each-append checks (front ++ v x ∷ []) rest
      ∙ ap (λ cs. cs ++ each_from checks (length (front ++ v x ∷ [])) rest) (one_more checks front (v x) i (count v items i h))))
      (fault_front (each_from checks (length (front ++ v x ∷ [])) rest) (fault_rest t.passed f))

  -- what the exit of a `?` answers at an item behind those that passed
  pub tested_exit : {T : Type 0} {i : ℕ} (P : T → Type 0) (x : X) {found : ConfigFault} (r : Result T ConfigFault) → IsErrAnd r (λ answer. answer ≡ found) → i < length items → x ≡ get_or items i x → TestedSoFar checks v items i → HasFault (checks i (v x)) found → Reads (each checks (map v items)) P r
  tested_exit P x r answers h e t f = exit P r answers (tested_fault x h e t f)

  pub tested_all : {i : ℕ} → length items ≤ i → TestedSoFar checks v items i → HasPassed (each checks (map v items))
  tested_all {i} h t = subst (λ xs. HasPassed (each checks (map v xs))) (take_all i items h) t.passed

module _ {X A : Type 0} {checks : A → List Check} {v : X → A} {items : List X} where
  pub flat_fault : {i : ℕ} (x : X) {found : ConfigFault} → i < length items → x ≡ get_or items i x → TestedSoFar (λ _. checks) v items i → HasFault (checks (v x)) found → HasFault (flat_map checks (map v items)) found
  flat_fault x {found} h e t f = subst (λ cs. HasFault cs found) (each_from-flat checks 0 (map v items)) (tested_fault x h e t f)

  pub flat_exit : {T : Type 0} {i : ℕ} (P : T → Type 0) (x : X) {found : ConfigFault} (r : Result T ConfigFault) → IsErrAnd r (λ answer. answer ≡ found) → i < length items → x ≡ get_or items i x → TestedSoFar (λ _. checks) v items i → HasFault (checks (v x)) found → Reads (flat_map checks (map v items)) P r
  flat_exit P x r answers h e t f = exit P r answers (flat_fault x h e t f)

  pub flat_all : {i : ℕ} → length items ≤ i → TestedSoFar (λ _. checks) v items i → HasPassed (flat_map checks (map v items))
  flat_all h t = subst HasPassed (each_from-flat checks 0 (map v items)) (tested_all h t)

-- what was read of the items so far and of one more, which was pushed behind it
pub says_more : {X A T B : Type 0} {i : ℕ} {next : List T} (v : X → A) (texts : T → B) (gives : A → B) (items : List X) (out : List T) (x : X) (y : T) → next ≡ out ++ y ∷ [] → i < length items → x ≡ get_or items i x → map texts out ≡ map gives (map v (take i items)) → texts y ≡ gives (v x) → map texts next ≡ map gives (map v (take (i + 1) items))
says_more {i} v texts gives items out x y pushed h e so_far s =
    ap (map texts) pushed ∙ map-append texts out (y ∷ []) ∙ ap (λ front. front ++ texts y ∷ []) so_far
    ∙ ap (λ z. map gives (map v (take i items)) ++ z ∷ []) s
    ∙ sym (ap (map gives) (map_more v items i x h e) ∙ map-append gives (map v (take i items)) (v x ∷ []))

module _ {X A T B : Type 0} {checks : ℕ → A → List Check} {v : X → A} {texts : T → B} {gives : A → B} {items : List X} where
  pub read_none : ReadSoFar checks v texts gives items 0 []
  read_none = record { tested = tested_none; says = refl }

  pub read_more : {i : ℕ} {out next : List T} (x : X) (y : T) → next ≡ out ++ y ∷ [] → i < length items → x ≡ get_or items i x → ReadSoFar checks v texts gives items i out → HasPassed (checks i (v x)) → texts y ≡ gives (v x) → ReadSoFar checks v texts gives items (i + 1) next
  read_more {out} x y pushed h e r p s = record { tested = tested_more x h e r.tested p; says = says_more v texts gives items out x y pushed h e r.says s }

  pub read_all : {i : ℕ} {out : List T} → length items ≤ i → ReadSoFar checks v texts gives items i out → map texts out ≡ map gives (map v items)
  read_all {i} h r = r.says ∙ ap (λ xs. map gives (map v xs)) (take_all i items h)

-- the same over items that are seen as they are
module _ {A : Type 0} {checks : A → List Check} {items : List A} where
  pub plain_fault : {i : ℕ} (x : A) {found : ConfigFault} → i < length items → x ≡ get_or items i x → TestedSoFar (λ _. checks) (λ y. y) items i → HasFault (checks x) found → HasFault (flat_map checks items) found
  plain_fault x {found} h e t f = subst (λ xs. HasFault (flat_map checks xs) found) (map-id items) (flat_fault x h e t f)

  pub plain_exit : {T : Type 0} {i : ℕ} (P : T → Type 0) (x : A) {found : ConfigFault} (r : Result T ConfigFault) → IsErrAnd r (λ answer. answer ≡ found) → i < length items → x ≡ get_or items i x → TestedSoFar (λ _. checks) (λ y. y) items i → HasFault (checks x) found → Reads (flat_map checks items) P r
  plain_exit P x r answers h e t f = exit P r answers (plain_fault x h e t f)

  pub plain_all : {i : ℕ} → length items ≤ i → TestedSoFar (λ _. checks) (λ y. y) items i → HasPassed (flat_map checks items)
  plain_all h t = subst (λ xs. HasPassed (flat_map checks xs)) (map-id items) (flat_all h t)

pub plain_read : {A T B : Type 0} {checks : A → List Check} {texts : T → B} {gives : A → B} {items : List A} {i : ℕ} {out : List T} → length items ≤ i → ReadSoFar (λ _. checks) (λ y. y) texts gives items i out → map texts out ≡ map gives items
plain_read {gives} {items} h r = read_all h r ∙ ap (map gives) (map-id items)

-- each value gives something
pub filter_map_all : {A B T : Type 0} (texts : T → B) (gives : A → Option B) (out : List T) (values : List A) → map (λ y. Some (texts y)) out ≡ map gives values → map texts out ≡ filter_map gives values
filter_map_all texts gives [] [] e = refl
filter_map_all texts gives [] (x ∷ xs) e = cc
filter_map_all texts gives (y ∷ ys) [] e = cc
filter_map_all texts gives (y ∷ ys) (x ∷ xs) e =
    let first : Some (texts y) ≡ gives x = cc in
    let rest : map (λ z. Some (texts z)) ys ≡ map gives xs = cc in
    rw (← first) (ap (λ zs. texts y ∷ zs) (filter_map_all texts gives ys xs rest))
