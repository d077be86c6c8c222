-- The loops over the objects of approvals, and over the keys of one.
use Rattle.std.proofs.Common.{◌≡◌, ◌∙◌, ◌+◌, ◌<◌, ◌≤◌, ℕ, List, [], ◌∷◌, ◌++◌, true, map, length, get_or, take, drop, refl, sym, ap, subst, arith, append_assoc, append-nil, add-zero, zero-add, Option, Some, None, Bor, String, Global, option_to_list}
use Rattle.std.specs.Prelude.{ℤ, is_some}
use Rattle.std.specs.List.{filter_map, flat_map}
use Rattle.std.proofs.lemmas.List.{length-append, map-append, take_all, take-append-drop}
use Rattle.serde_json.specs.Data.{Data}
use Rattle.serde_json.specs.View.{view}
use Rattle.serde_json.specs.declared.value.Value.{Value}
use Rattle.gate_config.specs.Checks.{each, objects_checks, vote_checks, votes_checks}
use Rattle.gate_config.specs.Document.{vote_at, votes_of}
use Rattle.gate_config.specs.Inner.Found.{key_view}
use Rattle.gate_config.specs.Inner.Faults.{HasPassed, HasFault}
use Rattle.gate_config.specs.Places.{nth}
use Rattle.gate_config.specs.declared.path.Step.{Step}
use Rattle.gate_config.specs.declared.fault.ConfigFault.{ConfigFault}
use Rattle.gate_config.proofs.Each.{TestedSoFar, count, map_more, tested_all, tested_fault, tested_more, tested_none}
use Rattle.gate_config.proofs.Faults.{fault_front, fault_rest, passed_both}
use Rattle.gate_config.proofs.Listed.{flat_map-append}
use Rattle.gate_config.proofs.Picked.{filter_map_more}

-- the first i keys of an object pass, and their votes stand behind those from before
pub record VotesSoFar (place here : List Step) (object : Data) (start : List (List ℕ × ℤ)) (keys : List (Bor (String Global))) (i : ℕ) (out : List (List ℕ × ℤ)) : Type 0 where
  pub tested : TestedSoFar (λ index. vote_checks place here object (length start + index)) key_view keys i
  pub says : out ≡ start ++ filter_map (vote_at object) (map key_view (take i keys))
  pub many : length out ≡ length start + i

one : {A : Type 0} (o : Option A) → is_some o ≡ true → length (option_to_list o) ≡ 1
one None e = cc
one (Some x) e = refl

module _ {place here : List Step} {object : Data} {start : List (List ℕ × ℤ)} {keys : List (Bor (String Global))} where
  pub votes_none : VotesSoFar place here object start keys 0 start
  votes_none = record { tested = tested_none; says = sym (append-nil start); many = sym (add-zero (length start)) }

  pub votes_fault : {i : ℕ} {out : List (List ℕ × ℤ)} (key : Bor (String Global)) {found : ConfigFault} → i < length keys → key ≡ get_or keys i key → VotesSoFar place here object start keys i out → HasFault (vote_checks place here object (length out) (key_view key)) found → HasFault (each (λ index. vote_checks place here object (length start + index)) (map key_view keys)) found
  votes_fault key {found} h e v f = tested_fault key h e v.tested (subst (λ n. HasFault (vote_checks place here object n (key_view key)) found) v.many f)

  pub votes_more : {i : ℕ} {out : List (List ℕ × ℤ)} (key : Bor (String Global)) → i < length keys → key ≡ get_or keys i key → VotesSoFar place here object start keys i out → HasPassed (vote_checks place here object (length out) (key_view key)) → VotesSoFar place here object start keys (i + 1) (out ++ option_to_list (vote_at object (key_view key)))
  votes_more {i} {out} key h e v p = record {
    tested = tested_more key h e v.tested (subst (λ n. HasPassed (vote_checks place here object n (key_view key))) v.many p);
    says =
        ap (λ front. front ++ option_to_list (vote_at object (key_view key))) v.says
        ∙ append_assoc start (filter_map (vote_at object) (map key_view (take i keys))) (option_to_list (vote_at object (key_view key)))
        ∙ ap (λ rest. start ++ rest) (sym (filter_map_more (vote_at object) key_view keys i key h e));
    many = omega (arith, v.many, length-append out (option_to_list (vote_at object (key_view key))), one (vote_at object (key_view key)) p.all.1.0);
  }

  pub votes_all : {i : ℕ} {out : List (List ℕ × ℤ)} → length keys ≤ i → VotesSoFar place here object start keys i out → HasPassed (each (λ index. vote_checks place here object (length start + index)) (map key_view keys)) × (out ≡ start ++ filter_map (vote_at object) (map key_view keys))
  votes_all {i} h v = (tested_all h v.tested, v.says ∙ ap (λ ks. start ++ filter_map (vote_at object) (map key_view ks)) (take_all i keys h))

-- objects that stand behind others
objects-append : (place : List Step) (p n : ℕ) (xs ys : List Data) → objects_checks place p n (xs ++ ys) ≡ objects_checks place p n xs ++ objects_checks place (p + length xs) (n + length (flat_map votes_of xs)) ys
objects-append place p n [] ys = (λ i. objects_checks place (sym (add-zero p) i) (sym (add-zero n) i) ys)
objects-append place p n (x ∷ xs) ys =
    ap (λ rest. votes_checks place (nth place p) n x ++ rest) (objects-append place (p + 1) (n + length (votes_of x)) xs ys
    ∙ ap (λ k. objects_checks place (p + 1) (n + length (votes_of x)) xs ++ objects_checks place k (n + length (votes_of x) + length (flat_map votes_of xs)) ys) (omega arith)
    ∙ ap (λ k. objects_checks place (p + 1) (n + length (votes_of x)) xs ++ objects_checks place (p + length (x ∷ xs)) k ys) (omega (arith, length-append (votes_of x) (flat_map votes_of xs))))
    ∙ sym (append_assoc (votes_checks place (nth place p) n x) (objects_checks place (p + 1) (n + length (votes_of x)) xs) (objects_checks place (p + length (x ∷ xs)) (n + length (flat_map votes_of (x ∷ xs))) ys))

-- the first i objects pass, and these are their votes
pub record ObjectsSoFar (place : List Step) (items : List Value) (i : ℕ) (out : List (List ℕ × ℤ)) : Type 0 where
  pub tested : HasPassed (objects_checks place 0 0 (map view (take i items)))
  pub says : out ≡ flat_map votes_of (map view (take i items))

-- the checks of one more object
behind : (place : List Step) (items : List Value) (i : ℕ) (out : List (List ℕ × ℤ)) (ys : List Data) → i < length items → out ≡ flat_map votes_of (map view (take i items)) → objects_checks place 0 0 (map view (take i items) ++ ys) ≡ objects_checks place 0 0 (map view (take i items)) ++ objects_checks place i (length out) ys
behind place items i out ys h e =
    objects-append place 0 0 (map view (take i items)) ys
    ∙ ap (λ n. objects_checks place 0 0 (map view (take i items)) ++ objects_checks place n (0 + length (flat_map votes_of (map view (take i items)))) ys) at_place
    ∙ ap (λ n. objects_checks place 0 0 (map view (take i items)) ++ objects_checks place i n ys) (zero-add (length (flat_map votes_of (map view (take i items)))) ∙ ap length (sym e))
  where
    at_place : 0 + length (map view (take i items)) ≡ i
    at_place = zero-add (length (map view (take i items))) ∙ count view items i h

module _ {place : List Step} {items : List Value} where
  pub objects_none : ObjectsSoFar place items 0 []
  objects_none = record { tested = record { all = tt }; says = refl }

  pub objects_fault : {i : ℕ} {out : List (List ℕ × ℤ)} (x : Value) {found : ConfigFault} → i < length items → x ≡ get_or items i x → ObjectsSoFar place items i out → HasFault (votes_checks place (nth place i) (length out) (view x)) found → HasFault (objects_checks place 0 0 (map view items)) found
  objects_fault {i} {out} x {found} h e o f =
      let rest = map view (drop (i + 1) items) in
      let whole : map view items ≡ map view (take i items) ++ view x ∷ rest =
      ap (map view) (sym (take-append-drop (i + 1) items)) ∙ map-append view (take (i + 1) items) (drop (i + 1) items)
      ∙ ap (λ front. front ++ rest) (map_more view items i x h e) ∙ append_assoc (map view (take i items)) (view x ∷ []) rest in
      subst (λ cs. HasFault cs found) (sym (ap (objects_checks place 0 0) whole ∙ behind place items i out (view x ∷ rest) h o.says))
      (fault_rest o.tested (fault_front (objects_checks place (i + 1) (length out + length (votes_of (view x))) rest) f))

  pub objects_more : {i : ℕ} {out : List (List ℕ × ℤ)} (x : Value) → i < length items → x ≡ get_or items i x → ObjectsSoFar place items i out → HasPassed (votes_checks place (nth place i) (length out) (view x)) → ObjectsSoFar place items (i + 1) (out ++ votes_of (view x))
  objects_more {i} {out} x h e o p = record {
    tested = subst HasPassed (sym (ap (objects_checks place 0 0) (map_more view items i x h e) ∙ behind place items i out (view x ∷ []) h o.says ∙ ap (λ rest. objects_checks place 0 0 (map view (take i items)) ++ rest) (append-nil (votes_checks place (nth place i) (length out) (view x))))) (passed_both o.tested p);
    says =
        ap (λ front. front ++ votes_of (view x)) o.says
        ∙ sym (ap (flat_map votes_of) (map_more view items i x h e) ∙ flat_map-append votes_of (map view (take i items)) (view x ∷ []) ∙ ap (λ rest. flat_map votes_of (map view (take i items)) ++ rest) (append-nil (votes_of (view x))));
  }

  pub objects_all : {i : ℕ} {out : List (List ℕ × ℤ)} → length items ≤ i → ObjectsSoFar place items i out → HasPassed (objects_checks place 0 0 (map view items)) × (out ≡ flat_map votes_of (map view items))
  objects_all {i} h o = (subst (λ xs. HasPassed (objects_checks place 0 0 (map view xs))) (take_all i items h) o.tested, o.says ∙ ap (λ xs. flat_map votes_of (map view xs)) (take_all i items h))
