-- Loops over the items of a list, each with its checks by the items before it.
use Rattle.std.proofs.Common.{◌≡◌, ◌∙◌, ◌+◌, ◌<◌, ◌≤◌, ℕ, List, [], ◌∷◌, ◌++◌, map, length, get_or, take, drop, refl, sym, ap, subst, append_assoc, append-nil, Option, Result, Bor, String, Global}
use Rattle.std.specs.Result.{IsErrAnd}
use Rattle.std.proofs.lemmas.List.{take_all}
use Rattle.gate_config.specs.declared.path.Step.{Step}
use Rattle.gate_config.specs.declared.fault.ConfigFault.{ConfigFault}
use Rattle.serde_json.specs.Data.{Data}
use Rattle.gate_config.specs.declared.document.Found.{Found}
use Rattle.gate_config.specs.Checks.{along, along_from, source_checks, tenant_checks}
use Rattle.gate_config.specs.Document.{names_in, sources_of, tenant_of}
use Rattle.gate_config.specs.Inner.Found.{found_view, key_view}
use Rattle.gate_config.specs.Faults.{Check}
use Rattle.gate_config.specs.Inner.Faults.{HasPassed, HasFault, Reads}
use Rattle.gate_config.specs.Names.{with_name, with_names}
use Rattle.gate_config.proofs.Each.{map_more, says_more, split}
use Rattle.gate_config.proofs.Listed.{names_more, with_names-append}
use Rattle.gate_config.proofs.Faults.{exit, fault_front, fault_rest, passed_both}

pub along_from-append : {A : Type 0} (checks : List A → A → List Check) (before xs ys : List A) → along_from checks before (xs ++ ys) ≡ along_from checks before xs ++ along_from checks (before ++ xs) ys
along_from-append checks before [] ys = ap (λ b. along_from checks b ys) (sym (append-nil before))
along_from-append checks before (x ∷ xs) ys =
    ap (λ rest. checks before x ++ rest)
    (along_from-append checks (before ++ x ∷ []) xs ys
    ∙ ap (λ b. along_from checks (before ++ x ∷ []) xs ++ along_from checks b ys) (append_assoc before (x ∷ []) xs))
    ∙ sym (append_assoc (checks before x) (along_from checks (before ++ x ∷ []) xs) (along_from checks (before ++ x ∷ xs) ys))

one_more : {A : Type 0} (checks : List A → A → List Check) (xs : List A) (x : A) → along checks (xs ++ x ∷ []) ≡ along checks xs ++ checks xs x
one_more checks xs x = along_from-append checks [] xs (x ∷ []) ∙ ap (λ rest. along checks xs ++ rest) (append-nil (checks xs x))

-- the checks of the first i items, each of them seen by v, pass
pub record AlongSoFar {X A : Type 0} (checks : List A → A → List Check) (v : X → A) (items : List X) (i : ℕ) : Type 0 where
  pub passed : HasPassed (along checks (map v (take i items)))

module _ {X A : Type 0} {checks : List A → A → List Check} {v : X → A} {items : List X} where
  pub along_none : AlongSoFar checks v items 0
  along_none = record { passed = record { all = tt } }

  pub along_more : {i : ℕ} (x : X) → i < length items → x ≡ get_or items i x → AlongSoFar checks v items i → HasPassed (checks (map v (take i items)) (v x)) → AlongSoFar checks v items (i + 1)
  along_more {i} x h e t p = record {
    passed = subst HasPassed (sym (ap (along checks) (map_more v items i x h e) ∙ one_more checks (map v (take i items)) (v x))) (passed_both t.passed p);
  }

  pub along_fault : {i : ℕ} (x : X) {found : ConfigFault} → i < length items → x ≡ get_or items i x → AlongSoFar checks v items i → HasFault (checks (map v (take i items)) (v x)) found → HasFault (along checks (map v items)) found
  along_fault {i} x {found} h e t f =
      let front = map v (take i items) in
      let rest = map v (drop (i + 1) items) in
      subst (λ cs. HasFault cs found)
      (sym (ap (along checks) (split v items i x h e) ∙ along_from-append checks [] (front ++ v x ∷ []) rest
      ∙ ap (λ cs. cs ++ along_from checks (front ++ v x ∷ []) rest) (one_more checks front (v x))))
      (fault_front (along_from checks (front ++ v x ∷ []) rest) (fault_rest t.passed f))

  -- what the exit of a `?` answers at an item behind those that passed
  pub along_exit : {T : Type 0} {i : ℕ} (P : T → Type 0) (x : X) {found : ConfigFault} (r : Result T ConfigFault) → IsErrAnd r (λ answer. answer ≡ found) → i < length items → x ≡ get_or items i x → AlongSoFar checks v items i → HasFault (checks (map v (take i items)) (v x)) found → Reads (along checks (map v items)) P r
  along_exit P x r answers h e t f = exit P r answers (along_fault x h e t f)

  pub along_all : {i : ℕ} → length items ≤ i → AlongSoFar checks v items i → HasPassed (along checks (map v items))
  along_all {i} h t = subst (λ xs. HasPassed (along checks (map v xs))) (take_all i items h) t.passed

-- the first i connections of a tenant pass, and these are the names with theirs
pub record SourcesSoFar (known : List (List ℕ)) (place : List Step) (sources : Option Data) (keys : List (Bor (String Global))) (i : ℕ) (names : List (List ℕ)) : Type 0 where
  pub tested : AlongSoFar (source_checks known place sources) key_view keys i
  pub says : names ≡ with_names known (map key_view (take i keys))

module _ {known : List (List ℕ)} {place : List Step} {sources : Option Data} {keys : List (Bor (String Global))} where
  pub sources_none : SourcesSoFar known place sources keys 0 known
  sources_none = record { tested = along_none; says = refl }

  pub sources_fault : {i : ℕ} {names : List (List ℕ)} {name : List ℕ} (key : Bor (String Global)) {found : ConfigFault} → i < length keys → key ≡ get_or keys i key → name ≡ key_view key → SourcesSoFar known place sources keys i names → HasFault (source_checks names place sources [] name) found → HasFault (along (source_checks known place sources) (map key_view keys)) found
  sources_fault {i} {names} {name} key {found} h e same s f =
      along_fault key h e s.tested
      (subst (λ ns. HasFault (source_checks ns place sources [] (key_view key)) found) s.says
      (subst (λ k. HasFault (source_checks names place sources [] k) found) same f))

  pub sources_more : {i : ℕ} {names next : List (List ℕ)} {name : List ℕ} (key : Bor (String Global)) → i < length keys → key ≡ get_or keys i key → name ≡ key_view key → SourcesSoFar known place sources keys i names → HasPassed (source_checks names place sources [] name) → next ≡ with_name name names → SourcesSoFar known place sources keys (i + 1) next
  sources_more {i} {names} {next} {name} key h e same s p n = record {
    tested =
        along_more key h e s.tested
        (subst (λ ns. HasPassed (source_checks ns place sources [] (key_view key))) s.says
        (subst (λ k. HasPassed (source_checks names place sources [] k)) same p));
    says =
        n ∙ (λ j. with_name (same j) (s.says j)) ∙ sym (with_names-append known (map key_view (take i keys)) (key_view key ∷ []))
        ∙ ap (with_names known) (sym (map_more key_view keys i key h e));
  }

  pub sources_all : {i : ℕ} {names : List (List ℕ)} → length keys ≤ i → SourcesSoFar known place sources keys i names → HasPassed (along (source_checks known place sources) (map key_view keys)) × (names ≡ with_names known (map key_view keys))
  sources_all {i} h s = (along_all h s.tested, s.says ∙ ap (λ ks. with_names known (map key_view ks)) (take_all i keys h))

-- the first i entries pass, and these are the names of their connections
pub record TenantsSoFar (entries : List Found) (i : ℕ) (names : List (List ℕ)) : Type 0 where
  pub tested : AlongSoFar tenant_checks found_view entries i
  pub says : names ≡ names_in (map found_view (take i entries))

module _ {entries : List Found} where
  pub tenants_none : TenantsSoFar entries 0 []
  tenants_none = record { tested = along_none; says = refl }

  pub tenants_more : {i : ℕ} {names next : List (List ℕ)} (entry : Found) → i < length entries → entry ≡ get_or entries i entry → TenantsSoFar entries i names → HasPassed (tenant_checks (map found_view (take i entries)) (found_view entry)) → next ≡ with_names names (sources_of (tenant_of (found_view entry).1)) → TenantsSoFar entries (i + 1) next
  tenants_more {i} {names} entry h e t p n = record {
    tested = along_more entry h e t.tested p;
    says = n ∙ names_more (λ (entry : ℕ × Data). sources_of (tenant_of entry.1)) found_view [] names entries i entry h e t.says;
  }

  pub tenants_all : {i : ℕ} {names : List (List ℕ)} → length entries ≤ i → TenantsSoFar entries i names → HasPassed (along tenant_checks (map found_view entries)) × (names ≡ names_in (map found_view entries))
  tenants_all {i} h t = (along_all h t.tested, t.says ∙ ap (λ es. names_in (map found_view es)) (take_all i entries h))

-- the first i items pass, and what was read of them has these texts
pub record ReadAlong {X A T B : Type 0} (checks : List A → A → List Check) (v : X → A) (texts : T → B) (gives : A → B) (items : List X) (i : ℕ) (out : List T) : Type 0 where
  pub tested : AlongSoFar checks v items i
  pub says : map texts out ≡ map gives (map v (take i items))

module _ {X A T B : Type 0} {checks : List A → A → List Check} {v : X → A} {texts : T → B} {gives : A → B} {items : List X} where
  pub read_none : ReadAlong checks v texts gives items 0 []
  read_none = record { tested = along_none; says = refl }

  pub read_more : {i : ℕ} {out next : List T} (x : X) (y : T) → next ≡ out ++ y ∷ [] → i < length items → x ≡ get_or items i x → ReadAlong checks v texts gives items i out → HasPassed (checks (map v (take i items)) (v x)) → texts y ≡ gives (v x) → ReadAlong checks v texts gives items (i + 1) next
  read_more {out} x y pushed h e r p s = record { tested = along_more x h e r.tested p; says = says_more v texts gives items out x y pushed h e r.says s }

  pub read_all : {i : ℕ} {out : List T} → length items ≤ i → ReadAlong checks v texts gives items i out → HasPassed (along checks (map v items)) × (map texts out ≡ map gives (map v items))
  read_all {i} h r = (along_all h r.tested, r.says ∙ ap (λ xs. map gives (map v xs)) (take_all i items h))
