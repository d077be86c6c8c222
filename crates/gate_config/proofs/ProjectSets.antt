-- What a set that is built of names holds.
use Rattle.std.proofs.Common.{◌≡◌, ◌∙◌, ℕ, List, [], ◌∷◌, Bool, true, false, map, refl, sym, ap, subst, String, Global, string_bytes}
use Rattle.std.specs.Prelude.{◌||◌}
use Rattle.std.specs.BTreeMap.{is_at}
use Rattle.std.specs.Cmp.Lexicographic.{bytes_decides, slice_cmp}
use Rattle.std.specs.List.{list_any}
use Rattle.std.specs.Ordering.{eq_by_cmp, nat_cmp}
use Rattle.std.specs.Str.{bytes_eq}
use Rattle.std.specs.String.{string_cmp}
use Rattle.std.proofs.lemmas.Map.Text.{is_eq-slice_cmp}
use Rattle.gate_config.proofs.Attributes.{same_bytes}
use Rattle.gate_config.specs.Names.{is_among}

-- a search for a name
pub among : (keys : List (String Global)) (name : List ℕ) → list_any (is_at (λ (k : String Global). slice_cmp nat_cmp name (string_bytes k))) keys ≡ is_among (map string_bytes keys) name
among [] name = refl
among (k ∷ keys) name = λ i. (is_eq-slice_cmp name (string_bytes k) ∙ same_bytes name (string_bytes k)) i || among keys name i

found_in : (k : String Global) (others : Bool) (name : List ℕ) → (others ≡ true → (q : String Global) × (string_bytes q ≡ name)) → (here : Bool) → bytes_eq (string_bytes k) name ≡ here → (bytes_eq (string_bytes k) name || others) ≡ true → (q : String Global) × (string_bytes q ≡ name)
found_in k others name rest true is e = (k, (bytes_decides (string_bytes k) name).0 is)
found_in k others name rest false is e = rest (ap (λ b. b || others) (sym is) ∙ e)

-- what is among the names is one of the strings
found : (keys : List (String Global)) (name : List ℕ) → is_among (map string_bytes keys) name ≡ true → (q : String Global) × (string_bytes q ≡ name)
found [] name e = absurd (cc)
found (k ∷ keys) name e = found_in k (is_among (map string_bytes keys) name) name (found keys name) (bytes_eq (string_bytes k) name) refl e

same_test : (a b : Bool) → (a ≡ true → b ≡ true) → (b ≡ true → a ≡ true) → a ≡ b
same_test true b there back = sym (there refl)
same_test false true there back = back refl
same_test false false there back = refl

module _ (keys names : List (String Global)) (same : (q : String Global) → list_any (is_at (string_cmp q)) keys ≡ list_any (eq_by_cmp string_cmp q) names) where
  at_string : (q : String Global) → is_among (map string_bytes keys) (string_bytes q) ≡ is_among (map string_bytes names) (string_bytes q)
  at_string q = sym (among keys (string_bytes q)) ∙ same q ∙ among names (string_bytes q)

  -- strings that have the same strings among them have the same names
  pub same_names : (name : List ℕ) → list_any (is_at (λ (k : String Global). slice_cmp nat_cmp name (string_bytes k))) keys ≡ is_among (map string_bytes names) name
  same_names name =
      among keys name
      ∙ same_test (is_among (map string_bytes keys) name) (is_among (map string_bytes names) name)
      (λ e. let q = found keys name e in subst (λ n. is_among (map string_bytes names) n ≡ true) q.1 (sym (at_string q.0) ∙ ap (is_among (map string_bytes keys)) q.1 ∙ e))
      (λ e. let q = found names name e in subst (λ n. is_among (map string_bytes keys) n ≡ true) q.1 (at_string q.0 ∙ ap (is_among (map string_bytes names)) q.1 ∙ e))
