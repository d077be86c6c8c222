-- Filters of names.
use Rattle.std.proofs.Common.{◌≡◌, ◌∙◌, ℕ, List, [], ◌∷◌, ◌++◌, Bool, true, false, map, refl, sym, ap, subst, String, Global, string_bytes}
use Rattle.std.specs.Prelude.{◌||◌}
use Rattle.std.specs.Str.{bytes_eq}
use Rattle.std.proofs.lemmas.List.{map-append}
use Rattle.std.proofs.lemmas.List.Folds.{list_any-append}
use Rattle.std.proofs.lemmas.Slice.Eq.{bytes_eq-Decides}
use Rattle.gate_config.specs.Names.{is_among}
use Rattle.gate_config.specs.Inner.Filters.{passes}
use Rattle.gate_config.specs.declared.name_filter.NameFilter.{NameFilter}

-- these names pass
pub record HavePassed (names : List (String Global)) (filter : NameFilter) : Type 0 where
  pub each : (name : List ℕ) → is_among (map string_bytes names) name ≡ true → passes filter name ≡ true

pub none_passed : (filter : NameFilter) → HavePassed [] filter
none_passed filter = record { each = λ name is. absurd (cc) }

last_is : (here others : Bool) → others ≡ false → (others || (here || false)) ≡ true → here ≡ true
last_is true others none is = refl
last_is false true none is = absurd (cc)
last_is false false none is = absurd (cc)

-- one name more
pub one_passed : (names : List (String Global)) (last : String Global) (filter next : NameFilter) → passes next (string_bytes last) ≡ true → ((other : List ℕ) → passes filter other ≡ true → passes next other ≡ true) → HavePassed names filter → HavePassed (names ++ last ∷ []) next
one_passed names last filter next added kept passed = record { each = λ name is. by name is (is_among (map string_bytes names) name) refl }
  where
    split : (name : List ℕ) → is_among (map string_bytes (names ++ last ∷ [])) name ≡ (is_among (map string_bytes names) name || (bytes_eq (string_bytes last) name || false))
    split name = ap (λ texts. is_among texts name) (map-append string_bytes names (last ∷ [])) ∙ list_any-append (λ other. bytes_eq other name) (map string_bytes names) (string_bytes last ∷ [])

    by : (name : List ℕ) → is_among (map string_bytes (names ++ last ∷ [])) name ≡ true → (b : Bool) → is_among (map string_bytes names) name ≡ b → passes next name ≡ true
    by name is true among = kept name (passed.each name among)
    by name is false among =
        subst (λ text. passes next text ≡ true)
        ((bytes_eq-Decides (string_bytes last) name).0 (last_is (bytes_eq (string_bytes last) name) (is_among (map string_bytes names) name) among (sym (split name) ∙ is)))
        added
