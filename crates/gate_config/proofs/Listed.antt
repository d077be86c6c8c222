-- Loops that add names to a set, and tests of what is seen by a view.
use Rattle.std.proofs.Common.{Bool, option_to_list, ◌≡◌, ◌∙◌, ◌+◌, ◌<◌, ℕ, List, [], ◌∷◌, ◌++◌, map, length, get_or, take, refl, sym, ap, append_assoc, append-nil}
use Rattle.std.specs.Prelude.{◌||◌, Option}
use Rattle.std.specs.List.{filter_map, flat_map, list_any}
use Rattle.std.specs.Str.{bytes_eq}
use Rattle.serde_json.specs.Data.{Data}
use Rattle.serde_json.specs.View.{view}
use Rattle.serde_json.specs.declared.value.Value.{Value}
use Rattle.gate_config.specs.declared.document.Found.{Found}
use Rattle.gate_config.specs.Checks.{is_named, is_nameless, is_taken}
use Rattle.gate_config.specs.Document.{name_of, tenant_name}
use Rattle.gate_config.specs.Inner.Found.{found_view}
use Rattle.gate_config.specs.Names.{with_name, with_names}
use Rattle.gate_config.proofs.Each.{map_more}
use Rattle.gate_config.proofs.Picked.{filter_map_more}

pub with_names-append : (names : List (List ℕ)) (xs ys : List (List ℕ)) → with_names names (xs ++ ys) ≡ with_names (with_names names xs) ys
with_names-append names [] ys = refl
with_names-append names (x ∷ xs) ys = with_names-append (with_name x names) xs ys

pub flat_map-append : {A B : Type 0} (f : A → List B) (xs ys : List A) → flat_map f (xs ++ ys) ≡ flat_map f xs ++ flat_map f ys
flat_map-append f [] ys = refl
flat_map-append f (x ∷ xs) ys = ap (λ rest. f x ++ rest) (flat_map-append f xs ys) ∙ sym (append_assoc (f x) (flat_map f xs) (flat_map f ys))

-- one more item, which gives names
pub names_more : {X A : Type 0} (f : A → List (List ℕ)) (v : X → A) (start now : List (List ℕ)) (items : List X) (i : ℕ) (x : X) → i < length items → x ≡ get_or items i x → now ≡ with_names start (flat_map f (map v (take i items))) → with_names now (f (v x)) ≡ with_names start (flat_map f (map v (take (i + 1) items)))
names_more f v start now items i x h e so_far =
    ap (λ names. with_names names (f (v x))) so_far
    ∙ sym (with_names-append start (flat_map f (map v (take i items))) (f (v x)))
    ∙ ap (with_names start) (sym (ap (flat_map f) (map_more v items i x h e) ∙ flat_map-append f (map v (take i items)) (v x ∷ [])
    ∙ ap (λ rest. flat_map f (map v (take i items)) ++ rest) (append-nil (f (v x)))))

-- one more item, which may give a name
pub named_more : {X A : Type 0} (f : A → Option (List ℕ)) (v : X → A) (start now : List (List ℕ)) (items : List X) (i : ℕ) (x : X) → i < length items → x ≡ get_or items i x → now ≡ start ++ filter_map f (map v (take i items)) → now ++ option_to_list (f (v x)) ≡ start ++ filter_map f (map v (take (i + 1) items))
named_more f v start now items i x h e so_far =
    ap (λ names. names ++ option_to_list (f (v x))) so_far
    ∙ append_assoc start (filter_map f (map v (take i items))) (option_to_list (f (v x)))
    ∙ ap (λ rest. start ++ rest) (sym (filter_map_more f v items i x h e))

-- a test of what is seen by v
any_seen : {X A : Type 0} (test : A → Bool) (v : X → A) (items : List X) → list_any (λ x. test (v x)) items ≡ list_any test (map v items)
any_seen test v [] = refl
any_seen test v (x ∷ xs) = ap (λ b. test (v x) || b) (any_seen test v xs)

-- the same at the tests that readers make, for `grind`
pub nameless_seen : (items : List Value) → list_any (λ item. is_nameless (view item)) items ≡ list_any is_nameless (map view items)
nameless_seen items = any_seen is_nameless view items

pub taken_seen : (entries : List Found) (name : List ℕ) → list_any (λ (entry : Found). bytes_eq (tenant_name (view entry.value.now)) name) entries ≡ is_taken (map found_view entries) name
taken_seen entries name = any_seen (λ (entry : ℕ × Data). bytes_eq (tenant_name entry.1) name) found_view entries

pub named_seen : (entries : List Found) (name : List ℕ) → list_any (λ (entry : Found). bytes_eq (name_of (view entry.value.now)) name) entries ≡ is_named (map found_view entries) name
named_seen entries name = any_seen (λ (entry : ℕ × Data). bytes_eq (name_of entry.1) name) found_view entries
