-- Loops that pick some of the items of a list.
use Rattle.std.proofs.Common.{◌≡◌, ◌∙◌, ◌+◌, ◌<◌, ℕ, List, [], ◌∷◌, ◌++◌, true, false, cond, Option, Some, None, map, length, get_or, take, refl, sym, ap, arith, add-zero, zero-add, option_map, option_to_list}
use Rattle.std.specs.List.{filter_map, cons_option, enumerate_from}
use Rattle.std.proofs.lemmas.List.{append-nil, map-append}
use Rattle.serde_json.specs.Data.{Data}
use Rattle.serde_json.specs.View.{view}
use Rattle.serde_json.specs.declared.value.Value.{Value}
use Rattle.gate_config.specs.declared.document.Found.{Found}
use Rattle.gate_config.specs.Document.{is_ignored, picked, tenant_at}
use Rattle.gate_config.specs.Inner.Found.{found_view}
use Rattle.gate_config.proofs.Each.{map_more, count}

cons_option-append : {A : Type 0} (o : Option A) (xs ys : List A) → cons_option o (xs ++ ys) ≡ cons_option o xs ++ ys
cons_option-append None xs ys = refl
cons_option-append (Some x) xs ys = refl

cons_option-nil : {A : Type 0} (o : Option A) → cons_option o [] ≡ option_to_list o
cons_option-nil None = refl
cons_option-nil (Some x) = refl

filter_map-append : {A B : Type 0} (h : A → Option B) (xs ys : List A) → filter_map h (xs ++ ys) ≡ filter_map h xs ++ filter_map h ys
filter_map-append h [] ys = refl
filter_map-append h (x ∷ xs) ys = ap (cons_option (h x)) (filter_map-append h xs ys) ∙ cons_option-append (h x) (filter_map h xs) (filter_map h ys)

-- one more item
pub filter_map_more : {X A B : Type 0} (h : A → Option B) (v : X → A) (items : List X) (i : ℕ) (x : X) → i < length items → x ≡ get_or items i x → filter_map h (map v (take (i + 1) items)) ≡ filter_map h (map v (take i items)) ++ option_to_list (h (v x))
filter_map_more h v items i x l e =
    ap (filter_map h) (map_more v items i x l e) ∙ filter_map-append h (map v (take i items)) (v x ∷ [])
    ∙ ap (λ rest. filter_map h (map v (take i items)) ++ rest) (cons_option-nil (h (v x)))

enumerate_from-append : {A : Type 0} (n : ℕ) (xs ys : List A) → enumerate_from n (xs ++ ys) ≡ enumerate_from n xs ++ enumerate_from (n + length xs) ys
enumerate_from-append n [] ys = ap (λ k. enumerate_from k ys) (sym (add-zero n))
enumerate_from-append n (x ∷ xs) ys = ap (λ rest. (n, x) ∷ rest) (enumerate_from-append (n + 1) xs ys ∙ ap (λ k. enumerate_from (n + 1) xs ++ enumerate_from k ys) (omega arith))

one_more : (pick : Data → Option Data) (xs : List Data) (x : Data) (i : ℕ) → length xs ≡ i → picked pick (xs ++ x ∷ []) ≡ picked pick xs ++ option_to_list (option_map (λ found. (i, found)) (pick x))
one_more pick xs x i e =
    let at : ℕ × Data → Option (ℕ × Data) = λ entry. option_map (λ found. (entry.0, found)) (pick entry.1) in
    ap (filter_map at) (enumerate_from-append 0 xs (x ∷ []) ∙ ap (λ k. enumerate_from 0 xs ++ (k, x) ∷ []) (zero-add (length xs) ∙ e))
    ∙ filter_map-append at (enumerate_from 0 xs) ((i, x) ∷ []) ∙ ap (λ rest. picked pick xs ++ rest) (cons_option-nil (at (i, x)))

more : (pick : Data → Option Data) (items : List Value) (i : ℕ) (x : Value) → i < length items → x ≡ get_or items i x → picked pick (map view (take (i + 1) items)) ≡ picked pick (map view (take i items)) ++ option_to_list (option_map (λ found. (i, found)) (pick (view x)))
more pick items i x l e = ap (picked pick) (map_more view items i x l e) ∙ one_more pick (map view (take i items)) (view x) i (count view items i l)

-- one more item, of which something is picked
pub picked_some : (pick : Data → Option Data) (items : List Value) (i : ℕ) (x : Value) (out : List Found) (entry : Found) → i < length items → x ≡ get_or items i x → map found_view out ≡ picked pick (map view (take i items)) → entry.position ≡ i → Some (view entry.value.now) ≡ pick (view x) → map found_view (out ++ entry ∷ []) ≡ picked pick (map view (take (i + 1) items))
picked_some pick items i x out entry l e so_far at found =
    map-append found_view out (entry ∷ []) ∙ ap (λ front. front ++ found_view entry ∷ []) so_far
    ∙ ap (λ n. picked pick (map view (take i items)) ++ (n, view entry.value.now) ∷ []) at
    ∙ ap (λ o. picked pick (map view (take i items)) ++ option_to_list (option_map (λ (found : Data). (i, found)) o)) found
    ∙ sym (more pick items i x l e)

-- one more item, of which nothing is picked
pub picked_none : (pick : Data → Option Data) (items : List Value) (i : ℕ) (x : Value) (out : List Found) → i < length items → x ≡ get_or items i x → map found_view out ≡ picked pick (map view (take i items)) → None ≡ pick (view x) → map found_view out ≡ picked pick (map view (take (i + 1) items))
picked_none pick items i x out l e so_far found =
    so_far ∙ sym (append-nil (picked pick (map view (take i items))))
    ∙ ap (λ o. picked pick (map view (take i items)) ++ option_to_list (option_map (λ (found : Data). (i, found)) o)) found
    ∙ sym (more pick items i x l e)

-- an entry that isn't ignored, and one that is
pub tenant_kept : (entry : Data) → is_ignored entry ≡ false → Some entry ≡ tenant_at entry
tenant_kept entry e = ap (λ b. cond b None (Some entry)) (sym e)

pub tenant_ignored : (entry : Data) → is_ignored entry ≡ true → None ≡ tenant_at entry
tenant_ignored entry e = ap (λ b. cond b None (Some entry)) (sym e)

-- nothing was found
pub nothing : {A B : Type 0} (f : A → B) (o : Option B) (r : Option A) → option_map f r ≡ o → ((x : A) → r ≡ Some x → ⊥) → None ≡ o
nothing f o None e h = e
nothing f o (Some x) e h = absurd (h x refl)
