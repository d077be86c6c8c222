-- A ring of items and the index of its keys agree after each change.
use Rattle.std.proofs.Common.{◌≡◌, ◌∙◌, ◌+◌, ◌<◌, ◌≤◌, ℕ, List, [], ◌∷◌, ◌++◌, Bool, true, false, cond, Option, Some, None, suc, zero, take, drop, map, slice_get, refl, sym, ap, arith, subst}
use Rattle.std.specs.Prelude.{◌||◌, unwrap_or}
use Rattle.std.specs.BTreeMap.{is_at}
use Rattle.std.specs.List.{list_any}
use Rattle.std.proofs.lemmas.List.{map-append}
use Rattle.gate_items.specs.Inner.Agreement.{is_here}
use Rattle.gate_items.specs.KeyOrder.{key_cmp}
use Rattle.gate_items.specs.Inner.KeyOrder.{same_by_cmp}
use Rattle.gate_items.specs.Keys.{is_same}
use Rattle.gate_items.specs.Inner.Ring.{EachFound, IsIndexed, Rise, is_number, tag_of}
use Rattle.gate_items.specs.declared.key.Key.{Key}
use Rattle.gate_items.specs.declared.ring.Numbered.{Numbered}
use Rattle.gate_items.proofs.Agreement.{added_here, away_by, dropped, key_twice, new_here, new_live, others}
use Rattle.gate_items.proofs.Entries.{at_apart, at_place, at_same, at_true, here_true, tied, tied_both}
use Rattle.gate_items.proofs.Rising.{rise_last, rise_le, rise_more, rise_without}

abbrev pub Tag : Type 0
Tag = ℕ × Key

abbrev pub tags_of : List Numbered → List Tag
tags_of = map tag_of

abbrev numbers : List Tag → List ℕ
numbers = map (λ (t : Tag). t.0)

-- ---- numbers and keys, one after another

tag_at : (f : Key → Option ℕ) (tags : List Tag) (k : ℕ) (t : Tag) → EachFound f tags → slice_get tags k ≡ Some t → (key : Key) → is_same t.1 key ≡ is_here (f key) t.0
tag_at f [] k t each is = cc
tag_at f (x ∷ tags) zero t each is = subst (λ (y : Tag). (key : Key) → is_same y.1 key ≡ is_here (f key) y.0) (ap (λ (o : Option Tag). unwrap_or o x) is) each.0
tag_at f (x ∷ tags) (suc k) t each is = tag_at f tags k t each.1 is

-- numbers that aren't p
abbrev Apart : ℕ → List Tag → Type 0
Apart p [] = Unit {0}
Apart p (t ∷ tags) = (at_place p t.0 ≡ false) × Apart p tags

apart_low : (p low high : ℕ) (tags : List Tag) → p < low → Rise low high (numbers tags) → Apart p tags
apart_low p low high [] h r = tt
apart_low p low high (t ∷ tags) h r = (at_apart p t.0 (λ same. omega (arith, same, h, r.0)), apart_low p (t.0 + 1) high tags (omega (arith, h, r.0)) r.1)

low_tag : (low high : ℕ) (tags : List Tag) (k : ℕ) (t : Tag) → Rise low high (numbers tags) → slice_get tags k ≡ Some t → low ≤ t.0
low_tag low high [] k t r is = cc
low_tag low high (x ∷ tags) zero t r is = subst (λ (o : Option Tag). low ≤ of o) is r.0
  where
    of : Option Tag → ℕ
    of None = low
    of (Some y) = y.0
low_tag low high (x ∷ tags) (suc k) t r is = let more : x.0 + 1 ≤ t.0 = low_tag (x.0 + 1) high tags k t r.1 is in omega (arith, more, r.0)

first_is : (x t : Tag) (tags : List Tag) → slice_get (x ∷ tags) zero ≡ Some t → x.0 ≡ t.0
first_is x t tags is = ap (λ (o : Option Tag). of o) is
  where
    of : Option Tag → ℕ
    of None = x.0
    of (Some y) = y.0

apart_without : (low high : ℕ) (tags : List Tag) (k : ℕ) (t : Tag) → Rise low high (numbers tags) → slice_get tags k ≡ Some t → Apart t.0 (take k tags ++ drop (suc k) tags)
apart_without low high [] k t r is = cc
apart_without low high (x ∷ tags) zero t r is = apart_low t.0 (x.0 + 1) high tags (let same : x.0 ≡ t.0 = first_is x t tags is in omega (arith, same)) r.1
apart_without low high (x ∷ tags) (suc k) t r is =
    let more : x.0 + 1 ≤ t.0 = low_tag (x.0 + 1) high tags k t r.1 is in
    (at_apart t.0 x.0 (λ same. omega (arith, same, more)), apart_without (x.0 + 1) high tags k t r.1 is)

each_without : (f : Key → Option ℕ) (tags : List Tag) (k : ℕ) → EachFound f tags → EachFound f (take k tags ++ drop (suc k) tags)
each_without f [] zero each = tt
each_without f [] (suc k) each = tt
each_without f (x ∷ tags) zero each = each.1
each_without f (x ∷ tags) (suc k) each = (each.0, each_without f tags k each.1)

each_last : (f : Key → Option ℕ) (tags : List Tag) (t : Tag) → EachFound f tags → ((q : Key) → is_same t.1 q ≡ is_here (f q) t.0) → EachFound f (tags ++ t ∷ [])
each_last f [] t each one = (one, tt)
each_last f (x ∷ tags) t each one = (each.0, each_last f tags t each.1 one)

-- a part of what is seen of a list without an element
pub map_without : {X Y : Type 0} (g : X → Y) (k : ℕ) (xs : List X) → map g (take k xs ++ drop (suc k) xs) ≡ take k (map g xs) ++ drop (suc k) (map g xs)
map_without g zero [] = refl
map_without g zero (x ∷ xs) = refl
map_without g (suc k) [] = refl
map_without g (suc k) (x ∷ xs) = ap (λ l. g x ∷ l) (map_without g k xs)

numbers_without : (k : ℕ) (tags : List Tag) → numbers (take k tags ++ drop (suc k) tags) ≡ take k (numbers tags) ++ drop (suc k) (numbers tags)
numbers_without k tags = map_without (λ (t : Tag). t.0) k tags

any_or : (b c : Bool) → (b || c) ≡ true → b ≡ false → c ≡ true
any_or true c e h = cc
any_or false c e h = e

any_without : (n : ℕ) (tags : List Tag) (k : ℕ) (t : Tag) → slice_get tags k ≡ Some t → (t.0 ≡ n → ⊥) → list_any (is_number n) tags ≡ true → list_any (is_number n) (take k tags ++ drop (suc k) tags) ≡ true
any_without n [] k t is differs any = cc
any_without n (x ∷ tags) zero t is differs any = any_or (is_number n x) (list_any (is_number n) tags) any (at_apart n x.0 (λ same. differs (sym (first_is x t tags is) ∙ sym same)))
any_without n (x ∷ tags) (suc k) t is differs any = by (is_number n x) any (any_without n tags k t is differs)
  where
    by : (b : Bool) → (b || list_any (is_number n) tags) ≡ true → (list_any (is_number n) tags ≡ true → list_any (is_number n) (take k tags ++ drop (suc k) tags) ≡ true) → (b || list_any (is_number n) (take k tags ++ drop (suc k) tags)) ≡ true
    by true e more = refl
    by false e more = more e

any_low : (n low high : ℕ) (tags : List Tag) → Rise low high (numbers tags) → list_any (is_number n) tags ≡ true → n < high
any_low n low high [] r any = cc
any_low n low high (t ∷ tags) r any = by (is_number n t) refl any (any_low n (t.0 + 1) high tags r.1)
  where
    by : (b : Bool) → is_number n t ≡ b → (b || list_any (is_number n) tags) ≡ true → (list_any (is_number n) tags ≡ true → n < high) → n < high
    by true e any more = let same : n ≡ t.0 = at_true n t.0 e in let above : t.0 + 1 ≤ high = rise_le (t.0 + 1) high (numbers tags) r.1 in omega (arith, same, above)
    by false e any more = more any

any_more : (n : ℕ) (tags : List Tag) (t : Tag) → list_any (is_number n) tags ≡ true → list_any (is_number n) (tags ++ t ∷ []) ≡ true
any_more n [] t any = cc
any_more n (x ∷ tags) t any = by (is_number n x) any (any_more n tags t)
  where
    by : (b : Bool) → (b || list_any (is_number n) tags) ≡ true → (list_any (is_number n) tags ≡ true → list_any (is_number n) (tags ++ t ∷ []) ≡ true) → (b || list_any (is_number n) (tags ++ t ∷ [])) ≡ true
    by true e more = refl
    by false e more = more e

any_last : (tags : List Tag) (t : Tag) → list_any (is_number t.0) (tags ++ t ∷ []) ≡ true
any_last [] t = ap (λ b. b || false) (at_same t.0 t.0 refl)
any_last (x ∷ tags) t = by (is_number t.0 x) (any_last tags t)
  where
    by : (b : Bool) → list_any (is_number t.0) (tags ++ t ∷ []) ≡ true → (b || list_any (is_number t.0) (tags ++ t ∷ [])) ≡ true
    by true more = refl
    by false more = more

-- ---- an index that agrees

module _ (next : ℕ) (tags : List Tag) (f : Key → Option ℕ) (ok : IsIndexed next tags f) where
  pub same_index : (more : ℕ) (tags' : List Tag) → next ≤ more → tags' ≡ tags → IsIndexed more tags' f
  same_index more tags' h same = subst (λ (l : List Tag). IsIndexed more l f) (sym same) (record { rise = rise_more 0 next more (numbers tags) h ok.rise; each = ok.each; live = ok.live })

  number_low : (q : Key) (n : ℕ) → f q ≡ Some n → n < next
  number_low q n e = any_low n 0 next tags ok.rise (ok.live q n e)

  module _ (k : ℕ) (t : Tag) (is : slice_get tags k ≡ Some t) where
    tie : (q : Key) → is_same t.1 q ≡ is_at (key_cmp t.1) q
    tie q = same_by_cmp t.1 q

    mine : (q : Key) → is_same t.1 q ≡ is_here (f q) t.0
    mine = tag_at f tags k t ok.each is

    each_dropped : (f' : Key → Option ℕ) (rest : List Tag) → ((q : Key) → f' q ≡ cond (is_at (key_cmp t.1) q) None (f q)) → EachFound f rest → Apart t.0 rest → EachFound f' rest
    each_dropped f' [] fe each apart = tt
    each_dropped f' (x ∷ rest) fe each apart = (
      λ q. dropped (is_at (key_cmp t.1) q) (f q) (f' q) t.0 x.0 (is_same x.1 q) (is_same t.1 q) (fe q) (tie q) (mine q) apart.0 (each.0 q),
      each_dropped f' rest fe each.1 apart.1,
    )

    -- an item is taken out
    pub index_without : (f' : Key → Option ℕ) → ((q : Key) → f' q ≡ cond (is_at (key_cmp t.1) q) None (f q)) → IsIndexed next (take k tags ++ drop (suc k) tags) f'
    index_without f' fe = record {
      rise = subst (Rise 0 next) (sym (numbers_without k tags)) (rise_without k 0 next (numbers tags) ok.rise);
      each = each_dropped f' (take k tags ++ drop (suc k) tags) fe (each_without f tags k ok.each) (apart_without 0 next tags k t ok.rise is);
      live = λ q n e.
          let o : (f q ≡ Some n) × (t.0 ≡ n → ⊥) = others (is_at (key_cmp t.1) q) (f q) (f' q) t.0 n (is_same t.1 q) (fe q) (tie q) (mine q) e in
          any_without n tags k t is o.1 (ok.live q n o.0);
    }

    -- its key is in the index
    pub key_known : (q : Key) → is_same t.1 q ≡ true → f q ≡ Some t.0
    key_known q e = here_true (f q) t.0 (sym (mine q) ∙ e)

  each_added : (f' : Key → Option ℕ) (key : Key) (low : ℕ) (rest : List Tag) → f key ≡ None → ((q : Key) → f' q ≡ cond (is_at (key_cmp key) q) (Some next) (f q)) → Rise low next (numbers rest) → EachFound f rest → EachFound f' rest
  each_added f' key low [] free fe r each = tt
  each_added f' key low (x ∷ rest) free fe r each =
      let high : x.0 + 1 ≤ next = rise_le (x.0 + 1) next (numbers rest) r.1 in (
        λ q. added_here (is_at (key_cmp key) q) (f q) (f' q) next x.0 (is_same x.1 q) (fe q) (λ t. tied key q x.1 t ∙ each.0 key ∙ ap (λ o. is_here o x.0) free) (omega (arith, high)) (each.0 q),
        each_added f' key (x.0 + 1) rest free fe r.1 each.1,
      )

  -- an item is put last, whose key had none
  pub index_more : (f' : Key → Option ℕ) (key : Key) → f key ≡ None → ((q : Key) → f' q ≡ cond (is_at (key_cmp key) q) (Some next) (f q)) → IsIndexed (next + 1) (tags ++ (next, key) ∷ []) f'
  index_more f' key free fe = record {
    rise = subst (Rise 0 (next + 1)) (sym (map-append (λ (t : Tag). t.0) tags ((next, key) ∷ []))) (rise_last 0 next (numbers tags) ok.rise);
    each = each_last f' tags (next, key) (each_added f' key 0 tags free fe ok.rise ok.each)
        (λ q. new_here (is_at (key_cmp key) q) (f q) (f' q) next (is_same key q) (fe q) (same_by_cmp key q) (away_by (f q) next (number_low q)));
    live = λ q n e. new_live (is_at (key_cmp key) q) (f q) (f' q) next n (λ m. list_any (is_number m) (tags ++ (next, key) ∷ []) ≡ true) (fe q) (λ h. any_more n tags (next, key) (ok.live q n h)) (any_last tags (next, key)) e;
  }

-- an item takes the place of another of its key
pub index_replaced : (next : ℕ) (tags : List Tag) (f : Key → Option ℕ) (ok : IsIndexed next tags f) (k : ℕ) (t : Tag) → slice_get tags k ≡ Some t → (key : Key) → is_same t.1 key ≡ true → (f' : Key → Option ℕ) → ((q : Key) → f' q ≡ cond (is_at (key_cmp key) q) (Some next) (f q)) → IsIndexed (next + 1) ((take k tags ++ drop (suc k) tags) ++ (next, key) ∷ []) f'
index_replaced next tags f ok k t is key same f' fe =
    let tie : is_at (key_cmp t.1) key ≡ true = sym (same_by_cmp t.1 key) ∙ same in
    let gone : Key → Option ℕ = λ (q : Key). cond (is_at (key_cmp t.1) q) None (f q) in
    index_more next (take k tags ++ drop (suc k) tags) gone (index_without next tags f ok k t is gone (λ q. refl)) f' key
    (ap (λ b. cond b None (f key)) tie)
    (λ q. fe q ∙ key_twice (is_at (key_cmp key) q) (is_at (key_cmp t.1) q) (Some next) (f q) (tied_both t.1 key q tie))
