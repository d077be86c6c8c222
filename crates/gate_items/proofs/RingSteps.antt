-- What a ring finds, and what it is after each step.
use Rattle.std.proofs.Common.{◌≡◌, ◌∙◌, ◌+◌, ◌<◌, ℕ, List, [], ◌∷◌, ◌++◌, Bool, true, false, cond, Option, Some, None, length, suc, zero, take, drop, get_or, map, nat_eq, nat_lt, not, set, slice_get, refl, sym, ap, arith, subst, Ok, Err}
use Rattle.std.specs.Prelude.{◌||◌, IsSome, OnSome, is_some, option_map}
use Rattle.std.specs.BTreeMap.{is_at}
use Rattle.std.specs.Cmp.{unsigned_ties}
use Rattle.std.specs.List.{find, list_any, position, position_or_len}
use Rattle.std.specs.List.Sorted.{IsBinarySearchResult}
use Rattle.std.specs.Ordering.{nat_cmp}
use Rattle.std.proofs.lemmas.Bool.{eq-eqb, eqb-true, ne_eqb}
use Rattle.std.proofs.lemmas.List.{drop-map, get_or-map, length-map, map-append, map-set, take-append-drop, take-map}
use Rattle.std.proofs.Math.Seq.{map-set_same}
use Rattle.std.proofs.lemmas.Option.{slice_get-get_or}
use Rattle.gate_items.specs.Inner.Agreement.{is_here}
use Rattle.gate_items.specs.KeyOrder.{key_cmp}
use Rattle.gate_items.specs.Keys.{is_same}
use Rattle.gate_items.specs.Ring.{item_of, items_of}
use Rattle.gate_items.specs.Inner.Ring.{EachFound, IsIndexed, IsRing, Rise, is_number, numbered_outcome, renumbered, set_of, tag_of}
use Rattle.gate_items.specs.Machine.{has_set, is_of, renewed, with_outcome, with_set}
use Rattle.gate_items.specs.declared.item.QueueItem.{QueueItem}
use Rattle.gate_items.specs.declared.key.Key.{Key}
use Rattle.gate_items.specs.declared.ring.Numbered.{Numbered}
use Rattle.gate_items.proofs.Entries.{at_place, at_same}
use Rattle.gate_items.proofs.Rings.{Tag, index_more, index_replaced, index_without, key_known, map_without, same_index, tags_of}
use Rattle.gate_items.proofs.Rising.{found_place, no_place, nowhere, rise_join, rise_last, rise_take, rise_without}
use Rattle.gate_items.proofs.Standing.{stands_nowhere}

abbrev pub number_of : Numbered → ℕ
number_of entry = entry.number

-- ---- searches

-- two tests that pass the same elements
abbrev Alike : (QueueItem → Bool) → (Numbered → Bool) → List Numbered → Type 0
Alike p q [] = Unit {0}
Alike p q (e ∷ es) = (p e.item ≡ q e) × Alike p q es

same_place : (p : QueueItem → Bool) (q : Numbered → Bool) (es : List Numbered) → Alike p q es → position_or_len p (items_of es) ≡ position_or_len q es
same_place p q [] a = refl
same_place p q (e ∷ es) a = ap (λ b. cond (not b) (1 + position_or_len p (items_of es)) 0) a.0 ∙ ap (λ n. cond (not (q e)) (1 + n) 0) (same_place p q es a.1)

same_position : (p : QueueItem → Bool) (q : Numbered → Bool) (es : List Numbered) → Alike p q es → position p (items_of es) ≡ position q es
same_position p q es a =
    ap (λ n. cond (nat_lt n (length (items_of es))) (Some n) None) (same_place p q es a)
    ∙ ap (λ m. cond (nat_lt (position_or_len q es) m) (Some (position_or_len q es)) None) (length-map es item_of)

alike_set : (n : ℕ) (es : List Numbered) → Alike (has_set n) (λ e. nat_eq e.item.set n) es
alike_set n [] = tt
alike_set n (e ∷ es) = (refl, alike_set n es)

alike_key : (f : Key → Option ℕ) (key : Key) (o : Option ℕ) (es : List Numbered) → f key ≡ o → EachFound f (tags_of es) → Alike (is_of key) (λ e. is_here o e.number) es
alike_key f key o [] found each = tt
alike_key f key o (e ∷ es) found each = (each.0 key ∙ ap (λ x. is_here x e.number) found, alike_key f key o es found each.1)

-- either way round
other_way : (n m : ℕ) → at_place n m ≡ nat_eq m n
other_way n m = by (nat_eq m n) refl
  where
    by : (b : Bool) → nat_eq m n ≡ b → at_place n m ≡ b
    by true e = at_same n m (sym (eqb-true m n e))
    by false e = sym (unsigned_ties n m) ∙ ne_eqb n m (λ same. clash (sym e ∙ eq-eqb m n (sym same)))
      where
        clash : false ≡ true → ⊥
        clash e = cc

some_entry : (es : List Numbered) (i : ℕ) → i < length es → Numbered
some_entry [] i h = absurd (omega (arith, h))
some_entry (e ∷ es) i h = e

module _ (next : ℕ) (es : List Numbered) (f : Key → Option ℕ) (ok : IsRing next es f) where
  pub set_found : (n i : ℕ) → i < length es → IsBinarySearchResult (λ e. nat_cmp (set_of e) n) es (Ok i) → Some i ≡ position (has_set n) (items_of es)
  set_found n i h found = found_place set_of n 0 next es ok.sets (λ e. nat_eq e.item.set n) (λ e. refl) (some_entry es i h) i h found ∙ sym (same_position (has_set n) (λ e. nat_eq e.item.set n) es (alike_set n es))

  pub set_nowhere : (n i : ℕ) → IsBinarySearchResult (λ e. nat_cmp (set_of e) n) es (Err i) → None ≡ position (has_set n) (items_of es)
  set_nowhere n i parted = no_place set_of n 0 next es ok.sets (λ e. nat_eq e.item.set n) (λ e. refl) i parted ∙ sym (same_position (has_set n) (λ e. nat_eq e.item.set n) es (alike_set n es))

  numbers_rise : Rise 0 next (map number_of es)
  numbers_rise = subst (Rise 0 next) (by es) ok.index.rise
    where
      by : (xs : List Numbered) → map (λ (t : Tag). t.0) (tags_of xs) ≡ map number_of xs
      by [] = refl
      by (x ∷ xs) = ap (λ l. x.number ∷ l) (by xs)

  module _ (key : Key) (n : ℕ) (is : f key ≡ Some n) where
    pub key_found : (i : ℕ) → i < length es → IsBinarySearchResult (λ e. nat_cmp (number_of e) n) es (Ok i) → Some i ≡ position (is_of key) (items_of es)
    key_found i h found = found_place number_of n 0 next es numbers_rise (λ e. at_place n e.number) (λ e. other_way n e.number) (some_entry es i h) i h found ∙ sym (same_position (is_of key) (λ e. at_place n e.number) es (alike_key f key (Some n) es is ok.index.each))

    pub key_nowhere : (i : ℕ) → IsBinarySearchResult (λ e. nat_cmp (number_of e) n) es (Err i) → None ≡ position (is_of key) (items_of es)
    key_nowhere i parted = no_place number_of n 0 next es numbers_rise (λ e. at_place n e.number) (λ e. other_way n e.number) i parted ∙ sym (same_position (is_of key) (λ e. at_place n e.number) es (alike_key f key (Some n) es is ok.index.each))

  pub key_absent : (key : Key) → f key ≡ None → None ≡ position (is_of key) (items_of es)
  key_absent key is = sym (same_position (is_of key) (λ e. false) es (alike_key f key None es is ok.index.each) ∙ nowhere (λ (e : Numbered). false) es (λ k d h. refl))

-- ---- steps

items_renumbered : (n : ℕ) (es : List Numbered) → items_of (renumbered n es) ≡ renewed n (items_of es)
items_renumbered n [] = refl
items_renumbered n (e ∷ es) = ap (λ l. with_set n e.item ∷ l) (items_renumbered (n + 1) es)

tags_renumbered : (n : ℕ) (es : List Numbered) → tags_of (renumbered n es) ≡ tags_of es
tags_renumbered n [] = refl
tags_renumbered n (e ∷ es) = ap (λ l. tag_of e ∷ l) (tags_renumbered (n + 1) es)

sets_renumbered : (n : ℕ) (es : List Numbered) → Rise n (n + length es) (map set_of (renumbered n es))
sets_renumbered n [] = omega arith
sets_renumbered n (e ∷ es) =
    let same : (n + 1) + length es ≡ n + length (e ∷ es) = omega arith in
    (omega arith, subst (λ m. Rise (n + 1) m (map set_of (renumbered (n + 1) es))) same (sets_renumbered (n + 1) es))

module _ (next : ℕ) (es : List Numbered) (f : Key → Option ℕ) (ok : IsRing next es f) where
  -- new build sets from a place on
  module _ (k : ℕ) (es' : List Numbered) (e : es' ≡ take k es ++ renumbered next (drop k es)) where
    pub renewed_items : items_of es' ≡ take k (items_of es) ++ renewed next (drop k (items_of es))
    renewed_items =
        ap items_of e
        ∙ map-append item_of (take k es) (renumbered next (drop k es))
        ∙ ap (λ l. l ++ items_of (renumbered next (drop k es))) (sym (take-map item_of k es))
        ∙ ap (λ l. take k (items_of es) ++ l) (items_renumbered next (drop k es) ∙ ap (renewed next) (sym (drop-map item_of k es)))

    renewed_sets : Rise 0 (next + length (drop k es)) (map set_of es')
    renewed_sets =
        let front : Rise 0 next (map set_of (take k es)) = subst (Rise 0 next) (take-map set_of k es) (rise_take k 0 next (map set_of es) ok.sets) in
        subst (Rise 0 (next + length (drop k es))) (sym (ap (map set_of) e ∙ map-append set_of (take k es) (renumbered next (drop k es))))
        (rise_join 0 next (next + length (drop k es)) (map set_of (take k es)) (map set_of (renumbered next (drop k es))) front (sets_renumbered next (drop k es)))

    renewed_tags : tags_of es' ≡ tags_of es
    renewed_tags =
        ap tags_of e
        ∙ map-append tag_of (take k es) (renumbered next (drop k es))
        ∙ ap (λ l. tags_of (take k es) ++ l) (tags_renumbered next (drop k es))
        ∙ sym (map-append tag_of (take k es) (drop k es))
        ∙ ap tags_of (take-append-drop k es)

    pub renewed_ring : IsRing (next + length (drop k es)) es' f
    renewed_ring = record { sets = renewed_sets; index = same_index next (tags_of es) f ok.index (next + length (drop k es)) (tags_of es') (omega arith) renewed_tags }

  -- an outcome at a place
  pub recorded_ring : (k : ℕ) (name : List ℕ) (success : Bool) (es' : List Numbered) → k < length es → ((d : Numbered) → es' ≡ set es k (numbered_outcome name success (get_or es k d))) → IsRing next es' f
  recorded_ring k name success es' h e =
      let d : Numbered = some_entry es k h in record {
        sets = subst (Rise 0 next) (sym (ap (map set_of) (e d) ∙ map-set_same set_of es k (numbered_outcome name success (get_or es k d)) d refl)) ok.sets;
        index = same_index next (tags_of es) f ok.index next (tags_of es') (omega arith) (ap tags_of (e d) ∙ map-set_same tag_of es k (numbered_outcome name success (get_or es k d)) d refl);
      }

  module _ (k : ℕ) (entry : Numbered) (is : slice_get es k ≡ Some entry) where
    tag_is : slice_get (tags_of es) k ≡ Some (tag_of entry)
    tag_is = by es k is
      where
        by : (xs : List Numbered) (i : ℕ) → slice_get xs i ≡ Some entry → slice_get (tags_of xs) i ≡ Some (tag_of entry)
        by [] i h = cc
        by (x ∷ xs) zero h = ap (option_map tag_of) h
        by (x ∷ xs) (suc i) h = by xs i h

    -- an item is taken out
    pub removed_ring : (f' : Key → Option ℕ) → ((q : Key) → f' q ≡ cond (is_at (key_cmp entry.item.key) q) None (f q)) → IsRing next (take k es ++ drop (suc k) es) f'
    removed_ring f' fe = record {
      sets = subst (Rise 0 next) (sym (map_without set_of k es)) (rise_without k 0 next (map set_of es) ok.sets);
      index = subst (λ l. IsIndexed next l f') (sym (map_without tag_of k es)) (index_without next (tags_of es) f ok.index k (tag_of entry) tag_is f' fe);
    }

    -- its key is in the index
    pub known : (key : Key) → is_same entry.item.key key ≡ true → IsSome (f key)
    known key same = ap is_some (key_known next (tags_of es) f ok.index k (tag_of entry) tag_is key same)

    -- another of its key takes its place
    pub replaced_ring : (item : QueueItem) (f' : Key → Option ℕ) → item.set ≡ next → is_same entry.item.key item.key ≡ true → ((q : Key) → f' q ≡ cond (is_at (key_cmp item.key) q) (Some next) (f q)) → IsRing (next + 1) ((take k es ++ drop (suc k) es) ++ record { number = next; item = item } ∷ []) f'
    replaced_ring item f' set_is same fe =
        let added : Numbered = record { number = next; item = item } in
        let left : List Numbered = take k es ++ drop (suc k) es in record {
          sets = subst (Rise 0 (next + 1)) (sym (map-append set_of left (added ∷ []) ∙ ap (λ n. map set_of left ++ n ∷ []) set_is)) (rise_last 0 next (map set_of left) (subst (Rise 0 next) (sym (map_without set_of k es)) (rise_without k 0 next (map set_of es) ok.sets)));
          index = subst (λ l. IsIndexed (next + 1) l f') (sym (map-append tag_of left (added ∷ []) ∙ ap (λ l. l ++ (next, item.key) ∷ []) (map_without tag_of k es))) (index_replaced next (tags_of es) f ok.index k (tag_of entry) tag_is item.key same f' fe);
        }

  -- a key that no item has isn't in the index
  pub unknown : (key : Key) → None ≡ position (is_of key) (items_of es) → f key ≡ None
  unknown key e = by (f key) refl
    where
      by : (o : Option ℕ) → f key ≡ o → f key ≡ None
      by None is = is
      by (Some n) is = absurd (clash (stands_nowhere (is_of key) (items_of es) e) (all es ok.index.each (ok.index.live key n is)))
        where
          clash : find (is_of key) (items_of es) ≡ None → IsSome (find (is_of key) (items_of es)) → ⊥
          clash a b = cc

          all : (xs : List Numbered) → EachFound f (tags_of xs) → list_any (is_number n) (tags_of xs) ≡ true → IsSome (find (is_of key) (items_of xs))
          all [] each any = cc
          all (x ∷ xs) each any = at (is_number n (tag_of x)) (each.0 key ∙ ap (λ o. is_here o x.number) is) any (all xs each.1)
            where
              at : (b : Bool) → is_of key x.item ≡ b → (b || list_any (is_number n) (tags_of xs)) ≡ true → (list_any (is_number n) (tags_of xs) ≡ true → IsSome (find (is_of key) (items_of xs))) → IsSome (cond (is_of key x.item) (Some x.item) (find (is_of key) (items_of xs)))
              at true t any more = ap (λ b. is_some (cond b (Some x.item) (find (is_of key) (items_of xs)))) t
              at false t any more = ap (λ b. is_some (cond b (Some x.item) (find (is_of key) (items_of xs)))) t ∙ more any

  -- an item goes last
  pub added_ring : (item : QueueItem) (f' : Key → Option ℕ) → item.set ≡ next → f item.key ≡ None → ((q : Key) → f' q ≡ cond (is_at (key_cmp item.key) q) (Some next) (f q)) → IsRing (next + 1) (es ++ record { number = next; item = item } ∷ []) f'
  added_ring item f' set_is free fe =
      let added : Numbered = record { number = next; item = item } in record {
        sets = subst (Rise 0 (next + 1)) (sym (map-append set_of es (added ∷ []) ∙ ap (λ n. map set_of es ++ n ∷ []) set_is)) (rise_last 0 next (map set_of es) ok.sets);
        index = subst (λ l. IsIndexed (next + 1) l f') (sym (map-append tag_of es (added ∷ []))) (index_more next (tags_of es) f ok.index f' item.key free fe);
      }

pub removed_items : (es : List Numbered) (k : ℕ) → items_of (take k es ++ drop (suc k) es) ≡ take k (items_of es) ++ drop (k + 1) (items_of es)
removed_items es k = let one : suc k ≡ k + 1 = omega arith in map_without item_of k es ∙ ap (λ n. take k (items_of es) ++ drop n (items_of es)) one

pub item_is : (es : List Numbered) (k : ℕ) (entry : Numbered) → slice_get es k ≡ Some entry → slice_get (items_of es) k ≡ Some entry.item
item_is [] k entry h = cc
item_is (x ∷ xs) zero entry h = ap (option_map item_of) h
item_is (x ∷ xs) (suc k) entry h = item_is xs k entry h

-- what stands at a place that a list has
pub at_it : (es : List Numbered) (k : ℕ) (entry : Numbered) → k < length es → entry ≡ get_or es k entry → slice_get es k ≡ Some entry
at_it es k entry h e = slice_get-get_or es k entry h ∙ ap (λ x. Some x) (sym e)

pub recorded_items : (es : List Numbered) (k : ℕ) (name : List ℕ) (success : Bool) (es' : List Numbered) → k < length es → ((d : Numbered) → es' ≡ set es k (numbered_outcome name success (get_or es k d))) → (d : QueueItem) → items_of es' ≡ set (items_of es) k (with_outcome name success (get_or (items_of es) k d))
recorded_items es k name success es' h e d =
    let some : Numbered = some_entry es k h in
    ap items_of (e some)
    ∙ map-set item_of es k (numbered_outcome name success (get_or es k some))
    ∙ ap (λ item. set (items_of es) k (with_outcome name success item)) (sym (get_or-map item_of es k some d h))

-- what stands at a place
pub record Spot (es : List Numbered) (k : ℕ) : Type 0 where
  pub entry : Numbered
  pub is : slice_get es k ≡ Some entry
  pub item : (d : QueueItem) → get_or (items_of es) k d ≡ entry.item

pub spot : (es : List Numbered) (k : ℕ) → k < length es → Spot es k
spot [] k h = absurd (omega (arith, h))
spot (e ∷ es) zero h = record { entry = e; is = refl; item = λ d. refl }
spot (e ∷ es) (suc k) h = let s : Spot es k = spot es k (omega (arith, h)) in record { entry = s.entry; is = s.is; item = s.item }

-- what holds where something was found
pub as_found : {A : Type 0} (o : Option A) (x : A) (P : Type 0) → o ≡ Some x → OnSome o P → P
as_found o x P e h = subst (λ r. OnSome r P) e h
