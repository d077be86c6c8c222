-- An item that an index puts last, in place of an older one of its key or of none.
use Rattle.std.proofs.Common.{◌≡◌, ◌∙◌, ◌+◌, ◌<◌, ◌≤◌, ℕ, ℤ, List, [], ◌∷◌, ◌++◌, Bool, true, false, cond, Option, Some, None, length, refl, sym, ap, arith, subst}
use Rattle.std.specs.Prelude.{is_some, int_lt, ◌^◌}
use Rattle.std.specs.BTreeMap.{BTreeMap, get}
use Rattle.std.specs.List.{find}
use Rattle.std.specs.Map.{lookup, remove_entry, values_of}
use Rattle.std.specs.Ordering.{int_eq, nat_cmp}
use Rattle.std.proofs.lemmas.List.{length-append, map-append}
use Rattle.gate_items.specs.Inner.Agreement.{Agrees, Placed, cause, standing}
use Rattle.gate_items.specs.KeyOrder.{key_cmp}
use Rattle.gate_items.specs.Machine.{Makes, Plan, Refuses, State, after_plan, before, behind, is_complete, is_of, new_item, placing}
use Rattle.gate_items.specs.declared.action.Discard.{Discard}
use Rattle.gate_items.specs.declared.action.Discard.TheVariants.{Known, Numbers, Older}
use Rattle.gate_items.specs.declared.action.Outcome.TheVariants.{Applied, Discarded}
use Rattle.gate_items.specs.declared.item.QueueItem.{QueueItem}
use Rattle.gate_items.specs.declared.item.Report.{Report}
use Rattle.gate_items.specs.declared.key.Key.{Key}
use Rattle.gate_items.proofs.Acts.{applies, found_key, full, meant_key, no_key, seen_key}
use Rattle.gate_items.proofs.Agreement.{added, put_last, swapped}
use Rattle.gate_items.proofs.Entries.{Entry, Sight, at_place, look_front, removed_front}
use Rattle.gate_items.proofs.Shown.{Wait, means_without, quiet, shown}

abbrev no_cause : Option Discard
no_cause = None

refuse_by : (same lower : Bool) (newer : Plan) (why : Discard) → cond same (Some Known) (cond lower (Some Older) None) ≡ Some why → cond same (Refuses Known) (cond lower (Refuses Older) newer) ≡ Refuses why
refuse_by true lower newer why e = cc
refuse_by false true newer why e = cc
refuse_by false false newer why e = cc

newer_by : (same lower : Bool) (newer : Plan) → cond same (Some Known) (cond lower (Some Older) None) ≡ no_cause → cond same (Refuses Known) (cond lower (Refuses Older) newer) ≡ newer
newer_by true lower newer e = cc
newer_by false true newer e = cc
newer_by false false newer e = refl

-- what is left where there is an older item
abbrev pub left : Option ℕ → List Entry → List Entry
left None es = es
left (Some p) es = remove_entry (at_place p) es

fewer_by : (b : Bool) (e : Entry) (es rest : List Entry) → length rest ≤ length es → length (cond b es (e ∷ rest)) ≤ length (e ∷ es)
fewer_by true e es rest h = omega arith
fewer_by false e es rest h = omega (arith, h)

fewer : (p : ℕ) (es : List Entry) → length (remove_entry (at_place p) es) ≤ length es
fewer p [] = omega arith
fewer p (e ∷ es) = fewer_by (at_place p e.0) e es (remove_entry (at_place p) es) (fewer p es)

pub left_fewer : (o : Option ℕ) (es : List Entry) (x : Entry) → length (left o es ++ x ∷ []) ≤ length es + 1
left_fewer None es x = omega (arith, length-append es (x ∷ []))
left_fewer (Some p) es x = omega (arith, length-append (remove_entry (at_place p) es) (x ∷ []), fewer p es)

-- an item of a job waits
pub new_waits : (key : Key) (patchset : ℤ) (set : ℕ) (jobs : List (List ℕ)) → 0 < length jobs → is_complete (new_item key patchset set jobs) ≡ false
new_waits key patchset set [] h = absurd (omega (arith, h))
new_waits key patchset set (job ∷ jobs) h = refl

module _ (next : ℕ) (es : List Entry) (f : Key → Option ℕ) (g : ℕ → Option ℕ) (ok : Agrees next es f g) (told : List Report) (key : Key) (patchset : ℤ) (jobs : List (List ℕ)) where
  abbrev s : State
  s = shown next es told

  abbrev look : ℕ → Option QueueItem
  look q = lookup (at_place q) es

  abbrev item : QueueItem
  item = new_item key patchset next jobs

  abbrev planned : Plan
  planned = placing s key patchset jobs (find (is_of key) s.items)

  refused : (o : Option ℕ) (why : Discard) → f key ≡ o → cause patchset (standing o look) ≡ Some why → planned ≡ Refuses why
  refused None why e h = absurd (clash h)
    where
      clash : no_cause ≡ Some why → ⊥
      clash h = cc
  refused (Some p) why e h =
      let seen : Sight (lookup (at_place p) es) = seen_key next es f g ok key p e in
      ap (placing s key patchset jobs) (found_key next es f g ok key p seen.item e seen.is)
      ∙ refuse_by (int_eq patchset seen.item.patchset) (int_lt patchset seen.item.patchset) _ why (ap (cause patchset) (sym seen.is) ∙ h)

  pub places_refused : (o : Option ℕ) (why : Discard) → f key ≡ o → cause patchset (standing o look) ≡ Some why → (s, Discarded why) ≡ after_plan s planned
  places_refused o why e h = sym (ap (after_plan s) (refused o why e h))

  placed_last : (o : Option ℕ) → f key ≡ o → cause patchset (standing o look) ≡ None → planned ≡ Makes (values_of (left o es) ++ item ∷ []) 1
  placed_last None e h = ap (placing s key patchset jobs) (no_key next es f g ok key e)
  placed_last (Some p) e h =
      let seen : Sight (lookup (at_place p) es) = seen_key next es f g ok key p e in
      let same : next + 0 ≡ next = omega arith in
      ap (placing s key patchset jobs) (found_key next es f g ok key p seen.item e seen.is)
      ∙ newer_by (int_eq patchset seen.item.patchset) (int_lt patchset seen.item.patchset) _ (ap (cause patchset) (sym seen.is) ∙ h)
      ∙ ap (λ n. Makes (before (is_of key) (values_of es) ++ behind (is_of key) (values_of es) ++ new_item key patchset n jobs ∷ []) 1) same
      ∙ ap (λ l. Makes (l ++ item ∷ []) 1) (sym (means_without (is_of key) p es (meant_key next es f g ok key p e)))

  pub places_full : (o : Option ℕ) → f key ≡ o → cause patchset (standing o look) ≡ None → (next + 1 < 2 ^ 64 → ⊥) → (s, Discarded Numbers) ≡ after_plan s planned
  places_full o e h many = sym (ap (after_plan s) (placed_last o e h) ∙ full next 1 es told (values_of (left o es) ++ item ∷ []) (omega (arith, many)))

  pub place_applies : (o : Option ℕ) → f key ≡ o → cause patchset (standing o look) ≡ None → next + 1 < 2 ^ 64 → (after_plan s planned).1 ≡ Applied
  place_applies o e h fits = ap (λ p. (after_plan s p).1) (placed_last o e h) ∙ applies next 1 es told (values_of (left o es) ++ item ∷ []) fits

  pub places : (o : Option ℕ) (es' : List Entry) → f key ≡ o → cause patchset (standing o look) ≡ None → next + 1 < 2 ^ 64 → es' ≡ left o es ++ (next, item) ∷ [] → Wait es' → (shown (next + 1) es' told, Applied) ≡ after_plan s planned
  places o es' e h fits same waits = sym (
      ap (after_plan s) (placed_last o e h)
      ∙ quiet next (next + 1) 1 es es' (values_of (left o es) ++ item ∷ []) told (omega arith) fits (sym (map-append (λ (x : Entry). x.1) (left o es) ((next, item) ∷ [])) ∙ ap values_of (sym same)) waits
      )

-- ---- the index after it

pub record Anew (next : ℕ) (old new : List Entry) (f : Key → Option ℕ) (g : ℕ → Option ℕ) (o : Option ℕ) (item : QueueItem) : Type 0 where
  pub agrees : Agrees (next + 1) new f g
  pub same : new ≡ left o old ++ (next, item) ∷ []

pub placed : (next : ℕ) (items : BTreeMap ℕ QueueItem) (keys : BTreeMap Key ℕ) (sets : BTreeMap ℕ ℕ) (ok : Agrees next items.entries (get key_cmp keys) (get nat_cmp sets)) (item : QueueItem) (items' : BTreeMap ℕ QueueItem) (keys' : BTreeMap Key ℕ) (sets' : BTreeMap ℕ ℕ) → item.set ≡ next → is_complete item ≡ false → (o : Option ℕ) → get key_cmp keys item.key ≡ o → Placed o next item.key item items keys sets items' keys' sets' → Anew next items.entries items'.entries (get key_cmp keys') (get nat_cmp sets') o item
placed next items keys sets ok item items' keys' sets' set waits None e put =
    let same : items'.entries ≡ items.entries ++ (next, item) ∷ [] = put.items ∙ put_last next items.entries (get key_cmp keys) (get nat_cmp sets) ok item in
    record {
      agrees = added next items.entries (get key_cmp keys) (get nat_cmp sets) ok item items'.entries (get key_cmp keys') (get nat_cmp sets') e set waits same put.keys put.sets;
      same = same;
    }
placed next items keys sets ok item items' keys' sets' set waits (Some p) e swap =
    let seen : Sight (lookup (at_place p) items.entries) = seen_key next items.entries (get key_cmp keys) (get nat_cmp sets) ok item.key p e in
    let last : _ = put_last next items.entries (get key_cmp keys) (get nat_cmp sets) ok item in
    let same : items'.entries ≡ remove_entry (at_place p) items.entries ++ (next, item) ∷ [] = swap.items ∙ ap (remove_entry (at_place p)) last ∙ removed_front p items.entries (next, item) (ap is_some seen.is) in
    record {
      agrees = swapped next items.entries (get key_cmp keys) (get nat_cmp sets) ok p seen.item item e seen.is set waits items'.entries (get key_cmp keys') (get nat_cmp sets') same swap.keys (swap.sets seen.item (ap (lookup (at_place p)) last ∙ look_front p seen.item items.entries (next, item) seen.is));
      same = same;
    }

-- the same of an item that was made as this one, and of a copy of its key
pub placed_as : (next : ℕ) (items : BTreeMap ℕ QueueItem) (keys : BTreeMap Key ℕ) (sets : BTreeMap ℕ ℕ) (ok : Agrees next items.entries (get key_cmp keys) (get nat_cmp sets)) (item made : QueueItem) (copy : Key) (items' : BTreeMap ℕ QueueItem) (keys' : BTreeMap Key ℕ) (sets' : BTreeMap ℕ ℕ) → made ≡ item → copy ≡ item.key → item.set ≡ next → is_complete item ≡ false → (o : Option ℕ) → get key_cmp keys item.key ≡ o → Placed o next copy made items keys sets items' keys' sets' → Anew next items.entries items'.entries (get key_cmp keys') (get nat_cmp sets') o item
placed_as next items keys sets ok item made copy items' keys' sets' same copied set waits o e put =
    placed next items keys sets ok item items' keys' sets' set waits o e
    (subst (λ k. Placed o next k item items keys sets items' keys' sets') copied
    (subst (λ i. Placed o next copy i items keys sets items' keys' sets') same put))
