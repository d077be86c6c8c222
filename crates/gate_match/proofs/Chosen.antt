-- What a pipeline selects of a batch, joined over its connections in their generations.
use Rattle.std.proofs.Common.{◌≡◌, ◌∙◌, refl, sym, ap, ap₂, ℕ, ◌+◌, ◌<◌, ◌==◌, ◌&&◌, ◌||◌, Bool, true, false, List, [], ◌∷◌, ◌++◌, map, replicate, take, length, get_or, subst}
use Rattle.std.proofs.lemmas.Bool.{eq-eqb, eqb-true}
use Rattle.std.specs.List.{list_all, list_any, zip}
use Rattle.std.proofs.lemmas.List.{length-map}
use Rattle.std.proofs.lemmas.List.Elements.{All-head, All-tail}
use Rattle.std.proofs.lemmas.List.Folds.{list_all_more, list_any-append}
use Rattle.std.proofs.lemmas.Simd.{map-map, zip2-map}
use Rattle.std.proofs.lemmas.Slice.Zip.{firsts-zip, seconds-zip}
use Rattle.std.proofs.Math.Bool.{or-false, or-true, or_assoc}
use Rattle.gate_record.specs.declared.event.Event.{Event}
use Rattle.gate_config.specs.declared.generations.Generations.{Generations}
use Rattle.gate_config.specs.Generations.{config_at}
use Rattle.gate_config.specs.Lookups.{rules_of}
use Rattle.gate_config.specs.Selection.{is_listed, selects_event}
use Rattle.gate_lanes.specs.Masks.{is_among}
use Rattle.gate_match.specs.declared.active.Active.{Active}
use Rattle.gate_match.specs.Inner.Choosing.{AreActive, active_in, chosen, chosen_of, has_all, is_key_of, key_of, listed_in, same_key}
use Rattle.gate_match_rules.specs.Marks.{both, either}
use Rattle.gate_match.specs.Inner.Tables.{meets_any}
use Rattle.gate_match_rules.proofs.Rows.{map_alike, none_of}

-- the rows of a generation, and among them those of a connection
pub active_is : (gens : Generations) (t g c : ℕ) (generations conns : List ℕ) (events : List Event) →
    both (both (map (is_among (g ∷ [])) generations) (map (is_among (c ∷ [])) conns)) (listed_in (config_at gens g) t c events) ≡ active_in gens t (g, c) (zip (zip generations conns) events)
active_is gens t g c [] conns events = refl
active_is gens t g c (n ∷ generations) [] events = refl
active_is gens t g c (n ∷ generations) (w ∷ conns) [] = refl
active_is gens t g c (n ∷ generations) (w ∷ conns) (e ∷ events) =
    ap₂ ◌∷◌ (ap₂ (λ a b. (a && b) && is_listed (config_at gens g) t c e.project) (or-false (n == g)) (or-false (w == c))) (active_is gens t g c generations conns events)

and_left : (a b : Bool) → (a && b) ≡ true → a ≡ true
and_left true b e = refl
and_left false b e = e

and_right : (a b : Bool) → (a && b) ≡ true → b ≡ true
and_right true b e = e
and_right false b e = absurd cc

mono : {A : Type 0} (p q : A → Bool) (xs : List A) → ((x : A) → p x ≡ true → q x ≡ true) → list_all p xs ≡ true → list_all q xs ≡ true
mono p q [] h e = refl
mono p q (x ∷ xs) h e = ap₂ ◌&&◌ (h x (and_left (p x) (list_all p xs) e)) (mono p q xs h (and_right (p x) (list_all p xs) e))

same_as_itself : (key : ℕ × ℕ) → same_key key key ≡ true
same_as_itself key = ap₂ ◌&&◌ (eq-eqb key.0 key.0 refl) (eq-eqb key.1 key.1 refl)

are_same : (key other : ℕ × ℕ) → same_key key other ≡ true → key ≡ other
are_same key other e = λ i. (eqb-true key.0 other.0 (and_left (key.0 == other.0) (key.1 == other.1) e) i, eqb-true key.1 other.1 (and_right (key.0 == other.0) (key.1 == other.1) e) i)

-- as many keys as rows
pub keys_length : (gens conns : List ℕ) (n : ℕ) → length gens ≡ n → length conns ≡ n → n ≡ length (zip gens conns)
keys_length gens conns n e h = sym (sym (length-map (zip gens conns) (λ (key : ℕ × ℕ). key.0)) ∙ ap length (firsts-zip gens conns (h ∙ sym e)) ∙ e)

-- one key more
pub all_more : (old new : List Active) (keys : List (ℕ × ℕ)) (i : ℕ) → i < length keys → has_all old (take i keys) ≡ true →
    ((key : ℕ × ℕ) → is_key_of old key ≡ true → is_key_of new key ≡ true) → is_key_of new (get_or keys i (0, 0)) ≡ true → has_all new (take (i + 1) keys) ≡ true
all_more old new keys i h was keeps has =
    list_all_more (is_key_of new) keys i (0, 0) h ∙ ap₂ ◌&&◌ (mono (is_key_of old) (is_key_of new) (take i keys) keeps was) has

pub key_behind : (actives : List Active) (active : Active) (key : ℕ × ℕ) → key_of active ≡ key → is_key_of (actives ++ active ∷ []) key ≡ true
key_behind actives active key e =
    list_any-append (λ (a : Active). same_key key (key_of a)) actives (active ∷ [])
    ∙ ap (λ b. is_key_of actives key || (b || false)) (ap (same_key key) e ∙ same_as_itself key) ∙ or-true (is_key_of actives key)

pub key_before : (actives : List Active) (active : Active) (key : ℕ × ℕ) → is_key_of actives key ≡ true → is_key_of (actives ++ active ∷ []) key ≡ true
key_before actives active key e = list_any-append (λ (a : Active). same_key key (key_of a)) actives (active ∷ []) ∙ ap (λ b. b || is_key_of (active ∷ []) key) e

module _ (gens : Generations) (t p : ℕ) where
  abbrev Row : Type 0
  Row = (ℕ × ℕ) × Event

  -- the event is selected by its key
  abbrev selected_at : (ℕ × ℕ) → Event → Bool
  selected_at key event = selects_event (config_at gens key.0) t p key.1 event

  -- the event is one of this key that is selected
  of_key : ℕ × ℕ → Row → Bool
  of_key key row = (same_key row.0 key && is_listed (config_at gens key.0) t key.1 row.1.project) && meets_any (rules_of (config_at gens key.0) t p key.1) row.1

  chosen_is : (active : Active) (batch : List Row) → active.rows ≡ active_in gens t (key_of active) batch →
      chosen_of gens t p (map (λ (row : Row). row.1) batch) active ≡ map (of_key (key_of active)) batch
  unfolding of_key
  chosen_is active batch e =
      let asks = meets_any (rules_of (config_at gens active.key.generation) t p active.key.conn) in
      ap₂ both e (map-map asks (λ (row : Row). row.1) batch)
      ∙ zip2-map (λ a b. a && b) (λ (row : Row). same_key row.0 (key_of active) && is_listed (config_at gens active.key.generation) t active.key.conn row.1.project) (λ (row : Row). asks row.1) batch

  joined : (actives : List Active) (g : Row → Bool) (batch : List Row) → AreActive gens t batch actives →
      chosen gens t p (map (λ (row : Row). row.1) batch) (map g batch) actives ≡ map (λ row. g row || list_any (λ (a : Active). of_key (key_of a) row) actives) batch
  joined [] g batch h = map_alike g (λ row. g row || false) batch (λ row. sym (or-false (g row)))
  joined (a ∷ actives) g batch h =
      ap (λ rows. chosen gens t p (map (λ (row : Row). row.1) batch) rows actives)
      (ap (either (map g batch)) (chosen_is a batch (All-head (λ (active : Active). active.rows ≡ active_in gens t (key_of active) batch) a actives h)) ∙ zip2-map (λ a b. a || b) g (of_key (key_of a)) batch)
      ∙ joined actives (λ row. g row || of_key (key_of a) row) batch (All-tail (λ (active : Active). active.rows ≡ active_in gens t (key_of active) batch) a actives h)
      ∙ map_alike (λ row. (g row || of_key (key_of a) row) || list_any (λ (a : Active). of_key (key_of a) row) actives) (λ row. g row || (of_key (key_of a) row || list_any (λ (a : Active). of_key (key_of a) row) actives)) batch
      (λ row. or_assoc (g row) (of_key (key_of a) row) (list_any (λ (a : Active). of_key (key_of a) row) actives))

  one_key : (b : Bool) (key other : ℕ × ℕ) (event : Event) → same_key key other ≡ b → of_key other (key, event) ≡ (same_key key other && selected_at key event)
  unfolding of_key
  one_key true key other event e =
      subst (λ k. ((same_key key k && is_listed (config_at gens k.0) t k.1 event.project) && meets_any (rules_of (config_at gens k.0) t p k.1) event) ≡ (same_key key k && selected_at key event)) (are_same key other e)
      (ap (λ a. (a && is_listed (config_at gens key.0) t key.1 event.project) && meets_any (rules_of (config_at gens key.0) t p key.1) event) (same_as_itself key) ∙ sym (ap (λ a. a && selected_at key event) (same_as_itself key)))
  one_key false key other event e =
      ap (λ a. (a && is_listed (config_at gens other.0) t other.1 event.project) && meets_any (rules_of (config_at gens other.0) t p other.1) event) e ∙ sym (ap (λ a. a && selected_at key event) e)

  any_and : (actives : List Active) (key : ℕ × ℕ) (s : Bool) → list_any (λ (a : Active). same_key key (key_of a) && s) actives ≡ (is_key_of actives key && s)
  any_and [] key s = refl
  any_and (a ∷ actives) key s = ap (λ b. (same_key key (key_of a) && s) || b) (any_and actives key s) ∙ spread (same_key key (key_of a)) (is_key_of actives key) s
    where
      spread : (x y s : Bool) → ((x && s) || (y && s)) ≡ ((x || y) && s)
      spread true true true = refl
      spread true true false = refl
      spread true false true = refl
      spread true false false = refl
      spread false y s = refl

  selected : (actives : List Active) (key : ℕ × ℕ) (event : Event) → is_key_of actives key ≡ true → list_any (λ (a : Active). of_key (key_of a) (key, event)) actives ≡ selected_at key event
  selected actives key event has =
      alike actives ∙ any_and actives key (selected_at key event) ∙ ap (λ b. b && selected_at key event) has
    where
      alike : (actives : List Active) → list_any (λ (a : Active). of_key (key_of a) (key, event)) actives ≡ list_any (λ (a : Active). same_key key (key_of a) && selected_at key event) actives
      alike [] = refl
      alike (a ∷ actives) = ap₂ ◌||◌ (one_key (same_key key (key_of a)) key (key_of a) event refl) (alike actives)

  each_selected : (actives : List Active) (keys : List (ℕ × ℕ)) (events : List Event) → has_all actives keys ≡ true →
      map (λ row. false || list_any (λ (a : Active). of_key (key_of a) row) actives) (zip keys events) ≡ map (λ (row : Row). selected_at row.0 row.1) (zip keys events)
  each_selected actives [] events h = refl
  each_selected actives (key ∷ keys) [] h = refl
  each_selected actives (key ∷ keys) (e ∷ events) h =
      ap₂ ◌∷◌ (selected actives key e (and_left (is_key_of actives key) (has_all actives keys) h)) (each_selected actives keys events (and_right (is_key_of actives key) (has_all actives keys) h))

  -- the rows that a pipeline selects
  pub chosen_rows : (actives : List Active) (keys : List (ℕ × ℕ)) (events : List Event) → length events ≡ length keys → AreActive gens t (zip keys events) actives → has_all actives keys ≡ true →
      chosen gens t p events (replicate (length events) false) actives ≡ map (λ (row : Row). selected_at row.0 row.1) (zip keys events)
  chosen_rows actives keys events same right all =
      let batch = zip keys events in
      ap (λ es. chosen gens t p es (replicate (length es) false) actives) (sym (seconds-zip keys events same))
      ∙ ap (λ rows. chosen gens t p (map (λ (row : Row). row.1) batch) rows actives)
      (ap (λ n. replicate n false) (length-map batch (λ (row : Row). row.1)) ∙ sym (none_of batch))
      ∙ joined actives (λ row. false) batch right
      ∙ each_selected actives keys events all
