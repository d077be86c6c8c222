-- What is true after any history of calls.
use Rattle.std.proofs.Common.{◌≡◌, ◌∙◌, refl, sym, ap, subst, ℕ, suc, ◌<◌, ◌==◌, ◌-◌, List, [], ◌∷◌, ◌++◌, Bool, true, false, not, ◌&&◌, length, flat_map, Option, Some, None, if◌then◌else◌, append-nil, arith}
use Rattle.std.specs.List.{filter_map}
use Rattle.std.proofs.lemmas.List.Elements.{filter_map-append}
use Rattle.std.specs.Option.{option_to_list}
use Rattle.std.proofs.Math.Dec.{eqb-suc-zero}
use Rattle.std.proofs.lemmas.List.{append_assoc}
use Rattle.std.proofs.lemmas.List.Sums.{fold-append}
use Rattle.gate_record.specs.declared.ids.PipelineId.{PipelineId}
use Rattle.gate_record.specs.declared.transit.TenantItem.{TenantItem}
use Rattle.gate_record.specs.declared.transit.PipelineItem.{PipelineItem}
use Rattle.gate_record.specs.declared.transit.PipelineItem.TheVariants as pipeline
use Rattle.gate_config.specs.declared.generations.Generations.{Generations}
use Rattle.gate_config.specs.Lookups.{pipelines_of}
use Rattle.gate_tenant.specs.Limits.{most_gathered}
use Rattle.gate_tenant.specs.Dispatching.{all_marked, by_pipeline, chosen, chosen_item, all_marked_in, marks_after, no_marks, with_mark}
use Rattle.gate_tenant.specs.Histories.{AllWasGiven, EachGetsItsOwn, Happens, History, NothingIsLost, beginning, begins, comes_back, gathers, gives, item_for, items_for, matches, moves}
use Rattle.gate_tenant.specs.States.{State, has_ended, last_marks, matched, room_of}
use Rattle.gate_tenant.proofs.Ends.{ends_are}
use Rattle.gate_tenant.proofs.Shares.{of_items, of_marks}

pub record Holds (gens : Generations) (t : ℕ) (h : History) : Type 0 where
  -- the marks are those of all that was matched
  pub marks : h.state.marks ≡ marks_after h.done no_marks
  -- while something is gathered the outbox is empty, and some end mark is missing
  pub turn : (length h.state.gathered == 0) ≡ false → (all_marked gens.first t h.state.marks ≡ false) × (h.state.outbox.items ≡ []) × (h.out ≡ None)
  pub share : (p : ℕ) → p < length (pipelines_of gens.first t) → items_for p (h.given ++ (option_to_list h.out ++ h.state.outbox.items)) ≡ chosen gens t p h.done
  pub taken : h.done ++ h.state.gathered ≡ h.taken

and_true : (b : Bool) → (b && true) ≡ b
and_true false = refl
and_true true = refl

room_empty : {A B : Type 0} (gathered : List A) (items : List B) → 0 < (if length items == 0 then most_gathered - length gathered else 0) → items ≡ []
room_empty gathered [] h = refl
room_empty gathered (item ∷ items) h =
    let none : 0 < 0 = subst (λ b. 0 < (if b then most_gathered - length gathered else 0)) (eqb-suc-zero (length items)) h in
    absurd (omega (arith, none))

-- the outbox is empty, so some end mark is missing
goes_on : (gens : Generations) (t : ℕ) (s : State) → s.outbox.items ≡ [] → has_ended gens.first t s ≡ false → all_marked gens.first t s.marks ≡ false
goes_on gens t s empty e = sym (and_true (all_marked gens.first t s.marks)) ∙ subst (λ items. (all_marked gens.first t s.marks && (length items == 0)) ≡ false) empty e

module _ (gens : Generations) (t : ℕ) where
  starts : Holds gens t (beginning gens.first t)
  starts = record {
    marks = refl;
    turn = λ e. absurd (cc);
    share = λ p few. of_marks gens t p (all_marked gens.first t no_marks) few ∙ ap (λ b. if b then pipeline.End ∷ [] else []) (ends_are gens.first t []);
    taken = refl;
  }

  gathered : {h : History} (item : TenantItem) → Holds gens t h → h.out ≡ None → 0 < room_of h.state → has_ended gens.first t h.state ≡ false →
      Holds gens t (record h { state = record h.state { gathered = h.state.gathered ++ item ∷ [] }; taken = h.taken ++ item ∷ [] })
  gathered {h} item was no_out room e =
      let empty : h.state.outbox.items ≡ [] = room_empty h.state.gathered h.state.outbox.items room in
      record {
        marks = was.marks;
        turn = λ some. (goes_on gens t h.state empty e, empty, no_out);
        share = was.share;
        taken = sym (append_assoc h.done h.state.gathered (item ∷ [])) ∙ ap (λ xs. xs ++ item ∷ []) was.taken;
      }

  module _ {h : History} (was : Holds gens t h) (some : (length h.state.gathered == 0) ≡ false) where
    unmarked : all_marked gens.first t h.state.marks ≡ false
    unmarked = (was.turn some).0

    more_marks : marks_after h.state.gathered h.state.marks ≡ marks_after (h.done ++ h.state.gathered) no_marks
    more_marks = ap (marks_after h.state.gathered) was.marks ∙ sym (fold-append with_mark no_marks h.done h.state.gathered)

    -- the end marks come if all are there now
    now_ended : (all_marked gens.first t (marks_after h.state.gathered h.state.marks) && not (all_marked gens.first t h.state.marks)) ≡ all_marked_in gens.first t (h.done ++ h.state.gathered)
    now_ended =
        ap (λ b. all_marked gens.first t (marks_after h.state.gathered h.state.marks) && not b) unmarked
        ∙ and_true (all_marked gens.first t (marks_after h.state.gathered h.state.marks))
        ∙ ap (all_marked gens.first t) more_marks ∙ ends_are gens.first t (h.done ++ h.state.gathered)

    missing : all_marked_in gens.first t h.done ≡ false
    missing = sym (ends_are gens.first t h.done) ∙ ap (all_marked gens.first t) (sym was.marks) ∙ unmarked

    -- all that was matched was given
    given_so_far : (p : ℕ) → p < length (pipelines_of gens.first t) → items_for p h.given ≡ filter_map (chosen_item gens t p) h.done
    given_so_far p few =
        sym (ap (items_for p) (ap (λ o. h.given ++ (option_to_list o ++ h.state.outbox.items)) (was.turn some).2 ∙ ap (λ items. h.given ++ items) (was.turn some).1 ∙ append-nil h.given))
        ∙ was.share p few
        ∙ ap (λ b. filter_map (chosen_item gens t p) h.done ++ (if b then pipeline.End ∷ [] else [])) missing
        ∙ append-nil (filter_map (chosen_item gens t p) h.done)

    new_share : (p : ℕ) → p < length (pipelines_of gens.first t) → items_for p (h.given ++ (option_to_list h.out ++ (matched gens t h.state).outbox.items)) ≡ chosen gens t p (h.done ++ h.state.gathered)
    new_share p few =
        let events = flat_map (by_pipeline gens t) h.state.gathered in
        let marks = last_marks gens.first t h.state.gathered h.state.marks in
        let ends = if all_marked_in gens.first t (h.done ++ h.state.gathered) then pipeline.End ∷ [] else [] in
        ap (λ o. items_for p (h.given ++ (option_to_list o ++ (events ++ marks)))) (was.turn some).2
        ∙ filter_map-append (item_for p) h.given (events ++ marks)
        ∙ ap (λ xs. xs ++ items_for p (events ++ marks)) (given_so_far p few)
        ∙ ap (λ xs. filter_map (chosen_item gens t p) h.done ++ xs)
        (filter_map-append (item_for p) events marks
        ∙ ap (λ xs. xs ++ items_for p marks) (of_items gens t p h.state.gathered few)
        ∙ ap (λ xs. filter_map (chosen_item gens t p) h.state.gathered ++ xs)
        (of_marks gens t p (all_marked gens.first t (marks_after h.state.gathered h.state.marks) && not (all_marked gens.first t h.state.marks)) few
        ∙ ap (λ b. if b then pipeline.End ∷ [] else []) now_ended))
        ∙ sym (append_assoc (filter_map (chosen_item gens t p) h.done) (filter_map (chosen_item gens t p) h.state.gathered) ends)
        ∙ ap (λ xs. xs ++ ends) (sym (filter_map-append (chosen_item gens t p) h.done h.state.gathered))

    all_matched : Holds gens t (record h { state = matched gens t h.state; done = h.done ++ h.state.gathered })
    all_matched = record {
      marks = more_marks;
      turn = λ e. absurd (cc);
      share = new_share;
      taken = append-nil (h.done ++ h.state.gathered) ∙ was.taken;
    }

  -- an item goes from place to place, which it doesn't while something is gathered
  hands_on : {h : History} {items given : List (PipelineId × PipelineItem)} {place : Option PipelineId} {out : Option (PipelineId × PipelineItem)} (was : Holds gens t h) →
      ((all_marked gens.first t h.state.marks ≡ false) × (h.state.outbox.items ≡ []) × (h.out ≡ None) → ⊥) →
      ((p : ℕ) → p < length (pipelines_of gens.first t) → items_for p (given ++ (option_to_list out ++ items)) ≡ chosen gens t p h.done) →
      Holds gens t (record h { state = record h.state { outbox = record { items = items; out = place } }; given = given; out = out })
  hands_on was none share = record { marks = was.marks; turn = λ e. absurd (none (was.turn e)); share = share; taken = was.taken }

  pub holds : {h : History} → Happens gens t h → Holds gens t h
  holds begins = starts
  holds (gathers item before no_out room e) = gathered item (holds before) no_out room e
  holds (matches before some) = all_matched (holds before) some
  holds (moves {h} {first} {items} before no_out is) =
      let was = holds before in
      hands_on was (λ turn. let none : first ∷ items ≡ [] = sym is ∙ turn.1 in absurd (cc))
      (λ p few. ap (λ xs. items_for p (h.given ++ xs)) (sym (ap (λ o. option_to_list o ++ h.state.outbox.items) no_out ∙ is)) ∙ was.share p few)
  holds (gives {h} {item} before out) =
      let was = holds before in
      hands_on was (λ turn. let none : Some item ≡ None = sym out ∙ turn.2 in absurd (cc))
      (λ p few. ap (items_for p) (append_assoc h.given (item ∷ []) h.state.outbox.items ∙ ap (λ o. h.given ++ (option_to_list o ++ h.state.outbox.items)) (sym out)) ∙ was.share p few)
  holds (comes_back {h} {item} before out) =
      let was = holds before in
      hands_on was (λ turn. let none : Some item ≡ None = sym out ∙ turn.2 in absurd (cc))
      (λ p few. ap (λ o. items_for p (h.given ++ (option_to_list o ++ h.state.outbox.items))) (sym out) ∙ was.share p few)

pub each_gets_its_own : EachGetsItsOwn
each_gets_its_own gens t p h few happens = (holds gens t happens).share p few

pub nothing_is_lost : NothingIsLost
nothing_is_lost gens t h happens = (holds gens t happens).taken

nil_of : {A : Type 0} (xs : List A) → (length xs == 0) ≡ true → xs ≡ []
nil_of [] e = refl
nil_of (x ∷ xs) e = let some : (suc (length xs) == 0) ≡ false = eqb-suc-zero (length xs) in absurd (cc)

and_left : (a b : Bool) → (a && b) ≡ true → a ≡ true
and_left false b e = e
and_left true b e = refl

and_right : (a b : Bool) → (a && b) ≡ true → b ≡ true
and_right false b e = absurd (cc)
and_right true b e = e

none_gathered : (gens : Generations) (t : ℕ) (h : History) → Holds gens t h → all_marked gens.first t h.state.marks ≡ true → h.state.gathered ≡ []
none_gathered gens t h was marked = by (length h.state.gathered == 0) refl
  where
    by : (b : Bool) → (length h.state.gathered == 0) ≡ b → h.state.gathered ≡ []
    by true e = nil_of h.state.gathered e
    by false e = let missing : all_marked gens.first t h.state.marks ≡ false = (was.turn e).0 in absurd (cc)

pub all_was_given : AllWasGiven
all_was_given gens t p h few happens no_out e =
    let was : Holds gens t h = holds gens t happens in
    let marked : all_marked gens.first t h.state.marks ≡ true = and_left (all_marked gens.first t h.state.marks) (length h.state.outbox.items == 0) e in
    let empty : h.state.outbox.items ≡ [] = nil_of h.state.outbox.items (and_right (all_marked gens.first t h.state.marks) (length h.state.outbox.items == 0) e) in
    let all : h.done ≡ h.taken = sym (append-nil h.done) ∙ ap (λ items. h.done ++ items) (sym (none_gathered gens t h was marked)) ∙ was.taken in
    ap (items_for p) (sym (ap (λ o. h.given ++ (option_to_list o ++ h.state.outbox.items)) no_out ∙ ap (λ items. h.given ++ items) empty ∙ append-nil h.given))
    ∙ was.share p few ∙ ap (chosen gens t p) all
