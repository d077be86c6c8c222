-- In the journal of a pipeline each build set begins and ends at most once, and it begins before it ends.
use Rattle.std.proofs.Common.{◌≡◌, ◌∙◌, ap, refl, sym, subst, ℕ, ◌+◌, ◌-◌, ◌≤◌, List, [], ◌∷◌, ◌++◌, Option, Some, append-nil, append_assoc, arith, map, rules}
use Rattle.std.specs.List.{cons_option, filter_map, find, range_with_len}
use Rattle.gate_record.specs.declared.ids.ManagerKind.{ManagerKind}
use Rattle.gate_record.specs.declared.ids.Stamp.{Stamp}
use Rattle.gate_items.specs.declared.action.Action.{Action}
use Rattle.gate_items.specs.declared.action.Action.TheVariants as action
use Rattle.gate_items.specs.declared.action.Outcome.{Outcome}
use Rattle.gate_items.specs.declared.action.Outcome.TheVariants.{Applied, Discarded}
use Rattle.gate_items.specs.declared.item.QueueItem.{QueueItem}
use Rattle.gate_items.specs.declared.item.Report.{Report}
use Rattle.gate_items.specs.History.{after, start}
use Rattle.gate_items.specs.Machine.{State, apply, has_set}
use Rattle.gate_items.specs.Sets.{DiscardsChangeNothing, EachBeginsAndEndsOnce, all_begun, all_cancelled, all_reported, begun, cancelled, ends, how_often, reported, reported_sets, sets_of}
use Rattle.gate_items.proofs.Balances.{count-append, often}
use Rattle.std.proofs.lemmas.List.{map-append}
use Rattle.std.proofs.lemmas.List.Elements.{filter_map-append}
use Rattle.gate_journal.specs.declared.cause.CancelCause.TheVariants.{Ahead}
use Rattle.gate_journal.specs.Facts.{Fact, FactsBeginAndEndOnce, begin_facts, begun_by, cancel_facts, cancels, ended_by, facts_after, facts_of, reports, result_facts}
use Rattle.gate_journal.specs.Queues.{actions_of}
use Rattle.gate_journal.proofs.Following.{one_more}

-- an action with its stamp
abbrev Stamped : Type 0
Stamped = Option Stamp × Action

often_more : (n : ℕ) (xs ys : List ℕ) → how_often n (xs ++ ys) ≡ how_often n xs + how_often n ys
often_more n xs ys = often n (xs ++ ys) ∙ count-append n xs ys ∙ (λ i. sym (often n xs) i + sym (often n ys) i)

-- ---- what facts of one kind begin and end

abbrev Begun : List Fact → List ℕ
Begun facts = filter_map begun_by facts

abbrev Ended : List Fact → List ℕ
Ended facts = filter_map ended_by facts

results_begin_none : (action : Action) → Begun (result_facts action) ≡ []
results_begin_none (action.Trigger key patchset jobs) = refl
results_begin_none (action.Result result) = refl
results_begin_none (action.Manage manage) = refl

results_end_none : (action : Action) → Ended (result_facts action) ≡ []
results_end_none (action.Trigger key patchset jobs) = refl
results_end_none (action.Result result) = refl
results_end_none (action.Manage manage) = refl

ahead_begin_none : (sets : List ℕ) → Begun (map (cancels Ahead) sets) ≡ []
ahead_begin_none [] = refl
ahead_begin_none (set ∷ sets) = ahead_begin_none sets

cancels_begin_none : (action : Action) (sets : List ℕ) → Begun (cancel_facts action sets) ≡ []
cancels_begin_none action [] = refl
cancels_begin_none action (set ∷ sets) = ahead_begin_none sets

begins_begin : (stamp : Option Stamp) (next : ℕ) (items : List QueueItem) → Begun (begin_facts stamp next items) ≡ sets_of items
begins_begin stamp next [] = refl
begins_begin stamp next (item ∷ items) = ap (λ sets. item.set ∷ sets) (begins_begin stamp next items)

reports_begin_none : (all : List Report) → Begun (map reports all) ≡ []
reports_begin_none [] = refl
reports_begin_none (report ∷ all) = reports_begin_none all

ahead_end : (sets : List ℕ) → Ended (map (cancels Ahead) sets) ≡ sets
ahead_end [] = refl
ahead_end (set ∷ sets) = ap (λ rest. set ∷ rest) (ahead_end sets)

cancels_end : (action : Action) (sets : List ℕ) → Ended (cancel_facts action sets) ≡ sets
cancels_end action [] = refl
cancels_end action (set ∷ sets) = ap (λ rest. set ∷ rest) (ahead_end sets)

begins_end_none : (stamp : Option Stamp) (next : ℕ) (items : List QueueItem) → Ended (begin_facts stamp next items) ≡ []
begins_end_none stamp next [] = refl
begins_end_none stamp next (item ∷ items) = begins_end_none stamp next items

reports_end : (all : List Report) → Ended (map reports all) ≡ reported_sets all
reports_end [] = refl
reports_end (report ∷ all) = ap (λ rest. report.set ∷ rest) (reports_end all)

-- ---- the facts of one action

-- nothing begins where nothing changes
none_begun : (s : State) → sets_of (begun s s) ≡ []
none_begun s = let none : s.next - s.next ≡ 0 = omega arith in ap (λ n. sets_of (filter_map (λ set. find (has_set set) s.items) (range_with_len s.next n))) none

module _ (discards_nothing : DiscardsChangeNothing) (s : State) (stamp : Option Stamp) (action : Action) where
  abbrev Facts : Outcome → List Fact
  Facts outcome = facts_of s stamp action outcome (apply s action).0

  begun_by_facts : (outcome : Outcome) → (apply s action).1 ≡ outcome → Begun (Facts outcome) ≡ sets_of (begun s (apply s action).0)
  begun_by_facts Applied e =
      let s' = (apply s action).0 in
      let first = cancel_facts action (sets_of (cancelled s s')) in
      let middle = begin_facts stamp s'.next (begun s s') in
      let last = map reports (reported s s') in
      filter_map-append begun_by (result_facts action) (first ++ (middle ++ last))
      ∙ (λ i. results_begin_none action i ++ filter_map-append begun_by first (middle ++ last) i)
      ∙ (λ i. cancels_begin_none action (sets_of (cancelled s s')) i ++ filter_map-append begun_by middle last i)
      ∙ (λ i. begins_begin stamp s'.next (begun s s') i ++ reports_begin_none (reported s s') i)
      ∙ append-nil (sets_of (begun s s'))
  begun_by_facts (Discarded why) e = sym (ap (λ (s' : State). sets_of (begun s s')) (discards_nothing s action why e) ∙ none_begun s)

  ended_by_facts : (outcome : Outcome) (set : ℕ) → how_often set (Ended (Facts outcome)) ≤ how_often set (sets_of (cancelled s (apply s action).0)) + how_often set (reported_sets (reported s (apply s action).0))
  ended_by_facts Applied set =
      let s' = (apply s action).0 in
      let first = cancel_facts action (sets_of (cancelled s s')) in
      let middle = begin_facts stamp s'.next (begun s s') in
      let last = map reports (reported s s') in
      let all : Ended (result_facts action ++ (first ++ (middle ++ last))) ≡ sets_of (cancelled s s') ++ reported_sets (reported s s') =
      filter_map-append ended_by (result_facts action) (first ++ (middle ++ last))
      ∙ (λ i. results_end_none action i ++ filter_map-append ended_by first (middle ++ last) i)
      ∙ (λ i. cancels_end action (sets_of (cancelled s s')) i ++ filter_map-append ended_by middle last i)
      ∙ (λ i. sets_of (cancelled s s') ++ (begins_end_none stamp s'.next (begun s s') i ++ reports_end (reported s s') i)) in
      let counts = ap (how_often set) all ∙ often_more set (sets_of (cancelled s s')) (reported_sets (reported s s')) in
      omega (arith, counts)
  ended_by_facts (Discarded why) set = omega arith

-- ---- the facts of actions, one after another

module _ (discards_nothing : DiscardsChangeNothing) where
  all_begun_by : (s : State) (told : List Stamped) → Begun (facts_after s told) ≡ all_begun s (actions_of told)
  all_begun_by s [] = refl
  all_begun_by s ((stamp, action) ∷ told) =
      let s' = (apply s action).0 in
      let own = facts_of s stamp action (apply s action).1 s' in
      filter_map-append begun_by own (facts_after s' told)
      ∙ (λ i. begun_by_facts discards_nothing s stamp action (apply s action).1 refl i ++ all_begun_by s' told i)

  all_ended_by : (s : State) (told : List Stamped) (set : ℕ) → how_often set (Ended (facts_after s told)) ≤ ends set s (actions_of told)
  all_ended_by s [] set = omega arith
  all_ended_by s ((stamp, action) ∷ told) set =
      let s' = (apply s action).0 in
      let own = facts_of s stamp action (apply s action).1 s' in
      let counts = ap (how_often set) (filter_map-append ended_by own (facts_after s' told)) ∙ often_more set (Ended own) (Ended (facts_after s' told)) in
      let cancels_too = often_more set (sets_of (cancelled s s')) (all_cancelled s' (actions_of told)) in
      let reports_too = often_more set (reported_sets (reported s s')) (all_reported s' (actions_of told)) in
      omega (arith, counts, cancels_too, reports_too, ended_by_facts discards_nothing s stamp action (apply s action).1 set, all_ended_by s' told set)

  facts_more : (s : State) (before : List Stamped) (one : Stamped) → facts_after s (before ++ one ∷ []) ≡ facts_after s before ++ facts_of (after s (actions_of before)) one.0 one.1 (apply (after s (actions_of before)) one.1).1 (apply (after s (actions_of before)) one.1).0
  facts_more s [] one = append-nil (facts_of s one.0 one.1 (apply s one.1).1 (apply s one.1).0)
  facts_more s (first ∷ before) one =
      let s' = (apply s first.1).0 in
      let own = facts_of s first.0 first.1 (apply s first.1).1 s' in
      ap (λ rest. own ++ rest) (facts_more s' before one) ∙ sym (append_assoc own (facts_after s' before) _)

-- where a value stands in two lists, one behind the other
data StandsIn (xs ys past rest : List Fact) (x : Fact) : Type 0 where
  in_first : (rest' : List Fact) → xs ≡ past ++ x ∷ rest' → StandsIn xs ys past rest x
  in_second : (past' : List Fact) → past ≡ xs ++ past' → ys ≡ past' ++ x ∷ rest → StandsIn xs ys past rest x

further : (y : Fact) (xs ys past rest : List Fact) (x : Fact) → StandsIn xs ys past rest x → StandsIn (y ∷ xs) ys (y ∷ past) rest x
further y xs ys past rest x (in_first rest' e) = in_first rest' (ap (λ all. y ∷ all) e)
further y xs ys past rest x (in_second past' e f) = in_second past' (ap (λ all. y ∷ all) e) f

stands_in : (xs ys past rest : List Fact) (x : Fact) → xs ++ ys ≡ past ++ x ∷ rest → StandsIn xs ys past rest x
stands_in [] ys past rest x e = in_second past refl e
stands_in (y ∷ xs) ys [] rest x e = let same : y ≡ x = cc in in_first xs (ap (λ z. z ∷ xs) same)
stands_in (y ∷ xs) ys (z ∷ past) rest x e =
    let same : y ≡ z = cc in
    let others : xs ++ ys ≡ past ++ x ∷ rest = cc in
    subst (λ first. StandsIn (y ∷ xs) ys (first ∷ past) rest x) same (further y xs ys past rest x (stands_in xs ys past rest x others))

-- it is among these
ended_is_there : (past rest : List Fact) (fact : Fact) (set : ℕ) → ended_by fact ≡ Some set → 1 ≤ how_often set (Ended (past ++ fact ∷ rest))
ended_is_there past rest fact set e =
    let parts = filter_map-append ended_by past (fact ∷ rest) ∙ ap (λ (found : Option ℕ). Ended past ++ cons_option found (Ended rest)) e in
    let counts = ap (how_often set) parts ∙ often_more set (Ended past) (set ∷ Ended rest) in
    let one = often_more set (set ∷ []) (Ended rest) in
    let it : how_often set (set ∷ []) ≡ 1 = search rules in
    omega (arith, counts, one, it)

module _ (discards_nothing : DiscardsChangeNothing) (once : EachBeginsAndEndsOnce) (manager : ManagerKind) where
  abbrev First : State
  First = start manager 0

  after_more : (before : List Stamped) (one : Stamped) → after First (actions_of (before ++ one ∷ [])) ≡ (apply (after First (actions_of before)) one.1).0
  after_more before one = ap (after First) (map-append (λ (x : Stamped). x.1) before (one ∷ [])) ∙ one_more First (actions_of before) one.1

  -- the action of a fact came after that which began the build set
  began : (before : List Stamped) (one : Stamped) (past rest : List Fact) (fact : Fact) (set : ℕ) →
      facts_of (after First (actions_of before)) one.0 one.1 (apply (after First (actions_of before)) one.1).1 (apply (after First (actions_of before)) one.1).0 ≡ past ++ fact ∷ rest → ended_by fact ≡ Some set →
      how_often set (Begun (facts_after First before)) ≡ 1
  began before one past rest fact set e is =
      let s = after First (actions_of before) in
      let there : 1 ≤ how_often set (Ended (past ++ fact ∷ rest)) = ended_is_there past rest fact set is in
      let same = ap (λ facts. how_often set (Ended facts)) e in
      let within = ended_by_facts discards_nothing s one.0 one.1 (apply s one.1).1 set in
      let cancels_too = ap (how_often set) (append-nil (sets_of (cancelled s (apply s one.1).0))) in
      let reports_too = ap (how_often set) (append-nil (reported_sets (reported s (apply s one.1).0))) in
      let current = once.was_current manager 0 (actions_of before) one.1 set (omega (arith, there, same, within, cancels_too, reports_too)) in
      let begun_once = once.begins manager 0 (actions_of before) [] set current in
      ap (how_often set) (all_begun_by discards_nothing First before ∙ ap (all_begun First) (sym (append-nil (actions_of before)))) ∙ begun_once

  -- where the fact stands: among those of the next action, or after them
  by_place : (told before : List Stamped) (one : Stamped) (past rest : List Fact) (fact : Fact) (set : ℕ) → ended_by fact ≡ Some set →
      ((past' : List Fact) → facts_after (after First (actions_of (before ++ one ∷ []))) told ≡ past' ++ fact ∷ rest → 1 ≤ how_often set (Begun (facts_after First (before ++ one ∷ []))) + how_often set (Begun past')) →
      StandsIn (facts_of (after First (actions_of before)) one.0 one.1 (apply (after First (actions_of before)) one.1).1 (apply (after First (actions_of before)) one.1).0) (facts_after (apply (after First (actions_of before)) one.1).0 told) past rest fact →
      1 ≤ how_often set (Begun (facts_after First before)) + how_often set (Begun past)
  by_place told before one past rest fact set is goes_on (in_first rest' here) = let one_time = began before one past rest' fact set here is in omega (arith, one_time)
  by_place told before one past rest fact set is goes_on (in_second past' front there) =
      let own = facts_of (after First (actions_of before)) one.0 one.1 (apply (after First (actions_of before)) one.1).1 (apply (after First (actions_of before)) one.1).0 in
      let later : facts_after (after First (actions_of (before ++ one ∷ []))) told ≡ past' ++ fact ∷ rest = ap (λ s. facts_after s told) (after_more before one) ∙ there in
      let some = goes_on past' later in
      let own_too = ap (how_often set) (ap (filter_map begun_by) (facts_more discards_nothing First before one) ∙ filter_map-append begun_by (facts_after First before) own) ∙ often_more set (Begun (facts_after First before)) (Begun own) in
      let past_too = ap (how_often set) (ap (filter_map begun_by) front ∙ filter_map-append begun_by own past') ∙ often_more set (Begun own) (Begun past') in
      omega (arith, some, own_too, past_too)

  before_it : (told before : List Stamped) (past rest : List Fact) (fact : Fact) (set : ℕ) → facts_after (after First (actions_of before)) told ≡ past ++ fact ∷ rest → ended_by fact ≡ Some set →
      1 ≤ how_often set (Begun (facts_after First before)) + how_often set (Begun past)
  before_it [] before [] rest fact set e is = absurd (cc)
  before_it [] before (x ∷ past) rest fact set e is = absurd (cc)
  before_it (one ∷ told) before past rest fact set e is =
      let s = after First (actions_of before) in
      let own = facts_of s one.0 one.1 (apply s one.1).1 (apply s one.1).0 in
      by_place told before one past rest fact set is (λ past' later. before_it told (before ++ one ∷ []) past' rest fact set later is) (stands_in own (facts_after (apply s one.1).0 told) past rest fact e)

pub begin_and_end_once : DiscardsChangeNothing → EachBeginsAndEndsOnce → FactsBeginAndEndOnce
begin_and_end_once discards_nothing once = record {
  one_begin = λ manager told set. subst (λ sets. how_often set sets ≤ 1) (sym (all_begun_by discards_nothing (start manager 0) told)) (once.no_more manager 0 (actions_of told) set);
  one_end = λ manager told set. let all = all_ended_by discards_nothing (start manager 0) told set in let most = once.ends_once manager 0 (actions_of told) set in omega (arith, all, most);
  begun_before = λ manager told past rest fact set e is.
      let some = before_it discards_nothing once manager told [] past rest fact set e is in
      let most : how_often set (Begun (facts_after (start manager 0) told)) ≤ 1 = subst (λ sets. how_often set sets ≤ 1) (sym (all_begun_by discards_nothing (start manager 0) told)) (once.no_more manager 0 (actions_of told) set) in
      let parts = ap (λ facts. how_often set (Begun facts)) e ∙ ap (how_often set) (filter_map-append begun_by past (fact ∷ rest)) ∙ often_more set (Begun past) (Begun (fact ∷ rest)) in
      omega (arith, some, most, parts);
}
