-- A run, one step after another.
use Rattle.std.proofs.Common.{◌≡◌, ◌∙◌, sym, ap, subst, refl, ℕ, suc, ◌+◌, ◌<◌, ◌≤◌, List, [], ◌∷◌, ◌++◌, length, map, append-nil, append_assoc, Option, Some, None, arith}
use Rattle.std.specs.Prelude.{slice_get}
use Rattle.std.specs.List.{cons_option, filter_map, zip}
use Rattle.gate_config.specs.declared.generations.Generations.{Generations}
use Rattle.gate_core.proofs.LowerLaws.{Laws}
use Rattle.gate_core.specs.declared.answer.Answer.{Answer}
use Rattle.gate_core.specs.declared.step.Step.{Step}
use Rattle.gate_core.specs.History.{History, accepted_records, accepted_in}
use Rattle.gate_core.specs.Promises.{AnswersRightly, Delivers, EveryRunDelivers, Keeps, Processes}
use Rattle.gate_core.specs.Reports.{report_after, report_of}
use Rattle.gate_core.specs.States.{ConnectionState, State}
use Rattle.gate_core.specs.Steps.{answers_to, first, left_by, run_from, step_of}
use Rattle.gate_core.specs.Worlds.{HasNumber}
use Rattle.gate_core.proofs.AllSteps.{holds_on}
use Rattle.gate_core.proofs.Beginnings.{first_holds}
use Rattle.gate_core.proofs.Streams.{Holds, count_of}

-- The invariant of a run: what has happened, what it leaves, and that no more steps are to come than there were.
pub record Runs (gens : Generations) (answers : List Answer) (state : State) (rest all : List Step) (total : ℕ) : Type 0 where
  pub past : History
  pub told : answers ≡ map (λ (event : Step × Answer). event.1) past
  pub goes : past ++ run_from gens state rest ≡ run_from gens (first gens) all
  pub reached : left_by gens state rest ≡ left_by gens (first gens) all
  pub holds : Holds gens past state
  pub few : length past + length rest ≤ total

pub begins : Laws → (gens : Generations) (steps : List Step) (total : ℕ) → length steps ≤ total → Runs gens [] (first gens) steps steps total
begins laws gens steps total few =
    let none : 0 + length steps ≤ total = omega (arith, few) in
    record { past = []; told = refl; goes = refl; reached = refl; holds = first_holds gens laws; few = none }

answers_push : (h : History) (s : Step) (a : Answer) → map (λ (event : Step × Answer). event.1) (h ++ (s, a) ∷ []) ≡ map (λ (event : Step × Answer). event.1) h ++ a ∷ []
answers_push [] s a = refl
answers_push (event ∷ h) s a = ap (λ (xs : List Answer). event.1 ∷ xs) (answers_push h s a)

length_push : (h : History) (s : Step) (a : Answer) → length (h ++ (s, a) ∷ []) ≡ suc (length h)
length_push [] s a = refl
length_push (event ∷ h) s a = ap suc (length_push h s a)

goes_on : (gens : Generations) (answers : List Answer) (state : State) (s : Step) (rest all : List Step) (total : ℕ) →
    Runs gens answers state (s ∷ rest) all total → Runs gens (answers ++ (step_of gens state s).1 ∷ []) (step_of gens state s).0 rest all total
goes_on gens answers state s rest all total runs =
    let next = step_of gens state s in
    let few : length runs.past + suc (length rest) ≤ total = runs.few in
    let longer : length (runs.past ++ (s, next.1) ∷ []) ≡ suc (length runs.past) = length_push runs.past s next.1 in
    record {
      past = runs.past ++ (s, next.1) ∷ [];
      told = ap (λ (xs : List Answer). xs ++ next.1 ∷ []) runs.told ∙ sym (answers_push runs.past s next.1);
      goes = append_assoc runs.past ((s, next.1) ∷ []) (run_from gens next.0 rest) ∙ runs.goes;
      reached = runs.reached;
      holds = holds_on gens runs.past state s runs.holds;
      few = omega (arith, few, longer);
    }

pub one_more : (gens : Generations) (answers : List Answer) (state next : State) (s : Step) (answer : Answer) (left rest all : List Step) (total : ℕ) →
    left ≡ s ∷ rest → (next, answer) ≡ step_of gens state s → Runs gens answers state left all total → Runs gens (answers ++ answer ∷ []) next rest all total
one_more gens answers state next s answer left rest all total front moved runs =
    subst (λ (r : State × Answer). Runs gens (answers ++ r.1 ∷ []) r.0 rest all total) (sym moved)
    (goes_on gens answers state s rest all total (subst (λ (steps : List Step). Runs gens answers state steps all total) front runs))

few_of : {Y : Type 0} (o : Option Y) (ys : List Y) (n : ℕ) → length ys ≤ n → length (cons_option o ys) ≤ suc n
few_of None ys n h = omega (arith, h)
few_of (Some y) ys n h = omega (arith, h)

few_picked : {X Y : Type 0} (f : X → Option Y) (xs : List X) → length (filter_map f xs) ≤ length xs
few_picked f [] = omega arith
few_picked f (x ∷ xs) = few_of (f x) (filter_map f xs) (length xs) (few_picked f xs)

-- a step that is still to come finds a number for its record
pub has_number : (gens : Generations) (answers : List Answer) (state : State) (left rest all : List Step) (s : Step) (total limit : ℕ) → left ≡ s ∷ rest → total < limit → Runs gens answers state left all total →
    (c : ℕ) (conn : ConnectionState) → slice_get state.connections c ≡ Some conn → conn.accepted + 1 < limit
has_number gens answers state left rest all s total limit front below runs c conn at =
    let count : conn.accepted ≡ length (accepted_records c runs.past) = ap count_of (sym at) ∙ (runs.holds.conns c).count in
    let picked : length (accepted_records c runs.past) ≤ length runs.past = few_picked (accepted_in c) runs.past in
    let more : length left ≡ suc (length rest) = ap length front in
    let few : length runs.past + length left ≤ total = runs.few in
    omega (arith, count, picked, more, few, below)

-- so each step finds the number that it asks for
pub finds_number : (state : State) (s : Step) → ((c : ℕ) (conn : ConnectionState) → slice_get state.connections c ≡ Some conn → conn.accepted + 1 < 18446744073709551616) → HasNumber state s
finds_number state s numbers c line conn offered at = numbers c conn at

-- ---- where nothing is left, the run is whole

pub all_reached : (gens : Generations) (answers : List Answer) (state : State) (rest all : List Step) (total : ℕ) → rest ≡ [] → Runs gens answers state rest all total → state ≡ left_by gens (first gens) all
all_reached gens answers state rest all total none runs = ap (left_by gens state) (sym none) ∙ runs.reached

pub all_answered : (gens : Generations) (answers : List Answer) (state : State) (rest all : List Step) (total : ℕ) → rest ≡ [] → Runs gens answers state rest all total → answers ≡ answers_to gens (first gens) all
all_answered gens answers state rest all total none runs =
    runs.told ∙ ap (map (λ (event : Step × Answer). event.1)) (sym (append-nil runs.past) ∙ ap (λ (steps : List Step). runs.past ++ run_from gens state steps) (sym none) ∙ runs.goes)

answered_each : (gens : Generations) (state : State) (steps : List Step) → length (answers_to gens state steps) ≡ length steps
answered_each gens state [] = refl
answered_each gens state (s ∷ steps) = ap suc (answered_each gens (step_of gens state s).0 steps)

pub all_counted : (gens : Generations) (answers : List Answer) (state : State) (rest all : List Step) (total : ℕ) → rest ≡ [] → Runs gens answers state rest all total → length answers ≡ length all
all_counted gens answers state rest all total none runs = ap length (all_answered gens answers state rest all total none runs) ∙ answered_each gens (first gens) all

-- ---- what is promised of every history

zip_answers : (gens : Generations) (state : State) (steps : List Step) → zip steps (answers_to gens state steps) ≡ run_from gens state steps
zip_answers gens state [] = refl
zip_answers gens state (s ∷ steps) = ap (λ (h : History). (s, (step_of gens state s).1) ∷ h) (zip_answers gens (step_of gens state s).0 steps)

history_is : (gens : Generations) (steps : List Step) (answers : List Answer) → answers ≡ answers_to gens (first gens) steps → run_from gens (first gens) steps ≡ zip steps answers
history_is gens steps answers e = sym (ap (λ (xs : List Answer). zip steps xs) e ∙ zip_answers gens (first gens) steps)

pub run_delivers : EveryRunDelivers → (gens : Generations) (steps : List Step) (answers : List Answer) → answers ≡ answers_to gens (first gens) steps → Delivers gens (zip steps answers)
run_delivers law gens steps answers e = subst (λ (h : History). Delivers gens h) (history_is gens steps answers e) (law.delivers gens steps)

pub run_rightly : EveryRunDelivers → (gens : Generations) (steps : List Step) (answers : List Answer) → answers ≡ answers_to gens (first gens) steps → AnswersRightly gens [] (zip steps answers)
run_rightly law gens steps answers e = subst (λ (h : History). AnswersRightly gens [] h) (history_is gens steps answers e) (law.rightly gens steps)

pub run_told : EveryRunDelivers → (gens : Generations) (steps : List Step) (answers : List Answer) (state : State) → answers ≡ answers_to gens (first gens) steps → state ≡ left_by gens (first gens) steps → report_of state ≡ report_after gens.first (zip steps answers)
run_told law gens steps answers state e reached =
    ap report_of reached ∙ law.report gens steps ∙ ap (report_after gens.first) (history_is gens steps answers e)

pub run_processes : EveryRunDelivers → (gens : Generations) (steps : List Step) (answers : List Answer) → answers ≡ answers_to gens (first gens) steps → Processes gens.first (zip steps answers)
run_processes law gens steps answers e = subst (λ (h : History). Processes gens.first h) (history_is gens steps answers e) (law.processes gens steps)

pub run_keeps : EveryRunDelivers → (gens : Generations) (steps : List Step) (answers : List Answer) (state : State) → answers ≡ answers_to gens (first gens) steps → state ≡ left_by gens (first gens) steps → Keeps gens.first (zip steps answers) state
run_keeps law gens steps answers state e reached =
    subst (λ (s : State). Keeps gens.first (zip steps answers) s) (sym reached)
    (subst (λ (h : History). Keeps gens.first h (left_by gens (first gens) steps)) (history_is gens steps answers e) (law.keeps gens steps))
