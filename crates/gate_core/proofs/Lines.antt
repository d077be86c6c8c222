-- A script that is played, one line after another.
use Rattle.std.proofs.Common.{◌≡◌, ◌∙◌, sym, ap, refl, ℕ, suc, ◌+◌, ◌<◌, ◌≤◌, List, [], ◌∷◌, ◌++◌, length, true, Option, Some, None, Result, Ok, Err, arith, append_assoc, append-nil}
use Rattle.std.specs.Prelude.{◌==◌}
use Rattle.std.specs.Str.Lines.{lines}
use Rattle.std.proofs.lemmas.Bool.{eqb-true}
use Rattle.gate_config.specs.declared.generations.Generations.{Generations}
use Rattle.gate_report.specs.declared.report.RunReport.{RunReport}
use Rattle.gate_core.specs.declared.script.ScriptFault.{ScriptFault}
use Rattle.gate_core.specs.declared.script.ScriptFault.TheVariants as fault
use Rattle.gate_core.specs.declared.script.Scripted.{Scripted}
use Rattle.gate_core.specs.declared.script.Scripted.TheVariants as line
use Rattle.gate_core.specs.declared.step.Step.{Step}
use Rattle.gate_core.specs.Faults.{FailsScript}
use Rattle.gate_core.specs.Inner.Replays.{PlaysLine, PlaysScript, played}
use Rattle.gate_core.specs.Output.{answer_line}
use Rattle.gate_report_text.specs.ReportText.{report_text}
use Rattle.gate_core.specs.Promises.{EveryRunDelivers}
use Rattle.gate_core.specs.Replays.{script_lines, steps_in}
use Rattle.gate_core.specs.Reports.{report_of}
use Rattle.gate_core.specs.Script.{lines_from, script_of, with_line}
use Rattle.gate_core.specs.Shows.{shown_text}
use Rattle.gate_core.specs.States.{State, items_at}
use Rattle.gate_core.specs.Steps.{first, left_by, step_of}
use Rattle.gate_core.specs.Worlds.{AcceptedAtMost, HasNumber}

-- ---- numbers

pub still_few : (n : ℕ) (state : State) → AcceptedAtMost n state → AcceptedAtMost (n + 1) state
still_few n state few c conn at = let some : conn.accepted ≤ n = few c conn at in omega (arith, some)

pub numbers_left : (n : ℕ) (state : State) (s : Step) → AcceptedAtMost n state → n + 1 < 18446744073709551616 → HasNumber state s
numbers_left n state s few room c line conn offered at = let some : conn.accepted ≤ n = few c conn at in omega (arith, some, room)

-- ---- lines with more behind them

printed_on : (gens : Generations) (state : State) (xs ys : List Scripted) → script_lines gens state (xs ++ ys) ≡ script_lines gens state xs ++ script_lines gens (left_by gens state (steps_in xs)) ys
printed_on gens state [] ys = refl
printed_on gens state (line.Step s ∷ xs) ys =
    ap (λ (bytes : List ℕ). answer_line (step_of gens state s).1 ++ bytes) (printed_on gens (step_of gens state s).0 xs ys)
    ∙ sym (append_assoc (answer_line (step_of gens state s).1) (script_lines gens (step_of gens state s).0 xs) (script_lines gens (left_by gens (step_of gens state s).0 (steps_in xs)) ys))
printed_on gens state (line.Show t p ∷ xs) ys =
    ap (λ (bytes : List ℕ). shown_text (items_at t p state) ++ bytes) (printed_on gens state xs ys)
    ∙ sym (append_assoc (shown_text (items_at t p state)) (script_lines gens state xs) (script_lines gens (left_by gens state (steps_in xs)) ys))

left_on : (gens : Generations) (state : State) (xs ys : List Scripted) → left_by gens state (steps_in (xs ++ ys)) ≡ left_by gens (left_by gens state (steps_in xs)) (steps_in ys)
left_on gens state [] ys = refl
left_on gens state (line.Step s ∷ xs) ys = left_on gens (step_of gens state s).0 xs ys
left_on gens state (line.Show t p ∷ xs) ys = left_on gens state xs ys

-- a line that was played
pub line_played : (gens : Generations) (state next : State) (text longer : List ℕ) (said : Option (List Scripted)) (n : ℕ) (done : Unit {0}) (rest : Result (List Scripted) ℕ) →
    PlaysLine gens state text said next longer n (Ok done) → played gens state text (with_line said n rest) ≡ played gens next longer rest
line_played gens state next text longer None n done rest h = absurd h
line_played gens state next text longer (Some xs) n done (Err line) h = refl
line_played gens state next text longer (Some xs) n done (Ok ys) h =
    let behind = left_by gens state (steps_in xs) in
    let printed : text ++ script_lines gens state (xs ++ ys) ≡ longer ++ script_lines gens next ys =
    ap (λ (bytes : List ℕ). text ++ bytes) (printed_on gens state xs ys)
    ∙ sym (append_assoc text (script_lines gens state xs) (script_lines gens behind ys))
    ∙ ap (λ (bytes : List ℕ). bytes ++ script_lines gens behind ys) (sym h.1)
    ∙ ap (λ (s : State). longer ++ script_lines gens s ys) (sym h.0) in
    let left : left_by gens state (steps_in (xs ++ ys)) ≡ left_by gens next (steps_in ys) =
    left_on gens state xs ys ∙ ap (λ (s : State). left_by gens s (steps_in ys)) (sym h.0) in
    ap (λ (bytes : List ℕ). Ok (bytes, left_by gens state (steps_in (xs ++ ys)))) printed ∙ ap (λ (s : State). Ok (longer ++ script_lines gens next ys, s)) left

-- ---- faults

abbrev fault_in : Result (List ℕ × State) ℕ → ℕ
fault_in (Ok ends) = 0
fault_in (Err line) = line

same_fault : (gens : Generations) (state : State) (text : List ℕ) (n : ℕ) (said : Result (List Scripted) ℕ) → Err n ≡ played gens state text said → said ≡ Err n
same_fault gens state text n (Ok xs) e = absurd (cc)
same_fault gens state text n (Err line) e = ap Err (sym (ap fault_in e))

-- a line that is the fault
pub line_fails : (gens : Generations) (state next begun : State) (text longer before : List ℕ) (line_said : Option (List Scripted)) (n : ℕ) (fault : ScriptFault) (rest said : Result (List Scripted) ℕ) →
    PlaysLine gens state text line_said next longer n (Err fault) → played gens state text (with_line line_said n rest) ≡ played gens begun before said → FailsScript said fault
line_fails gens state next begun text longer before line_said n fault.Memory rest said h e = tt
line_fails gens state next begun text longer before None n (fault.Script line) rest said h e = same_fault gens begun before n said e ∙ ap Err (sym h.1)
line_fails gens state next begun text longer before (Some xs) n (fault.Script line) rest said h e = let no = h.0 in absurd (cc)

-- ---- the end

-- where nothing is left, all was played
pub all_played : (gens : Generations) (state begun : State) (text before : List ℕ) (n : ℕ) (rest : List ℕ) (said : Result (List Scripted) ℕ) →
    played gens state text (lines_from n (lines rest)) ≡ played gens begun before said → (length rest == 0) ≡ true → played gens begun before said ≡ Ok (text, state)
all_played gens state begun text before n [] said e none = sym e ∙ ap (λ (bytes : List ℕ). Ok (bytes, state)) (append-nil text)
all_played gens state begun text before n (byte ∷ rest) said e none = let no : suc (length rest) ≡ 0 = eqb-true (suc (length rest)) 0 none in absurd (omega (arith, no))

abbrev text_in : Result (List ℕ × State) ℕ → List ℕ
text_in (Ok ends) = ends.0
text_in (Err line) = []

abbrev state_in : State → Result (List ℕ × State) ℕ → State
state_in other (Ok ends) = ends.1
state_in other (Err line) = other

plays_by : EveryRunDelivers → (gens : Generations) (bytes text printed : List ℕ) (state : State) (said : Result (List Scripted) ℕ) → script_of bytes ≡ said →
    played gens (first gens) [] said ≡ Ok (printed, state) → text ≡ printed ++ report_text gens.first (report_of state) → PlaysScript gens bytes text
plays_by law gens bytes text printed state (Err line) parsed e whole = absurd (cc)
plays_by law gens bytes text printed state (Ok xs) parsed e whole = record {
  lines = xs;
  parsed = parsed;
  plays = record {
    printed =
        whole
        ∙ ap (λ (front : List ℕ). front ++ report_text gens.first (report_of state)) (sym (ap text_in e))
        ∙ ap (λ (s : State). script_lines gens (first gens) xs ++ report_text gens.first (report_of s)) (sym (ap (state_in state) e))
        ∙ ap (λ (report : RunReport). script_lines gens (first gens) xs ++ report_text gens.first report) (law.report gens (steps_in xs));
    delivers = law.delivers gens (steps_in xs);
    rightly = law.rightly gens (steps_in xs);
    processes = law.processes gens (steps_in xs);
    keeps = λ before behind whole. law.keeps gens (steps_in before);
  };
}

pub plays : EveryRunDelivers → (gens : Generations) (bytes text printed : List ℕ) (state : State) →
    played gens (first gens) [] (script_of bytes) ≡ Ok (printed, state) → text ≡ printed ++ report_text gens.first (report_of state) → PlaysScript gens bytes text
plays law gens bytes text printed state e whole = plays_by law gens bytes text printed state (script_of bytes) refl e whole
