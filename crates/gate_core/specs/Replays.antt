-- What `replay` prints for documents and a script.
use Rattle.std.specs.Prelude.{◌≡◌, ◌≢◌, ℕ, List, [], ◌∷◌, ◌++◌, Option, Some, None, Ok, Err, true, length}
use Rattle.std.specs.List.{All, filter_map}
use Rattle.gate_config.specs.declared.generations.Generations.{Generations}
use Rattle.gate_config.specs.declared.generation_fault.GenerationFault.TheVariants as generations
use Rattle.gate_config.specs.Generations.{AreReadFrom, IsFaultAmong, PassesBeside, common_of, count_of, is_count}
use Rattle.gate_core.specs.declared.replaying.ReplayFault.{ReplayFault}
use Rattle.gate_core.specs.declared.replaying.ReplayFault.TheVariants as replay
use Rattle.gate_core.specs.declared.script.Scripted.{Scripted}
use Rattle.gate_core.specs.declared.script.Scripted.TheVariants as line
use Rattle.gate_core.specs.declared.step.Step.{Step}
use Rattle.gate_core.specs.History.{History}
use Rattle.gate_core.specs.Output.{answer_line}
use Rattle.gate_report_text.specs.ReportText.{report_text}
use Rattle.gate_core.specs.Promises.{AnswersRightly, Delivers, Keeps, Processes}
use Rattle.gate_core.specs.Reports.{report_after}
use Rattle.gate_core.specs.Script.{script_of}
use Rattle.gate_core.specs.Shows.{shown_text}
use Rattle.gate_core.specs.States.{State, items_at}
use Rattle.gate_core.specs.Steps.{first, left_by, run_from, step_of}

-- ---- what is printed

-- what the lines of a script print from a state on: the answer to each step, and the items that are shown
abbrev pub script_lines : Generations → State → List Scripted → List ℕ
script_lines gens state [] = []
script_lines gens state (line.Step step ∷ script) = answer_line (step_of gens state step).1 ++ script_lines gens (step_of gens state step).0 script
script_lines gens state (line.Show t p ∷ script) = shown_text (items_at t p state) ++ script_lines gens state script

-- the steps among the lines
abbrev pub step_in : Scripted → Option Step
step_in (line.Step step) = Some step
step_in (line.Show t p) = None

abbrev pub steps_in : List Scripted → List Step
steps_in script = filter_map step_in script

-- what the steps of a script do from the beginning, each with its answer
abbrev pub history_of : Generations → List Scripted → History
history_of gens script = run_from gens (first gens) (steps_in script)

-- The text is what the lines print, followed by the report of what the steps did. All that every run promises is true of these steps.
pub record Plays (gens : Generations) (script : List Scripted) (text : List ℕ) : Type 0 where
  pub printed : text ≡ script_lines gens (first gens) script ++ report_text gens.first (report_after gens.first (history_of gens script))
  pub delivers : Delivers gens (history_of gens script)
  pub rightly : AnswersRightly gens [] (history_of gens script)
  pub processes : Processes gens.first (history_of gens script)
  -- the same is true after each part of the script from its beginning, so also wherever items are shown
  pub keeps : (before behind : List Scripted) → before ++ behind ≡ script → Keeps gens.first (history_of gens before) (left_by gens (first gens) (steps_in before))

-- Each document passes its checks and is one of the generations, the script stands for its lines, and the text is what they print
pub record Replays (documents : List (List ℕ)) (script text : List ℕ) : Type 0 where
  pub gens : Generations
  pub count : count_of gens ≡ length documents
  pub read : AreReadFrom documents gens
  pub passed : All (PassesBeside (common_of documents)) documents
  pub lines : List Scripted
  pub parsed : script_of script ≡ Ok lines
  pub plays : Plays gens lines text

-- ---- faults

-- The number of documents is checked first. After that memory may be refused at any point. A fault of the documents is their first. A
-- script is read only where the documents have no fault, and its fault is the first line that stands for nothing.
abbrev pub FailsReplay : List (List ℕ) → List ℕ → ReplayFault → Type 0
FailsReplay documents script replay.Memory = is_count (length documents) ≡ true
FailsReplay documents script (replay.Generations fault) = IsFaultAmong documents fault × (fault ≢ generations.Memory)
FailsReplay documents script (replay.Script line) =
    (is_count (length documents) ≡ true) × All (PassesBeside (common_of documents)) documents × (script_of script ≡ Err line)
