-- What the program prints, and which faults it has.
use Rattle.std.specs.Prelude.{◌≡◌, ◌⊎◌, ◌<◌, ◌≤◌, ℕ, List, Option, length, ⊤}
use Rattle.std.specs.Io.KnownBytes.{Appends}
use Rattle.gate_config.specs.declared.generations.Generations.{Generations}
use Rattle.gate_pipeline.specs.States.{State}
use Rattle.gate_report.specs.declared.report.RunReport.{RunReport}
use Rattle.gate_report_text.specs.ReportText.{report_text}
use Rattle.gate_run.specs.Serving.{Serves}
use Rattle.gate_run_posts.specs.Ports.{InboxView}
use Rattle.gate_source.specs.Feeds.{Told}
use Rattle.gate_main_command.specs.declared.fault.Fault.{Fault}
use Rattle.gate_main_command.specs.declared.fault.Fault.TheVariants as fault
use Rattle.gate_main_command.specs.declared.words.Task.{Task}
use Rattle.gate_main_command.specs.declared.words.Task.TheVariants as tasks
use Rattle.gate_main_command.specs.Faults.{status_of}
use Rattle.gate_main_command.specs.Faulty.{FailsInput}
use Rattle.gate_main_command.specs.Printed.{AreGenerations, ChecksSome, ReplaysBytes, ReplaysSome}

-- ---- what `serve` prints

-- `F` is the type of feeds, with the records that a feed tells to come, if it does, and how many faults it has answered.
module _ {F : Type 0} (to_come : F → Told) (faults : F → ℕ) where
  -- The text is the report of a run of these generations, of which everything is true that `serve` promises.
  pub record ReportsRun (gens : Generations) (text : List ℕ) : Type 0 where
    pub feeds : List F
    pub feeds_after : List F
    pub inbox : InboxView
    pub inbox_after : InboxView
    pub report : RunReport
    pub pipelines : List (List State)
    pub serves : Serves gens to_come faults feeds feeds_after inbox inbox_after report pipelines
    pub says : text ≡ report_text gens.first report

  -- The text is the report of a run of the generations that these documents are.
  pub record ServesDocuments (documents : List (List ℕ)) (text : List ℕ) : Type 0 where
    pub gens : Generations
    pub are : AreGenerations documents gens
    pub reports : ReportsRun gens text

  -- The text is what `serve` prints of some documents, of which there are so many. Which bytes a file has given isn't said.
  pub record ServesSome (count : ℕ) (text : List ℕ) : Type 0 where
    pub documents : List (List ℕ)
    pub as_many : length documents ≡ count
    pub serves : ServesDocuments documents text

  -- ---- what is printed for a task, where standard input has these bytes

  abbrev pub Says : Option (List ℕ) → Task → List ℕ → Type 0
  Says input (tasks.Check config) text = ChecksSome (length config.items) text
  Says input (tasks.Replay config script) text = ReplaysSome (length config.items) text
  Says input (tasks.Serve config status sources) text = ServesSome (length config.items) text
  Says input tasks.Input text = ReplaysBytes input text

  -- Standard output has grown by exactly what is printed for the task of the command line, which has so many words. The name alone stands
  -- for standard input.
  pub record Prints (words : ℕ) (input before after : Option (List ℕ)) : Type 0 where
    pub task : Task
    pub alone : words ≤ 1 → task ≡ tasks.Input
    pub text : List ℕ
    pub says : Says input task text
    pub appends : Appends before after text

-- ---- faults

-- the fault is one that a journal has
abbrev pub IsOfAJournal : Fault → Type 0
IsOfAJournal (fault.Journal path) = ⊤
IsOfAJournal fault.Memory = ⊤
IsOfAJournal other = ⊥

-- The fault may come after something was printed: `write`, or, where there are words after the name, that of a journal.
abbrev pub ComesLate : ℕ → Fault → Type 0
ComesLate words found = (found ≡ fault.Write) ⊎ ((1 < words) × IsOfAJournal found)

-- The program has this fault. With the name alone it is one of the bytes of standard input, unless it has nothing to do with these. Standard
-- output is as it was, unless the fault may come late.
pub record Fails {O : Type 0} (words : ℕ) (input : Option (List ℕ)) (before after : O) (found : Fault) : Type 0 where
  pub of_input : words ≤ 1 → FailsInput input found
  pub unchanged : ComesLate words found ⊎ (after ≡ before)

-- The program fails with this status.
pub record HasStatus {O : Type 0} (words status : ℕ) (input : Option (List ℕ)) (before after : O) : Type 0 where
  pub found : Fault
  pub is : status_of found ≡ status
  pub fails : Fails words input before after found
