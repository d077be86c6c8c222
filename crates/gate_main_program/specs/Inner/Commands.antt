-- What a command answers before anything is printed.
use Rattle.std.specs.Prelude.{◌≡◌, ◌<◌, ◌≤◌, ℕ, List, Option, Some, None, length}
use Rattle.gate_config.specs.declared.config.Config.{Config}
use Rattle.gate_config.specs.Lookups.{connections_of}
use Rattle.gate_source.specs.Feeds.{Told}
use Rattle.gate_main_command.specs.declared.fault.Fault.{Fault}
use Rattle.gate_main_command.specs.declared.words.Task.{Task}
use Rattle.gate_main_command.specs.declared.words.Task.TheVariants as tasks
use Rattle.gate_main_program.specs.Said.{IsOfAJournal, Says}

-- The text is what is printed for the task of the command line, which has so many words.
pub record SaysFor {F : Type 0} (to_come : F → Told) (faults : F → ℕ) (words : ℕ) (input : Option (List ℕ)) (text : List ℕ) : Type 0 where
  pub task : Task
  pub alone : words ≤ 1 → task ≡ tasks.Input
  pub says : Says to_come faults input task text

-- After the text there is no fault but that of a journal, and with the name alone there is none.
abbrev pub ComesAfter : ℕ → Option Fault → Type 0
ComesAfter words None = Unit {0}
ComesAfter words (Some found) = (1 < words) × IsOfAJournal found

-- There is a feed for each connection.
abbrev pub OneForEach : {F : Type 0} → Config → List F → Type 0
OneForEach config feeds = length feeds ≡ length (connections_of config)
