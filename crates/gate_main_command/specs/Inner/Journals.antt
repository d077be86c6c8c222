-- What a journal in writing has done.
use Rattle.std.specs.Prelude.{◌≡◌, ℕ, List, Option, None}
use Rattle.std.specs.Io.KnownBytes.{Appends}
use Rattle.gate_config.specs.declared.config.Config.{Config}
use Rattle.gate_main_command.specs.declared.journal.Journal.{Journal}
use Rattle.gate_main_command.specs.Inner.Rows.{KnowAll}
use Rattle.gate_main_command.specs.Telling.{Told, journal_text}

-- Unless the journal has a fault, it has written the text of what it was told after what its writer had before, and it knows all items.
pub record Keeps {W : Type 0} (contents : W → Option (List ℕ)) (config : Config) (before : Option (List ℕ)) (told : List Told) (journal : Journal W) : Type 0 where
  pub knows : journal.fault ≡ None → KnowAll config told journal.pipelines.journals.items
  pub written : journal.fault ≡ None → Appends before (contents journal.writer) (journal_text config told)
