-- The fault of a journal as the program's.
use Rattle.std.specs.Prelude.{◌≡◌, ℕ, List, string_bytes, ⊤}
use Rattle.gate_main_command.specs.declared.fault.Fault.{Fault}
use Rattle.gate_main_command.specs.declared.fault.Fault.TheVariants as fault
use Rattle.gate_main_command.specs.declared.journal.JournalFault.{JournalFault}
use Rattle.gate_main_command.specs.declared.journal.JournalFault.TheVariants as journal

-- The fault names the journal at this path, unless memory is refused for the path.
abbrev pub NamesJournal : List ℕ → Fault → Type 0
NamesJournal path (fault.Journal text) = string_bytes text ≡ path
NamesJournal path fault.Memory = ⊤
NamesJournal path other = ⊥

-- Refused memory is one fault, and a file that can't be written is another.
abbrev pub IsOfJournal : List ℕ → JournalFault → Fault → Type 0
IsOfJournal path journal.Memory found = found ≡ fault.Memory
IsOfJournal path journal.File found = NamesJournal path found
