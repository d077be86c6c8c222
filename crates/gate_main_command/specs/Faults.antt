-- The faults of the program: what is printed of them, their exit statuses, and from which faults of the libraries they come.
use Rattle.std.specs.Prelude.{ℕ, List, ◌++◌, codes, decimal, string_bytes}
use Rattle.gate_config.specs.declared.generation_fault.GenerationFault.{GenerationFault}
use Rattle.gate_config.specs.declared.generation_fault.GenerationFault.TheVariants as generation
use Rattle.gate_config.specs.FaultTexts.{generation_text}
use Rattle.gate_core.specs.declared.replaying.ReplayFault.{ReplayFault}
use Rattle.gate_core.specs.declared.replaying.ReplayFault.TheVariants as replay
use Rattle.gate_run_threads.specs.declared.fault.RunFault.{RunFault}
use Rattle.gate_run_threads.specs.declared.fault.RunFault.TheVariants as run
use Rattle.gate_main_command.specs.declared.fault.Fault.{Fault}
use Rattle.gate_main_command.specs.declared.fault.Fault.TheVariants as fault

-- 1 for a fault while running, 2 for the command line, 3 for a configuration or a script
abbrev pub status_of : Fault → ℕ
status_of fault.Memory = 1
status_of (fault.File path) = 1
status_of fault.Thread = 1
status_of (fault.Listen word) = 1
status_of (fault.Connect word) = 1
status_of fault.Write = 1
status_of (fault.Journal path) = 1
status_of fault.Usage = 2
status_of (fault.Source word) = 2
status_of (fault.Generations generation.Memory) = 1
status_of (fault.Generations generations) = 3
status_of (fault.Script line) = 3

-- what is printed of a fault after `fault: `
abbrev pub fault_text : Fault → List ℕ
fault_text fault.Memory = codes "memory"
fault_text (fault.File path) = codes "file " ++ string_bytes path
fault_text fault.Thread = codes "thread"
fault_text (fault.Listen word) = codes "listen " ++ string_bytes word
fault_text (fault.Connect word) = codes "connect " ++ string_bytes word
fault_text fault.Write = codes "write"
fault_text (fault.Journal path) = codes "journal " ++ string_bytes path
fault_text fault.Usage = codes "usage"
fault_text (fault.Source word) = codes "source " ++ string_bytes word
fault_text (fault.Generations found) = generation_text found
fault_text (fault.Script line) = codes "script " ++ decimal line

-- the line of a fault on standard error
abbrev pub fault_line : Fault → List ℕ
fault_line found = codes "fault: " ++ fault_text found ++ codes "\n"

-- Refused memory is one fault, whichever library was refused it.
abbrev pub of_generations : GenerationFault → Fault
of_generations generation.Memory = fault.Memory
of_generations generation.Count = fault.Generations generation.Count
of_generations (generation.Document number found) = fault.Generations (generation.Document number found)

abbrev pub of_replay : ReplayFault → Fault
of_replay replay.Memory = fault.Memory
of_replay (replay.Script line) = fault.Script line
of_replay (replay.Generations found) = fault.Generations found

abbrev pub of_run : RunFault → Fault
of_run run.Memory = fault.Memory
of_run run.Thread = fault.Thread
