-- What is printed of a queue that was not opened.
use Rattle.std.specs.Prelude.{ℕ, List, codes}
use Rattle.gate_queue.specs.declared.fault.OpenFault.{OpenFault}
use Rattle.gate_queue.specs.declared.fault.OpenFault.TheVariants.{Capacity, Memory}

abbrev pub open_text : OpenFault → List ℕ
open_text Capacity = codes "capacity"
open_text Memory = codes "memory"
