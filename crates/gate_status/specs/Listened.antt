-- When the faults of a session come.
use Rattle.std.specs.Prelude.{◌<◌, ℕ}
use Rattle.gate_status.specs.declared.fault.SessionFault.{SessionFault}
use Rattle.gate_status.specs.declared.fault.SessionFault.TheVariants as fault

-- `Read` comes only where the reader has answered one more error, and `Write` only where the writer has
abbrev pub Rises : SessionFault → (reads reads' writes writes' : ℕ) → Type 0
Rises fault.Read reads reads' writes writes' = reads < reads'
Rises fault.Write reads reads' writes writes' = writes < writes'
Rises fault.Memory reads reads' writes writes' = Unit {0}
