use Rattle.std.specs.Prelude.{◌<◌, length, vec_items}
use Rattle.std.specs.Io.KnownBytes.{Consumes}
use Rattle.gate_main_command.proofs.input.read_input.Given as goal

-- what was read so far
abbrev pub invariant-loop : goal.invariant-loop
invariant-loop g l = Consumes (g.R.Read.remaining l.fn.input) (g.R.Read.remaining l.input) (vec_items l.bytes) × (0 < length (vec_items l.piece))
