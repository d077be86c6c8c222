use Rattle.std.specs.Io.KnownBytes.{Keeps}
use Rattle.gate_main_streams.proofs.retrying.read_again.Given as goal

-- the calls that were interrupted read nothing
abbrev pub invariant-loop : goal.invariant-loop
invariant-loop g l = Keeps (g.R.Read.remaining l.fn.reader) (g.R.Read.remaining l.reader)
