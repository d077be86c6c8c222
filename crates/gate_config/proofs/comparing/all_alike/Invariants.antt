use Rattle.std.proofs.Common.{◌≡◌, drop}
use Rattle.std.specs.Cmp.Lexicographic.{pointwise}
use Rattle.gate_config.proofs.comparing.all_alike.Given as goal

abbrev pub invariant-loop-part : goal.invariant-loop-part
invariant-loop-part g l = pointwise g.P.Part.same (drop l.part-index l.first) l.rest ≡ pointwise g.P.Part.same l.first l.fn.other
