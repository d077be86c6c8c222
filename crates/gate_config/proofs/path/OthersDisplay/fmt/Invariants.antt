use Rattle.std.proofs.Common.{take, codes}
use Rattle.std.specs.List.{flat_map}
use Rattle.std.specs.Fmt.{HasWritten, IsPlainFormatter}
use Rattle.gate_config.specs.Places.{step_text}
use Rattle.gate_config.proofs.path.OthersDisplay.fmt.Given as goal

-- the steps so far were written
abbrev pub invariant-loop-step : goal.invariant-loop-step
invariant-loop-step g l =
    IsPlainFormatter l.initial.f → HasWritten g.W.Write.write_str_gives l.initial.f (flat_map (step_text (codes ".")) (take l.step-index l.self.0.now)) l.f
