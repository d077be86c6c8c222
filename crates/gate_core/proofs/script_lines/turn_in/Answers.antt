use Rattle.std.proofs.Common.{◌∙◌, ap, sym}
use Rattle.gate_core.specs.Script.{line_adds}
use Rattle.gate_core.proofs.TurnLines.{turn_line}
use Rattle.gate_core.proofs.script_lines.turn_in.Goals as goal

pub returns-in-Ok : goal.returns-in-Ok
returns-in-Ok c =
    ap line_adds c.in_ok-behind_turn.ensures ∙ turn_line c.in_ok-behind_turn.field-0.now c.in-Ok.tenant c.in-Ok.pipeline (sym c.two_of.ensures.value ∙ c.in-Ok.is)
