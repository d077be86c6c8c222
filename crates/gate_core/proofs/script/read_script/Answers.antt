use Rattle.std.proofs.Common.{◌∙◌, ◌+◌, sym, ap, arith, List, ℕ}
use Rattle.std.specs.Str.Lines.{lines}
use Rattle.gate_core.specs.Script.{line_adds, lines_from, followed_by}
use Rattle.gate_core.proofs.Scripts.{line_added, all_read}
use Rattle.gate_core.proofs.script.read_script.Goals as goal

pub loop-rest-preserved : goal.loop-rest-preserved
loop-rest-preserved c = record {
  read =
      c.loop-rest.invariant.read
      ∙ ap (λ (ls : List (List ℕ)). followed_by c.loop-rest.lines (lines_from (c.loop-rest.before + 1) ls)) c.first_line.ensures.lines
      ∙ line_added (line_adds c.first_line.result.0.now) c.loop-rest.lines c.add_line.new.lines (c.loop-rest.before + 1) c.in_ok-add_line.field-0 (lines_from (c.loop-rest.before + 1 + 1) (lines c.first_line.result.1.now)) c.in_ok-add_line.ensures;
  few = omega (arith, c.first_line.ensures.shorter, c.loop-rest.invariant.few);
}

pub returns : goal.returns
returns c = all_read _ c.loop-rest.lines (c.loop-rest.before + 1) c.loop-rest.rest.now c.loop-rest.invariant.read (sym c.loop-rest-test.ensures)
