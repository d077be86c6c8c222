use Rattle.std.proofs.Common.{◌∙◌, ◌∷◌, ◌+◌, sym, ap, drop, List, ℕ}
use Rattle.std.specs.Str.Lines.{lines}
use Rattle.gate_line.proofs.FirstLines.{lines_one, lines_first, take_rest}
use Rattle.gate_line.proofs.lines.first_line.Goals as goal

pub returns-in-None-clause-lines : goal.returns-in-None-clause-lines
returns-in-None-clause-lines c = lines_one c.args.text.now c.requires (sym c.in-None.ensures)

pub returns-in-Some-clause-lines : goal.returns-in-Some-clause-lines
returns-in-Some-clause-lines c =
    lines_first c.args.text.now c.in-Some.end (sym c.in-Some.ensures)
    ∙ ap (λ (x : List ℕ). x ∷ lines (drop (c.in-Some.end + 1) c.args.text.now)) (sym c.without_return.ensures)
    ∙ ap (λ (x : List ℕ). c.without_return.result.now ∷ lines x) (sym (take_rest (c.in-Some.end + 1) c.args.text.now))
