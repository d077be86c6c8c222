use Rattle.std.proofs.Common.{◌∙◌, ◌+◌, ◌++◌, ◌∷◌, sym, ap, take}
use Rattle.std.proofs.lemmas.List.{take_rest}
use Rattle.gate_source.proofs.Cuts.{cut_at, no_feed_at_all, no_feed_before}
use Rattle.gate_source.proofs.lines.split_line.Goals as goal

pub returns-in-None-clause-none : goal.returns-in-None-clause-none
returns-in-None-clause-none c = no_feed_at_all c.args.piece.now (sym c.in-None.ensures)

pub returns-in-Some-clause-line : goal.returns-in-Some-clause-line
returns-in-Some-clause-line c = no_feed_before c.args.piece.now c.in-Some.end (sym c.in-Some.ensures)

pub returns-in-Some-clause-some : goal.returns-in-Some-clause-some
returns-in-Some-clause-some c =
    cut_at c.args.piece.now c.in-Some.end (sym c.in-Some.ensures)
    ∙ ap (λ rest. take c.in-Some.end c.args.piece.now ++ 10 ∷ rest) (sym (take_rest c.args.piece.now (c.in-Some.end + 1)))
