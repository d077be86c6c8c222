use Rattle.std.proofs.Common.{◌∙◌, sym, ap, Some, List, ℕ}
use Rattle.gate_line.proofs.Numbers.{text_whole, no_text}
use Rattle.gate_line.proofs.words.text_of.Goals as goal

pub returns-in-Ok : goal.returns-in-Ok
returns-in-Ok c = ap (λ (bs : List ℕ). Some bs) c.in-Ok.ensures.cases.0 ∙ text_whole c.args.bytes.now (sym c.if-is_empty.ensures) c.in-Ok.ensures.cases.1

pub returns-in-Err : goal.returns-in-Err
returns-in-Err c = no_text c.args.bytes.now (sym c.if-is_empty.ensures) c.in-Err.ensures.cases.0
