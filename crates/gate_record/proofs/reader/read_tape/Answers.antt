use Rattle.std.proofs.Common.{◌≡◌, ◌∙◌, false, true, ap, subst, sym}
use Rattle.std.specs.Prelude.{IfOk}
use Rattle.json.specs.Find.{BeginsWith}
use Rattle.json.specs.Lex.{tokens}
use Rattle.json.proofs.Found.{document-BeginsWith}
use Rattle.gate_record.specs.Reading.{reading_of_json}
use Rattle.gate_record.specs.Inner.Tapes.{fit}
use Rattle.gate_record.proofs.Fitting.{read_is, unfit}
use Rattle.gate_record.proofs.Readings.{some_is}
use Rattle.gate_record.proofs.reader.read_tape.Goals as goal

pub returns-then-not-fit : goal.returns-then-not-fit
returns-then-not-fit c text is some =
    let tested : fit 0 (tokens text) ≡ false = ap (fit 0) (sym is ∙ sym c.nodes.ensures.tokens) ∙ sym c.if-not-fit.ensures in
    ap reading_of_json (sym (unfit text tested))

pub returns : goal.returns
returns c text is some =
    let tested : fit 0 (tokens text) ≡ true = ap (fit 0) (sym is ∙ sym c.nodes.ensures.tokens) ∙ sym c.if-not-fit.ensures in
    let j = some_is _ some in
    let read = read_is text j.0 j.1 tested in
    let begins = subst (λ ts. BeginsWith ts j.0) (sym (c.root.ensures.same ∙ is)) (document-BeginsWith text j.0 j.1) in
    subst (λ o. IfOk c.read_value.result (λ reading. reading ≡ reading_of_json o)) (sym read.2) (c.read_value.ensures read.0 (j.0, begins, read.1))
