use Rattle.std.proofs.Common.{◌≡◌, ◌∙◌, Err, ap, subst, sym}
use Rattle.std.specs.Prelude.{IfOk}
use Rattle.gate_record.specs.Reading.{reading_of_json}
use Rattle.gate_record.proofs.Fitting.{no_document}
use Rattle.gate_record.proofs.JsonOf.{json_of_utf8}
use Rattle.gate_record.proofs.reader.read_with.Goals as goal

pub returns-in-Ok : goal.returns-in-Ok
returns-in-Ok c =
    subst (λ o. IfOk c.read_tape.result (λ reading. reading ≡ reading_of_json o)) (sym (json_of_utf8 c.args.text.now c.utf8.text))
    (c.read_tape.ensures c.args.text.now c.in-Ok.ensures.ok.0 c.in-Ok.ensures.ok.1)

pub returns-in-Err-Invalid : goal.returns-in-Err-Invalid
returns-in-Err-Invalid c = ap reading_of_json (sym (json_of_utf8 c.args.text.now c.utf8.text ∙ no_document c.args.text.now (c.parse.ensures.invalid (c.in-Err-Invalid.is ∙ ap Err c.in-Err-Invalid.field-0-is))))
