use Rattle.std.proofs.Common.{◌∙◌, sym, Result, Ok, Err, IfOk}
use Rattle.std.proofs.lemmas.List.{length-map}
use Rattle.gate_config.specs.Generations.{bytes_of}
use Rattle.gate_main_command.proofs.checking.check.Goals as goal

-- what a value that came back has
over_ok : {T E : Type 0} {P Q : T → Type 0} → ((value : T) → P value → Q value) → (answer : Result T E) → IfOk answer P → IfOk answer Q
over_ok says (Ok value) has = says value has
over_ok says (Err error) has = has

pub returns : goal.returns
returns c = over_ok (λ text says. record {
  gens = c.in_ok-gens.gens;
  are = record {
    count = c.in_ok-gens.ensures.count ∙ sym (length-map c.args.documents.now bytes_of);
    read = c.in_ok-gens.ensures.read;
    passed = c.in_ok-gens.ensures.passed;
  };
  says = says;
}) c.text_of.result c.text_of.ensures
