use Rattle.std.proofs.Common.{◌∙◌}
use Rattle.gate_record.proofs.Numbers.{number_in_is}
use Rattle.gate_record.proofs.integers.number_of_text.Goals as goal

pub returns : goal.returns
returns c = c.ok.ensures.value ∙ number_in_is c.args.text.now c.parse.result c.parse.ensures.value.0
