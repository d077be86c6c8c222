use Rattle.gate_rule.proofs.Alike.{same_text_same_answers}
use Rattle.gate_rule.proofs.laws.patterns_of_one_text_answer_alike.Goals as goal

pub returns : goal.returns
returns c = same_text_same_answers
