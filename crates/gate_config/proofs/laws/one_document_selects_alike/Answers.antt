use Rattle.gate_config.proofs.SelectsAlike.{selects_alike}
use Rattle.gate_config.proofs.laws.one_document_selects_alike.Goals as goal

pub returns : goal.returns
returns c = selects_alike c.patterns_of_one_text_answer_alike.ensures c.events_have_bytes.ensures
