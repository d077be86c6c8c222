use Rattle.gate_journal.proofs.FactTurns.{begin_and_end_once}
use Rattle.gate_journal.proofs.laws.each_build_set_of_a_journal_begins_and_ends_once.Goals as goal

pub returns : goal.returns
returns c = begin_and_end_once c.discarded_actions_change_nothing.ensures c.each_build_set_begins_and_ends_once.ensures
