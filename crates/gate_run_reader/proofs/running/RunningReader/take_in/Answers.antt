use Rattle.gate_run_reader.proofs.Readings.{takes_in}
use Rattle.gate_run_reader.proofs.running.RunningReader.take_in.Goals as goal

pub returns-clause-takes_in : goal.returns-clause-takes_in
returns-clause-takes_in g c = takes_in c.args.self.now c.look.new.self c.offer.new.self c.offer.result c.args.line c.in_default.ensures.continues c.offer.ensures.accepts c.offer.ensures.renewals
