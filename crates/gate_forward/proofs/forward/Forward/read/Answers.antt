use Rattle.std.proofs.Common.{◌∙◌, ap, sym}
use Rattle.gate_forward.specs.Inner.Forwarding.{sends_reading}
use Rattle.gate_forward.specs.States.{conn_of, gens_of, state_of}
use Rattle.gate_forward.proofs.Addressed.{nobody}
use Rattle.gate_forward.proofs.forward.Forward.read.Goals as goal

pub returns-in-Nothing-clause-loads : goal.returns-in-Nothing-clause-loads
returns-in-Nothing-clause-loads c =
    c.requires.empty ∙ nobody (gens_of c.args.self.now)
    ∙ ap (sends_reading (gens_of c.args.self.now) (conn_of c.args.self.now) (state_of c.args.self.now).generation c.args.number) (sym c.in-Nothing.is ∙ c.in_ok-event.ensures.reads)
