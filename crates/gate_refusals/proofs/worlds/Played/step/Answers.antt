use Rattle.gate_refusals.proofs.worlds.Played.step.Goals as goal

pub invariant_of-self : goal.invariant_of-self
invariant_of-self c = record { counts = c.step-answer.ensures.counts c.args.self.now.steps c.args.self.now.counts }
