use Rattle.std.proofs.Common.{◌∙◌, ap, Bool, Some, None, if◌then◌else◌}
use Rattle.gate_core.specs.declared.step.Step.TheVariants as step
use Rattle.gate_core.specs.History.{offered_to}
use Rattle.gate_core.specs.Worlds.{gens_of, state_of}
use Rattle.gate_delivery.proofs.Arrivals.{same_as_itself}
use Rattle.gate_core.proofs.Counting.{one_more}
use Rattle.gate_core.proofs.world.World.step.Goals as goal

pub connection_step-requires : goal.connection_step-requires
connection_step-requires c connection at =
    c.requires c.in-Offer.conn.0 c.in-Offer.line connection
    (ap (offered_to c.in-Offer.conn.0) c.in-Offer.is ∙ ap (λ (b : Bool). if b then Some c.in-Offer.line else None) (same_as_itself c.in-Offer.conn.0)) at

pub returns-in-Offer-clause-counts : goal.returns-in-Offer-clause-counts
returns-in-Offer-clause-counts c =
    one_more (gens_of c.args.self.now) (state_of c.args.self.now) (step.Offer c.in-Offer.conn c.in-Offer.line) (state_of c.connection_step.new.self) c.connection_step.result c.connection_step.ensures.moves

pub returns-in-Close-clause-counts : goal.returns-in-Close-clause-counts
returns-in-Close-clause-counts c =
    one_more (gens_of c.args.self.now) (state_of c.args.self.now) (step.Close c.in-Close.conn) (state_of c.connection_step-in-Close.new.self) c.connection_step-in-Close.result c.connection_step-in-Close.ensures.moves

pub returns-in-Take-clause-counts : goal.returns-in-Take-clause-counts
returns-in-Take-clause-counts c =
    one_more (gens_of c.args.self.now) (state_of c.args.self.now) (step.Take c.in-Take.conn) (state_of c.connection_step-in-Take.new.self) c.connection_step-in-Take.result c.connection_step-in-Take.ensures.moves

pub returns-in-Send-clause-counts : goal.returns-in-Send-clause-counts
returns-in-Send-clause-counts c =
    one_more (gens_of c.args.self.now) (state_of c.args.self.now) (step.Send c.in-Send.conn) (state_of c.send.new.self) c.send.result c.send.ensures.moves
