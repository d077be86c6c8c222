use Rattle.std.proofs.Common.{map, subst, sym, OnErr, ℕ, Option}
use Rattle.std.proofs.lemmas.Option.{slice_get_past}
use Rattle.gate_config.specs.declared.generations.Generations.{Generations}
use Rattle.gate_core.specs.Answers.{Does}
use Rattle.gate_core.specs.Needs.{IsThere}
use Rattle.gate_core.specs.Inner.Needs.{ConnectionNeeds}
use Rattle.gate_core.specs.States.{ConnectionState}
use Rattle.gate_core.specs.Inner.Steps.{connection_step}
use Rattle.gate_core.specs.Views.{connection_view, tenant_view}
use Rattle.gate_core.proofs.Elements.{lent, seen}
use Rattle.gate_core.proofs.Wholes.{connection_does, connection_idles, known, still_connections}
use Rattle.gate_core.proofs.world.World.connection_step.Goals as goal

pub step-requires : goal.step-requires
step-requires c =
    let conns = c.args.self.now.connections.items in
    let at = lent conns c.args.conn.0 _ c.in-Some.ensures.item.3.0 c.in-Some.ensures.item.1 in
    c.requires (connection_view c.in-Some.connection.now) (seen connection_view conns c.args.conn.0 c.in-Some.connection.now at)

pub invariant_of-self-clause-connections_by_number : goal.invariant_of-self-clause-connections_by_number
invariant_of-self-clause-connections_by_number c =
    let conns = c.args.self.now.connections.items in
    let at = lent conns c.args.conn.0 _ c.in-Some.ensures.item.3.0 c.in-Some.ensures.item.1 in
    still_connections c.args.self.now.gens.now conns c.args.conn.0 c.in-Some.connection.now c.step.new.self at c.args.self.now.connections_by_number c.step.ensures.gens c.step.ensures.number

pub returns-in-Some-clause-moves : goal.returns-in-Some-clause-moves
returns-in-Some-clause-moves c =
    let conns = c.args.self.now.connections.items in
    let at = lent conns c.args.conn.0 _ c.in-Some.ensures.item.3.0 c.in-Some.ensures.item.1 in
    connection_does (connection_step c.args.self.now.gens.now c.args.conn.0 c.args.step) c.args.conn.0 conns (map tenant_view c.args.self.now.tenants.items) c.in-Some.connection.now c.step.new.self c.step.result at
    (known (λ (gens : Generations) (n : ℕ). Does (connection_view c.in-Some.connection.now) (connection_step gens n c.args.step (connection_view c.in-Some.connection.now)) (connection_view c.step.new.self) c.step.result) _ _ _ _ (c.args.self.now.connections_by_number c.args.conn.0 c.in-Some.connection.now at) c.step.ensures.does)

pub returns-in-Some-clause-needs : goal.returns-in-Some-clause-needs
returns-in-Some-clause-needs c =
    let conns = c.args.self.now.connections.items in
    let at = lent conns c.args.conn.0 _ c.in-Some.ensures.item.3.0 c.in-Some.ensures.item.1 in
    subst (λ (o : Option ConnectionState). OnErr c.step.result (IsThere (ConnectionNeeds c.args.step) o)) (sym (seen connection_view conns c.args.conn.0 c.in-Some.connection.now at)) c.step.ensures.needs

pub returns-in-None-clause-moves : goal.returns-in-None-clause-moves
returns-in-None-clause-moves c =
    let conns = c.args.self.now.connections.items in
    connection_idles (connection_step c.args.self.now.gens.now c.args.conn.0 c.args.step) c.args.conn.0 conns (map tenant_view c.args.self.now.tenants.items) (slice_get_past conns c.args.conn.0 c.in-None.ensures.item.3)
