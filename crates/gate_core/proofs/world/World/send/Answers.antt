use Rattle.std.proofs.Common.{map}
use Rattle.std.proofs.lemmas.Option.{slice_get_past}
use Rattle.gate_core.specs.Views.{tenant_view}
use Rattle.gate_core.proofs.Elements.{lent}
use Rattle.gate_core.proofs.Wholes.{sending_does, sending_idles, still_connections}
use Rattle.gate_core.proofs.world.World.send.Goals as goal

pub invariant_of-self-clause-connections_by_number : goal.invariant_of-self-clause-connections_by_number
invariant_of-self-clause-connections_by_number c =
    let conns = c.args.self.now.connections.items in
    let at = lent conns c.args.conn.0 _ c.in-Some.ensures.item.3.0 c.in-Some.ensures.item.1 in
    still_connections c.args.self.now.gens.now conns c.args.conn.0 c.in-Some.connection.now c.send.new.connection at c.args.self.now.connections_by_number c.send.ensures.gens c.send.ensures.number

pub invariant_of-self-clause-tenants_by_number : goal.invariant_of-self-clause-tenants_by_number
invariant_of-self-clause-tenants_by_number c = c.send.ensures.tenants c.args.self.now.gens.now c.args.self.now.tenants_by_number

pub returns-in-Some-clause-moves : goal.returns-in-Some-clause-moves
returns-in-Some-clause-moves c =
    let conns = c.args.self.now.connections.items in
    let at = lent conns c.args.conn.0 _ c.in-Some.ensures.item.3.0 c.in-Some.ensures.item.1 in
    sending_does c.args.conn.0 conns (map tenant_view c.args.self.now.tenants.items) _ c.in-Some.connection.now c.send.new.connection c.send.result at c.send.ensures.does

pub returns-in-None-clause-moves : goal.returns-in-None-clause-moves
returns-in-None-clause-moves c =
    let conns = c.args.self.now.connections.items in
    sending_idles c.args.conn.0 conns (map tenant_view c.args.self.now.tenants.items) (slice_get_past conns c.args.conn.0 c.in-None.ensures.item.3)
