use Rattle.std.proofs.Common.{◌≡◌, ◌∙◌, ap, arith, length, map}
use Rattle.std.specs.List.{range_with_len}
use Rattle.gate_config.specs.Lookups.{connections_of}
use Rattle.gate_core.specs.Steps.{new_connection}
use Rattle.gate_core.specs.Views.{connection_view}
use Rattle.gate_core.specs.Inner.Views.{IsConnection}
use Rattle.gate_core.proofs.Makings.{one_made, same_for_each}
use Rattle.gate_core.proofs.making.new_connections.Goals as goal

pub loop-number-preserved : goal.loop-number-preserved
loop-number-preserved c =
    one_made connection_view (λ _. new_connection) (IsConnection c.args.gens.now) c.new.result c.in_ok-push.ensures.items c.loop-number.invariant (c.new.ensures.gens, c.new.ensures.number) c.new.ensures.view

pub returns-clause-view : goal.returns-clause-view
returns-clause-view c =
    let connections = connections_of c.args.gens.now.first in
    let all : length c.connections-number-end.result.now ≡ length connections = ap length c.connections-number-end.ensures ∙ ap (λ config. length (connections_of config)) c.first.ensures in
    let last : c.loop-number.number ≡ length connections = omega (arith, c.loop-number-test.false, c.loop-number.auto.number-end, all) in
    c.loop-number.invariant.seen ∙ ap (λ n. map (λ _. new_connection) (range_with_len 0 n)) last ∙ same_for_each new_connection connections 0
