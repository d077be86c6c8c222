use Rattle.gate_core.specs.Steps.{new_connection}
use Rattle.gate_core.specs.Views.{connection_view}
use Rattle.gate_core.specs.Inner.Views.{IsConnection}
use Rattle.gate_core.proofs.Makings.{AreMade}
use Rattle.gate_core.proofs.making.new_connections.Given as goal

abbrev pub invariant-loop-number : goal.invariant-loop-number
invariant-loop-number l = AreMade connection_view (λ _. new_connection) (IsConnection l.gens) l.number l.connections.items
