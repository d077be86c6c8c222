use Rattle.std.proofs.Common.{◌∙◌, sym, ap, List}
use Rattle.std.specs.Prelude.{slice_get}
use Rattle.gate_core.specs.States.{ConnectionState}
use Rattle.gate_core.proofs.Beginnings.{first_counts}
use Rattle.gate_core.proofs.world.World.new.Goals as goal

pub returns-clause-counts : goal.returns-clause-counts
returns-clause-counts c i x at =
    first_counts c.args.gens.now i x (ap (λ (conns : List ConnectionState). slice_get conns i) (sym c.in_ok-connections.ensures.view) ∙ at)
