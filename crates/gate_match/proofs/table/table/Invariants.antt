use Rattle.gate_match.specs.Inner.Tables.{AreOfGenerations}
use Rattle.gate_match.proofs.table.table.Given as goal

abbrev pub invariant-loop-generation : goal.invariant-loop-generation
invariant-loop-generation l = AreOfGenerations l.source.gens.now l.source.tenant.0 l.table.items
