use Rattle.gate_match.specs.Inner.Tables.{AreOfGenerations}
use Rattle.gate_match.proofs.table.push_generation.Given as goal

abbrev pub invariant-loop-pipeline : goal.invariant-loop-pipeline
invariant-loop-pipeline l = AreOfGenerations l.source.gens.now l.source.tenant.0 l.table.items

abbrev pub invariant-loop-conn : goal.invariant-loop-conn
invariant-loop-conn l = AreOfGenerations l.source.gens.now l.source.tenant.0 l.table.items
