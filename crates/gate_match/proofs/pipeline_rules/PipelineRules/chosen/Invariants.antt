use Rattle.std.proofs.Common.{◌≡◌, drop, false, length, replicate}
use Rattle.gate_match.specs.Inner.Choosing.{chosen}
use Rattle.gate_match_rules.specs.Knowing.{AreRight}
use Rattle.gate_match.proofs.pipeline_rules.PipelineRules.chosen.Given as goal

-- what was chosen, and what will be of the keys that are left, is all that is chosen
abbrev pub invariant-loop-active : goal.invariant-loop-active
invariant-loop-active l = record {
  right : AreRight l.search.columns.now l.answers;
  len : length l.out ≡ length l.search.columns.now;
  chosen :
      chosen l.self.program.now.gens.now l.self.program.now.tenant.0 l.self.pipeline l.search.columns.now l.out (drop l.active-index l.actives)
      ≡ chosen l.self.program.now.gens.now l.self.program.now.tenant.0 l.self.pipeline l.search.columns.now (replicate (length l.search.columns.now) false) l.actives;
}
