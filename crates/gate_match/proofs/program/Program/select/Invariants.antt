use Rattle.std.proofs.Common.{◌≡◌, map}
use Rattle.std.specs.List.{range_with_len, zip}
use Rattle.gate_match_rules.specs.Knowing.{AreRight}
use Rattle.gate_match.specs.Selecting.{mask_of}
use Rattle.gate_match.proofs.program.Program.select.Given as goal

-- the masks of the pipelines so far
abbrev pub invariant-loop-pipeline : goal.invariant-loop-pipeline
invariant-loop-pipeline l = record {
  right : AreRight l.fn.columns l.answers;
  masks : map (λ mask. mask.items) l.masks.items ≡ map (λ p. mask_of l.self.gens.now l.self.tenant.0 p (zip (zip l.gens l.conns) l.fn.columns)) (range_with_len 0 l.pipeline);
}
