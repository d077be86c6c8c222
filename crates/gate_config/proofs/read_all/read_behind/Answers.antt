use Rattle.std.proofs.Common.{map}
use Rattle.gate_config.proofs.InOrder.{all_alike, few}
use Rattle.gate_config.specs.Generations.{bytes_of}
use Rattle.gate_config.proofs.read_all.read_behind.Goals as goal

pub invariant_of-result : goal.invariant_of-result
invariant_of-result c = record {
  few_later = few c.args.documents.now c.in_ok-later.later c.in_ok-later.ensures.read c.requires;
  alike = all_alike c.args.first (map bytes_of c.args.documents.now) c.in_ok-later.later c.in_ok-later.ensures.read c.in_ok-later.ensures.passed;
}
