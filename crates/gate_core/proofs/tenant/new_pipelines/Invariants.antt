use Rattle.std.proofs.Common.{◌≡◌, map}
use Rattle.std.specs.List.{range_with_len}
use Rattle.gate_core.specs.Pipelines.{fresh_pipeline}
use Rattle.gate_core.proofs.tenant.new_pipelines.Given as goal

-- one for each number so far
abbrev pub invariant-loop-number : goal.invariant-loop-number
invariant-loop-number l = l.pipelines.items ≡ map (fresh_pipeline l.config l.tenant.0) (range_with_len 0 l.number)
