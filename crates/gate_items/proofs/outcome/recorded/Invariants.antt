use Rattle.std.proofs.Common.{◌≡◌, ◌++◌, map, take, drop, vec_len}
use Rattle.gate_items.specs.Machine.{record_at}
use Rattle.gate_items.proofs.outcome.recorded.Given as goal

abbrev pub invariant-loop-place : goal.invariant-loop-place
invariant-loop-place l = record {
  items : l.jobs.items ≡ map (record_at l.name l.success) (take l.place l.fn.jobs) ++ drop l.place l.fn.jobs;
  len : vec_len l.jobs ≡ l.place-end;
}
