use Rattle.std.proofs.Common.{◌≡◌, ◌++◌, map, take, drop, vec_len}
use Rattle.gate_items.specs.Machine.{open_job}
use Rattle.gate_items.proofs.build_set.opened.Given as goal

abbrev pub invariant-loop-place : goal.invariant-loop-place
invariant-loop-place l = record {
  items : l.jobs.items ≡ map open_job (take l.place l.fn.jobs) ++ drop l.place l.fn.jobs;
  len : vec_len l.jobs ≡ l.place-end;
}
