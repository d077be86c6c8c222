use Rattle.std.proofs.Common.{◌≡◌, ◌++◌, flat_map, string_bytes, take}
use Rattle.gate_core.specs.Shows.{job_text}
use Rattle.gate_core.proofs.showing.push_jobs.Given as goal

-- the jobs so far are written
abbrev pub invariant-loop-job : goal.invariant-loop-job
invariant-loop-job l = string_bytes l.out ≡ string_bytes l.fn.out ++ flat_map job_text (take l.job-index l.jobs)
