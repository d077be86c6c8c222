use Rattle.std.proofs.Common.{◌≡◌, ◌++◌, flat_map, string_bytes, take}
use Rattle.gate_journal.specs.Members.{next_name}
use Rattle.gate_journal.proofs.members.push_more_names.Given as goal

-- the names so far are written
abbrev pub invariant-loop-job : goal.invariant-loop-job
invariant-loop-job l = string_bytes l.out ≡ string_bytes l.fn.out ++ flat_map next_name (take l.job-index l.jobs)
