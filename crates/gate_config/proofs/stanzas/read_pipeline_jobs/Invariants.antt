use Rattle.std.proofs.Common.{◌≡◌, ℕ, List, map, take}
use Rattle.gate_config.specs.Document.{jobs_in}
use Rattle.gate_config.specs.Inner.Found.{found_view}
use Rattle.gate_config.specs.Lookups.{jobs_under}
use Rattle.gate_config.proofs.stanzas.read_pipeline_jobs.Given as goal

abbrev pub invariant-loop-entry : goal.invariant-loop-entry
invariant-loop-entry l = (project : List ℕ) → jobs_under l.jobs project ≡ jobs_in (map found_view (take l.entry-index l.entries)) l.pipeline project
