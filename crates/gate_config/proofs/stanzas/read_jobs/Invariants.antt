use Rattle.std.proofs.Common.{◌≡◌, map, take}
use Rattle.gate_config.specs.Document.{jobs_in}
use Rattle.gate_config.specs.Inner.Found.{found_view}
use Rattle.gate_config.specs.Lookups.{jobs_under}
use Rattle.gate_config.specs.Inner.Lookups.{names_of}
use Rattle.gate_config.proofs.stanzas.read_jobs.Given as goal

abbrev pub invariant-loop-pipeline : goal.invariant-loop-pipeline
invariant-loop-pipeline l = map jobs_under l.jobs.items ≡ map (jobs_in (map found_view l.entries)) (names_of (take l.pipeline-index l.pipelines))
