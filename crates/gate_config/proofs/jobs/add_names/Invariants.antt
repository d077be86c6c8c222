use Rattle.std.proofs.Common.{◌≡◌, map, take}
use Rattle.std.specs.List.{filter_map}
use Rattle.serde_json.specs.View.{view}
use Rattle.gate_config.specs.Document.{name_in}
use Rattle.gate_config.specs.Inner.Jobs.{with_jobs}
use Rattle.gate_config.proofs.jobs.add_names.Given as goal

abbrev pub invariant-loop-job : goal.invariant-loop-job
invariant-loop-job l = l.list ≡ with_jobs l.initial.list (filter_map name_in (map view (take l.job-index l.jobs)))
