use Rattle.std.specs.Prelude.{◌≡◌, [], ℕ, length, vec_items}
use Rattle.gate_config.specs.declared.config.Config.{Config}
use Rattle.gate_config.specs.Lookups.{pipelines_of}
use Rattle.gate_core.specs.Views.{EachAt}
use Rattle.gate_main_command.specs.Inner.Rows.{KnowsAt}
use Rattle.gate_main_command.proofs.pipeline_journals.journals_of.Given as goal

-- each pipeline so far has a journal
abbrev pub invariant-loop-pipeline : goal.invariant-loop-pipeline
invariant-loop-pipeline l = (length (vec_items l.journals) ≡ l.pipeline-index) × ((config : Config) (t : ℕ) → pipelines_of config t ≡ l.pipelines → EachAt (KnowsAt config [] t) (vec_items l.journals))
