-- What the journals of all pipelines know.
use Rattle.std.specs.Prelude.{◌≡◌, ℕ, List, length}
use Rattle.std.specs.Global.{Vec}
use Rattle.gate_config.specs.declared.config.Config.{Config}
use Rattle.gate_config.specs.Lookups.{pipelines_of, tenants_of}
use Rattle.gate_core.specs.Views.{EachAt}
use Rattle.gate_journal.specs.Follows.{Knows}
use Rattle.gate_journal.specs.declared.pipeline_journal.PipelineJournal.{PipelineJournal}
use Rattle.gate_main_command.specs.Telling.{Told, items_told, manager_of}

-- the journal of pipeline p of tenant t knows the pipeline's items after what was told
abbrev pub KnowsAt : Config → List Told → ℕ → ℕ → PipelineJournal → Type 0
KnowsAt config told t p journal = Knows journal (manager_of config t p) (items_told config told t p)

-- a tenant has a journal for each of its pipelines
abbrev pub KnowRow : Config → List Told → ℕ → List PipelineJournal → Type 0
KnowRow config told t row = (length row ≡ length (pipelines_of config t)) × EachAt (KnowsAt config told t) row

-- each tenant has its journals
abbrev pub KnowAll : Config → List Told → List (Vec PipelineJournal) → Type 0
KnowAll config told journals = (length journals ≡ length (tenants_of config)) × EachAt (λ t (row : Vec PipelineJournal). KnowRow config told t row.items) journals
