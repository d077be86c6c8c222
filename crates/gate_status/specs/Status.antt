-- The text that `status` prints of a board.
use Rattle.std.specs.Prelude.{ℕ, List, [], ◌∷◌, ◌++◌, codes, decimal, drop}
use Rattle.gate_record.specs.Names.{name_text}
use Rattle.gate_config.specs.declared.config.Config.{Config}
use Rattle.gate_config.specs.declared.config.PipelineSpec.{PipelineSpec}
use Rattle.gate_config.specs.declared.config.TenantSpec.{TenantSpec}
use Rattle.gate_config.specs.Lookups.{tenants_of}
use Rattle.gate_line.specs.Words.{state_word}
use Rattle.gate_status.specs.declared.progress.Progress.{Progress}
use Rattle.gate_status.specs.Boards.{no_progress}

abbrev pub pipeline_start : List ℕ → List ℕ → List ℕ
pipeline_start tenant pipeline = codes "pipeline " ++ name_text tenant ++ codes " " ++ name_text pipeline

abbrev pub counts_text : Progress → List ℕ
counts_text progress =
    (codes " done " ++ decimal progress.done ++ codes " items " ++ decimal progress.items ++ codes " reports " ++ decimal progress.reports ++ codes " ") ++ (state_word progress.finished ++ codes "\n")

-- the line of a pipeline
abbrev pub status_line : List ℕ → List ℕ → Progress → List ℕ
status_line tenant pipeline progress = pipeline_start tenant pipeline ++ counts_text progress

-- The first entry of a board's row. A pipeline without an entry counts as one that hasn't begun
abbrev pub first_of : List Progress → Progress
first_of [] = no_progress
first_of (progress ∷ entries) = progress

-- the first row of a board, if it has one
abbrev pub row_of : List (List Progress) → List Progress
row_of [] = []
row_of (row ∷ rows) = row

-- the lines of a tenant's pipelines
abbrev pub pipeline_lines : List ℕ → List PipelineSpec → List Progress → List ℕ
pipeline_lines tenant [] entries = []
pipeline_lines tenant (spec ∷ specs) entries = status_line tenant spec.name (first_of entries) ++ pipeline_lines tenant specs (drop 1 entries)

-- the lines of these tenants' pipelines
abbrev pub tenant_lines : List TenantSpec → List (List Progress) → List ℕ
tenant_lines [] rows = []
tenant_lines (tenant ∷ tenants) rows = pipeline_lines tenant.name tenant.pipelines (row_of rows) ++ tenant_lines tenants (drop 1 rows)

-- a line for each pipeline of a configuration
abbrev pub status_text : Config → List (List Progress) → List ℕ
status_text config board = tenant_lines (tenants_of config) board
