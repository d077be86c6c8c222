-- The board: how far the pipelines of a configuration are.
use Rattle.std.specs.Prelude.{ℕ, List, false, length, map, option_map, replicate, slice_get, slice_set, unwrap_or}
use Rattle.gate_config.specs.declared.config.Config.{Config}
use Rattle.gate_config.specs.declared.config.TenantSpec.{TenantSpec}
use Rattle.gate_config.specs.Lookups.{tenants_of}
use Rattle.gate_pipeline.specs.States.{State}
use Rattle.gate_status.specs.declared.progress.Progress.{Progress}

-- a pipeline from which nothing was taken yet
abbrev pub no_progress : Progress
no_progress = record { done = 0; items = 0; reports = 0; finished = false }

-- a board on which no pipeline has begun
abbrev pub new_board : Config → List (List Progress)
new_board config = map (λ (tenant : TenantSpec). replicate (length tenant.pipelines) no_progress) (tenants_of config)

-- the board after the entry of pipeline p of tenant t, if there is one, was set, and no other was
abbrev pub with_progress : ℕ → ℕ → Progress → List (List Progress) → List (List Progress)
with_progress t p progress board = unwrap_or (option_map (λ pipelines. slice_set board t (slice_set pipelines p progress)) (slice_get board t)) board

-- how far a pipeline is: the trigger events that it has processed, its items and its reports, and whether it met its end mark
abbrev pub progress_of : State → Progress
progress_of state = record { done = length state.done; items = length state.items.items; reports = length state.items.reported; finished = state.finished }
