-- Definitions about look-ups that private contracts and proofs cite, beside `Lookups`.
use Rattle.std.specs.Prelude.{ℕ, List, map}
use Rattle.gate_config.specs.declared.config.PipelineSpec.{PipelineSpec}

-- the names of pipelines
abbrev pub names_of : List PipelineSpec → List (List ℕ)
names_of pipelines = map (λ (pipeline : PipelineSpec). pipeline.name) pipelines
