use Rattle.std.proofs.Common.{◌≡◌, ◌∙◌, ℕ, List, [], ◌∷◌, map, refl, sym, ap}
use Rattle.serde_json.specs.Data.{Data}
use Rattle.serde_json.specs.View.{view}
use Rattle.gate_config.proofs.Faults.{exit, fault_front, fault_rest, passed_both}
use Rattle.gate_config.specs.Document.{PipelineTexts, name_of, pipeline_items, pipeline_names, pipeline_texts}
use Rattle.gate_config.specs.Inner.Lookups.{names_of}
use Rattle.gate_config.specs.Texts.{texts_of_pipeline}
use Rattle.gate_config.specs.declared.config.PipelineSpec.{PipelineSpec}
use Rattle.gate_config.proofs.pipelines.read_all_items.Goals as goal

names_read : (pipelines : List PipelineSpec) → map (λ (texts : PipelineTexts). texts.name) (map texts_of_pipeline pipelines) ≡ names_of pipelines
names_read [] = refl
names_read (pipeline ∷ pipelines) = ap (λ names. pipeline.name ∷ names) (names_read pipelines)

names_said : (connections : List (List ℕ)) (entries : List (ℕ × Data)) → map (λ (texts : PipelineTexts). texts.name) (map (pipeline_texts connections) entries) ≡ map (λ (entry : ℕ × Data). name_of entry.1) entries
names_said connections [] = refl
names_said connections (entry ∷ entries) = ap (λ names. name_of entry.1 ∷ names) (names_said connections entries)

-- the pipelines that were read have the names that the items have
same_names : (connections : List (List ℕ)) (pipelines : List PipelineSpec) (items : List Data) → map texts_of_pipeline pipelines ≡ map (pipeline_texts connections) (pipeline_items items) → names_of pipelines ≡ pipeline_names items
same_names connections pipelines items e =
    sym (names_read pipelines) ∙ ap (map (λ (texts : PipelineTexts). texts.name)) e ∙ names_said connections (pipeline_items items)

pub returns-in_err-pipelines : goal.returns-in_err-pipelines
returns-in_err-pipelines c =
    exit _ c.from_residual.result c.from_residual.ensures.1 (fault_front _ c.in_err-pipelines.ensures)

pub returns-in_err-jobs : goal.returns-in_err-jobs
returns-in_err-jobs c =
    let names : names_of c.as_slice.result.now ≡ pipeline_names (map view c.args.items.now) = ap names_of c.as_slice.ensures ∙ same_names c.args.connections.now c.in_ok-pipelines.pipelines (map view c.args.items.now) c.in_ok-pipelines.ensures.1 in
    exit _ c.from_residual-in_err-jobs.result c.from_residual-in_err-jobs.ensures.1 (fault_rest c.in_ok-pipelines.ensures.0 (rw names at c.in_err-jobs.ensures))

pub returns : goal.returns
returns c =
    let names : names_of c.as_slice.result.now ≡ pipeline_names (map view c.args.items.now) = ap names_of c.as_slice.ensures ∙ same_names c.args.connections.now c.in_ok-pipelines.pipelines (map view c.args.items.now) c.in_ok-pipelines.ensures.1 in
    (passed_both c.in_ok-pipelines.ensures.0 (rw names at c.in_ok-jobs.ensures.0), (c.in_ok-pipelines.ensures.1, rw names at c.in_ok-jobs.ensures.1))
