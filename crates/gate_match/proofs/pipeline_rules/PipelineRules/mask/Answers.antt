use Rattle.std.proofs.Common.{◌≡◌, ◌∙◌, ◌&&◌, ap, sym, ℕ, List, length}
use Rattle.std.specs.List.{zip}
use Rattle.std.proofs.lemmas.List.{length-map}
use Rattle.std.proofs.lemmas.Slice.Zip.{seconds-zip}
use Rattle.gate_record.specs.declared.event.Event.{Event}
use Rattle.gate_config.specs.declared.generations.Generations.{Generations}
use Rattle.gate_config.specs.Generations.{config_at}
use Rattle.gate_config.specs.Selection.{is_listed, selects_event}
use Rattle.gate_match.specs.declared.batch.Batch.{Batch}
use Rattle.gate_match.specs.Inner.Batches.{events_in, keys_in, rows_in}
use Rattle.gate_match.specs.Inner.Choosing.{active_in, same_key}
use Rattle.gate_match_rules.specs.Marks.{words_of}
use Rattle.gate_match.proofs.Chosen.{chosen_rows, keys_length}
use Rattle.gate_match_rules.proofs.Masks.{words_of_map}
use Rattle.gate_match.proofs.pipeline_rules.PipelineRules.mask.Goals as goal

active_length : (gens : Generations) (t : ℕ) (key : ℕ × ℕ) (keys : List (ℕ × ℕ)) (events : List Event) → length events ≡ length keys → length (active_in gens t key (zip keys events)) ≡ length events
active_length gens t key keys events same =
    let batch = zip keys events in
    length-map batch (λ (row : (ℕ × ℕ) × Event). same_key row.0 key && is_listed (config_at gens key.0) t key.1 row.1.project)
    ∙ sym (length-map batch (λ (row : (ℕ × ℕ) × Event). row.1)) ∙ ap length (seconds-zip keys events same)

-- as many keys as events
fits : (batch : Batch) → length (events_in batch) ≡ length (keys_in batch)
fits batch = keys_length batch.gens.now batch.conns.now (length (events_in batch)) batch.each_gen batch.each_conn

pub chosen-requires-clause-lens : goal.chosen-requires-clause-lens
chosen-requires-clause-lens c = λ k d h.
    let program = c.args.self.now.program.now in
    let batch = c.args.batch.now in
    ap length (c.requires.actives k d h) ∙ active_length program.gens.now program.tenant.0 _ (keys_in batch) (events_in batch) (fits batch)

pub returns-clause-mask : goal.returns-clause-mask
returns-clause-mask c =
    let gens = c.args.self.now.program.now.gens.now in
    let t = c.args.self.now.program.now.tenant.0 in
    let p = c.args.self.now.pipeline in
    let batch = c.args.batch.now in
    c.into_words.ensures
    ∙ ap words_of (c.in_ok-rows.ensures.chosen
    ∙ chosen_rows gens t p c.args.actives.now (keys_in batch) (events_in batch) (fits batch) c.requires.actives c.requires.all)
    ∙ sym (words_of_map (λ (row : (ℕ × ℕ) × Event). selects_event (config_at gens row.0.0) t p row.0.1 row.1) (rows_in batch))
