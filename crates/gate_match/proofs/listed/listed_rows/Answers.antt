use Rattle.std.proofs.Common.{◌≡◌, ◌∙◌, refl, ap, ℕ, List, Option, Some, None, map}
use Rattle.gate_record.specs.declared.event.Event.{Event}
use Rattle.gate_config.specs.declared.config.Config.{Config}
use Rattle.gate_config.specs.Lookups.{belongs}
use Rattle.gate_config.specs.Selection.{is_listed}
use Rattle.gate_lanes.specs.Masks.{is_among}
use Rattle.gate_intern.specs.Columns.{texts_of}
use Rattle.gate_intern.specs.declared.field.Field.TheVariants.{Project}
use Rattle.gate_intern.specs.Marks.{numbers_where, passes}
use Rattle.gate_match_rules.proofs.Results.{if_ok}
use Rattle.gate_match_rules.proofs.Rows.{map_alike}
use Rattle.gate_match_rules.proofs.Texts.{rows_pass}
use Rattle.gate_match.proofs.listed.listed_rows.Goals as goal

listed_where : (config : Config) (t c : ℕ) (project : Option (List ℕ)) → passes (belongs config t c) project ≡ is_listed config t c project
listed_where config t c None = refl
listed_where config t c (Some project) = refl

pub returns : goal.returns
returns c =
    let config = c.args.config.now in
    let t = c.args.tenant.0 in
    let conn = c.args.conn.0 in
    let events = c.args.columns.now in
    if_ok c.of_ids.result _ _ (λ rows h.
    h
    ∙ ap (λ ids. map (is_among ids) c.column.result.now) (c.as_slice.ensures.value ∙ c.in_ok-ids.ensures ∙ ap (numbers_where (belongs config t conn)) c.texts.ensures)
    ∙ ap (map (is_among (numbers_where (belongs config t conn) (texts_of Project events)))) c.column.ensures.column
    ∙ rows_pass c.texts_mark_their_events.ensures Project (belongs config t conn) events
    ∙ map_alike (λ (event : Event). passes (belongs config t conn) event.project) (λ (event : Event). is_listed config t conn event.project) events (λ event. listed_where config t conn event.project))
    c.of_ids.ensures
