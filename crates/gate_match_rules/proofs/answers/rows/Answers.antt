use Rattle.std.proofs.Common.{◌∙◌, ap, Bool, Bor, ℕ, List, map}
use Rattle.gate_lanes.specs.Masks.{is_among}
use Rattle.gate_intern.specs.Columns.{texts_of}
use Rattle.gate_intern.specs.Marks.{numbers_where}
use Rattle.gate_match_rules.specs.Finding.{entry_meets, reach_of}
use Rattle.gate_match_rules.proofs.Results.{if_ok}
use Rattle.gate_match_rules.proofs.Texts.{rows_pass}
use Rattle.gate_match_rules.proofs.answers.rows.Goals as goal

abbrev now : Bor (List ℕ) → List ℕ
now text = text.now

-- the rows of a column whose number is that of a text that passes
abbrev passing : (List ℕ → Bool) → List (List ℕ) → List ℕ → List Bool
passing test texts column = map (is_among (numbers_where test texts)) column

pub returns : goal.returns
returns c =
    let field = c.args.question.now.field in
    let events = c.args.search.now.columns.now in
    if_ok c.of_ids.result _ _ (λ rows h one e.
    h
    ∙ ap (λ ids. map (is_among ids) c.column.result.now) (c.as_slice.ensures.value ∙ c.in_ok-ids.ensures one e)
    ∙ ap (λ reach. passing (entry_meets reach one) (map now c.texts-texts.result.now) c.column.result.now) c.reach_in.ensures
    ∙ ap (λ texts. passing (entry_meets (reach_of field) one) texts c.column.result.now) c.texts-texts.ensures
    ∙ ap (passing (entry_meets (reach_of field) one) (texts_of field events)) c.column.ensures.column
    ∙ rows_pass c.texts_mark_their_events.ensures field (entry_meets (reach_of field) one) events) c.of_ids.ensures
