use Rattle.std.proofs.Common.{◌∙◌, ap, sym, Bool, false, map, take, replicate}
use Rattle.std.specs.List.{list_any}
use Rattle.gate_record.specs.declared.event.Event.{Event}
use Rattle.gate_intern.specs.declared.field.Field.{Field}
use Rattle.gate_intern.specs.Columns.{field_of}
use Rattle.gate_intern.specs.Marks.{passes}
use Rattle.gate_match_rules.specs.declared.asked.Asked.{Asked}
use Rattle.gate_match_rules.specs.Finding.{entry_meets, met_in, reach_of}
use Rattle.gate_match_rules.specs.Marks.{either}
use Rattle.gate_match_rules.specs.Narrowing.{entries_of}
use Rattle.gate_match_rules.proofs.Rows.{any_begins, any_done, any_more, list_any_map, map_alike}
use Rattle.gate_match_rules.proofs.narrowing.any_met.Goals as goal

abbrev test : Field → Asked → Event → Bool
test field one event = passes (entry_meets (reach_of field) one.entry.now) (field_of field event)

pub loop-one-init : goal.loop-one-init
loop-one-init c = record {
  right = c.requires;
  met = c.in_ok-met.ensures ∙ ap (λ n. replicate n false) c.rows.ensures.rows ∙ any_begins (test c.args.field) c.args.asked.now c.args.search.now.columns.now;
}

pub loop-one-preserved : goal.loop-one-preserved
loop-one-preserved c =
    let events = c.args.search.now.columns.now in
    let field = c.args.field in
    let i = c.loop-one.one-index in
    record {
      right = c.join.ensures.fits.0;
      met =
          c.in_ok-join.ensures.joins
          ∙ ap (λ rows. either rows (met_in field c.one-item.result.entry.now events)) c.loop-one.invariant.met
          ∙ ap (λ (one : Asked). either (map (λ event. list_any (λ one. test field one event) (take i c.args.asked.now)) events) (map (test field one) events)) c.one-item.is
          ∙ any_more (test field) c.args.asked.now i c.one-item.result events c.loop-one-test.true;
    }

pub returns-clause-met : goal.returns-clause-met
returns-clause-met c =
    let events = c.args.search.now.columns.now in
    let field = c.args.field in
    let asked = c.args.asked.now in
    c.loop-one.invariant.met ∙ any_done (test field) asked c.loop-one.one-index events c.loop-one-test.false
    ∙ sym (map_alike (λ event. list_any (λ entry. passes (entry_meets (reach_of field) entry) (field_of field event)) (entries_of asked)) (λ event. list_any (λ one. test field one event) asked) events
    (λ event. list_any_map (λ (one : Asked). one.entry.now) (λ entry. passes (entry_meets (reach_of field) entry) (field_of field event)) asked))
