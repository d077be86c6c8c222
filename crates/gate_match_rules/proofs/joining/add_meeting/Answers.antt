use Rattle.std.proofs.Common.{◌∙◌, ap, sym, Bool, false, map, take, length}
use Rattle.std.specs.List.{list_any}
use Rattle.std.proofs.lemmas.List.{length-replicate}
use Rattle.gate_record.specs.declared.event.Event.{Event}
use Rattle.gate_rule.specs.Rule.{meets}
use Rattle.gate_match_rules.specs.declared.compiled.Compiled.{Compiled}
use Rattle.gate_match_rules.specs.Compiling.{rule_of, rules_in}
use Rattle.gate_match_rules.specs.Marks.{both, either}
use Rattle.gate_match_rules.specs.Narrowing.{meeting}
use Rattle.gate_match_rules.proofs.Rows.{any_done, join_begins, joined_more, list_any_map, map_alike}
use Rattle.gate_match_rules.proofs.joining.add_meeting.Goals as goal

abbrev test : Compiled → Event → Bool
test one event = meets (rule_of one) event

pub loop-rule-init : goal.loop-rule-init
loop-rule-init c = record {
  right = c.requires.right;
  met = ap length c.in_ok-met.ensures ∙ length-replicate c.rows.result false ∙ c.rows.ensures.rows;
  len = c.requires.len;
  adds = join_begins c.args.out.now c.args.rows.now c.args.search.now.columns.now c.requires.len c.requires.rows;
}

pub loop-rule-preserved : goal.loop-rule-preserved
loop-rule-preserved c =
    let events = c.args.search.now.columns.now in
    let out = c.args.out.now in
    let rows = c.args.rows.now in
    let i = c.loop-rule.rule-index in
    record {
      right = c.narrow.ensures.right;
      met = c.narrow.ensures.len;
      len = c.or.ensures.len ∙ c.loop-rule.invariant.len;
      adds =
          c.or.ensures.value
          ∙ ap (λ so_far. either so_far c.narrow.new.out) c.loop-rule.invariant.adds
          ∙ ap (either (either out (both rows (map (λ event. list_any (λ one. test one event) (take i c.args.rules.now)) events))))
          (c.in_ok-narrow.ensures.leaves ∙ ap (λ left. both left (meeting (rule_of c.rule-item.result) events)) c.copy_from.ensures
          ∙ ap (λ (one : Compiled). both rows (meeting (rule_of one) events)) c.rule-item.is)
          ∙ joined_more test c.args.rules.now i c.rule-item.result out rows events c.loop-rule-test.true;
    }

pub loop-rule-preserved-then-is_ruled_out : goal.loop-rule-preserved-then-is_ruled_out
loop-rule-preserved-then-is_ruled_out c =
    let events = c.args.search.now.columns.now in
    let out = c.args.out.now in
    let rows = c.args.rows.now in
    let i = c.loop-rule.rule-index in
    record {
      right = c.loop-rule.invariant.right;
      met = c.loop-rule.invariant.met;
      len = c.loop-rule.invariant.len;
      adds =
          join_begins c.loop-rule.out rows events c.loop-rule.invariant.len c.requires.rows
          ∙ ap (λ none. either c.loop-rule.out (both rows none)) (sym (c.is_ruled_out.ensures events c.loop-rule.invariant.right c.if-is_ruled_out.true))
          ∙ ap (λ so_far. either so_far (both rows (meeting (rule_of c.rule-item.result) events))) c.loop-rule.invariant.adds
          ∙ ap (λ (one : Compiled). either (either out (both rows (map (λ event. list_any (λ one. test one event) (take i c.args.rules.now)) events))) (both rows (meeting (rule_of one) events))) c.rule-item.is
          ∙ joined_more test c.args.rules.now i c.rule-item.result out rows events c.loop-rule-test.true;
    }

pub returns-clause-adds : goal.returns-clause-adds
returns-clause-adds c =
    let events = c.args.search.now.columns.now in
    let rules = c.args.rules.now in
    c.loop-rule.invariant.adds
    ∙ ap (λ met. either c.args.out.now (both c.args.rows.now met))
    (any_done test rules c.loop-rule.rule-index events c.loop-rule-test.false
    ∙ map_alike (λ event. list_any (λ one. test one event) rules) (λ event. list_any (λ rule. meets rule event) (rules_in rules)) events (λ event. sym (list_any_map rule_of (λ rule. meets rule event) rules)))
