use Rattle.std.proofs.Common.{◌∙◌, ap, sym, map}
use Rattle.gate_record.specs.Events.{is_delete}
use Rattle.gate_match_rules.specs.Marks.{both, without}
use Rattle.gate_match_rules.specs.Narrowing.{not_ignored}
use Rattle.gate_match_rules.proofs.Masks.{marks_are, words_of_map}
use Rattle.gate_match_rules.proofs.Rows.{both_all, without_is}
use Rattle.gate_match_rules.proofs.narrowing.narrow_deletes.Goals as goal

pub returns-then-ignores-clause-leaves : goal.returns-then-ignores-clause-leaves
returns-then-ignores-clause-leaves c =
    let events = c.args.columns.now in
    c.clear.ensures.value
    ∙ ap (without c.args.out.now) (marks_are c.deletes.result.now (map is_delete events) (c.deletes.ensures.mask ∙ words_of_map is_delete events))
    ∙ without_is is_delete c.args.out.now events
    ∙ ap (λ ignores. both c.args.out.now (not_ignored ignores events)) (sym c.if-ignores.true)

pub returns-else-ignores-clause-leaves : goal.returns-else-ignores-clause-leaves
returns-else-ignores-clause-leaves c =
    let events = c.args.columns.now in
    sym (both_all c.args.out.now events c.requires)
    ∙ ap (λ ignores. both c.args.out.now (not_ignored ignores events)) (sym c.if-ignores.false)
