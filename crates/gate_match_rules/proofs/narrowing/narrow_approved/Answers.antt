use Rattle.std.proofs.Common.{◌∙◌, ap, ℕ, ℤ, List, Bool, map, take}
use Rattle.std.specs.List.{list_all}
use Rattle.gate_record.specs.declared.event.Event.{Event}
use Rattle.gate_rule.specs.Rule.{is_given}
use Rattle.gate_match_rules.specs.Marks.{both}
use Rattle.gate_match_rules.specs.Narrowing.{given_to}
use Rattle.gate_match_rules.proofs.Rows.{all_begins, all_more}
use Rattle.gate_match_rules.proofs.narrowing.narrow_approved.Goals as goal

abbrev test : List ℕ × ℤ → Event → Bool
test wanted event = is_given wanted event.approvals

pub loop-wanted-init : goal.loop-wanted-init
loop-wanted-init c = record {
  right = c.requires.right;
  len = c.requires.len;
  leaves = all_begins test c.args.asked.now c.args.out.now c.args.search.now.columns.now c.requires.len;
}

pub loop-wanted-preserved : goal.loop-wanted-preserved
loop-wanted-preserved c =
    let events = c.args.search.now.columns.now in
    let i = c.loop-wanted.wanted-index in
    record {
      right = (c.loop-wanted.invariant.right.0, c.leave.ensures.fits.0);
      len = c.leave.ensures.fits.1;
      leaves =
          c.in_ok-leave.ensures.leaves
          ∙ ap (λ rows. both rows (given_to c.wanted-item.result events)) c.loop-wanted.invariant.leaves
          ∙ ap (both (both c.args.out.now (map (λ event. list_all (λ wanted. test wanted event) (take i c.args.asked.now)) events)))
          (ap (λ wanted. given_to wanted events) c.wanted-item.is)
          ∙ all_more test c.args.asked.now i c.wanted-item.result c.args.out.now events c.loop-wanted-test.true;
    }
