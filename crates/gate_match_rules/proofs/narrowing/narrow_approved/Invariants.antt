use Rattle.std.proofs.Common.{◌≡◌, length, map, take}
use Rattle.std.specs.List.{list_all}
use Rattle.gate_rule.specs.Rule.{is_given}
use Rattle.gate_match_rules.specs.Knowing.{AreRight}
use Rattle.gate_match_rules.specs.Marks.{both}
use Rattle.gate_match_rules.proofs.narrowing.narrow_approved.Given as goal

-- the rows that are left are those to which the categories so far are given
abbrev pub invariant-loop-wanted : goal.invariant-loop-wanted
invariant-loop-wanted l = record {
  right : AreRight l.search.columns.now l.answers;
  len : length l.out ≡ length l.search.columns.now;
  leaves : l.out ≡ both l.fn.out (map (λ event. list_all (λ wanted. is_given wanted event.approvals) (take l.wanted-index l.asked)) l.search.columns.now);
}
