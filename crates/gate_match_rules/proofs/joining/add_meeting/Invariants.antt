use Rattle.std.proofs.Common.{◌≡◌, length, map, take}
use Rattle.std.specs.List.{list_any}
use Rattle.gate_rule.specs.Rule.{meets}
use Rattle.gate_match_rules.specs.Compiling.{rule_of}
use Rattle.gate_match_rules.specs.Knowing.{AreRight}
use Rattle.gate_match_rules.specs.Marks.{both, either}
use Rattle.gate_match_rules.proofs.joining.add_meeting.Given as goal

-- the rows that were added are those that meet one of the rules so far
abbrev pub invariant-loop-rule : goal.invariant-loop-rule
invariant-loop-rule l = record {
  right : AreRight l.search.columns.now l.answers;
  met : length l.met ≡ length l.search.columns.now;
  len : length l.out ≡ length l.search.columns.now;
  adds : l.out ≡ either l.fn.out (both l.rows (map (λ event. list_any (λ one. meets (rule_of one) event) (take l.rule-index l.rules)) l.search.columns.now));
}
