-- Compiled rules, and the rules that they were compiled from.
use Rattle.std.specs.Prelude.{List, map}
use Rattle.gate_rule.specs.declared.rule.Rule.{Rule}
use Rattle.gate_match_rules.specs.declared.compiled.Compiled.{Compiled}
use Rattle.gate_match_rules.specs.Narrowing.{entries_of}

-- the rule that was compiled
abbrev pub rule_of : Compiled → Rule
rule_of compiled = record {
  event = entries_of compiled.event.items;
  branch = entries_of compiled.branch.items;
  refname = entries_of compiled.refname.items;
  username = entries_of compiled.username.items;
  email = entries_of compiled.email.items;
  comment = entries_of compiled.comment.items;
  approval = compiled.approval.now;
  ignore_deletes = compiled.ignore_deletes;
}

abbrev pub rules_in : List Compiled → List Rule
rules_in compiled = map rule_of compiled
