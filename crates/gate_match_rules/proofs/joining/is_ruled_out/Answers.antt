use Rattle.std.proofs.Common.{◌∙◌, ap, sym, arith}
use Rattle.gate_match_rules.specs.Compiling.{rule_of}
use Rattle.gate_match_rules.specs.Marks.{marks_any}
use Rattle.gate_match_rules.specs.Narrowing.{entries_of}
use Rattle.gate_match_rules.proofs.Rows.{not_true}
use Rattle.gate_match_rules.proofs.RuledOut.{none_meets, only}
use Rattle.gate_match_rules.proofs.joining.is_ruled_out.Goals as goal

pub returns-in-Some : goal.returns-in-Some
returns-in-Some c = λ events right yes.
    let one = c.one-item.result in
    none_meets (rule_of c.args.rule.now) one.entry.now events
    (ap entries_of (sym c.as_slice.ensures.value ∙ only c.as_slice.result.now one (omega (arith, c.in-len1.len_at_least)) (omega (arith, c.in-len1.len_below)) c.one-item.is))
    (ap marks_any (sym (c.in-Some.ensures events right)) ∙ not_true (marks_any c.in-Some.rows.now) (sym c.is_none.ensures ∙ yes))
