use Rattle.std.proofs.Common.{◌∙◌, sym}
use Rattle.gate_config.proofs.Faults.{new, taken}
use Rattle.gate_config.proofs.Listed.{named_seen}
use Rattle.gate_config.proofs.pipelines.check_new.Goals as goal

pub returns-then-is_named : goal.returns-then-is_named
returns-then-is_named c =
    taken (sym (named_seen c.args.before.now c.args.name.now) ∙ sym c.is_named.ensures ∙ c.if-is_named.true) (c.in_ok-path.ensures ∙ c.member.ensures)

pub returns : goal.returns
returns c = (new _ (sym (named_seen c.args.before.now c.args.name.now) ∙ sym c.is_named.ensures ∙ c.if-is_named.false), tt)
