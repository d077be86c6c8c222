use Rattle.std.proofs.Common.{◌∙◌, sym}
use Rattle.gate_config.proofs.Faults.{new, taken}
use Rattle.gate_config.proofs.Listed.{taken_seen}
use Rattle.gate_config.proofs.tenants.check_new.Goals as goal

pub returns-then-is_taken : goal.returns-then-is_taken
returns-then-is_taken c =
    taken (sym (taken_seen c.args.before.now c.args.name.now) ∙ sym c.is_taken.ensures ∙ c.if-is_taken.true) (c.in_ok-path.ensures ∙ c.member.ensures)

pub returns : goal.returns
returns c = (new _ (sym (taken_seen c.args.before.now c.args.name.now) ∙ sym c.is_taken.ensures ∙ c.if-is_taken.false), tt)
