use Rattle.std.proofs.Common.{◌∙◌, ap}
use Rattle.gate_rule.specs.Pattern.{text_of}
use Rattle.gate_config.proofs.Faults.{exit, fault_front, fault_here, fault_later, fault_rest, passed_both, passed_more}
use Rattle.gate_config.proofs.entries.read_object.Goals as goal

pub returns-in_err-check_keys : goal.returns-in_err-check_keys
returns-in_err-check_keys c = exit _ c.from_residual.result c.from_residual.ensures.1 (fault_front _ c.in_err-check_keys.ensures)

pub returns-in_err-text : goal.returns-in_err-text
returns-in_err-text c =
    exit _ c.from_residual-in_err-text.result c.from_residual-in_err-text.ensures.1
    (fault_rest c.in_ok-check_keys.ensures.0 (fault_here c.in_err-text.ensures))

pub returns-in_err-negate : goal.returns-in_err-negate
returns-in_err-negate c =
    exit _ c.from_residual-in_err-negate.result c.from_residual-in_err-negate.ensures.1
    (fault_rest c.in_ok-check_keys.ensures.0 (fault_later c.in_ok-text.ensures.0 (fault_here c.in_err-negate.ensures)))

pub returns-in_err-pattern : goal.returns-in_err-pattern
returns-in_err-pattern c =
    exit _ c.from_residual-in_err-pattern.result c.from_residual-in_err-pattern.ensures.1
    (fault_rest c.in_ok-check_keys.ensures.0 (fault_later c.in_ok-text.ensures.0 (fault_later c.in_ok-negate.ensures.0
    (rw (c.member-place.ensures, c.in_ok-text.ensures.1) at c.in_err-pattern.ensures))))

pub returns : goal.returns
returns c =
    let built = rw (c.member-place.ensures, c.in_ok-text.ensures.1) at c.in_ok-pattern.ensures.0 in
    let text = ap text_of c.new.ensures.pattern ∙ c.in_ok-pattern.ensures.1 ∙ c.in_ok-text.ensures.1 in
    let negate = c.new.ensures.negate ∙ c.in_ok-negate.ensures.1 in
    (passed_both c.in_ok-check_keys.ensures.0 (passed_more c.in_ok-text.ensures.0 (passed_more c.in_ok-negate.ensures.0 built)), λ i. record { text = text i; negate = negate i })
