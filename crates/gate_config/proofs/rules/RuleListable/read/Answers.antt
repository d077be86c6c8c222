use Rattle.std.proofs.Common.{◌≡◌, ◌∙◌, ap, map, Some}
use Rattle.serde_json.specs.View.{view}
use Rattle.gate_config.proofs.Faults.{exit, fault_later, fault_front, fault_rest, passed_more, passed_both}
use Rattle.gate_config.specs.Inner.Found.{key_view}
use Rattle.gate_config.specs.Parts.{keys_of}
use Rattle.gate_config.proofs.rules.RuleListable.read.Goals as goal

pub returns-in_err-read : goal.returns-in_err-read
returns-in_err-read c =
    let keys : map key_view c.as_slice.result.now ≡ keys_of (Some (view c.args.rule.now)) = ap (map key_view) c.as_slice.ensures.value ∙ c.in_ok-keys.ensures in
    exit _ c.from_residual-in_err-read.result c.from_residual-in_err-read.ensures.1
    (fault_later c.in_ok-check_object.ensures.0 (fault_front _ (rw keys at c.in_err-read.ensures)))

pub returns-in_err-check_listed : goal.returns-in_err-check_listed
returns-in_err-check_listed c =
    let keys : map key_view c.as_slice.result.now ≡ keys_of (Some (view c.args.rule.now)) = ap (map key_view) c.as_slice.ensures.value ∙ c.in_ok-keys.ensures in
    exit _ c.from_residual-in_err-check_listed.result c.from_residual-in_err-check_listed.ensures.1
    (fault_later c.in_ok-check_object.ensures.0 (fault_rest (rw keys at c.in_ok-read.ensures.0) c.in_err-check_listed.ensures))

pub returns : goal.returns
returns c =
    let keys : map key_view c.as_slice.result.now ≡ keys_of (Some (view c.args.rule.now)) = ap (map key_view) c.as_slice.ensures.value ∙ c.in_ok-keys.ensures in
    (passed_more c.in_ok-check_object.ensures.0 (passed_both (rw keys at c.in_ok-read.ensures.0) c.in_ok-check_listed.ensures.0), c.in_ok-read.ensures.1)
