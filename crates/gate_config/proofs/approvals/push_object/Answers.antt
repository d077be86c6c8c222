use Rattle.std.proofs.Common.{◌≡◌, ◌∙◌, ap, map, Some}
use Rattle.serde_json.specs.View.{view}
use Rattle.gate_config.proofs.Faults.{after_one}
use Rattle.gate_config.specs.Inner.Found.{key_view}
use Rattle.gate_config.specs.Parts.{keys_of}
use Rattle.gate_config.proofs.approvals.push_object.Goals as goal

pub returns : goal.returns
returns c =
    let keys : map key_view c.as_slice.result.now ≡ keys_of (Some (view c.args.object.now)) = ap (map key_view) c.as_slice.ensures.value ∙ c.in_ok-keys.ensures in
    after_one _ _ c.push_votes.result c.in_ok-check_object.ensures.0 (rw keys at c.push_votes.ensures)
