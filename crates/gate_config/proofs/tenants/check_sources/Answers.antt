use Rattle.std.proofs.Common.{◌≡◌, ◌∙◌, ap, map, codes, option_map, subst}
use Rattle.serde_json.specs.View.{view}
use Rattle.gate_config.specs.Checks.{along, source_checks}
use Rattle.gate_config.specs.Document.{sources_of}
use Rattle.gate_config.specs.Inner.Found.{key_view}
use Rattle.gate_config.specs.Inner.Faults.{Reads}
use Rattle.gate_config.specs.Names.{with_names}
use Rattle.gate_config.specs.Parts.{keys_of, optional}
use Rattle.gate_config.specs.Inner.Steps.{steps_of}
use Rattle.gate_config.specs.Places.{below}
use Rattle.gate_config.proofs.Faults.{after_one}
use Rattle.gate_config.proofs.tenants.check_sources.Goals as goal

pub returns : goal.returns
returns c =
    let keys : map key_view c.as_slice.result.now ≡ sources_of (view c.args.tenant.now) =
    ap (map key_view) c.as_slice.ensures.value ∙ c.in_ok-keys.ensures ∙ ap keys_of c.member-sources.ensures in
    let place = below (steps_of c.args.here.now) (codes "source") in
    let names = c.args.names.now in
    let next = c.check_each_source.new.names in
    after_one _ _ c.check_each_source.result
    (rw (c.member-sources.ensures, c.member-place.ensures) at c.in_ok-check_optional_object.ensures.0)
    (subst (λ ks. Reads (along (source_checks names place (optional (codes "source") (view c.args.tenant.now))) ks) (λ _. next ≡ with_names names ks) c.check_each_source.result) keys
    (subst (λ o. Reads (along (source_checks names place o) (map key_view c.as_slice.result.now)) (λ _. next ≡ with_names names (map key_view c.as_slice.result.now)) c.check_each_source.result) c.member-sources.ensures
    (subst (λ p. Reads (along (source_checks names p (option_map (λ v. view v.now) c.member-sources.result)) (map key_view c.as_slice.result.now)) (λ _. next ≡ with_names names (map key_view c.as_slice.result.now)) c.check_each_source.result)
    c.member-place.ensures c.check_each_source.ensures)))
