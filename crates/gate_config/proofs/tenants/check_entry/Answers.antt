use Rattle.std.proofs.Common.{◌≡◌, ◌∙◌, ap, subst, map, codes}
use Rattle.serde_json.specs.View.{view}
use Rattle.gate_config.specs.Checks.{named_checks, tenant_place}
use Rattle.gate_config.specs.Document.{sources_of}
use Rattle.gate_config.specs.Inner.Found.{found_view}
use Rattle.gate_config.specs.Inner.Faults.{Reads}
use Rattle.gate_config.specs.Names.{with_names}
use Rattle.gate_config.specs.Inner.Steps.{steps_of}
use Rattle.gate_config.specs.Places.{below, nth, whole}
use Rattle.gate_config.proofs.Faults.{exit, fault_front, after}
use Rattle.gate_config.proofs.tenants.check_entry.Goals as goal

pub returns-in_err-check_wrapper : goal.returns-in_err-check_wrapper
returns-in_err-check_wrapper c =
    exit _ c.from_residual.result c.from_residual.ensures.1
    (fault_front _ (rw (c.item-here.ensures, c.member-tenants.ensures) at c.in_err-check_wrapper.ensures))

pub returns : goal.returns
returns c =
    let before = map found_view c.args.before.now in
    let names = c.args.names.now in
    let next = c.check_tenant.new.names in
    let here = nth (below whole (codes "tenants")) c.args.entry.now.position in
    let at_entry : steps_of c.item-here.result ≡ here = c.item-here.ensures ∙ ap (λ p. nth p c.args.entry.now.position) c.member-tenants.ensures in
    let place : steps_of c.tenant_place-place.result ≡ tenant_place here (view c.args.entry.now.value.now) =
    c.tenant_place-place.ensures ∙ ap (λ h. tenant_place h (view c.args.entry.now.value.now)) at_entry in
    after _ _ c.check_tenant.result (rw at_entry at c.in_ok-check_wrapper.ensures.0)
    (subst (λ t. Reads (named_checks before (tenant_place here (view c.args.entry.now.value.now)) t) (λ _. next ≡ with_names names (sources_of t)) c.check_tenant.result) c.tenant_of.ensures
    (subst (λ p. Reads (named_checks before p (view c.tenant_of.result.now)) (λ _. next ≡ with_names names (sources_of (view c.tenant_of.result.now))) c.check_tenant.result) place
    c.check_tenant.ensures))
