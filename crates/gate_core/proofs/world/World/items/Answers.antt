use Rattle.std.proofs.Common.{◌≡◌, ◌∙◌, ap, sym, List, Some, None, Bor}
use Rattle.std.specs.Prelude.{option_map, slice_get}
use Rattle.std.proofs.lemmas.Option.{slice_get_past}
use Rattle.gate_items.specs.declared.items.Items.{Items}
use Rattle.gate_core.specs.declared.pipeline.Pipeline.{Pipeline}
use Rattle.gate_core.specs.declared.tenant.Tenant.{Tenant}
use Rattle.gate_core.proofs.Elements.{lent}
use Rattle.gate_core.proofs.ItemsSeen.{items_in, items_of, items_seen}
use Rattle.gate_core.proofs.world.World.items.Goals as goal

pub returns-in_err-tenant : goal.returns-in_err-tenant
returns-in_err-tenant c =
    let t = c.args.tenant.0 in
    let p = c.args.pipeline.0 in
    let none : slice_get c.args.self.now.tenants.items t ≡ None =
    ap (λ (xs : List Tenant). slice_get xs t) (sym c.deref.ensures.value) ∙ slice_get_past c.deref.result.now t c.in_err-tenant.ensures.lookup.3 in
    ap (option_map (λ (items : Bor Items). items.now)) c.from_residual.ensures ∙ sym (items_seen c.args.self.now t p ∙ ap (items_in p) none)

pub returns-in_err-pipeline : goal.returns-in_err-pipeline
returns-in_err-pipeline c =
    let t = c.args.tenant.0 in
    let p = c.args.pipeline.0 in
    let found = c.in_ok-tenant.ensures.lookup in
    let tenant : slice_get c.args.self.now.tenants.items t ≡ Some c.in_ok-tenant.tenant.now =
    ap (λ (xs : List Tenant). slice_get xs t) (sym c.deref.ensures.value) ∙ lent c.deref.result.now t c.in_ok-tenant.tenant.now found.3.0 found.1 in
    let none : slice_get c.in_ok-tenant.tenant.now.pipelines.items p ≡ None =
    ap (λ (xs : List Pipeline). slice_get xs p) (sym c.deref-2.ensures.value) ∙ slice_get_past c.deref-2.result.now p c.in_err-pipeline.ensures.lookup.3 in
    ap (option_map (λ (items : Bor Items). items.now)) c.from_residual-in_err-pipeline.ensures ∙ sym (items_seen c.args.self.now t p ∙ ap (items_in p) tenant ∙ ap items_of none)

pub returns : goal.returns
returns c =
    let t = c.args.tenant.0 in
    let p = c.args.pipeline.0 in
    let found = c.in_ok-tenant.ensures.lookup in
    let found_pipe = c.in_ok-pipeline.ensures.lookup in
    let tenant : slice_get c.args.self.now.tenants.items t ≡ Some c.in_ok-tenant.tenant.now =
    ap (λ (xs : List Tenant). slice_get xs t) (sym c.deref.ensures.value) ∙ lent c.deref.result.now t c.in_ok-tenant.tenant.now found.3.0 found.1 in
    let pipe : slice_get c.in_ok-tenant.tenant.now.pipelines.items p ≡ Some c.in_ok-pipeline.pipeline.now =
    ap (λ (xs : List Pipeline). slice_get xs p) (sym c.deref-2.ensures.value) ∙ lent c.deref-2.result.now p c.in_ok-pipeline.pipeline.now found_pipe.3.0 found_pipe.1 in
    ap Some c.state.ensures ∙ sym (items_seen c.args.self.now t p ∙ ap (items_in p) tenant ∙ ap items_of pipe)
