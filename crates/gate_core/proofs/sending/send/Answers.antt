use Rattle.std.proofs.Common.{◌∙◌, ap, refl, map, slice_set}
use Rattle.std.proofs.lemmas.List.{map-set}
use Rattle.std.proofs.lemmas.Option.{slice_get_past}
use Rattle.gate_record.specs.declared.ids.TenantId.{TenantId}
use Rattle.gate_record.specs.declared.transit.TenantItem.{TenantItem}
use Rattle.gate_record.proofs.Outboxes.{is_out, was_empty}
use Rattle.gate_record.specs.Outboxes.{put_back}
use Rattle.gate_forward.specs.States.{State as ForwardState, state_of}
use Rattle.gate_core.specs.Views.{connection_view, tenant_view}
use Rattle.gate_core.proofs.Elements.{lent, seen, seen_same, unseen}
use Rattle.gate_core.proofs.Unsent.{back_in, refuses, sends_item, sends_nothing, sends_nowhere, shown, unchanged}
use Rattle.gate_core.proofs.Wholes.{lent_tenants}
use Rattle.gate_core.proofs.sending.send.Goals as goal

pub returns-in_default-clause-does : goal.returns-in_default-clause-does
returns-in_default-clause-does c =
    let conn = connection_view c.args.connection.now in
    let tenants = c.args.tenants.now.items in
    let old = state_of c.args.connection.now.forward in
    let new = state_of c.next.new.self in
    let empty = was_empty old.outbox new.outbox c.in_default.ensures.moves in
    sends_nothing conn _ (map tenant_view tenants) _ empty.items (ap (shown conn) (unchanged old new c.in_default.ensures.rest empty.same)) refl

pub returns-in-None-clause-does : goal.returns-in-None-clause-does
returns-in-None-clause-does c =
    let conn = connection_view c.args.connection.now in
    let tenants = c.args.tenants.now.items in
    let old = state_of c.args.connection.now.forward in
    let new = state_of c.next.new.self in
    let first : TenantId × TenantItem = (c.in-Some.tenant, c.in-Some.item) in
    let out = is_out old.outbox new.outbox first c.in-Some.ensures.moves in
    let back = back_in old new c.in-Some.ensures.rest (state_of c.unsent.new.self) first c.args.connection.now.none_out out c.unsent.ensures.fills in
    let gone = slice_get_past tenants first.0.0 c.in-None.ensures.item.3 in
    sends_nowhere conn _ (map tenant_view tenants) _ first new.outbox.items out.items (unseen tenant_view tenants first.0.0 gone)
    (ap (shown conn) back) refl

pub returns-in-Ok-clause-tenants : goal.returns-in-Ok-clause-tenants
returns-in-Ok-clause-tenants c gens all =
    lent_tenants gens c.args.tenants.now.items c.in-Some.tenant.0 c.in-Some-get_mut.tenant.now c.put.new.self c.in-Some-get_mut.ensures.item.3.0 c.in-Some-get_mut.ensures.item.1 all c.in-Ok.ensures.gens c.in-Ok.ensures.number

pub returns-in-Ok-clause-does : goal.returns-in-Ok-clause-does
returns-in-Ok-clause-does c =
    let conn = connection_view c.args.connection.now in
    let tenants = c.args.tenants.now.items in
    let old = state_of c.args.connection.now.forward in
    let new = state_of c.next.new.self in
    let first : TenantId × TenantItem = (c.in-Some.tenant, c.in-Some.item) in
    let out = is_out old.outbox new.outbox first c.in-Some.ensures.moves in
    let worker = c.in-Some-get_mut.tenant.now in
    let item = c.in-Some-get_mut.ensures.item in
    let at = lent tenants first.0.0 worker item.3.0 item.1 in
    sends_item conn _ (map tenant_view tenants) _ first new.outbox.items out.items (tenant_view worker) (seen tenant_view tenants first.0.0 worker at)
    (ap (shown conn) c.sent.ensures.closes ∙ ap (λ (state : ForwardState). record conn { unsent = new.outbox.items; generation = state.generation }) c.in-Some.ensures.rest)
    (map-set tenant_view tenants first.0.0 c.put.new.self ∙ ap (slice_set (map tenant_view tenants) first.0.0) c.in-Ok.ensures.puts)

pub returns-in-Err-clause-tenants : goal.returns-in-Err-clause-tenants
returns-in-Err-clause-tenants c gens all =
    lent_tenants gens c.args.tenants.now.items c.in-Some.tenant.0 c.in-Some-get_mut.tenant.now c.put.new.self c.in-Some-get_mut.ensures.item.3.0 c.in-Some-get_mut.ensures.item.1 all c.in-Err.ensures.gens c.in-Err.ensures.number

pub returns-in-Err-clause-does : goal.returns-in-Err-clause-does
returns-in-Err-clause-does c =
    let conn = connection_view c.args.connection.now in
    let tenants = c.args.tenants.now.items in
    let old = state_of c.args.connection.now.forward in
    let new = state_of c.next.new.self in
    let first : TenantId × TenantItem = (c.in-Some.tenant, c.in-Some.item) in
    let out = is_out old.outbox new.outbox first c.in-Some.ensures.moves in
    let worker = c.in-Some-get_mut.tenant.now in
    let item = c.in-Some-get_mut.ensures.item in
    let at = lent tenants first.0.0 worker item.3.0 item.1 in
    let refused = c.in-Err.ensures.refused in
    let back = back_in old new c.in-Some.ensures.rest (state_of c.unsent-in-Err.new.self) first c.args.connection.now.none_out out (c.unsent-in-Err.ensures.fills ∙ ap (λ item. record new { outbox = put_back item new.outbox.out new.outbox }) refused.1) in
    refuses conn _ (map tenant_view tenants) _ first new.outbox.items out.items _ (tenant_view worker) (seen tenant_view tenants first.0.0 worker at)
    (ap (shown conn) back) (seen_same tenant_view tenants first.0.0 worker c.put.new.self at refused.0)
