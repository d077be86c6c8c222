-- The queue items of a pipeline, looked up among the tenants at work.
use Rattle.std.proofs.Common.{◌≡◌, ◌∙◌, refl, ap, ℕ, Option, Some, None, option_map}
use Rattle.std.specs.Prelude.{option_and_then, slice_get}
use Rattle.std.proofs.lemmas.Option.{slice_get-map}
use Rattle.gate_items.specs.Machine.{State as ItemsState}
use Rattle.gate_core.specs.declared.pipeline.Pipeline.{Pipeline}
use Rattle.gate_core.specs.declared.tenant.Tenant.{Tenant}
use Rattle.gate_core.specs.declared.world.World.{World}
use Rattle.gate_core.specs.States.{TenantState, items_at}
use Rattle.gate_core.specs.Views.{tenant_view}
use Rattle.gate_core.specs.Worlds.{state_of}

abbrev pub items_of : Option Pipeline → Option ItemsState
items_of found = option_map (λ (pipe : Pipeline). pipe.worker.items) found

abbrev pub items_in : ℕ → Option Tenant → Option ItemsState
items_in p found = items_of (option_and_then (λ (tenant : Tenant). slice_get tenant.pipelines.items p) found)

seen_in : (p : ℕ) (found : Option Tenant) → items_of (option_and_then (λ (tenant : TenantState). slice_get tenant.pipelines p) (option_map tenant_view found)) ≡ items_in p found
seen_in p None = refl
seen_in p (Some tenant) = refl

pub items_seen : (world : World) (t p : ℕ) → items_at t p (state_of world) ≡ items_in p (slice_get world.tenants.items t)
items_seen world t p =
    ap (λ (found : Option TenantState). items_of (option_and_then (λ (tenant : TenantState). slice_get tenant.pipelines p) found)) (slice_get-map tenant_view world.tenants.items t)
    ∙ seen_in p (slice_get world.tenants.items t)
