-- Definitions about forwarding that private contracts and proofs cite, beside `Forwarding`.
use Rattle.std.specs.Prelude.{◌≡◌, ℕ, List}
use Rattle.gate_record.specs.declared.ids.TenantId.{TenantId}
use Rattle.gate_record.specs.declared.reading.Reading.{Reading}
use Rattle.gate_record.specs.declared.transit.TenantItem.{TenantItem}
use Rattle.gate_config.specs.declared.generations.Generations.{Generations}
use Rattle.gate_forward.specs.declared.forward.Forward.{Forward}
use Rattle.gate_forward.specs.Forwarding.{by_tenant, forwarded_reading}

abbrev pub sends_reading : Generations → ℕ → ℕ → ℕ → Reading → List (TenantId × TenantItem)
sends_reading gens c g n r = by_tenant gens (λ t. forwarded_reading gens t c g n r)

-- The two differ in nothing but the outbox.
abbrev pub KeepsAllElse : Forward → Forward → Type 0
KeepsAllElse before after = after ≡ record before { outbox = after.outbox }
