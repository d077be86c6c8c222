-- What a connection's forwarder has still to send, while one item is sent.
use Rattle.std.proofs.Common.{◌≡◌, ◌∙◌, sym, ap, ℕ, List, [], ◌∷◌, ◌++◌, Option, Some, None, Ok, Err, slice_set, subst}
use Rattle.std.specs.Prelude.{slice_get}
use Rattle.gate_record.specs.declared.ids.TenantId.{TenantId}
use Rattle.gate_record.specs.declared.transit.TenantItem.{TenantItem}
use Rattle.gate_record.proofs.Outboxes.{IsOut, came_back}
use Rattle.gate_record.specs.Outboxes.{Unsent, put_back}
use Rattle.gate_forward.specs.States.{State as ForwardState}
use Rattle.gate_core.specs.declared.answer.Answer.{Answer}
use Rattle.gate_core.specs.declared.answer.Answer.TheVariants.{Idle, Moved}
use Rattle.gate_core.specs.Answers.{Changes}
use Rattle.gate_record.specs.declared.memory.Memory.{Memory}
use Rattle.gate_core.specs.Inner.Sends.{Sends, state}
use Rattle.gate_core.specs.States.{ConnectionState, State, TenantState}
use Rattle.gate_core.specs.Steps.{send, send_from, send_of, send_to}
use Rattle.gate_core.proofs.Elements.{written_back}

-- what a connection shows of its forward: what is to be sent, and the generation in force
abbrev pub shown : ConnectionState → ForwardState → ConnectionState
shown conn forward = record conn { unsent = forward.outbox.items; generation = forward.generation }

module _ (old new : ForwardState) (rest : new ≡ record old { outbox = new.outbox }) where
  -- nothing was moved out
  pub unchanged : new.outbox ≡ old.outbox → new ≡ old
  unchanged same = rest ∙ ap (λ (outbox : Unsent TenantId TenantItem). record old { outbox = outbox }) same

  -- the item came back
  pub back_in : (back : ForwardState) (first : TenantId × TenantItem) → old.outbox.out ≡ None → IsOut old.outbox new.outbox first → back ≡ record new { outbox = put_back first.1 new.outbox.out new.outbox } → back ≡ old
  back_in back first none out fills =
      fills ∙ ap (λ (outbox : Unsent TenantId TenantItem). record new { outbox = outbox }) (came_back old.outbox new.outbox first none out)
      ∙ ap (λ (state : ForwardState). record state { outbox = old.outbox }) rest

module _ (conn conn' : ConnectionState) (tenants tenants' : List TenantState) where
  unmoved : (c : ℕ) (connections : List ConnectionState) → slice_get connections c ≡ Some conn → conn' ≡ conn → tenants' ≡ tenants → state (slice_set connections c conn') tenants' ≡ state connections tenants
  unmoved c connections at same sames =
      ap (λ k. state (slice_set connections c k) tenants') same ∙ ap (λ ks. state ks tenants') (written_back connections c conn at) ∙ ap (state connections) sames

  -- with nothing in the outbox
  pub sends_nothing : conn.unsent ≡ [] → conn' ≡ conn → tenants' ≡ tenants → Sends conn tenants conn' tenants' (Ok Idle)
  sends_nothing empty same sames c connections at =
      ap (λ s. (s, Idle)) (unmoved c connections at same sames)
      ∙ sym (ap (λ o. send_of c o (state connections tenants)) at ∙ ap (λ items. send_from c conn items (state connections tenants)) empty)

  module _ (first : TenantId × TenantItem) (rest : List (TenantId × TenantItem)) (unsent : conn.unsent ≡ first ∷ rest) where
    sending : (c : ℕ) (connections : List ConnectionState) (o : Option TenantState) → slice_get connections c ≡ Some conn → slice_get tenants first.0.0 ≡ o →
        send c (state connections tenants) ≡ send_to c conn first.0.0 first.1 rest o (state connections tenants)
    sending c connections o at there =
        ap (λ k. send_of c k (state connections tenants)) at ∙ ap (λ items. send_from c conn items (state connections tenants)) unsent
        ∙ ap (λ t. send_to c conn first.0.0 first.1 rest t (state connections tenants)) there

    -- to a tenant that isn't there
    pub sends_nowhere : slice_get tenants first.0.0 ≡ None → conn' ≡ conn → tenants' ≡ tenants → Sends conn tenants conn' tenants' (Ok Idle)
    sends_nowhere there same sames c connections at = ap (λ s. (s, Idle)) (unmoved c connections at same sames) ∙ sym (sending c connections None at there)

    -- to a tenant
    goes : (tenant : TenantState) (c : ℕ) (connections : List ConnectionState) → slice_get connections c ≡ Some conn → slice_get tenants first.0.0 ≡ Some tenant →
        send c (state connections tenants) ≡ (state (slice_set connections c (record conn { unsent = rest })) (slice_set tenants first.0.0 (record tenant { queue = tenant.queue ++ first.1 ∷ [] })), Moved)
    goes tenant c connections at there = sending c connections (Some tenant) at there

    -- which gets it
    pub sends_item : (tenant : TenantState) → slice_get tenants first.0.0 ≡ Some tenant → conn' ≡ record conn { unsent = rest } →
        tenants' ≡ slice_set tenants first.0.0 (record tenant { queue = tenant.queue ++ first.1 ∷ [] }) → Sends conn tenants conn' tenants' (Ok Moved)
    sends_item tenant there same sames c connections at =
        ap (λ k. (state (slice_set connections c k) tenants', Moved)) same ∙ ap (λ ts. (state (slice_set connections c (record conn { unsent = rest })) ts, Moved)) sames
        ∙ sym (goes tenant c connections at there)

    -- which would get it, where memory is refused
    pub refuses : (memory : Memory) (tenant : TenantState) → slice_get tenants first.0.0 ≡ Some tenant → conn' ≡ conn → tenants' ≡ tenants → Sends conn tenants conn' tenants' (Err memory)
    refuses memory tenant there same sames c connections at = (
      unmoved c connections at same sames,
      subst (λ (after : State × Answer). Changes after.1) (sym (goes tenant c connections at there)) tt,
    )
