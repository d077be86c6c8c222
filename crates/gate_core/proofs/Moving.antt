-- What holds of each connection before a step holds of each connection after it, if it holds after each move of a connection.
use Rattle.std.proofs.Common.{◌≡◌, ◌∙◌, refl, sym, subst, ℕ, List, [], ◌∷◌, ◌++◌, Option, Some, None, slice_set}
use Rattle.std.specs.Prelude.{slice_get}
use Rattle.gate_config.specs.Generations.{count_of}
use Rattle.gate_config.specs.declared.generations.Generations.{Generations}
use Rattle.gate_record.specs.declared.ids.PipelineId.{PipelineId}
use Rattle.gate_record.specs.declared.ids.TenantId.{TenantId}
use Rattle.gate_record.specs.declared.record.Record.{Record}
use Rattle.gate_record.specs.declared.transit.TenantItem.{TenantItem}
use Rattle.gate_core.specs.Inner.Steps.{with_connection, with_tenant}
use Rattle.gate_core.specs.declared.answer.Answer.{Answer}
use Rattle.gate_core.specs.declared.step.Step.{Step}
use Rattle.gate_core.specs.declared.step.Step.TheVariants as step
use Rattle.gate_core.specs.History.{turn_of}
use Rattle.gate_core.specs.States.{ConnectionState, State, TenantState}
use Rattle.gate_core.specs.Steps.{close, offer, renew, refused_in, refused_step, refused_turn_of, send_from, send_of, send_to, step_of, take}
use Rattle.gate_core.specs.Views.{EachAt}
use Rattle.gate_core.proofs.Spots.{AfterSet, after_set, another, it}
use Rattle.gate_delivery.proofs.Maps.{the_same}

-- each connection has this
abbrev pub AllHave : (ConnectionState → Type 0) → State → Type 0
AllHave P state = EachAt (λ c (conn : ConnectionState). P conn) state.connections

-- a connection that has P has Q after each of its moves, and without any
pub record Moves (gens : Generations) (P Q : ConnectionState → Type 0) : Type 0 where
  pub stays : (k : ConnectionState) → P k → Q k
  pub offers : (line : Record) (k : ConnectionState) → P k → Q (offer line k).0
  pub closes : (k : ConnectionState) → P k → Q (close k).0
  pub renews : (k : ConnectionState) → P k → Q (renew (count_of gens) k).0
  pub takes : (c : ℕ) (k : ConnectionState) → P k → Q (take gens c k).0
  pub sends : (unsent : List (TenantId × TenantItem)) (k : ConnectionState) → P k → Q (record k { unsent = unsent })

module _ {P Q : ConnectionState → Type 0} (gens : Generations) (all : Moves gens P Q) (state : State) (before : AllHave P state) where
  still : AllHave Q state
  still c conn at = all.stays conn (before c conn at)

  -- one connection changes
  by_place : (d : ℕ) (k : ConnectionState) → Q k → (c : ℕ) (conn : ConnectionState) → AfterSet state.connections d k c → slice_get (slice_set state.connections d k) c ≡ Some conn → Q conn
  by_place d k has c conn (it e g) there = subst Q (the_same k conn (sym g ∙ there)) has
  by_place d k has c conn (another differ g) there = still c conn (sym g ∙ there)

  changes : (tenants : List TenantState) (d : ℕ) (k k' : ConnectionState) → slice_get state.connections d ≡ Some k → Q k' → AllHave Q (record { connections = slice_set state.connections d k'; tenants = tenants })
  changes tenants d k k' at has c conn there = by_place d k' has c conn (after_set state.connections d c k k' at) there

  moves : (move : ConnectionState → ConnectionState × Answer) → ((k : ConnectionState) → P k → Q (move k).0) → (d : ℕ) (o : Option ConnectionState) → slice_get state.connections d ≡ o →
      AllHave Q (with_connection move d o state).0
  moves move one d None at = still
  moves move one d (Some k) at = changes state.tenants d k (move k).0 at (one k (before d k at))

  sends_to : (d : ℕ) (k : ConnectionState) (u : ℕ) (x : TenantItem) (unsent : List (TenantId × TenantItem)) (o : Option TenantState) → slice_get state.connections d ≡ Some k → AllHave Q (send_to d k u x unsent o state).0
  sends_to d k u x unsent None at = still
  sends_to d k u x unsent (Some ten) at = changes (slice_set state.tenants u (record ten { queue = ten.queue ++ x ∷ [] })) d k (record k { unsent = unsent }) at (all.sends unsent k (before d k at))

  sends_from : (d : ℕ) (k : ConnectionState) (unsent : List (TenantId × TenantItem)) → slice_get state.connections d ≡ Some k → AllHave Q (send_from d k unsent state).0
  sends_from d k [] at = still
  sends_from d k (first ∷ unsent) at = sends_to d k first.0.0 first.1 unsent (slice_get state.tenants first.0.0) at

  sends : (d : ℕ) (o : Option ConnectionState) → slice_get state.connections d ≡ o → AllHave Q (send_of d o state).0
  sends d None at = still
  sends d (Some k) at = sends_from d k k.unsent at

  inside : (move : TenantState → TenantState × Answer) (t : ℕ) (o : Option TenantState) → AllHave Q (with_tenant move t o state).0
  inside move t None = still
  inside move t (Some ten) = still

  refused_turn : (t p : ℕ) (o : Option TenantState) → AllHave Q (refused_in t p o state)
  refused_turn t p None = still
  refused_turn t p (Some ten) = still

  refused_at : (at : Option (TenantId × PipelineId)) → AllHave Q (refused_turn_of at state)
  refused_at None = still
  refused_at (Some at) = refused_turn at.0.0 at.1.0 (slice_get state.tenants at.0.0)

  pub after_step : (s : Step) → AllHave Q (step_of gens state s).0
  after_step (step.Offer c line) = moves (offer line) (all.offers line) c.0 (slice_get state.connections c.0) refl
  after_step (step.Close c) = moves close all.closes c.0 (slice_get state.connections c.0) refl
  after_step (step.Renew c) = moves (renew (count_of gens)) all.renews c.0 (slice_get state.connections c.0) refl
  after_step (step.Take c) = moves (take gens c.0) (all.takes c.0) c.0 (slice_get state.connections c.0) refl
  after_step (step.Send c) = sends c.0 (slice_get state.connections c.0) refl
  after_step (step.Fetch t count) = inside _ t.0 (slice_get state.tenants t.0)
  after_step (step.Match t) = inside _ t.0 (slice_get state.tenants t.0)
  after_step (step.Give t) = inside _ t.0 (slice_get state.tenants t.0)
  after_step (step.PostManage t p m) = inside _ t.0 (slice_get state.tenants t.0)
  after_step (step.PostResult t p r) = inside _ t.0 (slice_get state.tenants t.0)
  after_step (step.Turn t p) = inside _ t.0 (slice_get state.tenants t.0)

  pub after_refusal : (s : Step) → AllHave Q (refused_step state s)
  after_refusal s = refused_at (turn_of s)
