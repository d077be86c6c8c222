-- What a forwarder at work has sent.
use Rattle.std.specs.Prelude.{◌≡◌, ◌<◌, ◌++◌, ℕ, suc, List, Option, Some, None, true}
use Rattle.std.specs.Option.{option_to_list}
use Rattle.gate_record.specs.declared.transit.ConnEntry.{ConnEntry}
use Rattle.gate_record.specs.declared.transit.ConnEntry.TheVariants as entry
use Rattle.gate_record.specs.declared.transit.TenantItem.{TenantItem}
use Rattle.gate_config.specs.declared.generations.Generations.{Generations}
use Rattle.gate_config.specs.Generations.{count_of}
use Rattle.gate_forward.specs.declared.forward.Forward.{Forward}
use Rattle.gate_forward.specs.Forwarding.{sends, tenant_id}
use Rattle.gate_forward.specs.Histories.{Happens, History, items_to}
use Rattle.gate_forward.specs.States.{State, conn_of, gens_of, state_of, with_items}
use Rattle.gate_queue.specs.Seats.{TakerSeat}
use Rattle.gate_run_stages.specs.declared.forwarder.Forwarding.{Forwarding}
use Rattle.gate_run_threads.specs.Seats.{values}

-- the state of connection c's forward after this entry was loaded into its empty outbox
abbrev pub after : Generations → ℕ → ConnEntry → State → State
after gens c (entry.Numbered n line) state = with_items (sends gens c state.generation (entry.Numbered n line)) state
after gens c entry.Renew state = record state { generation = suc state.generation }
after gens c entry.End state = record (with_items (sends gens c state.generation entry.End) state) { marked = true }

-- an entry that is a renewal has a later generation to bring in force
abbrev pub HasGeneration : Generations → ConnEntry → State → Type 0
HasGeneration gens (entry.Numbered n line) state = Unit {0}
HasGeneration gens entry.Renew state = suc state.generation < count_of gens
HasGeneration gens entry.End state = Unit {0}

-- The forwarder of connection c loaded, or keeps, all that was taken by its seat, and has sent these items to each tenant by number. No
-- item is out.
pub record HasSent (gens : Generations) (c : ℕ) (forward : Forward) (kept : Option ConnEntry) (head : TakerSeat ConnEntry) (sent : ℕ → List TenantItem) : Type 0 where
  pub by_gens : gens_of forward ≡ gens
  pub of_conn : conn_of forward ≡ c
  pub past : History
  pub happens : Happens gens c past
  pub now : past.state ≡ state_of forward
  pub none_out : past.out ≡ None
  pub loaded : past.loaded ++ option_to_list kept ≡ values head.taken
  pub to_each : (t : ℕ) → sent t ≡ items_to t past.sent

-- The same, but this item is out for the tenant of this number.
pub record HasOut (gens : Generations) (c : ℕ) (forward : Forward) (kept : Option ConnEntry) (head : TakerSeat ConnEntry) (sent : ℕ → List TenantItem) (number : ℕ) (item : TenantItem) : Type 0 where
  pub by_gens : gens_of forward ≡ gens
  pub of_conn : conn_of forward ≡ c
  pub past : History
  pub happens : Happens gens c past
  pub now : past.state ≡ state_of forward
  pub out : past.out ≡ Some (tenant_id number, item)
  pub receiver : (state_of forward).outbox.out ≡ Some (tenant_id number)
  pub loaded : past.loaded ++ option_to_list kept ≡ values head.taken
  pub to_each : (t : ℕ) → sent t ≡ items_to t past.sent

-- the forwarder that began as the first has come so far as the second
abbrev pub IsForwarding : Forwarding → Forwarding → (ℕ → List TenantItem) → Type 0
IsForwarding first now sent = HasSent (gens_of first.forward) (conn_of first.forward) now.forward now.kept now.head sent × (now.head.queue ≡ first.head.queue)

-- the same, but this item is out for the tenant of this number
abbrev pub IsForwardingOut : Forwarding → Forwarding → (ℕ → List TenantItem) → ℕ → TenantItem → Type 0
IsForwardingOut first now sent number item = HasOut (gens_of first.forward) (conn_of first.forward) now.forward now.kept now.head sent number item × (now.head.queue ≡ first.head.queue)
