-- Histories of calls of a forward, and the law about each of them.
use Rattle.std.specs.Prelude.{◌≡◌, ◌<◌, ◌==◌, ℕ, suc, List, [], ◌∷◌, ◌++◌, true, Option, Some, None, length, if◌then◌else◌}
use Rattle.std.specs.List.{filter_map}
use Rattle.std.specs.Option.{option_to_list}
use Rattle.gate_record.specs.declared.ids.TenantId.{TenantId}
use Rattle.gate_record.specs.declared.record.Record.{Record}
use Rattle.gate_record.specs.declared.transit.ConnEntry.{ConnEntry}
use Rattle.gate_record.specs.declared.transit.ConnEntry.TheVariants as entry
use Rattle.gate_record.specs.declared.transit.TenantItem.{TenantItem}
use Rattle.gate_config.specs.declared.generations.Generations.{Generations}
use Rattle.gate_config.specs.Generations.{count_of}
use Rattle.gate_record.specs.Entries.{generation_behind}
use Rattle.gate_config.specs.Lookups.{tenants_of}
use Rattle.gate_forward.specs.Forwarding.{forwarded, forwarded_entry, sends}
use Rattle.gate_record.specs.Outboxes.{put_back}
use Rattle.gate_forward.specs.States.{State, first_state, with_items}

-- The state, all entries that were loaded so far, all items that were sent so far, and the item that is out, with its tenant.
pub record History : Type 0 where
  pub state : State
  pub loaded : List ConnEntry
  pub sent : List (TenantId × TenantItem)
  pub out : Option (TenantId × TenantItem)

abbrev pub beginning : History
beginning = record { state = first_state; loaded = []; sent = []; out = None }

-- Histories of calls for connection c, of which none was refused memory or a later generation. An item that isn't sent comes back
-- as it was moved out.
pub data Happens (gens : Generations) (c : ℕ) : History → Type 0 where
  begins : Happens gens c beginning
  loads : {h : History} (n : ℕ) (line : Record) → Happens gens c h → h.state.outbox.items ≡ [] → h.out ≡ None →
      Happens gens c (record h { state = with_items (sends gens c h.state.generation (entry.Numbered n line)) h.state; loaded = h.loaded ++ entry.Numbered n line ∷ [] })
  ends : {h : History} → Happens gens c h → h.state.outbox.items ≡ [] → h.out ≡ None →
      Happens gens c (record h { state = record (with_items (sends gens c h.state.generation entry.End) h.state) { marked = true }; loaded = h.loaded ++ entry.End ∷ [] })
  renews : {h : History} → Happens gens c h → h.state.outbox.items ≡ [] → h.out ≡ None → suc h.state.generation < count_of gens →
      Happens gens c (record h { state = record h.state { generation = suc h.state.generation }; loaded = h.loaded ++ entry.Renew ∷ [] })
  moves : {h : History} {first : TenantId × TenantItem} {items : List (TenantId × TenantItem)} → Happens gens c h → h.out ≡ None → h.state.outbox.items ≡ first ∷ items →
      Happens gens c (record h { state = record h.state { outbox = record { items = items; out = Some first.0 } }; out = Some first })
  is_sent : {h : History} {item : TenantId × TenantItem} → Happens gens c h → h.out ≡ Some item →
      Happens gens c (record h { state = record h.state { outbox = record h.state.outbox { out = None } }; sent = h.sent ++ item ∷ []; out = None })
  comes_back : {h : History} {item : TenantId × TenantItem} → Happens gens c h → h.out ≡ Some item →
      Happens gens c (record h { state = record h.state { outbox = put_back item.1 (Some item.0) h.state.outbox }; out = None })

-- the item, if it is addressed to tenant t
abbrev pub item_to : ℕ → TenantId × TenantItem → Option TenantItem
item_to t item = if item.0.0 == t then Some item.1 else None

-- the items of a list that are addressed to tenant t
abbrev pub items_to : ℕ → List (TenantId × TenantItem) → List TenantItem
items_to t items = filter_map (item_to t) items

-- What was sent to a tenant, followed by its item that is out and by what the outbox holds for it, is what the tenant gets of all
-- that was loaded. The generation in force is the one after all that was loaded. Of the items of one entry, those addressed to a
-- tenant are what it gets of that entry.
pub record EachTenantGetsItsOwn : Type 0 where
  pub own : (gens : Generations) (t c : ℕ) (h : History) → t < length (tenants_of gens.first) → Happens gens c h →
      items_to t (h.sent ++ (option_to_list h.out ++ h.state.outbox.items)) ≡ forwarded gens t c h.loaded
  pub in_force : (gens : Generations) (c : ℕ) (h : History) → Happens gens c h → h.state.generation ≡ generation_behind 0 h.loaded
  pub of_entry : (gens : Generations) (t c g : ℕ) (e : ConnEntry) → t < length (tenants_of gens.first) →
      items_to t (sends gens c g e) ≡ option_to_list (forwarded_entry gens t c g e)
