-- The way of a connection's records to a pipeline. As a whole: what is forwarded and then selected is what is wanted. And in its
-- parts, in whichever queues and outboxes they are.
use Rattle.std.specs.Prelude.{◌≡◌, ◌<◌, ℕ, List, ◌++◌, Bool, true, Option, Some, None, length, slice_get, take}
use Rattle.std.specs.List.{filter, filter_map, list_any}
use Rattle.gate_record.specs.declared.reading.Reading.TheVariants as reading
use Rattle.gate_record.specs.declared.record.Record.{Record}
use Rattle.gate_record.specs.Entries.{AreEntriesOf}
use Rattle.gate_record.specs.Generations.{AreFirstEntries}
use Rattle.gate_record.specs.declared.transit.ConnEntry.{ConnEntry}
use Rattle.gate_record.specs.declared.transit.TenantItem.{TenantItem}
use Rattle.gate_record.specs.declared.transit.PipelineItem.{PipelineItem}
use Rattle.gate_record.specs.declared.transit.PipelineItem.TheVariants as item
use Rattle.gate_record.specs.declared.transit.Stamped.{Stamped}
use Rattle.gate_record.specs.Reading.{reading_of}
use Rattle.gate_config.specs.declared.generations.Generations.{Generations}
use Rattle.gate_config.specs.Lookups.{connections_of, lists}
use Rattle.gate_forward.specs.Forwarding.{forwarded}
use Rattle.gate_tenant.specs.Dispatching.{chosen, is_from}
use Rattle.gate_pipeline.specs.Histories.{is_end}
use Rattle.gate_record.specs.Stamps.{number_from}
use Rattle.gate_delivery.specs.Wanted.{wanted}
use Rattle.gate_record.specs.Prefixes.{IsPrefixOf}

-- the number of an item, if it is an event of connection c
abbrev pub number_of_item : ℕ → PipelineItem → Option ℕ
number_of_item c (item.Event s) = number_from c s.stamp
number_of_item c item.End = None

-- the numbers of the events that pipeline p of tenant t gets of these entries of connection c
abbrev pub arrives : Generations → ℕ → ℕ → ℕ → List ConnEntry → List ℕ
arrives gens t p c entries = filter_map (number_of_item c) (chosen gens t p (forwarded gens t c entries))

-- These are entries of a connection whose records are a prefix of the given ones, and the wanted numbers of that prefix arrive.
pub record FirstArrive (gens : Generations) (t p c : ℕ) (entries : List ConnEntry) (records : List (ℕ × Record)) : Type 0 where
  pub front : AreFirstEntries entries records
  pub arrive : arrives gens t p c entries ≡ wanted gens t p c front.first

-- Of all entries of a connection, the wanted numbers of their records arrive. Of each prefix of the entries, the wanted numbers
-- of the records in that prefix arrive.
pub record WantedArrive : Type 0 where
  pub all : (gens : Generations) (t p c : ℕ) {entries : List ConnEntry} {records : List (ℕ × Record)} {g : ℕ} {closed : Bool} → AreEntriesOf entries records g closed →
      arrives gens t p c entries ≡ wanted gens t p c records
  pub each_prefix : (gens : Generations) (t p c : ℕ) {entries : List ConnEntry} {records : List (ℕ × Record)} {g : ℕ} {closed : Bool} → AreEntriesOf entries records g closed → (k : ℕ) →
      FirstArrive gens t p c (take k entries) records

-- ---- the parts of a way

-- The way of connection c's entries to pipeline p of tenant t. What the pipeline has taken, followed by what it is still to get,
-- is what it gets of what the tenant has matched. Of the items that the tenant has matched or has still to match, those of this
-- connection, followed by those that weren't sent yet, are what is forwarded to the tenant.
pub record Way (gens : Generations) (t p c : ℕ) (entries : List ConnEntry) (taken : List PipelineItem) : Type 0 where
  pub matched : List TenantItem
  pub unmatched : List TenantItem
  pub unsent : List TenantItem
  pub untaken : List PipelineItem
  pub chooses : taken ++ untaken ≡ chosen gens t p matched
  pub forwards : filter (is_from c) (matched ++ unmatched) ++ unsent ≡ forwarded gens t c entries

-- The event is genuine: the records, each paired with the generation in force at it, have at the number of the event's stamp a
-- record that is read as this event, with the event's generation.
pub record IsEventOf (records : List (ℕ × Record)) (s : Stamped) : Type 0 where
  pub line : Record
  pub there : slice_get records s.stamp.number ≡ Some (s.generation, line)
  pub reads : reading_of line ≡ reading.Event s.event

-- On each way of a connection's entries: the numbers of the events that were taken are a prefix of the wanted ones. They are all
-- of the wanted ones if the end mark was taken. If it was and the tenant lists the connection, the connection was closed. Each
-- event of the connection that was taken is what the record with its number is read as.
pub record EachWayDelivers : Type 0 where
  pub in_order : (gens : Generations) (t p c : ℕ) (entries : List ConnEntry) (records : List (ℕ × Record)) (g : ℕ) (closed : Bool) (taken : List PipelineItem) →
      AreEntriesOf entries records g closed → Way gens t p c entries taken →
      IsPrefixOf (filter_map (number_of_item c) taken) (wanted gens t p c records)
  pub whole : (gens : Generations) (t p c : ℕ) (entries : List ConnEntry) (records : List (ℕ × Record)) (g : ℕ) (closed : Bool) (taken : List PipelineItem) →
      AreEntriesOf entries records g closed → c < length (connections_of gens.first) → Way gens t p c entries taken →
      list_any is_end taken ≡ true → filter_map (number_of_item c) taken ≡ wanted gens t p c records
  pub closes : (gens : Generations) (t p c : ℕ) (entries : List ConnEntry) (records : List (ℕ × Record)) (g : ℕ) (closed : Bool) (taken : List PipelineItem) →
      AreEntriesOf entries records g closed → c < length (connections_of gens.first) → lists gens.first t c ≡ true → Way gens t p c entries taken →
      list_any is_end taken ≡ true → closed ≡ true
  pub genuine : (gens : Generations) (t p c : ℕ) (entries : List ConnEntry) (records : List (ℕ × Record)) (g : ℕ) (closed : Bool) (taken : List PipelineItem) →
      AreEntriesOf entries records g closed → Way gens t p c entries taken →
      (i : ℕ) (s : Stamped) → slice_get taken i ≡ Some (item.Event s) → s.stamp.conn.0 ≡ c → IsEventOf records s
