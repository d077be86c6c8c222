-- Which items tenants get of a connection's entries.
use Rattle.std.specs.Prelude.{ℕ, List, Option, Some, None, length, option_map, if◌then◌else◌}
use Rattle.std.specs.List.{filter_map, range_with_len}
use Rattle.gate_record.specs.declared.ids.ConnId.{ConnId}
use Rattle.gate_record.specs.declared.ids.TenantId.{TenantId}
use Rattle.gate_record.specs.declared.event.Event.{Event}
use Rattle.gate_record.specs.declared.reading.Reading.{Reading}
use Rattle.gate_record.specs.declared.reading.Reading.TheVariants as reading
use Rattle.gate_record.specs.declared.transit.Stamped.{Stamped}
use Rattle.gate_record.specs.declared.transit.ConnEntry.{ConnEntry}
use Rattle.gate_record.specs.declared.transit.ConnEntry.TheVariants as entry
use Rattle.gate_record.specs.declared.transit.TenantItem.{TenantItem}
use Rattle.gate_record.specs.declared.transit.TenantItem.TheVariants as tenant
use Rattle.gate_record.specs.Reading.{reading_of}
use Rattle.gate_record.specs.Entries.{with_generations}
use Rattle.gate_config.specs.declared.generations.Generations.{Generations}
use Rattle.gate_config.specs.Generations.{config_at}
use Rattle.gate_config.specs.Lookups.{lists, tenants_of}
use Rattle.gate_config.specs.Selection.{is_listed}

abbrev pub conn_id : ℕ → ConnId
conn_id c = record { 0 = c }

abbrev pub tenant_id : ℕ → TenantId
tenant_id t = record { 0 = t }

-- an event with the stamp of record n of connection c, where generation g is in force at the record
abbrev pub stamped : ℕ → ℕ → ℕ → Event → Stamped
stamped c g n event = record { stamp = record { conn = conn_id c; number = n }; generation = g; event = event }

abbrev pub forwarded_reading : Generations → ℕ → ℕ → ℕ → ℕ → Reading → Option TenantItem
forwarded_reading gens t c g n (reading.Event event) =
    if is_listed (config_at gens g) t c event.project then Some (tenant.Event (stamped c g n event)) else None
forwarded_reading gens t c g n (reading.Nothing why) = None

-- What tenant t gets of an entry of connection c, where generation g is in force at the entry. Of a record it gets the event, if
-- that generation lists the event's project for the tenant under the connection. Of a renewal it gets nothing. It gets the end
-- mark if it lists the connection.
abbrev pub forwarded_entry : Generations → ℕ → ℕ → ℕ → ConnEntry → Option TenantItem
forwarded_entry gens t c g (entry.Numbered n r) = forwarded_reading gens t c g n (reading_of r)
forwarded_entry gens t c g entry.Renew = None
forwarded_entry gens t c g entry.End = if lists gens.first t c then Some (tenant.End (conn_id c)) else None

-- what tenant t gets of an entry that is paired with the generation in force at it
abbrev pub forwarded_at : Generations → ℕ → ℕ → ℕ × ConnEntry → Option TenantItem
forwarded_at gens t c (g, e) = forwarded_entry gens t c g e

-- what tenant t gets of a list of entries of connection c, in order, where generation 0 is in force at the first
abbrev pub forwarded : Generations → ℕ → ℕ → List ConnEntry → List TenantItem
forwarded gens t c entries = filter_map (forwarded_at gens t c) (with_generations 0 entries)

-- an item, addressed to tenant t
abbrev pub for_tenant : ℕ → TenantItem → TenantId × TenantItem
for_tenant t item = (tenant_id t, item)

-- what the tenants get, each item with its tenant, in rising number of the tenants
abbrev pub by_tenant : Generations → (ℕ → Option TenantItem) → List (TenantId × TenantItem)
by_tenant gens gets = filter_map (λ t. option_map (for_tenant t) (gets t)) (range_with_len 0 (length (tenants_of gens.first)))

-- what the tenants get of an entry of connection c, where generation g is in force at the entry, in rising number of the tenants
abbrev pub sends : Generations → ℕ → ℕ → ConnEntry → List (TenantId × TenantItem)
sends gens c g entry = by_tenant gens (λ t. forwarded_entry gens t c g entry)
