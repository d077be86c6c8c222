-- What is forwarded, then chosen, is what is wanted.
use Rattle.std.proofs.Common.{◌≡◌, ◌∙◌, ap, refl, ℕ, ◌+◌, List, [], ◌∷◌, ◌++◌, Bool, true, false, cond, Option, Some, None, append-nil, length, sym, zero-add, rules}
use Rattle.std.specs.Prelude.{◌&&◌, ◌==◌, option_and_then, if◌then◌else◌}
use Rattle.std.proofs.lemmas.List.Elements.{filter_map-append}
use Rattle.std.specs.List.{enumerate_from, filter_map, list_any}
use Rattle.gate_record.specs.declared.event.Event.{Event}
use Rattle.gate_record.specs.declared.ids.ConnId.{ConnId}
use Rattle.gate_record.specs.declared.record.Record.{Record}
use Rattle.gate_record.specs.declared.reading.Reading.{Reading}
use Rattle.gate_record.specs.declared.reading.Reading.TheVariants as reading
use Rattle.gate_record.specs.declared.transit.ConnEntry.{ConnEntry}
use Rattle.gate_record.specs.declared.transit.ConnEntry.TheVariants as entry
use Rattle.gate_record.specs.declared.transit.TenantItem.{TenantItem}
use Rattle.gate_record.specs.declared.transit.TenantItem.TheVariants as tenant
use Rattle.gate_record.specs.declared.transit.PipelineItem.TheVariants as pipeline
use Rattle.gate_record.specs.Reading.{reading_of}
use Rattle.gate_rule.specs.Rule.{meets}
use Rattle.gate_config.specs.declared.generations.Generations.{Generations}
use Rattle.gate_config.specs.Lookups.{lists, rules_of}
use Rattle.gate_config.specs.Selection.{is_listed, selects_reading}
use Rattle.gate_forward.specs.Forwarding.{conn_id, stamped, forwarded, forwarded_at, forwarded_reading}
use Rattle.gate_tenant.specs.Dispatching.{chosen, chosen_item, all_marked_in}
use Rattle.gate_config.specs.Generations.{config_at}
use Rattle.gate_record.specs.Stamps.{number_from}
use Rattle.gate_delivery.specs.Wanted.{number_where, selects_in_force, wanted}
use Rattle.gate_record.specs.Entries.{AreEntriesOf, accepts, begins, closes, generation_behind, renews, with_generations}
use Rattle.gate_record.specs.Generations.{AreFirstEntries, EntriesHaveGenerations}
use Rattle.gate_delivery.specs.Ways.{FirstArrive, WantedArrive, arrives, number_of_item}
use Rattle.gate_delivery.proofs.Maps.{enumerate_from-append, filter_map-filter_map, filter_map_push}
use Rattle.std.specs.Option.{option_to_list}

pub same_as_itself : (n : ℕ) → (n == n) ≡ true
same_as_itself n = search rules

module _ (gens : Generations) (t p c : ℕ) where
  -- the number that an item brings
  abbrev pub brought : TenantItem → Option ℕ
  brought item = option_and_then (number_of_item c) (chosen_item gens t p item)

  -- and that an entry does, beside the generation in force at it
  abbrev pub number_brought : ℕ × ConnEntry → Option ℕ
  number_brought e = option_and_then brought (forwarded_at gens t c e)

  no_marks : (b : Bool) → filter_map (number_of_item c) (if b then pipeline.End ∷ [] else []) ≡ []
  no_marks true = refl
  no_marks false = refl

  -- end marks have no numbers
  pub by_items : (items : List TenantItem) → filter_map (number_of_item c) (chosen gens t p items) ≡ filter_map brought items
  by_items items =
      filter_map-append (number_of_item c) (filter_map (chosen_item gens t p) items) (if all_marked_in gens.first t items then pipeline.End ∷ [] else [])
      ∙ ap (λ rest. filter_map (number_of_item c) (filter_map (chosen_item gens t p) items) ++ rest) (no_marks (all_marked_in gens.first t items))
      ∙ append-nil (filter_map (number_of_item c) (filter_map (chosen_item gens t p) items))
      ∙ filter_map-filter_map (number_of_item c) (chosen_item gens t p) items

  by_entry : (entries : List ConnEntry) → arrives gens t p c entries ≡ filter_map number_brought (with_generations 0 entries)
  by_entry entries = by_items (forwarded gens t c entries) ∙ filter_map-filter_map brought (forwarded_at gens t c) (with_generations 0 entries)

  same_number : (n : ℕ) → number_from c (record { conn = conn_id c; number = n }) ≡ Some n
  same_number n = ap (λ b. cond b (Some n) None) (same_as_itself c)

  by_choice : (g n : ℕ) (event : Event) (chosen : Bool) → option_and_then (number_of_item c) (cond chosen (Some (pipeline.Event (stamped c g n event))) None) ≡ cond chosen (Some n) None
  by_choice g n event true = same_number n
  by_choice g n event false = refl

  by_selection : (g n : ℕ) (event : Event) (listed chosen : Bool) → is_listed (config_at gens g) t c event.project ≡ listed → list_any (λ rule. meets rule event) (rules_of (config_at gens g) t p c) ≡ chosen →
      option_and_then brought (cond listed (Some (tenant.Event (stamped c g n event))) None) ≡ cond (listed && chosen) (Some n) None
  by_selection g n event false chosen e m = refl
  by_selection g n event true chosen e m =
      ap (λ b. option_and_then (number_of_item c) (cond b (Some (pipeline.Event (stamped c g n event))) None)) (λ i. e i && m i) ∙ by_choice g n event chosen

  by_reading : (g n : ℕ) (r : Reading) → option_and_then brought (forwarded_reading gens t c g n r) ≡ (if selects_reading (config_at gens g) t p c r then Some n else None)
  by_reading g n (reading.Event event) =
      by_selection g n event (is_listed (config_at gens g) t c event.project) (list_any (λ rule. meets rule event) (rules_of (config_at gens g) t p c)) refl refl
  by_reading g n (reading.Nothing why) = refl

  no_more : (b : Bool) (d : ConnId) → option_and_then brought (if b then Some (tenant.End d) else None) ≡ None
  no_more true d = refl
  no_more false d = refl

  module _ (laws : EntriesHaveGenerations) where
    one_more : {entries : List ConnEntry} {records : List (ℕ × Record)} {g : ℕ} (e : ConnEntry) → AreEntriesOf entries records g false → filter_map number_brought (with_generations 0 entries) ≡ wanted gens t p c records →
        filter_map number_brought (with_generations 0 (entries ++ e ∷ [])) ≡ wanted gens t p c records ++ option_to_list (number_brought (g, e))
    one_more {entries} {records} {g} e are was =
        ap (filter_map number_brought) (laws.joined 0 entries (e ∷ []))
        ∙ filter_map_push number_brought (with_generations 0 entries) (generation_behind 0 entries, e)
        ∙ (λ i. was i ++ option_to_list (number_brought (laws.behind_all are i, e)))

    record_more : (records : List (ℕ × Record)) (x : ℕ × Record) → wanted gens t p c (records ++ x ∷ []) ≡ wanted gens t p c records ++ option_to_list (number_where (selects_in_force gens t p c) (length records, x))
    record_more records x =
        ap (filter_map (number_where (selects_in_force gens t p c))) (enumerate_from-append 0 records (x ∷ []) ∙ ap (λ n. enumerate_from 0 records ++ (n, x) ∷ []) (zero-add (length records)))
        ∙ filter_map_push (number_where (selects_in_force gens t p c)) (enumerate_from 0 records) (length records, x)

    by_stream : {entries : List ConnEntry} {records : List (ℕ × Record)} {g : ℕ} {closed : Bool} → AreEntriesOf entries records g closed →
        filter_map number_brought (with_generations 0 entries) ≡ wanted gens t p c records
    by_stream begins = refl
    by_stream (accepts {entries} {records} {g} line before) =
        one_more (entry.Numbered (length records) line) before (by_stream before)
        ∙ ap (λ o. wanted gens t p c records ++ option_to_list o) (by_reading g (length records) (reading_of line))
        ∙ sym (record_more records (g, line))
    by_stream (renews {entries} {records} before) = one_more entry.Renew before (by_stream before) ∙ append-nil (wanted gens t p c records)
    by_stream (closes {entries} {records} before) =
        one_more entry.End before (by_stream before)
        ∙ ap (λ o. wanted gens t p c records ++ option_to_list o) (no_more (lists gens.first t c) (conn_id c)) ∙ append-nil (wanted gens t p c records)

    pub arrive : {entries : List ConnEntry} {records : List (ℕ × Record)} {g : ℕ} {closed : Bool} → AreEntriesOf entries records g closed → arrives gens t p c entries ≡ wanted gens t p c records
    arrive {entries} are = by_entry entries ∙ by_stream are

    first_arrive : {entries : List ConnEntry} {records : List (ℕ × Record)} → AreFirstEntries entries records → FirstArrive gens t p c entries records
    first_arrive front = record { front = front; arrive = arrive front.entries_of_first }

pub wanted_arrive : EntriesHaveGenerations → WantedArrive
wanted_arrive laws = record {
  all = λ gens t p c are. arrive gens t p c laws are;
  each_prefix = λ gens t p c are k. first_arrive gens t p c laws (laws.each_prefix are k);
}
