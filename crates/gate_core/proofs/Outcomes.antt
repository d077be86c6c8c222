-- What holds means that what was processed is what was wanted.
use Rattle.std.proofs.Common.{◌≡◌, ◌∙◌, refl, sym, ap, ℕ, ◌<◌, ◌≤◌, List, [], ◌∷◌, ◌++◌, Bool, true, false, length, Option, Some, None, arith, append_assoc}
use Rattle.std.specs.Prelude.{nat_lt, option_and_then, slice_get, is_some}
use Rattle.std.proofs.lemmas.List.Elements.{filter_map-append}
use Rattle.std.specs.List.{filter, filter_map}
use Rattle.std.specs.Option.{option_to_list}
use Rattle.std.proofs.lemmas.Bool.{ltb-true, ltb-false}
use Rattle.std.proofs.lemmas.Option.{slice_get_past, slice_get_within}
use Rattle.gate_record.specs.declared.record.Record.{Record}
use Rattle.gate_record.specs.declared.transit.PipelineItem.{PipelineItem}
use Rattle.gate_record.specs.declared.transit.PipelineItem.TheVariants as pipeline
use Rattle.gate_config.specs.declared.generations.Generations.{Generations}
use Rattle.gate_config.specs.Lookups.{connections_of, pipelines_of}
use Rattle.gate_forward.specs.Histories.{items_to}
use Rattle.gate_tenant.specs.Dispatching.{chosen, is_from}
use Rattle.gate_tenant.specs.Histories.{EachGetsItsOwn, NothingIsLost, item_for, items_for}
use Rattle.gate_pipeline.specs.Histories.{stamp_in, stamp_of}
use Rattle.gate_pipeline.specs.States.{Processed}
use Rattle.gate_core.specs.declared.pipeline.Pipeline.{Pipeline}
use Rattle.gate_core.specs.History.{History, accepted_in_force, accepted_records, done, finished, renewals}
use Rattle.gate_record.specs.Stamps.{number_from, numbers_from}
use Rattle.gate_delivery.specs.Wanted.{wanted}
use Rattle.gate_record.specs.Prefixes.{IsPrefixOf}
use Rattle.gate_core.specs.Promises.{Delivers}
use Rattle.gate_core.specs.States.{TenantState, State}
use Rattle.gate_delivery.specs.Ways.{Way, number_of_item}
use Rattle.gate_delivery.proofs.Delivering.{none_wanted, prefix as taken_in_order, whole as taken_whole}
use Rattle.gate_delivery.proofs.Maps.{filter_map-filter_map, filter_map_same}
use Rattle.gate_core.proofs.Fits.{waiting_items}
use Rattle.gate_core.proofs.Streams.{Holds, PipeHolds, TenantHolds, count_of, generation_of, unsent_of, on_way, pipe_of, queue_of}
use Rattle.gate_core.proofs.Puts.{put_by}
use Rattle.gate_record.specs.Entries.{beside}

-- ---- numbers

numbers_taken : (c : ℕ) (items : List PipelineItem) → numbers_from c (filter_map stamp_in items) ≡ filter_map (number_of_item c) items
numbers_taken c items = filter_map-filter_map (number_from c) stamp_in items ∙ filter_map_same (λ item. option_and_then (number_from c) (stamp_in item)) (number_of_item c) by_item items
  where
    by_item : (item : PipelineItem) → option_and_then (number_from c) (stamp_in item) ≡ number_of_item c item
    by_item (pipeline.Event s) = refl
    by_item pipeline.End = refl

no_records : (records : List Record) → 0 ≡ length records → records ≡ []
no_records [] e = refl
no_records (r ∷ records) e = absurd (omega (arith, e))

-- ---- a pipeline that is there

module _ (own : EachGetsItsOwn) (lossless : NothingIsLost) (gens : Generations) (h : History) (state : State) (holds : Holds gens h state) (t p c : ℕ) (ten : TenantState) (pipe : Pipeline)
    (at : slice_get state.tenants t ≡ Some ten) (seat : slice_get ten.pipelines p ≡ Some pipe) where
  abbrev there : TenantHolds gens h state.connections t ten
  there = holds.tenants t ten at

  abbrev worked : PipeHolds gens.first h t p there.past.given pipe
  worked = there.pipes p pipe seat

  abbrev none_out : List PipelineItem
  none_out = items_for p there.past.state.outbox.items

  pub all_chosen : worked.taken ++ (waiting_items pipe ++ none_out) ≡ chosen gens t p there.past.done
  all_chosen =
      let inside : p < length ten.pipelines = slice_get_within ten.pipelines p pipe seat in
      let count : length ten.pipelines ≡ length (pipelines_of gens.first t) = there.count in
      sym (append_assoc worked.taken (waiting_items pipe) none_out)
      ∙ ap (λ xs. xs ++ none_out) (sym worked.parts)
      ∙ ap (λ o. items_for p there.past.given ++ items_for p (option_to_list o ++ there.past.state.outbox.items)) (sym there.none_out)
      ∙ sym (filter_map-append (item_for p) there.past.given (option_to_list there.past.out ++ there.past.state.outbox.items))
      ∙ own gens t p there.past (omega (arith, inside, count)) there.happens

  all_taken : there.past.taken ++ ten.queue ≡ there.past.done ++ (there.past.state.gathered ++ ten.queue)
  all_taken = ap (λ xs. xs ++ ten.queue) (sym (lossless gens t there.past there.happens)) ∙ append_assoc there.past.done there.past.state.gathered ten.queue

  way : Way gens t p c (put_by c h) worked.taken
  way = record {
    matched = there.past.done;
    unmatched = there.past.state.gathered ++ ten.queue;
    unsent = items_to t (unsent_of (slice_get state.connections c)) ++ on_way gens t c (generation_of (slice_get state.connections c)) (queue_of (slice_get state.connections c));
    untaken = waiting_items pipe ++ none_out;
    chooses = all_chosen;
    forwards =
        ap (λ items. filter (is_from c) items ++ (items_to t (unsent_of (slice_get state.connections c)) ++ on_way gens t c (generation_of (slice_get state.connections c)) (queue_of (slice_get state.connections c)))) (sym all_taken)
        ∙ there.ways c;
  }

  processed_numbers : numbers_from c (done t p h) ≡ filter_map (number_of_item c) worked.taken
  processed_numbers = ap (numbers_from c) (sym worked.does ∙ sym worked.stamps) ∙ numbers_taken c worked.taken

  prefix : IsPrefixOf (numbers_from c (done t p h)) (wanted gens t p c (accepted_in_force c h))
  prefix =
      let front = taken_in_order holds.laws.entries gens t p c worked.taken (holds.conns c).stream way in
      (front.0, ap (λ xs. xs ++ front.0) processed_numbers ∙ front.1)

  module _ (fin : finished t p h ≡ true) where
    out_of_range : length (connections_of gens.first) ≤ c → accepted_records c h ≡ []
    out_of_range past =
        let count : length state.connections ≡ length (connections_of gens.first) = holds.conn_count in
        no_records (accepted_records c h) (ap count_of (sym (slice_get_past state.connections c (omega (arith, past, count)))) ∙ (holds.conns c).count)

    whole_by : (b : Bool) → nat_lt c (length (connections_of gens.first)) ≡ b → numbers_from c (done t p h) ≡ wanted gens t p c (accepted_in_force c h)
    whole_by true e =
        processed_numbers
        ∙ taken_whole holds.laws.entries gens t p c worked.taken (holds.conns c).stream way (worked.marked ∙ worked.finishes ∙ fin) (ltb-true c (length (connections_of gens.first)) e)
    whole_by false e =
        processed_numbers
        ∙ none_wanted holds.laws.entries gens t p c worked.taken (holds.conns c).stream way (ap (λ records. wanted gens t p c (beside (renewals c h) records)) (out_of_range (ltb-false c (length (connections_of gens.first)) e)))

    pub whole : numbers_from c (done t p h) ≡ wanted gens t p c (accepted_in_force c h)
    whole = whole_by (nat_lt c (length (connections_of gens.first))) refl

-- ---- every pipeline

module _ (own : EachGetsItsOwn) (lossless : NothingIsLost) (gens : Generations) (h : History) (state : State) (holds : Holds gens h state) (t p c : ℕ) where
  nobody : is_some (pipe_of p (slice_get state.tenants t)) ≡ false → IsPrefixOf (numbers_from c (done t p h)) (wanted gens t p c (accepted_in_force c h))
  nobody none = (wanted gens t p c (accepted_in_force c h), ap (λ (ts : List Processed). numbers_from c (filter_map stamp_of ts) ++ wanted gens t p c (accepted_in_force c h)) (holds.others t p none).0)

  order_by_pipe : (ten : TenantState) → slice_get state.tenants t ≡ Some ten → (q : Option Pipeline) → slice_get ten.pipelines p ≡ q → IsPrefixOf (numbers_from c (done t p h)) (wanted gens t p c (accepted_in_force c h))
  order_by_pipe ten at None e = nobody (ap (λ o. is_some (pipe_of p o)) at ∙ ap is_some e)
  order_by_pipe ten at (Some pipe) e = prefix own lossless gens h state holds t p c ten pipe at e

  order_by : (o : Option TenantState) → slice_get state.tenants t ≡ o → IsPrefixOf (numbers_from c (done t p h)) (wanted gens t p c (accepted_in_force c h))
  order_by None e = nobody (ap (λ o. is_some (pipe_of p o)) e)
  order_by (Some ten) e = order_by_pipe ten e (slice_get ten.pipelines p) refl

  unfinished : is_some (pipe_of p (slice_get state.tenants t)) ≡ false → finished t p h ≡ true → numbers_from c (done t p h) ≡ wanted gens t p c (accepted_in_force c h)
  unfinished none fin = let not_finished : finished t p h ≡ false = (holds.others t p none).1 in absurd (cc)

  whole_by_pipe : (ten : TenantState) → slice_get state.tenants t ≡ Some ten → (q : Option Pipeline) → slice_get ten.pipelines p ≡ q → finished t p h ≡ true → numbers_from c (done t p h) ≡ wanted gens t p c (accepted_in_force c h)
  whole_by_pipe ten at None e fin = unfinished (ap (λ o. is_some (pipe_of p o)) at ∙ ap is_some e) fin
  whole_by_pipe ten at (Some pipe) e fin = whole own lossless gens h state holds t p c ten pipe at e fin

  whole_by_tenant : (o : Option TenantState) → slice_get state.tenants t ≡ o → finished t p h ≡ true → numbers_from c (done t p h) ≡ wanted gens t p c (accepted_in_force c h)
  whole_by_tenant None e fin = unfinished (ap (λ o. is_some (pipe_of p o)) e) fin
  whole_by_tenant (Some ten) e fin = whole_by_pipe ten e (slice_get ten.pipelines p) refl fin

pub delivers : EachGetsItsOwn → NothingIsLost → (gens : Generations) (h : History) (state : State) → Holds gens h state → Delivers gens h
delivers own lossless gens h state holds = record {
  in_order = λ t p c. order_by own lossless gens h state holds t p c (slice_get state.tenants t) refl;
  whole = λ t p c fin. whole_by_tenant own lossless gens h state holds t p c (slice_get state.tenants t) refl fin;
}
