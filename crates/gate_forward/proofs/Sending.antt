-- What tenants have of what was loaded, after any history of calls.
use Rattle.std.proofs.Common.{◌≡◌, ◌∙◌, refl, sym, ap, ℕ, ◌<◌, List, [], ◌∷◌, ◌++◌, length, Option, Some, None, append-nil, append_assoc}
use Rattle.std.proofs.lemmas.List.Elements.{filter_map-append}
use Rattle.std.proofs.lemmas.List.Sums.{fold-append}
use Rattle.std.specs.List.{cons_option, filter_map}
use Rattle.std.specs.Option.{option_to_list}
use Rattle.gate_record.specs.declared.transit.ConnEntry.{ConnEntry}
use Rattle.gate_record.specs.declared.transit.ConnEntry.TheVariants as entry
use Rattle.gate_record.specs.declared.transit.TenantItem.{TenantItem}
use Rattle.gate_record.specs.Entries.{behind, generation_behind, with_generations}
use Rattle.gate_record.specs.Generations.{EntriesHaveGenerations}
use Rattle.gate_record.proofs.Addressed.{has_its_own}
use Rattle.gate_config.specs.declared.generations.Generations.{Generations}
use Rattle.gate_config.specs.Lookups.{tenants_of}
use Rattle.gate_forward.specs.Forwarding.{for_tenant, forwarded, forwarded_at, forwarded_entry, sends}
use Rattle.gate_forward.specs.Histories.{EachTenantGetsItsOwn, Happens, History, begins, comes_back, ends, is_sent, item_to, items_to, loads, moves, renews}

-- ---- what an entry sends to a tenant

sent_to : (gens : Generations) (t c g : ℕ) (e : ConnEntry) → t < length (tenants_of gens.first) → items_to t (sends gens c g e) ≡ option_to_list (forwarded_entry gens t c g e)
sent_to gens t c g e h = has_its_own for_tenant item_to (λ n m item. refl) (λ u. forwarded_entry gens u c g e) t (length (tenants_of gens.first)) h

-- ---- any history

one_more : (o : Option TenantItem) → option_to_list o ≡ cons_option o []
one_more None = refl
one_more (Some item) = refl

one_behind : (entries : List ConnEntry) (e : ConnEntry) (g : ℕ) → g ≡ generation_behind 0 entries → behind g e ≡ generation_behind 0 (entries ++ e ∷ [])
one_behind entries e g is = ap (λ n. behind n e) is ∙ sym (fold-append behind 0 entries (e ∷ []))

module _ (gens : Generations) (c : ℕ) where
  in_force : {h : History} → Happens gens c h → h.state.generation ≡ generation_behind 0 h.loaded
  in_force begins = refl
  in_force (loads {h} n line before empty no_out) = one_behind h.loaded (entry.Numbered n line) h.state.generation (in_force before)
  in_force (ends {h} before empty no_out) = one_behind h.loaded entry.End h.state.generation (in_force before)
  in_force (renews {h} before empty no_out later) = one_behind h.loaded entry.Renew h.state.generation (in_force before)
  in_force (moves before no_out is) = in_force before
  in_force (is_sent before out) = in_force before
  in_force (comes_back before out) = in_force before

module _ (laws : EntriesHaveGenerations) (gens : Generations) (t c : ℕ) (few : t < length (tenants_of gens.first)) where
  abbrev Shares : History → Type 0
  Shares h = items_to t (h.sent ++ (option_to_list h.out ++ h.state.outbox.items)) ≡ forwarded gens t c h.loaded

  -- one more entry, at which the generation behind the others is in force
  forwards_more : (entries : List ConnEntry) (e : ConnEntry) → forwarded gens t c (entries ++ e ∷ []) ≡ forwarded gens t c entries ++ cons_option (forwarded_entry gens t c (generation_behind 0 entries) e) []
  forwards_more entries e =
      ap (filter_map (forwarded_at gens t c)) (laws.joined 0 entries (e ∷ []))
      ∙ filter_map-append (forwarded_at gens t c) (with_generations 0 entries) ((generation_behind 0 entries, e) ∷ [])

  -- one more entry is loaded into the empty outbox
  more : {h : History} (e : ConnEntry) → Happens gens c h → Shares h → h.state.outbox.items ≡ [] → h.out ≡ None →
      items_to t (h.sent ++ (option_to_list h.out ++ sends gens c h.state.generation e)) ≡ forwarded gens t c (h.loaded ++ e ∷ [])
  more {h} e before was empty no_out =
      let g = h.state.generation in
      ap (λ o. items_to t (h.sent ++ (option_to_list o ++ sends gens c g e))) no_out
      ∙ filter_map-append (item_to t) h.sent (sends gens c g e)
      ∙ ap (λ xs. items_to t h.sent ++ xs) (sent_to gens t c g e few ∙ one_more (forwarded_entry gens t c g e))
      ∙ ap (λ xs. xs ++ cons_option (forwarded_entry gens t c g e) []) (sym (ap (items_to t) (ap (λ o. h.sent ++ (option_to_list o ++ h.state.outbox.items)) no_out ∙ ap (λ items. h.sent ++ items) empty ∙ append-nil h.sent)) ∙ was)
      ∙ ap (λ n. forwarded gens t c h.loaded ++ cons_option (forwarded_entry gens t c n e) []) (in_force gens c before)
      ∙ sym (forwards_more h.loaded e)

  share : {h : History} → Happens gens c h → Shares h
  share begins = refl
  share (loads {h} n line before empty no_out) = more (entry.Numbered n line) before (share before) empty no_out
  share (ends {h} before empty no_out) = more entry.End before (share before) empty no_out
  share (renews {h} before empty no_out later) = share before ∙ sym (forwards_more h.loaded entry.Renew ∙ append-nil (forwarded gens t c h.loaded))
  share (moves {h} {first} {items} before no_out is) =
      ap (λ xs. items_to t (h.sent ++ xs)) (sym (ap (λ o. option_to_list o ++ h.state.outbox.items) no_out ∙ is)) ∙ share before
  share (is_sent {h} {item} before out) =
      ap (items_to t) (append_assoc h.sent (item ∷ []) h.state.outbox.items ∙ ap (λ o. h.sent ++ (option_to_list o ++ h.state.outbox.items)) (sym out)) ∙ share before
  share (comes_back {h} {item} before out) =
      ap (λ o. items_to t (h.sent ++ (option_to_list o ++ h.state.outbox.items))) (sym out) ∙ share before

pub each_tenant_gets_its_own : EntriesHaveGenerations → EachTenantGetsItsOwn
each_tenant_gets_its_own laws = record {
  own = λ gens t c h few happens. share laws gens t c few happens;
  in_force = λ gens c h happens. in_force gens c happens;
  of_entry = sent_to;
}
