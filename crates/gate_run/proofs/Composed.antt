-- The way of a connection's records to a pipeline, put together from what each thread did and from what still waits in each queue.
use Rattle.std.proofs.Common.{◌≡◌, ◌∙◌, refl, sym, ap, subst, ℕ, suc, ◌<◌, ◌==◌, List, [], ◌∷◌, ◌++◌, Bool, true, false, cond, Some, None, if◌then◌else◌, append_assoc, arith}
use Rattle.std.specs.List.{cons_option, filter, filter_map}
use Rattle.std.proofs.lemmas.List.Elements.{filter_map-append}
use Rattle.std.proofs.lemmas.List.{map-append}
use Rattle.std.proofs.lemmas.Bool.{eq-eqb}
use Rattle.gate_record.specs.declared.reading.Reading.{Reading}
use Rattle.gate_record.specs.declared.reading.Reading.TheVariants as reading
use Rattle.gate_record.specs.declared.event.Event.{Event}
use Rattle.gate_record.specs.declared.transit.ConnEntry.{ConnEntry}
use Rattle.gate_record.specs.declared.transit.ConnEntry.TheVariants as entry
use Rattle.gate_record.specs.declared.transit.PipelineItem.{PipelineItem}
use Rattle.gate_record.specs.declared.transit.TenantItem.{TenantItem}
use Rattle.gate_record.specs.declared.transit.TenantItem.TheVariants as tenant
use Rattle.gate_record.specs.Entries.{generation_behind, with_generations}
use Rattle.gate_record.specs.Generations.{EntriesHaveGenerations}
use Rattle.gate_record.specs.Prefixes.{IsPrefixOf}
use Rattle.gate_record.specs.Reading.{reading_of}
use Rattle.gate_config.specs.declared.generations.Generations.{Generations}
use Rattle.gate_config.specs.Generations.{config_at}
use Rattle.gate_config.specs.Lookups.{lists}
use Rattle.gate_config.specs.Selection.{is_listed}
use Rattle.gate_forward.specs.Forwarding.{conn_id, forwarded, forwarded_at, forwarded_reading, stamped}
use Rattle.gate_tenant.specs.Dispatching.{chosen, conn_of_item, is_from}
use Rattle.gate_queue.specs.declared.tagged.Tagged.{Tagged}
use Rattle.gate_queue.specs.States.{AreFrom, IsDelivered}
use Rattle.gate_queue.specs.Tagged.{values_of}
use Rattle.gate_delivery.specs.Ways.{Way}
use Rattle.gate_run_threads.specs.Seats.{values}

-- ---- the values of senders

module _ {A : Type 0} (P : A → Type 0) where
  abbrev pub Each : List A → Type 0
  Each [] = Unit {0}
  Each (x ∷ xs) = P x × Each xs

  each_front : (xs ys : List A) → Each (xs ++ ys) → Each xs
  each_front [] ys all = tt
  each_front (x ∷ xs) ys all = (all.0, each_front xs ys all.1)

module _ {T : Type 0} where
  own_value : (s : ℕ) (x : Tagged T) (xs : List (Tagged T)) → x.sender ≡ s → values_of s (x ∷ xs) ≡ x.value ∷ values_of s xs
  own_value s x xs e = ap (λ b. if b then x.value ∷ values_of s xs else values_of s xs) (eq-eqb x.sender s e)

  -- of a queue's only sender all values are
  pub only_sender : (xs : List (Tagged T)) → AreFrom 1 xs → values_of 0 xs ≡ values xs
  only_sender [] from = refl
  only_sender (x ∷ xs) from =
      let first : x.sender < 1 = from 0 x (omega arith) in
      own_value 0 x xs (omega (arith, first)) ∙ ap (λ ys. x.value ∷ ys) (only_sender xs (λ k d low. from (suc k) d (omega (arith, low))))

-- each item of a tenant's queue is of the connection whose number its sender has
abbrev pub OfSenders : List (Tagged TenantItem) → Type 0
OfSenders xs = Each (λ (x : Tagged TenantItem). conn_of_item x.value ≡ x.sender) xs

behind_by : (s : ℕ) (x : Tagged TenantItem) (xs : List (Tagged TenantItem)) (b : Bool) → (x.sender == s) ≡ b → Each (λ item. conn_of_item item ≡ s) (if b then x.value ∷ values_of s xs else values_of s xs) → Each (λ item. conn_of_item item ≡ s) (values_of s xs)
behind_by s x xs true e all = all.1
behind_by s x xs false e all = all

pub of_senders : (n : ℕ) (xs : List (Tagged TenantItem)) → AreFrom n xs → ((s : ℕ) → s < n → Each (λ item. conn_of_item item ≡ s) (values_of s xs)) → OfSenders xs
of_senders n [] from each = tt
of_senders n (x ∷ xs) from each = (
  (subst (Each (λ item. conn_of_item item ≡ x.sender)) (own_value x.sender x xs refl) (each x.sender (from 0 x (omega arith)))).0,
  of_senders n xs (λ k d low. from (suc k) d (omega (arith, low))) (λ s low. behind_by s x xs (x.sender == s) refl (each s low)),
)

part_by : (c : ℕ) (x : Tagged TenantItem) (xs : List (Tagged TenantItem)) (b : Bool) → filter (is_from c) (values xs) ≡ values_of c xs →
    cond b (x.value ∷ filter (is_from c) (values xs)) (filter (is_from c) (values xs)) ≡ (if b then x.value ∷ values_of c xs else values_of c xs)
part_by c x xs true e = ap (λ ys. x.value ∷ ys) e
part_by c x xs false e = e

-- a connection's part is what its sender has put
pub part_of : (c : ℕ) (xs : List (Tagged TenantItem)) → OfSenders xs → filter (is_from c) (values xs) ≡ values_of c xs
part_of c [] all = refl
part_of c (x ∷ xs) all =
    ap (λ n. cond (n == c) (x.value ∷ filter (is_from c) (values xs)) (filter (is_from c) (values xs))) all.0
    ∙ part_by c x xs (x.sender == c) (part_of c xs all.1)

-- ---- what is forwarded is of its connection

module _ (gens : Generations) (t c : ℕ) where
  own_event : (g n : ℕ) (event : Event) (b : Bool) (items : List TenantItem) → Each (λ item. conn_of_item item ≡ c) items → Each (λ item. conn_of_item item ≡ c) (cons_option (cond b (Some (tenant.Event (stamped c g n event))) None) items)
  own_event g n event true items all = (refl, all)
  own_event g n event false items all = all

  own_reading : (g n : ℕ) (r : Reading) (items : List TenantItem) → Each (λ item. conn_of_item item ≡ c) items → Each (λ item. conn_of_item item ≡ c) (cons_option (forwarded_reading gens t c g n r) items)
  own_reading g n (reading.Event event) items all = own_event g n event (is_listed (config_at gens g) t c event.project) items all
  own_reading g n (reading.Nothing why) items all = all

  own_mark : (b : Bool) (items : List TenantItem) → Each (λ item. conn_of_item item ≡ c) items → Each (λ item. conn_of_item item ≡ c) (cons_option (cond b (Some (tenant.End (conn_id c))) None) items)
  own_mark true items all = (refl, all)
  own_mark false items all = all

  own_from : (g : ℕ) (entries : List ConnEntry) → Each (λ item. conn_of_item item ≡ c) (filter_map (forwarded_at gens t c) (with_generations g entries))
  own_from g [] = tt
  own_from g (entry.Numbered n line ∷ entries) = own_reading g n (reading_of line) _ (own_from g entries)
  own_from g (entry.Renew ∷ entries) = own_from (suc g) entries
  own_from g (entry.End ∷ entries) = own_mark (lists gens.first t c) _ (own_from g entries)

  pub all_own : (entries : List ConnEntry) → Each (λ item. conn_of_item item ≡ c) (forwarded gens t c entries)
  all_own entries = own_from 0 entries

-- what was taken of a sender is of its connection
pub taken_own : (gens : Generations) (t s : ℕ) (entries : List ConnEntry) (put : List TenantItem) (taken waiting : List (Tagged TenantItem)) → IsPrefixOf put (forwarded gens t s entries) → IsDelivered taken waiting s put → Each (λ item. conn_of_item item ≡ s) (values_of s taken)
taken_own gens t s entries put taken waiting (rest, whole) delivered =
    each_front (λ item. conn_of_item item ≡ s) (values_of s taken) (values_of s waiting)
    (subst (Each (λ item. conn_of_item item ≡ s)) (sym delivered)
    (each_front (λ item. conn_of_item item ≡ s) put rest (subst (Each (λ item. conn_of_item item ≡ s)) (sym whole) (all_own gens t s entries))))

-- ---- the way

values_append : {T : Type 0} (xs ys : List (Tagged T)) → values (xs ++ ys) ≡ values xs ++ values ys
values_append xs ys = map-append (λ (x : Tagged _). x.value) xs ys

-- From what the reader put, what was taken of that and what waits, what the forwarder put for the tenant, what was taken of all
-- senders there and what waits, what the tenant's worker matched and put for the pipeline, what was taken of that and what waits: the
-- first of what the pipeline took has its way.
pub way_of : EntriesHaveGenerations → (gens : Generations) (t p c : ℕ) (put : List ConnEntry) (taken waiting : List (Tagged ConnEntry))
    (sent : List TenantItem) (got waits : List (Tagged TenantItem)) (matched unmatched : List TenantItem) (given : List PipelineItem) (took still : List (Tagged PipelineItem)) (front held : List PipelineItem) →
    AreFrom 1 taken → AreFrom 1 waiting → IsDelivered taken waiting 0 put →
    IsPrefixOf sent (forwarded gens t c (values taken)) → OfSenders got → IsDelivered got waits c sent →
    matched ++ unmatched ≡ values got → IsPrefixOf given (chosen gens t p matched) →
    AreFrom 1 took → AreFrom 1 still → IsDelivered took still 0 given → values took ≡ front ++ held →
    Way gens t p c put front
way_of law gens t p c put taken waiting sent got waits matched unmatched given took still front held from from' delivered (unsent, forwards) of got_of parts (ungiven, chooses) took_from still_from gave fronts =
    let behind = filter_map (forwarded_at gens t c) (with_generations (generation_behind 0 (values taken)) (values waiting)) in
    record {
      matched = matched;
      unmatched = unmatched;
      unsent = values_of c waits ++ (unsent ++ behind);
      untaken = held ++ (values still ++ ungiven);
      chooses =
          sym (append_assoc front held (values still ++ ungiven))
          ∙ ap (λ xs. xs ++ (values still ++ ungiven)) (sym fronts)
          ∙ sym (append_assoc (values took) (values still) ungiven)
          ∙ ap (λ xs. xs ++ ungiven) ((λ i. sym (only_sender took took_from) i ++ sym (only_sender still still_from) i) ∙ gave)
          ∙ chooses;
      forwards =
          ap (λ xs. filter (is_from c) xs ++ (values_of c waits ++ (unsent ++ behind))) parts
          ∙ ap (λ xs. xs ++ (values_of c waits ++ (unsent ++ behind))) (part_of c got of)
          ∙ sym (append_assoc (values_of c got) (values_of c waits) (unsent ++ behind))
          ∙ ap (λ xs. xs ++ (unsent ++ behind)) got_of
          ∙ sym (append_assoc sent unsent (behind))
          ∙ ap (λ xs. xs ++ behind) forwards
          ∙ sym (filter_map-append (forwarded_at gens t c) (with_generations 0 (values taken)) (with_generations (generation_behind 0 (values taken)) (values waiting)))
          ∙ ap (filter_map (forwarded_at gens t c)) (sym (law.joined 0 (values taken) (values waiting)))
          ∙ ap (forwarded gens t c) ((λ i. sym (only_sender taken from) i ++ sym (only_sender waiting from') i) ∙ delivered);
    }
