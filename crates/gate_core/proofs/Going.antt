-- The steps of a connection and its forwarder keep what holds.
use Rattle.std.proofs.Common.{◌≡◌, ◌∙◌, refl, sym, ap, subst, ℕ, suc, ◌+◌, ◌<◌, ◌≤◌, List, [], ◌∷◌, ◌++◌, Bool, true, false, length, Option, Some, None, cond, option_map, slice_set, arith, if◌then◌else◌, append-nil, append_assoc, length-append}
use Rattle.std.specs.Prelude.{◌&&◌, ◌||◌, slice_get, count_by, unwrap_or}
use Rattle.std.specs.List.{All, cons_option, enumerate_from, filter_map, range_with_len}
use Rattle.std.specs.Option.{option_to_list}
use Rattle.std.proofs.lemmas.List.{length-map, length-set}
use Rattle.std.proofs.lemmas.List.Elements.{All-append, All-cons, All-head, All-nil, All-tail}
use Rattle.std.proofs.lemmas.List.FromFn.{length-enumerate_from}
use Rattle.std.proofs.lemmas.List.Sums.{fold-append}
use Rattle.std.proofs.lemmas.Option.{slice_get_within}
use Rattle.gate_record.specs.declared.event.Event.{Event}
use Rattle.gate_record.specs.declared.ids.ConnId.{ConnId}
use Rattle.gate_record.specs.declared.ids.TenantId.{TenantId}
use Rattle.gate_record.specs.declared.record.Record.{Record}
use Rattle.gate_record.specs.declared.reading.Reading.{Reading}
use Rattle.gate_record.specs.declared.reading.Reading.TheVariants as reading
use Rattle.gate_record.specs.declared.transit.ConnEntry.{ConnEntry}
use Rattle.gate_record.specs.declared.transit.ConnEntry.TheVariants as entry
use Rattle.gate_record.specs.declared.transit.TenantItem.{TenantItem}
use Rattle.gate_record.specs.declared.transit.TenantItem.TheVariants as tenant
use Rattle.gate_record.specs.Reading.{reading_of}
use Rattle.gate_config.specs.declared.generations.Generations.{Generations}
use Rattle.gate_config.specs.Lookups.{lists, tenants_of}
use Rattle.gate_config.specs.Generations.{config_at}
use Rattle.gate_config.specs.Selection.{is_listed}
use Rattle.gate_forward.specs.Forwarding.{conn_id, for_tenant, forwarded, forwarded_at, forwarded_entry, forwarded_reading, sends, stamped}
use Rattle.gate_forward.specs.Histories.{items_to}
use Rattle.gate_core.specs.declared.answer.Answer.TheVariants.{Accepted, Moved}
use Rattle.gate_core.specs.declared.step.Step.TheVariants as step
use Rattle.gate_core.specs.History.{History, accepted_in_force, accepted_records, closed, is_put, has_taken, renewals}
use Rattle.gate_core.specs.States.{ConnectionState, State}
use Rattle.gate_tenant.specs.Dispatching.{conn_of_item}
use Rattle.gate_record.specs.Entries.{AreEntriesOf, accepts, behind, beside, closes, generation_behind, renews, with_generations}
use Rattle.gate_core.proofs.LowerLaws.{Laws}
use Rattle.gate_core.proofs.Puts.{put_by, put_push, put_stays, renewals_push, renewals_stay}
use Rattle.gate_delivery.proofs.Arrivals.{same_as_itself}
use Rattle.gate_delivery.proofs.Maps.{cons_option_is, filter_map_push}
use Rattle.gate_core.proofs.Pushes.{accepted_push, closed_push, count_push, or_false, or_true}
use Rattle.gate_core.proofs.Sendings.{differs}
use Rattle.gate_core.proofs.Spots.{AfterSet, after_set, another, it}
use Rattle.gate_core.proofs.Streams.{AreOf, ConnHolds, ConnSame, Holds, PipeSame, conn_same, conn_untouched, generation_of, unsent_of, on_way, pipe_untouched, put_same, queue_of, tenant_same}

-- what a connection has for tenant t, and what is forwarded of all that was put
abbrev Kept : Generations → ℕ → ℕ → History → Option ConnectionState → List TenantItem → Type 0
Kept gens t c h o rest = rest ++ (items_to t (unsent_of o) ++ on_way gens t c (generation_of o) (queue_of o)) ≡ forwarded gens t c (put_by c h)

-- a connection that changes, where nothing else does
module _ (gens : Generations) (h h' : History) (state : State) (c0 : ℕ) (k k' : ConnectionState) (at : slice_get state.connections c0 ≡ Some k)
    (others : (c : ℕ) → (c0 ≡ c → ⊥) → ConnSame c h h') (pipes : (t p : ℕ) → PipeSame t p h h') where
  abbrev conns' : List ConnectionState
  conns' = slice_set state.connections c0 k'

  conn_goes : (c : ℕ) → AfterSet state.connections c0 k' c → ConnHolds gens h' c0 (Some k') → ConnHolds gens h c (slice_get state.connections c) → ConnHolds gens h' c (slice_get conns' c)
  conn_goes c (it e g) new holds = subst (ConnHolds gens h' c) (sym g) (subst (λ n. ConnHolds gens h' n (Some k')) e new)
  conn_goes c (another d g) new holds = subst (ConnHolds gens h' c) (sym g) (conn_same gens h h' c (slice_get state.connections c) (others c d) holds)

  way_goes : (t c : ℕ) → AfterSet state.connections c0 k' c → ((rest : List TenantItem) → Kept gens t c0 h (Some k) rest → Kept gens t c0 h' (Some k') rest) →
      (rest : List TenantItem) → Kept gens t c h (slice_get state.connections c) rest → Kept gens t c h' (slice_get conns' c) rest
  way_goes t c (it e g) new rest kept =
      subst (λ o. Kept gens t c h' o rest) (sym g)
      (subst (λ n. Kept gens t n h' (Some k') rest) e
      (new rest (subst (λ o. Kept gens t c0 h o rest) at (subst (λ n. Kept gens t n h (slice_get state.connections n) rest) (sym e) kept))))
  way_goes t c (another d g) new rest kept =
      subst (λ o. Kept gens t c h' o rest) (sym g) (kept ∙ ap (forwarded gens t c) (put_same c h h' (others c d)))

  pub connection_goes : ConnHolds gens h' c0 (Some k') →
      ((t : ℕ) → t < length (tenants_of gens.first) → (rest : List TenantItem) → Kept gens t c0 h (Some k) rest → Kept gens t c0 h' (Some k') rest) →
      Holds gens h state → Holds gens h' (record state { connections = conns' })
  connection_goes new ways holds = record {
    count = holds.count;
    conn_count = length-set state.connections c0 k' ∙ holds.conn_count;
    laws = holds.laws;
    conns = λ c. conn_goes c (after_set state.connections c0 c k k' at) new (holds.conns c);
    tenants = λ t ten there.
        let inside : t < length state.tenants = slice_get_within state.tenants t ten there in
        let few : length state.tenants ≡ length (tenants_of gens.first) = holds.count in
        tenant_same gens h h' state.connections conns' t ten (pipes t)
        (λ c rest. way_goes t c (after_set state.connections c0 c k k' at) (ways t (omega (arith, inside, few))) rest) (holds.tenants t ten there);
    others = λ t p none. ((pipes t p).turns ∙ (holds.others t p none).0, (pipes t p).finishes ∙ (holds.others t p none).1);
  }

-- ---- one entry more

module _ (laws : Laws) (gens : Generations) (t c : ℕ) where
  -- what it brings is by the generation behind the others
  way_push : (g : ℕ) (entries : List ConnEntry) (e : ConnEntry) → on_way gens t c g (entries ++ e ∷ []) ≡ on_way gens t c g entries ++ option_to_list (forwarded_entry gens t c (generation_behind g entries) e)
  way_push g entries e =
      ap (filter_map (forwarded_at gens t c)) (laws.entries.joined g entries (e ∷ []))
      ∙ filter_map_push (forwarded_at gens t c) (with_generations g entries) (generation_behind g entries, e)

  kept_more : (h h' : History) (k k' : ConnectionState) (e : ConnEntry) → k'.unsent ≡ k.unsent → k'.generation ≡ k.generation → k'.queue ≡ k.queue ++ e ∷ [] → put_by c h' ≡ put_by c h ++ e ∷ [] →
      generation_behind k.generation k.queue ≡ generation_behind 0 (put_by c h) →
      (rest : List TenantItem) → Kept gens t c h (Some k) rest → Kept gens t c h' (Some k') rest
  kept_more h h' k k' e unsent generation queue put in_force rest kept =
      let more = option_to_list (forwarded_entry gens t c (generation_behind k.generation k.queue) e) in
      (λ i. rest ++ (items_to t (unsent i) ++ on_way gens t c (generation i) (queue i)))
      ∙ ap (λ xs. rest ++ (items_to t k.unsent ++ xs)) (way_push k.generation k.queue e)
      ∙ ap (λ xs. rest ++ xs) (sym (append_assoc (items_to t k.unsent) (on_way gens t c k.generation k.queue) more))
      ∙ sym (append_assoc rest (items_to t k.unsent ++ on_way gens t c k.generation k.queue) more)
      ∙ ap (λ xs. xs ++ more) kept
      ∙ ap (λ g. forwarded gens t c (put_by c h) ++ option_to_list (forwarded_entry gens t c g e)) in_force
      ∙ sym (way_push 0 (put_by c h) e)
      ∙ ap (forwarded gens t c) (sym put)

pub generation_more : (g : ℕ) (entries : List ConnEntry) (e : ConnEntry) → generation_behind g (entries ++ e ∷ []) ≡ behind (generation_behind g entries) e
generation_more g entries e = fold-append behind g entries (e ∷ [])

-- the generation behind what waits, and behind all that was put
in_force_more : (g : ℕ) (queue put put' : List ConnEntry) (e : ConnEntry) → generation_behind g queue ≡ generation_behind 0 put → put' ≡ put ++ e ∷ [] → generation_behind g (queue ++ e ∷ []) ≡ generation_behind 0 put'
in_force_more g queue put put' e was more =
    generation_more g queue e ∙ ap (λ n. behind n e) was ∙ sym (generation_more 0 put e) ∙ ap (generation_behind 0) (sym more)

length_beside : (ms : List ℕ) (records : List Record) → length (beside ms records) ≡ length records
length_beside ms records = length-map (enumerate_from 0 records) _ ∙ length-enumerate_from 0 records

all_higher : (n m : ℕ) (xs : List ℕ) → n ≤ m → All (λ x. x ≤ n) xs → All (λ x. x ≤ m) xs
all_higher n m [] h all = All-nil (λ x. x ≤ m)
all_higher n m (x ∷ xs) h all =
    let low : x ≤ n = All-head (λ y. y ≤ n) x xs all in
    All-cons (λ y. y ≤ m) x xs (omega (arith, h, low)) (all_higher n m xs h (All-tail (λ y. y ≤ n) x xs all))

-- a record that is accepted
-- what an open connection has put, of which nothing is the end mark
record IsOpenStill (h : History) (c : ℕ) : Type 0 where
  shut : closed c h ≡ false
  was : AreEntriesOf (put_by c h) (beside (renewals c h) (accepted_records c h)) (length (renewals c h)) false

still_open : (gens : Generations) (h : History) (c : ℕ) (k : ConnectionState) → ConnHolds gens h c (Some k) → k.closed ≡ false → IsOpenStill h c
still_open gens h c k old is_open =
    let ms = renewals c h in
    let shut : closed c h ≡ false = sym old.closing ∙ is_open in
    record { shut = shut; was = subst (AreEntriesOf (put_by c h) (beside ms (accepted_records c h)) (length ms)) shut old.stream }

module _ (gens : Generations) (h : History) (state : State) (d : ConnId) (line : Record) (k : ConnectionState) (at : slice_get state.connections d.0 ≡ Some k) (is_open : k.closed ≡ false) (room : length k.queue < 4096) where
  abbrev h1 : History
  h1 = h ++ (step.Offer d line, Accepted k.accepted) ∷ []

  abbrev k1 : ConnectionState
  k1 = record k { accepted = k.accepted + 1; queue = k.queue ++ entry.Numbered k.accepted line ∷ [] }

  accepts_it : accepted_records d.0 h1 ≡ accepted_records d.0 h ++ line ∷ []
  accepts_it = accepted_push d.0 h (step.Offer d line, Accepted k.accepted) ∙ ap (λ b. accepted_records d.0 h ++ option_to_list (cond b (Some line) None)) (same_as_itself d.0)

  stays : closed d.0 h1 ≡ closed d.0 h
  stays = closed_push d.0 h (step.Offer d line, Accepted k.accepted) ∙ or_false (closed d.0 h)

  renews_none : renewals d.0 h1 ≡ renewals d.0 h
  renews_none = renewals_stay d.0 h (step.Offer d line, Accepted k.accepted) refl

  put_one_more : put_by d.0 h1 ≡ put_by d.0 h ++ entry.Numbered (length (accepted_records d.0 h)) line ∷ []
  put_one_more =
      let n = length (accepted_records d.0 h) in
      put_push d.0 h (step.Offer d line, Accepted k.accepted)
      ∙ ap (λ b. put_by d.0 h ++ (option_to_list (option_map (entry.Numbered n) (cond b (Some line) None)) ++ [])) (same_as_itself d.0)

  stream_more : Holds gens h state → ConnHolds gens h d.0 (Some k) → AreEntriesOf (put_by d.0 h1) (accepted_in_force d.0 h1) (length (renewals d.0 h1)) (closed d.0 h1)
  stream_more holds old =
      let ms = renewals d.0 h in
      let records = accepted_records d.0 h in
      let still = still_open gens h d.0 k old is_open in
      let more : beside ms (records ++ line ∷ []) ≡ beside ms records ++ (length ms, line) ∷ [] = holds.laws.records.one_record ms records line old.before in
      subst (λ (x : ((List ConnEntry × Bool) × (List (ℕ × Record) × ℕ))). AreEntriesOf x.0.0 x.1.0 x.1.1 x.0.1)
      (λ i. (
        (sym (put_one_more ∙ ap (λ n. put_by d.0 h ++ entry.Numbered n line ∷ []) (sym (length_beside ms records))) i, sym (stays ∙ still.shut) i),
        (sym ((λ j. beside (renews_none j) (accepts_it j)) ∙ more) i, ap length (sym renews_none) i),
      ))
      (accepts line still.was)

  pub offered_holds : Holds gens h state → Holds gens h1 (record state { connections = slice_set state.connections d.0 k1 })
  offered_holds holds =
      let old : ConnHolds gens h d.0 (Some k) = subst (ConnHolds gens h d.0) at (holds.conns d.0) in
      let puts : count_by (is_put d.0) h1 ≡ count_by (is_put d.0) h + 1 =
      count_push (is_put d.0) h (step.Offer d line, Accepted k.accepted) ∙ ap (λ b. count_by (is_put d.0) h + (0 + cond ((b && true) || false) 1 0)) (same_as_itself d.0) in
      let takes : count_by (has_taken d.0) h1 ≡ count_by (has_taken d.0) h + 0 = count_push (has_taken d.0) h (step.Offer d line, Accepted k.accepted) in
      let long : length (k.queue ++ entry.Numbered k.accepted line ∷ []) ≡ length k.queue + 1 = length-append k.queue (entry.Numbered k.accepted line ∷ []) in
      let put : put_by d.0 h1 ≡ put_by d.0 h ++ entry.Numbered k.accepted line ∷ [] = put_one_more ∙ ap (λ n. put_by d.0 h ++ entry.Numbered n line ∷ []) (sym old.count) in
      connection_goes gens h h1 state d.0 k k1 at
      (λ c differ. conn_untouched c h (step.Offer d line) (Accepted k.accepted) (differs d.0 c differ) refl refl refl)
      (λ t p. pipe_untouched t p h (step.Offer d line) (Accepted k.accepted) refl refl refl)
      (record {
        count = ap (λ n. n + 1) old.count ∙ sym (ap length accepts_it ∙ length-append (accepted_records d.0 h) (line ∷ []));
        closing = old.closing ∙ sym stays;
        waits = let was = old.waits in omega (arith, was, puts, takes, long);
        within = omega (arith, room, long);
        there = λ _. refl;
        own = old.own;
        renewed = old.renewed ∙ sym renews_none;
        before =
            let longer : length (accepted_records d.0 h1) ≡ length (accepted_records d.0 h) + 1 = ap length accepts_it ∙ length-append (accepted_records d.0 h) (line ∷ []) in
            subst (λ (ms : List ℕ). All (λ m. m ≤ length (accepted_records d.0 h1)) ms) (sym renews_none) (all_higher (length (accepted_records d.0 h)) (length (accepted_records d.0 h1)) (renewals d.0 h) (omega (arith, longer)) old.before);
        stream = stream_more holds old;
        in_force = in_force_more k.generation k.queue (put_by d.0 h) (put_by d.0 h1) (entry.Numbered k.accepted line) old.in_force put;
      })
      (λ t inside. kept_more holds.laws gens t d.0 h h1 k k1 (entry.Numbered k.accepted line) refl refl refl put old.in_force) holds

-- the end mark
module _ (gens : Generations) (h : History) (state : State) (d : ConnId) (k : ConnectionState) (at : slice_get state.connections d.0 ≡ Some k) (is_open : k.closed ≡ false) (room : length k.queue < 4096) where
  abbrev h2 : History
  h2 = h ++ (step.Close d, Moved) ∷ []

  abbrev k2 : ConnectionState
  k2 = record k { closed = true; queue = k.queue ++ entry.End ∷ [] }

  accepts_none : accepted_records d.0 h2 ≡ accepted_records d.0 h
  accepts_none = accepted_push d.0 h (step.Close d, Moved) ∙ append-nil (accepted_records d.0 h)

  shuts : closed d.0 h2 ≡ true
  shuts = closed_push d.0 h (step.Close d, Moved) ∙ (λ i. closed d.0 h || ((same_as_itself d.0 i && true) || false)) ∙ or_true (closed d.0 h)

  close_renews_none : renewals d.0 h2 ≡ renewals d.0 h
  close_renews_none = renewals_stay d.0 h (step.Close d, Moved) refl

  put_the_mark : put_by d.0 h2 ≡ put_by d.0 h ++ entry.End ∷ []
  put_the_mark = put_push d.0 h (step.Close d, Moved) ∙ ap (λ b. put_by d.0 h ++ (if b && true then entry.End ∷ [] else [])) (same_as_itself d.0)

  stream_ends : ConnHolds gens h d.0 (Some k) → AreEntriesOf (put_by d.0 h2) (accepted_in_force d.0 h2) (length (renewals d.0 h2)) (closed d.0 h2)
  stream_ends old =
      let ms = renewals d.0 h in
      let records = accepted_records d.0 h in
      let was : AreEntriesOf (put_by d.0 h) (beside ms records) (length ms) false = subst (AreEntriesOf (put_by d.0 h) (beside ms records) (length ms)) (sym old.closing ∙ is_open) old.stream in
      subst (λ (x : ((List ConnEntry × Bool) × (List ℕ × List Record))). AreEntriesOf x.0.0 (beside x.1.0 x.1.1) (length x.1.0) x.0.1)
      (λ i. ((sym put_the_mark i, sym shuts i), (sym close_renews_none i, sym accepts_none i))) (closes was)

  pub closed_holds : Holds gens h state → Holds gens h2 (record state { connections = slice_set state.connections d.0 k2 })
  closed_holds holds =
      let old : ConnHolds gens h d.0 (Some k) = subst (ConnHolds gens h d.0) at (holds.conns d.0) in
      let puts : count_by (is_put d.0) h2 ≡ count_by (is_put d.0) h + 1 =
      count_push (is_put d.0) h (step.Close d, Moved) ∙ ap (λ b. count_by (is_put d.0) h + (0 + cond ((b && true) || false) 1 0)) (same_as_itself d.0) in
      let takes : count_by (has_taken d.0) h2 ≡ count_by (has_taken d.0) h + 0 = count_push (has_taken d.0) h (step.Close d, Moved) in
      let long : length (k.queue ++ entry.End ∷ []) ≡ length k.queue + 1 = length-append k.queue (entry.End ∷ []) in
      connection_goes gens h h2 state d.0 k k2 at
      (λ c differ. conn_untouched c h (step.Close d) Moved refl (differs d.0 c differ) refl refl)
      (λ t p. pipe_untouched t p h (step.Close d) Moved refl refl refl)
      (record {
        count = old.count ∙ sym (ap length accepts_none);
        closing = sym shuts;
        waits = let was = old.waits in omega (arith, was, puts, takes, long);
        within = omega (arith, room, long);
        there = λ _. refl;
        own = old.own;
        renewed = old.renewed ∙ sym close_renews_none;
        before = subst (λ (x : List ℕ × List Record). All (λ m. m ≤ length x.1) x.0) (λ i. (sym close_renews_none i, sym accepts_none i)) old.before;
        stream = stream_ends old;
        in_force = in_force_more k.generation k.queue (put_by d.0 h) (put_by d.0 h2) entry.End old.in_force put_the_mark;
      })
      (λ t inside. kept_more holds.laws gens t d.0 h h2 k k2 entry.End refl refl refl put_the_mark old.in_force) holds

-- the mark of a renewal
module _ (gens : Generations) (h : History) (state : State) (d : ConnId) (k : ConnectionState) (at : slice_get state.connections d.0 ≡ Some k) (is_open : k.closed ≡ false) (room : length k.queue < 4096) where
  abbrev h4 : History
  h4 = h ++ (step.Renew d, Moved) ∷ []

  abbrev k4 : ConnectionState
  k4 = record k { renewals = k.renewals ++ k.accepted ∷ []; queue = k.queue ++ entry.Renew ∷ [] }

  renew_accepts_none : accepted_records d.0 h4 ≡ accepted_records d.0 h
  renew_accepts_none = accepted_push d.0 h (step.Renew d, Moved) ∙ append-nil (accepted_records d.0 h)

  renew_stays : closed d.0 h4 ≡ closed d.0 h
  renew_stays = closed_push d.0 h (step.Renew d, Moved) ∙ or_false (closed d.0 h)

  renews_it : renewals d.0 h4 ≡ renewals d.0 h ++ length (accepted_records d.0 h) ∷ []
  renews_it = renewals_push d.0 h (step.Renew d, Moved) ∙ ap (λ b. renewals d.0 h ++ (if b && true then length (accepted_records d.0 h) ∷ [] else [])) (same_as_itself d.0)

  put_the_renewal : put_by d.0 h4 ≡ put_by d.0 h ++ entry.Renew ∷ []
  put_the_renewal = put_push d.0 h (step.Renew d, Moved) ∙ ap (λ b. put_by d.0 h ++ ((if b && true then entry.Renew ∷ [] else []) ++ [])) (same_as_itself d.0)

  stream_renews : Holds gens h state → ConnHolds gens h d.0 (Some k) → AreEntriesOf (put_by d.0 h4) (accepted_in_force d.0 h4) (length (renewals d.0 h4)) (closed d.0 h4)
  stream_renews holds old =
      let ms = renewals d.0 h in
      let records = accepted_records d.0 h in
      let still = still_open gens h d.0 k old is_open in
      let longer : length (ms ++ length records ∷ []) ≡ suc (length ms) = let one = length-append ms (length records ∷ []) in omega (arith, one) in
      subst (λ (x : ((List ConnEntry × Bool) × (List (ℕ × Record) × ℕ))). AreEntriesOf x.0.0 x.1.0 x.1.1 x.0.1)
      (λ i. (
        (sym put_the_renewal i, sym (renew_stays ∙ still.shut) i),
        (sym ((λ j. beside (renews_it j) (renew_accepts_none j)) ∙ holds.laws.records.one_renewal ms records) i, sym (ap length renews_it ∙ longer) i),
      ))
      (renews still.was)

  pub renewed_holds : Holds gens h state → Holds gens h4 (record state { connections = slice_set state.connections d.0 k4 })
  renewed_holds holds =
      let old : ConnHolds gens h d.0 (Some k) = subst (ConnHolds gens h d.0) at (holds.conns d.0) in
      let puts : count_by (is_put d.0) h4 ≡ count_by (is_put d.0) h + 1 =
      count_push (is_put d.0) h (step.Renew d, Moved) ∙ ap (λ b. count_by (is_put d.0) h + (0 + cond (b && true) 1 0)) (same_as_itself d.0) in
      let takes : count_by (has_taken d.0) h4 ≡ count_by (has_taken d.0) h + 0 = count_push (has_taken d.0) h (step.Renew d, Moved) in
      let long : length (k.queue ++ entry.Renew ∷ []) ≡ length k.queue + 1 = length-append k.queue (entry.Renew ∷ []) in
      let count : k.accepted ≡ length (accepted_records d.0 h) = old.count in
      connection_goes gens h h4 state d.0 k k4 at
      (λ c differ. conn_untouched c h (step.Renew d) Moved refl refl refl (differs d.0 c differ))
      (λ t p. pipe_untouched t p h (step.Renew d) Moved refl refl refl)
      (record {
        count = old.count ∙ sym (ap length renew_accepts_none);
        closing = old.closing ∙ sym renew_stays;
        waits = let was = old.waits in omega (arith, was, puts, takes, long);
        within = omega (arith, room, long);
        there = λ _. refl;
        own = old.own;
        renewed = (λ i. old.renewed i ++ count i ∷ []) ∙ sym renews_it;
        before =
            let n = length (accepted_records d.0 h) in
            subst (λ (x : List ℕ × List Record). All (λ m. m ≤ length x.1) x.0) (λ i. (sym renews_it i, sym renew_accepts_none i))
            (All-append (λ m. m ≤ n) (renewals d.0 h) (n ∷ []) old.before (All-cons (λ m. m ≤ n) n [] (omega arith) (All-nil (λ m. m ≤ n))));
        stream = stream_renews holds old;
        in_force = in_force_more k.generation k.queue (put_by d.0 h) (put_by d.0 h4) entry.Renew old.in_force put_the_renewal;
      })
      (λ t inside. kept_more holds.laws gens t d.0 h h4 k k4 entry.Renew refl refl refl put_the_renewal old.in_force) holds

-- ---- an entry is taken

own_if : (c g n : ℕ) (event : Event) (b : Bool) (item : TenantItem) → cond b (Some (tenant.Event (stamped c g n event))) None ≡ Some item → conn_of_item item ≡ c
own_if c g n event true item e = ap (λ (o : Option TenantItem). unwrap_or (option_map conn_of_item o) c) (sym e)
own_if c g n event false item e = absurd (cc)

own_mark : (c : ℕ) (b : Bool) (item : TenantItem) → cond b (Some (tenant.End (conn_id c))) None ≡ Some item → conn_of_item item ≡ c
own_mark c true item e = ap (λ (o : Option TenantItem). unwrap_or (option_map conn_of_item o) c) (sym e)
own_mark c false item e = absurd (cc)

own_reading : (gens : Generations) (t c g n : ℕ) (r : Reading) (item : TenantItem) → forwarded_reading gens t c g n r ≡ Some item → conn_of_item item ≡ c
own_reading gens t c g n (reading.Event event) item e = own_if c g n event (is_listed (config_at gens g) t c event.project) item e
own_reading gens t c g n (reading.Nothing why) item e = absurd (cc)

-- what an entry sends is of its connection
own_entry : (gens : Generations) (t c g : ℕ) (e : ConnEntry) (item : TenantItem) → forwarded_entry gens t c g e ≡ Some item → conn_of_item item ≡ c
own_entry gens t c g (entry.Numbered n r) item is = own_reading gens t c g n (reading_of r) item is
own_entry gens t c g entry.Renew item is = absurd (cc)
own_entry gens t c g entry.End item is = own_mark c (lists gens.first t c) item is

own_cons : (c t : ℕ) (o : Option TenantItem) (rest : List (TenantId × TenantItem)) → ((item : TenantItem) → o ≡ Some item → conn_of_item item ≡ c) → AreOf c rest → AreOf c (cons_option (option_map (for_tenant t) o) rest)
own_cons c t None rest f own = own
own_cons c t (Some item) rest f own = (f item refl, own)

own_all : (gens : Generations) (c g : ℕ) (e : ConnEntry) (ts : List ℕ) → AreOf c (filter_map (λ t. option_map (for_tenant t) (forwarded_entry gens t c g e)) ts)
own_all gens c g e [] = tt
own_all gens c g e (t ∷ ts) = own_cons c t (forwarded_entry gens t c g e) (filter_map (λ u. option_map (for_tenant u) (forwarded_entry gens u c g e)) ts) (own_entry gens t c g e) (own_all gens c g e ts)

module _ (gens : Generations) (h : History) (state : State) (d : ConnId) (k : ConnectionState) (e : ConnEntry) (queue : List ConnEntry) (at : slice_get state.connections d.0 ≡ Some k) (empty : k.unsent ≡ []) (front : k.queue ≡ e ∷ queue) where
  abbrev h3 : History
  h3 = h ++ (step.Take d, Moved) ∷ []

  abbrev k3 : ConnectionState
  k3 = record k { queue = queue; generation = behind k.generation e; unsent = sends gens d.0 k.generation e }

  taken_accepts : accepted_records d.0 h3 ≡ accepted_records d.0 h
  taken_accepts = accepted_push d.0 h (step.Take d, Moved) ∙ append-nil (accepted_records d.0 h)

  taken_closes : closed d.0 h3 ≡ closed d.0 h
  taken_closes = closed_push d.0 h (step.Take d, Moved) ∙ or_false (closed d.0 h)

  taken_renews : renewals d.0 h3 ≡ renewals d.0 h
  taken_renews = renewals_stay d.0 h (step.Take d, Moved) refl

  taken_puts : put_by d.0 h3 ≡ put_by d.0 h
  taken_puts = put_stays d.0 h (step.Take d, Moved) refl refl refl

  kept_taken : Laws → (t : ℕ) → t < length (tenants_of gens.first) → (rest : List TenantItem) → Kept gens t d.0 h (Some k) rest → Kept gens t d.0 h3 (Some k3) rest
  kept_taken laws t inside rest kept =
      ap (λ xs. rest ++ (xs ++ on_way gens t d.0 (behind k.generation e) queue)) (laws.gets.of_entry gens t d.0 k.generation e inside)
      ∙ ap (λ xs. rest ++ xs) (sym (cons_option_is (forwarded_entry gens t d.0 k.generation e) (on_way gens t d.0 (behind k.generation e) queue)))
      ∙ sym (λ i. rest ++ (items_to t (empty i) ++ on_way gens t d.0 k.generation (front i)))
      ∙ kept
      ∙ ap (forwarded gens t d.0) (sym taken_puts)

  pub taken_holds : Holds gens h state → Holds gens h3 (record state { connections = slice_set state.connections d.0 k3 })
  taken_holds holds =
      let old : ConnHolds gens h d.0 (Some k) = subst (ConnHolds gens h d.0) at (holds.conns d.0) in
      let puts : count_by (is_put d.0) h3 ≡ count_by (is_put d.0) h + 0 = count_push (is_put d.0) h (step.Take d, Moved) in
      let takes : count_by (has_taken d.0) h3 ≡ count_by (has_taken d.0) h + 1 =
      count_push (has_taken d.0) h (step.Take d, Moved) ∙ ap (λ b. count_by (has_taken d.0) h + (0 + cond (b && true) 1 0)) (same_as_itself d.0) in
      let long : length k.queue ≡ suc (length queue) = ap length front in
      let was = old.waits in
      let short = old.within in
      connection_goes gens h h3 state d.0 k k3 at
      (λ c differ. conn_untouched c h (step.Take d) Moved refl refl (differs d.0 c differ) refl)
      (λ t p. pipe_untouched t p h (step.Take d) Moved refl refl refl)
      (record {
        count = old.count ∙ sym (ap length taken_accepts);
        closing = old.closing ∙ sym taken_closes;
        waits = omega (arith, was, puts, takes, long);
        within = omega (arith, short, long);
        there = λ _. refl;
        own = own_all gens d.0 k.generation e (range_with_len 0 (length (tenants_of gens.first)));
        renewed = old.renewed ∙ sym taken_renews;
        before = subst (λ (x : List ℕ × List Record). All (λ m. m ≤ length x.1) x.0) (λ i. (sym taken_renews i, sym taken_accepts i)) old.before;
        stream = subst (λ (x : ((List ConnEntry × Bool) × (List ℕ × List Record))). AreEntriesOf x.0.0 (beside x.1.0 x.1.1) (length x.1.0) x.0.1)
            (λ i. ((sym taken_puts i, sym taken_closes i), (sym taken_renews i, sym taken_accepts i))) old.stream;
        in_force = sym (ap (generation_behind k.generation) front) ∙ old.in_force ∙ ap (generation_behind 0) (sym taken_puts);
      })
      (kept_taken holds.laws) holds
