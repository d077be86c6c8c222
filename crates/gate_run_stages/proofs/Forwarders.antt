-- What the steps of a forwarder keep.
use Rattle.std.proofs.Common.{◌≡◌, ◌∙◌, refl, sym, ap, subst, ℕ, suc, ◌<◌, ◌==◌, List, [], ◌∷◌, ◌++◌, Bool, true, false, length, map, slice_index_or, Option, Some, None, if◌then◌else◌, append_assoc, append-nil}
use Rattle.std.specs.List.{cons_option, filter_map}
use Rattle.std.specs.Option.{option_to_list}
use Rattle.std.proofs.lemmas.List.Elements.{filter_map-append}
use Rattle.gate_record.specs.declared.ids.TenantId.{TenantId}
use Rattle.gate_record.specs.declared.transit.ConnEntry.{ConnEntry}
use Rattle.gate_record.specs.declared.transit.ConnEntry.TheVariants as entry
use Rattle.gate_record.specs.declared.transit.TenantItem.{TenantItem}
use Rattle.gate_record.specs.Entries.{generation_behind, with_generations}
use Rattle.gate_record.specs.Generations.{EntriesHaveGenerations}
use Rattle.gate_record.specs.Outboxes.{Unsent, moved_out, put_back}
use Rattle.gate_record.proofs.Outboxes.{is_out}
use Rattle.gate_config.specs.declared.generations.Generations.{Generations}
use Rattle.gate_config.specs.Generations.{count_of}
use Rattle.gate_config.specs.Lookups.{tenants_of}
use Rattle.gate_forward.specs.declared.forward.Forward.{Forward}
use Rattle.gate_forward.specs.Forwarding.{forwarded, forwarded_at, tenant_id}
use Rattle.gate_forward.specs.Histories.{EachTenantGetsItsOwn, Happens, beginning, begins, comes_back, ends, is_sent, item_to, items_to, loads, moves, renews}
use Rattle.gate_forward.specs.States.{State, conn_of, first_state, gens_of, state_of}
use Rattle.gate_queue.specs.declared.tagged.Tagged.{Tagged}
use Rattle.gate_queue.specs.Seats.{IsHeadOf, SenderSeat, Shape, TakerSeat}
use Rattle.gate_run_stages.specs.Forwarders.{HasForwarded, PutInOrder}
use Rattle.gate_run_stages.specs.Inner.Forwarders.{HasGeneration, HasOut, HasSent, after}
use Rattle.gate_run_stages.specs.Inner.Stages.{ArePut, with_sent}
use Rattle.gate_run_threads.specs.Seats.{fresh_head, fresh_tail, values, seat_in, seat_of}
use Rattle.gate_run_threads.proofs.Seated.{fresh_put, fresh_seats, taken_more}

abbrev Outbox : Type 0
Outbox = Unsent TenantId TenantItem

module _ {gens : Generations} {c : ℕ} {forward : Forward} {kept : Option ConnEntry} {head : TakerSeat ConnEntry} {sent : ℕ → List TenantItem} (was : HasSent gens c forward kept head sent)
    (forward' : Forward) (conf : gens_of forward' ≡ gens_of forward) (conn : conn_of forward' ≡ conn_of forward) where
  -- nothing more was loaded or sent
  loaded_alike : (kept' : Option ConnEntry) (head' : TakerSeat ConnEntry) → state_of forward' ≡ state_of forward → was.past.loaded ++ option_to_list kept' ≡ values head'.taken → HasSent gens c forward' kept' head' sent
  loaded_alike kept' head' state all = record {
    by_gens = conf ∙ was.by_gens;
    of_conn = conn ∙ was.of_conn;
    past = was.past;
    happens = was.happens;
    now = was.now ∙ sym state;
    none_out = was.none_out;
    loaded = all;
    to_each = was.to_each;
  }

  -- nothing changed
  pub still : (kept' : Option ConnEntry) (head' : TakerSeat ConnEntry) → state_of forward' ≡ state_of forward → kept' ≡ kept → head'.taken ≡ head.taken → HasSent gens c forward' kept' head' sent
  still kept' head' state keeps taken = loaded_alike kept' head' state (ap (λ (o : Option ConnEntry). was.past.loaded ++ option_to_list o) keeps ∙ was.loaded ∙ ap values (sym taken))

  -- the first item was moved out
  pub moved : (tenant : TenantId) (item : TenantItem) → ((state_of forward').outbox, Some (tenant, item)) ≡ moved_out (state_of forward).outbox.items (state_of forward).outbox →
      state_of forward' ≡ record (state_of forward) { outbox = (state_of forward').outbox } → HasOut gens c forward' kept head sent tenant.0 item
  moved tenant item goes rest =
      let out = is_out (state_of forward).outbox (state_of forward').outbox (tenant, item) goes in
      let left = (state_of forward').outbox.items in
      record {
        by_gens = conf ∙ was.by_gens;
        of_conn = conn ∙ was.of_conn;
        past = record was.past { state = record was.past.state { outbox = record { items = left; out = Some tenant } }; out = Some (tenant, item) };
        happens = moves was.happens was.none_out (ap (λ (s : State). s.outbox.items) was.now ∙ out.items);
        now = ap (λ (s : State). record s { outbox = record { items = left; out = Some tenant } }) was.now
            ∙ ap (λ (o : Option TenantId). record (state_of forward) { outbox = record { items = left; out = o } }) (sym out.out) ∙ sym rest;
        out = refl;
        receiver = out.out;
        loaded = was.loaded;
        to_each = was.to_each;
      }

  module _ (head' : TakerSeat ConnEntry) (x : Tagged ConnEntry) (free : kept ≡ None) (more : head'.taken ≡ head.taken ++ x ∷ []) where
    -- an entry was taken and is kept
    pub kept_one : (e : ConnEntry) → x.value ≡ e → state_of forward' ≡ state_of forward → HasSent gens c forward' (Some e) head' sent
    kept_one e is state = loaded_alike (Some e) head' state (taken_more was.past.loaded kept head.taken head'.taken x e was.loaded free is more)

    module _ (empty : (state_of forward).outbox.items ≡ []) where
      none_left : was.past.state.outbox.items ≡ []
      none_left = ap (λ (s : State). s.outbox.items) was.now ∙ empty

      -- the history after an entry was taken and loaded
      with_loaded : (e : ConnEntry) → x.value ≡ e → state_of forward' ≡ after (gens_of forward) (conn_of forward) e (state_of forward) →
          Happens gens c (record was.past { state = after gens c e was.past.state; loaded = was.past.loaded ++ e ∷ [] }) → HasSent gens c forward' kept head' sent
      with_loaded e is state happens = record {
        by_gens = conf ∙ was.by_gens;
        of_conn = conn ∙ was.of_conn;
        past = record was.past { state = after gens c e was.past.state; loaded = was.past.loaded ++ e ∷ [] };
        happens = happens;
        now = (λ i. after (sym was.by_gens i) (sym was.of_conn i) e (was.now i)) ∙ sym state;
        none_out = was.none_out;
        loaded = ap (λ (o : Option ConnEntry). (was.past.loaded ++ e ∷ []) ++ option_to_list o) free ∙ append-nil (was.past.loaded ++ e ∷ []) ∙ taken_more was.past.loaded kept head.taken head'.taken x e was.loaded free is more;
        to_each = was.to_each;
      }

      -- an entry was taken and loaded
      pub loaded_one : (e : ConnEntry) → x.value ≡ e → state_of forward' ≡ after (gens_of forward) (conn_of forward) e (state_of forward) → HasGeneration (gens_of forward) e (state_of forward) → HasSent gens c forward' kept head' sent
      loaded_one (entry.Numbered n line) is state later = with_loaded (entry.Numbered n line) is state (loads n line was.happens none_left was.none_out)
      loaded_one entry.End is state later = with_loaded entry.End is state (ends was.happens none_left was.none_out)
      loaded_one entry.Renew is state later =
          with_loaded entry.Renew is state (renews was.happens none_left was.none_out (subst (λ (s : State). suc s.generation < count_of gens) (sym was.now) (subst (λ of. suc (state_of forward).generation < count_of of) was.by_gens later)))

to_one : (t u : ℕ) (item : TenantItem) → items_to t ((tenant_id u, item) ∷ []) ≡ (if u == t then item ∷ [] else [])
to_one t u item = by (u == t) refl
  where
    by : (b : Bool) → (u == t) ≡ b → items_to t ((tenant_id u, item) ∷ []) ≡ (if b then item ∷ [] else [])
    by true e = ap (λ b. cons_option (if b then Some item else None) []) e
    by false e = ap (λ b. cons_option (if b then Some item else None) []) e

module _ {gens : Generations} {c : ℕ} {forward : Forward} {kept : Option ConnEntry} {head : TakerSeat ConnEntry} {sent : ℕ → List TenantItem} {number : ℕ} {item : TenantItem}
    (was : HasOut gens c forward kept head sent number item) (forward' : Forward) (conf : gens_of forward' ≡ gens_of forward) (conn : conn_of forward' ≡ conn_of forward) where
  -- the item was sent
  pub sent_one : state_of forward' ≡ record (state_of forward) { outbox = record (state_of forward).outbox { out = None } } → HasSent gens c forward' kept head (with_sent number item sent)
  sent_one state = record {
    by_gens = conf ∙ was.by_gens;
    of_conn = conn ∙ was.of_conn;
    past = record was.past { state = record was.past.state { outbox = record was.past.state.outbox { out = None } }; sent = was.past.sent ++ (tenant_id number, item) ∷ []; out = None };
    happens = is_sent was.happens was.out;
    now = ap (λ (s : State). record s { outbox = record s.outbox { out = None } }) was.now ∙ sym state;
    none_out = refl;
    loaded = was.loaded;
    to_each = λ t.
        ap (λ zs. zs ++ (if number == t then item ∷ [] else [])) (was.to_each t)
        ∙ ap (λ zs. items_to t was.past.sent ++ zs) (sym (to_one t number item))
        ∙ sym (filter_map-append (item_to t) was.past.sent ((tenant_id number, item) ∷ []));
  }

  -- the item came back
  pub back : state_of forward' ≡ record (state_of forward) { outbox = put_back item (state_of forward).outbox.out (state_of forward).outbox } → HasSent gens c forward' kept head sent
  back state = record {
    by_gens = conf ∙ was.by_gens;
    of_conn = conn ∙ was.of_conn;
    past = record was.past { state = record was.past.state { outbox = put_back item (Some (tenant_id number)) was.past.state.outbox }; out = None };
    happens = comes_back was.happens was.out;
    now = ap (λ (s : State). record s { outbox = put_back item (Some (tenant_id number)) s.outbox }) was.now
        ∙ ap (λ (o : Option TenantId). record (state_of forward) { outbox = put_back item o (state_of forward).outbox }) (sym was.receiver) ∙ sym state;
    none_out = refl;
    loaded = was.loaded;
    to_each = was.to_each;
  }

-- ---- the whole of a forwarder

-- nothing was taken yet
pub sends_nothing : (forward : Forward) (head : TakerSeat ConnEntry) (source : Shape) → state_of forward ≡ first_state → head ≡ fresh_head source →
    HasSent (gens_of forward) (conn_of forward) forward None head (λ number. [])
sends_nothing forward head source state fresh = record {
  by_gens = refl;
  of_conn = refl;
  past = beginning;
  happens = begins;
  now = sym state;
  none_out = refl;
  loaded = ap (λ (h : TakerSeat ConnEntry). values h.taken) (sym fresh);
  to_each = λ t. refl;
}

forwarded_more : EntriesHaveGenerations → (gens : Generations) (t c : ℕ) (loaded more : List ConnEntry) →
    forwarded gens t c (loaded ++ more) ≡ forwarded gens t c loaded ++ filter_map (forwarded_at gens t c) (with_generations (generation_behind 0 loaded) more)
forwarded_more law gens t c loaded more =
    ap (filter_map (forwarded_at gens t c)) (law.joined 0 loaded more)
    ∙ filter_map-append (forwarded_at gens t c) (with_generations 0 loaded) (with_generations (generation_behind 0 loaded) more)

-- what was put for each tenant is a prefix of what that tenant gets
all_in_order : {gens : Generations} {c : ℕ} {forward : Forward} {kept : Option ConnEntry} {head : TakerSeat ConnEntry} {sent : ℕ → List TenantItem} (tails : List (SenderSeat TenantItem)) →
    EachTenantGetsItsOwn → EntriesHaveGenerations → length tails ≡ length (tenants_of gens.first) → HasSent gens c forward kept head sent → ArePut tails sent → PutInOrder gens c head.taken tails
all_in_order {gens} {c} {forward} {kept} {head} {sent} tails law entries tenants was put t d low =
    let low' : t < length (tenants_of gens.first) = subst (λ n. t < n) tenants low in
    let left = items_to t (option_to_list was.past.out ++ was.past.state.outbox.items) in
    let after = filter_map (forwarded_at gens t c) (with_generations (generation_behind 0 was.past.loaded) (option_to_list kept)) in (
      left ++ after,
      sym (append_assoc (slice_index_or tails t d).put left after)
          ∙ ap (λ zs. zs ++ after) (
          ap (λ zs. zs ++ left) (put t d low ∙ was.to_each t)
          ∙ sym (filter_map-append (item_to t) was.past.sent (option_to_list was.past.out ++ was.past.state.outbox.items))
          ∙ law.own gens t c was.past low' was.happens)
          ∙ sym (forwarded_more entries gens t c was.past.loaded (option_to_list kept))
          ∙ ap (forwarded gens t c) was.loaded,
    )

-- it never began: nothing was taken or put
pub not_forwarded : (gens : Generations) (c : ℕ) (source : Shape) (targets : List Shape) (head : TakerSeat ConnEntry) (tails : List (SenderSeat TenantItem)) → head ≡ fresh_head source → tails ≡ map (fresh_tail c) targets →
    HasForwarded gens c source targets head tails
not_forwarded gens c source targets head tails not_taken not_put = record {
  head_of = ap (λ (h : TakerSeat ConnEntry). h.queue) not_taken;
  seats = fresh_seats c tails targets not_put;
  put = λ t d low. let all = forwarded gens t c (values head.taken) in (all, ap (λ zs. zs ++ all) (fresh_put c tails targets not_put t d low));
}

-- it has ended
pub has_forwarded : {gens : Generations} {c : ℕ} {forward : Forward} {kept : Option ConnEntry} {head : TakerSeat ConnEntry} {sent : ℕ → List TenantItem} (first : Forward) (source : Shape) (targets : List Shape) (tails : List (SenderSeat TenantItem)) →
    EachTenantGetsItsOwn → EntriesHaveGenerations → length targets ≡ length (tenants_of gens.first) → length tails ≡ length targets → gens_of first ≡ gens → conn_of first ≡ c → IsHeadOf source head →
    map seat_of tails ≡ map (seat_in c) targets → HasSent (gens_of first) (conn_of first) forward kept head sent → ArePut tails sent → HasForwarded gens c source targets head tails
has_forwarded {gens} {c} {forward} {kept} {head} {sent} first source targets tails law entries tenants many conf conn of seats was put = record {
  head_of = of;
  seats = seats;
  put = all_in_order tails law entries (many ∙ tenants) (subst (λ g. HasSent g c forward kept head sent) conf (subst (λ n. HasSent (gens_of first) n forward kept head sent) conn was)) put;
}
