-- What the steps of a tenant's worker keep.
use Rattle.std.proofs.Common.{◌≡◌, ◌∙◌, refl, sym, ap, subst, ℕ, suc, ◌+◌, ◌-◌, ◌<◌, ◌≤◌, ◌==◌, arith, List, [], ◌∷◌, ◌++◌, Bool, true, false, length, map, Option, Some, None, if◌then◌else◌}
use Rattle.std.specs.List.{cons_option}
use Rattle.std.specs.Option.{option_to_list}
use Rattle.std.proofs.lemmas.List.Elements.{filter_map-append}
use Rattle.gate_record.specs.declared.ids.PipelineId.{PipelineId}
use Rattle.gate_record.specs.declared.transit.PipelineItem.{PipelineItem}
use Rattle.gate_record.specs.declared.transit.TenantItem.{TenantItem}
use Rattle.gate_record.specs.Outboxes.{moved_out, put_back}
use Rattle.gate_record.proofs.Outboxes.{is_out}
use Rattle.gate_config.specs.declared.generations.Generations.{Generations}
use Rattle.gate_config.specs.Lookups.{pipelines_of}
use Rattle.gate_tenant.specs.declared.dispatch.Dispatch.{Dispatch}
use Rattle.gate_tenant.specs.Limits.{most_gathered}
use Rattle.gate_tenant.specs.Dispatching.{chosen, pipeline_id}
use Rattle.gate_tenant.specs.Histories.{EachGetsItsOwn, NothingIsLost, beginning, begins, comes_back, gathers, gives, item_for, items_for, matches, moves}
use Rattle.gate_tenant.specs.States.{State, first_state, gens_of, has_ended, matched, room_of, state_of, tenant_of}
use Rattle.gate_queue.specs.declared.tagged.Tagged.{Tagged}
use Rattle.gate_queue.specs.Seats.{IsHeadOf, SenderSeat, Shape, TakerSeat}
use Rattle.gate_run_stages.specs.TenantWorkers.{GivenInOrder, HasDispatched}
use Rattle.gate_run_stages.specs.Inner.Stages.{ArePut, with_sent}
use Rattle.gate_run_stages.specs.Inner.TenantWorkers.{HasGiven, HasOut}
use Rattle.gate_run_threads.specs.Seats.{fresh_head, fresh_tail, values, seat_in, seat_of}
use Rattle.gate_run_threads.proofs.Seated.{fresh_put, fresh_seats, values_more}

module _ {gens : Generations} {t : ℕ} {d : Dispatch} {head : TakerSeat TenantItem} {given : ℕ → List PipelineItem} (was : HasGiven gens t d head given)
    (d' : Dispatch) (head' : TakerSeat TenantItem) (conf : gens_of d' ≡ gens_of d) (tenant : tenant_of d' ≡ tenant_of d) where
  -- nothing changed
  pub still : state_of d' ≡ state_of d → head'.taken ≡ head.taken → HasGiven gens t d' head' given
  still state taken = record {
    by_gens = conf ∙ was.by_gens;
    of_tenant = tenant ∙ was.of_tenant;
    past = was.past;
    happens = was.happens;
    now = was.now ∙ sym state;
    none_out = was.none_out;
    gathered = was.gathered ∙ ap values (sym taken);
    to_each = was.to_each;
  }

  -- an item was taken and gathered
  pub gathered_one : (x : Tagged TenantItem) → head'.taken ≡ head.taken ++ x ∷ [] → 0 < room_of (state_of d) → has_ended (gens_of d).first (tenant_of d) (state_of d) ≡ false →
      state_of d' ≡ record (state_of d) { gathered = (state_of d).gathered ++ x.value ∷ [] } → HasGiven gens t d' head' given
  gathered_one x more room goes_on state = record {
    by_gens = conf ∙ was.by_gens;
    of_tenant = tenant ∙ was.of_tenant;
    past = record was.past { state = record was.past.state { gathered = was.past.state.gathered ++ x.value ∷ [] }; taken = was.past.taken ++ x.value ∷ [] };
    happens = gathers x.value was.happens was.none_out (subst (λ (s : State). 0 < room_of s) (sym was.now) room)
        (ap (has_ended gens.first t) was.now ∙ (λ i. has_ended (sym was.by_gens i).first (sym was.of_tenant i) (state_of d)) ∙ goes_on);
    now = ap (λ (s : State). record s { gathered = s.gathered ++ x.value ∷ [] }) was.now ∙ sym state;
    none_out = was.none_out;
    gathered = ap (λ zs. zs ++ x.value ∷ []) was.gathered ∙ sym (values_more head.taken x) ∙ ap values (sym more);
    to_each = was.to_each;
  }

  -- what was gathered was matched
  pub matched_all : head'.taken ≡ head.taken → (length (state_of d).gathered == 0) ≡ false → state_of d' ≡ matched (gens_of d) (tenant_of d) (state_of d) → HasGiven gens t d' head' given
  matched_all taken some state = record {
    by_gens = conf ∙ was.by_gens;
    of_tenant = tenant ∙ was.of_tenant;
    past = record was.past { state = matched gens t was.past.state; done = was.past.done ++ was.past.state.gathered };
    happens = matches was.happens (ap (λ (s : State). length s.gathered == 0) was.now ∙ some);
    now = (λ i. matched (sym was.by_gens i) (sym was.of_tenant i) (was.now i)) ∙ sym state;
    none_out = was.none_out;
    gathered = was.gathered ∙ ap values (sym taken);
    to_each = was.to_each;
  }

  -- the first item was moved out
  pub moved : (pipeline : PipelineId) (item : PipelineItem) → ((state_of d').outbox, Some (pipeline, item)) ≡ moved_out (state_of d).outbox.items (state_of d).outbox →
      state_of d' ≡ record (state_of d) { outbox = (state_of d').outbox } → head'.taken ≡ head.taken → HasOut gens t d' head' given pipeline.0 item
  moved pipeline item goes rest taken =
      let out = is_out (state_of d).outbox (state_of d').outbox (pipeline, item) goes in
      let left = (state_of d').outbox.items in
      record {
        by_gens = conf ∙ was.by_gens;
        of_tenant = tenant ∙ was.of_tenant;
        past = record was.past { state = record was.past.state { outbox = record { items = left; out = Some pipeline } }; out = Some (pipeline, item) };
        happens = moves was.happens was.none_out (ap (λ (s : State). s.outbox.items) was.now ∙ out.items);
        now = ap (λ (s : State). record s { outbox = record { items = left; out = Some pipeline } }) was.now
            ∙ ap (λ (o : Option PipelineId). record (state_of d) { outbox = record { items = left; out = o } }) (sym out.out) ∙ sym rest;
        out = refl;
        receiver = out.out;
        gathered = was.gathered ∙ ap values (sym taken);
        to_each = was.to_each;
      }

-- there is room for one less
pub room_left : (s : State) (x : TenantItem) (n m : ℕ) → n + 1 ≡ m → m ≤ room_of s → n ≤ room_of (record s { gathered = s.gathered ++ x ∷ [] })
room_left s x n m one most = by (length s.outbox.items == 0) most
  where
    longer : (xs : List TenantItem) → length (xs ++ x ∷ []) ≡ length xs + 1
    longer [] = refl
    longer (y ∷ xs) = ap suc (longer xs) ∙ omega arith

    by : (b : Bool) → m ≤ (if b then most_gathered - length s.gathered else 0) → n ≤ (if b then most_gathered - length (s.gathered ++ x ∷ []) else 0)
    by true h = omega (arith, one, h, longer s.gathered)
    by false h = omega (arith, one, h)

for_one : (p u : ℕ) (item : PipelineItem) → items_for p ((pipeline_id u, item) ∷ []) ≡ (if u == p then item ∷ [] else [])
for_one p u item = by (u == p) refl
  where
    by : (b : Bool) → (u == p) ≡ b → items_for p ((pipeline_id u, item) ∷ []) ≡ (if b then item ∷ [] else [])
    by true e = ap (λ b. cons_option (if b then Some item else None) []) e
    by false e = ap (λ b. cons_option (if b then Some item else None) []) e

module _ {gens : Generations} {t : ℕ} {d : Dispatch} {head : TakerSeat TenantItem} {given : ℕ → List PipelineItem} {number : ℕ} {item : PipelineItem}
    (was : HasOut gens t d head given number item) (d' : Dispatch) (conf : gens_of d' ≡ gens_of d) (tenant : tenant_of d' ≡ tenant_of d) where
  -- the item was given
  pub given_one : state_of d' ≡ record (state_of d) { outbox = record (state_of d).outbox { out = None } } → HasGiven gens t d' head (with_sent number item given)
  given_one state = record {
    by_gens = conf ∙ was.by_gens;
    of_tenant = tenant ∙ was.of_tenant;
    past = record was.past { state = record was.past.state { outbox = record was.past.state.outbox { out = None } }; given = was.past.given ++ (pipeline_id number, item) ∷ []; out = None };
    happens = gives was.happens was.out;
    now = ap (λ (s : State). record s { outbox = record s.outbox { out = None } }) was.now ∙ sym state;
    none_out = refl;
    gathered = was.gathered;
    to_each = λ p.
        ap (λ zs. zs ++ (if number == p then item ∷ [] else [])) (was.to_each p)
        ∙ ap (λ zs. items_for p was.past.given ++ zs) (sym (for_one p number item))
        ∙ sym (filter_map-append (item_for p) was.past.given ((pipeline_id number, item) ∷ []));
  }

  -- the item came back
  pub back : state_of d' ≡ record (state_of d) { outbox = put_back item (state_of d).outbox.out (state_of d).outbox } → HasGiven gens t d' head given
  back state = record {
    by_gens = conf ∙ was.by_gens;
    of_tenant = tenant ∙ was.of_tenant;
    past = record was.past { state = record was.past.state { outbox = put_back item (Some (pipeline_id number)) was.past.state.outbox }; out = None };
    happens = comes_back was.happens was.out;
    now = ap (λ (s : State). record s { outbox = put_back item (Some (pipeline_id number)) s.outbox }) was.now
        ∙ ap (λ (o : Option PipelineId). record (state_of d) { outbox = put_back item o (state_of d).outbox }) (sym was.receiver) ∙ sym state;
    none_out = refl;
    gathered = was.gathered;
    to_each = was.to_each;
  }

-- ---- the whole of a tenant's worker

-- nothing was taken yet
pub gives_nothing : {gens : Generations} {t : ℕ} (d : Dispatch) (head : TakerSeat TenantItem) (source : Shape) → gens_of d ≡ gens → tenant_of d ≡ t → state_of d ≡ first_state gens.first t → head ≡ fresh_head source →
    HasGiven (gens_of d) (tenant_of d) d head (λ number. [])
gives_nothing d head source conf tenant state fresh = record {
  by_gens = refl;
  of_tenant = refl;
  past = beginning (gens_of d).first (tenant_of d);
  happens = begins;
  now = (λ i. first_state (conf i).first (tenant i)) ∙ sym state;
  none_out = refl;
  gathered = ap (λ (h : TakerSeat TenantItem). values h.taken) (sym fresh);
  to_each = λ p. refl;
}

-- it never began: nothing was taken or put
pub not_dispatched : (gens : Generations) (t : ℕ) (source : Shape) (targets : List Shape) (head : TakerSeat TenantItem) (tails : List (SenderSeat PipelineItem)) → head ≡ fresh_head source → tails ≡ map (fresh_tail 0) targets →
    HasDispatched gens t source targets head tails
not_dispatched gens t source targets head tails not_taken not_put = record {
  head_of = ap (λ (h : TakerSeat TenantItem). h.queue) not_taken;
  seats = fresh_seats 0 tails targets not_put;
  given = record {
    matched = [];
    unmatched = [];
    took = ap (λ (h : TakerSeat TenantItem). values h.taken) (sym not_taken);
    put = λ p d low. (chosen gens t p [], ap (λ zs. zs ++ chosen gens t p []) (fresh_put 0 tails targets not_put p d low));
  };
}

-- what was put for each pipeline is a prefix of what that pipeline gets
all_in_order : {gens : Generations} {t : ℕ} {d : Dispatch} {head : TakerSeat TenantItem} {given : ℕ → List PipelineItem} (tails : List (SenderSeat PipelineItem)) →
    EachGetsItsOwn → NothingIsLost → length tails ≡ length (pipelines_of gens.first t) → HasGiven gens t d head given → ArePut tails given → GivenInOrder gens t head.taken tails
all_in_order {gens} {t} {d} {head} {given} tails own nothing_lost pipelines was put = record {
  matched = was.past.done;
  unmatched = was.past.state.gathered;
  took = nothing_lost gens t was.past was.happens ∙ was.gathered;
  put = λ p e low.
      let left = items_for p (option_to_list was.past.out ++ was.past.state.outbox.items) in (
        left,
        ap (λ zs. zs ++ left) (put p e low ∙ was.to_each p)
            ∙ sym (filter_map-append (item_for p) was.past.given (option_to_list was.past.out ++ was.past.state.outbox.items))
            ∙ own gens t p was.past (subst (λ n. p < n) pipelines low) was.happens,
      );
}

-- it has ended
pub has_dispatched : {gens : Generations} {t : ℕ} {d : Dispatch} {head : TakerSeat TenantItem} {given : ℕ → List PipelineItem} (first : Dispatch) (source : Shape) (targets : List Shape) (tails : List (SenderSeat PipelineItem)) →
    EachGetsItsOwn → NothingIsLost → length targets ≡ length (pipelines_of gens.first t) → length tails ≡ length targets → gens_of first ≡ gens → tenant_of first ≡ t → IsHeadOf source head →
    map seat_of tails ≡ map (seat_in 0) targets → HasGiven (gens_of first) (tenant_of first) d head given → ArePut tails given → HasDispatched gens t source targets head tails
has_dispatched {gens} {t} {d} {head} {given} first source targets tails own nothing_lost pipelines many conf tenant of seats was put = record {
  head_of = of;
  seats = seats;
  given = all_in_order tails own nothing_lost (many ∙ pipelines) (subst (λ g. HasGiven g t d head given) conf (subst (λ n. HasGiven (gens_of first) n d head given) tenant was)) put;
}
