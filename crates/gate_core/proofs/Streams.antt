-- What holds of the state of a world with any number of connections, tenants and pipelines, after any history.
use Rattle.std.proofs.Common.{◌≡◌, ◌∙◌, refl, sym, ap, subst, ℕ, ◌+◌, ◌<◌, ◌≤◌, List, [], ◌∷◌, ◌++◌, Bool, true, false, length, Option, Some, None, cond, add-zero, append-nil}
use Rattle.std.specs.Prelude.{◌&&◌, ◌||◌, slice_get, count_by, is_some}
use Rattle.std.specs.Option.{option_to_list}
use Rattle.std.specs.List.{All, filter, filter_map}
use Rattle.gate_record.specs.declared.ids.PipelineId.{PipelineId}
use Rattle.gate_record.specs.declared.ids.TenantId.{TenantId}
use Rattle.gate_record.specs.declared.record.Record.{Record}
use Rattle.gate_record.specs.declared.transit.ConnEntry.{ConnEntry}
use Rattle.gate_record.specs.declared.transit.TenantItem.{TenantItem}
use Rattle.gate_record.specs.declared.transit.PipelineItem.{PipelineItem}
use Rattle.gate_config.specs.declared.config.Config.{Config}
use Rattle.gate_config.specs.declared.generations.Generations.{Generations}
use Rattle.gate_config.specs.Lookups.{connections_of, pipelines_of, tenants_of}
use Rattle.gate_forward.specs.Forwarding.{forwarded, forwarded_at}
use Rattle.gate_forward.specs.Histories.{items_to}
use Rattle.gate_tenant.specs.Histories.{History as Past, Happens}
use Rattle.gate_core.specs.declared.pipeline.Pipeline.{Pipeline}
use Rattle.gate_core.specs.declared.answer.Answer.{Answer}
use Rattle.gate_core.specs.declared.step.Step.{Step}
use Rattle.gate_core.specs.declared.step.Step.TheVariants as step
use Rattle.gate_core.specs.History.{History, accepted_records, finished, closed, manage_posts, posted_manage, posted_result, result_posts, processed_by, is_put, has_taken, is_turn, is_close, is_take, is_offer, is_renew, is_moved, is_accepted, offered_to, processed_of, accepted_in_force, renewals}
use Rattle.gate_core.specs.States.{ConnectionState, TenantState, State}
use Rattle.gate_tenant.specs.Dispatching.{conn_of_item, is_from}
use Rattle.gate_record.specs.Entries.{AreEntriesOf, beside, generation_behind, with_generations}
use Rattle.gate_core.proofs.LowerLaws.{Laws}
use Rattle.gate_core.proofs.Puts.{put_by, put_stays, renewals_stay}
use Rattle.gate_core.proofs.Fits.{PipeFits, fits_same}
use Rattle.gate_core.proofs.Pushes.{accepted_push, closed_push, cond_none, count_push, ended_push, finished_push, managed_push, or_false, turned_push}

-- ---- connections

abbrev pub queue_of : Option ConnectionState → List ConnEntry
queue_of None = []
queue_of (Some conn) = conn.queue

abbrev pub unsent_of : Option ConnectionState → List (TenantId × TenantItem)
unsent_of None = []
unsent_of (Some conn) = conn.unsent

abbrev pub count_of : Option ConnectionState → ℕ
count_of None = 0
count_of (Some conn) = conn.accepted

abbrev pub closed_of : Option ConnectionState → Bool
closed_of None = false
closed_of (Some conn) = conn.closed

abbrev pub renewals_of : Option ConnectionState → List ℕ
renewals_of None = []
renewals_of (Some conn) = conn.renewals

abbrev pub generation_of : Option ConnectionState → ℕ
generation_of None = 0
generation_of (Some conn) = conn.generation

-- all items are of this connection
abbrev pub AreOf : ℕ → List (TenantId × TenantItem) → Type 0
AreOf c [] = Unit {0}
AreOf c (item ∷ items) = (conn_of_item item.1 ≡ c) × AreOf c items

pub record ConnHolds (gens : Generations) (h : History) (c : ℕ) (o : Option ConnectionState) : Type 0 where
  pub count : count_of o ≡ length (accepted_records c h)
  pub closing : closed_of o ≡ closed c h
  pub waits : length (queue_of o) + count_by (has_taken c) h ≡ count_by (is_put c) h
  pub within : length (queue_of o) ≤ 4096
  pub there : c < length (connections_of gens.first) → is_some o ≡ true
  pub own : AreOf c (unsent_of o)
  pub renewed : renewals_of o ≡ renewals c h
  pub before : All (λ m. m ≤ length (accepted_records c h)) (renewals c h)
  -- all that was put
  pub stream : AreEntriesOf (put_by c h) (accepted_in_force c h) (length (renewals c h)) (closed c h)
  -- what waits leaves the generation that all that was put leaves
  pub in_force : generation_behind (generation_of o) (queue_of o) ≡ generation_behind 0 (put_by c h)

-- what tenant t gets of entries, at the first of which generation g is in force
abbrev pub on_way : Generations → ℕ → ℕ → ℕ → List ConnEntry → List TenantItem
on_way gens t c g entries = filter_map (forwarded_at gens t c) (with_generations g entries)

-- ---- tenants

abbrev pub pipe_of : ℕ → Option TenantState → Option Pipeline
pipe_of p None = None
pipe_of p (Some ten) = slice_get ten.pipelines p

abbrev pub pipe_at : ℕ → ℕ → State → Option Pipeline
pipe_at t p state = pipe_of p (slice_get state.tenants t)

-- what holds of a pipeline after this history
abbrev pub PipeHolds : Config → History → ℕ → ℕ → List (PipelineId × PipelineItem) → Pipeline → Type 0
PipeHolds config h t p given pipe = PipeFits config t p given pipe (processed_by t p h) (finished t p h) (manage_posts t p h) (result_posts t p h)

-- what a tenant took of a connection, and what is on its way to it, is what is forwarded of all that was put
pub record TenantHolds (gens : Generations) (h : History) (conns : List ConnectionState) (t : ℕ) (ten : TenantState) : Type 0 where
  pub past : Past
  pub happens : Happens gens t past
  pub now : past.state ≡ ten.dispatch
  pub none_out : past.out ≡ None
  pub count : length ten.pipelines ≡ length (pipelines_of gens.first t)
  pub pipes : (p : ℕ) (pipe : Pipeline) → slice_get ten.pipelines p ≡ Some pipe → PipeHolds gens.first h t p past.given pipe
  pub ways : (c : ℕ) → filter (is_from c) (past.taken ++ ten.queue) ++ (items_to t (unsent_of (slice_get conns c)) ++ on_way gens t c (generation_of (slice_get conns c)) (queue_of (slice_get conns c))) ≡ forwarded gens t c (put_by c h)

pub record Holds (gens : Generations) (h : History) (state : State) : Type 0 where
  pub laws : Laws
  pub count : length state.tenants ≡ length (tenants_of gens.first)
  pub conn_count : length state.connections ≡ length (connections_of gens.first)
  pub conns : (c : ℕ) → ConnHolds gens h c (slice_get state.connections c)
  pub tenants : (t : ℕ) (ten : TenantState) → slice_get state.tenants t ≡ Some ten → TenantHolds gens h state.connections t ten
  -- nothing is processed out of range
  pub others : (t p : ℕ) → is_some (pipe_at t p state) ≡ false → (processed_by t p h ≡ []) × (finished t p h ≡ false)

-- ---- what a step says of another connection or pipeline than its own

pub record ConnSame (c : ℕ) (h h' : History) : Type 0 where
  pub accepts : accepted_records c h' ≡ accepted_records c h
  pub closes : closed c h' ≡ closed c h
  pub puts : count_by (is_put c) h' ≡ count_by (is_put c) h
  pub takes : count_by (has_taken c) h' ≡ count_by (has_taken c) h
  pub renews : renewals c h' ≡ renewals c h
  pub entries : put_by c h' ≡ put_by c h

pub record PipeSame (t p : ℕ) (h h' : History) : Type 0 where
  pub turns : processed_by t p h' ≡ processed_by t p h
  pub finishes : finished t p h' ≡ finished t p h
  pub manages : manage_posts t p h' ≡ manage_posts t p h
  pub ends : result_posts t p h' ≡ result_posts t p h

no_offer : (c : ℕ) (s : Step) → is_offer c s ≡ false → offered_to c s ≡ None
no_offer c (step.Offer d line) e = ap (λ b. cond b (Some line) None) e
no_offer c (step.Close d) e = refl
no_offer c (step.Renew d) e = refl
no_offer c (step.Take d) e = refl
no_offer c (step.Send d) e = refl
no_offer c (step.Fetch t n) e = refl
no_offer c (step.Match t) e = refl
no_offer c (step.Give t) e = refl
no_offer c (step.PostManage t p manage) e = refl
no_offer c (step.PostResult t p ended) e = refl
no_offer c (step.Turn t p) e = refl

pub conn_untouched : (c : ℕ) (h : History) (s : Step) (a : Answer) → is_offer c s ≡ false → is_close c s ≡ false → is_take c s ≡ false → is_renew c s ≡ false → ConnSame c h (h ++ (s, a) ∷ [])
conn_untouched c h s a o k g r = record {
  accepts = accepted_push c h (s, a) ∙ ap (λ x. accepted_records c h ++ option_to_list (cond (is_accepted a) x None)) (no_offer c s o) ∙ ap (λ x. accepted_records c h ++ option_to_list x) (cond_none (is_accepted a)) ∙ append-nil (accepted_records c h);
  closes = closed_push c h (s, a) ∙ ap (λ b. closed c h || ((b && is_moved a) || false)) k ∙ or_false (closed c h);
  puts = count_push (is_put c) h (s, a) ∙ ap (λ b. count_by (is_put c) h + (0 + cond ((b && is_accepted a) || ((is_close c s && is_moved a) || (is_renew c s && is_moved a))) 1 0)) o
      ∙ ap (λ b. count_by (is_put c) h + (0 + cond ((b && is_moved a) || (is_renew c s && is_moved a)) 1 0)) k
      ∙ ap (λ b. count_by (is_put c) h + (0 + cond (b && is_moved a) 1 0)) r ∙ add-zero (count_by (is_put c) h);
  takes = count_push (has_taken c) h (s, a) ∙ ap (λ b. count_by (has_taken c) h + (0 + cond (b && is_moved a) 1 0)) g ∙ add-zero (count_by (has_taken c) h);
  renews = renewals_stay c h (s, a) (ap (λ b. b && is_moved a) r);
  entries = put_stays c h (s, a) (ap (λ x. cond (is_accepted a) x None) (no_offer c s o) ∙ cond_none (is_accepted a)) (ap (λ b. b && is_moved a) r) (ap (λ b. b && is_moved a) k);
}

pub pipe_untouched : (t p : ℕ) (h : History) (s : Step) (a : Answer) → is_turn t p s ≡ false → posted_manage t p s ≡ None → posted_result t p s ≡ None → PipeSame t p h (h ++ (s, a) ∷ [])
pipe_untouched t p h s a e m r = record {
  turns = turned_push t p h (s, a) ∙ ap (λ b. processed_by t p h ++ option_to_list (cond b (processed_of a) None)) e ∙ append-nil (processed_by t p h);
  finishes = finished_push t p h (s, a) ∙ ap (λ b. finished t p h || ((b && is_moved a) || false)) e ∙ or_false (finished t p h);
  manages = managed_push t p h (s, a) ∙ ap (λ o. manage_posts t p h ++ option_to_list (cond (is_moved a) o None)) m ∙ ap (λ o. manage_posts t p h ++ option_to_list o) (cond_none (is_moved a)) ∙ append-nil (manage_posts t p h);
  ends = ended_push t p h (s, a) ∙ ap (λ o. result_posts t p h ++ option_to_list (cond (is_moved a) o None)) r ∙ ap (λ o. result_posts t p h ++ option_to_list o) (cond_none (is_moved a)) ∙ append-nil (result_posts t p h);
}

pub conn_same : (gens : Generations) (h h' : History) (c : ℕ) (o : Option ConnectionState) → ConnSame c h h' → ConnHolds gens h c o → ConnHolds gens h' c o
conn_same gens h h' c o same holds = record {
  count = holds.count ∙ ap length (sym same.accepts);
  closing = holds.closing ∙ sym same.closes;
  waits = ap (λ n. length (queue_of o) + n) same.takes ∙ holds.waits ∙ sym same.puts;
  within = holds.within;
  there = holds.there;
  own = holds.own;
  renewed = holds.renewed ∙ sym same.renews;
  before = subst (λ (x : List ℕ × List Record). All (λ m. m ≤ length x.1) x.0) (λ i. (sym same.renews i, sym same.accepts i)) holds.before;
  stream = subst (λ (x : (List ConnEntry × Bool) × (List ℕ × List Record)). AreEntriesOf x.0.0 (beside x.1.0 x.1.1) (length x.1.0) x.0.1)
      (λ i. ((sym same.entries i, sym same.closes i), (sym same.renews i, sym same.accepts i))) holds.stream;
  in_force = holds.in_force ∙ ap (generation_behind 0) (sym same.entries);
}

pub put_same : (c : ℕ) (h h' : History) → ConnSame c h h' → put_by c h ≡ put_by c h'
put_same c h h' same = sym same.entries

pub pipe_same : (gens : Generations) (h h' : History) (t p : ℕ) (given : List (PipelineId × PipelineItem)) (pipe : Pipeline) → PipeSame t p h h' → PipeHolds gens.first h t p given pipe → PipeHolds gens.first h' t p given pipe
pipe_same gens h h' t p given pipe same holds = fits_same (sym same.turns) (sym same.finishes) (sym same.manages) (sym same.ends) holds

-- a tenant that the step leaves, where what the connections have for it stays the same
pub tenant_same : (gens : Generations) (h h' : History) (conns conns' : List ConnectionState) (t : ℕ) (ten : TenantState) → ((p : ℕ) → PipeSame t p h h') →
    ((c : ℕ) → (rest : List TenantItem) → rest ++ (items_to t (unsent_of (slice_get conns c)) ++ on_way gens t c (generation_of (slice_get conns c)) (queue_of (slice_get conns c))) ≡ forwarded gens t c (put_by c h) →
    rest ++ (items_to t (unsent_of (slice_get conns' c)) ++ on_way gens t c (generation_of (slice_get conns' c)) (queue_of (slice_get conns' c))) ≡ forwarded gens t c (put_by c h')) →
    TenantHolds gens h conns t ten → TenantHolds gens h' conns' t ten
tenant_same gens h h' conns conns' t ten pipes ways holds = record {
  past = holds.past;
  happens = holds.happens;
  now = holds.now;
  none_out = holds.none_out;
  count = holds.count;
  pipes = λ p pipe at. pipe_same gens h h' t p holds.past.given pipe (pipes p) (holds.pipes p pipe at);
  ways = λ c. ways c (filter (is_from c) (holds.past.taken ++ ten.queue)) (holds.ways c);
}
