-- A sending from a forwarder to a tenant keeps what holds.
use Rattle.std.proofs.Common.{◌≡◌, ◌∙◌, refl, sym, ap, subst, ℕ, ◌==◌, List, [], ◌∷◌, ◌++◌, false, Option, Some, None, cond, slice_set, append_assoc, append-nil}
use Rattle.std.specs.Prelude.{slice_get, is_some}
use Rattle.std.specs.List.{cons_option, filter}
use Rattle.std.proofs.lemmas.List.{length-set}
use Rattle.std.proofs.lemmas.List.Elements.{filter-append}
use Rattle.gate_record.specs.declared.ids.ConnId.{ConnId}
use Rattle.gate_record.specs.declared.ids.TenantId.{TenantId}
use Rattle.gate_record.specs.declared.transit.TenantItem.{TenantItem}
use Rattle.gate_config.specs.declared.generations.Generations.{Generations}
use Rattle.gate_forward.specs.Forwarding.{forwarded}
use Rattle.gate_forward.specs.Histories.{items_to}
use Rattle.gate_core.specs.declared.answer.Answer.TheVariants.{Moved}
use Rattle.gate_core.specs.declared.step.Step.TheVariants as step
use Rattle.gate_core.specs.History.{History, finished, processed_by}
use Rattle.gate_core.specs.States.{ConnectionState, TenantState, State}
use Rattle.gate_tenant.specs.Dispatching.{conn_of_item, is_from}
use Rattle.gate_delivery.proofs.Arrivals.{same_as_itself}
use Rattle.gate_core.proofs.Sendings.{differs}
use Rattle.gate_core.proofs.Spots.{AfterSet, after_set, another, it}
use Rattle.gate_core.proofs.Streams.{AreOf, ConnHolds, ConnSame, Holds, PipeSame, TenantHolds, conn_same, conn_untouched, generation_of, unsent_of, on_way, pipe_of, pipe_same, pipe_untouched, put_same, queue_of}
use Rattle.gate_core.proofs.Puts.{put_by}
use Rattle.gate_delivery.proofs.Maps.{the_same}

-- the first item for a tenant
for_it : (t : ℕ) (first : TenantId × TenantItem) (rest : List (TenantId × TenantItem)) → first.0.0 ≡ t → items_to t (first ∷ rest) ≡ first.1 ∷ items_to t rest
for_it t first rest e = subst (λ n. items_to n (first ∷ rest) ≡ first.1 ∷ items_to n rest) e (ap (λ b. cons_option (cond b (Some first.1) None) (items_to first.0.0 rest)) (same_as_itself first.0.0))

for_another : (t : ℕ) (first : TenantId × TenantItem) (rest : List (TenantId × TenantItem)) → (first.0.0 ≡ t → ⊥) → items_to t (first ∷ rest) ≡ items_to t rest
for_another t first rest differ = ap (λ b. cons_option (cond b (Some first.1) None) (items_to t rest)) (differs first.0.0 t differ)

-- one more item, of this connection or of another
from_it : (c : ℕ) (items : List TenantItem) (item : TenantItem) → conn_of_item item ≡ c → filter (is_from c) (items ++ item ∷ []) ≡ filter (is_from c) items ++ item ∷ []
from_it c items item e =
    filter-append (is_from c) items (item ∷ [])
    ∙ ap (λ b. filter (is_from c) items ++ cond b (item ∷ []) []) (ap (λ n. n == c) e ∙ same_as_itself c)

from_another : (c d : ℕ) (items : List TenantItem) (item : TenantItem) → conn_of_item item ≡ c → (c ≡ d → ⊥) → filter (is_from d) (items ++ item ∷ []) ≡ filter (is_from d) items
from_another c d items item e differ =
    filter-append (is_from d) items (item ∷ [])
    ∙ ap (λ b. filter (is_from d) items ++ cond b (item ∷ []) []) (ap (λ n. n == d) e ∙ differs c d differ) ∙ append-nil (filter (is_from d) items)

module _ (gens : Generations) (h : History) (state : State) (d : ConnId) (k : ConnectionState) (first : TenantId × TenantItem) (rest : List (TenantId × TenantItem)) (ten : TenantState)
    (at : slice_get state.connections d.0 ≡ Some k) (front : k.unsent ≡ first ∷ rest) (whose : slice_get state.tenants first.0.0 ≡ Some ten) where
  abbrev h' : History
  h' = h ++ (step.Send d, Moved) ∷ []

  abbrev k' : ConnectionState
  k' = record k { unsent = rest }

  abbrev ten' : TenantState
  ten' = record ten { queue = ten.queue ++ first.1 ∷ [] }

  abbrev conns' : List ConnectionState
  conns' = slice_set state.connections d.0 k'

  conns_stay : (c : ℕ) → ConnSame c h h'
  conns_stay c = conn_untouched c h (step.Send d) Moved refl refl refl refl

  pipes_stay : (t p : ℕ) → PipeSame t p h h'
  pipes_stay t p = pipe_untouched t p h (step.Send d) Moved refl refl refl

  conn_goes : (c : ℕ) → AfterSet state.connections d.0 k' c → Holds gens h state → ConnHolds gens h' c (slice_get conns' c)
  conn_goes c (it e g) holds =
      let old : ConnHolds gens h d.0 (Some k) = subst (ConnHolds gens h d.0) at (holds.conns d.0) in
      let same = conn_same gens h h' d.0 (Some k) (conns_stay d.0) old in
      let own : AreOf d.0 (first ∷ rest) = subst (AreOf d.0) front old.own in
      subst (ConnHolds gens h' c) (sym g) (subst (λ n. ConnHolds gens h' n (Some k')) e
      (record { count = same.count; closing = same.closing; waits = same.waits; within = same.within; there = λ _. refl; own = own.1; renewed = same.renewed; before = same.before; stream = same.stream; in_force = same.in_force }))
  conn_goes c (another differ g) holds = subst (ConnHolds gens h' c) (sym g) (conn_same gens h h' c (slice_get state.connections c) (conns_stay c) (holds.conns c))

  owner : Holds gens h state → conn_of_item first.1 ≡ d.0
  owner holds =
      let old : ConnHolds gens h d.0 (Some k) = subst (ConnHolds gens h d.0) at (holds.conns d.0) in
      let own : AreOf d.0 (first ∷ rest) = subst (AreOf d.0) front old.own in
      own.0

  abbrev Kept : ℕ → ℕ → History → Option ConnectionState → List TenantItem → Type 0
  Kept t c past o items = filter (is_from c) items ++ (items_to t (unsent_of o) ++ on_way gens t c (generation_of o) (queue_of o)) ≡ forwarded gens t c (put_by c past)

  later : (t c : ℕ) (o : Option ConnectionState) (items : List TenantItem) → Kept t c h o items → Kept t c h' o items
  later t c o items kept = kept ∙ ap (forwarded gens t c) (put_same c h h' (conns_stay c))

  -- the tenant that gets the item
  kept_here : (c : ℕ) → AfterSet state.connections d.0 k' c → conn_of_item first.1 ≡ d.0 → (items : List TenantItem) → Kept first.0.0 c h (slice_get state.connections c) items → Kept first.0.0 c h' (slice_get conns' c) (items ++ first.1 ∷ [])
  kept_here c (it e g) own items kept =
      let t = first.0.0 in
      let was : Kept t d.0 h (Some k) items = subst (λ o. Kept t d.0 h o items) at (subst (λ n. Kept t n h (slice_get state.connections n) items) (sym e) kept) in
      subst (λ o. Kept t c h' o (items ++ first.1 ∷ [])) (sym g) (subst (λ n. Kept t n h' (Some k') (items ++ first.1 ∷ [])) e
      (ap (λ xs. xs ++ (items_to t rest ++ on_way gens t d.0 k.generation k.queue)) (from_it d.0 items first.1 own)
      ∙ append_assoc (filter (is_from d.0) items) (first.1 ∷ []) (items_to t rest ++ on_way gens t d.0 k.generation k.queue)
      ∙ ap (λ xs. filter (is_from d.0) items ++ (xs ++ on_way gens t d.0 k.generation k.queue)) (sym (ap (items_to t) front ∙ for_it t first rest refl))
      ∙ later t d.0 (Some k) items was))
  kept_here c (another differ g) own items kept =
      let t = first.0.0 in
      subst (λ o. Kept t c h' o (items ++ first.1 ∷ [])) (sym g)
      (ap (λ xs. xs ++ (items_to t (unsent_of (slice_get state.connections c)) ++ on_way gens t c (generation_of (slice_get state.connections c)) (queue_of (slice_get state.connections c)))) (from_another d.0 c items first.1 own differ)
      ∙ later t c (slice_get state.connections c) items kept)

  -- the others
  kept_elsewhere : (t c : ℕ) → (first.0.0 ≡ t → ⊥) → AfterSet state.connections d.0 k' c → (items : List TenantItem) → Kept t c h (slice_get state.connections c) items → Kept t c h' (slice_get conns' c) items
  kept_elsewhere t c other (it e g) items kept =
      let was : Kept t d.0 h (Some k) items = subst (λ o. Kept t d.0 h o items) at (subst (λ n. Kept t n h (slice_get state.connections n) items) (sym e) kept) in
      subst (λ o. Kept t c h' o items) (sym g) (subst (λ n. Kept t n h' (Some k') items) e
      (ap (λ xs. filter (is_from d.0) items ++ (xs ++ on_way gens t d.0 k.generation k.queue)) (sym (ap (items_to t) front ∙ for_another t first rest other))
      ∙ later t d.0 (Some k) items was))
  kept_elsewhere t c other (another differ g) items kept = subst (λ o. Kept t c h' o items) (sym g) (later t c (slice_get state.connections c) items kept)

  tenant_goes : (t : ℕ) (found : TenantState) → AfterSet state.tenants first.0.0 ten' t → slice_get (slice_set state.tenants first.0.0 ten') t ≡ Some found → Holds gens h state → TenantHolds gens h' conns' t found
  tenant_goes t found (it e g) there holds =
      let old = holds.tenants first.0.0 ten whose in
      subst (TenantHolds gens h' conns' t) (the_same ten' found (sym g ∙ there)) (subst (λ n. TenantHolds gens h' conns' n ten') e
      (record {
        past = old.past;
        happens = old.happens;
        now = old.now;
        none_out = old.none_out;
        count = old.count;
        pipes = λ p pipe seat. pipe_same gens h h' first.0.0 p old.past.given pipe (pipes_stay first.0.0 p) (old.pipes p pipe seat);
        ways = λ c.
            subst (λ items. Kept first.0.0 c h' (slice_get conns' c) items) (append_assoc old.past.taken ten.queue (first.1 ∷ []))
            (kept_here c (after_set state.connections d.0 c k k' at) (owner holds) (old.past.taken ++ ten.queue) (old.ways c));
      }))
  tenant_goes t found (another differ g) there holds =
      let old = holds.tenants t found (sym g ∙ there) in
      record {
        past = old.past;
        happens = old.happens;
        now = old.now;
        none_out = old.none_out;
        count = old.count;
        pipes = λ p pipe seat. pipe_same gens h h' t p old.past.given pipe (pipes_stay t p) (old.pipes p pipe seat);
        ways = λ c. kept_elsewhere t c differ (after_set state.connections d.0 c k k' at) (old.past.taken ++ found.queue) (old.ways c);
      }

  none_goes : (t p : ℕ) → AfterSet state.tenants first.0.0 ten' t → is_some (pipe_of p (slice_get (slice_set state.tenants first.0.0 ten') t)) ≡ false → Holds gens h state → (processed_by t p h' ≡ []) × (finished t p h' ≡ false)
  none_goes t p (it e g) none holds =
      let gone : is_some (slice_get ten.pipelines p) ≡ false = subst (λ o. is_some (pipe_of p o) ≡ false) g none in
      let old = holds.others first.0.0 p (subst (λ o. is_some (pipe_of p o) ≡ false) (sym whose) gone) in
      subst (λ n. (processed_by n p h' ≡ []) × (finished n p h' ≡ false)) e ((pipes_stay first.0.0 p).turns ∙ old.0, (pipes_stay first.0.0 p).finishes ∙ old.1)
  none_goes t p (another differ g) none holds =
      let old = holds.others t p (subst (λ o. is_some (pipe_of p o) ≡ false) g none) in
      ((pipes_stay t p).turns ∙ old.0, (pipes_stay t p).finishes ∙ old.1)

  pub sent_holds : Holds gens h state → Holds gens h' (record { connections = conns'; tenants = slice_set state.tenants first.0.0 ten' })
  sent_holds holds = record {
    count = length-set state.tenants first.0.0 ten' ∙ holds.count;
    conn_count = length-set state.connections d.0 k' ∙ holds.conn_count;
    laws = holds.laws;
    conns = λ c. conn_goes c (after_set state.connections d.0 c k k' at) holds;
    tenants = λ t found there. tenant_goes t found (after_set state.tenants first.0.0 t ten ten' whose) there holds;
    others = λ t p none. none_goes t p (after_set state.tenants first.0.0 t ten ten' whose) none holds;
  }
