-- How threads are seated before they begin.
use Rattle.std.proofs.Common.{◌≡◌, ◌∙◌, refl, sym, ap, subst, ℕ, zero, suc, ◌+◌, ◌-◌, ◌<◌, ◌^◌, List, [], ◌∷◌, ◌++◌, length, map, Some, arith}
use Rattle.std.specs.Prelude.{All, slice_get}
use Rattle.std.specs.List.{range_with_len}
use Rattle.std.proofs.lemmas.Option.{get_or_from_slice_get, slice_get_within}
use Rattle.gate_record.specs.declared.transit.ConnEntry.{ConnEntry}
use Rattle.gate_record.specs.declared.transit.PipelineItem.{PipelineItem}
use Rattle.gate_record.specs.declared.transit.TenantItem.{TenantItem}
use Rattle.gate_config.specs.declared.config.Config.{Config}
use Rattle.gate_config.specs.declared.generations.Generations.{Generations}
use Rattle.gate_config.specs.Lookups.{pipelines_of, tenants_of}
use Rattle.gate_pipeline.specs.States as pipeline
use Rattle.gate_queue.specs.Seats.{SenderSeat, Shape, TakerSeat}
use Rattle.gate_source.specs.Stops.{IsNoteOf}
use Rattle.gate_run_stages.specs.declared.tenant_worker.TenantWorker.{TenantWorker}
use Rattle.gate_run_stages.specs.declared.forwarder.Forwarder.{Forwarder}
use Rattle.gate_run_reader.specs.declared.reader.Reader.{Reader}
use Rattle.gate_run_worker.specs.declared.worker.PipelineWorker.{PipelineWorker}
use Rattle.gate_run_threads.specs.Lists.{EachAt}
use Rattle.gate_run_posts.specs.Ports.{InboxEnds}
use Rattle.gate_run.specs.Inner.Seatings.{Cells, IsTenantWorkerOf, IsForwarderOf, IsReaderOf, IsWorkerOf}
use Rattle.gate_run_threads.specs.Seats.{fresh_head, fresh_tail}
use Rattle.gate_run_threads.proofs.Paired.{map_length}
use Rattle.gate_run_threads.proofs.Places.{at_more, the_same}
use Rattle.gate_run_threads.proofs.Grouped.{range_length}

pub here_mapped : {A B : Type 0} (f : A → B) (xs : List A) (i : ℕ) (x : A) → slice_get xs i ≡ Some x → slice_get (map f xs) i ≡ Some (f x)
here_mapped f [] i x e = absurd (cc)
here_mapped f (y ∷ xs) zero x e = ap (λ z. Some (f z)) (the_same y x e)
here_mapped f (y ∷ xs) (suc i) x e = here_mapped f xs i x e

-- of a list that another was mapped to, one at the same place
pub is_mapped : {A B : Type 0} (f : A → B) (xs : List A) (ys : List B) (i : ℕ) (x : A) (y : B) → ys ≡ map f xs → slice_get xs i ≡ Some x → slice_get ys i ≡ Some y → y ≡ f x
is_mapped f xs ys i x y e at at' = the_same y (f x) (sym at' ∙ ap (λ zs. slice_get zs i) e ∙ here_mapped f xs i x at)

pub number_here : (a m i : ℕ) → i < m → slice_get (range_with_len a m) i ≡ Some (a + i)
number_here a zero i low = absurd (omega (arith, low))
number_here a (suc m) zero low = ap Some (omega arith)
number_here a (suc m) (suc i) low = number_here (a + 1) m i (omega (arith, low)) ∙ ap Some (omega arith)

pub as_many_of : {A B C : Type 0} (f : A → C) (g : B → C) (xs : List A) (ys : List B) → map f xs ≡ map g ys → length xs ≡ length ys
as_many_of f g xs ys e = sym (map_length f xs) ∙ ap length e ∙ map_length g ys

-- what was counted for each number, at one
pub count_here : {A : Type 0} (f : A → ℕ) (g : ℕ → ℕ) (xs : List A) (m i : ℕ) (x : A) → map f xs ≡ map g (range_with_len 0 m) → slice_get xs i ≡ Some x → f x ≡ g i
count_here f g xs m i x e at =
    let within = slice_get_within xs i x at in
    let low : i < m = omega (arith, within, as_many_of f g xs (range_with_len 0 m) e, range_length 0 m) in
    the_same (f x) (g i) (sym (here_mapped f xs i x at) ∙ ap (λ zs. slice_get zs i) e ∙ here_mapped g (range_with_len 0 m) i i (number_here 0 m i low ∙ ap Some (omega arith)))

-- one more, at its place
pub record OneMore {A : Type 0} (P : ℕ → A → Type 0) (xs : List A) (n : ℕ) : Type 0 where
  pub many : length xs ≡ n + 1
  pub each : EachAt P xs

pub one_more : {A : Type 0} (P : ℕ → A → Type 0) (xs xs' : List A) (x : A) (n : ℕ) → length xs ≡ n → EachAt P xs → P n x → xs' ≡ xs ++ x ∷ [] → OneMore P xs' n
one_more P xs xs' x n many each here more = record {
  many = ap length more ∙ longer xs ∙ ap (λ k. k + 1) many;
  each = subst (EachAt P) (sym more) (at_more P xs x each (subst (λ k. P k x) (sym many) here));
}
  where
    longer : (ys : List _) → length (ys ++ x ∷ []) ≡ length ys + 1
    longer [] = refl
    longer (y ∷ ys) = ap suc (longer ys) ∙ omega arith

pub reader_of : {F : Type 0} (faults : F → ℕ) (feeds : List F) (queues : List Shape) (tails : List (SenderSeat ConnEntry)) (cells : Cells) (c : ℕ) (w : Reader F) → slice_get feeds c ≡ Some w.feed → slice_get queues c ≡ Some w.queue.now → slice_get tails c ≡ Some w.tail →
    tails ≡ map (fresh_tail 0) queues → All (λ feed. faults feed < 2 ^ 64 - 1) feeds → w.cell.now ≡ cells.stop → w.generations ≡ cells.generations → w.cells.now ≡ cells.later → 0 < cells.generations → IsNoteOf cells.stop w.note → IsReaderOf faults feeds queues cells c w
reader_of faults feeds queues tails cells c w of_feed of_queue of_tail fresh few of_stop of_generations of_later some note = record {
  feed = of_feed;
  queue = of_queue;
  of_stop = of_stop;
  of_generations = of_generations;
  of_later = of_later;
  can = record {
    not_put = is_mapped (fresh_tail 0) queues tails c w.queue.now w.tail fresh of_queue of_tail;
    note_of = note ∙ sym of_stop;
    some = subst (λ n. 0 < n) (sym of_generations) some;
    few = subst (λ feed. faults feed < 2 ^ 64 - 1) (get_or_from_slice_get feeds c w.feed w.feed of_feed) (few c w.feed (slice_get_within feeds c w.feed of_feed));
  };
}

pub forwarder_of : (gens : Generations) (sources targets : List Shape) (heads : List (TakerSeat ConnEntry)) (rows : List (List (SenderSeat TenantItem))) (m c : ℕ) (w : Forwarder) → w.gens.now ≡ gens → w.conn.0 ≡ c → slice_get sources c ≡ Some w.source.now → w.targets.now ≡ targets →
    slice_get heads c ≡ Some w.head → heads ≡ map fresh_head sources → slice_get rows c ≡ Some w.tails.items → rows ≡ map (λ s. map (fresh_tail s) targets) (range_with_len 0 m) → c < m → length targets ≡ length (tenants_of gens.first) → IsForwarderOf gens sources targets c w
forwarder_of gens sources targets heads rows m c w by_gens of_conn of_source of_targets of_head fresh of_tails fresh' low many = record {
  by_gens = by_gens;
  of_conn = of_conn;
  source = of_source;
  puts_into = of_targets;
  can = record {
    tenants = ap length of_targets ∙ many ∙ ap (λ x. length (tenants_of x.first)) (sym by_gens);
    not_taken = is_mapped fresh_head sources heads c w.source.now w.head fresh of_source of_head;
    not_put = is_mapped (λ s. map (fresh_tail s) targets) (range_with_len 0 m) rows c c w.tails.items fresh' (number_here 0 m c low ∙ ap Some (omega arith)) of_tails
        ∙ (λ i. map (fresh_tail (sym of_conn i)) (sym of_targets i));
  };
}

pub tenant_worker_of : (gens : Generations) (sources : List Shape) (targets : List (List Shape)) (heads : List (TakerSeat TenantItem)) (rows : List (List (SenderSeat PipelineItem))) (t : ℕ) (w : TenantWorker) → w.gens.now ≡ gens → w.tenant.0 ≡ t →
    slice_get sources t ≡ Some w.source.now → slice_get targets t ≡ Some w.targets.now → length w.targets.now ≡ length (pipelines_of gens.first t) → slice_get heads t ≡ Some w.head → heads ≡ map fresh_head sources → slice_get rows t ≡ Some w.tails.items → rows ≡ map (map (fresh_tail 0)) targets →
    IsTenantWorkerOf gens sources targets t w
tenant_worker_of gens sources targets heads rows t w by_gens own_tenant of_source of_targets many of_head fresh of_tails fresh' = record {
  by_gens = by_gens;
  of_tenant = own_tenant;
  source = of_source;
  puts_into = of_targets;
  can = record {
    pipelines = many ∙ (λ i. length (pipelines_of (sym by_gens i).first (sym own_tenant i)));
    not_taken = is_mapped fresh_head sources heads t w.source.now w.head fresh of_source of_head;
    not_put = is_mapped (map (fresh_tail 0)) targets rows t w.targets.now w.tails.items fresh' of_targets of_tails;
  };
}

pub worker_of : {G : Type 0} (config : Config) (t : ℕ) (sources : List Shape) (inbox : List InboxEnds) (heads : List (TakerSeat PipelineItem)) (p : ℕ) (w : PipelineWorker G) → w.config.now ≡ config → w.tenant.0 ≡ t → w.pipeline.0 ≡ p → slice_get sources p ≡ Some w.source.now →
    slice_get inbox p ≡ Some (record { management = w.management; results = w.results }) → w.state ≡ pipeline.first_state config t p → slice_get heads p ≡ Some w.head → heads ≡ map fresh_head sources → IsWorkerOf config t sources inbox p w
worker_of config t sources inbox heads p w by_config of_tenant of_pipeline of_source of_inbox begins of_head fresh = record {
  by_config = by_config;
  of_tenant = of_tenant;
  of_pipeline = of_pipeline;
  source = of_source;
  own_inbox = of_inbox;
  can = record {
    begins = begins ∙ (λ i. pipeline.first_state (sym by_config i) (sym of_tenant i) (sym of_pipeline i));
    not_taken = is_mapped fresh_head sources heads p w.source.now w.head fresh of_source of_head;
  };
}

-- as many as were counted
pub counted_groups : {A : Type 0} (f : A → ℕ) (g : ℕ → ℕ) (xs : List A) (m : ℕ) → map f xs ≡ map g (range_with_len 0 m) → length xs ≡ m
counted_groups f g xs m e = as_many_of f g xs (range_with_len 0 m) e ∙ range_length 0 m
