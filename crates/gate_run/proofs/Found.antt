-- What is known of each thread of a run, by its number.
use Rattle.std.proofs.Common.{◌≡◌, ◌∙◌, refl, ap, subst, ℕ, zero, suc, ◌<◌, List, [], ◌∷◌, length, map, Some, arith}
use Rattle.std.specs.Prelude.{slice_get, option_and_then}
use Rattle.gate_record.specs.declared.record.Record.{Record}
use Rattle.gate_record.specs.declared.transit.ConnEntry.{ConnEntry}
use Rattle.gate_record.specs.declared.transit.PipelineItem.{PipelineItem}
use Rattle.gate_record.specs.declared.transit.TenantItem.{TenantItem}
use Rattle.gate_config.specs.declared.generations.Generations.{Generations}
use Rattle.gate_queue.specs.Seats.{QueueName, SenderSeat, Shape, TakerSeat}
use Rattle.gate_run_threads.specs.declared.putting.PassedOn.{PassedOn}
use Rattle.gate_run_reader.specs.declared.reader.Reader.{Reader}
use Rattle.gate_run_reader.specs.declared.reader.ReaderEnd.{ReaderEnd}
use Rattle.gate_run_worker.specs.declared.worker.WorkerEnd.{WorkerEnd}
use Rattle.gate_run_stages.specs.TenantWorkers.{HasDispatched}
use Rattle.gate_source.specs.Feeds.{Told}
use Rattle.gate_run_stages.specs.Forwarders.{HasForwarded}
use Rattle.gate_run_threads.specs.Lists.{Pairwise, Threes}
use Rattle.gate_run_posts.specs.Ports.{InboxEnds, at_pipeline}
use Rattle.gate_run.specs.Inner.Seatings.{AreWorkersOf, Cells, IsTenantWorkerOf, IsForwarderOf, IsWorkerOf}
use Rattle.gate_run_threads.specs.Seats.{seat_in, seat_of}
use Rattle.gate_run_worker.specs.Workers.{HasWorked}
use Rattle.gate_run.specs.Inner.Works.{Dispatched, Forwarded, Read, Worked}
use Rattle.gate_run.proofs.Evidence.{Evidence}
use Rattle.gate_run_threads.proofs.Places.{at_here, beside_of, each_alike, each_here, the_same}
use Rattle.gate_run.proofs.Seatings.{here_mapped}

-- ---- lookups

-- an element, where there is a place for it
pub record There {A : Type 0} (xs : List A) (i : ℕ) : Type 0 where
  pub one : A
  pub here : slice_get xs i ≡ Some one

pub there : {A : Type 0} (xs : List A) (i : ℕ) → i < length xs → There xs i
there [] i low = absurd (omega (arith, low))
there (x ∷ xs) zero low = record { one = x; here = refl }
there (x ∷ xs) (suc i) low = let next = there xs i (omega (arith, low)) in record { one = next.one; here = next.here }

-- what an element of a list was mapped from
pub record From {A B : Type 0} (f : A → B) (xs : List A) (i : ℕ) (y : B) : Type 0 where
  pub one : A
  pub here : slice_get xs i ≡ Some one
  pub is : f one ≡ y

pub from : {A B : Type 0} (f : A → B) (xs : List A) (i : ℕ) (y : B) → slice_get (map f xs) i ≡ Some y → From f xs i y
from f [] i y e = absurd (cc)
from f (x ∷ xs) zero y e = record { one = x; here = refl; is = the_same (f x) y e }
from f (x ∷ xs) (suc i) y e = let next = from f xs i y e in record { one = next.one; here = next.here; is = next.is }

-- the list in which it stands
pub record Row {A : Type 0} (tenants : List (List A)) (t p : ℕ) (x : A) : Type 0 where
  pub row : List A
  pub row_here : slice_get tenants t ≡ Some row
  pub here : slice_get row p ≡ Some x

pub row_of : {A : Type 0} (tenants : List (List A)) (t p : ℕ) (x : A) → at_pipeline t p tenants ≡ Some x → Row tenants t p x
row_of [] t p x e = absurd (cc)
row_of (row ∷ tenants) zero p x e = record { row = row; row_here = refl; here = e }
row_of (row ∷ tenants) (suc t) p x e = let next = row_of tenants t p x e in record { row = next.row; row_here = next.row_here; here = next.here }

pub three_here : {A B C : Type 0} (R : A → B → C → Type 0) (xs : List A) (ys : List B) (zs : List C) (i : ℕ) (x : A) (y : B) (z : C) → Threes R xs ys zs →
    slice_get xs i ≡ Some x → slice_get ys i ≡ Some y → slice_get zs i ≡ Some z → R x y z
three_here R [] [] [] i x y z all at at' at'' = absurd (cc)
three_here R [] [] (c ∷ zs) i x y z all at at' at'' = absurd all
three_here R [] (b ∷ ys) zs i x y z all at at' at'' = absurd all
three_here R (a ∷ xs) [] zs i x y z all at at' at'' = absurd all
three_here R (a ∷ xs) (b ∷ ys) [] i x y z all at at' at'' = absurd all
three_here R (a ∷ xs) (b ∷ ys) (c ∷ zs) zero x y z all at at' at'' =
    subst (λ u. R u y z) (the_same a x at) (subst (λ u. R a u z) (the_same b y at') (subst (λ u. R a b u) (the_same c z at'') all.0))
three_here R (a ∷ xs) (b ∷ ys) (c ∷ zs) (suc i) x y z all at at' at'' = three_here R xs ys zs i x y z all.1 at at' at''

pub alike_here : {A : Type 0} (f : A → ℕ) (n : ℕ) (xs : List A) (i : ℕ) (x : A) → map f xs ≡ map (λ y. n) xs → slice_get xs i ≡ Some x → f x ≡ n
alike_here f n xs i x e at = each_here (λ y. f y ≡ n) xs i x (each_alike f n xs e) at

-- ---- the records that readers accepted

module _ {F : Type 0} (to_come : F → Told) (faults : F → ℕ) where
  abbrev pub all_lines : (ws : List (Reader F)) (ends : List (ReaderEnd F)) → Pairwise (Read to_come faults) ws ends → List (List Record)
  all_lines [] [] all = []
  all_lines [] (end ∷ ends) all = absurd all
  all_lines (w ∷ ws) [] all = absurd all
  all_lines (w ∷ ws) (end ∷ ends) all = all.0.lines ∷ all_lines ws ends all.1

  pub record LinesOf (ws : List (Reader F)) (ends : List (ReaderEnd F)) (all : Pairwise (Read to_come faults) ws ends) (c : ℕ) (end : ReaderEnd F) : Type 0 where
    pub reader : Reader F
    pub reader_here : slice_get ws c ≡ Some reader
    pub read : Read to_come faults reader end
    pub lines_here : slice_get (all_lines ws ends all) c ≡ Some read.lines

  pub find_lines : (ws : List (Reader F)) (ends : List (ReaderEnd F)) (all : Pairwise (Read to_come faults) ws ends) (c : ℕ) (end : ReaderEnd F) → slice_get ends c ≡ Some end → LinesOf ws ends all c end
  find_lines [] [] all c end at = absurd (cc)
  find_lines [] (e ∷ ends) all c end at = absurd all
  find_lines (w ∷ ws) [] all c end at = absurd all
  find_lines (w ∷ ws) (e ∷ ends) all zero end at = same e end (the_same e end at) all
    where
      same : (x y : ReaderEnd F) → x ≡ y → (a : Pairwise (Read to_come faults) (w ∷ ws) (x ∷ ends)) → LinesOf (w ∷ ws) (x ∷ ends) a zero y
      same x y is a = subst (LinesOf (w ∷ ws) (x ∷ ends) a zero) is (record { reader = w; reader_here = refl; read = a.0; lines_here = refl })
  find_lines (w ∷ ws) (e ∷ ends) all (suc c) end at = let next = find_lines ws ends all.1 c end at in record { reader = next.reader; reader_here = next.reader_here; read = next.read; lines_here = next.lines_here }

  pub lines_count : (ws : List (Reader F)) (ends : List (ReaderEnd F)) (all : Pairwise (Read to_come faults) ws ends) → length (all_lines ws ends all) ≡ length ends
  lines_count [] [] all = refl
  lines_count [] (end ∷ ends) all = absurd all
  lines_count (w ∷ ws) [] all = absurd all
  lines_count (w ∷ ws) (end ∷ ends) all = ap suc (lines_count ws ends all.1)

-- ---- the seats of senders

-- the seat in the queue of this place
pub record SeatAt {T : Type 0} (queues : List Shape) (c : ℕ) (tails : List (SenderSeat T)) (k : ℕ) : Type 0 where
  pub tail : SenderSeat T
  pub here : slice_get tails k ≡ Some tail
  pub sender : tail.sender ≡ c

pub seat_at : {T : Type 0} (queues : List Shape) (c : ℕ) (tails : List (SenderSeat T)) (k : ℕ) (queue : Shape) → map seat_of tails ≡ map (seat_in c) queues → slice_get queues k ≡ Some queue → SeatAt queues c tails k
seat_at queues c tails k queue seats at =
    let found = from seat_of tails k (seat_in c queue) (ap (λ xs. slice_get xs k) seats ∙ here_mapped (seat_in c) queues k queue at) in
    record { tail = found.one; here = found.here; sender = ap (λ (seat : QueueName × ℕ). seat.1) found.is }

-- ---- each thread of a run

module _ {F G : Type 0} {gens : Generations} {to_come : F → Told} {faults : F → ℕ} {feeds : List F} {inbox : List (List InboxEnds)} {cells : Cells} (E : Evidence {F = F} G gens to_come faults feeds inbox cells) where
  -- what a forwarder did
  pub record ForwarderAt (c : ℕ) (end : PassedOn (TakerSeat ConnEntry) TenantItem) : Type 0 where
    pub queue : Shape
    pub queue_here : slice_get E.records c ≡ Some queue
    pub did : HasForwarded gens c queue E.items end.head end.tails.items

  pub forwarder_at : (c : ℕ) (end : PassedOn (TakerSeat ConnEntry) TenantItem) → slice_get E.forwarder_ends c ≡ Some end → ForwarderAt c end
  forwarder_at c end at =
      let pair = beside_of Forwarded E.threads.forwarders E.forwarder_ends c end E.threads.have_forwarded at in
      let w = pair.other in
      let is = at_here (IsForwarderOf gens E.records E.items) E.threads.forwarders c w E.threads.are_forwarders pair.there in
      record {
        queue = w.source.now;
        queue_here = is.source;
        did = subst (λ x. HasForwarded x c w.source.now E.items end.head end.tails.items) is.by_gens
            (subst (λ x. HasForwarded w.gens.now x w.source.now E.items end.head end.tails.items) is.of_conn
            (subst (λ x. HasForwarded w.gens.now w.conn.0 w.source.now x end.head end.tails.items) is.puts_into pair.are));
      }

  -- what the worker of a tenant did
  pub record TenantWorkerAt (t : ℕ) (end : PassedOn (TakerSeat TenantItem) PipelineItem) : Type 0 where
    pub queue : Shape
    pub queue_here : slice_get E.items t ≡ Some queue
    pub targets : List Shape
    pub targets_here : slice_get E.triggers t ≡ Some targets
    pub did : HasDispatched gens t queue targets end.head end.tails.items

  pub tenant_worker_at : (t : ℕ) (end : PassedOn (TakerSeat TenantItem) PipelineItem) → slice_get E.tenant_worker_ends t ≡ Some end → TenantWorkerAt t end
  tenant_worker_at t end at =
      let pair = beside_of Dispatched E.threads.tenant_workers E.tenant_worker_ends t end E.threads.have_dispatched at in
      let w = pair.other in
      let is = at_here (IsTenantWorkerOf gens E.items E.triggers) E.threads.tenant_workers t w E.threads.are_tenant_workers pair.there in
      record {
        queue = w.source.now;
        queue_here = is.source;
        targets = w.targets.now;
        targets_here = is.puts_into;
        did = subst (λ x. HasDispatched x t w.source.now w.targets.now end.head end.tails.items) is.by_gens
            (subst (λ x. HasDispatched w.gens.now x w.source.now w.targets.now end.head end.tails.items) is.of_tenant pair.are);
      }

  -- what the worker of a pipeline did
  pub record WorkerAt (t p : ℕ) (end : WorkerEnd) : Type 0 where
    pub queue : Shape
    pub queues : List Shape
    pub queues_here : slice_get E.triggers t ≡ Some queues
    pub queue_here : slice_get queues p ≡ Some queue
    pub ends : InboxEnds
    pub ends_here : at_pipeline t p inbox ≡ Some ends
    pub head : TakerSeat PipelineItem
    pub fresh : head.taken ≡ []
    pub did : HasWorked gens.first t p head end.head ends.management end.management ends.results end.results end.state

  pub worker_at : (t p : ℕ) (list : List WorkerEnd) (end : WorkerEnd) → slice_get E.worker_ends t ≡ Some list → slice_get list p ≡ Some end → WorkerAt t p end
  worker_at t p list end at here =
      let rows = beside_of (Pairwise Worked) E.threads.workers E.worker_ends t list E.threads.have_worked at in
      let of = at_here (AreWorkersOf gens.first E.triggers inbox) E.threads.workers t rows.other E.threads.are_workers rows.there in
      let pair = beside_of Worked rows.other list p end rows.are here in
      let w = pair.other in
      let is = at_here (IsWorkerOf gens.first t of.own_sources of.own_inbox) rows.other p w of.each pair.there in
      record {
        queue = w.source.now;
        queues = of.own_sources;
        queues_here = of.sources_here;
        queue_here = is.source;
        ends = record { management = w.management; results = w.results };
        ends_here = ap (option_and_then (λ (row : List InboxEnds). slice_get row p)) of.inbox_here ∙ is.own_inbox;
        head = w.head;
        fresh = ap (λ (h : TakerSeat PipelineItem). h.taken) is.can.not_taken;
        did = subst (λ x. HasWorked x t p w.head end.head w.management end.management w.results end.results end.state) is.by_config
            (subst (λ x. HasWorked w.config.now x p w.head end.head w.management end.management w.results end.results end.state) is.of_tenant
            (subst (λ x. HasWorked w.config.now w.tenant.0 x w.head end.head w.management end.management w.results end.results end.state) is.of_pipeline pair.are));
      }
