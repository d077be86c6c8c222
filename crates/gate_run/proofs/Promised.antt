-- What is promised of a run, put together from what is known of its threads.
use Rattle.std.proofs.Common.{◌≡◌, ◌∙◌, refl, sym, ap, subst, ℕ, zero, suc, ◌+◌, ◌<◌, ◌≤◌, List, [], ◌∷◌, ◌++◌, true, false, length, map, Option, Some, None, if◌then◌else◌, add-zero, arith, append-nil}
use Rattle.std.specs.Prelude.{All, option_and_then, option_map, slice_get, unwrap_or}
use Rattle.std.specs.List.{cons_option, filter_map, range_with_len}
use Rattle.std.proofs.lemmas.Bool.{ne_eqb}
use Rattle.std.proofs.lemmas.List.{length-map}
use Rattle.std.proofs.lemmas.Option.{get_or_from_slice_get, slice_get_past, slice_get_within}
use Rattle.gate_record.specs.declared.ids.Stamp.{Stamp}
use Rattle.gate_record.specs.declared.record.Record.{Record}
use Rattle.gate_record.specs.declared.transit.ConnEntry.{ConnEntry}
use Rattle.gate_record.specs.declared.transit.PipelineItem.{PipelineItem}
use Rattle.gate_record.specs.declared.transit.PipelineItem.TheVariants as item
use Rattle.gate_record.specs.declared.transit.Stamped.{Stamped}
use Rattle.gate_record.specs.declared.transit.TenantItem.{TenantItem}
use Rattle.gate_record.specs.Entries.{AreEntriesOf, beside, begins}
use Rattle.gate_record.specs.Generations.{EntriesHaveGenerations, RecordsHaveGenerations}
use Rattle.gate_record.specs.Prefixes.{IsPrefixOf}
use Rattle.gate_record.specs.Reading.{reading_of}
use Rattle.gate_config.specs.declared.config.Config.{Config}
use Rattle.gate_config.specs.declared.generations.Generations.{Generations}
use Rattle.gate_config.specs.Lookups.{connections_of, lists, pipelines_of}
use Rattle.gate_forward.specs.Forwarding.{forwarded}
use Rattle.gate_tenant.specs.Dispatching.{chosen}
use Rattle.gate_items.specs.declared.action.Action.{Action}
use Rattle.gate_pipeline.specs.Histories.{AreProcessed, History, TakenIsProcessed, asking, held_items, stamp_in, triggering}
use Rattle.gate_pipeline.specs.States.{State}
use Rattle.gate_pipeline.specs.Triggers.{trigger_of}
use Rattle.gate_source.specs.Stops.{Note}
use Rattle.gate_queue.specs.declared.tagged.Tagged.{Tagged}
use Rattle.gate_queue.specs.Seats.{QueueName, SenderSeat, Shape, TakerSeat}
use Rattle.gate_queue.specs.States.{AreFrom, IsDelivered}
use Rattle.gate_queue.specs.Tagged.{values_of}
use Rattle.gate_report.specs.declared.report.ConnectionReport.{ConnectionReport}
use Rattle.gate_report.specs.declared.report.EndCause.{EndCause}
use Rattle.gate_report.specs.declared.report.EndCause.TheVariants as cause
use Rattle.gate_report.specs.declared.report.PipelineReport.{PipelineReport}
use Rattle.gate_report.specs.declared.report.RunReport.{RunReport}
use Rattle.gate_record.specs.Stamps.{number_from, numbers_from}
use Rattle.gate_delivery.specs.Wanted.{asked_among, asked_of, wanted}
use Rattle.gate_delivery.specs.Ways.{EachWayDelivers, IsEventOf, Way, number_of_item}
use Rattle.gate_run_threads.specs.declared.putting.PassedOn.{PassedOn}
use Rattle.gate_run_reader.specs.declared.reader.ReaderEnd.{ReaderEnd}
use Rattle.gate_run_reader.specs.declared.running.Renewal.{Renewal}
use Rattle.gate_run_worker.specs.declared.worker.PipelineWorker.{PipelineWorker}
use Rattle.gate_run_worker.specs.declared.worker.WorkerEnd.{WorkerEnd}
use Rattle.gate_source.specs.Feeds.{Told}
use Rattle.gate_run_threads.specs.Lists.{Each, EachAt}
use Rattle.gate_run_posts.specs.Ports.{InboxEnds, InboxView, at_pipeline, pipeline_counts}
use Rattle.gate_run_reader.specs.Readers.{Means, is_closed, counts_of, notes_of}
use Rattle.gate_run_threads.specs.Seats.{values, seat_in, seat_of}
use Rattle.gate_run_reader.specs.Asked.{AreKnown}
use Rattle.gate_run_posts.specs.Asked.{KnowsStill}
use Rattle.gate_run_posts.specs.Asked.{knows_as_much}
use Rattle.gate_run.specs.Inner.Seatings.{AreWorkersOf, Cells, IsReaderOf}
use Rattle.gate_pipeline.specs.States.{report_of}
use Rattle.gate_run.specs.Inner.Gatherings.{inbox_back, most_asked, report_of_reader}
use Rattle.gate_run.specs.Serving.{Delivers, HasEnded, HasProcessed, HaveEnded, Serves, lines_of, renewals_of}
use Rattle.gate_run_threads.specs.QueueGroups.{AreQueuesSettled}
use Rattle.gate_run.specs.Inner.Works.{Read, Worked}
use Rattle.gate_run.proofs.Asking.{each_enough, most_no_fewer}
use Rattle.gate_run.proofs.Composed.{OfSenders, of_senders, taken_own, way_of}
use Rattle.gate_run.proofs.Evidence.{Evidence}
use Rattle.gate_run.proofs.Found.{ForwarderAt, LinesOf, There, WorkerAt, alike_here, all_lines, tenant_worker_at, find_lines, forwarder_at, from, lines_count, row_of, seat_at, there, three_here, worker_at}
use Rattle.gate_run_threads.proofs.Paired.{map_length}
use Rattle.gate_run_threads.proofs.Seated.{map_map}
use Rattle.gate_run.proofs.Seatings.{here_mapped}
use Rattle.gate_run_threads.proofs.Places.{as_long, as_many, at_here, each_here, the_same}

-- ---- lists of numbers

number_and : (c : ℕ) (x : PipelineItem) (front : List PipelineItem) → cons_option (number_of_item c x) (filter_map (number_of_item c) front) ≡ filter_map (number_of_item c) (x ∷ front)
number_and c x front = refl

numbered_by : (c : ℕ) (front : List PipelineItem) → filter_map (number_of_item c) front ≡ numbers_from c (filter_map stamp_in front)
numbered_by c [] = refl
numbered_by c (item.Event s ∷ front) = ap (λ ns. cons_option (number_from c s.stamp) ns) (numbered_by c front)
numbered_by c (item.End ∷ front) = numbered_by c front

-- from a sender that isn't there nothing was taken
none_beyond : {T : Type 0} (n c : ℕ) (xs : List (Tagged T)) → AreFrom n xs → n ≤ c → values_of c xs ≡ []
none_beyond n c [] of high = refl
none_beyond n c (x ∷ xs) of high = ap (λ b. if b then x.value ∷ values_of c xs else values_of c xs) (ne_eqb x.sender c (λ e. omega (arith, e, of 0 x (omega arith), high))) ∙ none_beyond n c xs (λ k d low. of (suc k) d (omega (arith, low))) high

nothing_before : {X : Type 0} (xs : List X) → IsPrefixOf xs [] → xs ≡ []
nothing_before [] is = refl
nothing_before (x ∷ xs) (rest, e) = absurd (cc)

-- what is asked for of events that are read from records is what those records ask for
asked_in : RecordsHaveGenerations → (config : Config) (t p : ℕ) (renewals : ℕ → List ℕ) (records : ℕ → List Record) (front : List PipelineItem) →
    ((i : ℕ) (s : Stamped) → slice_get front i ≡ Some (item.Event s) → IsEventOf (beside (renewals s.stamp.conn.0) (records s.stamp.conn.0)) s) →
    (i : ℕ) (stamp : Option Stamp) (a : Action) → slice_get (filter_map (asking config t p) front) i ≡ Some (stamp, a) → asked_among config t p records stamp ≡ Some a
asked_in law config t p renewals records [] read i stamp a e = absurd (cc)
asked_in law config t p renewals records (item.Event s ∷ front) read zero stamp a e =
    let is = read 0 s refl in
    let there = law.each_record (renewals s.stamp.conn.0) (records s.stamp.conn.0) s.stamp.number s.generation is.line is.there in
    let same : (Some s.stamp, trigger_of config t p s.stamp s.event) ≡ (stamp, a) = the_same (Some s.stamp, trigger_of config t p s.stamp s.event) (stamp, a) e in
    subst (λ (one : Option Stamp × Action). asked_among config t p records one.0 ≡ Some one.1) same
    (ap (λ (o : Option Record). option_and_then (λ (line : Record). asked_of config t p s.stamp (reading_of line)) o) there ∙ ap (asked_of config t p s.stamp) is.reads)
asked_in law config t p renewals records (item.Event s ∷ front) read (suc i) stamp a e = asked_in law config t p renewals records front (λ k x at. read (suc k) x at) i stamp a e
asked_in law config t p renewals records (item.End ∷ front) read i stamp a e = asked_in law config t p renewals records front (λ k x at. read (suc k) x at) i stamp a e

module _ {F G : Type 0} {gens : Generations} {to_come : F → Told} {faults : F → ℕ} {feeds : List F} {inbox : List (List InboxEnds)} {cells : Cells} (E : Evidence {F = F} G gens to_come faults feeds inbox cells) where
  abbrev pub n : ℕ
  n = length (connections_of gens.first)

  abbrev pub lines : List (List Record)
  lines = all_lines to_come faults E.threads.readers E.reader_ends E.threads.have_read

  abbrev pub counted : List ConnectionReport
  counted = map report_of_reader E.reader_ends

  abbrev marks : ℕ → List ℕ
  marks c = renewals_of c counted

  -- ---- what a tenant's queue was given by one connection

  record Sent (t s : ℕ) (d : PassedOn (TakerSeat TenantItem) PipelineItem) (queue : Shape) : Type 0 where
    pub end : PassedOn (TakerSeat ConnEntry) TenantItem
    pub end_here : slice_get E.forwarder_ends s ≡ Some end
    pub forwarder : ForwarderAt E s end
    pub put : List TenantItem
    pub in_order : IsPrefixOf put (forwarded gens t s (values end.head.taken))
    pub waiting : List (Tagged TenantItem)
    pub arrived : IsDelivered d.head.taken waiting s put

  sent : (t s : ℕ) (d : PassedOn (TakerSeat TenantItem) PipelineItem) (queue : Shape) → slice_get E.tenant_worker_ends t ≡ Some d → slice_get E.items t ≡ Some queue → s < n → Sent t s d queue
  sent t s d queue at of_queue low =
      let f = there E.forwarder_ends s (omega (arith, low, E.threads.forwarder_count, as_many _ E.threads.forwarders E.forwarder_ends E.threads.have_forwarded)) in
      let forwarder = forwarder_at E s f.one f.here in
      let seat = seat_at E.items s f.one.tails.items t queue forwarder.did.seats of_queue in
      let settled = E.items_settled.each s t f.one.tails.items seat.tail queue d.head (here_mapped (λ (end : PassedOn (TakerSeat ConnEntry) TenantItem). end.tails.items) E.forwarder_ends s f.one f.here) seat.here of_queue
      (here_mapped (λ (end : PassedOn (TakerSeat TenantItem) PipelineItem). end.head) E.tenant_worker_ends t d at) in
      record {
        end = f.one;
        end_here = f.here;
        forwarder = forwarder;
        put = seat.tail.put;
        in_order = subst (λ (x : SenderSeat TenantItem). IsPrefixOf x.put (forwarded gens t s (values f.one.head.taken))) (get_or_from_slice_get f.one.tails.items t seat.tail seat.tail seat.here)
            (forwarder.did.put t seat.tail (slice_get_within f.one.tails.items t seat.tail seat.here));
        waiting = settled.waiting;
        arrived = subst (λ k. IsDelivered d.head.taken settled.waiting k seat.tail.put) seat.sender settled.delivered;
      }

  -- ---- what a tenant's worker took

  got_from : (t : ℕ) (d : PassedOn (TakerSeat TenantItem) PipelineItem) (queue : Shape) → slice_get E.tenant_worker_ends t ≡ Some d → slice_get E.items t ≡ Some queue → AreFrom n d.head.taken
  got_from t d queue at of_queue =
      subst (λ m. AreFrom m d.head.taken) (alike_here (λ (q : Shape). q.name.senders) n E.items t queue E.item_senders of_queue)
      (E.items_settled.from t queue d.head of_queue (here_mapped (λ (end : PassedOn (TakerSeat TenantItem) PipelineItem). end.head) E.tenant_worker_ends t d at))

  got_own : (t : ℕ) (d : PassedOn (TakerSeat TenantItem) PipelineItem) (queue : Shape) → slice_get E.tenant_worker_ends t ≡ Some d → slice_get E.items t ≡ Some queue → OfSenders d.head.taken
  got_own t d queue at of_queue = of_senders n d.head.taken (got_from t d queue at of_queue) (λ s low.
      let by = sent t s d queue at of_queue low in
      taken_own gens t s (values by.end.head.taken) by.put d.head.taken by.waiting by.in_order by.arrived)

  -- ---- the whole way to a pipeline

  -- what its worker took, in order, and what it was given
  record Taken (t p : ℕ) (d : PassedOn (TakerSeat TenantItem) PipelineItem) (w : WorkerEnd) : Type 0 where
    pub worker : WorkerAt E t p w
    pub matched : List TenantItem
    pub unmatched : List TenantItem
    pub took : matched ++ unmatched ≡ values d.head.taken
    pub given : List PipelineItem
    pub in_order : IsPrefixOf given (chosen gens t p matched)
    pub waiting : List (Tagged PipelineItem)
    pub from : AreFrom 1 w.head.taken
    pub from_waiting : AreFrom 1 waiting
    pub arrived : IsDelivered w.head.taken waiting 0 given

  taken : (t p : ℕ) (d : PassedOn (TakerSeat TenantItem) PipelineItem) (list : List WorkerEnd) (w : WorkerEnd) → slice_get E.tenant_worker_ends t ≡ Some d → slice_get E.worker_ends t ≡ Some list → slice_get list p ≡ Some w → Taken t p d w
  taken t p d list w at at' here =
      let worker = worker_at E t p list w at' here in
      let tenant_worker = tenant_worker_at E t d at in
      let same : tenant_worker.targets ≡ worker.queues = the_same tenant_worker.targets worker.queues (sym tenant_worker.targets_here ∙ worker.queues_here) in
      let seats : map seat_of d.tails.items ≡ map (seat_in 0) worker.queues = tenant_worker.did.seats ∙ ap (map (seat_in 0)) same in
      let seat = seat_at worker.queues 0 d.tails.items p worker.queue seats worker.queue_here in
      let given = tenant_worker.did.given in
      let one : worker.queue.name.senders ≡ 1 = alike_here (λ (q : Shape). q.name.senders) 1 worker.queues p worker.queue (rows_here t worker.queues worker.queues_here) worker.queue_here in
      let group = three_here (λ (group : List Shape) (own_heads : List (TakerSeat PipelineItem)) (own_tails : List (SenderSeat PipelineItem)). AreQueuesSettled group own_heads (own_tails ∷ []))
      E.triggers (map (λ (ends : List WorkerEnd). map (λ (end : WorkerEnd). end.head) ends) E.worker_ends) (map (λ (end : PassedOn (TakerSeat TenantItem) PipelineItem). end.tails.items) E.tenant_worker_ends) t worker.queues (map (λ (end : WorkerEnd). end.head) list) d.tails.items
      E.triggers_settled worker.queues_here (here_mapped (λ (ends : List WorkerEnd). map (λ (end : WorkerEnd). end.head) ends) E.worker_ends t list at') (here_mapped (λ (end : PassedOn (TakerSeat TenantItem) PipelineItem). end.tails.items) E.tenant_worker_ends t d at) in
      let settled = group.each 0 p d.tails.items seat.tail worker.queue w.head refl seat.here worker.queue_here (here_mapped (λ (end : WorkerEnd). end.head) list p w here) in
      record {
        worker = worker;
        matched = given.matched;
        unmatched = given.unmatched;
        took = given.took;
        given = seat.tail.put;
        in_order = subst (λ (x : SenderSeat PipelineItem). IsPrefixOf x.put (chosen gens t p given.matched)) (get_or_from_slice_get d.tails.items p seat.tail seat.tail seat.here)
            (given.put p seat.tail (slice_get_within d.tails.items p seat.tail seat.here));
        waiting = settled.waiting;
        from = subst (λ m. AreFrom m w.head.taken) one settled.from;
        from_waiting = subst (λ m. AreFrom m settled.waiting) one settled.from_waiting;
        arrived = subst (λ k. IsDelivered w.head.taken settled.waiting k seat.tail.put) seat.sender settled.delivered;
      }
    where
      rows_here : (k : ℕ) (queues : List Shape) → slice_get E.triggers k ≡ Some queues → map (λ (q : Shape). q.name.senders) queues ≡ map (λ (q : Shape). 1) queues
      rows_here k queues e =
          let left = here_mapped (λ (qs : List Shape). map (λ (q : Shape). q.name.senders) qs) E.triggers k queues e in
          let right = here_mapped (λ (qs : List Shape). map (λ (q : Shape). 1) qs) E.triggers k queues e in
          the_same (map (λ (q : Shape). q.name.senders) queues) (map (λ (q : Shape). 1) queues) (sym left ∙ ap (λ xs. slice_get xs k) E.trigger_senders ∙ right)

  -- what a reader put, and what was taken of it
  record Put (c : ℕ) (r : ReaderEnd F) (f : PassedOn (TakerSeat ConnEntry) TenantItem) : Type 0 where
    pub found : LinesOf to_come faults E.threads.readers E.reader_ends E.threads.have_read c r
    pub waiting : List (Tagged ConnEntry)
    pub from : AreFrom 1 f.head.taken
    pub from_waiting : AreFrom 1 waiting
    pub arrived : IsDelivered f.head.taken waiting 0 r.tail.put

  put : (c : ℕ) (r : ReaderEnd F) (f : PassedOn (TakerSeat ConnEntry) TenantItem) → slice_get E.reader_ends c ≡ Some r → slice_get E.forwarder_ends c ≡ Some f → Put c r f
  put c r f at at' =
      let found = find_lines to_come faults E.threads.readers E.reader_ends E.threads.have_read c r at in
      let is = at_here (IsReaderOf faults feeds E.records cells) E.threads.readers c found.reader E.threads.are_readers found.reader_here in
      let queue = found.reader.queue.now in
      let one : queue.name.senders ≡ 1 = alike_here (λ (q : Shape). q.name.senders) 1 E.records c queue E.record_senders is.queue in
      let sender : r.tail.sender ≡ 0 = ap (λ (seat : QueueName × ℕ). seat.1) found.read.seat ∙ ap (λ (tail : SenderSeat ConnEntry). tail.sender) is.can.not_put in
      let settled = E.records_settled.each 0 c (map (λ (end : ReaderEnd F). end.tail) E.reader_ends) r.tail queue f.head refl (here_mapped (λ (end : ReaderEnd F). end.tail) E.reader_ends c r at) is.queue
      (here_mapped (λ (end : PassedOn (TakerSeat ConnEntry) TenantItem). end.head) E.forwarder_ends c f at') in
      record {
        found = found;
        waiting = settled.waiting;
        from = subst (λ m. AreFrom m f.head.taken) one settled.from;
        from_waiting = subst (λ m. AreFrom m settled.waiting) one settled.from_waiting;
        arrived = subst (λ k. IsDelivered f.head.taken settled.waiting k r.tail.put) sender settled.delivered;
      }

  -- what a pipeline has processed is the first of what its worker took
  record Processed (t p : ℕ) (w : WorkerEnd) : Type 0 where
    pub past : History
    pub now : past.state ≡ w.state
    pub are : AreProcessed gens.first t p past
    pub all : values w.head.taken ≡ are.front ++ held_items past.state.held

  processed : TakenIsProcessed → (t p : ℕ) (list : List WorkerEnd) (w : WorkerEnd) → slice_get E.worker_ends t ≡ Some list → slice_get list p ≡ Some w → Processed t p w
  processed law t p list w at here =
      let worker = worker_at E t p list w at here in
      let are = law gens.first t p worker.did.past worker.did.happens in
      let more = worker.did.triggers in
      record {
        past = worker.did.past;
        now = worker.did.now;
        are = are;
        all = ap values (more.behind ∙ ap (λ xs. xs ++ more.taken) worker.fresh) ∙ more.are ∙ are.triggers;
      }

  -- the way of a connection that is there
  way_there : EntriesHaveGenerations → (law : TakenIsProcessed) (t p c : ℕ) (d : PassedOn (TakerSeat TenantItem) PipelineItem) (list : List WorkerEnd) (w : WorkerEnd) (r : ReaderEnd F) (at_d : slice_get E.tenant_worker_ends t ≡ Some d) (at_l : slice_get E.worker_ends t ≡ Some list)
      (at_w : slice_get list p ≡ Some w) (at_r : slice_get E.reader_ends c ≡ Some r) (low : c < n) →
      Way gens t p c r.tail.put (processed law t p list w at_l at_w).are.front
  unfolding put
  way_there entries law t p c d list w r at_d at_l at_w at_r low =
      let tenant_worker = tenant_worker_at E t d at_d in
      let by = sent t c d tenant_worker.queue at_d tenant_worker.queue_here low in
      let given = taken t p d list w at_d at_l at_w in
      let first = put c r by.end at_r by.end_here in
      let done = processed law t p list w at_l at_w in
      way_of entries gens t p c r.tail.put by.end.head.taken first.waiting by.put d.head.taken by.waiting given.matched given.unmatched given.given w.head.taken given.waiting done.are.front (held_items done.past.state.held)
      first.from first.from_waiting first.arrived by.in_order (got_own t d tenant_worker.queue at_d tenant_worker.queue_here) by.arrived given.took given.in_order given.from given.from_waiting given.arrived done.all

  -- the way of one that isn't
  way_beyond : EntriesHaveGenerations → (law : TakenIsProcessed) (t p c : ℕ) (d : PassedOn (TakerSeat TenantItem) PipelineItem) (list : List WorkerEnd) (w : WorkerEnd) (at_d : slice_get E.tenant_worker_ends t ≡ Some d) (at_l : slice_get E.worker_ends t ≡ Some list)
      (at_w : slice_get list p ≡ Some w) (high : n ≤ c) → Way gens t p c [] (processed law t p list w at_l at_w).are.front
  way_beyond entries law t p c d list w at_d at_l at_w high =
      let tenant_worker = tenant_worker_at E t d at_d in
      let given = taken t p d list w at_d at_l at_w in
      let done = processed law t p list w at_l at_w in
      let own = got_own t d tenant_worker.queue at_d tenant_worker.queue_here in
      way_of entries gens t p c [] [] [] [] d.head.taken [] given.matched given.unmatched given.given w.head.taken given.waiting done.are.front (held_items done.past.state.held)
      none none refl ([], refl) own (append-nil (values_of c d.head.taken) ∙ none_beyond n c d.head.taken (got_from t d tenant_worker.queue at_d tenant_worker.queue_here) high) given.took given.in_order given.from given.from_waiting given.arrived done.all
    where
      none : AreFrom {T = ConnEntry} 1 []
      none k x low = absurd (omega (arith, low))

  -- ---- what each pipeline has processed

  past_end : {X : Type 0} (xs : List X) (i : ℕ) → slice_get xs i ≡ None → length xs ≤ i
  past_end [] i e = omega arith
  past_end (x ∷ xs) zero e = absurd (cc)
  past_end (x ∷ xs) (suc i) e = let high = past_end xs i e in omega (arith, high)

  end_count : length E.reader_ends ≡ n
  end_count = sym (as_many (Read to_come faults) E.threads.readers E.reader_ends E.threads.have_read) ∙ E.threads.reader_count

  lines_there : (c : ℕ) (r : ReaderEnd F) (at : slice_get E.reader_ends c ≡ Some r) → lines_of c lines ≡ (find_lines to_come faults E.threads.readers E.reader_ends E.threads.have_read c r at).read.lines
  lines_there c r at = ap (λ (o : Option (List Record)). unwrap_or o []) (find_lines to_come faults E.threads.readers E.reader_ends E.threads.have_read c r at).lines_here

  lines_beyond : (c : ℕ) → slice_get E.reader_ends c ≡ None → lines_of c lines ≡ []
  lines_beyond c at = ap (λ (o : Option (List Record)). unwrap_or o [])
      (slice_get_past lines c (let high = past_end E.reader_ends c at in omega (arith, high, lines_count to_come faults E.threads.readers E.reader_ends E.threads.have_read)))

  marks_there : (c : ℕ) (r : ReaderEnd F) → slice_get E.reader_ends c ≡ Some r → marks c ≡ counts_of r.renewals.items
  marks_there c r at = ap (λ (o : Option ConnectionReport). unwrap_or (option_map (λ (report : ConnectionReport). report.renewals) o) []) (here_mapped report_of_reader E.reader_ends c r at)

  -- what its reader put are the entries of the lines
  put_there : (c : ℕ) (r : ReaderEnd F) → slice_get E.reader_ends c ≡ Some r → AreEntriesOf r.tail.put (beside (marks c) (lines_of c lines)) (length r.renewals.items) (is_closed r.cause)
  put_there c r at = subst (λ (x : List ℕ × List Record). AreEntriesOf r.tail.put (beside x.0 x.1) (length r.renewals.items) (is_closed r.cause)) (sym (λ i. (marks_there c r at i, lines_there c r at i))) (find_lines to_come faults E.threads.readers E.reader_ends E.threads.have_read c r at).read.put

  put_beyond : (c : ℕ) → slice_get E.reader_ends c ≡ None → AreEntriesOf [] (beside (marks c) (lines_of c lines)) 0 false
  put_beyond c at = subst (λ ls. AreEntriesOf [] (beside (marks c) ls) 0 false) (sym (lines_beyond c at)) begins

  numbers : (law : TakenIsProcessed) (t p c : ℕ) (list : List WorkerEnd) (w : WorkerEnd) (at_l : slice_get E.worker_ends t ≡ Some list) (at_w : slice_get list p ≡ Some w) →
      filter_map (number_of_item c) (processed law t p list w at_l at_w).are.front ≡ numbers_from c w.state.done
  numbers law t p c list w at_l at_w =
      let done = processed law t p list w at_l at_w in
      numbered_by c done.are.front ∙ ap (numbers_from c) done.are.stamps ∙ ap (λ (s : State). numbers_from c s.done) done.now

  in_order_by : EntriesHaveGenerations → (law : TakenIsProcessed) → EachWayDelivers → (t p c : ℕ) (d : PassedOn (TakerSeat TenantItem) PipelineItem) (list : List WorkerEnd) (w : WorkerEnd) → slice_get E.tenant_worker_ends t ≡ Some d → (at_l : slice_get E.worker_ends t ≡ Some list) →
      (at_w : slice_get list p ≡ Some w) (o : Option (ReaderEnd F)) → slice_get E.reader_ends c ≡ o → IsPrefixOf (numbers_from c w.state.done) (wanted gens t p c (beside (marks c) (lines_of c lines)))
  in_order_by entries law ways t p c d list w at_d at_l at_w (Some r) at =
      let front = (processed law t p list w at_l at_w).are.front in
      let low = slice_get_within E.reader_ends c r at in
      let way = way_there entries law t p c d list w r at_d at_l at_w at (omega (arith, low, end_count)) in
      subst (λ xs. IsPrefixOf xs (wanted gens t p c (beside (marks c) (lines_of c lines)))) (numbers law t p c list w at_l at_w)
      (ways.in_order gens t p c r.tail.put (beside (marks c) (lines_of c lines)) (length r.renewals.items) (is_closed r.cause) front (put_there c r at) way)
  in_order_by entries law ways t p c d list w at_d at_l at_w None at =
      let front = (processed law t p list w at_l at_w).are.front in
      let high = past_end E.reader_ends c at in
      let way = way_beyond entries law t p c d list w at_d at_l at_w (omega (arith, high, end_count)) in
      subst (λ xs. IsPrefixOf xs (wanted gens t p c (beside (marks c) (lines_of c lines)))) (numbers law t p c list w at_l at_w)
      (ways.in_order gens t p c [] (beside (marks c) (lines_of c lines)) 0 false front (put_beyond c at) way)

  whole_by : EntriesHaveGenerations → (law : TakenIsProcessed) → EachWayDelivers → (t p c : ℕ) (d : PassedOn (TakerSeat TenantItem) PipelineItem) (list : List WorkerEnd) (w : WorkerEnd) → slice_get E.tenant_worker_ends t ≡ Some d → (at_l : slice_get E.worker_ends t ≡ Some list) →
      (at_w : slice_get list p ≡ Some w) (o : Option (ReaderEnd F)) → slice_get E.reader_ends c ≡ o → w.state.finished ≡ true → numbers_from c w.state.done ≡ wanted gens t p c (beside (marks c) (lines_of c lines))
  whole_by entries law ways t p c d list w at_d at_l at_w (Some r) at finished =
      let done = processed law t p list w at_l at_w in
      let low = slice_get_within E.reader_ends c r at in
      let inside : c < n = omega (arith, low, end_count) in
      let way = way_there entries law t p c d list w r at_d at_l at_w at inside in
      sym (numbers law t p c list w at_l at_w)
      ∙ ways.whole gens t p c r.tail.put (beside (marks c) (lines_of c lines)) (length r.renewals.items) (is_closed r.cause) done.are.front (put_there c r at) inside way (done.are.ends ∙ ap (λ (s : State). s.finished) done.now ∙ finished)
  whole_by entries law ways t p c d list w at_d at_l at_w None at finished =
      let none = lines_beyond c at in
      nothing_before (numbers_from c w.state.done) (subst (λ ls. IsPrefixOf (numbers_from c w.state.done) (wanted gens t p c (beside (marks c) ls))) none (in_order_by entries law ways t p c d list w at_d at_l at_w None at))
      ∙ ap (λ ls. wanted gens t p c (beside (marks c) ls)) (sym none)

  marked_by : EntriesHaveGenerations → (law : TakenIsProcessed) → EachWayDelivers → (t p c : ℕ) (d : PassedOn (TakerSeat TenantItem) PipelineItem) (list : List WorkerEnd) (w : WorkerEnd) (r : ReaderEnd F) → slice_get E.tenant_worker_ends t ≡ Some d → (at_l : slice_get E.worker_ends t ≡ Some list) →
      (at_w : slice_get list p ≡ Some w) → slice_get E.reader_ends c ≡ Some r → w.state.finished ≡ true → lists gens.first t c ≡ true → is_closed r.cause ≡ true
  marked_by entries law ways t p c d list w r at_d at_l at_w at finished listed =
      let done = processed law t p list w at_l at_w in
      let low = slice_get_within E.reader_ends c r at in
      let inside : c < n = omega (arith, low, end_count) in
      let way = way_there entries law t p c d list w r at_d at_l at_w at inside in
      ways.closes gens t p c r.tail.put (beside (marks c) (lines_of c lines)) (length r.renewals.items) (is_closed r.cause) done.are.front (put_there c r at) inside listed way (done.are.ends ∙ ap (λ (s : State). s.finished) done.now ∙ finished)

  -- the worker of the tenant of a list of pipelines
  tenant_of_list : (t : ℕ) (list : List WorkerEnd) → slice_get E.worker_ends t ≡ Some list → There E.tenant_worker_ends t
  tenant_of_list t list at =
      let low = slice_get_within E.worker_ends t list at in
      there E.tenant_worker_ends t (omega (arith, low, as_many _ E.threads.workers E.worker_ends E.threads.have_worked, E.threads.worker_count, E.threads.tenant_worker_count, as_many _ E.threads.tenant_workers E.tenant_worker_ends E.threads.have_dispatched))

  abbrev pub reported : List (List PipelineReport)
  reported = map (λ (ends : List WorkerEnd). map (λ (end : WorkerEnd). report_of end.state) ends) E.worker_ends

  -- the pipeline's worker that a report is of
  record Reported (t p : ℕ) (pipeline : PipelineReport) : Type 0 where
    pub list : List WorkerEnd
    pub list_here : slice_get E.worker_ends t ≡ Some list
    pub end : WorkerEnd
    pub here : slice_get list p ≡ Some end
    pub is : report_of end.state ≡ pipeline

  find_report : (t p : ℕ) (pipeline : PipelineReport) → at_pipeline t p reported ≡ Some pipeline → Reported t p pipeline
  find_report t p pipeline at =
      let row = row_of reported t p pipeline at in
      let list = from (λ (ends : List WorkerEnd). map (λ (end : WorkerEnd). report_of end.state) ends) E.worker_ends t row.row row.row_here in
      let end = from (λ (end : WorkerEnd). report_of end.state) list.one p pipeline (ap (λ xs. slice_get xs p) list.is ∙ row.here) in
      record { list = list.one; list_here = list.here; end = end.one; here = end.here; is = end.is }

  pub delivers : EntriesHaveGenerations → TakenIsProcessed → EachWayDelivers → Delivers gens lines counted reported
  delivers entries law ways = record {
    in_order = λ t p c pipeline at.
        let f = find_report t p pipeline at in
        let d = tenant_of_list t f.list f.list_here in
        subst (λ (x : PipelineReport). IsPrefixOf (numbers_from c x.done) (wanted gens t p c (beside (marks c) (lines_of c lines)))) f.is (in_order_by entries law ways t p c d.one f.list f.end d.here f.list_here f.here (slice_get E.reader_ends c) refl);
    whole = λ t p c pipeline at finished.
        let f = find_report t p pipeline at in
        let d = tenant_of_list t f.list f.list_here in
        ap (λ (x : PipelineReport). numbers_from c x.done) (sym f.is)
        ∙ whole_by entries law ways t p c d.one f.list f.end d.here f.list_here f.here (slice_get E.reader_ends c) refl (ap (λ (x : PipelineReport). x.finished) f.is ∙ finished);
  }

  -- ---- what each connection's reader did

  means_kept : (cause : EndCause) (before after : Told) (own : List Record) (f f' : ℕ) (note note' : Note) → knows_as_much note note' → Means cause before after own f f' note → Means cause before after own f f' note'
  means_kept cause.Ended before after own f f' note note' knows means = means
  means_kept cause.Failed before after own f f' note note' knows means = means
  means_kept cause.Stopped before after own f f' note note' knows means = knows means
  means_kept cause.Memory before after own f f' note note' knows means = means
  means_kept cause.Unclosed before after own f f' note note' knows means = means

  abbrev pub back : List F
  back = map (λ (end : ReaderEnd F). end.feed) E.reader_ends

  pub have_ended : (after : InboxView) → Each (λ (end : ReaderEnd F). knows_as_much end.note after.note) E.reader_ends → Each (λ (end : ReaderEnd F). length (notes_of end.renewals.items) ≤ length after.asked) E.reader_ends → HaveEnded gens to_come faults feeds back lines counted after
  have_ended after knows enough = record {
    feeds_back = map_length (λ (end : ReaderEnd F). end.feed) E.reader_ends ∙ end_count ∙ sym E.feed_count;
    all_lines = lines_count to_come faults E.threads.readers E.reader_ends E.threads.have_read ∙ end_count ∙ sym E.feed_count;
    all_reports = map_length report_of_reader E.reader_ends ∙ end_count ∙ sym E.feed_count;
    each = λ c feed feed' own report at at' here here'.
        let r = from (λ (end : ReaderEnd F). end.feed) E.reader_ends c feed' at' in
        let found = find_lines to_come faults E.threads.readers E.reader_ends E.threads.have_read c r.one r.here in
        let is = at_here (IsReaderOf faults feeds E.records cells) E.threads.readers c found.reader E.threads.are_readers found.reader_here in
        let read = found.read in
        let same : found.reader.feed ≡ feed = the_same found.reader.feed feed (sym is.feed ∙ at) in
        let lines_same : read.lines ≡ own = the_same read.lines own (sym found.lines_here ∙ here) in
        let report_same : report_of_reader r.one ≡ report = the_same (report_of_reader r.one) report (sym (here_mapped report_of_reader E.reader_ends c r.one r.here) ∙ here') in
        subst (λ x. HasEnded gens (to_come x) (to_come feed') (faults x) (faults feed') own report after) same
        (subst (λ x. HasEnded gens (to_come found.reader.feed) (to_come x) (faults found.reader.feed) (faults x) own report after) r.is
        (subst (λ x. HasEnded gens (to_come found.reader.feed) (to_come r.one.feed) (faults found.reader.feed) (faults r.one.feed) x report after) lines_same
        (subst (λ x. HasEnded gens (to_come found.reader.feed) (to_come r.one.feed) (faults found.reader.feed) (faults r.one.feed) read.lines x after) report_same
        (record {
          first = read.first;
          accepted = read.counted;
          never_fall = read.rising;
          within = subst (λ n. All (λ m. m ≤ n) (counts_of r.one.renewals.items)) (sym read.counted) read.within;
          few = omega (arith, read.few_renewals, is.of_generations, E.generation_count, length-map r.one.renewals.items (λ (renewal : Renewal). renewal.accepted));
          asked_for = omega (arith, each_here (λ (end : ReaderEnd F). length (notes_of end.renewals.items) ≤ length after.asked) E.reader_ends c r.one enough r.here, length-map r.one.renewals.items (λ (renewal : Renewal). renewal.accepted), length-map r.one.renewals.items (λ (renewal : Renewal). renewal.note));
          means = means_kept r.one.cause _ _ read.lines _ _ r.one.note after.note (each_here (λ (end : ReaderEnd F). knows_as_much end.note after.note) E.reader_ends c r.one knows r.here) read.means;
        }))));
  }

  pub behind_marks : EntriesHaveGenerations → TakenIsProcessed → EachWayDelivers → (t p c : ℕ) (pipeline : PipelineReport) (connection : ConnectionReport) → at_pipeline t p reported ≡ Some pipeline → pipeline.finished ≡ true → lists gens.first t c ≡ true →
      slice_get counted c ≡ Some connection → is_closed connection.cause ≡ true
  behind_marks entries law ways t p c pipeline connection at finished listed here =
      let f = find_report t p pipeline at in
      let d = tenant_of_list t f.list f.list_here in
      let r = from report_of_reader E.reader_ends c connection here in
      ap (λ (x : ConnectionReport). is_closed x.cause) (sym r.is)
      ∙ marked_by entries law ways t p c d.one f.list f.end r.one d.here f.list_here f.here r.here (ap (λ (x : PipelineReport). x.finished) f.is ∙ finished) listed

  -- ---- what each pipeline's worker took from the inbox

  abbrev pub kept : List (List State)
  kept = map (λ (ends : List WorkerEnd). map (λ (end : WorkerEnd). end.state) ends) E.worker_ends

  abbrev pub inbox_kept : List (List InboxEnds)
  inbox_kept = map (λ (ends : List WorkerEnd). map inbox_back ends) E.worker_ends

  -- each event that was processed is what the record of its stamp reads as
  read_by : EntriesHaveGenerations → (law : TakenIsProcessed) → EachWayDelivers → (t p c : ℕ) (d : PassedOn (TakerSeat TenantItem) PipelineItem) (list : List WorkerEnd) (w : WorkerEnd) → slice_get E.tenant_worker_ends t ≡ Some d → (at_l : slice_get E.worker_ends t ≡ Some list) →
      (at_w : slice_get list p ≡ Some w) (o : Option (ReaderEnd F)) → slice_get E.reader_ends c ≡ o → (i : ℕ) (s : Stamped) → slice_get (processed law t p list w at_l at_w).are.front i ≡ Some (item.Event s) → s.stamp.conn.0 ≡ c → IsEventOf (beside (marks c) (lines_of c lines)) s
  read_by entries law ways t p c d list w at_d at_l at_w (Some r) at i s here same =
      let front = (processed law t p list w at_l at_w).are.front in
      let low = slice_get_within E.reader_ends c r at in
      let way = way_there entries law t p c d list w r at_d at_l at_w at (omega (arith, low, end_count)) in
      ways.genuine gens t p c r.tail.put (beside (marks c) (lines_of c lines)) (length r.renewals.items) (is_closed r.cause) front (put_there c r at) way i s here same
  read_by entries law ways t p c d list w at_d at_l at_w None at i s here same =
      let front = (processed law t p list w at_l at_w).are.front in
      let high = past_end E.reader_ends c at in
      let way = way_beyond entries law t p c d list w at_d at_l at_w (omega (arith, high, end_count)) in
      ways.genuine gens t p c [] (beside (marks c) (lines_of c lines)) 0 false front (put_beyond c at) way i s here same

  -- so each trigger is what that record asks for
  asked : EntriesHaveGenerations → RecordsHaveGenerations → (law : TakenIsProcessed) → EachWayDelivers → (t p : ℕ) (d : PassedOn (TakerSeat TenantItem) PipelineItem) (list : List WorkerEnd) (w : WorkerEnd) → slice_get E.tenant_worker_ends t ≡ Some d → (at_l : slice_get E.worker_ends t ≡ Some list) →
      (at_w : slice_get list p ≡ Some w) (i : ℕ) (stamp : Option Stamp) (a : Action) → slice_get (filter_map triggering (processed law t p list w at_l at_w).past.processed) i ≡ Some (stamp, a) → asked_among gens.first t p (λ c. lines_of c lines) stamp ≡ Some a
  asked entries records law ways t p d list w at_d at_l at_w i stamp a here =
      let done = processed law t p list w at_l at_w in
      asked_in records gens.first t p marks (λ c. lines_of c lines) done.are.front
      (λ k s at. read_by entries law ways t p s.stamp.conn.0 d list w at_d at_l at_w (slice_get E.reader_ends s.stamp.conn.0) refl k s at refl)
      i stamp a (ap (λ (xs : List (Option Stamp × Action)). slice_get xs i) (sym done.are.asked_for) ∙ here)

  pub processes : EntriesHaveGenerations → RecordsHaveGenerations → TakenIsProcessed → EachWayDelivers → (t p : ℕ) (ends ends' : InboxEnds) (state : State) → at_pipeline t p inbox ≡ Some ends → at_pipeline t p inbox_kept ≡ Some ends' → at_pipeline t p kept ≡ Some state → HasProcessed gens.first t p lines ends ends' state
  unfolding processed
  processes entries records law ways t p ends ends' state at at' here =
      let row = row_of kept t p state here in
      let list = from (λ (es : List WorkerEnd). map (λ (end : WorkerEnd). end.state) es) E.worker_ends t row.row row.row_here in
      let end = from (λ (e : WorkerEnd). e.state) list.one p state (ap (λ xs. slice_get xs p) list.is ∙ row.here) in
      let w = worker_at E t p list.one end.one list.here end.here in
      let d = tenant_of_list t list.one list.here in
      let before : w.ends ≡ ends = the_same w.ends ends (sym w.ends_here ∙ at) in
      let after_here : at_pipeline t p inbox_kept ≡ Some (inbox_back end.one) =
      ap (option_and_then (λ (xs : List InboxEnds). slice_get xs p)) (here_mapped (λ (es : List WorkerEnd). map inbox_back es) E.worker_ends t list.one list.here) ∙ here_mapped inbox_back list.one p end.one end.here in
      let after : inbox_back end.one ≡ ends' = the_same (inbox_back end.one) ends' (sym after_here ∙ at') in
      subst (λ x. HasProcessed gens.first t p lines ends ends' x) end.is
      (subst (λ x. HasProcessed gens.first t p lines ends x end.one.state) after
      (subst (λ x. HasProcessed gens.first t p lines x (inbox_back end.one) end.one.state) before
      (record {
        past = w.did.past;
        now = w.did.now;
        processed = law gens.first t p w.did.past w.did.happens;
        triggers = asked entries records law ways t p d.one list.one end.one d.here list.here end.here;
        management = w.did.management;
        results = w.did.results;
      })))

  -- ---- as many pipelines as there are

  module _ (count : ℕ → ℕ) where
    each_counted : (a : ℕ) (P : ℕ → List (PipelineWorker G) → Type 0) → ((k : ℕ) (ws : List (PipelineWorker G)) → P k ws → length ws ≡ count (a + k)) → (lists : List (List (PipelineWorker G))) → EachAt P lists → map length lists ≡ map count (range_with_len a (length lists))
    each_counted a P is [] all = refl
    each_counted a P is (ws ∷ lists) all = (λ i. (is 0 ws all.0 ∙ ap count (add-zero a)) i ∷ each_counted (a + 1) (λ k. P (suc k)) (λ k xs q. is (suc k) xs q ∙ ap count (omega arith)) lists all.1 i)

  mapped_lengths : {A B : Type 0} (f : A → B) (xss : List (List A)) → map length (map (λ (xs : List A). map f xs) xss) ≡ map length xss
  mapped_lengths f [] = refl
  mapped_lengths f (xs ∷ xss) = (λ i. map_length f xs i ∷ mapped_lengths f xss i)

  worker_counts : map length E.worker_ends ≡ pipeline_counts gens.first
  worker_counts =
      sym (as_long Worked E.threads.workers E.worker_ends E.threads.have_worked)
      ∙ each_counted (λ t. length (pipelines_of gens.first t)) 0 (AreWorkersOf gens.first E.triggers inbox) (λ k ws (are : AreWorkersOf gens.first E.triggers inbox k ws). are.count ∙ ap (λ m. length (pipelines_of gens.first m)) (omega arith)) E.threads.workers E.threads.are_workers
      ∙ ap (λ m. map (λ t. length (pipelines_of gens.first t)) (range_with_len 0 m)) E.threads.worker_count

  pub pipelines_counted : map length kept ≡ pipeline_counts gens.first
  pipelines_counted = mapped_lengths (λ (end : WorkerEnd). end.state) E.worker_ends ∙ worker_counts

  pub inbox_counted : map length inbox_kept ≡ pipeline_counts gens.first
  inbox_counted = mapped_lengths inbox_back E.worker_ends ∙ worker_counts

  reports_kept : (xss : List (List WorkerEnd)) → map (λ (ends : List WorkerEnd). map (λ (end : WorkerEnd). report_of end.state) ends) xss ≡ map (map report_of) (map (λ (ends : List WorkerEnd). map (λ (end : WorkerEnd). end.state) ends) xss)
  reports_kept [] = refl
  reports_kept (ends ∷ xss) = (λ i. sym (map_map report_of (λ (end : WorkerEnd). end.state) ends) i ∷ reports_kept xss i)

  -- ---- all of it

  pub serves : EntriesHaveGenerations → RecordsHaveGenerations → TakenIsProcessed → EachWayDelivers → (feeds' : List F) (before after : InboxView) (report : RunReport) (pipelines : List (List State)) → before.pipelines ≡ inbox →
      feeds' ≡ back → report.connections ≡ counted → report.pipelines ≡ reported → pipelines ≡ kept → after.pipelines ≡ inbox_kept → after.note.cell ≡ before.note.cell →
      Each (λ (end : ReaderEnd F). knows_as_much end.note after.note) E.reader_ends → after.cells ≡ before.cells → after.asked ≡ most_asked before.asked E.reader_ends → AreKnown after.cells after.asked → KnowsStill before.note after.note → Serves gens to_come faults feeds feeds' before after report pipelines
  serves entries records law ways feeds' before after report pipelines was fed connections done states inboxes cell knows cells asked known still = record {
    lines = lines;
    connections = subst (λ xs. HaveEnded gens to_come faults feeds xs lines report.connections after) (sym fed) (subst (λ xs. HaveEnded gens to_come faults feeds back lines xs after) (sym connections)
        (have_ended after knows (each_enough before.asked E.reader_ends after.asked (subst (λ xs. length (most_asked before.asked E.reader_ends) ≤ length xs) (sym asked) (omega arith)))));
    delivers = subst (λ xs. Delivers gens lines xs report.pipelines) (sym connections) (subst (Delivers gens lines counted) (sym done) (delivers entries law ways));
    behind_marks = λ t p c pipeline connection at finished listed here. behind_marks entries law ways t p c pipeline connection
        (ap (at_pipeline t p) (sym done) ∙ at) finished listed (ap (λ (xs : List ConnectionReport). slice_get xs c) (sym connections) ∙ here);
    reports = done ∙ reports_kept E.worker_ends ∙ ap (map (map report_of)) (sym states);
    processes = λ t p ends ends' state at at' here. processes entries records law ways t p ends ends' state
        (ap (at_pipeline t p) (sym was) ∙ at) (ap (at_pipeline t p) (sym inboxes) ∙ at') (ap (at_pipeline t p) (sym states) ∙ here);
    counts = ap (map length) states ∙ pipelines_counted;
    inbox_for = ap (map length) inboxes ∙ inbox_counted;
    cell = cell;
    still = still;
    cells = cells;
    known = known;
    no_fewer = subst (λ xs. length before.asked ≤ length xs) (sym asked) (most_no_fewer before.asked E.reader_ends);
  }
