-- How a run is finished once all threads have returned: what they must have handed back, and what is made of it.
use Rattle.std.specs.Prelude.{◌≡◌, ◌∷◌, [], List, length, map}
use Rattle.std.specs.List.{range_with_len}
use Rattle.gate_pipeline.specs.States.{report_of}
use Rattle.gate_source.specs.Stops.{IsNoteOf}
use Rattle.gate_run_threads.specs.Lists.{Each}
use Rattle.gate_run_threads.specs.QueueGroups.{AreGroupsSettled, AreQueuesSettled}
use Rattle.gate_run_threads.specs.Seats.{seat_in, seat_of}
use Rattle.gate_run_reader.specs.declared.reader.ReaderEnd.{ReaderEnd}
use Rattle.gate_run_reader.specs.Asked.{AreKnown}
use Rattle.gate_run_reader.specs.Readers.{notes_of}
use Rattle.gate_run_posts.specs.Asked.{AskedView, KnowsStill, knows_as_much}
use Rattle.gate_run.specs.Inner.Queues.{Queues}
use Rattle.gate_run.specs.declared.serving.Served.{Served}
use Rattle.gate_run.specs.Inner.Gatherings.{inbox_back, most_asked, report_of_reader}
use Rattle.gate_run.specs.Inner.Works.{Ends}

-- All seats of these queues came back: of each queue the taker's seat, and the seats of all its senders. A connection's queue has one
-- sender, its reader; a tenant's queue has all forwarders; a trigger queue has one, the worker of its tenant.
pub record AreAllSeats {F : Type 0} (queues : Queues) (ends : Ends F) : Type 0 where
  pub record_senders : map (λ queue. queue.name.senders) queues.records.items ≡ map (λ queue. 1) queues.records.items
  pub record_heads : map (λ end. end.head.queue) ends.forwarders.items ≡ map (λ queue. queue.name) queues.records.items
  pub record_tails : map (λ end. seat_of end.tail) ends.readers.items ≡ map (seat_in 0) queues.records.items
  pub item_senders : map (λ queue. queue.name.senders) queues.items.items ≡ map (λ queue. length ends.forwarders.items) queues.items.items
  pub item_heads : map (λ end. end.head.queue) ends.tenant_workers.items ≡ map (λ queue. queue.name) queues.items.items
  pub item_tails : map (λ end. map seat_of end.tails.items) ends.forwarders.items ≡ map (λ s. map (seat_in s) queues.items.items) (range_with_len 0 (length ends.forwarders.items))
  pub trigger_senders : map (λ group. map (λ queue. queue.name.senders) group.items) queues.triggers.items ≡ map (λ group. map (λ queue. 1) group.items) queues.triggers.items
  pub trigger_heads : map (λ list. map (λ end. end.head.queue) list.items) ends.workers.items ≡ map (λ group. map (λ queue. queue.name) group.items) queues.triggers.items
  pub trigger_tails : map (λ end. map seat_of end.tails.items) ends.tenant_workers.items ≡ map (λ group. map (seat_in 0) group.items) queues.triggers.items

-- What readers know is of what this run can be asked for: each one's note is of the stop cell, and its notes of renewals are of the first
-- cells of the later generations, in order.
pub record AreNotesFor {F : Type 0} (asked : AskedView) (ends : List (ReaderEnd F)) : Type 0 where
  pub of_stop : Each (λ (end : ReaderEnd F). IsNoteOf asked.note.cell end.note) ends
  pub of_renewals : Each (λ (end : ReaderEnd F). AreKnown asked.cells (notes_of end.renewals.items)) ends

-- What threads handed back and what the run was asked for are what is served, thread by thread.
pub record IsServed {F : Type 0} (ends : Ends F) (before : AskedView) (served : Served F) : Type 0 where
  pub feeds : served.feeds.items ≡ map (λ end. end.feed) ends.readers.items
  pub connections : served.report.connections ≡ map report_of_reader ends.readers.items
  pub reports : served.report.pipelines ≡ map (λ list. map (λ end. report_of end.state) list.items) ends.workers.items
  pub pipelines : map (λ row. row.items) served.pipelines.items ≡ map (λ list. map (λ end. end.state) list.items) ends.workers.items
  pub inbox : served.inbox.pipelines ≡ map (λ list. map inbox_back list.items) ends.workers.items
  -- the note of the stop cell knows a cause if it knew one before or any reader's note does
  pub cell : IsNoteOf before.note.cell served.inbox.note
  pub knows : Each (λ (end : ReaderEnd F). knows_as_much end.note served.inbox.note) ends.readers.items
  pub still : KnowsStill before.note served.inbox.note
  -- the cells of the later generations are the same, and the notes of them are the most that anyone has
  pub cells : served.inbox.cells ≡ before.cells
  pub asked : served.inbox.asked ≡ most_asked before.asked ends.readers.items
  pub known : AreKnown served.inbox.cells served.inbox.asked

-- All of these queues are ended, and whatever was put into one of them was taken, or waited when it was ended.
pub record AreAllSettled {F : Type 0} (queues : Queues) (ends : Ends F) : Type 0 where
  pub records : AreQueuesSettled queues.records.items (map (λ end. end.head) ends.forwarders.items) (map (λ end. end.tail) ends.readers.items ∷ [])
  pub items : AreQueuesSettled queues.items.items (map (λ end. end.head) ends.tenant_workers.items) (map (λ end. end.tails.items) ends.forwarders.items)
  pub triggers : AreGroupsSettled (map (λ group. group.items) queues.triggers.items) (map (λ list. map (λ end. end.head) list.items) ends.workers.items) (map (λ end. end.tails.items) ends.tenant_workers.items)
