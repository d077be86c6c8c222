use Rattle.std.specs.Prelude.{◌≡◌, ◌++◌, map, vec_items}
use Rattle.std.specs.Vec.Iter.{into_iter_items}
use Rattle.gate_source.specs.Stops.{IsNoteOf, Note}
use Rattle.gate_run_reader.specs.Asked.{AreKnown}
use Rattle.gate_run_posts.specs.Asked.{KnowsStill}
use Rattle.gate_run_posts.specs.Asked.{knows_as_much}
use Rattle.gate_run.specs.Inner.Gatherings.{most_asked, report_of_reader}
use Rattle.gate_run_threads.specs.Lists.{Each}
use Rattle.gate_run_reader.specs.Readers.{notes_of}
use Rattle.gate_run.proofs.gathering.gather_readers.Given as goal

-- what was gathered, with what is left, is all; a note that knows as much as this one and those that are left knows as much as
-- all; and the most notes among these and what is left are those among all
abbrev pub invariant-loop-end : goal.invariant-loop-end
invariant-loop-end g l =
    let rest = into_iter_items l.end-iterator in
    let all = l.fn.ends.items in
    (vec_items l.back.served ++ map (λ end. end.feed) rest ≡ map (λ end. end.feed) all)
    × (vec_items l.back.seats ++ map (λ end. end.tail) rest ≡ map (λ end. end.tail) all)
    × (l.back.reports ++ map report_of_reader rest ≡ map report_of_reader all)
    × IsNoteOf l.fn.asked.note.cell l.back.inbox.note
    × Each (λ end. IsNoteOf l.fn.asked.note.cell end.note) rest
    × ((note : Note) → knows_as_much l.back.inbox.note note → Each (λ end. knows_as_much end.note note) rest → Each (λ end. knows_as_much end.note note) all)
    × (l.back.inbox.cells ≡ l.fn.asked.cells)
    × Each (λ end. AreKnown l.fn.asked.cells (notes_of end.renewals.items)) rest
    × (most_asked l.back.inbox.asked rest ≡ most_asked l.fn.asked.asked all)
    × KnowsStill l.fn.asked.note l.back.inbox.note
