-- Further definitions about what comes back of a run, which only private contracts and proofs cite.
use Rattle.std.specs.Prelude.{List, fold}
use Rattle.gate_report.specs.declared.report.ConnectionReport.{ConnectionReport}
use Rattle.gate_source.specs.Stops.{Note}
use Rattle.gate_run_reader.specs.declared.reader.ReaderEnd.{ReaderEnd}
use Rattle.gate_run_worker.specs.declared.worker.WorkerEnd.{WorkerEnd}
use Rattle.gate_run_posts.specs.Asked.{longer}
use Rattle.gate_run_reader.specs.Readers.{counts_of, notes_of}
use Rattle.gate_run_posts.specs.Ports.{InboxEnds}

-- a connection's report: how many records were accepted, how many before each renewal, and why there were no more
abbrev pub report_of_reader : {F : Type 0} → ReaderEnd F → ConnectionReport
report_of_reader end = record { accepted = end.count; renewals = counts_of end.renewals.items; cause = end.cause }

-- the longest of several lists of notes of generations that were asked for: the given one, and those of the readers
abbrev pub most_asked : {F : Type 0} → List Note → List (ReaderEnd F) → List Note
most_asked notes ends = fold (λ (most : List Note) (end : ReaderEnd _). longer most (notes_of end.renewals.items)) notes ends

-- the seats by which a worker took management events and results
abbrev pub inbox_back : WorkerEnd → InboxEnds
inbox_back end = record { management = end.management; results = end.results }
