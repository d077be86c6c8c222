use Rattle.gate_run_told.proofs.Streams.{the_report_tells_the_streams}
use Rattle.gate_run_told.proofs.the_report_tells_the_streams.Goals as goal

pub returns : goal.returns
returns g c = the_report_tells_the_streams g.F.RecordFeed.to_come g.F.RecordFeed.fault_count
