use denote.Param.Send.{sendable}
use Rattle.std.proofs.Common.{◌∙◌, ap, map}
use Rattle.std.proofs.Crossing.{crosses}
use Rattle.gate_config.specs.declared.generations.Generations.{Generations}
use Rattle.gate_report_text.specs.ReportText.{report_text}
use Rattle.gate_main_program.proofs.serving.run_told.Goals as goal

pub serve-requires-sync-G : goal.serve-requires-sync-G
serve-requires-sync-G g c κs within = let y = c.journaling_crosses.ensures.send in search (sendable, crosses) depth 40 fits 20000

pub returns : goal.returns
returns g c =
    let served = c.in_ok-served.served in
    record {
      feeds = c.args.feeds.items;
      feeds_after = served.feeds.items;
      inbox = c.args.inbox;
      inbox_after = served.inbox;
      report = served.report;
      pipelines = map (λ row. row.items) served.pipelines.items;
      serves = rw c.get-2.ensures at c.in_ok-served.ensures;
      says = c.in_ok-report.ensures ∙ ap (λ config. report_text config served.report) (c.first.ensures ∙ ap (λ (gens : Generations). gens.first) c.get-3.ensures);
    }
