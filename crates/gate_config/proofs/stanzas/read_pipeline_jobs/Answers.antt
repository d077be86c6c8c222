use Rattle.gate_config.proofs.JobLists.{stanza_more}
use Rattle.gate_config.specs.Document.{jobs_for}
use Rattle.gate_config.specs.Inner.Found.{found_view}
use Rattle.gate_config.proofs.stanzas.read_pipeline_jobs.Goals as goal

pub loop-entry-preserved : goal.loop-entry-preserved
loop-entry-preserved c = λ project.
    stanza_more (λ entry. jobs_for c.args.pipeline.now project entry.1) found_view c.args.entries.now c.loop-entry.entry-index c.entry-item.result _ _
    c.loop-entry-test.true c.entry-item.is (c.loop-entry.invariant project) (c.in_ok-add_stanza.ensures project)
