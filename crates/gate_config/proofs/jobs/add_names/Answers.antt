use Rattle.gate_config.proofs.JobLists.{job_some, job_none}
use Rattle.gate_config.proofs.Picked.{nothing}
use Rattle.gate_config.proofs.jobs.add_names.Goals.{in-Some+in_ok-add, in_default}
use Rattle.gate_config.proofs.jobs.add_names.Goals as goal

pub loop-job-preserved : goal.loop-job-preserved
loop-job-preserved c =
    elim c.match-name_in.branch [
      | in-Some+in_ok-add w ↦
          rw w.list-is
          (job_some c.args.jobs.now c.loop-job.job-index c.job-item.result c.args.list.now c.loop-job.list _ _
          c.loop-job-test.true c.job-item.is c.loop-job.invariant w.in-Some.ensures w.in_ok-add.ensures)
      | in_default w ↦
          rw w.list-is
          (job_none c.args.jobs.now c.loop-job.job-index c.job-item.result c.args.list.now c.loop-job.list
          c.loop-job-test.true c.job-item.is c.loop-job.invariant (nothing _ _ _ c.name_in.ensures w.in_default.not-Some))
    ]
