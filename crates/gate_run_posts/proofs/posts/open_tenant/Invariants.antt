use Rattle.std.specs.Prelude.{◌≡◌, length, map, vec_items}
use Rattle.gate_run_threads.specs.Lists.{Pairwise}
use Rattle.gate_run_posts.specs.PipelineEnds.{ends_of, inbox_of}
use Rattle.gate_run_posts.specs.Ports.{AreOpened}
use Rattle.gate_run_posts.proofs.posts.open_tenant.Given as goal

abbrev pub invariant-loop-pipeline : goal.invariant-loop-pipeline
invariant-loop-pipeline l =
    (length (vec_items l.posts) ≡ l._pipeline)
    × Pairwise (AreOpened l.places) (map ends_of (vec_items l.posts)) (map inbox_of (vec_items l.inbox))
