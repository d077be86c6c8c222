use Rattle.std.specs.Prelude.{◌≡◌, length, map, vec_items}
use Rattle.std.specs.List.{range_with_len}
use Rattle.gate_config.specs.Lookups.{pipelines_of}
use Rattle.gate_run_threads.specs.Lists.{Pairwise}
use Rattle.gate_run_posts.specs.PipelineEnds.{ends_of, inbox_of}
use Rattle.gate_run_posts.specs.Ports.{AreOpened}
use Rattle.gate_run_posts.proofs.posts.open_tenants.Given as goal

abbrev pub invariant-loop-number : goal.invariant-loop-number
invariant-loop-number l =
    (map (λ tenant. length (map ends_of tenant.items)) (vec_items l.posts) ≡ map (λ t. length (pipelines_of l.config t)) (range_with_len 0 l.number))
    × Pairwise (Pairwise (AreOpened l.places)) (map (λ tenant. map ends_of tenant.items) (vec_items l.posts)) (map (λ tenant. map inbox_of tenant.items) (vec_items l.inbox))
