use Rattle.std.proofs.Common.{◌∙◌, sym, length, map}
use Rattle.gate_run_posts.specs.PipelineEnds.{ends_of, inbox_of}
use Rattle.gate_run_posts.specs.Ports.{AreOpened}
use Rattle.gate_run_threads.proofs.Places.{as_long}
use Rattle.gate_run_threads.proofs.Seated.{map_map}
use Rattle.gate_run_posts.proofs.posts.Inbox.without_posts.Goals as goal

pub returns-clause-for_config : goal.returns-clause-for_config
returns-clause-for_config c =
    sym (as_long (AreOpened 1) (map (λ tenant. map ends_of tenant.items) c.in_ok-_posts._posts.items) (map (λ tenant. map inbox_of tenant.items) c.in_ok-_posts.tenants.items) c.in_ok-_posts.ensures.opened)
    ∙ map_map length (λ tenant. map ends_of tenant.items) c.in_ok-_posts._posts.items ∙ c.in_ok-_posts.ensures.counts
