use Rattle.std.proofs.Common.{rules, ◌≡◌, ◌∙◌, sym, ap, ◌<◌, length, map, slice_index_or, Some}
use Rattle.std.specs.Prelude.{option_and_then, slice_get}
use Rattle.gate_run_posts.specs.PipelineEnds.{ends_of}
use Rattle.gate_run_posts.specs.Ports.{PostsView, at_pipeline, slice_change, with_change}
use Rattle.gate_run_threads.proofs.Paired.{set_alike}
use Rattle.gate_run_posts.proofs.Posting.{changed, found, within}
use Rattle.gate_run_posts.proofs.posts.Posts.post.Goals as goal

pub returns-in-Err-clause-unchanged : goal.returns-in-Err-clause-unchanged
returns-in-Err-clause-unchanged g c =
    let low : c.args.tenant.0 < length c.self.inside.tenants.items = search rules in
    let seen : c.args.pipeline.0 < length c.index.result.now.items = search rules in
    let tenant = c.index_mut.result.now in
    let pipeline = c.index_mut-posts.result.now in
    let low' = within c.self.inside.tenants.items c.args.tenant.0 c.args.pipeline.0 c.index.result.now tenant low c.index.ensures c.index_mut.ensures.value seen in
    let inner = set_alike ends_of tenant.items c.args.pipeline.0 _ pipeline low' (c.in-Err.ensures.refused.1 ∙ ap ends_of c.index_mut-posts.ensures.value) ∙ ap (λ v. map ends_of v.items) c.index_mut.ensures.value in
    let whole = set_alike (λ v. map ends_of v.items) c.self.inside.tenants.items c.args.tenant.0 _ tenant low inner in
    (λ i. record { pipelines = whole i; note = c.self.inside.asked.note; cells = c.self.inside.asked.cells; asked = c.self.inside.asked.asked }) ∙ c.self.view_is

pub returns-in-Err-clause-judges : goal.returns-in-Err-clause-judges
returns-in-Err-clause-judges g c =
    let low : c.args.tenant.0 < length c.self.inside.tenants.items = search rules in
    let seen : c.args.pipeline.0 < length c.index.result.now.items = search rules in (
      ends_of c.index_mut-posts.result.now,
      ap (λ (view : PostsView). at_pipeline c.args.tenant.0 c.args.pipeline.0 view.pipelines) (sym c.self.view_is)
          ∙ found c.self.inside.tenants.items c.args.tenant.0 c.args.pipeline.0 c.index.result.now c.index_mut.result.now c.index_mut-posts.result.now low c.index.ensures c.index_mut.ensures.value seen c.index_mut-posts.ensures.value,
      c.in-Err.ensures.full,
    )

pub returns-clause-posts : goal.returns-clause-posts
returns-clause-posts g c =
    let low : c.args.tenant.0 < length c.self.inside.tenants.items = search rules in
    let seen : c.args.pipeline.0 < length c.index.result.now.items = search rules in
    let tenant = c.index_mut.result.now in
    let low' = within c.self.inside.tenants.items c.args.tenant.0 c.args.pipeline.0 c.index.result.now tenant low c.index.ensures c.index_mut.ensures.value seen in
    let change = g.T.Post.after c.args.value in
    let inner = changed ends_of tenant.items c.args.pipeline.0 _ c.index_mut-posts.result.now change low' (c.in_default.ensures.puts ∙ ap (λ x. change (ends_of x)) c.index_mut-posts.ensures.value)
    ∙ ap (λ v. slice_change c.args.pipeline.0 change (map ends_of v.items)) c.index_mut.ensures.value in
    let whole = changed (λ v. map ends_of v.items) c.self.inside.tenants.items c.args.tenant.0 _ tenant (slice_change c.args.pipeline.0 change) low inner in
    (λ i. record { pipelines = whole i; note = c.self.inside.asked.note; cells = c.self.inside.asked.cells; asked = c.self.inside.asked.asked }) ∙ ap (with_change c.args.tenant.0 c.args.pipeline.0 change) c.self.view_is

pub returns-clause-judges : goal.returns-clause-judges
returns-clause-judges g c =
    let low : c.args.tenant.0 < length c.self.inside.tenants.items = search rules in
    let seen : c.args.pipeline.0 < length c.index.result.now.items = search rules in (
      ends_of c.index_mut-posts.result.now,
      ap (λ (view : PostsView). at_pipeline c.args.tenant.0 c.args.pipeline.0 view.pipelines) (sym c.self.view_is)
          ∙ found c.self.inside.tenants.items c.args.tenant.0 c.args.pipeline.0 c.index.result.now c.index_mut.result.now c.index_mut-posts.result.now low c.index.ensures c.index_mut.ensures.value seen c.index_mut-posts.ensures.value,
    )
