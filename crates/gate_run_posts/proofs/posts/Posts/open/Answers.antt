use Rattle.std.proofs.Common.{rules, ◌∙◌, sym, ap, length, map}
use Rattle.gate_record.specs.Limits.{places}
use Rattle.gate_run_posts.specs.Asked.{AskedView}
use Rattle.gate_run_posts.specs.PipelineEnds.{ends_of, inbox_of}
use Rattle.gate_run_posts.specs.Ports.{AreOpened, pipeline_counts}
use Rattle.gate_run_threads.proofs.Places.{as_long}
use Rattle.gate_run_threads.proofs.Seated.{map_map}
use Rattle.gate_run_posts.proofs.posts.Posts.open.Goals as goal

pub returns : goal.returns
returns c =
    let counts = map_map length (λ tenant. map ends_of tenant.items) c.in_ok-posts.posts.items ∙ c.in_ok-posts.ensures.counts ∙ ap pipeline_counts c.first.ensures in
    let sides = c.in_ok-asked.ensures in
    record {
      tenants = counts;
      inbox_for = sym (as_long (AreOpened places) (map (λ tenant. map ends_of tenant.items) c.in_ok-posts.posts.items) (map (λ tenant. map inbox_of tenant.items) c.in_ok-posts.inbox.items) c.in_ok-posts.ensures.opened) ∙ counts;
      opened = c.in_ok-posts.ensures.opened;
      cell = ap (λ (v : AskedView). v.note.cell) sides.knows_nothing ∙ sym (ap (λ (v : AskedView). v.note.cell) sides.nor_the_other);
      knows_none = (ap (λ (v : AskedView). v.note.cause) sides.knows_nothing, ap (λ (v : AskedView). v.note.cause) sides.nor_the_other);
      cells = ap (λ (v : AskedView). v.cells) sides.knows_nothing ∙ sym (ap (λ (v : AskedView). v.cells) sides.nor_the_other);
      how_many = search rules;
      none_asked = (ap (λ (v : AskedView). v.asked) sides.knows_nothing, ap (λ (v : AskedView). v.asked) sides.nor_the_other);
    }
