use Rattle.std.specs.Prelude.{◌≡◌, ◌++◌, map, vec_items}
use Rattle.std.specs.Vec.Iter.{into_iter_items}
use Rattle.gate_pipeline.specs.States.{report_of}
use Rattle.gate_run.specs.Inner.Gatherings.{inbox_back}
use Rattle.gate_run_posts.specs.PipelineEnds.{inbox_of}
use Rattle.gate_run.proofs.gathering.gather_workers.Given as goal

abbrev pub invariant-loop-ends : goal.invariant-loop-ends
invariant-loop-ends l =
    let rest = into_iter_items l.ends-iterator in
    let all = l.fn.lists.items in
    (map (λ row. row.items) (vec_items l.heads) ++ map (λ ends. map (λ end. end.head) ends.items) rest ≡ map (λ ends. map (λ end. end.head) ends.items) all)
    × (map (λ row. row.items) (vec_items l.pipelines) ++ map (λ ends. map (λ end. end.state) ends.items) rest ≡ map (λ ends. map (λ end. end.state) ends.items) all)
    × (map (λ row. map inbox_of row.items) (vec_items l.inbox) ++ map (λ ends. map inbox_back ends.items) rest ≡ map (λ ends. map inbox_back ends.items) all)
    × (l.reports ++ map (λ ends. map (λ end. report_of end.state) ends.items) rest ≡ map (λ ends. map (λ end. report_of end.state) ends.items) all)
