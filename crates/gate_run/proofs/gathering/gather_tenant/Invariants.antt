use Rattle.std.specs.Prelude.{◌≡◌, ◌++◌, map, vec_items}
use Rattle.std.specs.Vec.Iter.{into_iter_items}
use Rattle.gate_pipeline.specs.States.{report_of}
use Rattle.gate_run.specs.Inner.Gatherings.{inbox_back}
use Rattle.gate_run_posts.specs.PipelineEnds.{inbox_of}
use Rattle.gate_run.proofs.gathering.gather_tenant.Given as goal

abbrev pub invariant-loop-end : goal.invariant-loop-end
invariant-loop-end l =
    let rest = into_iter_items l.end-iterator in
    let all = l.fn.ends.items in
    (vec_items l.back.seats ++ map (λ end. end.head) rest ≡ map (λ end. end.head) all)
    × (vec_items l.back.served ++ map (λ end. end.state) rest ≡ map (λ end. end.state) all)
    × (map inbox_of (vec_items l.back.inbox) ++ map inbox_back rest ≡ map inbox_back all)
    × (l.back.reports ++ map (λ end. report_of end.state) rest ≡ map (λ end. report_of end.state) all)
