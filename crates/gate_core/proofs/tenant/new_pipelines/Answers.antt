use Rattle.std.proofs.Common.{◌∙◌, sym, ap, ◌∷◌, ◌++◌, [], List, map, arith}
use Rattle.std.specs.List.{range_with_len}
use Rattle.std.proofs.lemmas.List.FromFn.{map-range_with_len_more}
use Rattle.gate_core.specs.declared.pipeline.Pipeline.{Pipeline}
use Rattle.gate_core.specs.Pipelines.{fresh_pipeline}
use Rattle.gate_core.proofs.tenant.new_pipelines.Goals as goal

pub loop-number-preserved : goal.loop-number-preserved
loop-number-preserved c =
    let made = fresh_pipeline c.args.config.now c.args.tenant.0 in
    let n = c.loop-number.number in
    c.in_ok-push.ensures.items
    ∙ ap (λ (pipelines : List Pipeline). pipelines ++ c.new.result ∷ []) c.loop-number.invariant
    ∙ ap (λ (pipe : Pipeline). map made (range_with_len 0 n) ++ pipe ∷ []) c.new.ensures
    ∙ sym (map-range_with_len_more made 0 n n (omega arith))
