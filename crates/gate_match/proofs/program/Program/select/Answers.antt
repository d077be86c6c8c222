use Rattle.std.proofs.Common.{◌∙◌, ap, ap₂, sym, ℕ, List, [], ◌∷◌, ◌++◌, map, arith, Vec, Global}
use Rattle.std.specs.List.{zip}
use Rattle.std.proofs.lemmas.List.{map-append}
use Rattle.std.proofs.lemmas.List.FromFn.{map-range_with_len_more}
use Rattle.gate_match.specs.Selecting.{mask_of}
use Rattle.gate_match.proofs.program.Program.select.Goals as goal

abbrev items : Vec ℕ Global → List ℕ
items mask = mask.items

pub loop-pipeline-init : goal.loop-pipeline-init
loop-pipeline-init c = record { right = c.none-answers.ensures c.args.columns.now; masks = ap (map items) c.new-masks.ensures.items }

pub loop-pipeline-preserved : goal.loop-pipeline-preserved
loop-pipeline-preserved c =
    let f = λ (p : ℕ). mask_of c.args.self.now.gens.now c.args.self.now.tenant.0 p (zip (zip c.args.gens.now c.args.conns.now) c.args.columns.now) in
    let n = c.loop-pipeline.pipeline in
    record {
      right = c.mask.ensures.right;
      masks =
          ap (map items) c.in_ok-push.ensures.items
          ∙ map-append items c.loop-pipeline.masks.items (c.in_ok-mask.mask ∷ [])
          ∙ ap₂ ◌++◌ c.loop-pipeline.invariant.masks (ap (λ mask. mask ∷ []) c.in_ok-mask.ensures.mask)
          ∙ sym (map-range_with_len_more f 0 n n (omega arith));
    }
