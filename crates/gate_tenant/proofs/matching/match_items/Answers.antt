use Rattle.std.proofs.Common.{◌∙◌, ap, map, ℕ, Vec, Global}
use Rattle.gate_match.specs.Selecting.{masks_of}
use Rattle.gate_tenant.specs.Inner.Batches.{rows_of}
use Rattle.gate_tenant.proofs.matching.match_items.Goals as goal

pub push_all-requires : goal.push_all-requires
push_all-requires c =
    ap (map (λ (mask : Vec ℕ Global). mask.items)) c.as_slice.ensures.value ∙ c.in_ok-masks.ensures
    ∙ (λ j. masks_of (c.requires.of_gens j) (c.requires.of_tenant j) (rows_of c.args.gathered.now))
