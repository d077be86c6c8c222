-- Worked cases of the definitions, in which M is all ones.
use Rattle.std.proofs.Common.{◌≡◌, [], ◌∷◌, refl}
use Rattle.gate_lanes.specs.Masks.{both, cleared_where, count_marked, either, marked_any, marked_slots}
use Rattle.gate_lanes.specs.declared.TheConstants.{MARKED as M}

no_rows : marked_any (1 ∷ []) [] ≡ []
no_rows = refl

no_ids : marked_any [] (0 ∷ 3 ∷ []) ≡ 0 ∷ 0 ∷ []
no_ids = refl

one_id : marked_any (1 ∷ []) (1 ∷ 0 ∷ 2 ∷ 1 ∷ []) ≡ M ∷ 0 ∷ 0 ∷ M ∷ []
one_id = refl

in_a_slot_each : marked_slots (1 ∷ 0 ∷ 2 ∷ 1 ∷ []) 2 1 ≡ M ∷ M ∷ []
in_a_slot_each = refl

in_the_second_slot : marked_slots (1 ∷ 0 ∷ 2 ∷ 1 ∷ []) 2 2 ≡ M ∷ 0 ∷ []
in_the_second_slot = refl

in_both : both (M ∷ M ∷ 0 ∷ []) (M ∷ 0 ∷ M ∷ []) ≡ M ∷ 0 ∷ 0 ∷ []
in_both = refl

in_either : either (M ∷ 0 ∷ 0 ∷ []) (0 ∷ 0 ∷ M ∷ []) ≡ M ∷ 0 ∷ M ∷ []
in_either = refl

cleared : cleared_where (M ∷ M ∷ 0 ∷ []) (0 ∷ M ∷ M ∷ []) ≡ M ∷ 0 ∷ 0 ∷ []
cleared = refl

counted : count_marked (M ∷ 0 ∷ M ∷ []) ≡ 2
counted = refl
