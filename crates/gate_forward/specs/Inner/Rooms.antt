-- The room of a list of items that has a bound.
use Rattle.std.specs.Prelude.{◌-◌, ◌<◌, List, length, reverse}
use Rattle.std.proofs.Common.{arith}
use Rattle.std.proofs.lemmas.List.{length-reverse}
use Rattle.gate_config.specs.Limits.{most_tenants}

-- a list of fewer items leaves room for one
pub room_left : {A : Type 0} (xs : List A) → length (reverse xs) < most_tenants → 0 < most_tenants - length xs
room_left xs fewer = omega (arith, length-reverse xs, fewer)
