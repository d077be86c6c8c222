-- The mask to which two masks are joined.
use Rattle.std.specs.Prelude.{List, Bool}
use Rattle.gate_match_rules.specs.declared.mask.Joining.{Joining}
use Rattle.gate_match_rules.specs.declared.mask.Joining.TheVariants.{Both, Either}
use Rattle.gate_match_rules.specs.Marks.{both, either}

abbrev pub joined : Joining → List Bool → List Bool → List Bool
joined Both mask other = both mask other
joined Either mask other = either mask other
