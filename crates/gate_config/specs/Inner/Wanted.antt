-- What each item of a list must be.
use Rattle.std.specs.Prelude.{ℕ, List, [], ◌∷◌, Bool, is_some}
use Rattle.serde_json.specs.Data.{Data}
use Rattle.gate_config.specs.declared.path.Step.{Step}
use Rattle.gate_config.specs.declared.fault.ConfigFault.TheVariants.{Shape}
use Rattle.gate_config.specs.declared.wanted.Wanted.{Wanted}
use Rattle.gate_config.specs.declared.wanted.Wanted.TheVariants.{Object, Job, Project}
use Rattle.gate_config.specs.Checks.{is_entry}
use Rattle.gate_config.specs.Document.{name_in}
use Rattle.gate_config.specs.Faults.{Asks, Check}
use Rattle.gate_config.specs.Parts.{is_object}
use Rattle.gate_config.specs.Places.{nth}

abbrev pub wants : Wanted → Data → Bool
wants Object item = is_object item
wants Job item = is_some (name_in item)
wants Project item = is_entry item

abbrev pub wanted_checks : Wanted → List Step → ℕ → Data → List Check
wanted_checks wanted place position item = Asks (wants wanted item) (Shape (nth place position)) ∷ []
