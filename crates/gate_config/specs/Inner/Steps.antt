-- A place of a document, as it is kept while the document is read.
use Rattle.std.specs.Prelude.{List}
use Rattle.gate_config.specs.Places.{below, nth, whole}
use Rattle.gate_config.specs.declared.path.Step.{Step}
use Rattle.gate_config.specs.declared.places.Place.{Place, Document, Member', Item'}

-- the steps to a place, from the whole document on
abbrev pub steps_of : Place → List Step
steps_of Document = whole
steps_of (Member' p up key) = below (steps_of up) key.now
steps_of (Item' p up position) = nth (steps_of up) position
