-- The word that is printed for each reason why an action is discarded.
use Rattle.std.specs.Prelude.{ℕ, List, codes}
use Rattle.gate_items.specs.declared.action.Discard.{Discard}
use Rattle.gate_items.specs.declared.action.Discard.TheVariants.{NoKey, NoJobs, Known, Older, NotCurrent, NoJob, Repeated, NoItem, Numbers}

abbrev pub discard_word : Discard → List ℕ
discard_word NoKey = codes "no-key"
discard_word NoJobs = codes "no-jobs"
discard_word Known = codes "known"
discard_word Older = codes "older"
discard_word NotCurrent = codes "not-current"
discard_word NoJob = codes "no-job"
discard_word Repeated = codes "repeated"
discard_word NoItem = codes "no-item"
discard_word Numbers = codes "numbers"
