-- What a step does to which memory may be refused.
use Rattle.std.specs.Prelude.{◌≡◌, Result, Ok, Err}
use Rattle.gate_record.specs.declared.memory.Memory.{Memory}
use Rattle.gate_core.specs.declared.answer.Answer.{Answer}
use Rattle.gate_core.specs.declared.answer.Answer.TheVariants.{Accepted, Moved, Turned}

-- a step with this answer puts, moves or processes something
abbrev pub Changes : Answer → Type 0
Changes (Accepted n) = Unit {0}
Changes Moved = Unit {0}
Changes (Turned stamp action outcome) = Unit {0}
Changes other = ⊥

-- Either the step leaves and answers what is given. Or memory was refused: then the step would have changed something, and the state that
-- it leaves is the first argument, which is the old one save that a turn may hold what it took.
abbrev pub Does : {S : Type 0} → S → S × Answer → S → Result Answer Memory → Type 0
Does left given new (Ok answer) = (new, answer) ≡ given
Does left given new (Err memory) = (new ≡ left) × Changes given.1
