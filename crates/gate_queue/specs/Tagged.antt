-- Values of a queue, each with the number of the sender that put it.
use Rattle.std.specs.Prelude.{ℕ, ◌==◌, List, [], ◌∷◌, if◌then◌else◌}
use Rattle.gate_queue.specs.declared.tagged.Tagged.{Tagged}

-- the values of one sender, in their order
abbrev pub values_of : {T : Type 0} → ℕ → List (Tagged T) → List T
values_of s [] = []
values_of s (x ∷ xs) = if x.sender == s then x.value ∷ values_of s xs else values_of s xs
