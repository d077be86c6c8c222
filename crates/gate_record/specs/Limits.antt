-- The numbers that limit records, events, and queues with a bound.
use Rattle.std.specs.Prelude.{ℕ, List, Bool, length, nat_lt}

-- A longer line, its line end not counted, is an oversize record, which isn't read.
abbrev pub longest_line : ℕ
longest_line = 1048576

-- how many approvals of an event are kept
abbrev pub most_approvals : ℕ
most_approvals = 64

-- the places of a connection's queue, and of a pipeline's queues of management events and of results
abbrev pub places : ℕ
places = 4096

-- such a queue has a place left
abbrev pub has_place : {A : Type 0} → List A → Bool
has_place queue = nat_lt (length queue) places
