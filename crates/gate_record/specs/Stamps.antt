-- The numbers of stamps.
use Rattle.std.specs.Prelude.{ℕ, ◌==◌, List, Option, Some, None, if◌then◌else◌}
use Rattle.std.specs.List.{filter_map}
use Rattle.gate_record.specs.declared.ids.Stamp.{Stamp}

-- the number of a stamp, where the stamp is of connection c
abbrev pub number_from : ℕ → Stamp → Option ℕ
number_from c stamp = if stamp.conn.0 == c then Some stamp.number else None

-- the numbers of those stamps that are of connection c, in order
abbrev pub numbers_from : ℕ → List Stamp → List ℕ
numbers_from c stamps = filter_map (number_from c) stamps
