-- The largest batch.
use Rattle.std.specs.Prelude.{ℕ}

-- how many events a batch may have: as many as a tenant gathers
abbrev pub most_rows : ℕ
most_rows = 256
