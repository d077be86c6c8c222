-- The largest batch that a tenant gathers.
use Rattle.std.specs.Prelude.{ℕ}

-- how many items are gathered at most before they are matched
abbrev pub most_gathered : ℕ
most_gathered = 256
