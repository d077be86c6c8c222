-- How much a session may send.
use Rattle.std.specs.Prelude.{ℕ}

-- how many bytes of a session are read at most
abbrev pub longest_session : ℕ
longest_session = 1048576
