-- Which text each address has on the command line.
use Rattle.std.specs.Prelude.{◌≢◌, ℕ, List, ◌++◌, codes}
use Rattle.gate_main_streams.specs.declared.address.Address.{Address}
use Rattle.gate_main_streams.specs.declared.address.Address.TheVariants as address

abbrev pub text_of : Address → List ℕ
text_of (address.File path) = codes "file:" ++ path.now
text_of (address.Tcp place) = codes "tcp:" ++ place.now
text_of (address.Unix path) = codes "unix:" ++ path.now

-- no address has this text
abbrev pub IsNoAddress : List ℕ → Type 0
IsNoAddress text = (a : Address) → text_of a ≢ text
