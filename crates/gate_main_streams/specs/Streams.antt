-- The bytes that a stream has left.
use Rattle.std.specs.Prelude.{ℕ, List, Option}
use Rattle.gate_main_streams.specs.declared.stream.StreamOf.{StreamOf}
use Rattle.gate_main_streams.specs.declared.stream.StreamOf.TheVariants.{File, Tcp, Unix}

-- those of its device
abbrev pub left_of : {F T U : Type 0} → (F → Option (List ℕ)) → (T → Option (List ℕ)) → (U → Option (List ℕ)) → StreamOf F T U → Option (List ℕ)
left_of of_file of_tcp of_unix (File file) = of_file file
left_of of_file of_tcp of_unix (Tcp socket) = of_tcp socket
left_of of_file of_tcp of_unix (Unix socket) = of_unix socket
