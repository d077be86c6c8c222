-- The bytes of a text, inline or on the heap.
use Rattle.std.specs.Prelude.{ℕ, List, string_bytes}
use Rattle.gate_record.specs.declared.text.TextBytes.{TextBytes}
use Rattle.gate_record.specs.declared.text.TextBytes.TheVariants.{Inline, Heap}

abbrev pub bytes_in : TextBytes → List ℕ
bytes_in (Inline text) = text.bytes
bytes_in (Heap text) = string_bytes text
