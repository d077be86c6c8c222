use Rattle.std.proofs.Common.{◌≡◌, ◌<◌, ◌^◌, take, true}
use Rattle.std.specs.List.{list_all}
use Rattle.gate_line.specs.Words.{is_digit, value_of}
use Rattle.gate_line.proofs.words.value_of.Given as goal

-- the bytes so far are digits of this value
abbrev pub invariant-loop-byte : goal.invariant-loop-byte
invariant-loop-byte l = record {
  digits : list_all is_digit (take l.byte-index l.text) ≡ true;
  so_far : l.value ≡ value_of (take l.byte-index l.text);
  small : l.value < 2 ^ 64;
}
