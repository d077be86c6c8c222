-- What is kept of the line that hasn't ended tells its record, whatever follows.
use Rattle.std.proofs.Common.{◌≡◌, ◌∙◌, ◌++◌, ◌+◌, ◌-◌, ◌<◌, ◌≤◌, ℕ, List, [], ◌∷◌, Bool, true, false, cond, length, take, refl, sym, ap, Option, Some, None, arith, append_assoc, length-append, length-take}
use Rattle.std.specs.Prelude.{◌==◌, nat_lt, slice_index}
use Rattle.std.specs.Option.{option_to_list}
use Rattle.std.specs.Str.Lines.{strip_carriage_return}
use Rattle.std.proofs.lemmas.Bool.{ltb-false, ltb-true}
use Rattle.std.proofs.lemmas.List.{take_all}
use Rattle.std.proofs.lemmas.List.Elements.{All-append}
use Rattle.gate_record.specs.declared.record.Record.{Record}
use Rattle.gate_record.specs.declared.record.Record.TheVariants.{Line, Oversize}
use Rattle.gate_record.specs.Limits.{longest_line}
use Rattle.gate_record.specs.Lines.{ended_records, is_line_feed, record_of_line, unfinished_line}
use Rattle.gate_source.specs.Splitting.{Feeds, Finishes, kept_of}
use Rattle.gate_source.specs.Inner.Splitting.{HasNoFeed, kept_with, record_left, record_with}
use Rattle.gate_source.proofs.Cuts.{all_unfinished, ended_more, last_unfinished, no_feed, none_recorded, records_are, records_onward, unfinished_more}

-- ---- a line that is too long

pub above : (n m : ℕ) (b : Bool) → nat_lt n m ≡ b → n < m → b ≡ true
above n m true e h = refl
above n m false e h = let high : m ≤ n = ltb-false n m e in absurd (omega (arith, high, h))

pub oversize : (line : List ℕ) → longest_line < length line → record_of_line line ≡ Some Oversize
oversize [] h = absurd (omega (arith, h))
oversize (byte ∷ bytes) h = ap (λ b. cond b (Some Oversize) (Some (Line (byte ∷ bytes)))) (above longest_line (length (byte ∷ bytes)) (nat_lt longest_line (length (byte ∷ bytes))) refl h)

stripped_by : (b : Bool) (line : List ℕ) → length line ≤ length (cond b (take (length line - 1) line) line) + 1
stripped_by true line = omega (arith, length-take (length line - 1) line)
stripped_by false line = omega arith

-- a line loses one byte at most
stripped : (line : List ℕ) → length line ≤ length (strip_carriage_return line) + 1
stripped line = stripped_by (slice_index line (length line - 1) == 13) line

pub too_long : (line : List ℕ) → nat_lt (longest_line + 1) (length line) ≡ true → Some Oversize ≡ record_of_line (strip_carriage_return line)
too_long line e =
    let long : longest_line + 1 < length line = ltb-true _ _ e in
    sym (oversize (strip_carriage_return line) (omega (arith, long, stripped line)))

-- a line without the CR at its end is its front
take_by : (b : Bool) (line : List ℕ) → take (length (cond b (take (length line - 1) line) line)) line ≡ cond b (take (length line - 1) line) line
take_by true line = ap (λ n. take n line) (let short : length (take (length line - 1) line) ≡ length line - 1 = omega (arith, length-take (length line - 1) line) in short)
take_by false line = take_all (length line) line (omega arith)

pub stripped_front : (line : List ℕ) → take (length (strip_carriage_return line)) line ≡ strip_carriage_return line
stripped_front line = take_by (slice_index line (length line - 1) == 13) line

-- ---- what is kept

pub longer : (line more : List ℕ) → nat_lt (longest_line + 1) (length line) ≡ true → nat_lt (longest_line + 1) (length (line ++ more)) ≡ true
longer line more e =
    let long : longest_line + 1 < length line = ltb-true _ _ e in
    above (longest_line + 1) (length (line ++ more)) _ refl (omega (arith, long, length-append line more))

pub none_kept : (line : List ℕ) → nat_lt (longest_line + 1) (length line) ≡ true → None ≡ kept_of line
none_kept line e = ap (λ b. cond b None (Some line)) (sym e)

with_by : (b : Bool) (line more : List ℕ) → nat_lt (longest_line + 1) (length line) ≡ b → kept_with (cond b None (Some line)) more ≡ kept_of (line ++ more)
with_by true line more e = none_kept (line ++ more) (longer line more e)
with_by false line more e = refl

pub keeps_more : (line more : List ℕ) → kept_with (kept_of line) more ≡ kept_of (line ++ more)
keeps_more line more = with_by (nat_lt (longest_line + 1) (length line)) line more refl

ends_by : (b : Bool) (line end : List ℕ) → nat_lt (longest_line + 1) (length line) ≡ b → record_with (cond b None (Some line)) end ≡ record_of_line (strip_carriage_return (line ++ end))
ends_by true line end e = too_long (line ++ end) (longer line end e)
ends_by false line end e = refl

-- the record of a line by what was kept of it
pub ends_line : (line end : List ℕ) → record_with (kept_of line) end ≡ record_of_line (strip_carriage_return (line ++ end))
ends_line line end = ends_by (nat_lt (longest_line + 1) (length line)) line end refl

left_by : (b : Bool) (line : List ℕ) → nat_lt (longest_line + 1) (length line) ≡ b → record_left (cond b None (Some line)) ≡ record_of_line line
left_by true line e =
    let long : longest_line + 1 < length line = ltb-true _ _ e in
    sym (oversize line (omega (arith, long)))
left_by false line e = refl

pub leaves_line : (line : List ℕ) → record_left (kept_of line) ≡ record_of_line line
leaves_line line = left_by (nat_lt (longest_line + 1) (length line)) line refl

-- ---- the calls

joined : (bytes more : List ℕ) → HasNoFeed more → HasNoFeed (unfinished_line bytes ++ more)
joined bytes more clear = All-append (λ byte. is_line_feed byte ≡ false) (unfinished_line bytes) more (no_feed bytes) clear

-- a piece in which no line ends
pub feeds_more : (kept : Option (List ℕ)) (piece : List ℕ) (kept' : Option (List ℕ)) → HasNoFeed piece → kept' ≡ kept_with kept piece → Feeds kept piece [] kept'
feeds_more kept piece kept' clear is bytes fed = (
  is
      ∙ ap (λ k. kept_with k piece) fed
      ∙ keeps_more (unfinished_line bytes) piece
      ∙ ap kept_of (sym (unfinished_more bytes piece ∙ all_unfinished (unfinished_line bytes ++ piece) (joined bytes piece clear))),
  sym (ended_more bytes piece ∙ ap (λ rs. ended_records bytes ++ rs) (none_recorded (unfinished_line bytes ++ piece) (joined bytes piece clear))),
)

-- a piece in which the line ends, and others
pub feeds_lines : (kept : Option (List ℕ)) (end more : List ℕ) (records : List Record) (kept' : Option (List ℕ)) → HasNoFeed end →
    records ≡ option_to_list (record_with kept end) ++ ended_records more → kept' ≡ kept_of (unfinished_line more) → Feeds kept (end ++ 10 ∷ more) records kept'
feeds_lines kept end more records kept' clear are is bytes fed =
    let line = unfinished_line bytes ++ end in
    let same : unfinished_line bytes ++ (end ++ 10 ∷ more) ≡ line ++ 10 ∷ more = sym (append_assoc (unfinished_line bytes) end (10 ∷ more)) in
    let whole = joined bytes end clear in (
      is ∙ ap kept_of (sym (unfinished_more bytes (end ++ 10 ∷ more) ∙ ap unfinished_line same ∙ last_unfinished line more whole)),
      ap (λ rs. ended_records bytes ++ rs) (
          are
          ∙ ap (λ k. option_to_list (record_with k end) ++ ended_records more) fed
          ∙ ap (λ r. option_to_list r ++ ended_records more) (ends_line (unfinished_line bytes) end)
          ∙ sym (records_onward line more whole)
          ∙ ap ended_records (sym same)
          )
          ∙ sym (ended_more bytes (end ++ 10 ∷ more)),
    )

pub finishes : (kept : Option (List ℕ)) (left : Option Record) → left ≡ record_left kept → Finishes kept left
finishes kept left is bytes fed =
    ap (λ r. ended_records bytes ++ option_to_list r) (is ∙ ap record_left fed ∙ leaves_line (unfinished_line bytes)) ∙ records_are bytes
