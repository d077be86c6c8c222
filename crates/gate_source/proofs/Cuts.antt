-- How the lines of a text follow from those of its parts.
use Rattle.std.proofs.Common.{◌≡◌, ◌∙◌, ◌++◌, ◌<◌, ℕ, suc, List, [], ◌∷◌, Bool, true, false, cond, length, map, refl, sym, ap, subst, Option, Some, None, arith, append_assoc, append-nil}
use Rattle.std.specs.Prelude.{◌==◌}
use Rattle.std.specs.List.{cons_option, filter_map, slice_split}
use Rattle.std.specs.Option.{option_to_list}
use Rattle.std.specs.Str.Lines.{lines_of_parts, strip_carriage_return}
use Rattle.std.proofs.Common.{◌≤◌, ◌+◌, take, drop, get_or, length-take}
use Rattle.std.specs.Prelude.{nat_lt, position}
use Rattle.std.specs.List.{after_first, before_first, position_or_len}
use Rattle.std.proofs.lemmas.Bool.{eqb-true, ltb-false, ltb-true}
use Rattle.std.proofs.lemmas.Option.{cond_some}
use Rattle.std.proofs.lemmas.List.Sums.{fails_before_first, passes_at_first, split_at_first}
use Rattle.std.proofs.lemmas.List.{get_or-take}
use Rattle.std.proofs.lemmas.List.Elements.{All-nil, All-cons, filter_map-append}
use Rattle.std.proofs.lemmas.List.Splits.{slice_split_at, slice_split_none, length-slice_split}
use Rattle.gate_record.specs.declared.record.Record.{Record}
use Rattle.gate_record.specs.Lines.{all_but_last, ended_lines, ended_records, is_line_feed, last_of, record_of_line, records_of, unfinished_line}
use Rattle.gate_source.specs.Inner.Splitting.{HasNoFeed}

-- ---- one line

pub none_ended : (line : List ℕ) → HasNoFeed line → ended_lines line ≡ []
none_ended line clear = ap (λ parts. map strip_carriage_return (all_but_last parts)) (slice_split_none is_line_feed line clear)

pub all_unfinished : (line : List ℕ) → HasNoFeed line → unfinished_line line ≡ line
all_unfinished line clear = ap last_of (slice_split_none is_line_feed line clear)

front_onward : (part : List ℕ) (parts : List (List ℕ)) → 0 < length parts → all_but_last (part ∷ parts) ≡ part ∷ all_but_last parts
front_onward part [] some = absurd (omega (arith, some))
front_onward part (next ∷ parts) some = refl

last_onward : (part : List ℕ) (parts : List (List ℕ)) → 0 < length parts → last_of (part ∷ parts) ≡ last_of parts
last_onward part [] some = absurd (omega (arith, some))
last_onward part (next ∷ parts) some = refl

some_part : (bytes : List ℕ) → 0 < length (slice_split is_line_feed bytes)
some_part bytes = omega (arith, length-slice_split is_line_feed bytes)

pub first_ended : (line rest : List ℕ) → HasNoFeed line → ended_lines (line ++ 10 ∷ rest) ≡ strip_carriage_return line ∷ ended_lines rest
first_ended line rest clear =
    ap (λ parts. map strip_carriage_return (all_but_last parts)) (slice_split_at is_line_feed line 10 rest clear refl)
    ∙ ap (map strip_carriage_return) (front_onward line (slice_split is_line_feed rest) (some_part rest))

pub last_unfinished : (line rest : List ℕ) → HasNoFeed line → unfinished_line (line ++ 10 ∷ rest) ≡ unfinished_line rest
last_unfinished line rest clear =
    ap last_of (slice_split_at is_line_feed line 10 rest clear refl) ∙ last_onward line (slice_split is_line_feed rest) (some_part rest)

-- ---- any text

-- a text is a line that hasn't ended, or one that has and a text
pub data Cut : List ℕ → Type 0 where
  ends : {line : List ℕ} → HasNoFeed line → Cut line
  follows : (line : List ℕ) {rest : List ℕ} → HasNoFeed line → Cut rest → Cut (line ++ 10 ∷ rest)

pub nothing : HasNoFeed []
nothing = All-nil (λ byte. is_line_feed byte ≡ false)

pub one_more : (byte : ℕ) (line : List ℕ) → is_line_feed byte ≡ false → HasNoFeed line → HasNoFeed (byte ∷ line)
one_more byte line clear all = All-cons (λ b. is_line_feed b ≡ false) byte line clear all

cut_one : (byte : ℕ) {bytes : List ℕ} → is_line_feed byte ≡ false → Cut bytes → Cut (byte ∷ bytes)
cut_one byte clear (ends {line} all) = ends (one_more byte line clear all)
cut_one byte clear (follows line all rest) = follows (byte ∷ line) (one_more byte line clear all) rest

cut_by : (b : Bool) (byte : ℕ) {bytes : List ℕ} → is_line_feed byte ≡ b → Cut bytes → Cut (byte ∷ bytes)
cut_by true byte {bytes} is rest = subst (λ x. Cut (x ∷ bytes)) (sym (eqb-true byte 10 is)) (follows [] nothing rest)
cut_by false byte is rest = cut_one byte is rest

pub cut : (bytes : List ℕ) → Cut bytes
cut [] = ends nothing
cut (byte ∷ bytes) = cut_by (is_line_feed byte) byte refl (cut bytes)

no_feed_by : {bytes : List ℕ} → Cut bytes → HasNoFeed (unfinished_line bytes)
no_feed_by (ends {line} clear) = subst HasNoFeed (sym (all_unfinished line clear)) clear
no_feed_by (follows line {rest} clear more) = subst HasNoFeed (sym (last_unfinished line rest clear)) (no_feed_by more)

-- the line that hasn't ended has no line feed
pub no_feed : (bytes : List ℕ) → HasNoFeed (unfinished_line bytes)
no_feed bytes = no_feed_by (cut bytes)

ended_by : {bytes : List ℕ} (more : List ℕ) → Cut bytes → ended_lines (bytes ++ more) ≡ ended_lines bytes ++ ended_lines (unfinished_line bytes ++ more)
ended_by more (ends {line} clear) =
    sym (ap (λ line'. ended_lines (line' ++ more)) (all_unfinished line clear)) ∙ sym (ap (λ ls. ls ++ ended_lines (unfinished_line line ++ more)) (none_ended line clear))
ended_by more (follows line {rest} clear tail) =
    ap ended_lines (append_assoc line (10 ∷ rest) more)
    ∙ first_ended line (rest ++ more) clear
    ∙ ap (λ ls. strip_carriage_return line ∷ ls) (ended_by more tail)
    ∙ sym (ap (λ ls. ls ++ ended_lines (unfinished_line rest ++ more)) (first_ended line rest clear))
    ∙ sym (ap (λ last. ended_lines (line ++ 10 ∷ rest) ++ ended_lines (last ++ more)) (last_unfinished line rest clear))

unfinished_by : {bytes : List ℕ} (more : List ℕ) → Cut bytes → unfinished_line (bytes ++ more) ≡ unfinished_line (unfinished_line bytes ++ more)
unfinished_by more (ends {line} clear) = sym (ap (λ line'. unfinished_line (line' ++ more)) (all_unfinished line clear))
unfinished_by more (follows line {rest} clear tail) =
    ap unfinished_line (append_assoc line (10 ∷ rest) more)
    ∙ last_unfinished line (rest ++ more) clear
    ∙ unfinished_by more tail
    ∙ sym (ap (λ last. unfinished_line (last ++ more)) (last_unfinished line rest clear))

-- what more bytes end
pub ended_more : (bytes more : List ℕ) → ended_records (bytes ++ more) ≡ ended_records bytes ++ ended_records (unfinished_line bytes ++ more)
ended_more bytes more =
    ap (filter_map record_of_line) (ended_by more (cut bytes)) ∙ filter_map-append record_of_line (ended_lines bytes) (ended_lines (unfinished_line bytes ++ more))

pub unfinished_more : (bytes more : List ℕ) → unfinished_line (bytes ++ more) ≡ unfinished_line (unfinished_line bytes ++ more)
unfinished_more bytes more = unfinished_by more (cut bytes)

-- ---- the records of a line and a text

pub cons_as_append : {X : Type 0} (o : Option X) (xs : List X) → cons_option o xs ≡ option_to_list o ++ xs
cons_as_append None xs = refl
cons_as_append (Some x) xs = refl

-- the records of a line that ends, and of what follows it
pub records_onward : (line rest : List ℕ) → HasNoFeed line → ended_records (line ++ 10 ∷ rest) ≡ option_to_list (record_of_line (strip_carriage_return line)) ++ ended_records rest
records_onward line rest clear =
    ap (filter_map record_of_line) (first_ended line rest clear) ∙ cons_as_append (record_of_line (strip_carriage_return line)) (ended_records rest)

-- its record was added, and what follows it is still to come
pub pushed_line : (records pushed : List Record) (line rest : List ℕ) (found : Option Record) → HasNoFeed line → found ≡ record_of_line (strip_carriage_return line) →
    pushed ≡ records ++ option_to_list found → pushed ++ ended_records rest ≡ records ++ ended_records (line ++ 10 ∷ rest)
pushed_line records pushed line rest found clear is push =
    ap (λ rs. rs ++ ended_records rest) (push ∙ ap (λ r. records ++ option_to_list r) is)
    ∙ append_assoc records (option_to_list (record_of_line (strip_carriage_return line))) (ended_records rest)
    ∙ ap (λ rs. records ++ rs) (sym (records_onward line rest clear))

pub none_recorded : (line : List ℕ) → HasNoFeed line → ended_records line ≡ []
none_recorded line clear = ap (filter_map record_of_line) (none_ended line clear)

-- ---- the whole text

not_zero : (b : Bool) (n : ℕ) → (suc n == 0) ≡ b → b ≡ false
not_zero true n e = let zero : suc n ≡ 0 = eqb-true (suc n) 0 e in absurd (omega (arith, zero))
not_zero false n e = refl

last_line : (line : List ℕ) → filter_map record_of_line (lines_of_parts (line ∷ [])) ≡ option_to_list (record_of_line line)
last_line [] = refl
last_line (byte ∷ bytes) =
    ap (λ b. filter_map record_of_line (cond b [] ((byte ∷ bytes) ∷ []))) (not_zero (length (byte ∷ bytes) == 0) (length bytes) refl)
    ∙ cons_as_append (record_of_line (byte ∷ bytes)) [] ∙ append-nil (option_to_list (record_of_line (byte ∷ bytes)))

of_parts : (parts : List (List ℕ)) → filter_map record_of_line (lines_of_parts parts) ≡ filter_map record_of_line (map strip_carriage_return (all_but_last parts)) ++ option_to_list (record_of_line (last_of parts))
of_parts [] = refl
of_parts (part ∷ []) = last_line part
of_parts (part ∷ next ∷ parts) =
    let record' = record_of_line (strip_carriage_return part) in
    cons_as_append record' (filter_map record_of_line (lines_of_parts (next ∷ parts)))
    ∙ ap (λ rs. option_to_list record' ++ rs) (of_parts (next ∷ parts))
    ∙ sym (append_assoc (option_to_list record') _ _)
    ∙ sym (ap (λ rs. rs ++ option_to_list (record_of_line (last_of (next ∷ parts)))) (cons_as_append record' (filter_map record_of_line (map strip_carriage_return (all_but_last (next ∷ parts))))))

-- the records of a text are those of its lines that have ended, and that of what follows the last LF
pub records_are : (bytes : List ℕ) → ended_records bytes ++ option_to_list (record_of_line (unfinished_line bytes)) ≡ records_of bytes
records_are bytes = sym (of_parts (slice_split is_line_feed bytes))

-- ---- where a line ends

missed_by : (b : Bool) (n : ℕ) → ◌≡◌ {A = Option ℕ} (cond b (Some n) None) None → b ≡ false
missed_by true n e = absurd (cc)
missed_by false n e = refl

at_end : (bytes : List ℕ) (i : ℕ) → position is_line_feed bytes ≡ Some i → (position_or_len is_line_feed bytes < length bytes) × (position_or_len is_line_feed bytes ≡ i)
at_end bytes i e =
    let found = cond_some (nat_lt (position_or_len is_line_feed bytes) (length bytes)) (position_or_len is_line_feed bytes) i e in
    (ltb-true _ _ found.0, found.1)

pub no_feed_at_all : (bytes : List ℕ) → position is_line_feed bytes ≡ None → HasNoFeed bytes
no_feed_at_all bytes e k d below =
    let whole : length bytes ≤ position_or_len is_line_feed bytes = ltb-false _ _ (missed_by _ (position_or_len is_line_feed bytes) e) in
    fails_before_first is_line_feed bytes k d (omega (arith, whole, below))

pub no_feed_before : (bytes : List ℕ) (i : ℕ) → position is_line_feed bytes ≡ Some i → HasNoFeed (take i bytes)
no_feed_before bytes i e k d below =
    let found = at_end bytes i e in
    let few : length (take i bytes) ≤ i = omega (arith, length-take i bytes) in
    let early : k < i = omega (arith, few, below) in
    ap is_line_feed (get_or-take i bytes k d early) ∙ (fails_before_first is_line_feed bytes k d (omega (arith, found.1, early)))

pub cut_at : (bytes : List ℕ) (i : ℕ) → position is_line_feed bytes ≡ Some i → bytes ≡ take i bytes ++ 10 ∷ drop (i + 1) bytes
cut_at bytes i e =
    let found = at_end bytes i e in
    let split = split_at_first is_line_feed bytes 10 found.0 in
    let feed : get_or bytes (position_or_len is_line_feed bytes) 10 ≡ 10 = eqb-true _ 10 (passes_at_first is_line_feed bytes 10 found.0) in
    split ∙ ap (λ byte. before_first is_line_feed bytes ++ byte ∷ after_first is_line_feed bytes) feed ∙ ap (λ n. take n bytes ++ 10 ∷ drop (n + 1) bytes) found.1
