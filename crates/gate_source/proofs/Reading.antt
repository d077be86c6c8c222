-- What a stream still has to tell goes on as it is read.
use Rattle.std.proofs.Common.{◌≡◌, ◌∙◌, ◌++◌, ◌+◌, ◌<◌, ℕ, zero, suc, List, [], ◌∷◌, Bool, true, false, cond, if◌then◌else◌, length, drop, refl, sym, ap, subst, Option, Some, None, arith, append_assoc, append-nil}
use Rattle.std.specs.Prelude.{nat_lt, unwrap_or}
use Rattle.std.proofs.Math.Seq.{drop-append-add, get_or-append_seam}
use Rattle.std.proofs.lemmas.Bool.{ltb-true}
use Rattle.std.proofs.lemmas.List.{append_cancel_left, drop_all, get_or_append_left, length-append}
use Rattle.std.proofs.lemmas.List.Sums.{position_or_len_is}
use Rattle.std.specs.List.{after_first, position_or_len}
use Rattle.std.specs.Io.KnownBytes.{Consumes, IsAtEnd}
use Rattle.std.specs.Option.{option_to_list}
use Rattle.std.specs.Str.Lines.{strip_carriage_return}
use Rattle.std.proofs.lemmas.List.Elements.{All-append}
use Rattle.gate_record.specs.declared.record.Record.{Record}
use Rattle.gate_record.specs.declared.record.Record.TheVariants.{Oversize}
use Rattle.gate_record.specs.Limits.{longest_line}
use Rattle.gate_record.specs.Lines.{ended_records, is_line_feed, record_of_line, records_of, unfinished_line}
use Rattle.gate_source.specs.Splitting.{Feeds, Finishes, IsFed, kept_of}
use Rattle.gate_source.specs.Inner.Splitting.{HasNoFeed}
use Rattle.gate_source.specs.declared.feed.FeedStep.{FeedStep}
use Rattle.gate_source.specs.declared.feed.FeedStep.TheVariants as step
use Rattle.gate_source.specs.Feeds.{Steps, Told}
use Rattle.gate_source.specs.Streams.{still_of, still_told, told_of}
use Rattle.gate_source.specs.Inner.Streams.{IsOfLine, StepsOver}
use Rattle.gate_source.proofs.Cuts.{Cut, all_unfinished, cut, ended_more, ends, follows, last_unfinished, no_feed, none_recorded, nothing, one_more, records_are, records_onward, unfinished_more}
use Rattle.gate_source.proofs.Kept.{above, longer, none_kept, oversize, too_long}

-- ---- the records of two parts

-- behind the lines that have ended are those of the line that hasn't, with what follows
pub records_behind : (bytes rest : List ℕ) → records_of (bytes ++ rest) ≡ ended_records bytes ++ records_of (unfinished_line bytes ++ rest)
records_behind bytes rest =
    let line = unfinished_line bytes in
    sym (records_are (bytes ++ rest))
    ∙ (λ i. ended_more bytes rest i ++ option_to_list (record_of_line (unfinished_more bytes rest i)))
    ∙ append_assoc (ended_records bytes) (ended_records (line ++ rest)) (option_to_list (record_of_line (unfinished_line (line ++ rest))))
    ∙ ap (λ rs. ended_records bytes ++ rs) (records_are (line ++ rest))

-- a line that ends, and what follows it
pub records_next : (line rest : List ℕ) → HasNoFeed line → records_of (line ++ 10 ∷ rest) ≡ option_to_list (record_of_line (strip_carriage_return line)) ++ records_of rest
records_next line rest clear =
    let own = option_to_list (record_of_line (strip_carriage_return line)) in
    sym (records_are (line ++ 10 ∷ rest))
    ∙ (λ i. records_onward line rest clear i ++ option_to_list (record_of_line (last_unfinished line rest clear i)))
    ∙ append_assoc own (ended_records rest) (option_to_list (record_of_line (unfinished_line rest)))
    ∙ ap (λ rs. own ++ rs) (records_are rest)

-- a line that doesn't end
pub records_last : (line : List ℕ) → HasNoFeed line → records_of line ≡ option_to_list (record_of_line line)
records_last line clear =
    sym (records_are line)
    ∙ (λ i. none_recorded line clear i ++ option_to_list (record_of_line (all_unfinished line clear i)))

-- ---- a line that is too long already

both : (line more : List ℕ) → HasNoFeed line → HasNoFeed more → HasNoFeed (line ++ more)
both line more clear clear' = All-append (λ byte. is_line_feed byte ≡ false) line more clear clear'

drop_line : (line rest : List ℕ) → drop (length line + 1) (line ++ 10 ∷ rest) ≡ rest
drop_line line rest = drop-append-add line (10 ∷ rest) 1

-- the first LF stands behind a line without one
behind_line : (line rest : List ℕ) → HasNoFeed line → after_first is_line_feed (line ++ 10 ∷ rest) ≡ rest
behind_line line rest clear =
    let at : position_or_len is_line_feed (line ++ 10 ∷ rest) ≡ length line =
    position_or_len_is is_line_feed (line ++ 10 ∷ rest) (length line) 10 (omega (arith, length-append line (10 ∷ rest)))
    (λ k low. ap is_line_feed (get_or_append_left line (10 ∷ rest) 10 k low) ∙ clear k 10 low)
    (λ low. ap is_line_feed (get_or-append_seam line 10 rest 10)) in
    ap (λ n. drop (n + 1) (line ++ 10 ∷ rest)) at ∙ drop_line line rest

behind_none : (line : List ℕ) → HasNoFeed line → after_first is_line_feed line ≡ []
behind_none line clear =
    let at : position_or_len is_line_feed line ≡ length line =
    position_or_len_is is_line_feed line (length line) 10 (omega arith) (λ k low. clear k 10 low) (λ low. absurd (omega (arith, low))) in
    ap (λ n. drop (n + 1) line) at ∙ drop_all (length line + 1) line (omega arith)

module _ (line : List ℕ) (clear : HasNoFeed line) (long : nat_lt (longest_line + 1) (length line) ≡ true) where
  at_end : (more : List ℕ) → record_of_line (line ++ more) ≡ Some Oversize
  at_end more = oversize (line ++ more) (let high : longest_line + 1 < length line = ltb-true _ _ long in omega (arith, high, length-append line more))

  at_feed : (more : List ℕ) → record_of_line (strip_carriage_return (line ++ more)) ≡ Some Oversize
  at_feed more = sym (too_long (line ++ more) (longer line more long))

  long_by : {rest : List ℕ} → Cut rest → records_of (line ++ rest) ≡ still_of None rest
  long_by (ends {line = rest} clear') =
      records_last (line ++ rest) (both line rest clear clear')
      ∙ ap option_to_list (at_end rest)
      ∙ ap (λ bytes. Oversize ∷ records_of bytes) (sym (behind_none rest clear'))
  long_by (follows more {rest} clear' tail) =
      ap records_of (sym (append_assoc line more (10 ∷ rest)))
      ∙ records_next (line ++ more) rest (both line more clear clear')
      ∙ ap (λ o. option_to_list o ++ records_of rest) (at_feed more)
      ∙ ap (λ bytes. Oversize ∷ records_of bytes) (sym (behind_line more rest clear'))

-- ---- what is still to come

still_by : (b : Bool) (line rest : List ℕ) → HasNoFeed line → nat_lt (longest_line + 1) (length line) ≡ b → records_of (line ++ rest) ≡ still_of (cond b None (Some line)) rest
still_by true line rest clear long = long_by line clear long (cut rest)
still_by false line rest clear short = refl

-- behind the lines that have ended is what is still to come
pub still_are : (bytes rest : List ℕ) (kept : Option (List ℕ)) → IsFed bytes kept → records_of (bytes ++ rest) ≡ ended_records bytes ++ still_of kept rest
still_are bytes rest kept fed =
    let line = unfinished_line bytes in
    records_behind bytes rest
    ∙ ap (λ rs. ended_records bytes ++ rs) (still_by (nat_lt (longest_line + 1) (length line)) line rest (no_feed bytes) refl ∙ ap (λ k. still_of k rest) (sym fed))

-- ---- something that was fed

abbrev WasFed : Option (List ℕ) → Type 0
WasFed kept = (bytes : List ℕ) × IsFed bytes kept

zeros : ℕ → List ℕ
zeros zero = []
zeros (suc n) = 0 ∷ zeros n

zeros_length : (n : ℕ) → length (zeros n) ≡ n
unfolding zeros
zeros_length zero = refl
zeros_length (suc n) = ap suc (zeros_length n)

zeros_clear : (n : ℕ) → HasNoFeed (zeros n)
unfolding zeros
zeros_clear zero = nothing
zeros_clear (suc n) = one_more 0 (zeros n) refl (zeros_clear n)

-- a line that is too long
long_fed : (n : ℕ) → longest_line + 1 < n → IsFed (zeros n) None
long_fed n high =
    none_kept (zeros n) (above (longest_line + 1) (length (zeros n)) _ refl (omega (arith, high, zeros_length n)))
    ∙ ap kept_of (sym (all_unfinished (zeros n) (zeros_clear n)))

was_fed : (kept : Option (List ℕ)) → IsOfLine kept → WasFed kept
was_fed None of_line = (zeros (longest_line + 2), long_fed (longest_line + 2) (omega arith))
was_fed (Some line) of_line = (line, of_line line refl)

of_line_by : (b : Bool) (own line : List ℕ) → HasNoFeed own → cond b None (Some own) ≡ Some line → HasNoFeed line × (own ≡ line)
of_line_by true own line clear e = absurd (cc)
of_line_by false own line clear e =
    let same : own ≡ line = ap (λ (o : Option (List ℕ)). unwrap_or o own) e in
    (subst HasNoFeed same clear, same)

of_line : (kept : Option (List ℕ)) → WasFed kept → IsOfLine kept
of_line kept (bytes, fed) line is =
    let (clear, same) = of_line_by (nat_lt (longest_line + 1) (length (unfinished_line bytes))) (unfinished_line bytes) line (no_feed bytes) (sym fed ∙ is) in
    fed ∙ ap kept_of (same ∙ sym (all_unfinished line clear))

-- ---- the steps of a feed

pub new_of_line : (kept : Option (List ℕ)) → IsFed [] kept → IsOfLine kept
new_of_line kept fed = of_line kept ([], fed)

pub fed_of_line : (kept kept' : Option (List ℕ)) (piece : List ℕ) (records : List Record) → IsOfLine kept → Feeds kept piece records kept' → IsOfLine kept'
fed_of_line kept kept' piece records of feeds =
    let (bytes, fed) = was_fed kept of in
    of_line kept' (bytes ++ piece, (feeds bytes fed).0)

-- what a piece completes, and then what is still to come, is what was to come
pub still_fed : (kept kept' : Option (List ℕ)) (piece rest : List ℕ) (records : List Record) → IsOfLine kept → Feeds kept piece records kept' → records ++ still_of kept' rest ≡ still_of kept (piece ++ rest)
still_fed kept kept' piece rest records of feeds =
    let (bytes, fed) = was_fed kept of in
    let (fed', ended) = feeds bytes fed in
    append_cancel_left (ended_records bytes) (records ++ still_of kept' rest) (still_of kept (piece ++ rest))
    (sym (append_assoc (ended_records bytes) records (still_of kept' rest))
    ∙ ap (λ rs. rs ++ still_of kept' rest) ended
    ∙ sym (still_are (bytes ++ piece) rest kept' fed')
    ∙ ap records_of (append_assoc bytes piece rest)
    ∙ still_are bytes (piece ++ rest) kept fed)

-- where nothing follows, the rest is what is still to come
pub still_left : (kept : Option (List ℕ)) (last : Option Record) → IsOfLine kept → Finishes kept last → option_to_list last ≡ still_of kept []
still_left kept last of finishes =
    let (bytes, fed) = was_fed kept of in
    append_cancel_left (ended_records bytes) (option_to_list last) (still_of kept [])
    (finishes bytes fed ∙ ap records_of (sym (append-nil bytes)) ∙ still_are bytes [] kept fed)

-- at the start all that the reader has is to come
pub still_first : (kept : Option (List ℕ)) (rest : List ℕ) → IsFed [] kept → still_of kept rest ≡ records_of rest
still_first kept rest fed = sym (still_are [] rest kept fed)

-- ---- what each step tells

-- a piece completes records, of which the first is handed out
pub got_over : (kept kept' : Option (List ℕ)) (piece : List ℕ) (records : List Record) (record' : Record) (waiting : List Record) → IsOfLine kept → Feeds kept piece records kept' → records ≡ record' ∷ waiting → StepsOver kept piece (step.Got record') waiting kept'
got_over kept kept' piece records record' waiting of feeds is rest =
    (waiting ++ still_of kept' rest, sym (still_fed kept kept' piece rest records of feeds) ∙ ap (λ rs. rs ++ still_of kept' rest) is, refl)

-- or none
pub none_over : (kept kept' : Option (List ℕ)) (piece : List ℕ) (records waiting : List Record) → IsOfLine kept → Feeds kept piece records kept' → records ≡ [] → waiting ≡ [] → StepsOver kept piece step.Pending waiting kept'
none_over kept kept' piece records waiting of feeds none empty rest =
    ap Some (ap (λ rs. rs ++ still_of kept' rest) (empty ∙ sym none) ∙ still_fed kept kept' piece rest records of feeds)

-- the stream ends
pub last_got : (kept : Option (List ℕ)) (record' : Record) → IsOfLine kept → Finishes kept (Some record') → Steps (Some (still_of kept [])) (step.Got record') (Some [])
last_got kept record' of finishes = ([], sym (still_left kept (Some record') of finishes), refl)

pub last_none : (kept : Option (List ℕ)) → IsOfLine kept → Finishes kept None → Steps (Some (still_of kept [])) step.Ended (Some [])
last_none kept of finishes = (sym (still_left kept None of finishes), refl)

-- what a reader without anything read tells
pub told_first : (kept : Option (List ℕ)) (bytes : Option (List ℕ)) → IsFed [] kept → still_told [] false kept bytes ≡ told_of bytes
told_first kept None fed = refl
told_first kept (Some bytes) fed = ap Some (still_first kept bytes fed)

-- ---- what the reader tells

-- it gave this piece
pub steps_over : (kept kept' : Option (List ℕ)) (piece : List ℕ) (step' : FeedStep) (waiting : List Record) (bytes bytes' : Option (List ℕ)) → StepsOver kept piece step' waiting kept' → Consumes bytes bytes' piece → Steps (still_told [] false kept bytes) step' (still_told waiting false kept' bytes')
steps_over kept kept' piece step' waiting None bytes' over gave = tt
steps_over kept kept' piece step' waiting (Some xs) None over gave = absurd gave
steps_over kept kept' piece step' waiting (Some xs) (Some rest) over gave = subst (λ ys. Steps (Some (still_of kept ys)) step' (Some (waiting ++ still_of kept' rest))) (sym gave) (over rest)

-- it gave nothing, since nothing is left
pub steps_last : (kept kept' : Option (List ℕ)) (step' : FeedStep) (piece : List ℕ) (bytes bytes' : Option (List ℕ)) → Steps (Some (still_of kept [])) step' (Some []) → piece ≡ [] → Consumes bytes bytes' piece → IsAtEnd bytes' → Steps (still_told [] false kept bytes) step' (still_told [] true kept' bytes')
steps_last kept kept' step' piece None bytes' steps none gave last = tt
steps_last kept kept' step' piece (Some xs) None steps none gave last = absurd gave
steps_last kept kept' step' piece (Some xs) (Some rest) steps none gave last =
    subst (λ ys. Steps (Some (still_of kept ys)) step' (Some [])) (sym (gave ∙ (λ i. none i ++ last i))) steps

-- it failed
pub steps_fault : (kept : Option (List ℕ)) (bytes : Option (List ℕ)) (after : Told) → Steps (still_told [] false kept bytes) step.Fault after
steps_fault kept None after = tt
steps_fault kept (Some xs) after = tt

pub steps_memory : (kept : Option (List ℕ)) (bytes : Option (List ℕ)) (after : Told) → Steps (still_told [] false kept bytes) step.Memory after
steps_memory kept None after = tt
steps_memory kept (Some xs) after = tt

-- a record that waits is handed out
pub steps_waiting : (record' : Record) (waiting : List Record) (has_ended : Bool) (kept : Option (List ℕ)) (bytes : Option (List ℕ)) → Steps (still_told (record' ∷ waiting) has_ended kept bytes) (step.Got record') (still_told waiting has_ended kept bytes)
steps_waiting record' waiting has_ended kept None = tt
steps_waiting record' waiting has_ended kept (Some rest) = (waiting ++ (if has_ended then [] else still_of kept rest), refl, refl)

-- nothing is left
pub steps_ended : (kept : Option (List ℕ)) (bytes : Option (List ℕ)) → Steps (still_told [] true kept bytes) step.Ended (still_told [] true kept bytes)
steps_ended kept None = tt
steps_ended kept (Some rest) = (refl, refl)
