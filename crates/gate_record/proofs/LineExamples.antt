-- Worked examples: the records of some texts.
use Rattle.std.proofs.Common.{◌≡◌, [], ◌∷◌, refl}
use Rattle.gate_record.specs.declared.record.Record.TheVariants.{Line}
use Rattle.gate_record.specs.Lines.{ended_records, records_of, unfinished_line}

-- 97 is `a`, 98 is `b`, 13 is CR, 10 is LF
nothing : records_of [] ≡ []
nothing = refl

-- CR LF, LF
empty_lines : records_of (13 ∷ 10 ∷ 10 ∷ []) ≡ []
empty_lines = refl

-- `a` CR LF, LF, `b` CR
a_rest_keeps_its_cr : records_of (97 ∷ 13 ∷ 10 ∷ 10 ∷ 98 ∷ 13 ∷ []) ≡ Line (97 ∷ []) ∷ Line (98 ∷ 13 ∷ []) ∷ []
a_rest_keeps_its_cr = refl

-- `a` CR CR LF, `a` CR `b` LF
one_cr_is_dropped : records_of (97 ∷ 13 ∷ 13 ∷ 10 ∷ 97 ∷ 13 ∷ 98 ∷ 10 ∷ []) ≡ Line (97 ∷ 13 ∷ []) ∷ Line (97 ∷ 13 ∷ 98 ∷ []) ∷ []
one_cr_is_dropped = refl

-- `a` LF, `b` CR: one line has ended
one_has_ended : ended_records (97 ∷ 10 ∷ 98 ∷ 13 ∷ []) ≡ Line (97 ∷ []) ∷ []
one_has_ended = refl

one_is_left : unfinished_line (97 ∷ 10 ∷ 98 ∷ 13 ∷ []) ≡ 98 ∷ 13 ∷ []
one_is_left = refl
