-- The first LF of some bytes, as `memchr` finds it.
use Rattle.std.proofs.Common.{◌≡◌, ◌∙◌, sym, ap, ℕ, ◌<◌, ◌≤◌, List, Bool, true, false, length, get_or, Option, Some, None, cond, arith}
use Rattle.std.specs.Prelude.{nat_lt, position}
use Rattle.std.specs.List.{position_or_len}
use Rattle.std.proofs.lemmas.Bool.{false_from_ne_true, le-ltb, lt-ltb}
use Rattle.std.proofs.lemmas.List.Sums.{position_or_len_is}
use Rattle.memchr.specs.Find.{IsFirstByte, is_byte}
use Rattle.gate_record.specs.Lines.{is_line_feed}

-- a place before which no byte is an LF, and at which one is unless all bytes stand before it
stands : (bytes : List ℕ) (i : ℕ) (found : Bool) → i ≤ length bytes → ((k : ℕ) → k < i → is_line_feed (get_or bytes k 0) ≡ true → ⊥) →
    (i < length bytes → is_line_feed (get_or bytes i 0) ≡ true) → nat_lt i (length bytes) ≡ found → cond found (Some i) None ≡ position is_line_feed bytes
stands bytes i found high before there inside =
    let at = position_or_len_is is_line_feed bytes i 0 high (λ k below. false_from_ne_true (is_line_feed (get_or bytes k 0)) (before k below)) there in
    ap (λ b. cond b (Some i) None) (sym inside) ∙ ap (λ n. cond (nat_lt n (length bytes)) (Some n) None) (sym at)

pub first_is_position : (bytes : List ℕ) (found : Option ℕ) → IsFirstByte (is_byte 10) bytes found → found ≡ position is_line_feed bytes
first_is_position bytes None nowhere =
    stands bytes (length bytes) false (omega arith) (λ k below. nowhere k (omega arith) below) (λ past. absurd (omega (arith, past))) (le-ltb (length bytes) (length bytes) (omega arith))
first_is_position bytes (Some i) first =
    let high = first.0.high in
    stands bytes i true (omega (arith, high)) (λ k below. first.0.before k (omega arith) below) (λ inside. first.1) (lt-ltb i (length bytes) high)
