-- The first byte that passes a test, as `memchr` finds it.
use Rattle.std.proofs.Common.{◌≡◌, ◌∙◌, refl, sym, ap, ℕ, List, Bool, true, false, length, get_or, Option, Some, None, cond, arith}
use Rattle.std.specs.Prelude.{nat_lt, position}
use Rattle.std.specs.List.{position_or_len}
use Rattle.std.proofs.lemmas.Bool.{le-ltb, lt-ltb}
use Rattle.std.proofs.lemmas.List.Sums.{position_or_len_is}
use Rattle.memchr.specs.Find.{IsFirstByte}

is_none : (test : Bool) → (test ≡ true → ⊥) → test ≡ false
is_none true never = absurd (never refl)
is_none false never = refl

module _ (test : ℕ → Bool) where
  stands : (bytes : List ℕ) (i : ℕ) (found : Bool) → position_or_len test bytes ≡ i → nat_lt i (length bytes) ≡ found → cond found (Some i) None ≡ position test bytes
  stands bytes i found at inside = ap (λ b. cond b (Some i) None) (sym inside) ∙ ap (λ n. cond (nat_lt n (length bytes)) (Some n) None) (sym at)

  pub first_is_position : (bytes : List ℕ) (found : Option ℕ) → IsFirstByte test bytes found → found ≡ position test bytes
  first_is_position bytes None nowhere =
      stands bytes (length bytes) false
      (position_or_len_is test bytes (length bytes) 0 (omega arith) (λ k below. is_none (test (get_or bytes k 0)) (nowhere k (omega arith) below)) (λ past. absurd (omega (arith, past))))
      (le-ltb (length bytes) (length bytes) (omega arith))
  first_is_position bytes (Some i) first =
      let high = first.0.high in
      stands bytes i true
      (position_or_len_is test bytes i 0 (omega (arith, high)) (λ k before. is_none (test (get_or bytes k 0)) (first.0.before k (omega arith) before)) (λ inside. first.1))
      (lt-ltb i (length bytes) high)
