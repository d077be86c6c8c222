-- What `parse` reads, as `number_in`.
use Rattle.std.proofs.Common.{◌≡◌, ◌<◌, ◌≤◌, ◌^◌, ◌&&◌, ℕ, List, [], ◌∷◌, Bool, true, false, cond, eqb, ltb, leb, length, refl, ap, Some, None, Result, Ok, Err, w64, arith}
use Rattle.std.specs.Prelude.{ℤ, pos, neg_ℤ}
use Rattle.std.specs.Result.{OkIff, result_ok}
use Rattle.std.specs.Str.{all_ascii_digits}
use Rattle.std.specs.Str.Parse.{ParsesSigned, digits_value}
use Rattle.std.proofs.lemmas.Bool.{eqb-true, eqb-false, leb-true, ltb-true, le-leb, lt-ltb}
use Rattle.std.proofs.lemmas.Str.Parse.{parse_signed_minus, parse_signed_plain, parse_signed_plus}
use Rattle.gate_record.specs.Numbers.{is_numeral, above_zero, below_zero, number_in}
use Rattle.gate_record.proofs.Taken.{own}

chosen : {E : Type 0} (r : Result ℤ E) (P : Type 0) (z : ℤ) (b : Bool) → OkIff r P z → (P → b ≡ true) → (b ≡ true → P) → result_ok r ≡ cond b (Some z) None
chosen (Ok x) P z true h to from = ap Some h.1
chosen (Ok x) P z false h to from = let e = to h.0 in cc
chosen (Err e) P z true h to from = absurd (h (from refl))
chosen (Err e) P z false h to from = refl

both : (x y : Bool) → (x && y) ≡ true → (x ≡ true) × (y ≡ true)
both true y e = (refl, e)
both false y e = absurd cc

-- a numeral that passes a test
module _ (ds : List ℕ) (t : Bool) (P : Type 0) (yes : P → t ≡ true) (passes : t ≡ true → P) where
  to : (all_ascii_digits ds ≡ true) × (0 < length ds) × P → (is_numeral ds && t) ≡ true
  to h = rw (lt-ltb 0 (length ds) h.1, h.0, yes h.2) refl

  from : (is_numeral ds && t) ≡ true → (all_ascii_digits ds ≡ true) × (0 < length ds) × P
  from e =
      let outer = both (is_numeral ds) t e in
      let inner = both (ltb 0 (length ds)) (all_ascii_digits ds) outer.0 in
      (inner.1, ltb-true 0 (length ds) inner.0, passes outer.1)

module _ {E : Type 0} (ds : List ℕ) (r : Result ℤ E) where
  positive : OkIff r ((all_ascii_digits ds ≡ true) × (0 < length ds) × (digits_value 10 ds < 2 ^ 63)) (pos (digits_value 10 ds)) → result_ok r ≡ above_zero ds
  positive h = chosen r _ _ _ h
      (to ds (ltb (digits_value 10 ds) (2 ^ 63)) (digits_value 10 ds < 2 ^ 63) (lt-ltb _ _) (ltb-true _ _))
      (from ds (ltb (digits_value 10 ds) (2 ^ 63)) (digits_value 10 ds < 2 ^ 63) (lt-ltb _ _) (ltb-true _ _))

  negative : OkIff r ((all_ascii_digits ds ≡ true) × (0 < length ds) × (digits_value 10 ds ≤ 2 ^ 63)) (neg_ℤ (pos (digits_value 10 ds))) → result_ok r ≡ below_zero ds
  negative h = chosen r _ _ _ h
      (to ds (leb (digits_value 10 ds) (2 ^ 63)) (digits_value 10 ds ≤ 2 ^ 63) (le-leb _ _) (leb-true _ _))
      (from ds (leb (digits_value 10 ds) (2 ^ 63)) (digits_value 10 ds ≤ 2 ^ 63) (le-leb _ _) (leb-true _ _))

by_sign : {E : Type 0} (c : ℕ) (cs : List ℕ) (r : Result ℤ E) → ParsesSigned w64 10 (c ∷ cs) r → (m p : Bool) → eqb c 45 ≡ m → eqb c 43 ≡ p → result_ok r ≡ cond m (below_zero cs) (cond p (above_zero cs) (above_zero (c ∷ cs)))
by_sign c cs r h true p e f = negative cs r (parse_signed_minus own w64 (c ∷ cs) r h (eqb-true c 45 e))
by_sign c cs r h false true e f = positive cs r (parse_signed_plus own w64 (c ∷ cs) r h (eqb-true c 43 f))
by_sign c cs r h false false e f = positive (c ∷ cs) r (parse_signed_plain own w64 (c ∷ cs) r h (eqb-false c 43 f) (eqb-false c 45 e))

pub number_in_is : {E : Type 0} (bs : List ℕ) (r : Result ℤ E) → ParsesSigned w64 10 bs r → result_ok r ≡ number_in bs
number_in_is [] r h = positive [] r (parse_signed_plain own w64 [] r h (λ e. omega arith) (λ e. omega arith))
number_in_is (c ∷ cs) r h = by_sign c cs r h (eqb c 45) (eqb c 43) refl refl
