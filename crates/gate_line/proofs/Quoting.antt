-- A name without quotes, backslashes and control characters is printed as it is, in quotes.
use Rattle.std.proofs.Common.{◌≡◌, ◌∙◌, ap, refl, ℕ, ◌<◌, ◌≤◌, List, [], ◌∷◌, ◌++◌, Bool, true, false, cond, arith}
use Rattle.std.specs.Prelude.{◌==◌, ◌&&◌, ◌||◌, not, nat_le, nat_lt}
use Rattle.std.specs.List.{list_all}
use Rattle.std.specs.Char.{digit_char}
use Rattle.std.specs.Prelude.{◌/◌, ◌%◌}
use Rattle.std.proofs.lemmas.Bool.{eqb-true, ltb-true, leb-true}
use Rattle.json.specs.Print.{escape, escape_byte, escape_letter}
use Rattle.gate_record.specs.Names.{name_text}
use Rattle.gate_line.specs.Inner.Plain.{is_plain}

left : (a b : Bool) → (a && b) ≡ true → a ≡ true
left true b e = refl
left false b e = e

right : (a b : Bool) → (a && b) ≡ true → b ≡ true
right true b e = e
right false b e = absurd (cc)

none : (b : Bool) → not b ≡ true → b ≡ false
none true e = absurd (cc)
none false e = refl

other_by : (x k : ℕ) (b : Bool) → (x == k) ≡ b → k < 32 → 32 ≤ x → b ≡ false
other_by x k true e low high = let same : x ≡ k = eqb-true x k e in absurd (omega (arith, same, low, high))
other_by x k false e low high = refl

above_by : (x : ℕ) (b : Bool) → nat_lt x 32 ≡ b → 32 ≤ x → b ≡ false
above_by x true e high = let low : x < 32 = ltb-true x 32 e in absurd (omega (arith, low, high))
above_by x false e high = refl

letter_by : (x : ℕ) (q b b8 b12 b10 b13 b9 : Bool) → q ≡ false → b ≡ false → b8 ≡ false → b12 ≡ false → b10 ≡ false → b13 ≡ false → b9 ≡ false →
    cond (q || b) x (cond b8 98 (cond b12 102 (cond b10 110 (cond b13 114 (cond b9 116 0))))) ≡ 0
letter_by x false false false false false false false eq eb e8 e12 e10 e13 e9 = refl
letter_by x true b b8 b12 b10 b13 b9 eq eb e8 e12 e10 e13 e9 = absurd (cc)
letter_by x false true b8 b12 b10 b13 b9 eq eb e8 e12 e10 e13 e9 = absurd (cc)
letter_by x false false true b12 b10 b13 b9 eq eb e8 e12 e10 e13 e9 = absurd (cc)
letter_by x false false false true b10 b13 b9 eq eb e8 e12 e10 e13 e9 = absurd (cc)
letter_by x false false false false true b13 b9 eq eb e8 e12 e10 e13 e9 = absurd (cc)
letter_by x false false false false false true b9 eq eb e8 e12 e10 e13 e9 = absurd (cc)
letter_by x false false false false false false true eq eb e8 e12 e10 e13 e9 = absurd (cc)

no_letter : (x : ℕ) → (x == 34) ≡ false → (x == 92) ≡ false → 32 ≤ x → escape_letter x ≡ 0
no_letter x q b high =
    letter_by x (x == 34) (x == 92) (x == 8) (x == 12) (x == 10) (x == 13) (x == 9) q b
    (other_by x 8 (x == 8) refl (omega arith) high) (other_by x 12 (x == 12) refl (omega arith) high) (other_by x 10 (x == 10) refl (omega arith) high)
    (other_by x 13 (x == 13) refl (omega arith) high) (other_by x 9 (x == 9) refl (omega arith) high)

byte_by : (x n : ℕ) (small : Bool) (long : List ℕ) → n ≡ 0 → small ≡ false → cond (nat_lt 0 n) (92 ∷ n ∷ []) (cond small long (x ∷ [])) ≡ x ∷ []
byte_by x n small long zero big =
    ap (λ m. cond (nat_lt 0 m) (92 ∷ m ∷ []) (cond small long (x ∷ []))) zero ∙ ap (λ (b : Bool). cond b long (x ∷ [])) big

plain_byte : (x : ℕ) → is_plain x ≡ true → escape_byte x ≡ x ∷ []
unfolding escape_byte
plain_byte x e =
    let high : 32 ≤ x = leb-true 32 x (left (nat_le 32 x) _ e) in
    let others : (not (x == 34) && not (x == 92)) ≡ true = right (nat_le 32 x) _ e in
    byte_by x (escape_letter x) (nat_lt x 32) (92 ∷ 117 ∷ 48 ∷ 48 ∷ digit_char (x / 16) ∷ digit_char (x % 16) ∷ [])
    (no_letter x (none (x == 34) (left (not (x == 34)) _ others)) (none (x == 92) (right (not (x == 34)) _ others)) high)
    (above_by x (nat_lt x 32) refl high)

plain_text : (name : List ℕ) → list_all is_plain name ≡ true → escape name ≡ name
plain_text [] e = refl
plain_text (x ∷ xs) e =
    ap (λ (bs : List ℕ). bs ++ escape xs) (plain_byte x (left (is_plain x) _ e)) ∙ ap (λ (bs : List ℕ). x ∷ bs) (plain_text xs (right (is_plain x) _ e))

-- a plain name between quotes
pub plain_name : (name : List ℕ) → list_all is_plain name ≡ true → name_text name ≡ 34 ∷ (name ++ 34 ∷ [])
plain_name name e = ap (λ (bs : List ℕ). 34 ∷ (bs ++ 34 ∷ [])) (plain_text name e)
