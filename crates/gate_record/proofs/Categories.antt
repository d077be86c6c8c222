-- A category is a text: what changes ASCII bytes alone leaves UTF-8.
use Rattle.std.proofs.Common.{◌≡◌, ◌∙◌, ◌<◌, ◌≤◌, ◌+◌, ◌/◌, ◌&&◌, ℕ, List, [], ◌∷◌, ◌++◌, Bool, true, false, cond, ltb, map, refl, sym, ap, arith, ⊎_elim}
use Rattle.std.specs.Str.{IsUtf8}
use Rattle.std.proofs.lemmas.Bool.{cases_lt}
use Rattle.std.proofs.lemmas.List.{map-append}
use Rattle.std.proofs.lemmas.Str.{encode_ascii}
use Rattle.std.proofs.lemmas.Str.Ascii.{lowercase_ascii, lowercase_is}
use lib.Utf8.{scalar, scalars, next, encode, encodes, low_scalar}
use Rattle.gate_record.specs.Approvals.{category, category_byte}

low : (b : ℕ) → b < 128 → category_byte b < 128
low b h = let k = lowercase_ascii b h in grind (arith, k)

high : (b : ℕ) → 128 ≤ b → category_byte b ≡ b
high b h = let k = (lowercase_is b).2 (omega arith) in grind (arith, k)

-- of the bytes of a character that isn't ASCII none changes
wide : (x y : Bool) (a b d e g h k m n : ℕ) → 128 ≤ a → 128 ≤ b → 128 ≤ d → 128 ≤ e → 128 ≤ g → 128 ≤ h → 128 ≤ k → 128 ≤ m → 128 ≤ n →
    map category_byte (cond x (a ∷ b ∷ []) (cond y (d ∷ e ∷ g ∷ []) (h ∷ k ∷ m ∷ n ∷ []))) ≡ cond x (a ∷ b ∷ []) (cond y (d ∷ e ∷ g ∷ []) (h ∷ k ∷ m ∷ n ∷ []))
wide true y a b d e g h k m n la lb ld le lg lh lk lm ln i = high a la i ∷ high b lb i ∷ []
wide false true a b d e g h k m n la lb ld le lg lh lk lm ln i = high d ld i ∷ high e le i ∷ high g lg i ∷ []
wide false false a b d e g h k m n la lb ld le lg lh lk lm ln i = high h lh i ∷ high k lk i ∷ high m lm i ∷ high n ln i ∷ []

long : (c : ℕ) → 128 ≤ c → ltb c 128 ≡ false → map category_byte (encode c) ≡ encode c
unfolding encode
long c h e = rw e (wide (ltb c 2048) (ltb c 65536) (192 + c / 64) (next c) (224 + c / 4096) (next (c / 64)) (next c) (240 + c / 262144) (next (c / 4096)) (next (c / 64)) (next c) (omega arith) (omega arith) (omega arith) (omega arith) (omega arith) (omega arith) (omega arith) (omega arith) (omega arith))

letter : (c : ℕ) → map category_byte (encode c) ≡ encode (category_byte c)
letter c = ⊎_elim
    (λ h. ap (map category_byte) (encode_ascii c h) ∙ sym (encode_ascii (category_byte c) (low c h)))
    (λ h. long c h (grind (arith, h)) ∙ ap encode (sym (high c h)))
    (cases_lt c 128)

both : (x y : Bool) → (x && y) ≡ true → (x ≡ true) × (y ≡ true)
both true y e = (refl, e)
both false y e = absurd cc

stays : (c : ℕ) → scalar c ≡ true → scalar (category_byte c) ≡ true
stays c e = ⊎_elim (λ h. let k = low c h in low_scalar (category_byte c) (omega arith)) (λ h. ap scalar (high c h) ∙ e) (cases_lt c 128)

letters : (cs : List ℕ) → scalars cs ≡ true → (scalars (map category_byte cs) ≡ true) × (encodes (map category_byte cs) ≡ map category_byte (encodes cs))
letters [] e = (refl, refl)
letters (c ∷ cs) e =
    let are = both (scalar c) (scalars cs) e in
    let rest = letters cs are.1 in (
      ap (λ y. y && scalars (map category_byte cs)) (stays c are.0) ∙ rest.0,
      (λ i. sym (letter c) i ++ rest.1 i) ∙ sym (map-append category_byte (encode c) (encodes cs)),
    )

pub category-IsUtf8 : (bs : List ℕ) → IsUtf8 bs → IsUtf8 (category bs)
category-IsUtf8 bs u = let on = letters u.0 u.1.0 in (map category_byte u.0, (on.0, on.1 ∙ ap (map category_byte) u.1.1))
