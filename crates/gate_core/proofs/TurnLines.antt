-- The line of a turn.
use Rattle.std.proofs.Common.{◌≡◌, ◌∙◌, ◌<◌, ◌≤◌, ap, arith, cond, refl, ℕ, Bool, true, false, List, [], ◌∷◌, ◌++◌, length, Option, Some, None, Result, Ok, codes, Bor}
use Rattle.std.specs.Option.{IfSome, MatchOption}
use Rattle.std.specs.Prelude.{◌≢◌, nat_lt}
use Rattle.std.proofs.lemmas.Bool.{ltb-false}
use Rattle.gate_line.specs.declared.field.Field.TheVariants as field
use Rattle.gate_line.specs.declared.field.LineFault.{LineFault}
use Rattle.gate_line.specs.Fields.{◌>>=◌, Rest}
use Rattle.gate_line.specs.Words.{rest_of}
use Rattle.gate_core.specs.declared.script.Scripted.TheVariants as line
use Rattle.gate_core.specs.declared.step.Step.TheVariants.{Turn}
use Rattle.gate_core.specs.Script.{added, line_adds, stepped_of, two_of}

-- what stands behind a front, if there is some
pub behind : (front text : List ℕ) (r : Option (Bor (List ℕ))) → MatchOption r ((rest : List ℕ) → text ≢ front ++ rest) (λ rest. text ≡ front ++ rest.now) → IfSome r (λ rest. text ≡ front ++ rest.now)
behind front text None h = record {}
behind front text (Some rest) h = h

below : (n m : ℕ) (b : Bool) → nat_lt n m ≡ b → n < m → nat_lt n m ≡ true
below n m true e h = e
below n m false e h = let high : m ≤ n = ltb-false n m e in absurd (omega (arith, high, h))

rest_behind : (rest : List ℕ) → rest_of (codes "turn " ++ rest) ≡ Some rest
rest_behind rest = ap (λ (b : Bool). cond b (Some rest) None) (below 4 (length (codes "turn " ++ rest)) (nat_lt 4 (length (codes "turn " ++ rest))) refl (omega arith))

-- two numbers behind the word of a turn are its tenant and pipeline
pub turn_line : (rest : List ℕ) (tenant pipeline : ℕ) → two_of field.Tenant field.Pipeline (Some rest) ≡ Ok (tenant, pipeline) →
    line_adds (codes "turn " ++ rest) ≡ Some (line.Step (Turn (record { 0 = tenant }) (record { 0 = pipeline })) ∷ [])
turn_line rest tenant pipeline e =
    ap (λ (r : Rest). added (stepped_of (codes "turn") r)) (rest_behind rest)
    ∙ ap (λ (numbers : Result (ℕ × ℕ) LineFault). added ((numbers >>= λ n. Ok (Turn (record { 0 = n.0 }) (record { 0 = n.1 }))) >>= λ step. Ok (line.Step step))) e
