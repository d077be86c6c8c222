-- One more line of a text that has a line for each element of a list, with the element's number.
use Rattle.std.proofs.Common.{◌≡◌, ◌∙◌, sym, ap, ℕ, ◌+◌, List, ◌∷◌, ◌++◌, append_assoc}
use Rattle.std.specs.List.{enumerate_from, flat_map}

-- what is written and the lines of what is left make the whole, as before this line
pub one_line : {X : Type 0} (f : ℕ × X → List ℕ) (n : ℕ) (x : X) (xs rest : List X) (out out' line whole : List ℕ) →
    xs ≡ x ∷ rest → line ≡ f (n, x) → out' ≡ out ++ line → out ++ flat_map f (enumerate_from n xs) ≡ whole → out' ++ flat_map f (enumerate_from (n + 1) rest) ≡ whole
one_line {X} f n x xs rest out out' line whole first line-is written so_far =
    let left = flat_map f (enumerate_from (n + 1) rest) in
    ap (λ (o : List ℕ). o ++ left) written
    ∙ append_assoc out line left
    ∙ ap (λ (l : List ℕ). out ++ (l ++ left)) line-is
    ∙ ap (λ (ys : List X). out ++ flat_map f (enumerate_from n ys)) (sym first) ∙ so_far
