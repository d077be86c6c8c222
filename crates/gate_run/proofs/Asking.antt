-- Which notes of generations that were asked for are the most.
use Rattle.std.proofs.Common.{◌≡◌, refl, ℕ, ◌≤◌, List, [], ◌∷◌, length, true, false, arith}
use Rattle.std.specs.Prelude.{Bool, nat_lt, if◌then◌else◌}
use Rattle.std.proofs.lemmas.Bool.{ltb-false, ltb-true}
use Rattle.gate_source.specs.Stops.{Note}
use Rattle.gate_run_reader.specs.declared.reader.ReaderEnd.{ReaderEnd}
use Rattle.gate_run_posts.specs.Asked.{longer}
use Rattle.gate_run.specs.Inner.Gatherings.{most_asked}
use Rattle.gate_run_threads.specs.Lists.{Each}
use Rattle.gate_run_reader.specs.Readers.{notes_of}

longer_long : {A : Type 0} (xs ys : List A) → (length xs ≤ length (longer xs ys)) × (length ys ≤ length (longer xs ys))
longer_long xs ys = by (nat_lt (length xs) (length ys)) refl
  where
    by : (b : Bool) → nat_lt (length xs) (length ys) ≡ b → (length xs ≤ length (if b then ys else xs)) × (length ys ≤ length (if b then ys else xs))
    by true e = let low = ltb-true (length xs) (length ys) e in (omega (arith, low), omega arith)
    by false e = let low = ltb-false (length xs) (length ys) e in (omega arith, omega (arith, low))

module _ {F : Type 0} where
  -- the most notes are no fewer than these
  pub most_no_fewer : (notes : List Note) (ends : List (ReaderEnd F)) → length notes ≤ length (most_asked notes ends)
  most_no_fewer notes [] = omega arith
  most_no_fewer notes (end ∷ ends) =
      let (low, _) = longer_long notes (notes_of end.renewals.items) in
      let rest = most_no_fewer (longer notes (notes_of end.renewals.items)) ends in
      omega (arith, low, rest)

  -- and no fewer than those of any reader
  pub each_enough : (notes : List Note) (ends : List (ReaderEnd F)) (most : List Note) → length (most_asked notes ends) ≤ length most → Each (λ (end : ReaderEnd F). length (notes_of end.renewals.items) ≤ length most) ends
  each_enough notes [] most enough = tt
  each_enough notes (end ∷ ends) most enough =
      let (_, low) = longer_long notes (notes_of end.renewals.items) in
      let rest = most_no_fewer (longer notes (notes_of end.renewals.items)) ends in
      (omega (arith, low, rest, enough), each_enough (longer notes (notes_of end.renewals.items)) ends most enough)
