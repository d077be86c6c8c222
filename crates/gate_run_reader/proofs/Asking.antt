-- What holds of the notes of generations that were asked for.
use Rattle.std.proofs.Common.{◌≡◌, ◌∙◌, refl, sym, ap, ℕ, zero, suc, List, [], ◌∷◌, ◌++◌, length, Some, true, is_some, take, arith}
use Rattle.std.specs.Prelude.{slice_get}
use Rattle.std.proofs.lemmas.List.{length-append, map-append}
use Rattle.std.proofs.lemmas.List.Elements.{All-append, All-cons, All-nil}
use Rattle.gate_source.specs.Stops.{Note}
use Rattle.gate_run_reader.specs.Asked.{AreKnown, IsNext}

-- one more of the front of a list
take_more : {A : Type 0} (xs : List A) (n : ℕ) (x : A) → slice_get xs n ≡ Some x → take (suc n) xs ≡ take n xs ++ x ∷ []
take_more [] n x e = absurd (cc)
take_more (y ∷ xs) zero x e = let is : y ≡ x = cc in ap (λ z. z ∷ []) is
take_more (y ∷ xs) (suc n) x e = ap (λ zs. y ∷ zs) (take_more xs n x e)

longer_by_one : {A : Type 0} (xs : List A) (x : A) → length (xs ++ x ∷ []) ≡ suc (length xs)
longer_by_one xs x = length-append xs (x ∷ []) ∙ omega arith

-- one more is known
pub known_more : (cells : List ℕ) (notes : List Note) (note : Note) → AreKnown cells notes → IsNext cells notes note → AreKnown cells (notes ++ note ∷ [])
known_more cells notes note known next = record {
  of_first = map-append (λ (n : Note). n.cell) notes (note ∷ []) ∙ ap (λ front. front ++ note.cell ∷ []) known.of_first
      ∙ sym (take_more cells (length notes) note.cell next.of_next) ∙ ap (λ n. take n cells) (sym (longer_by_one notes note));
  each_knows = All-append (λ (n : Note). is_some n.cause ≡ true) notes (note ∷ []) known.each_knows (All-cons (λ (n : Note). is_some n.cause ≡ true) note [] next.knows (All-nil (λ (n : Note). is_some n.cause ≡ true)));
}

pub none_known : (cells : List ℕ) → AreKnown cells []
none_known cells = record { of_first = refl; each_knows = All-nil (λ (n : Note). is_some n.cause ≡ true) }
