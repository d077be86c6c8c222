-- Numbers that are handed out one after another.
use Rattle.std.proofs.Common.{◌≡◌, ◌∙◌, ◌+◌, ◌<◌, ◌≤◌, ℕ, List, [], ◌∷◌, ◌++◌, Bool, true, false, length, nat_eq, nat_lt, refl, sym, arith, subst}
use Rattle.std.proofs.lemmas.Bool.{eqb-true, eqb-false, ltb-true, ltb-false}
use Rattle.gate_items.specs.declared.item.QueueItem.{QueueItem}
use Rattle.gate_items.specs.Machine.{renewed, with_set}
use Rattle.gate_items.proofs.Times.{once, once_most, once_other, times, times-append}

-- the build sets of these items are numbers from k on, below k + c, and each stands once at the most
pub record Chunk (k c : ℕ) (items : List QueueItem) : Type 0 where
  pub most : (n : ℕ) → times n items ≤ 1
  pub low : (n : ℕ) → n < k → times n items ≡ 0
  pub high : (n : ℕ) → k + c ≤ n → times n items ≡ 0

pub chunk_none : (k : ℕ) → Chunk k 0 []
chunk_none k = record { most = λ n. omega arith; low = λ n h. refl; high = λ n h. refl }

-- one item in front, which has the number
-- a number is that of the front, or not
apart : (k n a b : ℕ) → a ≤ 1 → ((n ≡ k → ⊥) → a ≡ 0) → b ≤ 1 → (n < k + 1 → b ≡ 0) → a + b ≤ 1
apart k n a b few other most low = by (nat_eq n k) (eqb-true n k) (eqb-false n k)
  where
    by : (same : Bool) → (same ≡ true → n ≡ k) → (same ≡ false → n ≡ k → ⊥) → a + b ≤ 1
    by true same differs = let e : n ≡ k = same refl in let none : b ≡ 0 = low (omega (arith, e)) in omega (arith, few, none)
    by false same differs = let none : a ≡ 0 = other (differs refl) in omega (arith, most, none)

pub chunk_more : (k c : ℕ) (item : QueueItem) (items : List QueueItem) → item.set ≡ k → Chunk (k + 1) c items → Chunk k (c + 1) (item ∷ items)
chunk_more k c item items e chunk = record {
  most = λ n. apart k n (once n item.set) (times n items) (once_most n item.set) (λ differs. once_other n item.set (λ s. differs (sym s ∙ e))) (chunk.most n) (chunk.low n);
  low = λ n h. let none : once n item.set ≡ 0 = once_other n item.set (λ s. omega (arith, s, e, h)) in let rest : times n items ≡ 0 = chunk.low n (omega (arith, h)) in omega (arith, none, rest);
  high = λ n h. let none : once n item.set ≡ 0 = once_other n item.set (λ s. omega (arith, s, e, h)) in let rest : times n items ≡ 0 = chunk.high n (omega (arith, h)) in omega (arith, none, rest);
}

pub chunk_renewed : (k : ℕ) (items : List QueueItem) → Chunk k (length items) (renewed k items)
chunk_renewed k [] = chunk_none k
chunk_renewed k (item ∷ items) = subst (λ c. Chunk k c (renewed k (item ∷ items))) (omega arith) (chunk_more k (length items) (with_set k item) (renewed (k + 1) items) refl (chunk_renewed (k + 1) items))

-- two chunks, one after the other
pub chunk_both : (k c d : ℕ) (xs ys : List QueueItem) → Chunk k c xs → Chunk (k + c) d ys → Chunk k (c + d) (xs ++ ys)
chunk_both k c d xs ys first second = record {
  most = λ n. most n (first.most n) (second.most n);
  low = λ n h. let a : times n xs ≡ 0 = first.low n h in let b : times n ys ≡ 0 = second.low n (omega (arith, h)) in omega (arith, a, b, times-append n xs ys);
  high = λ n h. let a : times n xs ≡ 0 = first.high n (omega (arith, h)) in let b : times n ys ≡ 0 = second.high n (omega (arith, h)) in omega (arith, a, b, times-append n xs ys);
}
  where
    by : (n : ℕ) (l : Bool) → (l ≡ true → n < k + c) → (l ≡ false → k + c ≤ n) → times n (xs ++ ys) ≤ 1
    by n true below above = let b : times n ys ≡ 0 = second.low n (below refl) in omega (arith, first.most n, b, times-append n xs ys)
    by n false below above = let a : times n xs ≡ 0 = first.high n (above refl) in omega (arith, second.most n, a, times-append n xs ys)

    most : (n : ℕ) → times n xs ≤ 1 → times n ys ≤ 1 → times n (xs ++ ys) ≤ 1
    most n a b = by n (nat_lt n (k + c)) (ltb-true n (k + c)) (ltb-false n (k + c))
