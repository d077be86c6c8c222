-- One more key of a set of names.
use Rattle.std.proofs.Common.{◌≡◌, ℕ, List, [], ◌∷◌, map, refl, ap, String, Global, string_bytes}
use Rattle.std.proofs.Common.{Ordering, Less, Equal, Greater}
use Rattle.std.specs.BTreeSet.{insert_key}
use Rattle.std.specs.Ordering.{match_ordering}
use Rattle.std.specs.String.{string_cmp}
use Rattle.gate_config.specs.Names.{with_name}

-- one more key
by_order : (o : Ordering) (k x : String Global) (xs : List (String Global)) (more : List (List ℕ)) (rest : List (String Global)) → map string_bytes rest ≡ more → map string_bytes (match_ordering o (k ∷ x ∷ xs) (x ∷ xs) (x ∷ rest)) ≡ match_ordering o (string_bytes k ∷ string_bytes x ∷ map string_bytes xs) (string_bytes x ∷ map string_bytes xs) (string_bytes x ∷ more)
by_order Less k x xs more rest e = refl
by_order Equal k x xs more rest e = refl
by_order Greater k x xs more rest e = ap (λ names. string_bytes x ∷ names) e

pub inserted : (keys : List (String Global)) (k : String Global) → map string_bytes (insert_key string_cmp keys k) ≡ with_name (string_bytes k) (map string_bytes keys)
inserted [] k = refl
inserted (x ∷ xs) k = by_order (string_cmp k x) k x xs (with_name (string_bytes k) (map string_bytes xs)) (insert_key string_cmp xs k) (inserted xs k)
