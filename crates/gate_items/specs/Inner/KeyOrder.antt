-- Lemmas about the order of keys that private contracts and proofs cite, beside `KeyOrder`.
use Rattle.std.specs.Prelude.{◌≡◌, ◌&&◌, ℕ, List, Bool, true, false, nat_eq, refl}
use Rattle.std.specs.Cmp.{signed_po, ties, unsigned_ties}
use Rattle.std.specs.Cmp.Lexicographic.{slice_cmp}
use Rattle.std.specs.Ordering.{int_cmp, int_eq, is_eq, nat_cmp, ordering_then}
use Rattle.std.specs.Str.{bytes_eq}
use Rattle.std.specs.declared.cmp.Ordering.{Ordering}
use Rattle.std.specs.declared.cmp.Ordering.TheVariants.{Less, Equal, Greater}
use Rattle.std.proofs.Common.{◌∙◌, ap, sym}
use Rattle.std.proofs.lemmas.Map.Text.{is_eq-slice_cmp}
use Rattle.gate_items.specs.Keys.{is_same}
use Rattle.gate_items.specs.declared.key.Key.{Key}
use Rattle.gate_items.specs.declared.key.Key.TheVariants as key
use Rattle.gate_items.specs.KeyOrder.{key_cmp}

pub both : (a b : Ordering) (c d : Bool) → c ≡ is_eq a → d ≡ is_eq b → (c && d) ≡ is_eq (ordering_then a b)
both a b c d e f = ap (λ x. x && d) e ∙ ap (λ x. is_eq a && x) f ∙ by a
  where
    by : (o : Ordering) → (is_eq o && is_eq b) ≡ is_eq (ordering_then o b)
    by Less = refl
    by Equal = refl
    by Greater = refl

pub then_equal : (o : Ordering) → o ≡ ordering_then o Equal
then_equal Less = refl
then_equal Equal = refl
then_equal Greater = refl

pub bytes_tie : (xs ys : List ℕ) → bytes_eq xs ys ≡ is_eq (slice_cmp nat_cmp xs ys)
bytes_tie xs ys = sym (is_eq-slice_cmp xs ys)

pub and_assoc : (a b c : Bool) → ((a && b) && c) ≡ (a && (b && c))
and_assoc true b c = refl
and_assoc false b c = refl

-- Two keys are the same exactly if the order says that they are equal.
pub same_by_cmp : (x y : Key) → is_same x y ≡ is_eq (key_cmp x y)
same_by_cmp (key.Change conn number) (key.Change conn' number') =
    both (nat_cmp conn.0 conn'.0) (int_cmp number number') (nat_eq conn.0 conn'.0) (int_eq number number') (unsigned_ties conn.0 conn'.0) (ties signed_po (λ x y. refl) number number')
    ∙ ap (λ o. is_eq (ordering_then (nat_cmp conn.0 conn'.0) o)) (then_equal (int_cmp number number'))
same_by_cmp (key.Ref conn project refname newrev) (key.Ref conn' project' refname' newrev') =
    and_assoc (nat_eq conn.0 conn'.0 && bytes_eq project project') (bytes_eq refname refname') (bytes_eq newrev newrev')
    ∙ and_assoc (nat_eq conn.0 conn'.0) (bytes_eq project project') (bytes_eq refname refname' && bytes_eq newrev newrev')
    ∙ both (nat_cmp conn.0 conn'.0) _ (nat_eq conn.0 conn'.0) _ (unsigned_ties conn.0 conn'.0)
    (both (slice_cmp nat_cmp project project') _ (bytes_eq project project') _ (bytes_tie project project')
    (both (slice_cmp nat_cmp refname refname') (slice_cmp nat_cmp newrev newrev') (bytes_eq refname refname') (bytes_eq newrev newrev') (bytes_tie refname refname') (bytes_tie newrev newrev')))
same_by_cmp (key.Change conn number) (key.Ref conn' project refname newrev) = refl
same_by_cmp (key.Ref conn project refname newrev) (key.Change conn' number) = refl
