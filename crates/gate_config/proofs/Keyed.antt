-- A table of patterns by their texts.
use Rattle.std.proofs.Common.{◌≡◌, ◌∙◌, ℕ, List, [], ◌∷◌, Bool, true, false, cond, Option, Some, None, Result, Ok, Err, refl, sym, ap, subst, Bor, String, Global, string_bytes}
use Rattle.std.proofs.Common.{Ordering, Less, Equal, Greater}
use Rattle.std.specs.BTreeMap.{insert_entry, is_at}
use Rattle.std.specs.Cmp.Lexicographic.{slice_cmp}
use Rattle.std.specs.Map.{lookup}
use Rattle.std.specs.Option.{IfSome, option_copied, unwrap_or}
use Rattle.std.specs.Result.{OnErr, OnOk}
use Rattle.std.specs.Ordering.{is_eq, match_ordering, nat_cmp}
use Rattle.std.specs.String.{string_cmp}
use Rattle.std.proofs.lemmas.List.Elements.{All-cons, All-head, All-nil, All-tail}
use Rattle.std.proofs.lemmas.Map.Text.{is_eq-slice_cmp}
use Rattle.std.proofs.lemmas.Slice.Eq.{bytes_eq-Decides}
use Rattle.gate_rule.specs.Pattern.{text_of}
use Rattle.gate_rule.specs.declared.pattern.Pattern.{Pattern}
use Rattle.gate_config.specs.Inner.Keyed.{IsKeyed, StandsAtText}

same : (xs ys : List ℕ) → is_eq (slice_cmp nat_cmp xs ys) ≡ true → xs ≡ ys
same xs ys e = (bytes_eq-Decides xs ys).0 (sym (is_eq-slice_cmp xs ys) ∙ e)

pub keyed_none : IsKeyed []
keyed_none = All-nil StandsAtText

by_test : (b : Bool) (text : List ℕ) (k : String Global) (p found : Pattern) (rest : Option Pattern) → is_eq (slice_cmp nat_cmp text (string_bytes k)) ≡ b → text_of p ≡ string_bytes k → (rest ≡ Some found → text_of found ≡ text) → cond b (Some p) rest ≡ Some found → text_of found ≡ text
by_test true text k p found rest e at more f =
    subst (λ q. text_of q ≡ text) (ap (λ o. unwrap_or o p) f) (at ∙ sym (same text (string_bytes k) e))
by_test false text k p found rest e at more f = more f

-- what stands at a text was built from it
pub keyed_found : (entries : List (String Global × Pattern)) (text : List ℕ) (found : Pattern) → IsKeyed entries → lookup (is_at (λ (k : String Global). slice_cmp nat_cmp text (string_bytes k))) entries ≡ Some found → text_of found ≡ text
keyed_found [] text found h f = cc
keyed_found (entry ∷ entries) text found h f =
    by_test (is_eq (slice_cmp nat_cmp text (string_bytes entry.0))) text entry.0 entry.1 found _ refl (All-head StandsAtText entry entries h) (keyed_found entries text found (All-tail StandsAtText entry entries h)) f

by_order : (o : Ordering) (k : String Global) (p : Pattern) (entry : String Global × Pattern) (entries more : List (String Global × Pattern)) → string_cmp k entry.0 ≡ o → text_of p ≡ string_bytes k → IsKeyed (entry ∷ entries) → IsKeyed more → IsKeyed (match_ordering o ((k, p) ∷ entry ∷ entries) ((entry.0, p) ∷ entries) (entry ∷ more))
by_order Less k p entry entries more e at h m = All-cons StandsAtText (k, p) (entry ∷ entries) at h
by_order Equal k p entry entries more e at h m = All-cons StandsAtText (entry.0, p) entries (at ∙ same (string_bytes k) (string_bytes entry.0) (rw e refl)) (All-tail StandsAtText entry entries h)
by_order Greater k p entry entries more e at h m = All-cons StandsAtText entry more (All-head StandsAtText entry entries h) m

-- one more pattern
pub keyed_more : (entries : List (String Global × Pattern)) (k : String Global) (p : Pattern) → text_of p ≡ string_bytes k → IsKeyed entries → IsKeyed (insert_entry string_cmp entries k p)
keyed_more [] k p at h = All-cons StandsAtText (k, p) [] at h
keyed_more (entry ∷ entries) k p at h = by_order (string_cmp k entry.0) k p entry entries (insert_entry string_cmp entries k p) refl at h (keyed_more entries k p at (All-tail StandsAtText entry entries h))

-- what a search answers
pub if_found : (r : Option (Bor Pattern)) (entries : List (String Global × Pattern)) (text : List ℕ) → IsKeyed entries → option_copied r ≡ lookup (is_at (λ (k : String Global). slice_cmp nat_cmp text (string_bytes k))) entries → IfSome r (λ p. text_of p.now ≡ text)
if_found None entries text h e = tt
if_found (Some p) entries text h e = keyed_found entries text p.now h (sym e)

-- what an insertion leaves
pub keyed_after : {A E : Type 0} (r : Result A E) (old new : List (String Global × Pattern)) (k : String Global) (p : Pattern) → IsKeyed old → text_of p ≡ string_bytes k → OnOk r (new ≡ insert_entry string_cmp old k p) → OnErr r (new ≡ old) → IsKeyed new
keyed_after (Ok a) old new k p h at ok err = subst IsKeyed (sym ok) (keyed_more old k p at h)
keyed_after (Err e) old new k p h at ok err = subst IsKeyed (sym err) h
