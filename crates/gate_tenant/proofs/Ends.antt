-- The marks of connections, beside the end marks of a list of items.
use Rattle.std.proofs.Common.{◌≡◌, ◌∙◌, refl, sym, ap, subst, ℕ, zero, suc, ◌+◌, ◌<◌, ◌==◌, List, [], ◌∷◌, Bool, true, false, not, ◌&&◌, ◌||◌, length, replicate, get_or, slice_set, arith}
use Rattle.std.proofs.lemmas.Bool.{eq-eqb, eqb-true}
use Rattle.std.proofs.lemmas.Grind.{get_or-set_at}
use Rattle.std.proofs.lemmas.List.{get_or-set_other}
use Rattle.std.specs.List.{list_all, list_any, range_with_len}
use Rattle.gate_record.specs.declared.transit.TenantItem.{TenantItem}
use Rattle.gate_record.specs.declared.transit.TenantItem.TheVariants as tenant
use Rattle.gate_config.specs.declared.config.Config.{Config}
use Rattle.gate_config.specs.Limits.{most_connections}
use Rattle.gate_config.specs.Lookups.{connections_of, lists}
use Rattle.gate_tenant.specs.Dispatching.{all_marked, all_marked_in, is_end_of, is_marked, marks_after, no_marks}

or_false : (b : Bool) → (b || false) ≡ b
or_false false = refl
or_false true = refl

or_assoc : (a b c : Bool) → ((a || b) || c) ≡ (a || (b || c))
or_assoc false b c = refl
or_assoc true b c = refl

or_true : (b : Bool) → (b || true) ≡ true
or_true false = refl
or_true true = refl

set_mark : (marks : List Bool) (i c : ℕ) → c < length marks → get_or (slice_set marks i true) c false ≡ (get_or marks c false || (i == c))
set_mark marks i c h = by (i == c) refl
  where
    by : (b : Bool) → (i == c) ≡ b → get_or (slice_set marks i true) c false ≡ (get_or marks c false || (i == c))
    by true e =
        let at : i ≡ c = eqb-true i c e in
        get_or-set_at marks i c true false (sym at) (omega (arith, at, h)) ∙ sym (ap (λ b. get_or marks c false || b) e ∙ or_true (get_or marks c false))
    by false e =
        get_or-set_other marks i c true false (λ k. let at : (i == c) ≡ true = eq-eqb i c (sym k) in absurd (cc)) ∙ sym (ap (λ b. get_or marks c false || b) e ∙ or_false (get_or marks c false))

set_length : (marks : List Bool) (i : ℕ) → length (slice_set marks i true) ≡ length marks
set_length [] i = refl
set_length (mark ∷ marks) zero = refl
set_length (mark ∷ marks) (suc i) = ap suc (set_length marks i)

mark_is : (marks : List Bool) (items : List TenantItem) (c : ℕ) → c < length marks → get_or (marks_after items marks) c false ≡ (get_or marks c false || list_any (is_end_of c) items)
mark_is marks [] c h = sym (or_false (get_or marks c false))
mark_is marks (tenant.Event s ∷ items) c h = mark_is marks items c h
mark_is marks (tenant.End conn ∷ items) c h =
    mark_is (slice_set marks conn.0 true) items c (subst (λ n. c < n) (sym (set_length marks conn.0)) h)
    ∙ ap (λ b. b || list_any (is_end_of c) items) (set_mark marks conn.0 c h)
    ∙ or_assoc (get_or marks c false) (conn.0 == c) (list_any (is_end_of c) items)

no_mark : (n c : ℕ) → get_or (replicate n false) c false ≡ false
no_mark zero c = refl
no_mark (suc n) zero = refl
no_mark (suc n) (suc c) = no_mark n c

same_for : (f g : ℕ → Bool) (a n : ℕ) → ((c : ℕ) → c < a + n → f c ≡ g c) → list_all f (range_with_len a n) ≡ list_all g (range_with_len a n)
same_for f g a zero e = refl
same_for f g a (suc n) e =
    ap (λ b. b && list_all f (range_with_len (a + 1) n)) (e a (omega arith))
    ∙ ap (λ b. g a && b) (same_for f g (a + 1) n (λ c h. e c (omega (arith, h))))

-- The marks of a list of items say whether it holds the end mark of each connection that the tenant lists.
pub ends_are : (config : Config) (t : ℕ) (items : List TenantItem) → all_marked config t (marks_after items no_marks) ≡ all_marked_in config t items
ends_are config t items =
    same_for (is_marked config t (marks_after items no_marks)) (λ c. not (lists config t c) || list_any (is_end_of c) items) 0 (length (connections_of config))
    (λ c h. ap (λ b. not (lists config t c) || b)
    (mark_is no_marks items c (omega (arith, h, config.few_connections))
    ∙ ap (λ b. b || list_any (is_end_of c) items) (no_mark most_connections c)))
