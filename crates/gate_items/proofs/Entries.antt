-- Items by their places, as writes change them.
use Rattle.std.proofs.Common.{◌≡◌, ◌∙◌, ◌+◌, ◌<◌, ◌≤◌, ℕ, List, [], ◌∷◌, ◌++◌, Bool, true, false, cond, Option, Some, None, refl, sym, ap, arith, subst}
use Rattle.std.specs.Prelude.{IsSome, is_some, unwrap_or}
use Rattle.std.specs.BTreeMap.{insert_entry, is_at}
use Rattle.std.specs.Cmp.{Equal-is, alike_right, unsigned_ties}
use Rattle.std.specs.Map.{lookup, remove_entry, set_value}
use Rattle.std.specs.Ordering.{MatchOrdering, is_eq, match_ordering, nat_cmp}
use Rattle.std.specs.declared.cmp.Ordering.{Ordering}
use Rattle.std.specs.declared.cmp.Ordering.TheVariants.{Less, Equal, Greater}
use Rattle.std.proofs.lemmas.Bool.{eq-eqb, eqb-false, eqb-true, ne_eqb}
use Rattle.std.proofs.lemmas.Cmp.{ranked}
use Rattle.gate_items.specs.Inner.Agreement.{Each, Rises, is_here}
use Rattle.gate_items.specs.KeyOrder.{key_cmp, key_cmp_total}
use Rattle.gate_items.specs.Inner.KeyOrder.{same_by_cmp}
use Rattle.gate_items.specs.Keys.{is_same}
use Rattle.gate_items.specs.declared.item.QueueItem.{QueueItem}
use Rattle.gate_items.specs.declared.key.Key.{Key}

abbrev pub Entry : Type 0
Entry = ℕ × QueueItem

abbrev pub at_place : ℕ → ℕ → Bool
at_place p = is_at (nat_cmp p)

abbrev none : Option ℕ
none = None

-- ---- numbers and keys

pub at_true : (p q : ℕ) → is_at (nat_cmp p) q ≡ true → p ≡ q
at_true p q e = eqb-true p q (unsigned_ties p q ∙ e)

pub at_false : (p q : ℕ) → is_at (nat_cmp p) q ≡ false → p ≡ q → ⊥
at_false p q e = eqb-false p q (unsigned_ties p q ∙ e)

pub at_same : (p q : ℕ) → p ≡ q → is_at (nat_cmp p) q ≡ true
at_same p q e = sym (unsigned_ties p q) ∙ eq-eqb p q e

pub at_apart : (p q : ℕ) → (p ≡ q → ⊥) → is_at (nat_cmp p) q ≡ false
at_apart p q d = sym (unsigned_ties p q) ∙ ne_eqb p q d

-- keys that are tied are the same to any other
pub tied : (k q x : Key) → is_at (key_cmp k) q ≡ true → is_same x q ≡ is_same x k
tied k q x e =
    let same : key_cmp k q ≡ Equal = (Equal-is (key_cmp k q)).0 e in
    same_by_cmp x q ∙ ap is_eq (sym (alike_right key_cmp_total k q x same)) ∙ sym (same_by_cmp x k)

-- and tied to the same keys
pub tied_both : (k l q : Key) → is_at (key_cmp k) l ≡ true → is_at (key_cmp k) q ≡ is_at (key_cmp l) q
tied_both k l q e = ap is_eq (key_cmp_total.congr k l q ((Equal-is (key_cmp k l)).0 e))

pub here_true : (o : Option ℕ) (k : ℕ) → is_here o k ≡ true → o ≡ Some k
here_true None k e = cc
here_true (Some m) k e = ap (λ n. Some n) (at_true m k e)

-- ---- lists of entries

pub each_map : (P Q : Entry → Type 0) (es : List Entry) → ((e : Entry) → P e → Q e) → Each P es → Each Q es
each_map P Q [] f all = tt
each_map P Q (e ∷ es) f all = (f e all.0, each_map P Q es f all.1)

pub each_both : (P Q : Entry → Type 0) (es : List Entry) → Each P es → Each Q es → Each (λ e. P e × Q e) es
each_both P Q [] a b = tt
each_both P Q (e ∷ es) a b = ((a.0, b.0), each_both P Q es a.1 b.1)

pub each_removed : (P : Entry → Type 0) (p : ℕ) (es : List Entry) → Each P es → Each P (remove_entry (at_place p) es)
each_removed P p [] all = tt
each_removed P p (e ∷ es) all = by (at_place p e.0) (each_removed P p es all.1)
  where
    by : (b : Bool) → Each P (remove_entry (at_place p) es) → Each P (cond b es (e ∷ remove_entry (at_place p) es))
    by true more = all.1
    by false more = (all.0, more)

pub each_last : (P : Entry → Type 0) (es : List Entry) (x : Entry) → Each P es → P x → Each P (es ++ x ∷ [])
each_last P [] x all one = (one, tt)
each_last P (e ∷ es) x all one = (all.0, each_last P es x all.1 one)

rises_low : (low high : ℕ) (es : List Entry) → low ≤ high → Rises high es → Rises low es
rises_low low high [] h r = tt
rises_low low high (e ∷ es) h r = (omega (arith, h, r.0), r.1)

rises_apart : (p low : ℕ) (es : List Entry) → p < low → Rises low es → Each (λ e. at_place p e.0 ≡ false) es
rises_apart p low [] h r = tt
rises_apart p low (e ∷ es) h r = (at_apart p e.0 (λ s. omega (arith, s, h, r.0)), rises_apart p (e.0 + 1) es (omega (arith, h, r.0)) r.1)

pub rises_removed : (p low : ℕ) (es : List Entry) → Rises low es → Rises low (remove_entry (at_place p) es)
rises_removed p low [] r = tt
rises_removed p low (e ∷ es) r = by (at_place p e.0) (rises_removed p (e.0 + 1) es r.1)
  where
    by : (b : Bool) → Rises (e.0 + 1) (remove_entry (at_place p) es) → Rises low (cond b es (e ∷ remove_entry (at_place p) es))
    by true more = rises_low low (e.0 + 1) es (omega (arith, r.0)) r.1
    by false more = (r.0, more)

pub rises_set : (p low : ℕ) (w : QueueItem) (es : List Entry) → Rises low es → Rises low (set_value (at_place p) es w)
rises_set p low w [] r = tt
rises_set p low w (e ∷ es) r = by (at_place p e.0) (rises_set p (e.0 + 1) w es r.1)
  where
    by : (b : Bool) → Rises (e.0 + 1) (set_value (at_place p) es w) → Rises low (cond b ((e.0, w) ∷ es) (e ∷ set_value (at_place p) es w))
    by true more = (r.0, r.1)
    by false more = (r.0, more)

pub rises_last : (low next : ℕ) (item : QueueItem) (es : List Entry) → low ≤ next → Each (λ e. e.0 < next) es → Rises low es → Rises low (es ++ (next, item) ∷ [])
rises_last low next item [] h below r = (h, tt)
rises_last low next item (e ∷ es) h below r = (r.0, rises_last (e.0 + 1) next item es (omega (arith, below.0)) below.1 r.1)

-- what is left has other places
pub removed_apart : (p low : ℕ) (es : List Entry) → Rises low es → Each (λ e. at_place p e.0 ≡ false) (remove_entry (at_place p) es)
removed_apart p low [] r = tt
removed_apart p low (e ∷ es) r = by (at_place p e.0) refl (removed_apart p (e.0 + 1) es r.1)
  where
    by : (b : Bool) → at_place p e.0 ≡ b → Each (λ x. at_place p x.0 ≡ false) (remove_entry (at_place p) es) → Each (λ x. at_place p x.0 ≡ false) (cond b es (e ∷ remove_entry (at_place p) es))
    by true t more = let s : p ≡ e.0 = at_true p e.0 t in rises_apart p (e.0 + 1) es (omega (arith, s)) r.1
    by false t more = (t, more)

pub each_set : (P Q : Entry → Type 0) (p low : ℕ) (w : QueueItem) (es : List Entry) → Rises low es → Each P es → ((e : Entry) → at_place p e.0 ≡ true → P e → Q (e.0, w)) → ((e : Entry) → at_place p e.0 ≡ false → P e → Q e) → Each Q (set_value (at_place p) es w)
each_set P Q p low w [] r all f g = tt
each_set P Q p low w (e ∷ es) r all f g = by (at_place p e.0) refl (each_set P Q p (e.0 + 1) w es r.1 all.1 f g)
  where
    by : (b : Bool) → at_place p e.0 ≡ b → Each Q (set_value (at_place p) es w) → Each Q (cond b ((e.0, w) ∷ es) (e ∷ set_value (at_place p) es w))
    by true t more =
        let s : p ≡ e.0 = at_true p e.0 t in
        let apart : Each (λ x. at_place p x.0 ≡ false) es = rises_apart p (e.0 + 1) es (omega (arith, s)) r.1 in
        (f e t all.0, each_map (λ x. P x × (at_place p x.0 ≡ false)) Q es (λ x h. g x h.1 h.0) (each_both P (λ x. at_place p x.0 ≡ false) es all.1 apart))
    by false t more = (g e t all.0, more)

pub looked : (P : Entry → Type 0) (p : ℕ) (item : QueueItem) (es : List Entry) → Each P es → lookup (at_place p) es ≡ Some item → P (p, item)
looked P p item [] all e = cc
looked P p item (x ∷ es) all e = by (at_place p x.0) refl e (looked P p item es all.1)
  where
    by : (b : Bool) → at_place p x.0 ≡ b → cond b (Some x.1) (lookup (at_place p) es) ≡ Some item → (lookup (at_place p) es ≡ Some item → P (p, item)) → P (p, item)
    by true t h more =
        let s : x.0 ≡ p = sym (at_true p x.0 t) in
        let v : x.1 ≡ item = ap (λ o. unwrap_or o x.1) h in
        subst (λ (i : QueueItem). P (p, i)) v (subst (λ (n : ℕ). P (n, x.1)) s all.0)
    by false t h more = more h

-- what a look-up finds
pub record Sight (o : Option QueueItem) : Type 0 where
  pub item : QueueItem
  pub is : o ≡ Some item

pub sight : (o : Option QueueItem) → IsSome o → Sight o
sight None h = cc
sight (Some item) h = record { item = item; is = refl }

pub looked_some : (P : Entry → Type 0) (p : ℕ) (es : List Entry) → Each P es → IsSome (lookup (at_place p) es) → (item : QueueItem) × P (p, item)
looked_some P p es all h = let s : Sight (lookup (at_place p) es) = sight (lookup (at_place p) es) h in (s.item, looked P p s.item es all s.is)

pub look_apart : (q : ℕ) (es : List Entry) → Each (λ e. at_place q e.0 ≡ false) es → lookup (at_place q) es ≡ None
look_apart q [] all = refl
look_apart q (e ∷ es) all = ap (λ b. cond b (Some e.1) (lookup (at_place q) es)) all.0 ∙ look_apart q es all.1

-- another place's item is still found
pub look_removed : (p q : ℕ) (es : List Entry) → (p ≡ q → ⊥) → IsSome (lookup (at_place q) es) → IsSome (lookup (at_place q) (remove_entry (at_place p) es))
look_removed p q [] d h = h
look_removed p q (e ∷ es) d h = by (at_place p e.0) (at_place q e.0) refl refl h (look_removed p q es d)
  where
    by : (b c : Bool) → at_place p e.0 ≡ b → at_place q e.0 ≡ c → IsSome (cond c (Some e.1) (lookup (at_place q) es)) → (IsSome (lookup (at_place q) es) → IsSome (lookup (at_place q) (remove_entry (at_place p) es))) → IsSome (lookup (at_place q) (cond b es (e ∷ remove_entry (at_place p) es)))
    by true true s t h more = absurd (d (at_true p e.0 s ∙ sym (at_true q e.0 t)))
    by true false s t h more = h
    by false true s t h more = ap (λ c. is_some (cond c (Some e.1) (lookup (at_place q) (remove_entry (at_place p) es)))) t
    by false false s t h more = ap (λ c. is_some (cond c (Some e.1) (lookup (at_place q) (remove_entry (at_place p) es)))) t ∙ more h

pub look_set : (p q : ℕ) (w : QueueItem) (es : List Entry) → IsSome (lookup (at_place q) es) → IsSome (lookup (at_place q) (set_value (at_place p) es w))
look_set p q w [] h = h
look_set p q w (e ∷ es) h = by (at_place p e.0) (at_place q e.0) refl h (look_set p q w es)
  where
    by : (b c : Bool) → at_place q e.0 ≡ c → IsSome (cond c (Some e.1) (lookup (at_place q) es)) → (IsSome (lookup (at_place q) es) → IsSome (lookup (at_place q) (set_value (at_place p) es w))) → IsSome (lookup (at_place q) (cond b ((e.0, w) ∷ es) (e ∷ set_value (at_place p) es w)))
    by true true t h more = ap (λ c. is_some (cond c (Some w) (lookup (at_place q) es))) t
    by true false t h more = ap (λ c. is_some (cond c (Some w) (lookup (at_place q) es))) t ∙ h
    by false true t h more = ap (λ c. is_some (cond c (Some e.1) (lookup (at_place q) (set_value (at_place p) es w)))) t
    by false false t h more = ap (λ c. is_some (cond c (Some e.1) (lookup (at_place q) (set_value (at_place p) es w)))) t ∙ more h

pub look_more : (q : ℕ) (es : List Entry) (x : Entry) → IsSome (lookup (at_place q) es) → IsSome (lookup (at_place q) (es ++ x ∷ []))
look_more q [] x h = cc
look_more q (e ∷ es) x h = by (at_place q e.0) h (look_more q es x)
  where
    by : (b : Bool) → IsSome (cond b (Some e.1) (lookup (at_place q) es)) → (IsSome (lookup (at_place q) es) → IsSome (lookup (at_place q) (es ++ x ∷ []))) → IsSome (cond b (Some e.1) (lookup (at_place q) (es ++ x ∷ [])))
    by true h more = h
    by false h more = more h

pub look_last : (next : ℕ) (item : QueueItem) (es : List Entry) → IsSome (lookup (at_place next) (es ++ (next, item) ∷ []))
look_last next item [] = ap (λ b. is_some (cond b (Some item) None)) (at_same next next refl)
look_last next item (e ∷ es) = by (at_place next e.0) (look_last next item es)
  where
    by : (b : Bool) → IsSome (lookup (at_place next) (es ++ (next, item) ∷ [])) → IsSome (cond b (Some e.1) (lookup (at_place next) (es ++ (next, item) ∷ [])))
    by true more = refl
    by false more = more

-- a place above all others is the last
pub insert_last : (next : ℕ) (item : QueueItem) (es : List Entry) → Each (λ e. e.0 < next) es → insert_entry nat_cmp es next item ≡ es ++ (next, item) ∷ []
insert_last next item [] below = refl
insert_last next item (e ∷ es) below = by (nat_cmp next e.0) (ranked next e.0 (nat_cmp next e.0) refl) (insert_last next item es below.1)
  where
    by : (o : Ordering) → MatchOrdering o (next < e.0) (next ≡ e.0) (e.0 < next) → insert_entry nat_cmp es next item ≡ es ++ (next, item) ∷ [] → match_ordering o ((next, item) ∷ e ∷ es) ((e.0, item) ∷ es) (e ∷ insert_entry nat_cmp es next item) ≡ e ∷ es ++ (next, item) ∷ []
    by Less h more = absurd (omega (arith, h, below.0))
    by Equal h more = absurd (omega (arith, h, below.0))
    by Greater h more = ap (λ l. e ∷ l) more

pub some_none : {A : Type 0} {x : A} → Some x ≡ None → ⊥
some_none e = cc

-- what was put in is taken out
pub insert_removed : (place : ℕ) (item : QueueItem) (es : List Entry) → lookup (at_place place) es ≡ None → remove_entry (at_place place) (insert_entry nat_cmp es place item) ≡ es
insert_removed place item [] h = ap (λ b. cond {A = List Entry} b [] ((place, item) ∷ [])) (at_same place place refl)
insert_removed place item (e ∷ es) h = by (nat_cmp place e.0) refl (insert_removed place item es)
  where
    by : (o : Ordering) → nat_cmp place e.0 ≡ o → (lookup (at_place place) es ≡ None → remove_entry (at_place place) (insert_entry nat_cmp es place item) ≡ es) → remove_entry (at_place place) (match_ordering o ((place, item) ∷ e ∷ es) ((e.0, item) ∷ es) (e ∷ insert_entry nat_cmp es place item)) ≡ e ∷ es
    by Less s more = ap (λ b. cond {A = List Entry} b (e ∷ es) ((place, item) ∷ remove_entry (at_place place) (e ∷ es))) (at_same place place refl)
    by Equal s more = absurd (some_none (ap (λ b. cond b (Some e.1) (lookup (at_place place) es)) (sym (ap is_eq s)) ∙ h))
    by Greater s more =
        ap (λ b. cond {A = List Entry} b (insert_entry nat_cmp es place item) (e ∷ remove_entry (at_place place) (insert_entry nat_cmp es place item))) (ap is_eq s)
        ∙ ap (λ l. e ∷ l) (more (ap (λ b. cond b (Some e.1) (lookup (at_place place) es)) (sym (ap is_eq s)) ∙ h))

pub removed_front : (p : ℕ) (es : List Entry) (x : Entry) → IsSome (lookup (at_place p) es) → remove_entry (at_place p) (es ++ x ∷ []) ≡ remove_entry (at_place p) es ++ x ∷ []
removed_front p [] x h = cc
removed_front p (e ∷ es) x h = by (at_place p e.0) h (removed_front p es x)
  where
    by : (b : Bool) → IsSome (cond b (Some e.1) (lookup (at_place p) es)) → (IsSome (lookup (at_place p) es) → remove_entry (at_place p) (es ++ x ∷ []) ≡ remove_entry (at_place p) es ++ x ∷ []) → cond b (es ++ x ∷ []) (e ∷ remove_entry (at_place p) (es ++ x ∷ [])) ≡ cond b es (e ∷ remove_entry (at_place p) es) ++ x ∷ []
    by true h more = refl
    by false h more = ap (λ l. e ∷ l) (more h)

pub removed_set : (p : ℕ) (w : QueueItem) (es : List Entry) → remove_entry (at_place p) (set_value (at_place p) es w) ≡ remove_entry (at_place p) es
removed_set p w [] = refl
removed_set p w (e ∷ es) = by (at_place p e.0) refl (removed_set p w es)
  where
    by : (b : Bool) → at_place p e.0 ≡ b → remove_entry (at_place p) (set_value (at_place p) es w) ≡ remove_entry (at_place p) es → remove_entry (at_place p) (cond b ((e.0, w) ∷ es) (e ∷ set_value (at_place p) es w)) ≡ cond b es (e ∷ remove_entry (at_place p) es)
    by true t more = ap (λ b. cond {A = List Entry} b es ((e.0, w) ∷ remove_entry (at_place p) es)) t
    by false t more = ap (λ b. cond {A = List Entry} b (set_value (at_place p) es w) (e ∷ remove_entry (at_place p) (set_value (at_place p) es w))) t ∙ ap (λ l. e ∷ l) more

pub look_front : (q : ℕ) (item : QueueItem) (es : List Entry) (x : Entry) → lookup (at_place q) es ≡ Some item → lookup (at_place q) (es ++ x ∷ []) ≡ Some item
look_front q item [] x h = cc
look_front q item (e ∷ es) x h = by (at_place q e.0) h (look_front q item es x)
  where
    by : (b : Bool) → cond b (Some e.1) (lookup (at_place q) es) ≡ Some item → (lookup (at_place q) es ≡ Some item → lookup (at_place q) (es ++ x ∷ []) ≡ Some item) → cond b (Some e.1) (lookup (at_place q) (es ++ x ∷ [])) ≡ Some item
    by true h more = h
    by false h more = more h

pub look_same : (p : ℕ) (w : QueueItem) (es : List Entry) → IsSome (lookup (at_place p) es) → lookup (at_place p) (set_value (at_place p) es w) ≡ Some w
look_same p w [] h = cc
look_same p w (e ∷ es) h = by (at_place p e.0) refl h (look_same p w es)
  where
    by : (b : Bool) → at_place p e.0 ≡ b → IsSome (cond b (Some e.1) (lookup (at_place p) es)) → (IsSome (lookup (at_place p) es) → lookup (at_place p) (set_value (at_place p) es w) ≡ Some w) → lookup (at_place p) (cond b ((e.0, w) ∷ es) (e ∷ set_value (at_place p) es w)) ≡ Some w
    by true t h more = ap (λ c. cond c (Some w) (lookup (at_place p) es)) t
    by false t h more = ap (λ c. cond c (Some e.1) (lookup (at_place p) (set_value (at_place p) es w))) t ∙ more h
