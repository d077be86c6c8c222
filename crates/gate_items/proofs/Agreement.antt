-- The index of a pipeline's items agrees with them after each change.
use Rattle.std.proofs.Common.{◌≡◌, ◌∙◌, ◌+◌, ◌<◌, ◌≤◌, ℕ, List, [], ◌∷◌, ◌++◌, Bool, true, false, cond, Option, Some, None, map, nat_eq, refl, sym, ap, arith, subst}
use Rattle.std.specs.Prelude.{IsSome, is_some, unwrap_or}
use Rattle.std.specs.BTreeMap.{insert_entry, is_at}
use Rattle.std.specs.Cmp.{unsigned_ties}
use Rattle.std.specs.List.{list_all}
use Rattle.std.specs.Map.{lookup, remove_entry, set_value}
use Rattle.std.specs.Ordering.{nat_cmp}
use Rattle.std.proofs.lemmas.Bool.{ne_eqb}
use Rattle.gate_items.specs.Inner.Agreement.{Agrees, Each, Found, is_here}
use Rattle.gate_items.specs.KeyOrder.{key_cmp}
use Rattle.gate_items.specs.Inner.KeyOrder.{same_by_cmp}
use Rattle.gate_items.specs.Keys.{is_same}
use Rattle.gate_items.specs.Machine.{has_ended, has_set, is_complete, is_of, open_job, with_set}
use Rattle.gate_items.specs.declared.item.QueueItem.{QueueItem}
use Rattle.gate_items.specs.declared.key.Key.{Key}
use Rattle.gate_items.proofs.Entries.{Entry, at_apart, at_place, at_same, at_true, each_both, each_last, each_map, each_removed, each_set, here_true, insert_last, look_last, look_more, look_removed, look_set, looked, looked_some, removed_apart, tied_both, rises_last, rises_removed, rises_set, tied}

abbrev nowhere : Option ℕ
nowhere = None

false_true : false ≡ true → ⊥
false_true e = cc

-- ---- one number of an index

-- what found p finds nothing now, and no other entry was at p
pub dropped : (b : Bool) (o o' : Option ℕ) (p place : ℕ) (test mine : Bool) → o' ≡ cond b None o → mine ≡ b → mine ≡ is_here o p → at_place p place ≡ false → test ≡ is_here o place → test ≡ is_here o' place
dropped true o o' p place test mine e m at apart t =
    let found : o ≡ Some p = here_true o p (sym at ∙ m) in
    t ∙ ap (λ x. is_here x place) found ∙ apart ∙ ap (λ x. is_here x place) (sym e)
dropped false o o' p place test mine e m at apart t = t ∙ ap (λ x. is_here x place) (sym e)

-- what is found still isn't p
pub others : (b : Bool) (o o' : Option ℕ) (p place : ℕ) (mine : Bool) → o' ≡ cond b None o → mine ≡ b → mine ≡ is_here o p → o' ≡ Some place → (o ≡ Some place) × (p ≡ place → ⊥)
others true o o' p place mine e m at is = absurd (clash (sym e ∙ is))
  where
    clash : nowhere ≡ Some place → ⊥
    clash e = cc
others false o o' p place mine e m at is =
    let found : o ≡ Some place = sym e ∙ is in (
      found,
      λ same. differs (sym m ∙ at ∙ ap (λ x. is_here x p) found ∙ at_same place p (sym same)),
    )
  where
    differs : false ≡ true → ⊥
    differs e = cc

-- a place that is new
pub added_here : (b : Bool) (o o' : Option ℕ) (next place : ℕ) (test : Bool) → o' ≡ cond b (Some next) o → (b ≡ true → test ≡ false) → place < next → test ≡ is_here o place → test ≡ is_here o' place
added_here true o o' next place test e quiet low t = quiet refl ∙ sym (at_apart next place (λ s. omega (arith, s, low))) ∙ ap (λ x. is_here x place) (sym e)
added_here false o o' next place test e quiet low t = t ∙ ap (λ x. is_here x place) (sym e)

pub new_here : (b : Bool) (o o' : Option ℕ) (next : ℕ) (mine : Bool) → o' ≡ cond b (Some next) o → mine ≡ b → is_here o next ≡ false → mine ≡ is_here o' next
new_here true o o' next mine e m away = m ∙ sym (at_same next next refl) ∙ ap (λ x. is_here x next) (sym e)
new_here false o o' next mine e m away = m ∙ sym away ∙ ap (λ x. is_here x next) (sym e)

pub away_by : (o : Option ℕ) (next : ℕ) → ((place : ℕ) → o ≡ Some place → place < next) → is_here o next ≡ false
away_by None next low = refl
away_by (Some place) next low = at_apart place next (λ s. omega (arith, s, low place refl))

pub new_live : (b : Bool) (o o' : Option ℕ) (next place : ℕ) (P : ℕ → Type 0) → o' ≡ cond b (Some next) o → (o ≡ Some place → P place) → P next → o' ≡ Some place → P place
new_live true o o' next place P e old new is = subst P (ap (λ (o : Option ℕ). unwrap_or o next) (sym e ∙ is)) new
new_live false o o' next place P e old new is = old (sym e ∙ is)

-- ---- an index that agrees

module _ (next : ℕ) (es : List Entry) (f : Key → Option ℕ) (g : ℕ → Option ℕ) (ok : Agrees next es f g) where
  below : Each (λ e. e.0 < next) es
  below = each_map (Found next f g) (λ e. e.0 < next) es (λ e h. h.low) ok.each

  -- an index with the same answers
  pub same_answers : (es' : List Entry) (f' : Key → Option ℕ) (g' : ℕ → Option ℕ) → es' ≡ es → ((q : Key) → f' q ≡ f q) → ((n : ℕ) → g' n ≡ g n) → Agrees next es' f' g'
  same_answers es' f' g' same fe ge = subst (λ (l : List Entry). Agrees next l f' g') (sym same) (record {
    each = each_map (Found next f g) (Found next f' g') es (λ e h. record {
      keyed = λ q. h.keyed q ∙ ap (λ o. is_here o e.0) (sym (fe q));
      numbered = λ n. h.numbered n ∙ ap (λ o. is_here o e.0) (sym (ge n));
      low = h.low;
      handed = h.handed;
      waits = h.waits;
    }) ok.each;
    rises = ok.rises;
    keys = λ q place e. ok.keys q place (sym (fe q) ∙ e);
    sets = λ n place e. ok.sets n place (sym (ge n) ∙ e);
  })

  pub low_key : (q : Key) (place : ℕ) → f q ≡ Some place → place < next
  low_key q place e = (looked_some (λ x. x.0 < next) place es below (ok.keys q place e)).1

  pub low_set : (n place : ℕ) → g n ≡ Some place → place < next
  low_set n place e = (looked_some (λ x. x.0 < next) place es below (ok.sets n place e)).1

  -- a number that wasn't handed out finds nothing
  pub new_set : (n : ℕ) → next ≤ n → g n ≡ None
  new_set n h = by (g n) refl
    where
      by : (o : Option ℕ) → g n ≡ o → o ≡ None
      by None e = refl
      by (Some place) e =
          let s : (item : QueueItem) × Found next f g (place, item) = looked_some (Found next f g) place es ok.each (ok.sets n place e) in
          let hit : nat_eq s.0.set n ≡ true = s.1.numbered n ∙ ap (λ o. is_here o place) e ∙ at_same place place refl in
          absurd (false_true (sym (ne_eqb s.0.set n (λ same. omega (arith, same, h, s.1.handed))) ∙ hit))

  -- nothing is at the next place
  pub new_place : lookup (at_place next) es ≡ None
  new_place = by (lookup (at_place next) es) refl
    where
      by : (o : Option QueueItem) → lookup (at_place next) es ≡ o → o ≡ None
      by None e = refl
      by (Some item) e = let l : next < next = looked (λ x. x.0 < next) next item es below e in absurd (omega (arith, l))

  module _ (p : ℕ) (item : QueueItem) (is : lookup (at_place p) es ≡ Some item) where
    pub mine : Found next f g (p, item)
    mine = looked (Found next f g) p item es ok.each is

    my_key : (q : Key) → is_of q item ≡ is_at (key_cmp item.key) q
    my_key q = same_by_cmp item.key q

    my_set : (n : ℕ) → has_set n item ≡ at_place item.set n
    my_set n = unsigned_ties item.set n

    -- the item is taken out
    pub removed : (es' : List Entry) (f' : Key → Option ℕ) (g' : ℕ → Option ℕ) → es' ≡ remove_entry (at_place p) es → ((q : Key) → f' q ≡ cond (is_at (key_cmp item.key) q) None (f q)) → ((n : ℕ) → g' n ≡ cond (at_place item.set n) None (g n)) → Agrees next es' f' g'
    removed es' f' g' gone fe ge = subst (λ (l : List Entry). Agrees next l f' g') (sym gone) (record {
      each = each_map (λ e. Found next f g e × (at_place p e.0 ≡ false)) (Found next f' g') (remove_entry (at_place p) es) (λ e h. record {
        keyed = λ q. dropped (is_at (key_cmp item.key) q) (f q) (f' q) p e.0 (is_of q e.1) (is_of q item) (fe q) (my_key q) (mine.keyed q) h.1 (h.0.keyed q);
        numbered = λ n. dropped (at_place item.set n) (g n) (g' n) p e.0 (has_set n e.1) (has_set n item) (ge n) (my_set n) (mine.numbered n) h.1 (h.0.numbered n);
        low = h.0.low;
        handed = h.0.handed;
        waits = h.0.waits;
      }) (each_both (Found next f g) (λ e. at_place p e.0 ≡ false) (remove_entry (at_place p) es) (each_removed (Found next f g) p es ok.each) (removed_apart p 0 es ok.rises));
      rises = rises_removed p 0 es ok.rises;
      keys = λ q place e.
          let o : (f q ≡ Some place) × (p ≡ place → ⊥) = others (is_at (key_cmp item.key) q) (f q) (f' q) p place (is_of q item) (fe q) (my_key q) (mine.keyed q) e in
          look_removed p place es o.1 (ok.keys q place o.0);
      sets = λ n place e.
          let o : (g n ≡ Some place) × (p ≡ place → ⊥) = others (at_place item.set n) (g n) (g' n) p place (has_set n item) (ge n) (my_set n) (mine.numbered n) e in
          look_removed p place es o.1 (ok.sets n place o.0);
    })

    -- the item is changed, but for its key and its build set
    pub rewritten : (w : QueueItem) (es' : List Entry) (f' : Key → Option ℕ) (g' : ℕ → Option ℕ) → es' ≡ set_value (at_place p) es w → w.key ≡ item.key → w.set ≡ item.set → is_complete w ≡ false → ((q : Key) → f' q ≡ f q) → ((n : ℕ) → g' n ≡ g n) → Agrees next es' f' g'
    rewritten w es' f' g' wrote key set waits fe ge = subst (λ (l : List Entry). Agrees next l f' g') (sym wrote) (record {
      each = each_set (Found next f g) (Found next f' g') p 0 w es ok.rises ok.each
          (λ e at h. let s : p ≡ e.0 = at_true p e.0 at in record {
            keyed = λ q. ap (λ k. is_same k q) key ∙ mine.keyed q ∙ ap (λ n. is_here (f q) n) s ∙ ap (λ o. is_here o e.0) (sym (fe q));
            numbered = λ n. ap (λ k. nat_eq k n) set ∙ mine.numbered n ∙ ap (λ m. is_here (g n) m) s ∙ ap (λ o. is_here o e.0) (sym (ge n));
            low = h.low;
            handed = subst (λ n. n < next) (sym set) mine.handed;
            waits = waits;
          })
          (λ e at h. record {
            keyed = λ q. h.keyed q ∙ ap (λ o. is_here o e.0) (sym (fe q));
            numbered = λ n. h.numbered n ∙ ap (λ o. is_here o e.0) (sym (ge n));
            low = h.low;
            handed = h.handed;
            waits = h.waits;
          });
      rises = rises_set p 0 w es ok.rises;
      keys = λ q place e. look_set p place w es (ok.keys q place (sym (fe q) ∙ e));
      sets = λ n place e. look_set p place w es (ok.sets n place (sym (ge n) ∙ e));
    })

  -- an item is put last, whose key had none
  pub added : (item : QueueItem) (es' : List Entry) (f' : Key → Option ℕ) (g' : ℕ → Option ℕ) → f item.key ≡ None → item.set ≡ next → is_complete item ≡ false → es' ≡ es ++ (next, item) ∷ [] → ((q : Key) → f' q ≡ cond (is_at (key_cmp item.key) q) (Some next) (f q)) → ((n : ℕ) → g' n ≡ cond (at_place item.set n) (Some next) (g n)) → Agrees (next + 1) es' f' g'
  added item es' f' g' free set waits more fe ge = subst (λ (l : List Entry). Agrees (next + 1) l f' g') (sym more) (record {
    each = each_last (Found (next + 1) f' g') es (next, item) (each_map (Found next f g) (Found (next + 1) f' g') es (λ e h. record {
      keyed = λ q. added_here (is_at (key_cmp item.key) q) (f q) (f' q) next e.0 (is_of q e.1) (fe q) (λ t. tied item.key q e.1.key t ∙ h.keyed item.key ∙ ap (λ o. is_here o e.0) free) h.low (h.keyed q);
      numbered = λ n. added_here (at_place item.set n) (g n) (g' n) next e.0 (has_set n e.1) (ge n) (λ t. let s : item.set ≡ n = at_true item.set n t in ne_eqb e.1.set n (λ same. omega (arith, same, s, set, h.handed))) h.low (h.numbered n);
      low = omega (arith, h.low);
      handed = omega (arith, h.handed);
      waits = h.waits;
    }) ok.each) (record {
      keyed = λ q. new_here (is_at (key_cmp item.key) q) (f q) (f' q) next (is_of q item) (fe q) (same_by_cmp item.key q) (away_by (f q) next (low_key q));
      numbered = λ n. new_here (at_place item.set n) (g n) (g' n) next (has_set n item) (ge n) (unsigned_ties item.set n) (away_by (g n) next (low_set n));
      low = omega arith;
      handed = omega (arith, set);
      waits = waits;
    });
    rises = rises_last 0 next item es (omega arith) below ok.rises;
    keys = λ q place e. new_live (is_at (key_cmp item.key) q) (f q) (f' q) next place (λ n. IsSome (lookup (at_place n) (es ++ (next, item) ∷ []))) (fe q) (λ h. look_more place es (next, item) (ok.keys q place h)) (look_last next item es) e;
    sets = λ n place e. new_live (at_place item.set n) (g n) (g' n) next place (λ k. IsSome (lookup (at_place k) (es ++ (next, item) ∷ []))) (ge n) (λ h. look_more place es (next, item) (ok.sets n place h)) (look_last next item es) e;
  })

  pub put_last : (item : QueueItem) → insert_entry nat_cmp es next item ≡ es ++ (next, item) ∷ []
  put_last item = insert_last next item es below

-- ---- an item with a new build set

-- its old number finds nothing, and its new one finds it
renumbered_mine : (old_is new_is : Bool) (o o' : Option ℕ) (p : ℕ) (was test : Bool) → o' ≡ cond old_is None (cond new_is (Some p) o) → was ≡ old_is → was ≡ is_here o p → test ≡ new_is → (old_is ≡ true → new_is ≡ false) → test ≡ is_here o' p
renumbered_mine true new_is o o' p was test e m at t apart = t ∙ apart refl ∙ ap (λ x. is_here x p) (sym e)
renumbered_mine false true o o' p was test e m at t apart = t ∙ sym (at_same p p refl) ∙ ap (λ x. is_here x p) (sym e)
renumbered_mine false false o o' p was test e m at t apart = t ∙ sym m ∙ at ∙ ap (λ x. is_here x p) (sym e)

-- those of others find them
renumbered_other : (old_is new_is : Bool) (o o' : Option ℕ) (p place : ℕ) (was test : Bool) → o' ≡ cond old_is None (cond new_is (Some p) o) → was ≡ old_is → was ≡ is_here o p → (new_is ≡ true → test ≡ false) → at_place p place ≡ false → test ≡ is_here o place → test ≡ is_here o' place
renumbered_other true new_is o o' p place was test e m at new apart t = t ∙ ap (λ x. is_here x place) (here_true o p (sym at ∙ m)) ∙ apart ∙ ap (λ x. is_here x place) (sym e)
renumbered_other false true o o' p place was test e m at new apart t = new refl ∙ sym apart ∙ ap (λ x. is_here x place) (sym e)
renumbered_other false false o o' p place was test e m at new apart t = t ∙ ap (λ x. is_here x place) (sym e)

renumbered_live : (old_is new_is : Bool) (o o' : Option ℕ) (p place : ℕ) (P : ℕ → Type 0) → o' ≡ cond old_is None (cond new_is (Some p) o) → (o ≡ Some place → P place) → P p → o' ≡ Some place → P place
renumbered_live true new_is o o' p place P e old new is = absurd (clash (sym e ∙ is))
  where
    clash : nowhere ≡ Some place → ⊥
    clash e = cc
renumbered_live false new_is o o' p place P e old new is = new_live new_is o o' p place P e old new is

-- who waits has a job, and then it has no outcome
waits_anew : (jobs : List (List ℕ × Option Bool)) → list_all has_ended jobs ≡ false → list_all has_ended (map open_job jobs) ≡ false
waits_anew [] h = cc
waits_anew (job ∷ jobs) h = refl

pub renumbered : (next : ℕ) (es : List Entry) (f : Key → Option ℕ) (g : ℕ → Option ℕ) → Agrees next es f g → (p : ℕ) (item : QueueItem) → lookup (at_place p) es ≡ Some item → (es' : List Entry) (f' : Key → Option ℕ) (g' : ℕ → Option ℕ) → es' ≡ set_value (at_place p) es (with_set next item) → ((q : Key) → f' q ≡ f q) → ((n : ℕ) → g' n ≡ cond (at_place item.set n) None (cond (at_place next n) (Some p) (g n))) → Agrees (next + 1) es' f' g'
renumbered next es f g ok p item is es' f' g' wrote fe ge =
    let m : Found next f g (p, item) = mine next es f g ok p item is in
    let w : QueueItem = with_set next item in
    subst (λ (l : List Entry). Agrees (next + 1) l f' g') (sym wrote) (record {
      each = each_set (Found next f g) (Found (next + 1) f' g') p 0 w es ok.rises ok.each
          (λ e at h. let s : p ≡ e.0 = at_true p e.0 at in record {
            keyed = λ q. m.keyed q ∙ ap (λ n. is_here (f q) n) s ∙ ap (λ o. is_here o e.0) (sym (fe q));
            numbered = λ n. renumbered_mine (at_place item.set n) (at_place next n) (g n) (g' n) p (has_set n item) (has_set n w) (ge n) (unsigned_ties item.set n) (m.numbered n) (unsigned_ties next n) (λ t. at_apart next n (λ same. let a : item.set ≡ n = at_true item.set n t in omega (arith, a, same, m.handed))) ∙ ap (λ k. is_here (g' n) k) s;
            low = omega (arith, h.low);
            handed = omega arith;
            waits = waits_anew item.jobs m.waits;
          })
          (λ e at h. record {
            keyed = λ q. h.keyed q ∙ ap (λ o. is_here o e.0) (sym (fe q));
            numbered = λ n. renumbered_other (at_place item.set n) (at_place next n) (g n) (g' n) p e.0 (has_set n item) (has_set n e.1) (ge n) (unsigned_ties item.set n) (m.numbered n) (λ t. let a : next ≡ n = at_true next n t in ne_eqb e.1.set n (λ same. omega (arith, a, same, h.handed))) at (h.numbered n);
            low = omega (arith, h.low);
            handed = omega (arith, h.handed);
            waits = h.waits;
          });
      rises = rises_set p 0 w es ok.rises;
      keys = λ q place e. look_set p place w es (ok.keys q place (sym (fe q) ∙ e));
      sets = λ n place e. renumbered_live (at_place item.set n) (at_place next n) (g n) (g' n) p place (λ k. IsSome (lookup (at_place k) (set_value (at_place p) es w))) (ge n) (λ h. look_set p place w es (ok.sets n place h)) (look_set p p w es (ap is_some is)) e;
    })

-- ---- an item in place of another of its key

pub key_twice : (b c : Bool) (o x : Option ℕ) → c ≡ b → cond b o x ≡ cond b o (cond c None x)
key_twice true c o x e = refl
key_twice false c o x e = ap (λ d. cond d None x) (sym e)

set_twice : (old_is new_is : Bool) (o x : Option ℕ) → (old_is ≡ true → new_is ≡ false) → cond old_is None (cond new_is o x) ≡ cond new_is o (cond old_is None x)
set_twice true new_is o x apart = sym (ap (λ d. cond d o None) (apart refl))
set_twice false new_is o x apart = refl

pub swapped : (next : ℕ) (es : List Entry) (f : Key → Option ℕ) (g : ℕ → Option ℕ) → Agrees next es f g → (p : ℕ) (gone item : QueueItem) → f item.key ≡ Some p → lookup (at_place p) es ≡ Some gone → item.set ≡ next → is_complete item ≡ false → (es' : List Entry) (f' : Key → Option ℕ) (g' : ℕ → Option ℕ) → es' ≡ remove_entry (at_place p) es ++ (next, item) ∷ [] → ((q : Key) → f' q ≡ cond (is_at (key_cmp item.key) q) (Some next) (f q)) → ((n : ℕ) → g' n ≡ cond (at_place gone.set n) None (cond (at_place item.set n) (Some next) (g n))) → Agrees (next + 1) es' f' g'
swapped next es f g ok p gone item fe is set waits es' f' g' same keys sets =
    let m : Found next f g (p, gone) = mine next es f g ok p gone is in
    let hit : is_same gone.key item.key ≡ true = m.keyed item.key ∙ ap (λ o. is_here o p) fe ∙ at_same p p refl in
    let tie : is_at (key_cmp gone.key) item.key ≡ true = sym (same_by_cmp gone.key item.key) ∙ hit in
    let left : Agrees next (remove_entry (at_place p) es) (λ q. cond (is_at (key_cmp gone.key) q) None (f q)) (λ n. cond (at_place gone.set n) None (g n)) = removed next es f g ok p gone is (remove_entry (at_place p) es) (λ q. cond (is_at (key_cmp gone.key) q) None (f q)) (λ n. cond (at_place gone.set n) None (g n)) refl (λ q. refl) (λ n. refl) in
    added next (remove_entry (at_place p) es) (λ q. cond (is_at (key_cmp gone.key) q) None (f q)) (λ n. cond (at_place gone.set n) None (g n)) left item es' f' g'
    (ap (λ b. cond b None (f item.key)) tie)
    set waits same
    (λ q. keys q ∙ key_twice (is_at (key_cmp item.key) q) (is_at (key_cmp gone.key) q) (Some next) (f q) (tied_both gone.key item.key q tie))
    (λ n. sets n ∙ set_twice (at_place gone.set n) (at_place item.set n) (Some next) (g n) (λ t. at_apart item.set n (λ s. let a : gone.set ≡ n = at_true gone.set n t in omega (arith, a, s, set, m.handed))))
