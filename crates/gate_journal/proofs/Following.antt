-- What a journal knows behind one more action.
use Rattle.std.proofs.Common.{◌≡◌, ◌∙◌, ◌+◌, ◌-◌, ℕ, zero, suc, List, [], ◌∷◌, ◌++◌, cond, Option, Some, None, length, map, drop, take, refl, sym, ap, subst, arith, length-append}
use Rattle.std.specs.Prelude.{option_and_then}
use Rattle.std.specs.List.{range_with_len}
use Rattle.std.specs.Option.{option_to_list}
use Rattle.gate_record.specs.declared.ids.ManagerKind.{ManagerKind}
use Rattle.gate_record.specs.declared.ids.ManagerKind.TheVariants.{Independent, Dependent}
use Rattle.gate_items.specs.declared.action.Action.{Action}
use Rattle.gate_items.specs.declared.action.Action.TheVariants as action
use Rattle.gate_items.specs.declared.action.Manage.TheVariants as manage
use Rattle.gate_items.specs.declared.action.Outcome.{Outcome}
use Rattle.gate_items.specs.declared.action.Outcome.TheVariants.{Applied}
use Rattle.gate_items.specs.declared.item.QueueItem.{QueueItem}
use Rattle.gate_items.specs.declared.item.Report.{Report}
use Rattle.gate_items.specs.declared.key.Key.{Key}
use Rattle.gate_items.specs.History.{after}
use Rattle.gate_items.specs.Keys.{is_same}
use Rattle.gate_items.specs.Machine.{State, apply}
use Rattle.gate_items.specs.Sets.{EachKeyGoes, KeysGo, QueueGoes, QueuesGo, cancelled, key_meant, reported, reported_sets, set_behind, set_under, sets_of}
use Rattle.gate_journal.specs.Follows.{items_after}
use Rattle.gate_journal.specs.Live.{is_reported, keyed_after}

-- one action more
pub one_more : (s : State) (actions : List Action) (a : Action) → after s (actions ++ a ∷ []) ≡ (apply (after s actions) a).0
one_more s [] a = refl
one_more s (x ∷ actions) a = one_more (apply s x).0 actions a

-- ---- parts of lists

drop_front : {X : Type 0} (xs ys : List X) → drop (length xs) (xs ++ ys) ≡ ys
drop_front [] ys = refl
drop_front (x ∷ xs) ys = drop_front xs ys

take_front : {X : Type 0} (xs ys : List X) → take (length xs) (xs ++ ys) ≡ xs
take_front [] ys = refl
take_front (x ∷ xs) ys = ap (λ zs. x ∷ zs) (take_front xs ys)

length_map : {X Y : Type 0} (f : X → Y) (xs : List X) → length (map f xs) ≡ length xs
length_map f [] = refl
length_map f (x ∷ xs) = let rest : length (map f xs) ≡ length xs = length_map f xs in omega (arith, rest)

length_range : (k n : ℕ) → length (range_with_len k n) ≡ n
length_range k zero = refl
length_range k (suc n) = let rest : length (range_with_len (k + 1) n) ≡ n = length_range (k + 1) n in omega (arith, rest)

-- ---- a dependent pipeline

-- the numbers that a journal had, how many of them are reported and how many stay
pub record QueueFollows (sets : List ℕ) (told staying next : ℕ) (s s' : State) : Type 0 where
  pub lost : drop staying (drop told sets) ≡ sets_of (cancelled s s')
  pub left : take staying (drop told sets) ++ range_with_len next (s'.next - next) ≡ sets_of s'.items

module _ (s s' : State) (a : Action) (goes : QueueGoes s a (s', Applied)) (sets : List ℕ) (same : sets ≡ sets_of s.items) where
  abbrev lost_sets : List ℕ
  lost_sets = sets_of (cancelled s s')

  parts : drop (length (reported s s')) sets ≡ goes.stay ++ lost_sets
  parts =
      ap (drop (length (reported s s'))) (same ∙ goes.before)
      ∙ ap (λ n. drop n (reported_sets (reported s s') ++ (goes.stay ++ lost_sets))) (sym (length_map (λ (report : Report). report.set) (reported s s')))
      ∙ drop_front (reported_sets (reported s s')) (goes.stay ++ lost_sets)

  staying_is : length s'.items - (s'.next - s.next) ≡ length goes.stay
  staying_is =
      let all : length (sets_of s'.items) ≡ length s'.items = length_map (λ (item : QueueItem). item.set) s'.items in
      let both : length (sets_of s'.items) ≡ length goes.stay + length (range_with_len s.next (s'.next - s.next)) =
      ap length goes.behind ∙ length-append goes.stay (range_with_len s.next (s'.next - s.next)) in
      omega (arith, all, both, length_range s.next (s'.next - s.next))

  follows : QueueFollows sets (length (reported s s')) (length s'.items - (s'.next - s.next)) s.next s s'
  follows = record {
    lost = ap (λ n. drop n (drop (length (reported s s')) sets)) staying_is ∙ ap (drop (length goes.stay)) parts ∙ drop_front goes.stay lost_sets;
    left =
        ap (λ n. take n (drop (length (reported s s')) sets) ++ range_with_len s.next (s'.next - s.next)) staying_is
        ∙ ap (λ xs. take (length goes.stay) xs ++ range_with_len s.next (s'.next - s.next)) parts
        ∙ ap (λ xs. xs ++ range_with_len s.next (s'.next - s.next)) (take_front goes.stay lost_sets) ∙ sym goes.behind;
  }

-- whatever the actions were
pub queue_follows : QueuesGo → (manager : ManagerKind) → manager ≡ Dependent → (actions : List Action) (a : Action) (s' : State) → (s', Applied) ≡ apply (items_after manager actions) a →
    (sets : List ℕ) → sets ≡ sets_of (items_after manager actions).items → (next told : ℕ) → next ≡ (items_after manager actions).next → told ≡ length (reported (items_after manager actions) s') →
    QueueFollows sets told (length s'.items - (s'.next - next)) next (items_after manager actions) s'
queue_follows law manager is actions a s' e sets same next told n r =
    let s = items_after manager actions in
    let all : (m : ManagerKind) → Dependent ≡ m → QueueGoes (items_after m actions) a (apply (items_after m actions) a) =
    λ m q. subst (λ k. QueueGoes (items_after k actions) a (apply (items_after k actions) a)) q (law 0 actions a) in
    let goes : QueueGoes s a (s', Applied) = subst (QueueGoes s a) (sym e) (all manager (sym is)) in
    subst (λ k. QueueFollows sets k (length s'.items - (s'.next - next)) next s s') (sym r)
    (subst (λ k. QueueFollows sets (length (reported s s')) (length s'.items - (s'.next - k)) k s s') (sym n) (follows s s' a goes sets same))

-- ---- an independent pipeline

pub record KeysFollow (sets : Key → Option ℕ) (next : ℕ) (a : Action) (reports : List Report) (s s' : State) : Type 0 where
  pub lost : option_to_list (option_and_then sets (key_meant a)) ≡ sets_of (cancelled s s')
  pub left : (key : Key) → keyed_after sets next a reports key ≡ set_under s' key

module _ (sets : Key → Option ℕ) (s : State) (same : (key : Key) → sets key ≡ set_under s key) where
  same_meant : (o : Option Key) → option_and_then sets o ≡ option_and_then (set_under s) o
  same_meant None = refl
  same_meant (Some key) = same key

  same_behind : (a : Action) (reports : List Report) (other : Key) → keyed_after sets s.next a reports other ≡ set_behind s a reports other
  same_behind (action.Trigger None patchset jobs) reports other = same other
  same_behind (action.Trigger (Some key) patchset jobs) reports other = ap (λ (o : Option ℕ). cond (is_same key other) (Some s.next) o) (same other)
  same_behind (action.Result result) reports other = ap (λ (o : Option ℕ). cond (is_reported reports other) None o) (same other)
  same_behind (action.Manage (manage.Dequeue key)) reports other = ap (λ (o : Option ℕ). cond (is_same key other) None o) (same other)
  same_behind (action.Manage (manage.Reset key)) reports other = ap (λ (o : Option ℕ). cond (is_same key other) (Some s.next) o) (same other)

pub keys_follow : EachKeyGoes → (manager : ManagerKind) → manager ≡ Independent → (actions : List Action) (a : Action) (s' : State) → (s', Applied) ≡ apply (items_after manager actions) a →
    (sets : Key → Option ℕ) → ((key : Key) → sets key ≡ set_under (items_after manager actions) key) → (next : ℕ) (reports : List Report) → next ≡ (items_after manager actions).next → reports ≡ reported (items_after manager actions) s' →
    KeysFollow sets next a reports (items_after manager actions) s'
keys_follow law manager is actions a s' e sets same next reports n r =
    let s = items_after manager actions in
    let all : (m : ManagerKind) → Independent ≡ m → (apply (items_after m actions) a).1 ≡ Applied → KeysGo (items_after m actions) a (apply (items_after m actions) a).0 =
    λ m q. subst (λ k. (apply (items_after k actions) a).1 ≡ Applied → KeysGo (items_after k actions) a (apply (items_after k actions) a).0) q (law 0 actions a) in
    let here : KeysGo s a (apply s a).0 = all manager (sym is) (ap (λ (p : State × Outcome). p.1) (sym e)) in
    let goes : KeysGo s a s' = subst (KeysGo s a) (ap (λ (p : State × Outcome). p.0) (sym e)) here in
    record {
      lost = ap option_to_list (same_meant sets s same (key_meant a)) ∙ sym goes.cancels;
      left = λ key. ap (λ k. keyed_after sets k a reports key) n ∙ same_behind sets s same a reports key ∙ ap (λ (rs : List Report). set_behind s a rs key) r ∙ sym (goes.under key);
    }
