-- What is forwarded and chosen is of the records that it is read from.
use Rattle.std.proofs.Common.{◌≡◌, refl, sym, subst, ℕ, suc, zero, ◌<◌, ◌==◌, length, List, [], ◌∷◌, ◌++◌, Bool, true, false, Option, Some, None, cond, arith}
use Rattle.std.specs.Prelude.{slice_get}
use Rattle.std.specs.List.{cons_option, filter, filter_map}
use Rattle.std.proofs.lemmas.Bool.{eq-eqb}
use Rattle.std.proofs.lemmas.Option.{slice_get_within}
use Rattle.gate_record.specs.declared.event.Event.{Event}
use Rattle.gate_record.specs.declared.ids.ConnId.{ConnId}
use Rattle.gate_record.specs.declared.reading.Reading.{Reading}
use Rattle.gate_record.specs.declared.reading.Reading.TheVariants as reading
use Rattle.gate_record.specs.declared.record.Record.{Record}
use Rattle.gate_record.specs.declared.transit.ConnEntry.{ConnEntry}
use Rattle.gate_record.specs.declared.transit.ConnEntry.TheVariants as entry
use Rattle.gate_record.specs.declared.transit.PipelineItem.{PipelineItem}
use Rattle.gate_record.specs.declared.transit.PipelineItem.TheVariants as pipeline
use Rattle.gate_record.specs.declared.transit.Stamped.{Stamped}
use Rattle.gate_record.specs.declared.transit.TenantItem.{TenantItem}
use Rattle.gate_record.specs.declared.transit.TenantItem.TheVariants as tenant
use Rattle.gate_record.specs.Entries.{AreEntriesOf, accepts, begins, closes, generation_behind, renews, with_generations}
use Rattle.gate_record.specs.Generations.{EntriesHaveGenerations}
use Rattle.gate_config.specs.Generations.{config_at}
use Rattle.gate_record.specs.Reading.{reading_of}
use Rattle.gate_config.specs.declared.generations.Generations.{Generations}
use Rattle.gate_config.specs.Lookups.{lists}
use Rattle.gate_config.specs.Selection.{is_listed, selects_event}
use Rattle.gate_forward.specs.Forwarding.{conn_id, forwarded, forwarded_at, forwarded_reading, stamped}
use Rattle.gate_tenant.specs.Dispatching.{chosen, chosen_item, conn_of_item, all_marked_in, is_from}
use Rattle.gate_delivery.specs.Ways.{IsEventOf, Way}
use Rattle.gate_delivery.proofs.Arrivals.{same_as_itself}
use Rattle.gate_delivery.proofs.Maps.{the_same}

-- ---- what is true of each element of a list

abbrev pub AllOf : {X : Type 0} → (X → Type 0) → List X → Type 0
AllOf P [] = Unit {0}
AllOf P (x ∷ xs) = P x × AllOf P xs

pub all_front : {X : Type 0} (P : X → Type 0) (xs ys : List X) → AllOf P (xs ++ ys) → AllOf P xs
all_front P [] ys all = tt
all_front P (x ∷ xs) ys all = (all.0, all_front P xs ys all.1)

pub all_both : {X : Type 0} (P : X → Type 0) (xs ys : List X) → AllOf P xs → AllOf P ys → AllOf P (xs ++ ys)
all_both P [] ys front back = back
all_both P (x ∷ xs) ys front back = (front.0, all_both P xs ys front.1 back)

pub all_at : {X : Type 0} (P : X → Type 0) (xs : List X) (i : ℕ) (x : X) → AllOf P xs → slice_get xs i ≡ Some x → P x
all_at P [] i x all at = absurd (cc)
all_at P (y ∷ ys) zero x all at = subst P (the_same y x at) all.0
all_at P (y ∷ ys) (suc i) x all at = all_at P ys i x all.1 at

all_cons : {Y : Type 0} (Q : Y → Type 0) (o : Option Y) (ys : List Y) → ((y : Y) → o ≡ Some y → Q y) → AllOf Q ys → AllOf Q (cons_option o ys)
all_cons Q None ys f all = all
all_cons Q (Some y) ys f all = (f y refl, all)

pub all_picked : {X Y : Type 0} (P : X → Type 0) (Q : Y → Type 0) (f : X → Option Y) → ((x : X) (y : Y) → P x → f x ≡ Some y → Q y) → (xs : List X) → AllOf P xs → AllOf Q (filter_map f xs)
all_picked P Q f keeps [] all = tt
all_picked P Q f keeps (x ∷ xs) all = all_cons Q (f x) (filter_map f xs) (λ y e. keeps x y all.0 e) (all_picked P Q f keeps xs all.1)

rest_if : {X : Type 0} (P : X → Type 0) (x : X) (xs : List X) (b : Bool) → AllOf P (cond b (x ∷ xs) xs) → AllOf P xs
rest_if P x xs true all = all.1
rest_if P x xs false all = all

-- what is true of the items of each connection is true of all
pub all_from : (P : TenantItem → Type 0) (items : List TenantItem) → ((c : ℕ) → AllOf P (filter (is_from c) items)) → AllOf P items
all_from P [] each = tt
all_from P (x ∷ items) each =
    let c = conn_of_item x in
    let first : AllOf P (x ∷ filter (is_from c) items) = subst (λ (b : Bool). AllOf P (cond b (x ∷ filter (is_from c) items) (filter (is_from c) items))) (same_as_itself c) (each c) in
    (first.0, all_from P items (λ d. rest_if P x (filter (is_from d) items) (is_from d x) (each d)))

-- ---- what is said of the events of items

abbrev pub ItemIs : (Stamped → Type 0) → TenantItem → Type 0
ItemIs P (tenant.Event s) = P s
ItemIs P (tenant.End d) = Unit {0}

abbrev pub TriggerIs : (Stamped → Type 0) → PipelineItem → Type 0
TriggerIs P (pipeline.Event s) = P s
TriggerIs P pipeline.End = Unit {0}

-- a record that is there with its number and its generation
abbrev EntryIs : List (ℕ × Record) → ℕ × ConnEntry → Type 0
EntryIs all (g, entry.Numbered n r) = slice_get {X = ℕ × Record} all n ≡ Some (g, r)
EntryIs all (g, entry.Renew) = Unit {0}
EntryIs all (g, entry.End) = Unit {0}

still_there : {X : Type 0} (xs : List X) (y : X) (n : ℕ) (x : X) → slice_get xs n ≡ Some x → slice_get (xs ++ y ∷ []) n ≡ Some x
still_there [] y n x e = let none : n < 0 = slice_get_within [] n x e in absurd (omega (arith, none))
still_there (z ∷ xs) y zero x e = e
still_there (z ∷ xs) y (suc n) x e = still_there xs y n x e

last_there : {X : Type 0} (xs : List X) (y : X) → slice_get (xs ++ y ∷ []) (length xs) ≡ Some y
last_there [] y = refl
last_there (x ∷ xs) y = last_there xs y

entry_still : (all : List (ℕ × Record)) (y : ℕ × Record) (x : ℕ × ConnEntry) → EntryIs all x → EntryIs (all ++ y ∷ []) x
entry_still all y (g, entry.Numbered n r) is = still_there all y n (g, r) is
entry_still all y (g, entry.Renew) is = tt
entry_still all y (g, entry.End) is = tt

all_still : (all : List (ℕ × Record)) (y : ℕ × Record) (xs : List (ℕ × ConnEntry)) → AllOf (EntryIs all) xs → AllOf (EntryIs (all ++ y ∷ [])) xs
all_still all y [] are = tt
all_still all y (x ∷ xs) are = (entry_still all y x are.0, all_still all y xs are.1)

module _ (laws : EntriesHaveGenerations) where
  one_more : {entries : List ConnEntry} {records : List (ℕ × Record)} {g : ℕ} (all : List (ℕ × Record)) (e : ConnEntry) → AreEntriesOf entries records g false → AllOf (EntryIs all) (with_generations 0 entries) → EntryIs all (g, e) →
      AllOf (EntryIs all) (with_generations 0 (entries ++ e ∷ []))
  one_more {entries} {records} {g} all e are was is =
      subst (AllOf (EntryIs all)) (sym (laws.joined 0 entries (e ∷ [])))
      (all_both (EntryIs all) (with_generations 0 entries) ((generation_behind 0 entries, e) ∷ []) was (subst (λ n. EntryIs all (n, e)) (sym (laws.behind_all are)) is, tt))

  put_are : {entries : List ConnEntry} {records : List (ℕ × Record)} {g : ℕ} {closed : Bool} → AreEntriesOf entries records g closed → AllOf (EntryIs records) (with_generations 0 entries)
  put_are begins = tt
  put_are (accepts {entries} {records} {g} line before) =
      one_more (records ++ (g, line) ∷ []) (entry.Numbered (length records) line) before (all_still records (g, line) (with_generations 0 entries) (put_are before)) (last_there records (g, line))
  put_are (renews {entries} {records} before) = one_more records entry.Renew before (put_are before) tt
  put_are (closes {entries} {records} before) = one_more records entry.End before (put_are before) tt

module _ (P : Stamped → Type 0) where
  module _ (gens : Generations) (t c : ℕ) (records : List (ℕ × Record)) (keeps : (s : Stamped) → s.stamp.conn.0 ≡ c → IsEventOf records s → P s) where
    event_is : (g n : ℕ) (line : Record) (event : Event) (b : Bool) (item : TenantItem) → slice_get {X = ℕ × Record} records n ≡ Some (g, line) → reading_of line ≡ reading.Event event →
        cond b (Some (tenant.Event (stamped c g n event))) None ≡ Some item → ItemIs P item
    event_is g n line event true item at reads e =
        subst (ItemIs P) (the_same (tenant.Event (stamped c g n event)) item e) (keeps (stamped c g n event) refl (record { line = line; there = at; reads = reads }))
    event_is g n line event false item at reads e = absurd (cc)

    reading_is : (g n : ℕ) (line : Record) (r : Reading) (item : TenantItem) → slice_get {X = ℕ × Record} records n ≡ Some (g, line) → reading_of line ≡ r → forwarded_reading gens t c g n r ≡ Some item → ItemIs P item
    reading_is g n line (reading.Event event) item at reads e = event_is g n line event (is_listed (config_at gens g) t c event.project) item at reads e
    reading_is g n line (reading.Nothing why) item at reads e = absurd (cc)

    mark_sent : (b : Bool) (item : TenantItem) → cond b (Some (tenant.End (conn_id c))) None ≡ Some item → ItemIs P item
    mark_sent true item e = subst (ItemIs P) (the_same (tenant.End (conn_id c)) item e) tt
    mark_sent false item e = absurd (cc)

    entry_is : (x : ℕ × ConnEntry) (item : TenantItem) → EntryIs records x → forwarded_at gens t c x ≡ Some item → ItemIs P item
    entry_is (g, entry.Numbered n line) item at e = reading_is g n line (reading_of line) item at refl e
    entry_is (g, entry.Renew) item at e = absurd (cc)
    entry_is (g, entry.End) item at e = mark_sent (lists gens.first t c) item e

    -- what is forwarded of all that was put
    pub forwarded_are : EntriesHaveGenerations → {entries : List ConnEntry} {g : ℕ} {closed : Bool} → AreEntriesOf entries records g closed → AllOf (ItemIs P) (forwarded gens t c entries)
    forwarded_are laws {entries} are = all_picked (EntryIs records) (ItemIs P) (forwarded_at gens t c) entry_is (with_generations 0 entries) (put_are laws are)

  chosen_if : (s : Stamped) (b : Bool) (item : PipelineItem) → P s → cond b (Some (pipeline.Event s)) None ≡ Some item → TriggerIs P item
  chosen_if s true item is e = subst (TriggerIs P) (the_same (pipeline.Event s) item e) is
  chosen_if s false item is e = absurd (cc)

  chosen_is : (gens : Generations) (t p : ℕ) (x : TenantItem) (item : PipelineItem) → ItemIs P x → chosen_item gens t p x ≡ Some item → TriggerIs P item
  chosen_is gens t p (tenant.Event s) item is e = chosen_if s (selects_event (config_at gens s.generation) t p s.stamp.conn.0 s.event) item is e
  chosen_is gens t p (tenant.End d) item is e = absurd (cc)

  marked_if : (b : Bool) → AllOf (TriggerIs P) (cond b (pipeline.End ∷ []) [])
  marked_if true = (tt, tt)
  marked_if false = tt

  -- what a pipeline is to get of them
  pub chosen_are : (gens : Generations) (t p : ℕ) (items : List TenantItem) → AllOf (ItemIs P) items → AllOf (TriggerIs P) (chosen gens t p items)
  chosen_are gens t p items all =
      all_both (TriggerIs P) (filter_map (chosen_item gens t p) items) (cond (all_marked_in gens.first t items) (pipeline.End ∷ []) [])
      (all_picked (ItemIs P) (TriggerIs P) (chosen_item gens t p) (chosen_is gens t p) items all) (marked_if (all_marked_in gens.first t items))

-- ---- one way

-- of the events of a connection alone
abbrev OfConn : ℕ → List (ℕ × Record) → Stamped → Type 0
OfConn c records s = s.stamp.conn.0 ≡ c → IsEventOf records s

module _ (c : ℕ) (records : List (ℕ × Record)) where
  event_by : (s : Stamped) (items : List TenantItem) (b : Bool) → (s.stamp.conn.0 == c) ≡ b → (AllOf (ItemIs (OfConn c records)) (filter (is_from c) items) → AllOf (ItemIs (OfConn c records)) items) →
      AllOf (ItemIs (OfConn c records)) (cond b (tenant.Event s ∷ filter (is_from c) items) (filter (is_from c) items)) → AllOf (ItemIs (OfConn c records)) (tenant.Event s ∷ items)
  event_by s items true e rest all = (all.0, rest all.1)
  event_by s items false e rest all = (λ same. let own : (s.stamp.conn.0 == c) ≡ true = eq-eqb s.stamp.conn.0 c same in absurd (cc), rest all)

  mark_by : (d : ConnId) (items : List TenantItem) (b : Bool) → (AllOf (ItemIs (OfConn c records)) (filter (is_from c) items) → AllOf (ItemIs (OfConn c records)) items) →
      AllOf (ItemIs (OfConn c records)) (cond b (tenant.End d ∷ filter (is_from c) items) (filter (is_from c) items)) → AllOf (ItemIs (OfConn c records)) (tenant.End d ∷ items)
  mark_by d items true rest all = (tt, rest all.1)
  mark_by d items false rest all = (tt, rest all)

  -- what is true of a connection's items is true of all, where it speaks of no other
  own_are : (items : List TenantItem) → AllOf (ItemIs (OfConn c records)) (filter (is_from c) items) → AllOf (ItemIs (OfConn c records)) items
  own_are [] all = tt
  own_are (tenant.Event s ∷ items) all = event_by s items (s.stamp.conn.0 == c) refl (own_are items) all
  own_are (tenant.End d ∷ items) all = mark_by d items (d.0 == c) (own_are items) all

module _ (laws : EntriesHaveGenerations) (gens : Generations) (t p c : ℕ) {entries : List ConnEntry} {records : List (ℕ × Record)} {g : ℕ} {closed : Bool} (taken : List PipelineItem) (are : AreEntriesOf entries records g closed) (way : Way gens t p c entries taken) where
  abbrev Own : Stamped → Type 0
  Own = OfConn c records

  matched_are : AllOf (ItemIs Own) way.matched
  matched_are =
      all_front (ItemIs Own) way.matched way.unmatched
      (own_are c records (way.matched ++ way.unmatched)
      (all_front (ItemIs Own) (filter (is_from c) (way.matched ++ way.unmatched)) way.unsent
      (subst (AllOf (ItemIs Own)) (sym way.forwards) (forwarded_are Own gens t c records (λ s e is same. is) laws are))))

  taken_are : AllOf (TriggerIs Own) taken
  taken_are = all_front (TriggerIs Own) taken way.untaken (subst (AllOf (TriggerIs Own)) (sym way.chooses) (chosen_are Own gens t p way.matched matched_are))

  pub genuine : (i : ℕ) (s : Stamped) → slice_get taken i ≡ Some (pipeline.Event s) → s.stamp.conn.0 ≡ c → IsEventOf records s
  genuine i s at same = all_at (TriggerIs Own) taken i (pipeline.Event s) taken_are at same
