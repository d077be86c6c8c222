-- On each way what was taken is a prefix of what is wanted, and all of it once the end mark was taken.
use Rattle.std.proofs.Common.{◌≡◌, ◌∙◌, refl, sym, ap, ℕ, zero, suc, ◌+◌, ◌<◌, ◌==◌, List, [], ◌∷◌, ◌++◌, Bool, true, false, length, drop, get_or, Option, Some, None, cond, if◌then◌else◌, arith, append-nil, append_assoc, zero-add}
use Rattle.std.specs.Prelude.{◌&&◌, ◌||◌, not, option_and_then, is_some, unwrap_or, option_map}
use Rattle.std.proofs.lemmas.List.Elements.{filter-append, filter_map-append}
use Rattle.std.proofs.lemmas.List.Folds.{list_any-append}
use Rattle.std.specs.Option.{option_to_list}
use Rattle.std.specs.List.{cons_option, filter, filter_map, list_all, list_any, range_with_len}
use Rattle.gate_record.specs.declared.ids.ConnId.{ConnId}
use Rattle.gate_record.specs.declared.record.Record.{Record}
use Rattle.gate_record.specs.declared.reading.Reading.{Reading}
use Rattle.gate_record.specs.declared.reading.Reading.TheVariants as reading
use Rattle.gate_record.specs.declared.transit.ConnEntry.{ConnEntry}
use Rattle.gate_record.specs.declared.transit.ConnEntry.TheVariants as entry
use Rattle.gate_record.specs.declared.event.Event.{Event}
use Rattle.gate_record.specs.declared.transit.Stamped.{Stamped}
use Rattle.gate_record.specs.declared.transit.TenantItem.{TenantItem}
use Rattle.gate_record.specs.declared.transit.TenantItem.TheVariants as tenant
use Rattle.gate_record.specs.declared.transit.PipelineItem.{PipelineItem}
use Rattle.gate_record.specs.declared.transit.PipelineItem.TheVariants as pipeline
use Rattle.gate_record.specs.Reading.{reading_of}
use Rattle.gate_config.specs.declared.config.Config.{Config}
use Rattle.gate_config.specs.declared.generations.Generations.{Generations}
use Rattle.gate_config.specs.Lookups.{connections_of, has_project, lists, projects_of}
use Rattle.gate_config.specs.Selection.{is_listed, selects_event}
use Rattle.gate_config.specs.declared.project_set.ProjectSet.{ProjectSet}
use Rattle.gate_forward.specs.Forwarding.{forwarded, forwarded_at, forwarded_reading, stamped, conn_id}
use Rattle.gate_tenant.specs.Dispatching.{chosen_item, all_marked_in, is_end_of, is_from}
use Rattle.gate_delivery.specs.Wanted.{wanted}
use Rattle.gate_record.specs.Prefixes.{IsPrefixOf}
use Rattle.gate_record.specs.Entries.{AreEntriesOf, accepts, begins, closes, generation_behind, renews, with_generations}
use Rattle.gate_record.specs.Generations.{EntriesHaveGenerations}
use Rattle.gate_config.specs.Generations.{config_at}
use Rattle.gate_pipeline.specs.Histories.{is_end}
use Rattle.gate_delivery.specs.Ways.{EachWayDelivers, Way, number_of_item}
use Rattle.gate_delivery.proofs.Arrivals.{arrive, brought, by_items}
use Rattle.gate_delivery.proofs.Maps.{filter_map_none, filter_map_push}
use Rattle.gate_delivery.proofs.Readings.{genuine}

-- ---- an end mark that was taken is the last of all

pub head_same : {X : Type 0} (x y : X) (xs ys : List X) → x ∷ xs ≡ y ∷ ys → x ≡ y
head_same x y xs ys e = ap (λ l. get_or l 0 x) e

pub tail_same : {X : Type 0} (x y : X) (xs ys : List X) → x ∷ xs ≡ y ∷ ys → xs ≡ ys
tail_same x y xs ys e = ap (drop 1) e

nil_right : {X : Type 0} (xs ys : List X) → xs ++ ys ≡ [] → ys ≡ []
nil_right [] ys e = e
nil_right (x ∷ xs) ys e = absurd (cc)

nil_left : {X : Type 0} (xs ys : List X) → xs ++ ys ≡ [] → xs ≡ []
nil_left [] ys e = refl
nil_left (x ∷ xs) ys e = absurd (cc)

or_left : (a b : Bool) → (a || b) ≡ false → a ≡ false
or_left false b e = refl
or_left true b e = absurd (cc)

or_right : (a b : Bool) → (a || b) ≡ false → b ≡ false
or_right false b e = e
or_right true b e = absurd (cc)

or_rest : (a b : Bool) → a ≡ false → (a || b) ≡ true → b ≡ true
or_rest false b e f = f
or_rest true b e f = absurd (cc)

-- the marks behind events: none, or one
abbrev pub one_mark : {X : Type 0} → X → Bool → List X
one_mark m there = if there then m ∷ [] else []

module _ {X : Type 0} (test : X → Bool) (m : X) where
  last_of_all : (events : List X) (there : Bool) (taken rest : List X) → list_any test events ≡ false → events ++ one_mark m there ≡ taken ++ rest → list_any test taken ≡ true → (there ≡ true) × (rest ≡ [])
  last_of_all events there [] rest none e some = absurd (cc)
  last_of_all [] false (x ∷ taken) rest none e some = absurd (cc)
  last_of_all [] true (x ∷ taken) rest none e some = (refl, nil_right taken rest (sym (tail_same m x [] (taken ++ rest) e)))
  last_of_all (y ∷ events) there (x ∷ taken) rest none e some =
      let same : y ≡ x = head_same y x (events ++ one_mark m there) (taken ++ rest) e in
      last_of_all events there taken rest (or_right (test y) (list_any test events) none) (tail_same y x (events ++ one_mark m there) (taken ++ rest) e)
      (or_rest (test x) (list_any test taken) (ap test (sym same) ∙ or_left (test y) (list_any test events) none) some)

-- ---- numbers

module _ (gens : Generations) (t p c : ℕ) where
  not_of_c : (s : Stamped) (b : Bool) → (s.stamp.conn.0 == c) ≡ false → option_and_then (number_of_item c) (cond b (Some (pipeline.Event s)) None) ≡ None
  not_of_c s true e = ap (λ b. cond b (Some s.stamp.number) None) e
  not_of_c s false e = refl

  -- an item of another connection brings no number of this one
  brought_other : (item : TenantItem) → is_from c item ≡ false → brought gens t p c item ≡ None
  brought_other (tenant.Event s) e = not_of_c s (selects_event (config_at gens s.generation) t p s.stamp.conn.0 s.event) e
  brought_other (tenant.End d) e = refl

  brought_by : (item : TenantItem) (b : Bool) (xs ys : List TenantItem) → is_from c item ≡ b → filter_map (brought gens t p c) xs ≡ filter_map (brought gens t p c) ys →
      filter_map (brought gens t p c) (item ∷ xs) ≡ filter_map (brought gens t p c) (cond b (item ∷ ys) ys)
  brought_by item true xs ys e same = ap (cons_option (brought gens t p c item)) same
  brought_by item false xs ys e same = ap (λ o. cons_option o (filter_map (brought gens t p c) xs)) (brought_other item e) ∙ same

  only_from : (items : List TenantItem) → filter_map (brought gens t p c) items ≡ filter_map (brought gens t p c) (filter (is_from c) items)
  only_from [] = refl
  only_from (item ∷ items) = brought_by item (is_from c item) items (filter (is_from c) items) refl (only_from items)

  -- what is wanted is what all that was put brings
  wanted_by : EntriesHaveGenerations → {entries : List ConnEntry} {records : List (ℕ × Record)} {g : ℕ} {closed : Bool} → AreEntriesOf entries records g closed →
      wanted gens t p c records ≡ filter_map (brought gens t p c) (forwarded gens t c entries)
  wanted_by laws {entries} are = sym (arrive gens t p c laws are) ∙ by_items gens t p c (forwarded gens t c entries)

-- ---- a tenant that doesn't list the connection

unlisted_by : (projects : Option ProjectSet) (test : ProjectSet → Bool) → is_some projects ≡ false → unwrap_or (option_map test projects) false ≡ false
unlisted_by None test e = refl
unlisted_by (Some names) test e = absurd (cc)

unlisted : (config : Config) (t c : ℕ) (project : Option (List ℕ)) → lists config t c ≡ false → is_listed config t c project ≡ false
unlisted config t c None e = refl
unlisted config t c (Some name) e = unlisted_by (projects_of config t c) (λ projects. has_project projects name) e

module _ (gens : Generations) (t c : ℕ) (e : lists gens.first t c ≡ false) where
  -- in no generation
  unlisted_at : (g : ℕ) → lists (config_at gens g) t c ≡ false
  unlisted_at g = (gens.alike g).lists t c ∙ e

  nothing_read : (g n : ℕ) (r : Reading) → forwarded_reading gens t c g n r ≡ None
  nothing_read g n (reading.Event event) = ap (λ b. cond b (Some (tenant.Event (stamped c g n event))) None) (unlisted (config_at gens g) t c event.project (unlisted_at g))
  nothing_read g n (reading.Nothing why) = refl

  nothing_forwarded : (x : ℕ × ConnEntry) → forwarded_at gens t c x ≡ None
  nothing_forwarded (g, entry.Numbered n r) = nothing_read g n (reading_of r)
  nothing_forwarded (g, entry.Renew) = refl
  nothing_forwarded (g, entry.End) = ap (λ b. cond b (Some (tenant.End (conn_id c))) None) e

-- ---- end marks on the way from a connection

abbrev is_mark : TenantItem → Bool
is_mark (tenant.Event s) = false
is_mark (tenant.End d) = true

event_no_mark : (c g n : ℕ) (event : Event) (b : Bool) → list_any is_mark (option_to_list (cond b (Some (tenant.Event (stamped c g n event))) None)) ≡ false
event_no_mark c g n event true = refl
event_no_mark c g n event false = refl

-- a record forwards an event alone
record_no_mark : (gens : Generations) (t c g n : ℕ) (r : Reading) → list_any is_mark (option_to_list (forwarded_reading gens t c g n r)) ≡ false
record_no_mark gens t c g n (reading.Event event) = event_no_mark c g n event (is_listed (config_at gens g) t c event.project)
record_no_mark gens t c g n (reading.Nothing why) = refl

none_joined : {X : Type 0} (test : X → Bool) (xs ys : List X) → list_any test xs ≡ false → list_any test ys ≡ false → list_any test (xs ++ ys) ≡ false
none_joined test xs ys e f = list_any-append test xs ys ∙ (λ i. e i || f i)

-- what is forwarded of entries: events, and behind them the end mark if it was put
record Parts (gens : Generations) (t c : ℕ) (entries : List ConnEntry) (closed : Bool) : Type 0 where
  events : List TenantItem
  no_mark : list_any is_mark events ≡ false
  are : forwarded gens t c entries ≡ events ++ one_mark (tenant.End (conn_id c)) closed

module _ (laws : EntriesHaveGenerations) (gens : Generations) (t c : ℕ) (listed : lists gens.first t c ≡ true) where
  one_more : {entries : List ConnEntry} {records : List (ℕ × Record)} {g : ℕ} (e : ConnEntry) → AreEntriesOf entries records g false →
      forwarded gens t c (entries ++ e ∷ []) ≡ forwarded gens t c entries ++ option_to_list (forwarded_at gens t c (g, e))
  one_more {entries} {records} {g} e are =
      ap (filter_map (forwarded_at gens t c)) (laws.joined 0 entries (e ∷ []))
      ∙ filter_map_push (forwarded_at gens t c) (with_generations 0 entries) (generation_behind 0 entries, e)
      ∙ ap (λ n. forwarded gens t c entries ++ option_to_list (forwarded_at gens t c (n, e))) (laws.behind_all are)

  parts : {entries : List ConnEntry} {records : List (ℕ × Record)} {g : ℕ} {closed : Bool} → AreEntriesOf entries records g closed → Parts gens t c entries closed
  parts begins = record { events = []; no_mark = refl; are = refl }
  parts (accepts {entries} {records} {g} line before) =
      let was = parts before in
      let more = option_to_list (forwarded_reading gens t c g (length records) (reading_of line)) in
      record {
        events = was.events ++ more;
        no_mark = none_joined is_mark was.events more was.no_mark (record_no_mark gens t c g (length records) (reading_of line));
        are = one_more (entry.Numbered (length records) line) before ∙ ap (λ xs. xs ++ more) (was.are ∙ append-nil was.events) ∙ sym (append-nil (was.events ++ more));
      }
  parts (renews before) =
      let was = parts before in
      record { events = was.events; no_mark = was.no_mark; are = one_more entry.Renew before ∙ append-nil _ ∙ was.are }
  parts (closes {entries} before) =
      let was = parts before in
      record {
        events = was.events;
        no_mark = was.no_mark;
        are = one_more entry.End before
            ∙ (λ i. (was.are ∙ append-nil was.events) i ++ option_to_list (if listed i then Some (tenant.End (conn_id c)) else None));
      }

chosen_no_end : (s : Stamped) (b : Bool) (rest : List PipelineItem) → list_any is_end rest ≡ false → list_any is_end (cons_option (cond b (Some (pipeline.Event s)) None) rest) ≡ false
chosen_no_end s true rest e = e
chosen_no_end s false rest e = e

-- a pipeline gets events of items, and no end mark
items_no_end : (gens : Generations) (t p : ℕ) (items : List TenantItem) → list_any is_end (filter_map (chosen_item gens t p) items) ≡ false
items_no_end gens t p [] = refl
items_no_end gens t p (tenant.Event s ∷ items) = chosen_no_end s (selects_event (config_at gens s.generation) t p s.stamp.conn.0 s.event) (filter_map (chosen_item gens t p) items) (items_no_end gens t p items)
items_no_end gens t p (tenant.End d ∷ items) = items_no_end gens t p items

mark_by : (c : ℕ) (d : ConnId) (b : Bool) (rest : List TenantItem) (there : list_any (is_end_of c) rest ≡ true → list_any is_mark (filter (is_from c) rest) ≡ true) → (d.0 == c) ≡ b →
    (b || list_any (is_end_of c) rest) ≡ true → list_any is_mark (cond b (tenant.End d ∷ filter (is_from c) rest) (filter (is_from c) rest)) ≡ true
mark_by c d true rest there e some = refl
mark_by c d false rest there e some = there some

event_by : (s : Stamped) (b : Bool) (rest : List TenantItem) → list_any is_mark rest ≡ true → list_any is_mark (cond b (tenant.Event s ∷ rest) rest) ≡ true
event_by s true rest e = e
event_by s false rest e = e

-- the end mark of a connection is among what is of it
mark_among : (c : ℕ) (items : List TenantItem) → list_any (is_end_of c) items ≡ true → list_any is_mark (filter (is_from c) items) ≡ true
mark_among c [] e = absurd (cc)
mark_among c (tenant.Event s ∷ items) e = event_by s (s.stamp.conn.0 == c) (filter (is_from c) items) (mark_among c items e)
mark_among c (tenant.End d ∷ items) e = mark_by c d (d.0 == c) items (mark_among c items) refl e

both_parts : (a b : Bool) → (a && b) ≡ true → (a ≡ true) × (b ≡ true)
both_parts true b e = (refl, e)
both_parts false b e = absurd (cc)

all_in_range : (f : ℕ → Bool) (a n i : ℕ) → i < n → list_all f (range_with_len a n) ≡ true → f (a + i) ≡ true
all_in_range f a zero i inside e = absurd (omega (arith, inside))
all_in_range f a (suc n) zero inside e = ap f (omega arith) ∙ (both_parts (f a) (list_all f (range_with_len (a + 1) n)) e).0
all_in_range f a (suc n) (suc i) inside e =
    let at : a + suc i ≡ (a + 1) + i = omega arith in
    ap f at ∙ all_in_range f (a + 1) n i (omega (arith, inside)) (both_parts (f a) (list_all f (range_with_len (a + 1) n)) e).1

listed_has : (a b : Bool) → a ≡ true → (not a || b) ≡ true → b ≡ true
listed_has true b e f = f
listed_has false b e f = absurd (cc)

-- ---- one way

module _ (laws : EntriesHaveGenerations) (gens : Generations) (t p c : ℕ) {entries : List ConnEntry} {records : List (ℕ × Record)} {g : ℕ} {closed : Bool} (taken : List PipelineItem) (are : AreEntriesOf entries records g closed) (way : Way gens t p c entries taken) where
  abbrev numbers : List PipelineItem → List ℕ
  numbers items = filter_map (number_of_item c) items

  abbrev brings : List TenantItem → List ℕ
  brings items = filter_map (brought gens t p c) items

  matched_brings : brings way.matched ≡ numbers taken ++ numbers way.untaken
  matched_brings = sym (by_items gens t p c way.matched) ∙ ap numbers (sym way.chooses) ∙ filter_map-append (number_of_item c) taken way.untaken

  abbrev behind : List ℕ
  behind = numbers way.untaken ++ (brings way.unmatched ++ brings way.unsent)

  whole_way : wanted gens t p c records ≡ numbers taken ++ behind
  whole_way =
      wanted_by gens t p c laws are
      ∙ ap brings (sym way.forwards)
      ∙ filter_map-append (brought gens t p c) (filter (is_from c) (way.matched ++ way.unmatched)) way.unsent
      ∙ ap (λ xs. xs ++ brings way.unsent)
      (sym (only_from gens t p c (way.matched ++ way.unmatched)) ∙ filter_map-append (brought gens t p c) way.matched way.unmatched
      ∙ ap (λ xs. xs ++ brings way.unmatched) matched_brings)
      ∙ append_assoc (numbers taken ++ numbers way.untaken) (brings way.unmatched) (brings way.unsent)
      ∙ append_assoc (numbers taken) (numbers way.untaken) (brings way.unmatched ++ brings way.unsent)

  pub prefix : IsPrefixOf (numbers taken) (wanted gens t p c records)
  prefix = (behind, sym whole_way)

  -- where nothing is wanted, nothing was taken
  pub none_wanted : wanted gens t p c records ≡ [] → numbers taken ≡ wanted gens t p c records
  none_wanted none = nil_left (numbers taken) behind (sym whole_way ∙ none) ∙ sym none

  module _ (fin : list_any is_end taken ≡ true) where
    ends : (all_marked_in gens.first t way.matched ≡ true) × (way.untaken ≡ [])
    ends = last_of_all is_end pipeline.End (filter_map (chosen_item gens t p) way.matched) (all_marked_in gens.first t way.matched) taken way.untaken
        (items_no_end gens t p way.matched) (sym way.chooses) fin

    abbrev has_mark : ℕ → Bool
    has_mark d = not (lists gens.first t d) || list_any (is_end_of d) way.matched

    -- the connection's end mark was matched, so it was put, and nothing of the connection is left
    marked_last : c < length (connections_of gens.first) → lists gens.first t c ≡ true → (closed ≡ true) × (filter (is_from c) way.unmatched ++ way.unsent ≡ [])
    marked_last inside listed =
        let marked : list_any (is_end_of c) way.matched ≡ true =
        listed_has (lists gens.first t c) (list_any (is_end_of c) way.matched) listed
        (ap has_mark (sym (zero-add c)) ∙ all_in_range has_mark 0 (length (connections_of gens.first)) c inside ends.0) in
        let split : Parts gens t c entries closed = parts laws gens t c listed are in
        let goes : split.events ++ one_mark (tenant.End (conn_id c)) closed ≡ filter (is_from c) way.matched ++ (filter (is_from c) way.unmatched ++ way.unsent) =
        sym split.are
        ∙ sym way.forwards
        ∙ ap (λ xs. xs ++ way.unsent) (filter-append (is_from c) way.matched way.unmatched)
        ∙ append_assoc (filter (is_from c) way.matched) (filter (is_from c) way.unmatched) way.unsent in
        last_of_all is_mark (tenant.End (conn_id c)) split.events closed (filter (is_from c) way.matched) (filter (is_from c) way.unmatched ++ way.unsent)
        split.no_mark goes (mark_among c way.matched marked)

    whole_listed : c < length (connections_of gens.first) → lists gens.first t c ≡ true → numbers taken ≡ wanted gens t p c records
    whole_listed inside listed =
        let left = (marked_last inside listed).1 in
        sym (append-nil (numbers taken))
        ∙ ap (λ xs. numbers taken ++ (xs ++ [])) (sym (ap numbers ends.1))
        ∙ ap (λ xs. numbers taken ++ (numbers way.untaken ++ (xs ++ [])))
        (sym (only_from gens t p c way.unmatched ∙ ap brings (nil_left (filter (is_from c) way.unmatched) way.unsent left)))
        ∙ ap (λ xs. numbers taken ++ (numbers way.untaken ++ (brings way.unmatched ++ xs))) (sym (ap brings (nil_right (filter (is_from c) way.unmatched) way.unsent left)))
        ∙ sym whole_way

    whole_by : c < length (connections_of gens.first) → (b : Bool) → lists gens.first t c ≡ b → numbers taken ≡ wanted gens t p c records
    whole_by inside true e = whole_listed inside e
    whole_by inside false e =
        none_wanted (wanted_by gens t p c laws are
        ∙ ap brings (filter_map_none (forwarded_at gens t c) (nothing_forwarded gens t c e) (with_generations 0 entries)))

    pub whole : c < length (connections_of gens.first) → numbers taken ≡ wanted gens t p c records
    whole inside = whole_by inside (lists gens.first t c) refl

    pub closes_it : c < length (connections_of gens.first) → lists gens.first t c ≡ true → closed ≡ true
    closes_it inside listed = (marked_last inside listed).0

pub each_way_delivers : EntriesHaveGenerations → EachWayDelivers
each_way_delivers laws = record {
  in_order = λ gens t p c entries records g closed taken are way. prefix laws gens t p c taken are way;
  whole = λ gens t p c entries records g closed taken are inside way fin. whole laws gens t p c taken are way fin inside;
  closes = λ gens t p c entries records g closed taken are inside listed way fin. closes_it laws gens t p c taken are way fin inside listed;
  genuine = λ gens t p c entries records g closed taken are way. genuine laws gens t p c taken are way;
}
