-- What the masks of a batch give.
use Rattle.std.proofs.Common.{◌≡◌, ◌∙◌, refl, sym, ap, ℕ, zero, suc, ◌+◌, ◌<◌, ◌≤◌, ◌==◌, List, [], ◌∷◌, ◌++◌, Bool, true, false, length, map, flat_map, slice_get, get_or, unwrap_or, Option, Some, None, option_map, if◌then◌else◌, arith, zero-add}
use Rattle.std.specs.List.{cons_option, filter_map, range_with_len, zip}
use Rattle.std.proofs.lemmas.Grind.{flat_map-append}
use Rattle.gate_record.specs.declared.event.Event.{Event}
use Rattle.gate_record.specs.declared.transit.TenantItem.{TenantItem}
use Rattle.gate_record.specs.declared.transit.TenantItem.TheVariants as tenant
use Rattle.gate_record.specs.declared.transit.PipelineItem.{PipelineItem}
use Rattle.gate_record.specs.declared.transit.PipelineItem.TheVariants as pipeline
use Rattle.gate_record.specs.declared.transit.Stamped.{Stamped}
use Rattle.gate_lanes.specs.Masks.{mark_if}
use Rattle.gate_lanes.specs.declared.TheConstants.{MARKED}
use Rattle.gate_config.specs.declared.generations.Generations.{Generations}
use Rattle.gate_config.specs.Generations.{config_at}
use Rattle.gate_config.specs.Lookups.{pipelines_of}
use Rattle.gate_config.specs.Selection.{selects_event}
use Rattle.gate_match.specs.Selecting.{mask_of, masks_of}
use Rattle.gate_tenant.specs.Inner.Batches.{by_masks, conns_in, events_in, gens_in, given_by, marked_item, row_in, rows_of, word_of}
use Rattle.gate_tenant.specs.Dispatching.{by_pipeline, chosen_item, for_pipeline}
use Rattle.gate_tenant.proofs.Getting.{end_mark}

-- generations, connections and events side by side are the rows
pub rows_zip : (items : List TenantItem) → zip (zip (flat_map gens_in items) (flat_map conns_in items)) (flat_map events_in items) ≡ rows_of items
rows_zip [] = refl
rows_zip (tenant.Event s ∷ items) = ap (λ rows. ((s.generation, s.stamp.conn.0), s.event) ∷ rows) (rows_zip items)
rows_zip (tenant.End conn ∷ items) = rows_zip items

pub as_many_gens : (items : List TenantItem) → length (flat_map gens_in items) ≡ length (flat_map events_in items)
as_many_gens [] = refl
as_many_gens (tenant.Event s ∷ items) = ap suc (as_many_gens items)
as_many_gens (tenant.End conn ∷ items) = as_many_gens items

pub as_many : (items : List TenantItem) → length (flat_map conns_in items) ≡ length (flat_map events_in items)
as_many [] = refl
as_many (tenant.Event s ∷ items) = ap suc (as_many items)
as_many (tenant.End conn ∷ items) = as_many items

word_back : (f : ((ℕ × ℕ) × Event) → ℕ) (front back : List ((ℕ × ℕ) × Event)) (row : (ℕ × ℕ) × Event) → get_or (map f (front ++ row ∷ back)) (length front) 0 ≡ f row
word_back f [] back row = refl
word_back f (x ∷ front) back row = word_back f front back row

marked_is : (b : Bool) → ((if b then MARKED else 0) == MARKED) ≡ b
marked_is true = refl
marked_is false = refl

pub few_rows : (items : List TenantItem) → length (flat_map events_in items) ≤ length items
few_rows [] = omega arith
few_rows (tenant.Event s ∷ items) = let h = few_rows items in omega (arith, h)
few_rows (tenant.End conn ∷ items) = let h = few_rows items in omega (arith, h)

here : {X : Type 0} (f : ℕ → X) (a m i : ℕ) → i < m → slice_get (map f (range_with_len a m)) i ≡ Some (f (a + i))
here f a zero i low = absurd (omega (arith, low))
here f a (suc m) zero low = let e : a ≡ a + 0 = omega arith in ap (λ n. Some (f n)) e
here f a (suc m) (suc i) low =
    let e : (a + 1) + i ≡ a + suc i = omega arith in
    here f (a + 1) m i (omega (arith, low)) ∙ ap (λ n. Some (f n)) e

word_is : (gens : Generations) (t : ℕ) (front back : List ((ℕ × ℕ) × Event)) (row : (ℕ × ℕ) × Event) (p : ℕ) → p < length (pipelines_of gens.first t) →
    word_of (masks_of gens t (front ++ row ∷ back)) p (length front) ≡ mark_if (selects_event (config_at gens row.0.0) t p row.0.1 row.1)
word_is gens t front back row p low =
    let batch = front ++ row ∷ back in
    ap (λ o. get_or (unwrap_or o []) (length front) 0) (here (λ q. mask_of gens t q batch) 0 (length (pipelines_of gens.first t)) p low)
    ∙ ap (λ q. get_or (mask_of gens t q batch) (length front) 0) (zero-add p)
    ∙ word_back (λ r. mark_if (selects_event (config_at gens r.0.0) t p r.0.1 r.1)) front back row

same_below : {Y : Type 0} (f g : ℕ → Option Y) (a n : ℕ) → ((i : ℕ) → i < a + n → f i ≡ g i) → filter_map f (range_with_len a n) ≡ filter_map g (range_with_len a n)
same_below f g a zero h = refl
same_below f g a (suc n) h =
    ap (λ o. cons_option o (filter_map f (range_with_len (a + 1) n))) (h a (omega arith))
    ∙ ap (cons_option (g a)) (same_below f g (a + 1) n (λ i low. h i (omega (arith, low))))

item_is : (b : Bool) (p : ℕ) (item : PipelineItem) → (if mark_if b == MARKED then Some (for_pipeline p item) else None) ≡ option_map (for_pipeline p) (if b then Some item else None)
item_is true p item = refl
item_is false p item = refl

gives : (gens : Generations) (t : ℕ) (front back : List ((ℕ × ℕ) × Event)) (s : Stamped) →
    by_masks gens.first t (masks_of gens t (front ++ ((s.generation, s.stamp.conn.0), s.event) ∷ back)) (length front) s ≡ by_pipeline gens t (tenant.Event s)
gives gens t front back s =
    same_below (marked_item (masks_of gens t (front ++ ((s.generation, s.stamp.conn.0), s.event) ∷ back)) (length front) s) (λ p. option_map (for_pipeline p) (chosen_item gens t p (tenant.Event s))) 0 (length (pipelines_of gens.first t))
    (λ p low. ap (λ w. if w == MARKED then Some (for_pipeline p (pipeline.Event s)) else None) (word_is gens t front back ((s.generation, s.stamp.conn.0), s.event) p (omega (arith, low)))
    ∙ item_is (selects_event (config_at gens s.generation) t p s.stamp.conn.0 s.event) p (pipeline.Event s))

pub given_is : (gens : Generations) (t : ℕ) (before after : List TenantItem) (item : TenantItem) →
    given_by gens.first t (masks_of gens t (rows_of (before ++ item ∷ after))) (length (rows_of before)) item ≡ by_pipeline gens t item
given_is gens t before after (tenant.Event s) =
    ap (λ rows. by_masks gens.first t (masks_of gens t rows) (length (rows_of before)) s) (flat_map-append row_in before (tenant.Event s ∷ after))
    ∙ gives gens t (rows_of before) (rows_of after) s
given_is gens t before after (tenant.End conn) = sym (end_mark gens t conn)

pub one_row : (item : TenantItem) → length (row_in item) ≤ 1
one_row (tenant.Event s) = omega arith
one_row (tenant.End conn) = omega arith
