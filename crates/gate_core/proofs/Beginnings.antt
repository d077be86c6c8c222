-- What holds in the beginning.
use Rattle.std.proofs.Common.{◌≡◌, ◌∙◌, refl, sym, ap, subst, ℕ, zero, suc, ◌+◌, ◌<◌, ◌≤◌, List, [], ◌∷◌, ◌++◌, true, length, map, Option, Some, None, arith, add-zero}
use Rattle.std.specs.Prelude.{slice_get, is_some}
use Rattle.std.specs.List.{range_with_len}
use Rattle.std.proofs.lemmas.List.{length-map}
use Rattle.std.proofs.lemmas.List.FromFn.{length-map-range_with_len}
use Rattle.std.proofs.lemmas.Option.{slice_get-get_or}
use Rattle.gate_config.specs.declared.generations.Generations.{Generations}
use Rattle.gate_config.specs.Lookups.{connections_of, pipelines_of, tenants_of}
use Rattle.gate_forward.specs.Histories.{items_to}
use Rattle.gate_core.proofs.LowerLaws.{Laws}
use Rattle.gate_tenant.specs.Histories.{begins, beginning}
use Rattle.gate_record.specs.Entries as entries
use Rattle.std.proofs.lemmas.List.Elements.{All-nil}
use Rattle.gate_core.specs.declared.pipeline.Pipeline.{Pipeline}
use Rattle.gate_core.specs.Pipelines.{fresh_pipeline}
use Rattle.gate_core.specs.States.{ConnectionState}
use Rattle.gate_core.specs.Steps.{first, new_connection, new_tenant}
use Rattle.gate_core.specs.Worlds.{AcceptedAtMost}
use Rattle.gate_core.proofs.Fits.{fits_new}
use Rattle.gate_core.proofs.Moving.{AllHave}
use Rattle.gate_core.proofs.Streams.{ConnHolds, Holds, PipeHolds, TenantHolds, count_of, generation_of, unsent_of, on_way, queue_of}
use Rattle.gate_delivery.proofs.Maps.{the_same}

-- what is looked up where all values are the same
pub data AllSame {X : Type 0} (x : X) : Option X → Type 0 where
  nothing : AllSame x None
  that : AllSame x (Some x)

all_same : {X Y : Type 0} (x : X) (ys : List Y) (i : ℕ) → AllSame x (slice_get (map (λ _. x) ys) i)
all_same x [] i = nothing
all_same x (y ∷ ys) zero = that
all_same x (y ∷ ys) (suc i) = all_same x ys i

found_in_range : {X : Type 0} (f : ℕ → X) (a n i : ℕ) (x : X) → slice_get (map f (range_with_len a n)) i ≡ Some x → x ≡ f (a + i)
found_in_range f a zero i x e = absurd (cc)
found_in_range f a (suc n) zero x e = sym (the_same (f a) x e) ∙ ap f (sym (add-zero a))
found_in_range f a (suc n) (suc i) x e = found_in_range f (a + 1) n i x e ∙ ap f (omega arith)

module _ (gens : Generations) where
  conns : List ConnectionState
  conns = map (λ _. new_connection) (connections_of gens.first)

  conn_there : (c : ℕ) → c < length (connections_of gens.first) → is_some (slice_get conns c) ≡ true
  unfolding conns
  conn_there c inside =
      let long : length conns ≡ length (connections_of gens.first) = length-map (connections_of gens.first) (λ _. new_connection) in
      ap is_some (slice_get-get_or conns c new_connection (omega (arith, inside, long)))

  new_conn : (c : ℕ) (o : Option ConnectionState) → AllSame new_connection o → (c < length (connections_of gens.first) → is_some o ≡ true) → ConnHolds gens [] c o
  new_conn c None nothing there = record { count = refl; closing = refl; waits = refl; within = omega arith; there = there; own = tt; renewed = refl; before = All-nil (λ m. m ≤ 0); stream = entries.begins; in_force = refl }
  new_conn c (Some k) that there = record { count = refl; closing = refl; waits = refl; within = omega arith; there = there; own = tt; renewed = refl; before = All-nil (λ m. m ≤ 0); stream = entries.begins; in_force = refl }

  nothing_put : (t c : ℕ) (o : Option ConnectionState) → AllSame new_connection o → items_to t (unsent_of o) ++ on_way gens t c (generation_of o) (queue_of o) ≡ []
  nothing_put t c None nothing = refl
  nothing_put t c (Some k) that = refl

  new_pipe : (t p : ℕ) (pipe : Pipeline) → slice_get (map (fresh_pipeline gens.first t) (range_with_len 0 (length (pipelines_of gens.first t)))) p ≡ Some pipe → PipeHolds gens.first [] t p [] pipe
  new_pipe t p pipe at =
      subst (PipeHolds gens.first [] t p []) (ap (fresh_pipeline gens.first t) (sym (omega arith)) ∙ sym (found_in_range (fresh_pipeline gens.first t) 0 (length (pipelines_of gens.first t)) p pipe at)) (fits_new gens.first t p)

  new_tenant_holds : (t : ℕ) → TenantHolds gens [] conns t (new_tenant gens.first t)
  unfolding conns
  new_tenant_holds t = record {
    past = beginning gens.first t;
    happens = begins;
    now = refl;
    none_out = refl;
    count = length-map-range_with_len (fresh_pipeline gens.first t) 0 (length (pipelines_of gens.first t));
    pipes = λ p pipe at. new_pipe t p pipe at;
    ways = λ c. nothing_put t c (slice_get conns c) (all_same new_connection (connections_of gens.first) c);
  }

  first_conns : (c : ℕ) → ConnHolds gens [] c (slice_get (first gens).connections c)
  unfolding conns
  first_conns c = new_conn c (slice_get conns c) (all_same new_connection (connections_of gens.first) c) (conn_there c)

  pub first_holds : Laws → Holds gens [] (first gens)
  unfolding conns
  first_holds laws = record {
    laws = laws;
    count = length-map-range_with_len (new_tenant gens.first) 0 (length (tenants_of gens.first));
    conn_count = length-map (connections_of gens.first) (λ _. new_connection);
    conns = first_conns;
    tenants = λ t ten at.
        subst (TenantHolds gens [] conns t) (ap (new_tenant gens.first) (sym (omega arith)) ∙ sym (found_in_range (new_tenant gens.first) 0 (length (tenants_of gens.first)) t ten at)) (new_tenant_holds t);
    others = λ t p none. (refl, refl);
  }

that_one : {X : Type 0} (x y : X) (o : Option X) → AllSame x o → o ≡ Some y → x ≡ y
that_one x y None nothing e = absurd (cc)
that_one x y (Some z) that e = the_same z y e

-- in the beginning each connection is new
pub first_have : (gens : Generations) (P : ConnectionState → Type 0) → P new_connection → AllHave P (first gens)
first_have gens P new c conn at = subst P (that_one new_connection conn (slice_get (first gens).connections c) (all_same new_connection (connections_of gens.first) c) at) new

-- nothing is accepted in the beginning
pub first_counts : (gens : Generations) → AcceptedAtMost 0 (first gens)
first_counts gens = first_have gens (λ (conn : ConnectionState). conn.accepted ≤ 0) (omega arith)
