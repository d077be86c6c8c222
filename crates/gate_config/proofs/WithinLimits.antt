-- What passed its checks is within the limits.
use Rattle.std.proofs.Common.{◌≡◌, ◌∙◌, ◌<◌, ◌≤◌, ℕ, List, [], ◌∷◌, ◌++◌, map, length, nat_le, sym, ap, subst, arith, codes, Option, append_assoc}
use Rattle.std.specs.List.{flat_map}
use Rattle.std.proofs.lemmas.Bool.{leb-true, ltb-true}
use Rattle.std.proofs.lemmas.List.{append-nil, length-append, length-map}
use Rattle.serde_json.specs.Data.{Data}
use Rattle.gate_config.specs.Checks.{along, along_from, each, all_items_checks, item_checks, items_checks, stanzas_checks, pipeline_checks, source_checks, tenant_checks, tenant_place}
use Rattle.gate_config.specs.Document.{names_in, pipeline_items, sources_of, tenant_of}
use Rattle.gate_config.specs.Faults.{Check, Asks, AllPass}
use Rattle.gate_config.specs.Inner.Faults.{HasPassed}
use Rattle.gate_config.specs.Parts.{optional}
use Rattle.gate_config.specs.Places.{below, nth, whole}
use Rattle.gate_config.specs.declared.path.Step.{Step}
use Rattle.gate_config.specs.declared.fault.ConfigFault.{ConfigFault}
use Rattle.gate_config.specs.Limits.{most_connections, most_pipelines, most_tenants}
use Rattle.gate_config.specs.Names.{with_name, with_names}
use Rattle.gate_config.proofs.Listed.{flat_map-append, with_names-append}

front_passed : (xs ys : List Check) → AllPass (xs ++ ys) → AllPass xs
front_passed [] ys p = tt
front_passed (x ∷ xs) ys p = (p.0, front_passed xs ys p.1)

rest_passed : (xs ys : List Check) → AllPass (xs ++ ys) → AllPass ys
rest_passed [] ys p = p
rest_passed (x ∷ xs) ys p = rest_passed xs ys p.1

-- where each check asks for fewer than m items before it, there are at most m
at_most_along : {A : Type 0} (checks : List A → A → List Check) (m : ℕ) → ((before : List A) (x : A) → AllPass (checks before x) → length before < m) → (before xs : List A) → length before ≤ m → AllPass (along_from checks before xs) → length (before ++ xs) ≤ m
at_most_along checks m below before [] h p = rw (append-nil before) h
at_most_along checks m below before (x ∷ xs) h p =
    let here : length before < m = below before x (front_passed (checks before x) (along_from checks (before ++ x ∷ []) xs) p) in
    let more : length (before ++ x ∷ []) ≤ m = omega (arith, here, length-append before (x ∷ [])) in
    subst (λ ys. length ys ≤ m) (append_assoc before (x ∷ []) xs)
    (at_most_along checks m below (before ++ x ∷ []) xs more (rest_passed (checks before x) (along_from checks (before ++ x ∷ []) xs) p))

-- the connections of a tenant, with those known before
few_sources : (known : List (List ℕ)) (here : List Step) (sources : Option Data) (before keys : List (List ℕ)) → length (with_names known before) ≤ most_connections → AllPass (along_from (source_checks known here sources) before keys) → length (with_names known (before ++ keys)) ≤ most_connections
few_sources known here sources before [] h p = rw (append-nil before) h
few_sources known here sources before (key ∷ keys) h p =
    let few : length (with_name key (with_names known before)) ≤ most_connections = leb-true (length (with_name key (with_names known before))) most_connections p.0 in
    subst (λ names. length (with_names known names) ≤ most_connections) (append_assoc before (key ∷ []) keys)
    (few_sources known here sources (before ++ key ∷ []) keys
    (subst (λ names. length names ≤ most_connections) (sym (with_names-append known before (key ∷ []))) few)
    (rest_passed (source_checks known here sources before key) (along_from (source_checks known here sources) (before ++ key ∷ []) keys) p))

abbrev tenant_sources : ℕ × Data → List (List ℕ)
tenant_sources entry = sources_of (tenant_of entry.1)

-- the connections of entries
names-append : (before : List (ℕ × Data)) (entry : ℕ × Data) → names_in (before ++ entry ∷ []) ≡ with_names (names_in before) (tenant_sources entry)
names-append before entry =
    ap (with_names []) (flat_map-append tenant_sources before (entry ∷ []) ∙ ap (λ rest. flat_map tenant_sources before ++ rest) (append-nil (tenant_sources entry)))
    ∙ with_names-append [] (flat_map tenant_sources before) (tenant_sources entry)

few_names : (before entries : List (ℕ × Data)) → length (names_in before) ≤ most_connections → AllPass (along_from tenant_checks before entries) → length (names_in (before ++ entries)) ≤ most_connections
few_names before [] h p = rw (append-nil before) h
few_names before (entry ∷ entries) h p =
    let passed : AllPass (tenant_checks before entry) = front_passed (tenant_checks before entry) (along_from tenant_checks (before ++ entry ∷ []) entries) p in
    let tenant = tenant_of entry.1 in
    let few : length (with_names (names_in before) (tenant_sources entry)) ≤ most_connections =
    few_sources (names_in before) (below (tenant_place (nth (below whole (codes "tenants")) entry.0) entry.1) (codes "source")) (optional (codes "source") tenant) [] (sources_of tenant) h passed.1.1.1.1.1 in
    subst (λ es. length (names_in es) ≤ most_connections) (append_assoc before (entry ∷ []) entries)
    (few_names (before ++ entry ∷ []) entries (subst (λ names. length names ≤ most_connections) (sym (names-append before entry)) few)
    (rest_passed (tenant_checks before entry) (along_from tenant_checks (before ++ entry ∷ []) entries) p))

pub few_connections : (entries : List (ℕ × Data)) (names : List (List ℕ)) → HasPassed (along tenant_checks entries) → names ≡ names_in entries → length names ≤ most_connections
few_connections entries names p e = subst (λ (found : List (List ℕ)). length found ≤ most_connections) (sym e) (few_names [] entries (omega arith) p.all)

-- as many were read as there are items
few_read : {A B T : Type 0} (texts : T → B) (gives : A → B) (read : List T) (items : List A) (m : ℕ) → map texts read ≡ map gives items → length items ≤ m → length read ≤ m
few_read texts gives read items m e h =
    let same : length read ≡ length items = sym (length-map read texts) ∙ ap length e ∙ length-map items gives in
    omega (arith, same, h)

pub few_tenants : {X A T B : Type 0} (v : X → A) (items : List X) (texts : T → B) (gives : A → B) (read : List T) {found : ConfigFault} → map texts read ≡ map gives (map v items) → HasPassed (Asks (nat_le (length (map v items)) most_tenants) found ∷ []) → length read ≤ most_tenants
few_tenants v items texts gives read e p = few_read texts gives read (map v items) most_tenants e (leb-true (length (map v items)) most_tenants p.all.0)

pub few_pipelines : {T B : Type 0} (connections : List (List ℕ)) (place : List Step) (items : List Data) (texts : T → B) (gives : ℕ × Data → B) (read : List T) →
    HasPassed (items_checks connections place items) → map texts read ≡ map gives (pipeline_items items) → length read ≤ most_pipelines
few_pipelines connections place items texts gives read p e =
    let passed : AllPass (along (pipeline_checks connections place) (pipeline_items items)) = rest_passed (each (item_checks place) items) (along (pipeline_checks connections place) (pipeline_items items)) p.all in
    let few : length ([] ++ pipeline_items items) ≤ most_pipelines = at_most_along (pipeline_checks connections place) most_pipelines (λ before entry q. ltb-true (length before) most_pipelines q.1.1.1.0) [] (pipeline_items items) (omega arith) passed in
    few_read texts gives read (pipeline_items items) most_pipelines e few

-- the same of all items
pub passed_pipelines : (connections : List (List ℕ)) (place : List Step) (items : List Data) → HasPassed (all_items_checks connections place items) → HasPassed (items_checks connections place items)
passed_pipelines connections place items p = record { all = front_passed (items_checks connections place items) (stanzas_checks place items) p.all }
