-- The checks of a document, in reading order.
use Rattle.std.specs.Prelude.{◌+◌, ℕ, List, [], ◌∷◌, ◌++◌, Bool, true, false, nat_lt, nat_le, length, Option, Some, None, is_none, is_some, not, codes, if◌then◌else◌}
use Rattle.std.specs.List.{flat_map, list_any, enumerate_from}
use Rattle.std.specs.Str.{bytes_eq}
use Rattle.serde_json.specs.Data.{Data, Items}
use Rattle.serde_json.specs.Find.{get, as_str}
use Rattle.gate_record.specs.Json.{items_in, json_of}
use Rattle.gate_config.specs.declared.path.Step.{Step}
use Rattle.gate_config.specs.declared.fault.ConfigFault.TheVariants.{NotJson, Shape, Limit, Manager, Attribute, Repeated}
use Rattle.gate_config.specs.Document.{tenant_entries, tenant_of, tenant_name, name_of, name_in, group, sources_of, names_in, config_items, pipeline_items, pipeline_names, project_items, is_stanza, job_list, manager_named, vote_at, votes_of}
use Rattle.gate_config.specs.Faults.{Check, Asks, Builds}
use Rattle.gate_config.specs.Names.{with_name, with_names}
use Rattle.gate_config.specs.Parts.{is_fine, is_flag, is_list, is_object, is_text, is_there, items_of, keys_of, one_or_list, optional, optional_in, text_of_member}
use Rattle.gate_config.specs.Places.{below, nth, whole}
use Rattle.gate_config.specs.Limits.{most_tenants, most_connections, most_pipelines, most_rules, most_entries}

-- the checks of each of the values, which depend on its position, counted from 0
abbrev pub each : {A : Type 0} → (ℕ → A → List Check) → List A → List Check
each checks values = flat_map (λ entry. checks entry.0 entry.1) (enumerate_from 0 values)

-- the checks of each of the values, which depend on the values before it
abbrev pub along_from : {A : Type 0} → (List A → A → List Check) → List A → List A → List Check
along_from checks before [] = []
along_from checks before (value ∷ values) = checks before value ++ along_from checks (before ++ value ∷ []) values

abbrev pub along : {A : Type 0} → (List A → A → List Check) → List A → List Check
along checks values = along_from checks [] values

-- ---- tenants

abbrev pub is_nameless : Data → Bool
is_nameless value = is_none (name_in value)

abbrev pub is_group : Option Items → Data → Bool
is_group (Some items) entry = not (list_any is_nameless (items_in items))
is_group None entry = not (is_nameless entry)

-- The entry of a project list names projects: it is a text, an object of one key, or an object with a list `projects` of texts
-- and objects of one key.
abbrev pub is_entry : Data → Bool
is_entry entry = is_group (group entry) entry

abbrev pub project_checks : List Step → ℕ → Data → List Check
project_checks place position entry = Asks (is_entry entry) (Shape (nth place position)) ∷ []

-- the checks of the project list at a key of a source, which is optional
abbrev pub list_checks : List Step → Option Data → List ℕ → List Check
list_checks place source key =
    Asks (is_fine is_list (optional_in key source)) (Shape (below place key))
    ∷ each (project_checks (below place key)) (items_of (optional_in key source))

-- the checks of what a tenant lists under a connection: an object or null, with optional project lists
abbrev pub listing_checks : List Step → Option Data → List Check
listing_checks here source =
    Asks (is_fine is_object source) (Shape here)
    ∷ (list_checks here source (codes "config-projects") ++ list_checks here source (codes "untrusted-projects"))

-- The checks of a connection among a tenant's sources. Together with the connections of earlier tenants (`known`) and those
-- before it there may be at most `most_connections` names.
abbrev pub source_checks : List (List ℕ) → List Step → Option Data → List (List ℕ) → List ℕ → List Check
source_checks known place sources before key =
    Asks (nat_le (length (with_name key (with_names known before))) most_connections) (Limit (below place key))
    ∷ listing_checks (below place key) (optional_in key sources)

-- the checks of the connections that a tenant lists, in byte order
abbrev pub sources_checks : List (List ℕ) → List Step → Data → List Check
sources_checks known here tenant =
    Asks (is_fine is_object (optional (codes "source") tenant)) (Shape (below here (codes "source")))
    ∷ along (source_checks known (below here (codes "source")) (optional (codes "source") tenant)) (sources_of tenant)

-- An earlier tenant has the name.
abbrev pub is_taken : List (ℕ × Data) → List ℕ → Bool
is_taken before name = list_any (λ (entry : ℕ × Data). bytes_eq (tenant_name entry.1) name) before

-- the checks of a tenant at this place: its name, which no earlier tenant may have, and its optional sources
abbrev pub named_checks : List (ℕ × Data) → List Step → Data → List Check
named_checks before here tenant =
    Asks (is_there is_text (get (codes "name") tenant)) (Shape (below here (codes "name")))
    ∷ Asks (not (is_taken before (name_of tenant))) (Repeated (below here (codes "name")))
    ∷ sources_checks (names_in before) here tenant

-- the place of the tenant of an entry
abbrev pub tenant_place : List Step → Data → List Step
tenant_place here entry = if is_some (optional (codes "tenant") entry) then below here (codes "tenant") else here

-- the checks of an entry of `tenants` at this place: it is an object, and `tenant` in it is an object or absent
abbrev pub tenant_checks_at : List (ℕ × Data) → List Step → Data → List Check
tenant_checks_at before here entry =
    Asks (is_object entry) (Shape here)
    ∷ Asks (is_fine is_object (optional (codes "tenant") entry)) (Shape here)
    ∷ named_checks before (tenant_place here entry) (tenant_of entry)

-- the checks of an entry of `tenants`; `before` are the entries before it
abbrev pub tenant_checks : List (ℕ × Data) → ℕ × Data → List Check
tenant_checks before entry = tenant_checks_at before (nth (below whole (codes "tenants")) entry.0) entry.1

-- ---- rules

-- the keys that an entry may have which is an object
abbrev pub entry_keys : List (List ℕ)
entry_keys = codes "negate" ∷ codes "regex" ∷ []

abbrev pub entry_key_checks : List Step → List ℕ → List Check
entry_key_checks here key = Asks (list_any (bytes_eq key) entry_keys) (Shape (below here key)) ∷ []

-- the checks of an entry that isn't a text: it is an object, whose keys are checked in byte order, with a text `regex` that is
-- built as a pattern, and an optional `negate`
abbrev pub regex_checks : List Step → Data → List Check
regex_checks here value =
    Asks (is_object value) (Shape here)
    ∷ (flat_map (entry_key_checks here) (keys_of (Some value))
    ++ Asks (is_there is_text (get (codes "regex") value)) (Shape (below here (codes "regex")))
    ∷ Asks (is_fine is_flag (optional (codes "negate") value)) (Shape (below here (codes "negate")))
    ∷ Builds (text_of_member (codes "regex") value) (below here (codes "regex"))
    ∷ [])

-- the checks of an entry of an attribute that lists patterns: a text that is built as a pattern, or an object
abbrev pub text_or_object_checks : List Step → Option (List ℕ) → Data → List Check
text_or_object_checks here (Some text) value = Builds text here ∷ []
text_or_object_checks here None value = regex_checks here value

abbrev pub entry_checks_at : List Step → Data → List Check
entry_checks_at here value = text_or_object_checks here (as_str value) value

-- the checks of an entry of a list; an attribute has at most `most_entries`
abbrev pub entry_checks : List Step → ℕ → Data → List Check
entry_checks place position value = Asks (nat_lt position most_entries) (Limit place) ∷ entry_checks_at (nth place position) value

-- the checks of an attribute that lists patterns: one entry or a list of entries, if it is there
abbrev pub pattern_checks : List Step → Option Data → List Check
pattern_checks place None = []
pattern_checks place (Some value) = one_or_list (each (entry_checks place)) (entry_checks_at place) value

-- The checks of the vote at a key of an object of approvals: it is a number, and an attribute has at most `most_entries` votes.
-- `rank` votes come before it.
abbrev pub vote_checks : List Step → List Step → Data → ℕ → List ℕ → List Check
vote_checks place here labels rank key =
    Asks (nat_lt rank most_entries) (Limit place) ∷ Asks (is_some (vote_at labels key)) (Shape here) ∷ []

-- the checks of an object of approvals, whose keys are taken in byte order; `count` votes come before it
abbrev pub votes_checks : List Step → List Step → ℕ → Data → List Check
votes_checks place here count labels =
    Asks (is_object labels) (Shape here)
    ∷ each (λ index. vote_checks place here labels (count + index)) (keys_of (Some labels))

-- the checks of a list of objects of approvals, of which the first is at `position`; `count` votes come before it
abbrev pub objects_checks : List Step → ℕ → ℕ → List Data → List Check
objects_checks place position count [] = []
objects_checks place position count (labels ∷ others) =
    votes_checks place (nth place position) count labels
    ++ objects_checks place (position + 1) (count + length (votes_of labels)) others

-- the checks of `approval`: one object or a list of objects, if it is there
abbrev pub approval_checks : List Step → Option Data → List Check
approval_checks place None = []
approval_checks place (Some value) = one_or_list (objects_checks place 0 0) (votes_checks place place 0) value

-- the checks of `true` or `false`, if it is there
abbrev pub flag_checks : List Step → Option Data → List Check
flag_checks place value = Asks (is_fine is_flag value) (Shape place) ∷ []

-- the attributes that list patterns
abbrev pub pattern_attributes : List (List ℕ)
pattern_attributes =
    codes "event" ∷ codes "branch" ∷ codes "ref" ∷ codes "username" ∷ codes "email" ∷ codes "comment" ∷ []

-- the checks of the value at a key of a rule; a key that is no attribute is refused
abbrev pub attribute_checks : List Step → Data → List ℕ → List Check
attribute_checks place rule key =
    if list_any (bytes_eq key) pattern_attributes then pattern_checks (below place key) (optional key rule)
    else (if bytes_eq key (codes "approval") then approval_checks (below place key) (optional key rule)
    else (if bytes_eq key (codes "ignore-deletes") then flag_checks (below place key) (optional key rule)
    else Asks false (Attribute (below place key)) ∷ []))

-- The value asks for something: it isn't an empty list.
abbrev pub is_asking : Data → Bool
is_asking value = one_or_list (λ items. nat_lt 0 (length items)) (λ other. true) value

-- the checks of a rule at this place: an object of attributes, whose keys are taken in byte order; `event` is required
abbrev pub rule_checks_at : List Step → Data → List Check
rule_checks_at here rule =
    Asks (is_object rule) (Shape here)
    ∷ (flat_map (attribute_checks here rule) (keys_of (Some rule))
    ++ Asks (is_there is_asking (optional (codes "event") rule)) (Shape (below here (codes "event"))) ∷ [])

abbrev pub rule_checks : List Step → ℕ → Data → List Check
rule_checks place position rule = rule_checks_at (nth place position) rule

-- the checks of a list of rules, of which there are at most `most_rules`
abbrev pub rule_list_checks : List Step → List Data → List Check
rule_list_checks here rules = Asks (nat_le (length rules) most_rules) (Limit here) ∷ each (rule_checks here) rules

-- the checks of a list of rules or one rule, if it is there
abbrev pub rules_checks : List Step → Option Data → List Check
rules_checks here None = []
rules_checks here (Some value) = one_or_list (rule_list_checks here) (rule_checks_at here) value

-- The checks of a trigger's rules for a connection. Values at keys that are no connection aren't checked.
abbrev pub connection_checks : List Step → Option Data → List ℕ → List Check
connection_checks place trigger connection = rules_checks (below place connection) (optional_in connection trigger)

-- ---- pipelines

abbrev pub manager_checks : List Step → Data → List Check
manager_checks here pipeline =
    Asks (is_there is_text (get (codes "manager") pipeline)) (Shape (below here (codes "manager")))
    ∷ Asks (is_some (manager_named (text_of_member (codes "manager") pipeline))) (Manager (below here (codes "manager")))
    ∷ []

-- the checks of a trigger: an object, whose connections are checked in byte order, which is the order of their numbers
abbrev pub trigger_checks : List (List ℕ) → List Step → Data → List Check
trigger_checks connections here pipeline =
    Asks (is_fine is_object (optional (codes "trigger") pipeline)) (Shape (below here (codes "trigger")))
    ∷ flat_map (connection_checks (below here (codes "trigger")) (optional (codes "trigger") pipeline)) connections

-- An earlier pipeline has the name.
abbrev pub is_named : List (ℕ × Data) → List ℕ → Bool
is_named before name = list_any (λ (entry : ℕ × Data). bytes_eq (name_of entry.1) name) before

-- the checks of a pipeline at place `here`, in the item at place `item`; `before` are the pipelines before it
abbrev pub pipeline_checks_at : List (List ℕ) → List Step → List Step → List (ℕ × Data) → Data → List Check
pipeline_checks_at connections item here before pipeline =
    Asks (is_object pipeline) (Shape here)
    ∷ Asks (is_there is_text (get (codes "name") pipeline)) (Shape (below here (codes "name")))
    ∷ Asks (not (is_named before (name_of pipeline))) (Repeated (below here (codes "name")))
    ∷ Asks (nat_lt (length before) most_pipelines) (Limit item)
    ∷ (manager_checks here pipeline ++ trigger_checks connections here pipeline)

abbrev pub pipeline_checks : List (List ℕ) → List Step → List (ℕ × Data) → ℕ × Data → List Check
pipeline_checks connections place before entry =
    pipeline_checks_at connections (nth place entry.0) (below (nth place entry.0) (codes "pipeline")) before entry.1

-- the checks of an item of a tenant's list in `config`
abbrev pub item_checks : List Step → ℕ → Data → List Check
item_checks place position item = Asks (is_object item) (Shape (nth place position)) ∷ []

-- the checks of the items of a tenant's list in `config`: each is an object; after that come the pipelines among them
abbrev pub items_checks : List (List ℕ) → List Step → List Data → List Check
items_checks connections place items =
    each (item_checks place) items ++ along (pipeline_checks connections place) (pipeline_items items)

-- ---- projects' jobs

-- the checks of an item of a list of jobs: it gives a name
abbrev pub job_checks : List Step → ℕ → Data → List Check
job_checks place position job = Asks (is_some (name_in job)) (Shape (nth place position)) ∷ []

abbrev pub jobs_checks : List Step → Option Data → List Check
jobs_checks place jobs = Asks (is_fine is_list jobs) (Shape place) ∷ each (job_checks place) (items_of jobs)

-- the checks of the part of a stanza for the pipeline of this name: an object with a list of jobs, both optional
abbrev pub part_checks : List Step → Data → List ℕ → List Check
part_checks here stanza pipeline =
    Asks (is_fine is_object (optional pipeline stanza)) (Shape (below here pipeline))
    ∷ jobs_checks (below (below here pipeline) (codes "jobs")) (job_list pipeline stanza)

abbrev pub parts_checks : List (List ℕ) → List Step → Data → List Check
parts_checks pipelines here stanza = if is_stanza stanza then flat_map (part_checks here stanza) pipelines else []

-- The checks of a project item at this place, for pipelines of these names: it is an object. Its parts for the pipelines are
-- checked only if it names a project.
abbrev pub stanza_checks_at : List (List ℕ) → List Step → Data → List Check
stanza_checks_at pipelines here stanza = Asks (is_object stanza) (Shape here) ∷ parts_checks pipelines here stanza

abbrev pub stanza_checks : List (List ℕ) → List Step → ℕ × Data → List Check
stanza_checks pipelines place entry = stanza_checks_at pipelines (below (nth place entry.0) (codes "project")) entry.1

-- the checks of the project items among the items of a tenant's list in `config`
abbrev pub stanzas_checks : List Step → List Data → List Check
stanzas_checks place items = flat_map (stanza_checks (pipeline_names items) place) (project_items items)

-- the checks of the items of a tenant's list in `config`: all pipelines come before the project items
abbrev pub all_items_checks : List (List ℕ) → List Step → List Data → List Check
all_items_checks connections place items = items_checks connections place items ++ stanzas_checks place items

-- the place of this tenant's list in `config`
abbrev pub list_place : List ℕ → List Step
list_place tenant = below (below whole (codes "config")) tenant

-- the checks of a tenant's list in `config`
abbrev pub config_checks : Option Data → List (List ℕ) → ℕ × Data → List Check
config_checks config connections entry =
    Asks (is_fine is_list (optional_in (tenant_name entry.1) config)) (Shape (list_place (tenant_name entry.1)))
    ∷ all_items_checks connections (list_place (tenant_name entry.1)) (config_items config (tenant_name entry.1))

-- ---- the document

-- the checks of the entries of `tenants`: all tenants come before their lists in `config`
abbrev pub entries_checks : Option Data → List (ℕ × Data) → List Check
entries_checks config entries =
    Asks (nat_le (length entries) most_tenants) (Limit (below whole (codes "tenants")))
    ∷ (along tenant_checks entries ++ flat_map (config_checks config (names_in entries)) entries)

abbrev pub document_checks : Data → List Check
document_checks document =
    Asks (is_object document) (Shape whole)
    ∷ Asks (is_there is_list (get (codes "tenants") document)) (Shape (below whole (codes "tenants")))
    ∷ Asks (is_there is_object (get (codes "config") document)) (Shape (below whole (codes "config")))
    ∷ entries_checks (get (codes "config") document) (tenant_entries document)

abbrev pub checks_of_json : Option Data → List Check
checks_of_json None = Asks false NotJson ∷ []
checks_of_json (Some document) = document_checks document

-- the checks of a document, by its bytes
abbrev pub checks_of : List ℕ → List Check
checks_of bytes = checks_of_json (json_of bytes)
