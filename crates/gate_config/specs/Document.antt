-- What a document says, if it passes its checks.
use Rattle.std.specs.Prelude.{ℕ, ℤ, List, [], ◌∷◌, ◌++◌, Bool, true, false, ◌&&◌, nat_eq, Option, Some, None, is_none, is_some, slice_get, unwrap_or, option_map, option_and_then, option_to_list, map, codes, if◌then◌else◌}
use Rattle.std.specs.List.{filter_map, flat_map, enumerate_from}
use Rattle.std.specs.Str.{bytes_eq}
use Rattle.serde_json.specs.Data.{Data, Items}
use Rattle.serde_json.specs.Find.{get, as_bool, as_str, as_array}
use Rattle.gate_record.specs.Approvals.{category}
use Rattle.gate_record.specs.EachOnce.{each_once}
use Rattle.gate_record.specs.Numbers.{number_of}
use Rattle.gate_record.specs.declared.ids.ManagerKind.{ManagerKind}
use Rattle.gate_record.specs.declared.ids.ManagerKind.TheVariants.{Independent, Dependent}
use Rattle.gate_config.specs.Names.{is_among, with_names}
use Rattle.gate_config.specs.Parts.{by_kind, is_object, is_text, items_of, keys_of, one_or_list, optional, optional_in, text_of_member}

-- the values that `pick` finds in the items of a list, each with the position of its item
abbrev pub picked : (Data → Option Data) → List Data → List (ℕ × Data)
picked pick values = filter_map (λ (entry : ℕ × Data). option_map (λ found. (entry.0, found)) (pick entry.1)) (enumerate_from 0 values)

-- ---- names

abbrev pub only : List (List ℕ) → Option (List ℕ)
only [] = None
only (key ∷ []) = Some key
only (key ∷ other ∷ keys) = None

-- the name that a value gives: a text, or the key of an object that has no other
abbrev pub name_in : Data → Option (List ℕ)
name_in value = if is_text value then as_str value else only (keys_of (Some value))

-- ---- tenants

-- An object that has neither `tenant` nor `name` is no tenant, and is ignored.
abbrev pub is_ignored : Data → Bool
is_ignored entry = is_object entry && (is_none (optional (codes "tenant") entry) && is_none (get (codes "name") entry))

abbrev pub tenant_at : Data → Option Data
tenant_at entry = if is_ignored entry then None else Some entry

-- the entries of `tenants` that aren't ignored, with their positions
abbrev pub tenant_entries : Data → List (ℕ × Data)
tenant_entries document = picked tenant_at (items_of (get (codes "tenants") document))

-- the tenant of an entry: the value at `tenant`, or else the entry itself
abbrev pub tenant_of : Data → Data
tenant_of entry = unwrap_or (optional (codes "tenant") entry) entry

abbrev pub name_of : Data → List ℕ
name_of value = text_of_member (codes "name") value

abbrev pub tenant_name : Data → List ℕ
tenant_name entry = name_of (tenant_of entry)

-- the names of the connections that a tenant lists
abbrev pub sources_of : Data → List (List ℕ)
sources_of tenant = keys_of (optional (codes "source") tenant)

-- the names of the connections that these entries list, each once and in byte order
abbrev pub names_in : List (ℕ × Data) → List (List ℕ)
names_in entries = with_names [] (flat_map (λ (entry : ℕ × Data). sources_of (tenant_of entry.1)) entries)

-- the names of the connections, by number
abbrev pub connection_names : Data → List (List ℕ)
connection_names document = names_in (tenant_entries document)

-- ---- projects

-- the list `projects` of an entry of a project list, if the entry has one
abbrev pub group : Data → Option Items
group entry = option_and_then as_array (optional (codes "projects") entry)

-- the projects of an entry: those in its list `projects`, or else the one that the entry names
abbrev pub entry_projects : Data → List (List ℕ)
entry_projects entry = by_kind (filter_map name_in) (λ value. option_to_list (name_in value)) (group entry) entry

-- the projects of the project list at this key
abbrev pub listed_at : List ℕ → Data → List (List ℕ)
listed_at key source = flat_map entry_projects (items_of (optional key source))

-- the projects that are listed under a connection
abbrev pub projects_in : Data → List (List ℕ)
projects_in source = listed_at (codes "config-projects") source ++ listed_at (codes "untrusted-projects") source

-- which projects a tenant lists under the connection of this name, if it lists the connection
abbrev pub projects_under : Data → List ℕ → Option (List ℕ → Bool)
projects_under tenant connection =
    option_map (λ source. is_among (projects_in source)) (option_and_then (get connection) (optional (codes "source") tenant))

-- ---- pipelines

-- the items of a tenant's list in `config`
abbrev pub config_items : Option Data → List ℕ → List Data
config_items config tenant = items_of (optional_in tenant config)

-- the pipelines among these items, with the positions of their items
abbrev pub pipeline_items : List Data → List (ℕ × Data)
pipeline_items items = picked (optional (codes "pipeline")) items

-- the manager that a text names
abbrev pub manager_named : List ℕ → Option ManagerKind
manager_named text =
    if bytes_eq text (codes "independent") then Some Independent
    else (if bytes_eq text (codes "dependent") then Some Dependent else None)

-- An entry of an attribute that lists patterns: the text of its pattern, and whether the entry is negated.
pub record EntryTexts : Type 0 where
  pub text : List ℕ
  pub negate : Bool

-- whether an entry is negated; without `negate` it isn't
abbrev pub negates : Data → Bool
negates value = unwrap_or (option_and_then as_bool (optional (codes "negate") value)) false

-- what an entry says: it is a text, or an object with a text `regex` and an optional `negate`
abbrev pub entry_said : Option (List ℕ) → Data → EntryTexts
entry_said (Some text) value = record { text = text; negate = false }
entry_said None value = record { text = text_of_member (codes "regex") value; negate = negates value }

abbrev pub entry_in : Data → EntryTexts
entry_in value = entry_said (as_str value) value

-- the entries of an attribute that lists patterns: those of a list, or the one entry
abbrev pub pattern_texts : Option Data → List EntryTexts
pattern_texts None = []
pattern_texts (Some value) = one_or_list (map entry_in) (λ one. entry_in one ∷ []) value

-- the vote that an object of approvals asks for at a key
abbrev pub vote_at : Data → List ℕ → Option (List ℕ × ℤ)
vote_at labels key = option_map (λ vote. (category key, vote)) (option_and_then number_of (get key labels))

-- the votes that an object of approvals asks for, by its keys in byte order
abbrev pub votes_of : Data → List (List ℕ × ℤ)
votes_of labels = filter_map (vote_at labels) (keys_of (Some labels))

-- the votes of `approval`: those of one object, or of a list of objects
abbrev pub votes : Option Data → List (List ℕ × ℤ)
votes None = []
votes (Some value) = one_or_list (flat_map votes_of) votes_of value

-- the value of an optional flag, which is true if it is absent
abbrev pub flag : Option Data → Bool
flag value = unwrap_or (option_and_then as_bool value) true

-- A rule as the document has it, by attribute.
pub record RuleTexts : Type 0 where
  pub event : List EntryTexts
  pub branch : List EntryTexts
  pub refname : List EntryTexts
  pub username : List EntryTexts
  pub email : List EntryTexts
  pub comment : List EntryTexts
  pub approval : List (List ℕ × ℤ)
  pub ignore_deletes : Bool

abbrev pub rule_texts : Data → RuleTexts
rule_texts rule = record {
  event = pattern_texts (optional (codes "event") rule);
  branch = pattern_texts (optional (codes "branch") rule);
  refname = pattern_texts (optional (codes "ref") rule);
  username = pattern_texts (optional (codes "username") rule);
  email = pattern_texts (optional (codes "email") rule);
  comment = pattern_texts (optional (codes "comment") rule);
  approval = votes (optional (codes "approval") rule);
  ignore_deletes = flag (optional (codes "ignore-deletes") rule);
}

-- the rules of a list, or the one rule
abbrev pub rules_at : Option Data → List RuleTexts
rules_at None = []
rules_at (Some value) = one_or_list (map rule_texts) (λ rule. rule_texts rule ∷ []) value

-- the rules of a trigger for the connection of this name
abbrev pub rules_under : Option Data → List ℕ → List RuleTexts
rules_under trigger connection = rules_at (optional_in connection trigger)

-- A pipeline as the document has it, with its rules by connection number.
pub record PipelineTexts : Type 0 where
  pub name : List ℕ
  pub manager : Option ManagerKind
  pub rules : List (List RuleTexts)

abbrev pub pipeline_texts : List (List ℕ) → ℕ × Data → PipelineTexts
pipeline_texts connections entry = record {
  name = name_of entry.1;
  manager = manager_named (text_of_member (codes "manager") entry.1);
  rules = map (rules_under (optional (codes "trigger") entry.1)) connections;
}

-- ---- projects' jobs

-- the project items among these items, with their positions
abbrev pub project_items : List Data → List (ℕ × Data)
project_items items = picked (optional (codes "project")) items

-- the name, unless it begins with `^`: that is a regular expression, which names no project
abbrev pub plain_name : List ℕ → Option (List ℕ)
plain_name [] = Some []
plain_name (first ∷ rest) = if nat_eq first 94 then None else Some (first ∷ rest)

-- the project that a stanza is about; a stanza that names none is ignored
abbrev pub project_of : Data → Option (List ℕ)
project_of stanza = option_and_then plain_name (option_and_then as_str (get (codes "name") stanza))

abbrev pub is_stanza : Data → Bool
is_stanza stanza = is_some (project_of stanza)

-- The name is that of this project.
abbrev pub is_of : List ℕ → Option (List ℕ) → Bool
is_of project None = false
is_of project (Some name) = bytes_eq name project

-- the list of jobs that a stanza has for the pipeline of this name
abbrev pub job_list : List ℕ → Data → Option Data
job_list pipeline stanza = optional_in (codes "jobs") (optional pipeline stanza)

-- the names of the jobs that a stanza has for a project in a pipeline
abbrev pub jobs_for : List ℕ → List ℕ → Data → List (List ℕ)
jobs_for pipeline project stanza =
    if is_of project (project_of stanza) then filter_map name_in (items_of (job_list pipeline stanza)) else []

-- the jobs of a project in a pipeline: those of all its stanzas in order, each once
abbrev pub jobs_in : List (ℕ × Data) → List ℕ → List ℕ → List (List ℕ)
jobs_in stanzas pipeline project = each_once bytes_eq (flat_map (λ (entry : ℕ × Data). jobs_for pipeline project entry.1) stanzas)

-- the names of the pipelines among these items, in order
abbrev pub pipeline_names : List Data → List (List ℕ)
pipeline_names items = map (λ (entry : ℕ × Data). name_of entry.1) (pipeline_items items)

-- A tenant as the document has it, with the projects that it lists by connection number, and the jobs of each project by pipeline
-- number.
pub record TenantTexts : Type 0 where
  pub name : List ℕ
  pub sources : List (Option (List ℕ → Bool))
  pub pipelines : List PipelineTexts
  pub jobs : List (List ℕ → List (List ℕ))

abbrev pub tenant_texts : Option Data → List (List ℕ) → ℕ × Data → TenantTexts
tenant_texts config connections entry = record {
  name = tenant_name entry.1;
  sources = map (projects_under (tenant_of entry.1)) connections;
  pipelines = map (pipeline_texts connections) (pipeline_items (config_items config (tenant_name entry.1)));
  jobs = map (jobs_in (project_items (config_items config (tenant_name entry.1)))) (pipeline_names (config_items config (tenant_name entry.1)));
}

-- the tenants, by number
abbrev pub tenants_in : Data → List TenantTexts
tenants_in document = map (tenant_texts (get (codes "config") document) (connection_names document)) (tenant_entries document)

-- ---- what tenants have, by the numbers of connections, tenants and pipelines; a number out of range has nothing

-- the projects that a tenant lists under a connection, if it lists the connection
abbrev pub sources_among : List TenantTexts → ℕ → ℕ → Option (List ℕ → Bool)
sources_among tenants t c = option_and_then (λ (tenant : TenantTexts). unwrap_or (slice_get tenant.sources c) None) (slice_get tenants t)

abbrev pub pipelines_among : List TenantTexts → ℕ → List PipelineTexts
pipelines_among tenants t = unwrap_or (option_map (λ (tenant : TenantTexts). tenant.pipelines) (slice_get tenants t)) []

-- the rules of a pipeline for a connection
abbrev pub rules_among : List TenantTexts → ℕ → ℕ → ℕ → List RuleTexts
rules_among tenants t p c = unwrap_or (option_and_then (λ (pipeline : PipelineTexts). slice_get pipeline.rules c) (slice_get (pipelines_among tenants t) p)) []

-- the jobs of a project in a pipeline
abbrev pub jobs_among : List TenantTexts → ℕ → ℕ → List ℕ → List (List ℕ)
jobs_among tenants t p project =
    unwrap_or (option_map (λ (jobs : List ℕ → List (List ℕ)). jobs project) (option_and_then (λ (tenant : TenantTexts). slice_get tenant.jobs p) (slice_get tenants t))) []
