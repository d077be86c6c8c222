-- The members of the lines' JSON objects, each followed by a comma, and the values in them.
use Rattle.std.specs.Prelude.{ℕ, ℤ, List, [], ◌∷◌, ◌++◌, Bool, Option, Some, None, codes, decimal, flat_map, option_map, slice_get, unwrap_or}
use Rattle.std.specs.Fmt.{signed_decimal}
use Rattle.gate_record.specs.Names.{name_text}
use Rattle.gate_record.specs.declared.ids.Stamp.{Stamp}
use Rattle.gate_config.specs.declared.config.Config.{Config}
use Rattle.gate_config.specs.declared.config.PipelineSpec.{PipelineSpec}
use Rattle.gate_config.specs.declared.config.TenantSpec.{TenantSpec}
use Rattle.gate_config.specs.Lookups.{connections_of, pipelines_of, tenants_of}
use Rattle.gate_items.specs.declared.key.Key.{Key}
use Rattle.gate_items.specs.declared.key.Key.TheVariants as key

-- a name, or a number if there is no name
abbrev pub name_or : ℕ → Option (List ℕ) → List ℕ
name_or number (Some name) = name_text name
name_or number None = decimal number

-- a connection's name, or its number if the configuration has no such connection
abbrev pub connection_text : Config → ℕ → List ℕ
connection_text config c = name_or c (slice_get (connections_of config) c)

abbrev pub change_member : Config → Key → List ℕ
change_member config (key.Change conn number) = codes "\"change\":{\"connection\":" ++ (connection_text config conn.0 ++ (codes ",\"number\":" ++ (signed_decimal number ++ codes "},")))
change_member config (key.Ref conn project refname newrev) = []

abbrev pub ref_member : Config → Key → List ℕ
ref_member config (key.Change conn number) = []
ref_member config (key.Ref conn project refname newrev) =
    codes "\"ref\":{\"connection\":"
    ++ (connection_text config conn.0
    ++ (codes ",\"name\":" ++ (name_text refname ++ (codes ",\"newrev\":" ++ (name_text newrev ++ (codes ",\"project\":" ++ (name_text project ++ codes "},")))))))

abbrev pub record_member : Config → Option Stamp → List ℕ
record_member config (Some stamp) = codes "\"record\":{\"connection\":" ++ (connection_text config stamp.conn.0 ++ (codes ",\"number\":" ++ (decimal stamp.number ++ codes "},")))
record_member config None = []

-- a comma and a job's name
abbrev pub next_name : List ℕ × Option Bool → List ℕ
next_name job = codes "," ++ name_text job.0

abbrev pub more_names : List (List ℕ × Option Bool) → List ℕ
more_names jobs = flat_map next_name jobs

-- the names of jobs, with commas between them
abbrev pub names_text : List (List ℕ × Option Bool) → List ℕ
names_text [] = []
names_text (job ∷ jobs) = name_text job.0 ++ more_names jobs

abbrev pub jobs_member : List (List ℕ × Option Bool) → List ℕ
jobs_member jobs = codes "\"jobs\":[" ++ (names_text jobs ++ codes "],")

abbrev pub number_member : ℕ → List ℕ
number_member p = codes "\"p\":" ++ (decimal p ++ codes ",")

abbrev pub patchset_member : ℤ → List ℕ
patchset_member patchset = codes "\"patchset\":" ++ (signed_decimal patchset ++ codes ",")

-- the name of pipeline p of tenant t; nothing if there is no such pipeline
abbrev pub pipeline_name : Config → ℕ → ℕ → List ℕ
pipeline_name config t p = unwrap_or (option_map (λ (pipeline : PipelineSpec). name_text pipeline.name) (slice_get (pipelines_of config t) p)) []

abbrev pub tenant_name : Config → ℕ → List ℕ
tenant_name config t = unwrap_or (option_map (λ (tenant : TenantSpec). name_text tenant.name) (slice_get (tenants_of config) t)) []

abbrev pub pipeline_member : Config → ℕ → ℕ → List ℕ
pipeline_member config t p = codes "\"pipeline\":" ++ (pipeline_name config t p ++ codes ",")

-- the last members of most lines, without a comma after them
abbrev pub tenant_members : Config → ℕ → List ℕ
tenant_members config t = codes "\"t\":" ++ (decimal t ++ (codes ",\"tenant\":" ++ tenant_name config t))

-- ---- members that stand together

abbrev pub pipeline_members : Config → ℕ → ℕ → List ℕ
pipeline_members config t p = number_member p ++ pipeline_member config t p

abbrev pub patched_members : Config → ℕ → ℕ → ℤ → List ℕ
patched_members config t p patchset = number_member p ++ (patchset_member patchset ++ pipeline_member config t p)
