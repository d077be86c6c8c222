-- What a configuration says, as texts, which can be compared with those of a document.
use Rattle.std.specs.Prelude.{◌≡◌, Some, map, option_map}
use Rattle.serde_json.specs.Data.{Data}
use Rattle.gate_rule.specs.declared.entry.Entry.{Entry}
use Rattle.gate_rule.specs.declared.rule.Rule.{Rule}
use Rattle.gate_rule.specs.Pattern.{text_of}
use Rattle.gate_config.specs.declared.config.Config.{Config}
use Rattle.gate_config.specs.declared.config.TenantSpec.{TenantSpec}
use Rattle.gate_config.specs.declared.config.PipelineSpec.{PipelineSpec}
use Rattle.gate_config.specs.Lookups.{connections_of, has_project, jobs_under, tenants_of}
use Rattle.gate_config.specs.Document.{EntryTexts, RuleTexts, PipelineTexts, TenantTexts, connection_names, tenants_in}

abbrev pub texts_of_entry : Entry → EntryTexts
texts_of_entry entry = record { text = text_of entry.pattern; negate = entry.negate }

abbrev pub texts_of_rule : Rule → RuleTexts
texts_of_rule rule = record {
  event = map texts_of_entry rule.event;
  branch = map texts_of_entry rule.branch;
  refname = map texts_of_entry rule.refname;
  username = map texts_of_entry rule.username;
  email = map texts_of_entry rule.email;
  comment = map texts_of_entry rule.comment;
  approval = rule.approval;
  ignore_deletes = rule.ignore_deletes;
}

abbrev pub texts_of_pipeline : PipelineSpec → PipelineTexts
texts_of_pipeline pipeline = record { name = pipeline.name; manager = Some pipeline.manager; rules = map (map texts_of_rule) pipeline.rules }

abbrev pub texts_of_tenant : TenantSpec → TenantTexts
texts_of_tenant tenant = record { name = tenant.name; sources = map (option_map has_project) tenant.sources; pipelines = map texts_of_pipeline tenant.pipelines; jobs = map jobs_under tenant.jobs }

-- The configuration says what the document says: the names of its connections, and its tenants with all that they have.
pub record IsReadFrom (document : Data) (config : Config) : Type 0 where
  pub connections : connections_of config ≡ connection_names document
  pub tenants : map texts_of_tenant (tenants_of config) ≡ tenants_in document
