-- A rule while its attributes are read one by one.
use Rattle.std.specs.Prelude.{ℕ, List, [], true, Option, codes, if◌then◌else◌}
use Rattle.std.specs.Str.{bytes_eq}
use Rattle.serde_json.specs.Data.{Data}
use Rattle.gate_config.specs.Document.{RuleTexts, flag, pattern_texts, votes}

-- the rule before any attribute was read
abbrev pub unlisted : RuleTexts
unlisted = record { event = []; branch = []; refname = []; username = []; email = []; comment = []; approval = []; ignore_deletes = true }

-- the rule after the attribute at this key was read
abbrev pub with_attribute : List ℕ → Option Data → RuleTexts → RuleTexts
with_attribute key value texts = record {
  event = if bytes_eq key (codes "event") then pattern_texts value else texts.event;
  branch = if bytes_eq key (codes "branch") then pattern_texts value else texts.branch;
  refname = if bytes_eq key (codes "ref") then pattern_texts value else texts.refname;
  username = if bytes_eq key (codes "username") then pattern_texts value else texts.username;
  email = if bytes_eq key (codes "email") then pattern_texts value else texts.email;
  comment = if bytes_eq key (codes "comment") then pattern_texts value else texts.comment;
  approval = if bytes_eq key (codes "approval") then votes value else texts.approval;
  ignore_deletes = if bytes_eq key (codes "ignore-deletes") then flag value else texts.ignore_deletes;
}
