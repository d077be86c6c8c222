use Rattle.std.proofs.Common.{◌∙◌, ap, map, string_bytes}
use Rattle.gate_config.proofs.NameSets.{inserted}
use Rattle.gate_config.specs.Names.{with_name}
use Rattle.gate_config.proofs.name_set.NameSet.insert.Goals as goal

pub returns : goal.returns
returns c =
    ap (map string_bytes) c.in_ok-_added.ensures.keys ∙ inserted c.self.inside.names.keys c.in_ok-from_str.field-0
    ∙ (λ i. with_name (c.in_ok-from_str.ensures.ok i) (c.self.view_is i))
