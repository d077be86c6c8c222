use Rattle.std.proofs.Common.{◌∙◌, sym, ap}
use Rattle.gate_config.proofs.Keyed.{keyed_after}
use Rattle.gate_rule.specs.Pattern.{text_of}
use Rattle.gate_config.proofs.pattern_table.PatternTable.keep.Goals as goal

pub invariant_of-self-2 : goal.invariant_of-self-2
invariant_of-self-2 c = record {
  keyed = keyed_after c.insert.result c.args.self.now.patterns.entries c.insert.new.self.entries c.in_ok-text.text c.in_ok-share.field-0 c.args.self.now.keyed
      (ap text_of c.in_ok-share.ensures ∙ c.requires ∙ sym c.in_ok-text.ensures.ok) c.insert.ensures.entries c.insert.ensures.err;
}
