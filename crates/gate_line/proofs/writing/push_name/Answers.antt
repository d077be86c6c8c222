use Rattle.std.proofs.Common.{◌≡◌, ◌∙◌, sym, ◌++◌, ◌∷◌, []}
use Rattle.gate_record.specs.Names.{name_text}
use Rattle.gate_line.proofs.Quoting.{plain_name}
use Rattle.gate_line.proofs.writing.push_name.Goals as goal

pub returns-then-is_plain : goal.returns-then-is_plain
returns-then-is_plain c = let plain : name_text c.args.name.now ≡ 34 ∷ (c.args.name.now ++ 34 ∷ []) = plain_name c.args.name.now (sym c.is_plain.ensures ∙ c.if-is_plain.true) in rw plain c.push_quoted.ensures
