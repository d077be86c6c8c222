use Rattle.std.proofs.Common.{sym, subst}
use Rattle.std.specs.Result.{IsOk}
use Rattle.std.specs.Str.{IsUtf8}
use Rattle.std.proofs.lemmas.Bool.{false≢true}
use Rattle.gate_record.proofs.Categories.{category-IsUtf8}
use Rattle.gate_record.proofs.approvals.category.Goals as goal

pub unreachable-requires : goal.unreachable-requires
unreachable-requires c =
    false≢true (subst IsOk c.in-Err.is
    (c.from_utf8.ensures.succeeds (subst IsUtf8 (sym c.in_ok-category_bytes.ensures) (category-IsUtf8 c.args.text.now c.utf8.text))))
