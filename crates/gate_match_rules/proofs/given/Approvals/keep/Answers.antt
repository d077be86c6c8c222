use Rattle.std.proofs.Common.{sym, subst, ℕ, List}
use Rattle.std.specs.List.{All}
use Rattle.std.specs.Map.{values_of}
use Rattle.std.specs.Ordering.{nat_cmp}
use Rattle.std.proofs.lemmas.Map.Views.{All-values-insert_entry}
use Rattle.gate_match_rules.specs.declared.given.Given.{Given}
use Rattle.gate_match_rules.specs.Knowing.{IsGiven}
use Rattle.gate_match_rules.proofs.given.Approvals.keep.Goals as goal

pub returns : goal.returns
returns c = λ events known right.
    let given : Given = record { number = c.args.number; rows = c.args.rows } in
    subst (λ (entries : List (ℕ × Given)). All (IsGiven events) (values_of entries)) (sym c.in_ok-insert.ensures.entries)
    (All-values-insert_entry nat_cmp c.args.number given (IsGiven events) c.args.self.now.known.entries known right)
