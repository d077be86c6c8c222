use Rattle.std.proofs.Common.{◌∙◌, refl, sym, ap, length}
use Rattle.std.proofs.lemmas.List.{length-map}
use Rattle.gate_intern.specs.Columns.{field_of}
use Rattle.gate_intern.specs.Marks.{passes}
use Rattle.gate_match_rules.specs.Finding.{entry_meets, reach_of}
use Rattle.gate_match_rules.proofs.answers.Answers.join.Goals as goal

pub join-requires-2 : goal.join-requires-2
join-requires-2 c =
    ap length (c.in_ok-rows.ensures c.args.question.now.asked.now.entry.now refl)
    ∙ length-map c.args.search.now.columns.now (λ event. passes (entry_meets (reach_of c.args.question.now.field) c.args.question.now.asked.now.entry.now) (field_of c.args.question.now.field event)) ∙ sym c.requires.1

pub join-requires : goal.join-requires
join-requires c =
    ap length (c.in-Some.ensures c.args.search.now.columns.now c.requires.0)
    ∙ length-map c.args.search.now.columns.now (λ event. passes (entry_meets (reach_of c.args.question.now.field) c.args.question.now.asked.now.entry.now) (field_of c.args.question.now.field event)) ∙ sym c.requires.1

pub returns-clause-fits : goal.returns-clause-fits
returns-clause-fits c = (c.keep.ensures c.args.search.now.columns.now c.requires.0 c.in_ok-rows.ensures, c.join-2.ensures.len ∙ c.requires.1)
