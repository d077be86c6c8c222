use Rattle.std.proofs.Common.{◌≡◌, ◌∙◌, ◌++◌, sym, ap, subst, ℕ, List, Option, Vec, Global}
use Rattle.std.specs.Prelude.{option_map}
use Rattle.std.specs.Option.{option_to_list}
use Rattle.gate_record.specs.declared.record.Record.{Record}
use Rattle.gate_record.specs.Lines.{ended_records}
use Rattle.gate_source.specs.Splitting.{Feeds, kept_of}
use Rattle.gate_source.specs.Inner.Splitting.{record_with}
use Rattle.gate_source.proofs.Kept.{feeds_lines, feeds_more}
use Rattle.gate_source.proofs.split.LineSplit.feed.Goals as goal

pub returns-in_default-clause-ok : goal.returns-in_default-clause-ok
returns-in_default-clause-ok c =
    subst (λ (records : List Record). Feeds c.args.self.now c.args.piece.now records c.keep.new.self) (sym c.empty.ensures)
    (feeds_more c.args.self.now c.args.piece.now c.keep.new.self c.in_default.ensures.none c.in_ok-keep.ensures.ok)

pub returns-clause-ok : goal.returns-clause-ok
returns-clause-ok c =
    let kept : Option (List ℕ) = option_map (λ (line : Vec ℕ Global). line.items) c.in_ok-self-inside.field-0 in
    let records : c.new.result ≡ option_to_list (record_with c.args.self.now c.in-Some.end.now) ++ ended_records c.in-Some.more.now =
    c.new.ensures
    ∙ c.in_ok-rest.ensures.records
    ∙ ap (λ rs. rs ++ ended_records c.in-Some.more.now) (
    c.in_ok-push_record.ensures
    ∙ ap (λ rs. rs ++ option_to_list c.in_ok-ended.field-0) c.new-records.ensures.items
    ∙ ap option_to_list c.in_ok-ended.ensures
    ) in
    subst (λ piece. Feeds c.args.self.now piece c.new.result kept) (sym c.in-Some.ensures.some)
    (feeds_lines c.args.self.now c.in-Some.end.now c.in-Some.more.now c.new.result kept c.in-Some.ensures.line records
    (c.in_ok-self-inside.ensures ∙ ap kept_of c.in_ok-rest.ensures.rest))
