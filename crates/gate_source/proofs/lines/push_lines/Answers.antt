use Rattle.std.proofs.Common.{◌≡◌, ◌∙◌, ◌++◌, ◌∷◌, sym, ap, append-nil}
use Rattle.gate_record.specs.Lines.{ended_records, unfinished_line}
use Rattle.gate_source.proofs.Cuts.{all_unfinished, last_unfinished, none_recorded, pushed_line}
use Rattle.gate_source.proofs.lines.push_lines.Goals as goal

pub loop-line-preserved : goal.loop-line-preserved
loop-line-preserved c =
    let rest : c.loop-line.rest.now ≡ c.in-Some.line.now ++ 10 ∷ c.in-Some.more.now = c.in-Some.ensures.some in
    let kept : unfinished_line c.in-Some.more.now ≡ unfinished_line c.loop-line.rest.now =
    sym (ap unfinished_line rest ∙ last_unfinished c.in-Some.line.now c.in-Some.more.now c.in-Some.ensures.line) in
    record {
      pushed =
          pushed_line c.loop-line.records.items c.push_record.new.records.items c.in-Some.line.now c.in-Some.more.now c.in_ok-copied.field-0
          c.in-Some.ensures.line c.in_ok-copied.ensures c.in_ok-push_record.ensures
          ∙ ap (λ bytes. c.loop-line.records.items ++ ended_records bytes) (sym rest)
          ∙ c.loop-line.invariant.pushed;
      rest = kept ∙ c.loop-line.invariant.rest;
    }

pub returns-clause-records : goal.returns-clause-records
returns-clause-records c =
    sym (append-nil c.loop-line.records.items)
    ∙ ap (λ rs. c.loop-line.records.items ++ rs) (sym (none_recorded c.loop-line.rest.now c.in_default.ensures.none))
    ∙ c.loop-line.invariant.pushed

pub returns-clause-rest : goal.returns-clause-rest
returns-clause-rest c = sym (all_unfinished c.loop-line.rest.now c.in_default.ensures.none) ∙ c.loop-line.invariant.rest
