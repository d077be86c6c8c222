use Rattle.std.proofs.Common.{◌≡◌, ◌∙◌, ◌++◌, ap, length, take}
use Rattle.std.specs.Str.Lines.{strip_carriage_return}
use Rattle.gate_record.specs.Lines.{record_of_line}
use Rattle.gate_source.proofs.Kept.{stripped_front}
use Rattle.gate_source.proofs.split.joined.Goals as goal

pub returns : goal.returns
returns c =
    let whole : c.in_ok-line.line.items ≡ c.args.kept.now ++ c.args.end.now = c.in_ok-line.ensures in
    c.record_of.ensures
    ∙ ap record_of_line (
    c.truncate.ensures.items
    ∙ ap (λ line. take (length line) c.in_ok-line.line.items) (c.without_return-length.ensures ∙ ap strip_carriage_return c.as_slice.ensures.value)
    ∙ stripped_front c.in_ok-line.line.items
    ∙ ap strip_carriage_return whole
    )
