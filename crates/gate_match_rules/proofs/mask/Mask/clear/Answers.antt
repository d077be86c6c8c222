use Rattle.std.proofs.Common.{◌≡◌, ◌∙◌, ◌&&◌, not, sym, ap, length}
use Rattle.std.proofs.lemmas.List.{length-map}
use Rattle.std.specs.Simd.Lanes.{zip2}
use Rattle.std.proofs.lemmas.Simd.{length-zip2}
use Rattle.gate_lanes.specs.Masks.{cleared_if}
use Rattle.gate_match_rules.specs.Marks.{is_marked, marks_of, without}
use Rattle.gate_match_rules.proofs.Masks.{are_marks, cleared, marks_are}
use Rattle.gate_match_rules.proofs.mask.Mask.clear.Goals as goal

pub invariant_of-self : goal.invariant_of-self
invariant_of-self c =
    let old = c.self.inside.words in
    let flags = c.args.flags.now in
    let same : length flags ≡ length old.items = c.requires ∙ ap length (sym c.self.view_is) ∙ length-map old.items is_marked in
    are_marks _ (without (marks_of old.items) (marks_of flags))
    (cleared old.len c.clear_where.new.out old.items flags _ c.self.invariant (sym old.ok.0) same (c.clear_where.ensures ∙ ap (λ words. zip2 cleared_if words flags) c.as_mut_slice.ensures.value))

pub returns : goal.returns
returns c =
    let old = c.self.inside.words in
    let flags = c.args.flags.now in
    let same : length flags ≡ length old.items = c.requires ∙ ap length (sym c.self.view_is) ∙ length-map old.items is_marked in
    let value = marks_are _ (without (marks_of old.items) (marks_of flags))
    (cleared old.len c.clear_where.new.out old.items flags _ c.self.invariant (sym old.ok.0) same (c.clear_where.ensures ∙ ap (λ words. zip2 cleared_if words flags) c.as_mut_slice.ensures.value))
    ∙ ap (λ xs. without xs (marks_of flags)) c.self.view_is in
    record { value = value; len = ap length value ∙ length-zip2 (λ a b. a && not b) c.args.self.now (marks_of flags) (sym (length-map flags is_marked ∙ c.requires)) }
