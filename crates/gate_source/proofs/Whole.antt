-- Why the cutting of a stream doesn't matter.
use Rattle.std.proofs.Common.{◌≡◌, ◌∙◌, ◌++◌, ◌∷◌, ℕ, List, [], Option, sym, ap, subst, refl, append-nil}
use Rattle.std.specs.Option.{option_to_list}
use Rattle.std.specs.List.{concat}
use Rattle.std.proofs.lemmas.List.Folds.{concat-append}
use Rattle.gate_record.specs.declared.record.Record.{Record}
use Rattle.gate_record.specs.Lines.{ended_records}
use Rattle.gate_source.specs.Cuttings.{CuttingDoesNotMatter, EndedLinesAreGiven, IsSplit, begins, feeds}
use Rattle.gate_source.specs.Splitting.{IsFed}

joined_more : (pieces : List (List ℕ)) (piece : List ℕ) → concat (pieces ++ piece ∷ []) ≡ concat pieces ++ piece
joined_more pieces piece = concat-append pieces (piece ∷ []) ∙ ap (λ rest. concat pieces ++ rest) (append-nil piece)

is_fed : {pieces : List (List ℕ)} {records : List Record} {kept : Option (List ℕ)} → IsSplit pieces records kept → IsFed (concat pieces) kept
is_fed (begins fed) = fed
is_fed (feeds {pieces} piece more kept' before step) =
    subst (λ bytes. IsFed bytes kept') (sym (joined_more pieces piece)) (step (concat pieces) (is_fed before)).0

are_ended : {pieces : List (List ℕ)} {records : List Record} {kept : Option (List ℕ)} → IsSplit pieces records kept → records ≡ ended_records (concat pieces)
are_ended (begins fed) = refl
are_ended (feeds {pieces} piece more kept' before step) =
    ap (λ rs. rs ++ more) (are_ended before) ∙ (step (concat pieces) (is_fed before)).1 ∙ ap ended_records (sym (joined_more pieces piece))

pub ended_lines_are_given : EndedLinesAreGiven
ended_lines_are_given pieces records kept split = are_ended split

pub cutting_does_not_matter : CuttingDoesNotMatter
cutting_does_not_matter pieces records kept last split finish =
    ap (λ rs. rs ++ option_to_list last) (are_ended split) ∙ finish (concat pieces) (is_fed split)
