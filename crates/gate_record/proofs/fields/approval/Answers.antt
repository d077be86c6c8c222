use Rattle.std.proofs.Common.{◌≡◌, ◌∙◌, [], ◌∷◌, ap, codes, option_and_then, subst, sym}
use Rattle.std.specs.Prelude.{IfOk, option_map}
use Rattle.std.specs.Option.{option_or}
use Rattle.serde_json.specs.Find.{as_str, get}
use Rattle.gate_record.specs.Inner.Fields.{labelled}
use Rattle.gate_record.specs.Json.{number_at, text_at}
use Rattle.gate_record.specs.Numbers.{number_of}
use Rattle.gate_record.proofs.Found.{one_key}
use Rattle.gate_record.proofs.fields.approval.Goals as goal

pub returns : goal.returns
returns c value begins =
    let seen = c.three_members-description.ensures in
    let label : option_map (λ t. t.now) c.first_text.result ≡ option_or (text_at (codes "description" ∷ []) value) (text_at (codes "type" ∷ []) value) =
    c.first_text.ensures _ _ (seen.first value begins) (seen.second value begins)
    ∙ ap (λ o. option_or o (option_and_then as_str (get (codes "type") value))) (sym (one_key as_str (get (codes "description") value)))
    ∙ ap (option_or (text_at (codes "description" ∷ []) value)) (sym (one_key as_str (get (codes "type") value))) in
    let vote : c.number_of.result ≡ number_at (codes "value" ∷ []) value = c.number_of.ensures _ (seen.third value begins) ∙ sym (one_key number_of (get (codes "value") value)) in
    subst (λ l. IfOk c.labelled.result (λ a. a ≡ labelled l (number_at (codes "value" ∷ []) value))) label
    (subst (λ v. IfOk c.labelled.result (λ a. a ≡ labelled (option_map (λ t. t.now) c.first_text.result) v)) vote c.labelled.ensures)
