use Rattle.std.proofs.Common.{◌≡◌, ◌∙◌, ℕ, List, [], ◌∷◌, Option, Some, None, ap, codes, option_and_then, refl, sym}
use Rattle.std.specs.Option.{option_or}
use Rattle.serde_json.specs.Data.{Data}
use Rattle.serde_json.specs.Find.{as_str, get}
use Rattle.gate_record.specs.Inner.Fields.{account_in}
use Rattle.gate_record.specs.Json.{text_at}
use Rattle.gate_record.specs.Numbers.{number_of}
use Rattle.gate_record.specs.Reading.{account_of, account_text}
use Rattle.gate_record.proofs.Found.{at_two_keys, one_key, two_keys}
use Rattle.gate_record.proofs.fields.fields_of.Goals as goal

of_account : (name : Option (List ℕ)) (key : List ℕ) (value : Data) → option_and_then (text_at (key ∷ [])) (account_in name value) ≡ account_text name key value
of_account None key value = refl
of_account (Some name) key value = two_keys as_str key (get name value)

pub returns : goal.returns
returns c value begins comment =
    let change = c.three_members-change.ensures.first value begins in
    let patch_set = c.three_members-change.ensures.second value begins in
    let ref_update = c.three_members-change.ensures.third value begins in
    let account = c.account_member-account.ensures value begins in
    let name = account_of c.args.kind.now in
    let in_change = get (codes "change") value in
    let in_ref = get (codes "refUpdate") value in
    record {
      project = c.first_text.ensures _ _ (c.three_members_in-in_change.ensures.first _ change) (c.three_members_in-in_ref.ensures.first _ ref_update)
          ∙ ap (λ o. option_or o (option_and_then as_str (option_and_then (get (codes "project")) in_ref))) (at_two_keys as_str (codes "project") in_change)
          ∙ ap (option_or (text_at (codes "change" ∷ codes "project" ∷ []) value)) (at_two_keys as_str (codes "project") in_ref);
      branch = c.text_of.ensures _ (c.three_members_in-in_change.ensures.second _ change) ∙ at_two_keys as_str (codes "branch") in_change;
      change = c.number_of.ensures _ (c.three_members_in-in_change.ensures.third _ change) ∙ at_two_keys number_of (codes "number") in_change;
      patchset = c.number_in.ensures _ patch_set ∙ two_keys number_of (codes "number") (get (codes "patchSet") value);
      refname = c.text_of-2.ensures _ (c.three_members_in-in_ref.ensures.second _ ref_update) ∙ at_two_keys as_str (codes "refName") in_ref;
      newrev = c.text_of-3.ensures _ (c.three_members_in-in_ref.ensures.third _ ref_update) ∙ at_two_keys as_str (codes "newRev") in_ref;
      comment = c.text_of-4.ensures _ comment ∙ sym (one_key as_str (get (codes "comment") value));
      username = c.text_in.ensures _ account ∙ of_account name (codes "username") value;
      email = c.text_in-2.ensures _ account ∙ of_account name (codes "email") value;
    }
