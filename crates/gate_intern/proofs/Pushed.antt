-- A column of some events becomes that of these and one more.
use Rattle.std.proofs.Common.{◌≡◌, ◌∙◌, ℕ, ◌+◌, List, [], ◌∷◌, ◌++◌, true, Some, None, Bor, map, refl, sym, ap}
use Rattle.std.specs.List.{position_or_len}
use Rattle.std.specs.Str.{bytes_eq}
use Rattle.std.proofs.lemmas.Slice.Eq.{bytes_eq-Decides}
use Rattle.indexmap.specs.IndexSet.{insert_key}
use Rattle.gate_record.specs.declared.event.Event.{Event}
use Rattle.gate_intern.specs.Columns.{column_at, column_of, field_of, texts_of}
use Rattle.gate_intern.specs.declared.field.Field.{Field}
use Rattle.gate_intern.proofs.Numbered.{keys_none, keys_some, numbers_none, numbers_some}
use Rattle.gate_intern.proofs.Seen.{insert_seen, place_seen}

pub alike : (text : List ℕ) → bytes_eq text text ≡ true
alike text = (bytes_eq-Decides text text).1 refl

abbrev seen : List (Bor (List ℕ)) → List (List ℕ)
seen keys = map (λ text. text.now) keys

-- two parts that are known make the pair
both : {A B : Type 0} (a b : A) (x y : B) → a ≡ b → x ≡ y → ◌≡◌ {A = A × B} (a, x) (b, y)
both {A} {B} a b x y e f =
    let left : A → A × B = λ z. (z, x) in
    let right : B → A × B = λ z. (b, z) in
    ap left e ∙ ap right f

module _ (field : Field) (events : List Event) (event : Event) (keys : List (Bor (List ℕ))) (numbers : List ℕ) (is : (seen keys, numbers) ≡ column_at field events) where
  texts_are : seen keys ≡ texts_of field events
  texts_are = ap (λ column. column.0) is

  numbers_are : numbers ≡ column_of field events
  numbers_are = ap (λ column. column.1) is

  pub pushed_none : (now : List ℕ) → field_of field event ≡ None → now ≡ numbers ++ 0 ∷ [] → (seen keys, now) ≡ column_at field (events ++ event ∷ [])
  pushed_none now missing added =
      both _ _ _ _
      (texts_are ∙ sym (keys_none bytes_eq alike (field_of field) events event missing))
      (added ∙ ap (λ front. front ++ 0 ∷ []) numbers_are ∙ sym (numbers_none bytes_eq alike (field_of field) events event missing))

  pub pushed_some : (text : Bor (List ℕ)) (after : List (Bor (List ℕ))) (n : ℕ) (now : List ℕ) → field_of field event ≡ Some text.now
      → after ≡ insert_key (λ x y. bytes_eq x.now y.now) keys text → n ≡ position_or_len (λ y. bytes_eq text.now y.now) keys + 1 → now ≡ numbers ++ n ∷ []
      → (seen after, now) ≡ column_at field (events ++ event ∷ [])
  pushed_some text after n now there put counted added =
      both _ _ _ _
      (ap seen put ∙ insert_seen (λ t. t.now) bytes_eq keys text
      ∙ ap (λ texts. insert_key bytes_eq texts text.now) texts_are
      ∙ sym (keys_some bytes_eq alike (field_of field) events event text.now there))
      (added ∙ ap (λ front. front ++ n ∷ []) numbers_are
      ∙ ap (λ m. column_of field events ++ m ∷ []) (counted ∙ ap (λ m. m + 1) (place_seen (λ t. t.now) (bytes_eq text.now) keys ∙ ap (position_or_len (bytes_eq text.now)) texts_are))
      ∙ sym (numbers_some bytes_eq alike (field_of field) events event text.now there))
