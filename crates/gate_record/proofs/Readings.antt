-- A value that is read, by whether it is an object.
use Rattle.std.proofs.Common.{◌≡◌, ◌∙◌, List, [], ◌∷◌, true, false, Option, Some, None, codes, is_some, refl, sym, ap}
use Rattle.std.specs.Prelude.{IsSome, MatchOption}
use Rattle.json.specs.Token.{Token}
use Rattle.json.specs.Json as json
use Rattle.json.specs.Find as find
use Rattle.json.specs.Find.{BeginsWith, InMembers}
use Rattle.json.proofs.Found.{Some_inj}
use Rattle.serde_json.specs.Data.{Data, null, boolean, number, string, array, object, no_members}
use Rattle.serde_json.specs.Find.{as_object}
use Rattle.serde_json.specs.Read.{number_of, of_json, of_items, of_members}
use Rattle.gate_record.specs.Json.{text_at}
use Rattle.gate_record.specs.Reading.{reading_of_object, reading_of_value}
use Rattle.gate_record.specs.Inner.Tapes.{Begins}
use Rattle.gate_record.specs.declared.reading.Reading.TheVariants as reading
use Rattle.gate_record.specs.declared.reading.Why.TheVariants as why
use Rattle.gate_record.proofs.Found.{mapped}

pub some_is : {A : Type 0} (o : Option A) → IsSome o → (a : A) × (o ≡ Some a)
some_is None h = absurd (cc)
some_is (Some a) h = (a, refl)

pub no_object : (value : Data) → false ≡ is_some (as_object value) → reading.Nothing why.NotObject ≡ reading_of_value value
no_object null e = refl
no_object (boolean b) e = refl
no_object (number n) e = refl
no_object (string s) e = refl
no_object (array items) e = refl
no_object (object ms) e = absurd (cc)

pub of_object : (value : Data) → true ≡ is_some (as_object value) → reading_of_object value (text_at (codes "type" ∷ []) value) ≡ reading_of_value value
of_object null e = absurd (cc)
of_object (boolean b) e = absurd (cc)
of_object (number n) e = absurd (cc)
of_object (string s) e = absurd (cc)
of_object (array items) e = absurd (cc)
of_object (object ms) e = refl

other : (j : json.Json) (value : Data) → of_json j ≡ Some value → find.as_object j ≡ None → false ≡ is_some (as_object value)
other json.null value e none = ap (λ d. is_some (as_object d)) (Some_inj _ _ e)
other (json.boolean b) value e none = ap (λ d. is_some (as_object d)) (Some_inj _ _ e)
other (json.number s) value e none = let n = mapped number (number_of s) value e in ap (λ d. is_some (as_object d)) n.2
other (json.string s) value e none = ap (λ d. is_some (as_object d)) (Some_inj _ _ e)
other (json.array js) value e none = let items = mapped array (of_items js) value e in ap (λ d. is_some (as_object d)) items.2
other (json.object ms) value e none = absurd (cc)

abbrev IsObject : json.Json → Option (List Token) → Type 0
IsObject j place = MatchOption place (find.as_object j ≡ None) (λ rest. (ms : json.Members) × (j ≡ json.object ms) × InMembers rest ms)

-- whether an object begins at a place
pub object_at_place : (tokens : List Token) (value : Data) (place : Option (List Token)) → ((j : json.Json) → BeginsWith tokens j → IsObject j place) → Begins tokens value → is_some place ≡ is_some (as_object value)
object_at_place tokens value place h (j, begins, e) = by place (h j begins)
  where
    by : (p : Option (List Token)) → IsObject j p → is_some p ≡ is_some (as_object value)
    by None none = other j value e none
    by (Some rest) (ms, is, inside) =
        let members = mapped object (of_members ms no_members) value (ap of_json (sym is) ∙ e) in
        ap (λ d. is_some (as_object d)) members.2
