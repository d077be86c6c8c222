-- What a tape finds is what serde_json's value has.
use Rattle.std.proofs.Common.{◌≡◌, ◌∙◌, ℕ, List, [], ◌∷◌, Bool, true, false, cond, Option, Some, None, option_map, option_and_then, refl, sym, ap, subst}
use Rattle.std.specs.Prelude.{MatchOption}
use Rattle.std.specs.Str.{bytes_eq}
use Rattle.std.proofs.lemmas.Slice.Eq.{bytes_eq-Decides}
use Rattle.json.specs.Token.{Token}
use Rattle.json.specs.Json as json
use Rattle.json.specs.Find as find
use Rattle.json.specs.Find.{BeginsWith, InItems, later_or}
use Rattle.json.proofs.Found.{Some_inj}
use Rattle.serde_json.specs.Data.{Data, null, boolean, number, string, array, object, Items, item, Members, no_members, put}
use Rattle.serde_json.specs.Find.{get, get_member, as_i64, as_str, as_number}
use Rattle.serde_json.specs.Read.{number_of, of_json, of_items, of_members}
use Rattle.serde_json.proofs.Views.{get_member-put, get_member-put_other}
use Rattle.gate_record.specs.Json.{at_path, items_in}
use Rattle.gate_record.specs.Numbers.{number_in, number_of as gate_number}
use Rattle.gate_record.specs.Inner.Tapes.{AreOf, Begins, Finds, Follows, GoesOn, Lists, items_of}

-- ---- what comes of an option

pub mapped : {A B : Type 0} (f : A → B) (o : Option A) (b : B) → option_map f o ≡ Some b → (a : A) × (o ≡ Some a) × (f a ≡ b)
mapped f None b e = absurd (cc)
mapped f (Some a) b e = (a, refl, Some_inj _ _ e)

pub chained : {A B : Type 0} (f : A → Option B) (o : Option A) (b : B) → option_and_then f o ≡ Some b → (a : A) × (o ≡ Some a) × (f a ≡ Some b)
chained f None b e = absurd (cc)
chained f (Some a) b e = (a, refl, e)

-- ---- members

-- what the object of these members has at a name, where `found` were put before them
abbrev IsAt : List ℕ → Members → Members → Option json.Json → Type 0
IsAt name found whole place = MatchOption place (get_member name whole ≡ get_member name found) (λ j. (value : Data) × (of_json j ≡ Some value) × (get_member name whole ≡ Some value))

differ : (name key : List ℕ) → bytes_eq key name ≡ false → name ≡ key → ⊥
differ name key e same = let back = (bytes_eq-Decides key name).1 (sym same) in cc

one_before : (name key : List ℕ) (j : json.Json) (value : Data) (found whole : Members) → of_json j ≡ Some value → (place : Option json.Json) (same : Bool) → bytes_eq key name ≡ same
    → IsAt name (put key value found) whole place → IsAt name found whole (later_or place (cond same (Some j) None))
one_before name key j value found whole e (Some later) same is at = at
one_before name key j value found whole e None true is at =
    (value, e, at ∙ ap (λ k. get_member name (put k value found)) ((bytes_eq-Decides key name).0 is) ∙ get_member-put name value found)
one_before name key j value found whole e None false is at = at ∙ get_member-put_other name key value found (differ name key is)

found_among : (name : List ℕ) (ms : json.Members) (found whole : Members) → of_members ms found ≡ Some whole → IsAt name found whole (find.get_member name ms)
found_among name json.no_members found whole e = ap (get_member name) (sym (Some_inj _ _ e))
found_among name (json.member key j ms) found whole e =
    let first = chained (λ value. of_members ms (put key value found)) (of_json j) whole e in
    one_before name key j first.0 found whole first.1 (find.get_member name ms) (bytes_eq key name) refl (found_among name ms (put key first.0 found) whole first.2)

at_place : (name : List ℕ) (whole : Members) (place : Option json.Json) → IsAt name no_members whole place
    → MatchOption place (get name (object whole) ≡ None) (λ j. (value : Data) × (of_json j ≡ Some value) × (get name (object whole) ≡ Some value))
at_place name whole None at = at
at_place name whole (Some j) at = at

-- a value at a name
pub found_at : (name : List ℕ) (j : json.Json) (value : Data) → of_json j ≡ Some value
    → MatchOption (find.get name j) (get name value ≡ None) (λ inner. (found : Data) × (of_json inner ≡ Some found) × (get name value ≡ Some found))
found_at name json.null value e = ap (get name) (sym (Some_inj _ _ e))
found_at name (json.boolean b) value e = ap (get name) (sym (Some_inj _ _ e))
found_at name (json.number s) value e = let n = mapped number (number_of s) value e in ap (get name) (sym n.2)
found_at name (json.string s) value e = ap (get name) (sym (Some_inj _ _ e))
found_at name (json.array js) value e = let items = mapped array (of_items js) value e in ap (get name) (sym items.2)
found_at name (json.object ms) value e =
    let members = mapped object (of_members ms no_members) value e in
    subst (λ d. MatchOption (find.get_member name ms) (get name d ≡ None) (λ inner. (found : Data) × (of_json inner ≡ Some found) × (get name d ≡ Some found))) members.2
    (at_place name members.0 (find.get_member name ms) (found_among name ms no_members members.0 members.1))

-- what a tape finds at a name
pub finds : (name : List ℕ) (tokens : List Token) (value : Data) (place : Option (List Token)) → ((j : json.Json) → BeginsWith tokens j → find.Finds place (find.get name j)) → Begins tokens value
    → Finds place (get name value)
finds name tokens value place h (j, begins, e) = by place (h j begins)
  where
    none : (o : Option json.Json) → o ≡ None → MatchOption o (get name value ≡ None) (λ inner. (found : Data) × (of_json inner ≡ Some found) × (get name value ≡ Some found)) → get name value ≡ None
    none None is at = at
    none (Some inner) is at = absurd (cc)

    some : (o : Option json.Json) (inner : json.Json) (ts : List Token) → o ≡ Some inner → BeginsWith ts inner
        → MatchOption o (get name value ≡ None) (λ i. (found : Data) × (of_json i ≡ Some found) × (get name value ≡ Some found)) → (found : Data) × (get name value ≡ Some found) × Begins ts found
    some None inner ts is begins at = absurd (cc)
    some (Some i) inner ts is begins at = (at.0, at.2, (inner, begins, ap (λ o. option_and_then of_json o) (sym is) ∙ at.1))

    by : (p : Option (List Token)) → find.Finds p (find.get name j) → Finds p (get name value)
    by None is = none (find.get name j) is (found_at name j value e)
    by (Some ts) is = some (find.get name j) is.0 ts is.1 is.2 (found_at name j value e)

-- ---- a path of keys

-- what stands at one key
pub one_key : {A : Type 0} (f : Data → Option A) (found : Option Data) → option_and_then f (option_and_then (λ value. Some value) found) ≡ option_and_then f found
one_key f None = refl
one_key f (Some value) = refl

-- what stands at two
pub two_keys : {A : Type 0} (f : Data → Option A) (key : List ℕ) (outer : Option Data) → option_and_then (λ value. option_and_then f (at_path (key ∷ []) value)) outer ≡ option_and_then f (option_and_then (at_path (key ∷ [])) outer)
two_keys f key None = refl
two_keys f key (Some value) = refl

-- what was looked up at the second
pub at_two_keys : {A : Type 0} (f : Data → Option A) (key : List ℕ) (outer : Option Data) → option_and_then f (option_and_then (get key) outer) ≡ option_and_then f (option_and_then (at_path (key ∷ [])) outer)
at_two_keys f key None = refl
at_two_keys f key (Some value) = sym (one_key f (get key value))

-- what is read of a value that may be there
pub read_of : {A : Type 0} (f : Data → Option A) (place : Option (List Token)) (found : Option Data) (result : Option A)
    → (place ≡ None → result ≡ None) → ((tokens : List Token) (value : Data) → place ≡ Some tokens → Begins tokens value → result ≡ f value) → Finds place found → result ≡ option_and_then f found
read_of f None found result none some is = none refl ∙ ap (option_and_then f) (sym is)
read_of f (Some tokens) found result none some (value, is, begins) = some tokens value refl begins ∙ ap (option_and_then f) (sym is)

-- ---- texts, numbers and lists

text_is : (j : json.Json) (value : Data) → of_json j ≡ Some value → find.as_str j ≡ as_str value
text_is json.null value e = ap as_str (Some_inj _ _ e)
text_is (json.boolean b) value e = ap as_str (Some_inj _ _ e)
text_is (json.number s) value e = let n = mapped number (number_of s) value e in ap as_str n.2
text_is (json.string s) value e = ap as_str (Some_inj _ _ e)
text_is (json.array js) value e = let items = mapped array (of_items js) value e in ap as_str items.2
text_is (json.object ms) value e = let members = mapped object (of_members ms no_members) value e in ap as_str members.2

-- the text that begins at a place
pub text_at_place : (tokens : List Token) (value : Data) (text : Option (List ℕ)) → ((j : json.Json) → BeginsWith tokens j → text ≡ find.as_str j) → Begins tokens value → text ≡ as_str value
text_at_place tokens value text h (j, begins, e) = h j begins ∙ text_is j value e

number_is : (j : json.Json) (value : Data) → of_json j ≡ Some value → option_and_then number_of (find.as_number j) ≡ as_number value
number_is json.null value e = ap as_number (Some_inj _ _ e)
number_is (json.boolean b) value e = ap as_number (Some_inj _ _ e)
number_is (json.number s) value e = let n = mapped number (number_of s) value e in n.1 ∙ ap as_number n.2
number_is (json.string s) value e = ap as_number (Some_inj _ _ e)
number_is (json.array js) value e = let items = mapped array (of_items js) value e in ap as_number items.2
number_is (json.object ms) value e = let members = mapped object (of_members ms no_members) value e in ap as_number members.2

-- the number whose text begins at a place
pub number_at_place : (tokens : List Token) (value : Data) (text : Option (List ℕ)) → ((j : json.Json) → BeginsWith tokens j → text ≡ find.as_number j) → Begins tokens value
    → option_and_then number_of text ≡ as_number value
number_at_place tokens value text h (j, begins, e) = ap (option_and_then number_of) (h j begins) ∙ number_is j value e

-- a text that writes a number
pub text_number : (value : Data) (text : List ℕ) → Some text ≡ as_str value → number_in text ≡ gate_number value
text_number null text e = absurd (cc)
text_number (boolean b) text e = absurd (cc)
text_number (number n) text e = absurd (cc)
text_number (string s) text e = ap number_in (Some_inj _ _ e)
text_number (array items) text e = absurd (cc)
text_number (object ms) text e = absurd (cc)

-- anything else is a number where it is a JSON number
pub no_text_number : (value : Data) → None ≡ as_str value → option_and_then as_i64 (as_number value) ≡ gate_number value
no_text_number null e = refl
no_text_number (boolean b) e = refl
no_text_number (number n) e = refl
no_text_number (string s) e = absurd (cc)
no_text_number (array items) e = refl
no_text_number (object ms) e = refl

are_of : (js : json.Items) (items : Items) → of_items js ≡ Some items → AreOf js (items_in items)
are_of json.no_items items e = ap items_in (sym (Some_inj _ _ e))
are_of (json.item j js) items e =
    let first = chained (λ value. option_map (item value) (of_items js)) (of_json j) items e in
    let rest = mapped (item first.0) (of_items js) items first.2 in
    (first.0, items_in rest.0, first.1, ap items_in (sym rest.2), are_of js rest.0 rest.1)

no_list : (j : json.Json) (value : Data) → of_json j ≡ Some value → find.as_array j ≡ None → items_of value ≡ []
no_list json.null value e none = ap items_of (sym (Some_inj _ _ e))
no_list (json.boolean b) value e none = ap items_of (sym (Some_inj _ _ e))
no_list (json.number s) value e none = let n = mapped number (number_of s) value e in ap items_of (sym n.2)
no_list (json.string s) value e none = ap items_of (sym (Some_inj _ _ e))
no_list (json.array js) value e none = absurd (cc)
no_list (json.object ms) value e none = let members = mapped object (of_members ms no_members) value e in ap items_of (sym members.2)

abbrev IsList : json.Json → Option (List Token) → Type 0
IsList j place = MatchOption place (find.as_array j ≡ None) (λ rest. (js : json.Items) × (j ≡ json.array js) × InItems rest js)

-- the values of a list
pub lists : (tokens : List Token) (value : Data) (place : Option (List Token)) → ((j : json.Json) → BeginsWith tokens j → IsList j place) → Begins tokens value → Lists place (items_of value)
lists tokens value place h (j, begins, e) = by place (h j begins)
  where
    by : (p : Option (List Token)) → IsList j p → Lists p (items_of value)
    by None none = no_list j value e none
    by (Some rest) (js, is, inside) =
        let items = mapped array (of_items js) value (ap of_json (sym is) ∙ e) in
        (js, inside, subst (λ d. AreOf js (items_of d)) items.2 (are_of js items.0 items.1))

-- the next value of a list
pub follows : (old : List Token) (place : Option (List Token)) (new : List Token) → find.NextItem old place new → (values : List Data) → GoesOn old values → Follows place values new
follows old place new h values (js, inside, are) = by place (h js inside)
  where
    by : (p : Option (List Token)) → MatchOption p (js ≡ json.no_items) (λ ts. (j : json.Json) × (rest : json.Items) × (js ≡ json.item j rest) × BeginsWith ts j × InItems new rest) → Follows p values new
    by None is = subst (λ items. AreOf items values) is are
    by (Some ts) (j, rest, is, begins, more) =
        let parts = subst (λ items. AreOf items values) is are in
        (parts.0, parts.1, parts.3, (j, begins, parts.2), (rest, more, parts.4))
