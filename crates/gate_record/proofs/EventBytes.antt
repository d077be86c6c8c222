-- The texts of an event that was read consist of bytes.
use Rattle.std.proofs.Common.{Ordering, Less, Equal, Greater, ◌≡◌, ◌<◌, ◌+◌, ℕ, ℤ, List, [], ◌∷◌, Bool, true, false, cond, ◌==◌, nat_lt, Option, Some, None, codes, option_and_then, option_map, refl, subst, arith}
use Rattle.std.specs.Prelude.{All, IfSome, unwrap_or}
use Rattle.std.specs.List.{cons_option, filter_map}
use Rattle.std.specs.Option.{option_or}
use Rattle.std.specs.Ordering.{match_ordering, nat_cmp}
use Rattle.std.specs.Cmp.Lexicographic.{slice_cmp}
use Rattle.std.specs.Char.{to_ascii_lowercase}
use Rattle.std.specs.Str.{is_utf8}
use Rattle.std.proofs.lemmas.Bool.{ltb-true}
use Rattle.std.proofs.lemmas.List.Elements.{All-take, All-cons}
use Rattle.std.proofs.lemmas.Str.{IsUtf8-from_is_utf8}
use Rattle.serde_json.specs.Data.{Data, null, boolean, number, string, array, object, Items, no_items, item, Members, no_members, member}
use Rattle.serde_json.specs.Find.{get, get_member, as_str, as_array}
use Rattle.serde_json.specs.Read.{read}
use Rattle.gate_record.specs.Approvals.{approval_of, approvals_of, category, category_byte, category_of}
use Rattle.gate_record.specs.Bytes.{AreBytes, HasBytes, EventsHaveBytes}
use Rattle.gate_record.specs.Characters.{hyphen, space}
use Rattle.gate_record.specs.Json.{at_path, items_in, json_of, number_at, text_at}
use Rattle.gate_record.specs.Limits.{most_approvals}
use Rattle.gate_record.specs.Reading.{account_of, account_text, event_of, reading_of, reading_of_json, reading_of_object, reading_of_value}
use Rattle.gate_record.specs.declared.record.Record.{Record}
use Rattle.gate_record.specs.declared.record.Record.TheVariants.{Line, Oversize}
use Rattle.gate_record.specs.declared.reading.Reading.{Reading}
use Rattle.gate_record.specs.declared.reading.Reading.TheVariants as reading
use Rattle.gate_record.proofs.Bytes as bytes
use Rattle.gate_record.proofs.JsonBytes.{OfBytes, AllOfBytes, MembersOfBytes, read_bytes}

-- ---- what stands in a value of bytes

found_by : (o : Ordering) (a b c : Option Data) → IfSome a OfBytes → IfSome b OfBytes → IfSome c OfBytes → IfSome (match_ordering o a b c) OfBytes
found_by Less a b c x y z = x
found_by Equal a b c x y z = y
found_by Greater a b c x y z = z

member_bytes : (key : List ℕ) (members : Members) → MembersOfBytes members → IfSome (get_member key members) OfBytes
member_bytes key no_members h = tt
member_bytes key (member l value members) h =
    found_by (slice_cmp nat_cmp key l) _ _ _ (member_bytes key members h.1) h.0 (member_bytes key members h.1)

get_bytes : (key : List ℕ) (value : Data) → OfBytes value → IfSome (get key value) OfBytes
get_bytes key null h = tt
get_bytes key (boolean b) h = tt
get_bytes key (number n) h = tt
get_bytes key (string s) h = tt
get_bytes key (array values) h = tt
get_bytes key (object members) h = member_bytes key members h

after : {A B : Type 0} (P : A → Type 0) (Q : B → Type 0) (f : A → Option B) → ((a : A) → P a → IfSome (f a) Q) → (o : Option A) → IfSome o P → IfSome (option_and_then f o) Q
after P Q f g None h = tt
after P Q f g (Some a) h = g a h

path_bytes : (path : List (List ℕ)) (value : Data) → OfBytes value → IfSome (at_path path value) OfBytes
path_bytes [] value h = h
path_bytes (key ∷ keys) value h = after OfBytes OfBytes (at_path keys) (λ inner k. path_bytes keys inner k) (get key value) (get_bytes key value h)

-- a text, and the items of a list
parts_bytes : (value : Data) → OfBytes value → IfSome (as_str value) AreBytes × IfSome (as_array value) AllOfBytes
parts_bytes null h = (tt, tt)
parts_bytes (boolean b) h = (tt, tt)
parts_bytes (number n) h = (tt, tt)
parts_bytes (string s) h = (h, tt)
parts_bytes (array values) h = (tt, h)
parts_bytes (object inside) h = (tt, tt)

text_bytes : (path : List (List ℕ)) (value : Data) → OfBytes value → IfSome (text_at path value) AreBytes
text_bytes path value h = after OfBytes AreBytes as_str (λ inner k. (parts_bytes inner k).0) (at_path path value) (path_bytes path value h)

either_bytes : (a b : Option (List ℕ)) → IfSome a AreBytes → IfSome b AreBytes → IfSome (option_or a b) AreBytes
either_bytes None b h k = k
either_bytes (Some a) b h k = h

account_bytes : (account : Option (List ℕ)) (key : List ℕ) (value : Data) → OfBytes value → IfSome (account_text account key value) AreBytes
account_bytes None key value h = tt
account_bytes (Some name) key value h = text_bytes (name ∷ key ∷ []) value h

-- ---- approvals

lower : (c : ℕ) → c < 256 → to_ascii_lowercase c < 256
lower c low = by (nat_lt c 65) (nat_lt c 91) (λ e. ltb-true c 91 e)
  where
    by : (a b : Bool) → (b ≡ true → c < 91) → cond a c (cond b (c + 32) c) < 256
    by true b f = low
    by false true f = let small = f refl in omega (arith, small)
    by false false f = low

category_low : (c : ℕ) → c < 256 → category_byte c < 256
category_low c low = by (c == space)
  where
    by : (b : Bool) → cond b hyphen (to_ascii_lowercase c) < 256
    by true = omega arith
    by false = lower c low

category_bytes : (text : List ℕ) → AreBytes text → AreBytes (category text)
category_bytes [] h = h
category_bytes (c ∷ text) h = bytes.one_more (category_byte c) (category text) (category_low c (h 0)) (category_bytes text (bytes.others c text h))

mapped_bytes : (o : Option (List ℕ)) → IfSome o AreBytes → IfSome (option_map category o) AreBytes
mapped_bytes None h = tt
mapped_bytes (Some text) h = category_bytes text h

abbrev NameOfBytes : List ℕ × ℤ → Type 0
NameOfBytes approval = AreBytes approval.0

vote_bytes : (name : List ℕ) (vote : Option ℤ) → AreBytes name → IfSome (option_map (λ v. (name, v)) vote) NameOfBytes
vote_bytes name None h = tt
vote_bytes name (Some v) h = h

approval_bytes : (entry : Data) → OfBytes entry → IfSome (approval_of entry) NameOfBytes
approval_bytes entry h =
    after AreBytes NameOfBytes _ (λ name k. vote_bytes name (number_at (codes "value" ∷ []) entry) k) (category_of entry)
    (mapped_bytes _ (either_bytes _ _ (text_bytes (codes "description" ∷ []) entry h) (text_bytes (codes "type" ∷ []) entry h)))

abbrev Each : List Data → Type 0
Each [] = Unit {0}
Each (value ∷ values) = OfBytes value × Each values

items_each : (values : Items) → AllOfBytes values → Each (items_in values)
items_each no_items h = tt
items_each (item value values) h = (h.0, items_each values h.1)

list_each : (o : Option Items) → IfSome o AllOfBytes → Each (unwrap_or (option_map items_in o) [])
list_each None h = tt
list_each (Some values) h = items_each values h

one_kept : (o : Option (List ℕ × ℤ)) (more : List (List ℕ × ℤ)) → IfSome o NameOfBytes → All NameOfBytes more → All NameOfBytes (cons_option o more)
one_kept None more one all = all
one_kept (Some approval) more one all = All-cons NameOfBytes approval more one all

kept : (values : List Data) → Each values → All NameOfBytes (filter_map approval_of values)
kept [] h = λ k d below. absurd (omega (arith, below))
kept (value ∷ values) h = one_kept (approval_of value) (filter_map approval_of values) (approval_bytes value h.0) (kept values h.1)

approvals_bytes : (value : Data) → OfBytes value → All NameOfBytes (approvals_of value)
approvals_bytes value h =
    All-take NameOfBytes most_approvals _ (kept _ (list_each _ (after OfBytes AllOfBytes as_array (λ inner k. (parts_bytes inner k).1) (at_path (codes "approvals" ∷ []) value) (path_bytes (codes "approvals" ∷ []) value h))))

-- ---- events

event_bytes : (value : Data) (kind : List ℕ) → OfBytes value → AreBytes kind → HasBytes (event_of value kind)
event_bytes value kind h k = record {
  kind = k;
  project = either_bytes
      (text_at (codes "change" ∷ codes "project" ∷ []) value)
      (text_at (codes "refUpdate" ∷ codes "project" ∷ []) value)
      (text_bytes (codes "change" ∷ codes "project" ∷ []) value h)
      (text_bytes (codes "refUpdate" ∷ codes "project" ∷ []) value h);
  branch = text_bytes (codes "change" ∷ codes "branch" ∷ []) value h;
  refname = text_bytes (codes "refUpdate" ∷ codes "refName" ∷ []) value h;
  newrev = text_bytes (codes "refUpdate" ∷ codes "newRev" ∷ []) value h;
  comment = text_bytes (codes "comment" ∷ []) value h;
  username = account_bytes (account_of kind) (codes "username") value h;
  email = account_bytes (account_of kind) (codes "email") value h;
  approvals = approvals_bytes value h;
}

abbrev ReadsBytes : Reading → Type 0
ReadsBytes (reading.Event event) = HasBytes event
ReadsBytes (reading.Nothing why) = Unit {0}

object_bytes : (value : Data) → OfBytes value → (kind : Option (List ℕ)) → IfSome kind AreBytes → ReadsBytes (reading_of_object value kind)
object_bytes value h None k = tt
object_bytes value h (Some kind) k = event_bytes value kind h k

value_bytes : (value : Data) → OfBytes value → ReadsBytes (reading_of_value value)
value_bytes null h = tt
value_bytes (boolean b) h = tt
value_bytes (number n) h = tt
value_bytes (string s) h = tt
value_bytes (array values) h = tt
value_bytes (object members) h = object_bytes (object members) h _ (text_bytes (codes "type" ∷ []) (object members) h)

json_bytes : (o : Option Data) → IfSome o OfBytes → ReadsBytes (reading_of_json o)
json_bytes None h = tt
json_bytes (Some value) h = value_bytes value h

line_bytes : (text : List ℕ) → IfSome (json_of text) OfBytes
line_bytes text = by (is_utf8 text) refl
  where
    by : (b : Bool) → is_utf8 text ≡ b → IfSome (cond b (read text) None) OfBytes
    by true e = read_bytes text (bytes.utf8_bytes text (IsUtf8-from_is_utf8 text e))
    by false e = tt

record_bytes : (record' : Record) → ReadsBytes (reading_of record')
record_bytes Oversize = tt
record_bytes (Line text) = json_bytes (json_of text) (line_bytes text)

pub events_have_bytes : EventsHaveBytes
events_have_bytes record' event e = subst ReadsBytes e (record_bytes record')
