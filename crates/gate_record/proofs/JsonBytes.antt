-- The texts of a JSON value that was read from bytes consist of bytes.
use Rattle.std.proofs.Common.{Ordering, Less, Equal, Greater, ◌≡◌, ℕ, List, [], ◌∷◌, ◌++◌, Bool, true, false, ◌==◌, cond, Option, Some, None, option_and_then, option_map, refl, subst, append_assoc}
use Rattle.std.specs.Prelude.{IfSome}
use Rattle.std.specs.Ordering.{match_ordering, nat_cmp}
use Rattle.std.specs.Cmp.Lexicographic.{slice_cmp}
use Rattle.json.specs.Ascii as ascii
use Rattle.json.specs.Token.{Token}
use Rattle.json.specs.Text.{plain, content}
use Rattle.json.specs.Word.{after_number, ends_word, head, number_before, word}
use Rattle.json.specs.Lex.{Class, class, quote, backslash, operator, space, other, Lexeme, token, comma, colon, Mode, between, in_word, in_string, in_escape, Place, fresh, after_value, after_comma, after_key, begins_colon, if_allowed, lex, lex_byte, may_begin, may_close, operator_lexeme, place_token, punctuate, string_token, tokens}
use Rattle.json.specs.Json as json
use Rattle.json.specs.Tree.{json_tokens, items_tokens, members_tokens}
use Rattle.json.proofs.Unique.Spelling.{value-json_tokens_back}
use Rattle.serde_json.specs.Data.{Data, null, boolean, number, string, array, object, Items, no_items, item, Members, no_members, member, put}
use Rattle.serde_json.specs.Read.{max_depth, number_of, of_json, of_items, of_members, read}
use Rattle.gate_record.specs.Bytes.{AreBytes}
use Rattle.gate_record.proofs.Bytes as bytes
use Rattle.gate_record.proofs.Found.{mapped, chained}

-- ---- tokens

-- a string of bytes, or no string
abbrev HasBytes : Token → Type 0
HasBytes Token.begin_object = Unit {0}
HasBytes Token.end_object = Unit {0}
HasBytes Token.begin_array = Unit {0}
HasBytes Token.end_array = Unit {0}
HasBytes (Token.key s) = Unit {0}
HasBytes (Token.string s) = AreBytes s
HasBytes (Token.number s) = Unit {0}
HasBytes (Token.boolean b) = Unit {0}
HasBytes Token.null = Unit {0}
HasBytes Token.bad = Unit {0}

abbrev LexemeHasBytes : Lexeme → Type 0
LexemeHasBytes (token t) = HasBytes t
LexemeHasBytes comma = Unit {0}
LexemeHasBytes colon = Unit {0}

abbrev LexemesHaveBytes : List Lexeme → Type 0
LexemesHaveBytes [] = Unit {0}
LexemesHaveBytes (l ∷ ls) = LexemeHasBytes l × LexemesHaveBytes ls

abbrev HaveBytes : List Token → Type 0
HaveBytes [] = Unit {0}
HaveBytes (t ∷ ts) = HasBytes t × HaveBytes ts

either : (b : Bool) (x y : Token) → HasBytes x → HasBytes y → HasBytes (cond b x y)
either true x y a b = a
either false x y a b = b

either_lexeme : (b : Bool) (x y : Lexeme) → LexemeHasBytes x → LexemeHasBytes y → LexemeHasBytes (cond b x y)
either_lexeme true x y a b = a
either_lexeme false x y a b = b

operators : (x : ℕ) → LexemeHasBytes (operator_lexeme x)
operators x =
    either_lexeme (x == ascii.open_brace) _ _ tt (either_lexeme (x == ascii.close_brace) _ _ tt (either_lexeme (x == ascii.open_bracket) _ _ tt
    (either_lexeme (x == ascii.close_bracket) _ _ tt (either_lexeme (x == ascii.comma) _ _ tt tt))))

numbers : (t : List ℕ) (o : Option (List ℕ)) → HasBytes (number_before t o)
numbers t None = tt
numbers t (Some rest) = either (ends_word rest) _ Token.bad tt tt

words : (t : List ℕ) → HasBytes (word t)
unfolding word
words t =
    either (head t == ascii.lower_t) _ _ (either _ (Token.boolean true) Token.bad tt tt)
    (either (head t == ascii.lower_f) _ _ (either _ (Token.boolean false) Token.bad tt tt)
    (either (head t == ascii.lower_n) _ _ (either _ Token.null Token.bad tt tt) (numbers t (after_number t))))

strings : (o : Option (List ℕ)) → IfSome o AreBytes → HasBytes (string_token o)
strings None h = tt
strings (Some s) h = h

lexed_byte : (m : Mode) (c : Class) (x : ℕ) (xs : List ℕ) (k : Mode → List Lexeme) → AreBytes xs → ((next : Mode) → LexemesHaveBytes (k next)) → LexemesHaveBytes (lex_byte m c x xs k)
lexed_byte between quote x xs k bs h = (strings (content plain xs) (bytes.in_string plain xs tt bs), h in_string)
lexed_byte between backslash x xs k bs h = (tt, h in_word)
lexed_byte between operator x xs k bs h = (operators x, h between)
lexed_byte between space x xs k bs h = h between
lexed_byte between other x xs k bs h = (words (x ∷ xs), h in_word)
lexed_byte in_word quote x xs k bs h = h in_word
lexed_byte in_word backslash x xs k bs h = h in_word
lexed_byte in_word operator x xs k bs h = (operators x, h between)
lexed_byte in_word space x xs k bs h = h between
lexed_byte in_word other x xs k bs h = h in_word
lexed_byte in_string quote x xs k bs h = h between
lexed_byte in_string backslash x xs k bs h = h in_escape
lexed_byte in_string operator x xs k bs h = h in_string
lexed_byte in_string space x xs k bs h = h in_string
lexed_byte in_string other x xs k bs h = h in_string
lexed_byte in_escape c x xs k bs h = h in_string

lexed : (m : Mode) (xs : List ℕ) → AreBytes xs → LexemesHaveBytes (lex m xs)
unfolding lex
lexed m [] bs = tt
lexed m (x ∷ xs) bs = lexed_byte m (class x) x xs _ (bytes.others x xs bs) (λ next. lexed next xs (bytes.others x xs bs))

allowed : (b : Bool) (t : Token) (k : Place → List Token) (next : Place) → HasBytes t → ((p : Place) → HaveBytes (k p)) → HaveBytes (if_allowed b t k next)
allowed true t k next one more = (one, more next)
allowed false t k next one more = (tt, tt)

placed : (p : Place) (t : Token) (before_colon : Bool) (k : Place → List Token) → HasBytes t → ((next : Place) → HaveBytes (k next)) → HaveBytes (place_token p t before_colon k)
placed p Token.begin_object before_colon k one more = allowed (may_begin p) Token.begin_object k fresh tt more
placed p Token.end_object before_colon k one more = allowed (may_close p) Token.end_object k after_value tt more
placed p Token.begin_array before_colon k one more = allowed (may_begin p) Token.begin_array k fresh tt more
placed p Token.end_array before_colon k one more = allowed (may_close p) Token.end_array k after_value tt more
placed p (Token.key s) before_colon k one more = (tt, tt)
placed p (Token.string s) true k one more = allowed (may_begin p) (Token.key s) k after_key tt more
placed p (Token.string s) false k one more = allowed (may_begin p) (Token.string s) k after_value one more
placed p (Token.number s) before_colon k one more = allowed (may_begin p) (Token.number s) k after_value tt more
placed p (Token.boolean b) before_colon k one more = allowed (may_begin p) (Token.boolean b) k after_value tt more
placed p Token.null before_colon k one more = allowed (may_begin p) Token.null k after_value tt more
placed p Token.bad before_colon k one more = (tt, tt)

punctuated : (p : Place) (ls : List Lexeme) → LexemesHaveBytes ls → HaveBytes (punctuate p ls)
unfolding punctuate
punctuated fresh [] h = tt
punctuated after_value [] h = tt
punctuated after_comma [] h = (tt, tt)
punctuated after_key [] h = (tt, tt)
punctuated fresh (token t ∷ ls) h = placed fresh t (begins_colon ls) _ h.0 (λ next. punctuated next ls h.1)
punctuated after_value (token t ∷ ls) h = placed after_value t (begins_colon ls) _ h.0 (λ next. punctuated next ls h.1)
punctuated after_comma (token t ∷ ls) h = placed after_comma t (begins_colon ls) _ h.0 (λ next. punctuated next ls h.1)
punctuated after_key (token t ∷ ls) h = placed after_key t (begins_colon ls) _ h.0 (λ next. punctuated next ls h.1)
punctuated fresh (comma ∷ ls) h = (tt, tt)
punctuated after_value (comma ∷ ls) h = punctuated after_comma ls h.1
punctuated after_comma (comma ∷ ls) h = (tt, tt)
punctuated after_key (comma ∷ ls) h = (tt, tt)
punctuated fresh (colon ∷ ls) h = (tt, tt)
punctuated after_value (colon ∷ ls) h = (tt, tt)
punctuated after_comma (colon ∷ ls) h = (tt, tt)
punctuated after_key (colon ∷ ls) h = punctuated fresh ls h.1

-- ---- values

-- each text in the value consists of bytes, keys aside
abbrev mutual
  pub OfBytes : Data → Type 0
  OfBytes null = Unit {0}
  OfBytes (boolean b) = Unit {0}
  OfBytes (number n) = Unit {0}
  OfBytes (string s) = AreBytes s
  OfBytes (array values) = AllOfBytes values
  OfBytes (object members) = MembersOfBytes members

  pub AllOfBytes : Items → Type 0
  AllOfBytes no_items = Unit {0}
  AllOfBytes (item value values) = OfBytes value × AllOfBytes values

  pub MembersOfBytes : Members → Type 0
  MembersOfBytes no_members = Unit {0}
  MembersOfBytes (member key value members) = OfBytes value × MembersOfBytes members

put_by : (o : Ordering) (a b c : Members) → MembersOfBytes a → MembersOfBytes b → MembersOfBytes c → MembersOfBytes (match_ordering o a b c)
put_by Less a b c x y z = x
put_by Equal a b c x y z = y
put_by Greater a b c x y z = z

put_bytes : (key : List ℕ) (value : Data) (members : Members) → OfBytes value → MembersOfBytes members → MembersOfBytes (put key value members)
put_bytes key value no_members one more = (one, tt)
put_bytes key value (member l e ms) one more =
    put_by (slice_cmp nat_cmp key l) _ _ _ (one, more) (one, more.1) (more.0, put_bytes key value ms one more.1)

-- what tokens of bytes spell is of bytes
mutual
  taken : (j : json.Json) (value : Data) (rest : List Token) → of_json j ≡ Some value → HaveBytes (json_tokens j ++ rest) → OfBytes value × HaveBytes rest
  taken json.null value rest e h = (subst (λ o. IfSome o OfBytes) e tt, h.1)
  taken (json.boolean b) value rest e h = (subst (λ o. IfSome o OfBytes) e tt, h.1)
  taken (json.number s) value rest e h = let n = mapped number (number_of s) value e in (subst OfBytes n.2 tt, h.1)
  taken (json.string s) value rest e h = (subst (λ o. IfSome o OfBytes) e h.0, h.1)
  taken (json.array js) value rest e h =
      let inside = mapped array (of_items js) value e in
      let all = items_taken js inside.0 rest inside.1 h.1 in
      (subst OfBytes inside.2 all.0, all.1)
  taken (json.object ms) value rest e h =
      let inside = mapped object (of_members ms no_members) value e in
      let all = members_taken ms no_members inside.0 rest inside.1 tt h.1 in
      (subst OfBytes inside.2 all.0, all.1)

  items_taken : (js : json.Items) (values : Items) (rest : List Token) → of_items js ≡ Some values → HaveBytes (items_tokens js ++ rest) → AllOfBytes values × HaveBytes rest
  items_taken json.no_items values rest e h = (subst (λ o. IfSome o AllOfBytes) e tt, h.1)
  items_taken (json.item j js) values rest e h =
      let first = chained (λ d. option_map (item d) (of_items js)) (of_json j) values e in
      let others = mapped (item first.0) (of_items js) values first.2 in
      let one = taken j first.0 (items_tokens js ++ rest) first.1 (subst HaveBytes (append_assoc (json_tokens j) (items_tokens js) rest) h) in
      let more = items_taken js others.0 rest others.1 one.1 in
      (subst AllOfBytes others.2 (one.0, more.0), more.1)

  members_taken : (ms : json.Members) (found values : Members) (rest : List Token) → of_members ms found ≡ Some values → MembersOfBytes found → HaveBytes (members_tokens ms ++ rest) → MembersOfBytes values × HaveBytes rest
  members_taken json.no_members found values rest e before h = (subst (λ o. IfSome o MembersOfBytes) e before, h.1)
  members_taken (json.member key j ms) found values rest e before h =
      let first = chained (λ d. of_members ms (put key d found)) (of_json j) values e in
      let one = taken j first.0 (members_tokens ms ++ rest) first.1 (subst HaveBytes (append_assoc (json_tokens j) (members_tokens ms) rest) h.1) in
      members_taken ms (put key first.0 found) values rest first.2 (put_bytes key first.0 found one.0 before) one.1

-- ---- a whole text

document : (text : List ℕ) → AreBytes text → (o : Option (json.Json × List Token)) → json.value max_depth (tokens text) ≡ o
    → IfSome (option_and_then of_json (option_and_then (λ p. json.if_last p.0 p.1) o)) OfBytes
document text bs None is = tt
document text bs (Some (j, t ∷ rest)) is = tt
document text bs (Some (j, [])) is = by (of_json j) refl
  where
    by : (o : Option Data) → of_json j ≡ o → IfSome o OfBytes
    by None e = tt
    by (Some value) e = (taken j value [] e (subst HaveBytes (value-json_tokens_back max_depth (tokens text) [] j is) (punctuated fresh (lex between text) (lexed between text bs)))).0

pub read_bytes : (text : List ℕ) → AreBytes text → IfSome (read text) OfBytes
read_bytes text bs = document text bs (json.value max_depth (tokens text)) refl
