-- What serde_json takes of JSON, by its tokens.
use Rattle.std.proofs.Common.{◌≡◌, ◌∙◌, ◌<◌, ◌≤◌, ◌+◌, ◌-◌, ◌&&◌, ℕ, List, [], ◌∷◌, ◌++◌, Bool, true, false, Option, Some, None, is_some, option_map, option_and_then, refl, sym, ap, subst, arith, append_assoc, append-nil, ltb, lt-ltb, ltb-true}
use Rattle.json.specs.Token.{Token}
use Rattle.json.specs.Lex.{tokens}
use Rattle.json.specs.Json as json
use Rattle.json.specs.Tree.{json_tokens, items_tokens, members_tokens, depth, items_depth, members_depth}
use Rattle.json.proofs.Nesting.{value-depth}
use Rattle.json.proofs.Printed.Trees.{value-json_tokens}
use Rattle.json.proofs.Unique.Spelling.{tokens-document, value-json_tokens_back}
use Rattle.serde_json.specs.Data.{Data, number, array, object, Items, item, Members, no_members, put}
use Rattle.serde_json.specs.Read.{max_depth, number_of, of_json, of_items, of_members, read}
use Rattle.gate_record.specs.Inner.Tapes.{fit}
use Rattle.gate_record.proofs.Found.{mapped, chained}

both : (x y : Bool) → (x && y) ≡ true → (x ≡ true) × (y ≡ true)
both true y e = (refl, e)
both false y e = absurd cc

some : {A : Type 0} (o : Option A) → is_some o ≡ true → (a : A) × (o ≡ Some a)
some None e = absurd cc
some (Some a) e = (a, refl)

-- ---- tokens that fit are those of a value that is taken

abbrev Taken : {A B : Type 0} → (A → Option B) → A → ℕ → ℕ → Type 0
Taken {A} {B} f a level deep = (b : B) × (f a ≡ Some b) × (level + deep ≤ max_depth)

mutual
  taken : (j : json.Json) (level : ℕ) (rest : List Token) → level ≤ max_depth → fit level (json_tokens j ++ rest) ≡ true
      → (value : Data) × (of_json j ≡ Some value) × (level + depth j ≤ max_depth) × (fit level rest ≡ true)
  taken json.null level rest low e = (_, refl, omega (arith, low), e)
  taken (json.boolean b) level rest low e = (_, refl, omega (arith, low), e)
  taken (json.number s) level rest low e =
      let parts = both (is_some (number_of s)) (fit level rest) e in
      let n = some (number_of s) parts.0 in
      (_, ap (option_map number) n.1, omega (arith, low), parts.1)
  taken (json.string s) level rest low e = (_, refl, omega (arith, low), e)
  taken (json.array js) level rest low e =
      let parts = both (ltb level max_depth) (fit (level + 1) (items_tokens js ++ rest)) e in
      let below = ltb-true level max_depth parts.0 in
      let inside = items_taken js (level + 1) rest (omega (arith, below)) parts.1 in
      let back : level + 1 - 1 ≡ level = omega arith in
      (_, ap (option_map array) inside.1, omega (arith, inside.2), subst (λ l. fit l rest ≡ true) back inside.3)
  taken (json.object ms) level rest low e =
      let parts = both (ltb level max_depth) (fit (level + 1) (members_tokens ms ++ rest)) e in
      let below = ltb-true level max_depth parts.0 in
      let inside = members_taken ms no_members (level + 1) rest (omega (arith, below)) parts.1 in
      let back : level + 1 - 1 ≡ level = omega arith in
      (_, ap (option_map object) inside.1, omega (arith, inside.2), subst (λ l. fit l rest ≡ true) back inside.3)

  items_taken : (js : json.Items) (level : ℕ) (rest : List Token) → level ≤ max_depth → fit level (items_tokens js ++ rest) ≡ true
      → (values : Items) × (of_items js ≡ Some values) × (level + items_depth js ≤ max_depth) × (fit (level - 1) rest ≡ true)
  items_taken json.no_items level rest low e = (_, refl, omega (arith, low), e)
  items_taken (json.item j js) level rest low e =
      let first = taken j level (items_tokens js ++ rest) low (ap (fit level) (sym (append_assoc (json_tokens j) (items_tokens js) rest)) ∙ e) in
      let others = items_taken js level rest low first.3 in
      (_, ap (option_and_then (λ d. option_map (item d) (of_items js))) first.1 ∙ ap (option_map (item first.0)) others.1, omega (arith, first.2, others.2), others.3)

  members_taken : (ms : json.Members) (found : Members) (level : ℕ) (rest : List Token) → level ≤ max_depth → fit level (members_tokens ms ++ rest) ≡ true
      → (values : Members) × (of_members ms found ≡ Some values) × (level + members_depth ms ≤ max_depth) × (fit (level - 1) rest ≡ true)
  members_taken json.no_members found level rest low e = (_, refl, omega (arith, low), e)
  members_taken (json.member key j ms) found level rest low e =
      let first = taken j level (members_tokens ms ++ rest) low (ap (fit level) (sym (append_assoc (json_tokens j) (members_tokens ms) rest)) ∙ e) in
      let others = members_taken ms (put key first.0 found) level rest low first.3 in
      (_, ap (option_and_then (λ d. of_members ms (put key d found))) first.1 ∙ others.1, omega (arith, first.2, others.2), others.3)

-- ---- the tokens of a value that is taken fit

mutual
  fits : (j : json.Json) (value : Data) (level : ℕ) (rest : List Token) → of_json j ≡ Some value → level + depth j ≤ max_depth → fit level rest ≡ true → fit level (json_tokens j ++ rest) ≡ true
  fits json.null value level rest e low more = more
  fits (json.boolean b) value level rest e low more = more
  fits (json.number s) value level rest e low more = let n = mapped number (number_of s) value e in rw n.1 more
  fits (json.string s) value level rest e low more = more
  fits (json.array js) value level rest e low more =
      let inside = mapped array (of_items js) value e in
      let below : level < max_depth = omega (arith, low) in
      let back : level ≡ level + 1 - 1 = omega arith in
      rw (lt-ltb level max_depth below) (items_fit js inside.0 (level + 1) rest inside.1 (omega (arith, low)) (subst (λ l. fit l rest ≡ true) back more))
  fits (json.object ms) value level rest e low more =
      let inside = mapped object (of_members ms no_members) value e in
      let below : level < max_depth = omega (arith, low) in
      let back : level ≡ level + 1 - 1 = omega arith in
      rw (lt-ltb level max_depth below) (members_fit ms no_members inside.0 (level + 1) rest inside.1 (omega (arith, low)) (subst (λ l. fit l rest ≡ true) back more))

  items_fit : (js : json.Items) (values : Items) (level : ℕ) (rest : List Token) → of_items js ≡ Some values → level + items_depth js ≤ max_depth → fit (level - 1) rest ≡ true → fit level (items_tokens js ++ rest) ≡ true
  items_fit json.no_items values level rest e low more = more
  items_fit (json.item j js) values level rest e low more =
      let first = chained (λ d. option_map (item d) (of_items js)) (of_json j) values e in
      let others = mapped (item first.0) (of_items js) values first.2 in
      ap (fit level) (append_assoc (json_tokens j) (items_tokens js) rest) ∙ fits j first.0 level (items_tokens js ++ rest) first.1 (omega (arith, low)) (items_fit js others.0 level rest others.1 (omega (arith, low)) more)

  members_fit : (ms : json.Members) (found values : Members) (level : ℕ) (rest : List Token) → of_members ms found ≡ Some values → level + members_depth ms ≤ max_depth → fit (level - 1) rest ≡ true
      → fit level (members_tokens ms ++ rest) ≡ true
  members_fit json.no_members found values level rest e low more = more
  members_fit (json.member key j ms) found values level rest e low more =
      let first = chained (λ d. of_members ms (put key d found)) (of_json j) values e in
      ap (fit level) (append_assoc (json_tokens j) (members_tokens ms) rest) ∙ fits j first.0 level (members_tokens ms ++ rest) first.1 (omega (arith, low)) (members_fit ms (put key first.0 found) values level rest first.2 (omega (arith, low)) more)

-- ---- a whole text

abbrev whole : Option (json.Json × List Token) → Option Data
whole o = option_and_then of_json (option_and_then (λ p. json.if_last p.0 p.1) o)

module _ (text : List ℕ) where
  -- what serde_json reads of a text that fits
  pub read_is : (j : json.Json) → json.document text ≡ Some j → fit 0 (tokens text) ≡ true → (value : Data) × (of_json j ≡ Some value) × (read text ≡ Some value)
  read_is j is e =
      let spelled = tokens-document text j is ∙ sym (append-nil (json_tokens j)) in
      let value = taken j 0 [] (omega arith) (ap (fit 0) (sym spelled) ∙ e) in
      let again = ap (json.value max_depth) spelled ∙ value-json_tokens j max_depth [] (omega (arith, value.2)) in
      (value.0, value.1, ap whole again ∙ value.1)

  spelled_fit : (j : json.Json) (value : Data) → json.value max_depth (tokens text) ≡ Some (j, []) → of_json j ≡ Some value → fit 0 (tokens text) ≡ true
  spelled_fit j value is e = ap (fit 0) (value-json_tokens_back max_depth (tokens text) [] j is) ∙ fits j value 0 [] e (omega (arith, value-depth max_depth (tokens text) [] j is)) refl

  -- of a text that doesn't fit it reads nothing
  pub unfit : fit 0 (tokens text) ≡ false → read text ≡ None
  unfit e = by (json.value max_depth (tokens text)) refl
    where
      last : (j : json.Json) (o : Option Data) → json.value max_depth (tokens text) ≡ Some (j, []) → of_json j ≡ o → o ≡ None
      last j None is value = refl
      last j (Some value) is is_value = let fitting = spelled_fit j value is is_value in absurd cc

      by : (o : Option (json.Json × List Token)) → json.value max_depth (tokens text) ≡ o → whole o ≡ None
      by None is = refl
      by (Some (j, [])) is = last j (of_json j) is refl
      by (Some (j, t ∷ rest)) is = refl

  -- nor of a text that is no JSON
  pub no_document : json.document text ≡ None → read text ≡ None
  no_document e = by (json.value max_depth (tokens text)) refl
    where
      again : (j : json.Json) → json.value max_depth (tokens text) ≡ Some (j, []) → json.document text ≡ Some j
      again j is =
          ap (λ o. option_and_then (λ p. json.if_last p.0 p.1) o)
          (ap (json.value json.max_depth) (value-json_tokens_back max_depth (tokens text) [] j is) ∙ value-json_tokens j json.max_depth [] (omega (arith, value-depth max_depth (tokens text) [] j is)))

      by : (o : Option (json.Json × List Token)) → json.value max_depth (tokens text) ≡ o → whole o ≡ None
      by None is = refl
      by (Some (j, [])) is = let there = again j is in absurd cc
      by (Some (j, t ∷ rest)) is = refl
