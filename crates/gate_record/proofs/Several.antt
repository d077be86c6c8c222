-- Several keys of an object, of which each member is looked at once.
use Rattle.std.proofs.Common.{◌≡◌, ◌∙◌, List, ℕ, Bool, true, false, cond, Option, Some, None, refl, sym, ap, subst}
use Rattle.std.specs.Str.{bytes_eq}
use Rattle.std.proofs.lemmas.Slice.Eq.{bytes_eq-Decides}
use Rattle.json.specs.Token.{Token}
use Rattle.json.specs.Json as json
use Rattle.json.specs.Find as find
use Rattle.json.specs.Find.{BeginsWith, InMembers, NextMember, later_or}

or_none : (o : Option json.Json) → o ≡ later_or o None
or_none None = refl
or_none (Some j) = refl

newer : (o : Option json.Json) (j : json.Json) (earlier : Option json.Json) → later_or (later_or o (Some j)) earlier ≡ later_or o (Some j)
newer None j earlier = refl
newer (Some later) j earlier = refl

-- what stands at the name, if no member of the rest has it
pub record HasSeen (name : List ℕ) (whole : json.Json) (rest : json.Members) (found : Option (List Token)) : Type 0 where
  pub earlier : Option json.Json
  pub found_there : find.Finds found earlier
  pub says : find.get name whole ≡ later_or (find.get_member name rest) earlier

seen_none : (name : List ℕ) (whole : json.Json) (ms : json.Members) → whole ≡ json.object ms → HasSeen name whole ms None
seen_none name whole ms is = record { earlier = None; found_there = refl; says = ap (find.get name) is ∙ or_none _ }

-- how what is known of a name behind a member with this key comes of what is known before it
abbrev Goes : List ℕ → List ℕ → List Token → Option (List Token) → Option (List Token) → Type 0
Goes name key tokens before behind =
    (whole j : json.Json) (rest : json.Members) → BeginsWith tokens j → HasSeen name whole (json.member key j rest) before → HasSeen name whole rest behind

seen_here : {name key : List ℕ} {tokens : List Token} {found : Option (List Token)} → bytes_eq key name ≡ true → Goes name key tokens found (Some tokens)
seen_here {name} {key} {tokens} {found} same whole j rest begins seen = record {
  earlier = Some j;
  found_there = (j, refl, begins);
  says = seen.says ∙ ap (λ (b : Bool). later_or (later_or (find.get_member name rest) (cond b (Some j) None)) seen.earlier) same ∙ newer (find.get_member name rest) j seen.earlier;
}

seen_other : {name key : List ℕ} {found : Option (List Token)} (tokens : List Token) → bytes_eq key name ≡ false → Goes name key tokens found found
seen_other {name} {key} {found} tokens other whole j rest begins seen = record {
  earlier = seen.earlier;
  found_there = seen.found_there;
  says = seen.says ∙ ap (λ (b : Bool). later_or (later_or (find.get_member name rest) (cond b (Some j) None)) seen.earlier) other
      ∙ ap (λ o. later_or o seen.earlier) (sym (or_none _));
}

seen_all : {name : List ℕ} {whole : json.Json} {found : Option (List Token)} → HasSeen name whole json.no_members found → find.Finds found (find.get name whole)
seen_all {name} {whole} {found} seen = subst (find.Finds found) (sym seen.says) seen.found_there

-- what was found at three names of the object that the first tokens begin with, where the other ones go on with its members
pub record HaveSeen (outer members : List Token) (first second third : List ℕ) (at_first at_second at_third : Option (List Token)) : Type 0 where
  pub all : (whole : json.Json) → BeginsWith outer whole
      → (rest : json.Members) × InMembers members rest × HasSeen first whole rest at_first × HasSeen second whole rest at_second × HasSeen third whole rest at_third

-- a key that is one of two names that differ isn't the other
is_other : (key name other : List ℕ) → bytes_eq key name ≡ true → bytes_eq name other ≡ false → bytes_eq key other ≡ false
is_other key name other same differ = subst (λ k. bytes_eq k other ≡ false) (sym ((bytes_eq-Decides key name).0 same)) differ

module _ {outer members : List Token} {first second third : List ℕ} {at_first at_second at_third : Option (List Token)} where
  module _ (key : List ℕ) (tokens new : List Token) (next : NextMember members (Some (key, tokens)) new) (seen : HaveSeen outer members first second third at_first at_second at_third) where
    -- one more member, by what it is to each of the names
    with_member : {now_first now_second now_third : Option (List Token)} → Goes first key tokens at_first now_first → Goes second key tokens at_second now_second
        → Goes third key tokens at_third now_third → HaveSeen outer new first second third now_first now_second now_third
    with_member to_first to_second to_third = record {
      all = λ whole begins.
          let now = seen.all whole begins in
          let member = next now.0 now.1 in (
            member.1,
            member.4,
            to_first whole member.0 member.1 member.3 (subst (λ ms. HasSeen first whole ms at_first) member.2 now.2),
            to_second whole member.0 member.1 member.3 (subst (λ ms. HasSeen second whole ms at_second) member.2 now.3),
            to_third whole member.0 member.1 member.3 (subst (λ ms. HasSeen third whole ms at_third) member.2 now.4),
          );
    }

    pub first_seen : bytes_eq key first ≡ true → bytes_eq first second ≡ false → bytes_eq first third ≡ false → HaveSeen outer new first second third (Some tokens) at_second at_third
    first_seen same not_second not_third = with_member (seen_here same) (seen_other tokens (is_other key first second same not_second)) (seen_other tokens (is_other key first third same not_third))

    pub second_seen : bytes_eq key first ≡ false → bytes_eq key second ≡ true → bytes_eq second third ≡ false → HaveSeen outer new first second third at_first (Some tokens) at_third
    second_seen not_first same not_third = with_member (seen_other tokens not_first) (seen_here same) (seen_other tokens (is_other key second third same not_third))

    pub third_seen : bytes_eq key first ≡ false → bytes_eq key second ≡ false → bytes_eq key third ≡ true → HaveSeen outer new first second third at_first at_second (Some tokens)
    third_seen not_first not_second same = with_member (seen_other tokens not_first) (seen_other tokens not_second) (seen_here same)

    pub none_seen : bytes_eq key first ≡ false → bytes_eq key second ≡ false → bytes_eq key third ≡ false → HaveSeen outer new first second third at_first at_second at_third
    none_seen not_first not_second not_third = with_member (seen_other tokens not_first) (seen_other tokens not_second) (seen_other tokens not_third)

  pub all_seen : (new : List Token) → NextMember members None new → HaveSeen outer members first second third at_first at_second at_third
      → (whole : json.Json) → BeginsWith outer whole → find.Finds at_first (find.get first whole) × find.Finds at_second (find.get second whole) × find.Finds at_third (find.get third whole)
  all_seen new next seen whole begins =
      let now = seen.all whole begins in
      let done : now.0 ≡ json.no_members = next now.0 now.1 in (
        seen_all (subst (λ ms. HasSeen first whole ms at_first) done now.2),
        seen_all (subst (λ ms. HasSeen second whole ms at_second) done now.3),
        seen_all (subst (λ ms. HasSeen third whole ms at_third) done now.4),
      )

-- what is no object has nothing at a name
pub none_found : (name : List ℕ) (whole : json.Json) → find.as_object whole ≡ None → find.get name whole ≡ None
none_found name json.null is = refl
none_found name (json.boolean b) is = refl
none_found name (json.number s) is = refl
none_found name (json.string s) is = refl
none_found name (json.array js) is = refl
none_found name (json.object ms) is = absurd (cc)

pub start_seen : {outer members : List Token} {first second third : List ℕ} → ((whole : json.Json) → BeginsWith outer whole → (ms : json.Members) × (whole ≡ json.object ms) × InMembers members ms)
    → HaveSeen outer members first second third None None None
start_seen {outer} {members} {first} {second} {third} opened = record {
  all = λ whole begins.
      let object = opened whole begins in
      (object.0, object.2, seen_none first whole object.0 object.1, seen_none second whole object.0 object.1, seen_none third whole object.0 object.1);
}
