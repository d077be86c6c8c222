-- The loop over the attributes of a rule.
use Rattle.std.proofs.Common.{◌≡◌, ◌∙◌, ◌+◌, ◌<◌, ◌≤◌, ℕ, List, [], ◌∷◌, ◌++◌, Bool, true, false, cond, Option, Some, None, map, length, get_or, take, codes, refl, sym, ap, Bor, String, Global}
use Rattle.std.specs.Prelude.{◌||◌, option_and_then}
use Rattle.std.specs.List.{list_any}
use Rattle.std.proofs.Common.{Ordering, Less, Equal, Greater}
use Rattle.std.specs.Ordering.{is_eq, nat_cmp, match_ordering}
use Rattle.std.specs.Cmp.Lexicographic.{slice_cmp}
use Rattle.std.specs.Str.{bytes_eq}
use Rattle.std.proofs.lemmas.List.{take_all}
use Rattle.std.proofs.lemmas.List.Folds.{list_any-append}
use Rattle.std.proofs.lemmas.Map.Text.{is_eq-slice_cmp}
use Rattle.std.proofs.lemmas.Bool.Decides.{Decides-like, same_from_decides}
use Rattle.std.proofs.lemmas.Slice.Eq.{bytes_eq-Decides}
use Rattle.serde_json.specs.Data.{Data, null, boolean, number, string, array, object, Members, no_members, member}
use Rattle.serde_json.specs.Find.{get_member}
use Rattle.gate_rule.specs.declared.rule.Rule.{Rule}
use Rattle.gate_config.specs.Inner.Attributes.{unlisted, with_attribute}
use Rattle.gate_config.specs.Checks.{attribute_checks}
use Rattle.gate_config.specs.Document.{RuleTexts, flag, pattern_texts, rule_texts, votes}
use Rattle.gate_config.specs.Inner.Found.{key_view}
use Rattle.gate_config.specs.Inner.Faults.{HasPassed}
use Rattle.gate_config.specs.Parts.{keys_in, keys_of, optional, unless_null}
use Rattle.gate_config.specs.Texts.{texts_of_rule}
use Rattle.gate_config.specs.declared.path.Step.{Step}
use Rattle.gate_config.proofs.Each.{TestedSoFar, map_more, tested_more, tested_none}

-- what stands at k, if k is among the keys
abbrev seen : Data → List (List ℕ) → List ℕ → Option Data
seen rule keys k = cond (list_any (λ key. bytes_eq key k) keys) (optional k rule) None

-- the attributes at keys
abbrev seen_texts : Data → List (List ℕ) → RuleTexts
seen_texts rule keys = record {
  event = pattern_texts (seen rule keys (codes "event"));
  branch = pattern_texts (seen rule keys (codes "branch"));
  refname = pattern_texts (seen rule keys (codes "ref"));
  username = pattern_texts (seen rule keys (codes "username"));
  email = pattern_texts (seen rule keys (codes "email"));
  comment = pattern_texts (seen rule keys (codes "comment"));
  approval = votes (seen rule keys (codes "approval"));
  ignore_deletes = flag (seen rule keys (codes "ignore-deletes"));
}

either_way : {A : Type 0} (x y : Bool) (a : A) (o : A) → cond y a (cond x a o) ≡ cond (x || y) a o
either_way true true a o = refl
either_way true false a o = refl
either_way false true a o = refl
either_way false false a o = refl

or_false : (x : Bool) → (x || false) ≡ x
or_false true = refl
or_false false = refl

-- one more key
module _ (rule : Data) (keys : List (List ℕ)) (key k : List ℕ) where
  more : seen rule (keys ++ key ∷ []) k ≡ cond (list_any (λ l. bytes_eq l k) keys || bytes_eq key k) (optional k rule) None
  more = ap (λ b. cond b (optional k rule) None) (list_any-append (λ l. bytes_eq l k) keys (key ∷ []) ∙ ap (λ b. list_any (λ l. bytes_eq l k) keys || b) (or_false (bytes_eq key k)))

  at : (b : Bool) → bytes_eq key k ≡ b → cond b (optional key rule) (seen rule keys k) ≡ seen rule (keys ++ key ∷ []) k
  at true e = ap (λ l. optional l rule) ((bytes_eq-Decides key k).0 e) ∙ either_way (list_any (λ l. bytes_eq l k) keys) true (optional k rule) None ∙ ap (λ b. cond (list_any (λ l. bytes_eq l k) keys || b) (optional k rule) None) (sym e) ∙ sym more
  at false e = either_way (list_any (λ l. bytes_eq l k) keys) false (optional k rule) None ∙ ap (λ b. cond (list_any (λ l. bytes_eq l k) keys || b) (optional k rule) None) (sym e) ∙ sym more

over : {A B : Type 0} (f : A → B) (b : Bool) (x y : A) → cond b (f x) (f y) ≡ f (cond b x y)
over f true x y = refl
over f false x y = refl

field : {A : Type 0} (f : Option Data → A) (rule : Data) (keys : List (List ℕ)) (key k : List ℕ) → cond (bytes_eq key k) (f (optional key rule)) (f (seen rule keys k)) ≡ f (seen rule (keys ++ key ∷ []) k)
field f rule keys key k = over f (bytes_eq key k) (optional key rule) (seen rule keys k) ∙ ap f (at rule keys key k (bytes_eq key k) refl)

all_more : (rule : Data) (keys : List (List ℕ)) (key : List ℕ) → with_attribute key (optional key rule) (seen_texts rule keys) ≡ seen_texts rule (keys ++ key ∷ [])
all_more rule keys key i = record {
  event = field pattern_texts rule keys key (codes "event") i;
  branch = field pattern_texts rule keys key (codes "branch") i;
  refname = field pattern_texts rule keys key (codes "ref") i;
  username = field pattern_texts rule keys key (codes "username") i;
  email = field pattern_texts rule keys key (codes "email") i;
  comment = field pattern_texts rule keys key (codes "comment") i;
  approval = field votes rule keys key (codes "approval") i;
  ignore_deletes = field flag rule keys key (codes "ignore-deletes") i;
}

-- at a key that an object doesn't have stands nothing
other : (o : Ordering) {A : Type 0} (x y : A) → is_eq o ≡ false → match_ordering o x y x ≡ x
other Less x y e = refl
other Equal x y e = cc
other Greater x y e = refl

pub same_bytes : (xs ys : List ℕ) → bytes_eq xs ys ≡ bytes_eq ys xs
same_bytes xs ys = same_from_decides (bytes_eq xs ys) (bytes_eq ys xs) (bytes_eq-Decides xs ys) (Decides-like (bytes_eq ys xs) (λ e. sym e) (λ e. sym e) (bytes_eq-Decides ys xs))

neither : (x y : Bool) → (x || y) ≡ false → (x ≡ false) × (y ≡ false)
neither true y e = absurd cc
neither false y e = (refl, e)

missing : (k : List ℕ) (ms : Members) → list_any (λ key. bytes_eq key k) (keys_in ms) ≡ false → get_member k ms ≡ None
missing k no_members e = refl
missing k (member l d ms) e =
    let parts = neither (bytes_eq l k) (list_any (λ key. bytes_eq key k) (keys_in ms)) e in
    other (slice_cmp nat_cmp k l) (get_member k ms) (Some d) (is_eq-slice_cmp k l ∙ same_bytes k l ∙ parts.0) ∙ missing k ms parts.1

by_test : (k : List ℕ) (ms : Members) (b : Bool) → list_any (λ key. bytes_eq key k) (keys_in ms) ≡ b → cond b (optional k (object ms)) None ≡ optional k (object ms)
by_test k ms true e = refl
by_test k ms false e = ap (option_and_then unless_null) (sym (missing k ms e))

all_seen : (rule : Data) (k : List ℕ) → seen rule (keys_of (Some rule)) k ≡ optional k rule
all_seen null k = refl
all_seen (boolean b) k = refl
all_seen (number n) k = refl
all_seen (string s) k = refl
all_seen (array items) k = refl
all_seen (object ms) k = by_test k ms (list_any (λ key. bytes_eq key k) (keys_in ms)) refl

whole : (rule : Data) → seen_texts rule (keys_of (Some rule)) ≡ rule_texts rule
whole rule i = record {
  event = pattern_texts (all_seen rule (codes "event") i);
  branch = pattern_texts (all_seen rule (codes "branch") i);
  refname = pattern_texts (all_seen rule (codes "ref") i);
  username = pattern_texts (all_seen rule (codes "username") i);
  email = pattern_texts (all_seen rule (codes "email") i);
  comment = pattern_texts (all_seen rule (codes "comment") i);
  approval = votes (all_seen rule (codes "approval") i);
  ignore_deletes = flag (all_seen rule (codes "ignore-deletes") i);
}

start : (rule : Data) → unlisted ≡ seen_texts rule []
start rule = refl

-- the first i attributes pass, and the rule is as they say
pub record AttributesSoFar (here : List Step) (rule : Data) (keys : List (Bor (String Global))) (i : ℕ) (read : Rule) : Type 0 where
  pub tested : TestedSoFar (λ _. attribute_checks here rule) key_view keys i
  pub says : texts_of_rule read ≡ seen_texts rule (map key_view (take i keys))

module _ {here : List Step} {rule : Data} {keys : List (Bor (String Global))} where
  pub attributes_none : {read : Rule} → texts_of_rule read ≡ unlisted → AttributesSoFar here rule keys 0 read
  attributes_none e = record { tested = tested_none; says = e ∙ start rule }

  pub attributes_more : {i : ℕ} {read next : Rule} (key : Bor (String Global)) → i < length keys → key ≡ get_or keys i key → AttributesSoFar here rule keys i read → HasPassed (attribute_checks here rule (key_view key)) → texts_of_rule next ≡ with_attribute (key_view key) (optional (key_view key) rule) (texts_of_rule read) → AttributesSoFar here rule keys (i + 1) next
  attributes_more {i} key h e a p s = record {
    tested = tested_more key h e a.tested p;
    says =
        s ∙ ap (with_attribute (key_view key) (optional (key_view key) rule)) a.says
        ∙ all_more rule (map key_view (take i keys)) (key_view key)
        ∙ ap (seen_texts rule) (sym (map_more key_view keys i key h e));
  }

  pub attributes_all : {i : ℕ} {read : Rule} → length keys ≤ i → map key_view keys ≡ keys_of (Some rule) → AttributesSoFar here rule keys i read → texts_of_rule read ≡ rule_texts rule
  attributes_all {i} h e a = a.says ∙ ap (λ ks. seen_texts rule (map key_view ks)) (take_all i keys h) ∙ ap (seen_texts rule) e ∙ whole rule
