-- Rules of the same texts are met by the same events, and so select the same records.
use Rattle.std.proofs.Common.{◌≡◌, ◌∙◌, ℕ, List, [], ◌∷◌, Bool, not, ◌&&◌, ◌||◌, Option, Some, None, map, refl, sym, ap}
use Rattle.std.specs.List.{list_any}
use Rattle.std.specs.Prelude.{IfSome, get_or, drop}
use Rattle.serde_json.specs.Data.{Data}
use Rattle.gate_record.specs.declared.event.Event.{Event}
use Rattle.gate_record.specs.declared.reading.Reading.{Reading}
use Rattle.gate_record.specs.declared.reading.Reading.TheVariants as reading
use Rattle.gate_record.specs.Bytes.{AreBytes, HasBytes, EventsHaveBytes}
use Rattle.gate_record.specs.Events.{is_delete}
use Rattle.gate_record.specs.Reading.{reading_of}
use Rattle.gate_rule.specs.declared.entry.Entry.{Entry}
use Rattle.gate_rule.specs.declared.rule.Rule.{Rule}
use Rattle.gate_rule.specs.Laws.{SameTextSameAnswers}
use Rattle.gate_rule.specs.Entry.{entry_front, entry_within, turned}
use Rattle.gate_rule.specs.Rule.{is_approved, is_met, meets}
use Rattle.gate_config.specs.declared.config.Config.{Config}
use Rattle.gate_config.specs.Document.{EntryTexts, RuleTexts}
use Rattle.gate_config.specs.Laws.{OneDocumentSelectsAlike}
use Rattle.gate_config.specs.Lookups.{belongs, rules_of}
use Rattle.gate_config.specs.Selection.{is_listed, selects_event, selects_reading}
use Rattle.gate_config.specs.Texts.{IsReadFrom, texts_of_entry, texts_of_rule}
use Rattle.gate_config.proofs.LookUps.{look_ups_are}

-- two lists that are seen alike are alike in the first and in the others
first_alike : {A B : Type 0} (f : A → B) (x y : A) (xs ys : List A) → map f (x ∷ xs) ≡ map f (y ∷ ys) → f x ≡ f y
first_alike f x y xs ys e = ap (λ l. get_or l 0 (f x)) e

others_alike : {A B : Type 0} (f : A → B) (x y : A) (xs ys : List A) → map f (x ∷ xs) ≡ map f (y ∷ ys) → map f xs ≡ map f ys
others_alike f x y xs ys e = ap (λ l. drop 1 l) e

both : {a b c d : Bool} → a ≡ b → c ≡ d → (a || c) ≡ (b || d)
both {a} {b} {c} {d} e h = ap (λ x. x || c) e ∙ ap (λ x. b || x) h

-- ---- an attribute

-- what one pattern answers both entries answer alike
turned_alike : (a b : Entry) {m n : Bool} → texts_of_entry a ≡ texts_of_entry b → m ≡ n → turned a.negate m ≡ turned b.negate n
turned_alike a b {m} {n} e h = ap (λ (x : EntryTexts). turned x.negate m) e ∙ ap (turned b.negate) h

module _ (finds : Entry → List ℕ → Bool) (alike : (a b : Entry) → texts_of_entry a ≡ texts_of_entry b → (text : List ℕ) → AreBytes text → finds a text ≡ finds b text) where
  found_alike : (xs ys : List Entry) (text : List ℕ) → AreBytes text → map texts_of_entry xs ≡ map texts_of_entry ys → list_any (λ e. finds e text) xs ≡ list_any (λ e. finds e text) ys
  found_alike [] [] text bytes e = refl
  found_alike [] (y ∷ ys) text bytes e = absurd (cc)
  found_alike (x ∷ xs) [] text bytes e = absurd (cc)
  found_alike (x ∷ xs) (y ∷ ys) text bytes e =
      both (alike x y (first_alike texts_of_entry x y xs ys e) text bytes) (found_alike xs ys text bytes (others_alike texts_of_entry x y xs ys e))

  met_alike : (xs ys : List Entry) (field : Option (List ℕ)) → IfSome field AreBytes → map texts_of_entry xs ≡ map texts_of_entry ys → is_met finds xs field ≡ is_met finds ys field
  met_alike [] [] field bytes e = refl
  met_alike [] (y ∷ ys) field bytes e = absurd (cc)
  met_alike (x ∷ xs) [] field bytes e = absurd (cc)
  met_alike (x ∷ xs) (y ∷ ys) None bytes e = refl
  met_alike (x ∷ xs) (y ∷ ys) (Some text) bytes e = found_alike (x ∷ xs) (y ∷ ys) text bytes e

-- ---- a rule

all_alike : {a b c d e f g h a' b' c' d' e' f' g' h' : Bool} → a ≡ a' → b ≡ b' → c ≡ c' → d ≡ d' → e ≡ e' → f ≡ f' → g ≡ g' → h ≡ h' →
    (a && b && c && d && e && f && g && h) ≡ (a' && b' && c' && d' && e' && f' && g' && h')
all_alike i j k l m n o p = cc

module _ (same : SameTextSameAnswers) (event : Event) (bytes : HasBytes event) where
  at_front : (xs ys : List Entry) (field : Option (List ℕ)) → IfSome field AreBytes → map texts_of_entry xs ≡ map texts_of_entry ys → is_met entry_front xs field ≡ is_met entry_front ys field
  at_front xs ys field few e = met_alike entry_front (λ a b h text k. turned_alike a b h (same a.pattern b.pattern (ap (λ (x : EntryTexts). x.text) h) text k).0) xs ys field few e

  anywhere : (xs ys : List Entry) (field : Option (List ℕ)) → IfSome field AreBytes → map texts_of_entry xs ≡ map texts_of_entry ys → is_met entry_within xs field ≡ is_met entry_within ys field
  anywhere xs ys field few e = met_alike entry_within (λ a b h text k. turned_alike a b h (same a.pattern b.pattern (ap (λ (x : EntryTexts). x.text) h) text k).1) xs ys field few e

  rule_alike : (a b : Rule) → texts_of_rule a ≡ texts_of_rule b → meets a event ≡ meets b event
  rule_alike a b e = all_alike
      (at_front a.event b.event (Some event.kind) bytes.kind (ap (λ (r : RuleTexts). r.event) e))
      (at_front a.branch b.branch event.branch bytes.branch (ap (λ (r : RuleTexts). r.branch) e))
      (at_front a.refname b.refname event.refname bytes.refname (ap (λ (r : RuleTexts). r.refname) e))
      (anywhere a.username b.username event.username bytes.username (ap (λ (r : RuleTexts). r.username) e))
      (anywhere a.email b.email event.email bytes.email (ap (λ (r : RuleTexts). r.email) e))
      (anywhere a.comment b.comment event.comment bytes.comment (ap (λ (r : RuleTexts). r.comment) e))
      (ap (λ (r : RuleTexts). is_approved r.approval event.approvals) e)
      (ap (λ (r : RuleTexts). not (r.ignore_deletes && is_delete event)) e)

  rules_alike : (xs ys : List Rule) → map texts_of_rule xs ≡ map texts_of_rule ys → list_any (λ rule. meets rule event) xs ≡ list_any (λ rule. meets rule event) ys
  rules_alike [] [] e = refl
  rules_alike [] (y ∷ ys) e = absurd (cc)
  rules_alike (x ∷ xs) [] e = absurd (cc)
  rules_alike (x ∷ xs) (y ∷ ys) e =
      both (rule_alike x y (first_alike texts_of_rule x y xs ys e)) (rules_alike xs ys (others_alike texts_of_rule x y xs ys e))

-- ---- a configuration

listed_alike : (a b : Config) (t c : ℕ) (project : Option (List ℕ)) → ((name : List ℕ) → belongs a t c name ≡ belongs b t c name) → is_listed a t c project ≡ is_listed b t c project
listed_alike a b t c None same = refl
listed_alike a b t c (Some name) same = same name

module _ (same : SameTextSameAnswers) (document : Data) (a b : Config) (of_a : IsReadFrom document a) (of_b : IsReadFrom document b) (t p c : ℕ) where
  events_alike : (event : Event) → HasBytes event → selects_event a t p c event ≡ selects_event b t p c event
  events_alike event bytes =
      let in_a = look_ups_are document a of_a in
      let in_b = look_ups_are document b of_b in
      let listed = listed_alike a b t c event.project (λ name. in_a.belongs t c name ∙ sym (in_b.belongs t c name)) in
      let met = rules_alike same event bytes (rules_of a t p c) (rules_of b t p c) (in_a.rules t p c ∙ sym (in_b.rules t p c)) in
      ap (λ x. x && list_any (λ rule. meets rule event) (rules_of a t p c)) listed ∙ ap (λ x. is_listed b t c event.project && x) met

  readings_alike : (read : Reading) → ((event : Event) → read ≡ reading.Event event → HasBytes event) → selects_reading a t p c read ≡ selects_reading b t p c read
  readings_alike (reading.Event event) bytes = events_alike event (bytes event refl)
  readings_alike (reading.Nothing why) bytes = refl

pub selects_alike : SameTextSameAnswers → EventsHaveBytes → OneDocumentSelectsAlike
selects_alike same have document a b of_a of_b t p c record' = readings_alike same document a b of_a of_b t p c (reading_of record') (have record')
