-- Rules that no event of a batch meets, since none is of their kind.
use Rattle.std.proofs.Common.{◌≡◌, ◌∙◌, refl, sym, ap, ap₂, ◌<◌, ◌≤◌, ◌&&◌, ◌||◌, Bool, false, not, List, [], ◌∷◌, map, length, get_or, Some, arith}
use Rattle.std.proofs.lemmas.Bool.{or_parts}
use Rattle.gate_record.specs.declared.event.Event.{Event}
use Rattle.gate_record.specs.Events.{is_delete}
use Rattle.gate_rule.specs.declared.entry.Entry.{Entry}
use Rattle.gate_rule.specs.declared.rule.Rule.{Rule}
use Rattle.gate_rule.specs.Entry.{entry_front, entry_within}
use Rattle.gate_rule.specs.Rule.{is_approved, is_met, meets}
use Rattle.gate_intern.specs.declared.field.Field.TheVariants.{Kind}
use Rattle.gate_match_rules.specs.declared.asked.Asked.{Asked}
use Rattle.gate_match_rules.specs.Finding.{met_in}
use Rattle.gate_match_rules.specs.Marks.{marks_any}
use Rattle.gate_match_rules.specs.Narrowing.{meeting}

-- a list of one
pub only : (xs : List Asked) (one : Asked) → 1 ≤ length xs → length xs < 2 → one ≡ get_or xs 0 one → xs ≡ one ∷ []
only [] one least below is = absurd (omega (arith, least))
only (x ∷ []) one least below is = ap (λ (first : Asked). first ∷ []) (sym is)
only (x ∷ y ∷ xs) one least below is = absurd (omega (arith, below))

not_met : (rule : Rule) (event : Event) → is_met entry_front rule.event (Some event.kind) ≡ false → meets rule event ≡ false
not_met rule event e =
    ap (λ (kind : Bool). kind && is_met entry_front rule.branch event.branch && is_met entry_front rule.refname event.refname
    && is_met entry_within rule.username event.username && is_met entry_within rule.email event.email && is_met entry_within rule.comment event.comment
    && is_approved rule.approval event.approvals && not (rule.ignore_deletes && is_delete event)) e

pub none_meets : (rule : Rule) (entry : Entry) (events : List Event) → rule.event ≡ entry ∷ [] → marks_any (met_in Kind entry events) ≡ false → meeting rule events ≡ map (λ event. false) events
none_meets rule entry [] one none = refl
none_meets rule entry (event ∷ events) one none =
    let each = or_parts (entry_front entry event.kind) (marks_any (met_in Kind entry events)) none in
    ap₂ ◌∷◌ (not_met rule event (ap (λ (entries : List Entry). is_met entry_front entries (Some event.kind)) one ∙ ap (λ (b : Bool). b || false) each.0))
    (none_meets rule entry events one each.1)
