use Rattle.std.proofs.Common.{◌≡◌, ◌∙◌, Some, ap, get_or, of_z, sym, to_z, w64}
use Rattle.std.specs.List.{position}
use Rattle.std.proofs.lemmas.Int.{to_z-of_z}
use Rattle.gate_items.specs.Machine.{State, is_of}
use Rattle.gate_items.specs.Inner.Steps.{why_not}
use Rattle.gate_items.specs.declared.item.QueueItem.{QueueItem}
use Rattle.gate_items.proofs.Plans.{is_inside, is_newer, is_refused, places_last}
use Rattle.gate_items.proofs.ordered.Ordered.older_place.Goals as goal

pub returns-in_default-clause-judges : goal.returns-in_default-clause-judges
returns-in_default-clause-judges c jobs =
    places_last c.args.self.now c.args.key.now c.args.patchset jobs (sym c.in_default.is ∙ c.place_of_key.ensures ∙ ap (λ (s : State). position (is_of c.args.key.now) s.items) c.self.view_is)

pub returns-in-Some-why_not-clause-judges : goal.returns-in-Some-why_not-clause-judges
returns-in-Some-why_not-clause-judges c jobs =
    let e : Some c.in-Some.place ≡ position (is_of c.args.key.now) c.args.self.now.items = c.in-Some.ensures ∙ ap (λ (s : State). position (is_of c.args.key.now) s.items) c.self.view_is in
    let d : QueueItem = c.item.result.now in
    let z : to_z w64 (of_z w64 c.args.patchset) ≡ c.args.patchset = to_z-of_z w64 c.args.patchset c.ranges.patchset in
    let read : d ≡ get_or c.args.self.now.items c.in-Some.place d = c.item.ensures ∙ ap (λ (s : State). get_or s.items c.in-Some.place d) c.self.view_is in
    is_refused c.args.self.now c.args.key.now c.args.patchset jobs c.in-Some.place d e c.in-Some-why_not.why
    (c.in-Some-why_not.ensures ∙ ap (λ y. why_not y d.patchset) z ∙ ap (λ (x : QueueItem). why_not c.args.patchset x.patchset) read)

pub returns-in-None-clause-judges : goal.returns-in-None-clause-judges
returns-in-None-clause-judges c jobs =
    let e : Some c.in-Some.place ≡ position (is_of c.args.key.now) c.args.self.now.items = c.in-Some.ensures ∙ ap (λ (s : State). position (is_of c.args.key.now) s.items) c.self.view_is in
    let d : QueueItem = c.item.result.now in
    let z : to_z w64 (of_z w64 c.args.patchset) ≡ c.args.patchset = to_z-of_z w64 c.args.patchset c.ranges.patchset in
    let read : d ≡ get_or c.args.self.now.items c.in-Some.place d = c.item.ensures ∙ ap (λ (s : State). get_or s.items c.in-Some.place d) c.self.view_is in (
      is_inside c.args.self.now c.args.key.now c.args.patchset jobs c.in-Some.place d e,
      is_newer c.args.self.now c.args.key.now c.args.patchset jobs c.in-Some.place d e (c.in-None.ensures ∙ ap (λ y. why_not y d.patchset) z ∙ ap (λ (x : QueueItem). why_not c.args.patchset x.patchset) read),
    )
