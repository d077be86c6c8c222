-- Cells of approvals, one event or one slot more.
use Rattle.std.proofs.Common.{◌≡◌, ◌∙◌, ℕ, zero, suc, ℤ, ◌+◌, ◌*◌, ◌%◌, ◌<◌, List, [], ◌∷◌, ◌++◌, Option, get_or, length, take, sym, ap, append_assoc, append-nil, length-append, arith}
use Rattle.std.proofs.Math.Nat.{mul-mod_left, suc-mul, zero-mul}
use Rattle.std.specs.Prelude.{slice_get, flat_map}
use Rattle.std.specs.List.{range_with_len}
use Rattle.std.proofs.lemmas.Grind.{flat_map-append}
use Rattle.std.proofs.lemmas.List.{length-map, map_more}
use Rattle.gate_record.specs.declared.event.Event.{Event}
use Rattle.gate_intern.specs.Columns.{cells_of, is_same_vote, number_among, slot_of, slots_of}

pub slot_more : (votes : List (List ℕ × ℤ)) (events : List Event) (place i : ℕ) (event : Event) (start before after : List ℕ) (number : ℕ) (given : Option (List ℕ × ℤ))
    → i < length events → event ≡ get_or events i event → before ≡ start ++ slot_of votes (take i events) place
    → given ≡ slice_get event.approvals place → number ≡ number_among is_same_vote votes given → after ≡ before ++ number ∷ []
    → after ≡ start ++ slot_of votes (take (i + 1) events) place
slot_more votes events place i event start before after number given within at so_far looked counted added =
    let cell : Event → ℕ = λ e. number_among is_same_vote votes (slice_get e.approvals place) in
    let here : number ≡ cell (get_or events i event) = counted ∙ ap (number_among is_same_vote votes) looked ∙ ap cell at in
    added ∙ ap (λ front. front ++ number ∷ []) so_far
    ∙ append_assoc start (slot_of votes (take i events) place) (number ∷ [])
    ∙ ap (λ n. start ++ (slot_of votes (take i events) place ++ n ∷ [])) here
    ∙ ap (λ slot. start ++ slot) (sym (map_more cell events i event within))

range_more : (a n : ℕ) → range_with_len a (suc n) ≡ range_with_len a n ++ (a + n) ∷ []
range_more a zero = ap (λ m. m ∷ []) (omega arith)
range_more a (suc n) = ap (λ ns. a ∷ ns) (range_more (a + 1) n ∙ ap (λ m. range_with_len (a + 1) n ++ m ∷ []) (omega arith))

-- one number more
pub slots_more : {A : Type 0} (f : ℕ → List A) (n : ℕ) → flat_map f (range_with_len 0 (n + 1)) ≡ flat_map f (range_with_len 0 n) ++ f n
slots_more f n =
    let next : n + 1 ≡ suc n = omega arith in
    let last : 0 + n ≡ n = omega arith in
    ap (λ m. flat_map f (range_with_len 0 m)) next
    ∙ ap (flat_map f) (range_more 0 n ∙ ap (λ m. range_with_len 0 n ++ m ∷ []) last)
    ∙ flat_map-append f (range_with_len 0 n) (n ∷ [])
    ∙ ap (λ last. flat_map f (range_with_len 0 n) ++ last) (append-nil (f n))

one_times : (n m : ℕ) → m + n * m ≡ suc n * m
one_times n m =
    let next : suc n * m ≡ n * m + m = suc-mul n m in
    omega arith

-- each slot has a cell for each event
pub slots_length : (votes : List (List ℕ × ℤ)) (events : List Event) (places : List ℕ) → length (flat_map (slot_of votes events) places) ≡ length places * length events
slots_length votes events [] = sym (zero-mul (length events))
slots_length votes events (place ∷ places) =
    let both : length (slot_of votes events place ++ flat_map (slot_of votes events) places) ≡ length (slot_of votes events place) + length (flat_map (slot_of votes events) places) = length-append _ _ in
    let one : length (slot_of votes events place) ≡ length events = length-map events _ in
    let rest : length (flat_map (slot_of votes events) places) ≡ length places * length events = slots_length votes events places in
    both ∙ ap (λ n. n + length (flat_map (slot_of votes events) places)) one ∙ ap (λ n. length events + n) rest ∙ one_times (length places) (length events)

pub whole_slots : (votes : List (List ℕ × ℤ)) (events : List Event) → length (cells_of votes events) % length events ≡ 0
whole_slots votes events = ap (λ n. n % length events) (slots_length votes events (range_with_len 0 (slots_of events))) ∙ mul-mod_left (length (range_with_len 0 (slots_of events))) (length events)
