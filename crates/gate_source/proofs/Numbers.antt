-- What a source has put.
use Rattle.std.proofs.Common.{◌≡◌, ◌∙◌, ap, sym, subst, ℕ, suc, ◌+◌, ◌<◌, ◌≤◌, List, [], ◌∷◌, ◌++◌, Bool, true, false, length, length-append, map, arith, refl}
use Rattle.std.specs.Prelude.{All}
use Rattle.std.specs.List.{enumerate_from}
use Rattle.std.proofs.lemmas.List.{length-map}
use Rattle.std.proofs.lemmas.List.Elements.{All-append, All-cons, All-head, All-nil, All-tail}
use Rattle.std.proofs.lemmas.List.FromFn.{length-enumerate_from}
use Rattle.gate_record.specs.declared.record.Record.{Record}
use Rattle.gate_record.specs.declared.transit.ConnEntry.{ConnEntry}
use Rattle.gate_record.specs.declared.transit.ConnEntry.TheVariants as entry
use Rattle.gate_record.specs.Entries.{AreEntriesOf, beside}
use Rattle.gate_record.specs.Entries as entries
use Rattle.gate_record.specs.Generations.{RecordsHaveGenerations}
use Rattle.gate_queue.specs.Seats.{SenderSeat, with_put}
use Rattle.gate_source.specs.Sources.{AcceptedAreNumbered, AreNumbered, HasAccepted, NeverFalls, State, accepted, accepts, begins, renewed, renews}

length_more : {X : Type 0} (xs : List X) (y : X) → length xs + 1 ≡ length (xs ++ y ∷ [])
length_more xs y = omega (arith, length-append xs (y ∷ []))

length_beside : (renewals : List ℕ) (records : List Record) → length (beside renewals records) ≡ length records
length_beside renewals records = length-map (enumerate_from 0 records) _ ∙ length-enumerate_from 0 records

all_higher : (n m : ℕ) (xs : List ℕ) → n ≤ m → All (λ x. x ≤ n) xs → All (λ x. x ≤ m) xs
all_higher n m xs h all = λ k d below. let low = all k d below in omega (arith, h, low)

-- one more at the end that none before it is above
rises_on : (n : ℕ) (xs : List ℕ) → All (λ x. x ≤ n) xs → NeverFalls xs → NeverFalls (xs ++ n ∷ [])
rises_on n [] all rising = (All-nil (λ y. n ≤ y), tt)
rises_on n (x ∷ xs) all rising =
    (All-append (λ y. x ≤ y) xs (n ∷ []) rising.0 (All-cons (λ y. x ≤ y) n [] (All-head (λ y. y ≤ n) x xs all) (All-nil (λ y. x ≤ y))), rises_on n xs (All-tail (λ y. y ≤ n) x xs all) rising.1)

module _ (laws : RecordsHaveGenerations) (seat : SenderSeat ConnEntry) (generations : ℕ) (empty : seat.put ≡ []) (some : 0 < generations) where
  one_record : {source : State} {records : List Record} {renewals : List ℕ} (line : Record) → AreNumbered seat generations source records renewals → AreNumbered seat generations (accepted source line) (records ++ line ∷ []) renewals
  one_record {source} {records} {renewals} line was =
      let many : length (beside renewals records) ≡ source.count = length_beside renewals records ∙ sym was.count in
      let more : beside renewals (records ++ line ∷ []) ≡ beside renewals records ++ (source.generation, line) ∷ [] =
      laws.one_record renewals records line was.within ∙ ap (λ g. beside renewals records ++ (g, line) ∷ []) (sym was.marks) in
      let put : AreEntriesOf (source.seat.put ++ entry.Numbered source.count line ∷ []) (beside renewals (records ++ line ∷ [])) source.generation false =
      subst (λ (x : ℕ × List (ℕ × Record)). AreEntriesOf (source.seat.put ++ entry.Numbered x.0 line ∷ []) x.1 source.generation false) (λ i. (many i, sym more i)) (entries.accepts line was.put) in
      record {
        put = put;
        ended = entries.closes put;
        count = ap (λ n. n + 1) was.count ∙ length_more records line;
        marks = was.marks;
        rising = was.rising;
        within = let longer : length records + 1 ≡ length (records ++ line ∷ []) = length_more records line in all_higher (length records) (length (records ++ line ∷ [])) renewals (omega (arith, longer)) was.within;
        few = was.few;
        queue = was.queue;
        sender = was.sender;
      }

  one_renewal : {source : State} {records : List Record} {renewals : List ℕ} → AreNumbered seat generations source records renewals → source.generation + 1 < generations →
      AreNumbered seat generations (renewed source) records (renewals ++ length records ∷ [])
  one_renewal {source} {records} {renewals} was later =
      let n = length records in
      let next : suc source.generation ≡ source.generation + 1 = omega arith in
      let put : AreEntriesOf (source.seat.put ++ entry.Renew ∷ []) (beside (renewals ++ n ∷ []) records) (source.generation + 1) false =
      subst (λ (x : List (ℕ × Record) × ℕ). AreEntriesOf (source.seat.put ++ entry.Renew ∷ []) x.0 x.1 false) (λ i. (sym (laws.one_renewal renewals records) i, next i)) (entries.renews was.put) in
      let longer : length renewals + 1 ≡ length (renewals ++ n ∷ []) = length_more renewals n in
      let marks = was.marks in
      record {
        put = put;
        ended = entries.closes put;
        count = was.count;
        marks = ap (λ g. g + 1) was.marks ∙ longer;
        rising = rises_on n renewals was.within was.rising;
        within = All-append (λ m. m ≤ n) renewals (n ∷ []) was.within (All-cons (λ m. m ≤ n) n [] (omega arith) (All-nil (λ m. m ≤ n)));
        few = omega (arith, later, marks, longer);
        queue = was.queue;
        sender = was.sender;
      }

  all_numbered : {source : State} {records : List Record} {renewals : List ℕ} → HasAccepted seat generations source records renewals → AreNumbered seat generations source records renewals
  all_numbered begins = record {
    put = subst (λ put. AreEntriesOf put [] 0 false) (sym empty) entries.begins;
    ended = subst (λ put. AreEntriesOf (put ++ entry.End ∷ []) [] 0 true) (sym empty) (entries.closes entries.begins);
    count = refl;
    marks = refl;
    rising = tt;
    within = All-nil (λ m. m ≤ 0);
    few = some;
    queue = refl;
    sender = refl;
  }
  all_numbered (accepts line before) = one_record line (all_numbered before)
  all_numbered (renews before later) = one_renewal (all_numbered before) later

pub accepted_are_numbered : RecordsHaveGenerations → AcceptedAreNumbered
accepted_are_numbered laws seat generations source records renewals empty some so_far = all_numbered laws seat generations empty some so_far
