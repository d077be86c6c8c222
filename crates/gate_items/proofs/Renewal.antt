-- Build sets that are renumbered one after another, by writes at places that rise.
use Rattle.std.proofs.Common.{◌≡◌, ◌∙◌, ◌+◌, ◌-◌, ◌<◌, ◌≤◌, ℕ, List, [], ◌∷◌, ◌++◌, length, take, drop, get_or, set, refl, sym, ap, arith, append_assoc, length-append, length-drop}
use Rattle.std.proofs.lemmas.List.{drop-append-le, drop_more, get_or_at, length-take-le, set_at, take_more}
use Rattle.gate_items.specs.declared.ring.Numbered.{Numbered}
use Rattle.gate_items.specs.Inner.Ring.{numbered_set, renumbered}

length-renumbered : (n : ℕ) (items : List Numbered) → length (renumbered n items) ≡ length items
length-renumbered n [] = refl
length-renumbered n (item ∷ items) = let rest : length (renumbered (n + 1) items) ≡ length items = length-renumbered (n + 1) items in omega (arith, rest)

renumbered-last : (n m : ℕ) (items : List Numbered) (item : Numbered) → n + length items ≡ m → renumbered n (items ++ item ∷ []) ≡ renumbered n items ++ numbered_set m item ∷ []
renumbered-last n m [] item e = let same : n ≡ m = omega (arith, e) in ap (λ k. numbered_set k item ∷ []) same
renumbered-last n m (x ∷ items) item e = ap (λ ys. numbered_set n x ∷ ys) (renumbered-last (n + 1) m items item (omega (arith, e)))

module _ (old : List Numbered) (from place next set_number : ℕ) (after : from ≤ place) (inside : place < length old) (number : set_number + from ≡ next + place) where
  abbrev middle : List Numbered
  middle = drop from (take place old)

  abbrev front : List Numbered
  front = take from old ++ renumbered next middle

  length-middle : length middle ≡ place - from
  length-middle = omega (arith, length-drop from (take place old), length-take-le place old (omega (arith, inside)))

  length-front : length front ≡ place
  length-front =
      let a : length (take from old) ≡ from = length-take-le from old (omega (arith, after, inside)) in
      let b : length (renumbered next middle) ≡ length middle = length-renumbered next middle in
      omega (arith, length-append (take from old) (renumbered next middle), a, b, length-middle, after)

  more : (d : Numbered) → drop from (take (place + 1) old) ≡ middle ++ get_or old place d ∷ []
  more d =
      ap (drop from) (take_more old place d inside)
      ∙ drop-append-le from (take place old) (get_or old place d ∷ []) (omega (arith, after, length-take-le place old (omega (arith, inside))))

  front_more : (d : Numbered) → take from old ++ renumbered next (drop from (take (place + 1) old)) ≡ front ++ numbered_set set_number (get_or old place d) ∷ []
  front_more d =
      ap (λ ys. take from old ++ renumbered next ys) (more d)
      ∙ ap (λ ys. take from old ++ ys) (renumbered-last next set_number middle (get_or old place d) (omega (arith, length-middle, number, after)))
      ∙ sym (append_assoc (take from old) (renumbered next middle) (numbered_set set_number (get_or old place d) ∷ []))

  next_step : (d : Numbered) (xs new : List Numbered) → xs ≡ front ++ drop place old → new ≡ set xs place (numbered_set set_number (get_or xs place d)) → new ≡ (take from old ++ renumbered next (drop from (take (place + 1) old))) ++ drop (place + 1) old
  next_step d xs new e w =
      let parts : xs ≡ front ++ get_or old place d ∷ drop (place + 1) old = e ∙ ap (λ ys. front ++ ys) (drop_more old place d inside) in
      let read : get_or xs place d ≡ get_or old place d = ap (λ ys. get_or ys place d) parts ∙ get_or_at front (get_or old place d) (drop (place + 1) old) d place length-front in
      w
      ∙ ap (λ y. set xs place (numbered_set set_number y)) read
      ∙ ap (λ ys. set ys place (numbered_set set_number (get_or old place d))) parts
      ∙ set_at front (get_or old place d) (drop (place + 1) old) (numbered_set set_number (get_or old place d)) place length-front
      ∙ sym (append_assoc front (numbered_set set_number (get_or old place d) ∷ []) (drop (place + 1) old))
      ∙ ap (λ ys. ys ++ drop (place + 1) old) (sym (front_more d))

-- some item is there, to read past the end of a list with
pub renew_step : (old : List Numbered) (from place next set_number : ℕ) → from ≤ place → place < length old → set_number + from ≡ next + place → (xs new : List Numbered) → xs ≡ (take from old ++ renumbered next (drop from (take place old))) ++ drop place old → ((d : Numbered) → new ≡ set xs place (numbered_set set_number (get_or xs place d))) → new ≡ (take from old ++ renumbered next (drop from (take (place + 1) old))) ++ drop (place + 1) old
renew_step [] from place next set_number after inside number xs new e w = absurd (omega (arith, inside))
renew_step (y ∷ ys) from place next set_number after inside number xs new e w = next_step (y ∷ ys) from place next set_number after inside number y xs new e (w y)
