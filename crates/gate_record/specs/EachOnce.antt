-- Lists in which each value stands once.
use Rattle.std.specs.Prelude.{List, [], ◌∷◌, ◌++◌, Bool, fold, if◌then◌else◌}
use Rattle.std.specs.List.{list_any}

-- the list with one more value at its end, unless an equal value is in it already
abbrev pub with_new : {A : Type 0} → (A → A → Bool) → List A → A → List A
with_new same values value = if list_any (same value) values then values else values ++ value ∷ []

-- each value of a list once, at the place where it stands first
abbrev pub each_once : {A : Type 0} → (A → A → Bool) → List A → List A
each_once same values = fold (with_new same) [] values
