-- Masks as contracts see them: a flag for each row, whether it is marked.
use Rattle.std.specs.Prelude.{◌≡◌, ◌==◌, ◌&&◌, ◌||◌, ℕ, List, Bool, not, map}
use Rattle.std.specs.List.{list_any}
use Rattle.std.specs.Simd.Lanes.{zip2}
use Rattle.gate_lanes.specs.declared.TheConstants.{MARKED}
use Rattle.gate_lanes.specs.Masks.{mark_if}

abbrev pub is_marked : ℕ → Bool
is_marked word = word == MARKED

-- the words of a mask
abbrev pub words_of : List Bool → List ℕ
words_of mask = map mark_if mask

-- the flags that words stand for
abbrev pub marks_of : List ℕ → List Bool
marks_of words = map is_marked words

-- Each word is all ones or 0.
abbrev pub AreMarks : List ℕ → Type 0
AreMarks words = words_of (marks_of words) ≡ words

-- two masks joined row by row
abbrev pub both : List Bool → List Bool → List Bool
both mask other = zip2 (λ a b. a && b) mask other

abbrev pub either : List Bool → List Bool → List Bool
either mask other = zip2 (λ a b. a || b) mask other

abbrev pub without : List Bool → List Bool → List Bool
without mask other = zip2 (λ a b. a && not b) mask other

-- The mask marks some row.
abbrev pub marks_any : List Bool → Bool
marks_any mask = list_any (λ a. a) mask
