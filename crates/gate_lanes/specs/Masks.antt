-- Masks of columns: a word for each row, all ones where the row is marked, and 0 where it isn't.
use Rattle.std.specs.Prelude.{◌==◌, ◌+◌, ◌-◌, ◌*◌, ◌/◌, ◌^◌, ℕ, List, map, length, slice_index, count_by, Bool, if◌then◌else◌, bit_and, bit_or}
use Rattle.std.specs.List.{list_any, range_with_len}
use Rattle.std.specs.Simd.Lanes.{zip2}
use Rattle.gate_lanes.specs.declared.TheConstants.{MARKED}

-- the number whose 32 bits are all ones
abbrev pub all_ones : ℕ
all_ones = 2 ^ 32 - 1

-- the word of a row, by whether it is marked
abbrev pub mark_if : Bool → ℕ
mark_if is_marked = if is_marked then MARKED else 0

-- The word is one of the ids.
abbrev pub is_among : List ℕ → ℕ → Bool
is_among ids word = list_any (λ id. word == id) ids

-- the mask of the rows of a column whose word is one of the ids
abbrev pub marked_any : List ℕ → List ℕ → List ℕ
marked_any ids column = map (λ word. mark_if (is_among ids word)) column

-- The id is in one of the row's cells. A row has one cell in each slot, and the slots stand one behind another, `rows` cells
-- each.
abbrev pub is_in_row : List ℕ → ℕ → ℕ → ℕ → Bool
is_in_row cells rows id row = list_any (λ slot. slice_index cells (slot * rows + row) == id) (range_with_len 0 (length cells / rows))

-- the mask of the rows that have the id in one of their cells
abbrev pub marked_slots : List ℕ → ℕ → ℕ → List ℕ
marked_slots cells rows id = map (λ row. mark_if (is_in_row cells rows id row)) (range_with_len 0 rows)

-- two masks joined word by word
abbrev pub both : List ℕ → List ℕ → List ℕ
both words others = zip2 bit_and words others

abbrev pub either : List ℕ → List ℕ → List ℕ
either words others = zip2 bit_or words others

-- a word, set to 0 where its flag is set
abbrev pub cleared_if : ℕ → ℕ → ℕ
cleared_if word flag = if flag == MARKED then 0 else word

abbrev pub cleared_where : List ℕ → List ℕ → List ℕ
cleared_where words flags = zip2 cleared_if words flags

-- how many rows a mask marks
abbrev pub count_marked : List ℕ → ℕ
count_marked mask = count_by (λ word. word == MARKED) mask
