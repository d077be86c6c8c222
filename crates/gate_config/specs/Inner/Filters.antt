-- Filters for sets of names.
use Rattle.std.specs.Prelude.{◌≡◌, ◌+◌, ◌-◌, ◌*◌, ◌%◌, ℕ, List, Bool, length, nat_lt, slice_index, slice_index_or, true, false, String, if◌then◌else◌}
use Rattle.std.specs.BTreeSet.{contains_text}
use Rattle.std.specs.Global.{Global}
use Rattle.std.specs.declared.collections.btree_set.BTreeSet.{BTreeSet}
use Rattle.gate_config.specs.declared.name_filter.NameFilter.{NameFilter}

-- the place of a name's mark
abbrev pub mark_of : List ℕ → ℕ
mark_of name = if nat_lt (length name) 2 then 0 else (slice_index name (length name - 1) * 8 + slice_index name (length name - 2)) % 64

-- The name's mark is set.
abbrev pub passes : NameFilter → List ℕ → Bool
passes filter name = slice_index_or filter.marks (mark_of name) false

-- Each of these names passes the filter.
abbrev pub AreFiltered : BTreeSet (String Global) Global → NameFilter → Type 0
AreFiltered names filter = (name : List ℕ) → contains_text names name ≡ true → passes filter name ≡ true
