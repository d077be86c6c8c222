-- The names of a project's jobs, while they are read.
use Rattle.std.specs.Prelude.{◌≡◌, ℕ, List, Option, Some, None, String, fold}
use Rattle.std.specs.BTreeSet.{contains_text}
use Rattle.std.specs.Global.{Global}
use Rattle.std.specs.declared.collections.btree_set.BTreeSet.{BTreeSet}
use Rattle.std.specs.List.{list_any}
use Rattle.std.specs.Str.{bytes_eq}
use Rattle.gate_record.specs.EachOnce.{with_new}

-- the names with one more at the end, unless it is among them
abbrev pub with_job : List (List ℕ) → List ℕ → List (List ℕ)
with_job names name = with_new bytes_eq names name

abbrev pub with_jobs : List (List ℕ) → List (List ℕ) → List (List ℕ)
with_jobs names more = fold with_job names more

-- The set has these names and no others.
abbrev pub HasAll : List (List ℕ) → BTreeSet (String Global) Global → Type 0
HasAll names set = (name : List ℕ) → contains_text set name ≡ list_any (bytes_eq name) names

-- If there is a set, it has these names and no others.
abbrev pub AreSeen : List (List ℕ) → Option (BTreeSet (String Global) Global) → Type 0
AreSeen names None = Unit {0}
AreSeen names (Some set) = HasAll names set
