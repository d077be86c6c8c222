-- The order of keys by which a map finds them, with its laws. Only the same key ties with a key.
use Rattle.std.specs.Prelude.{ℕ, ℤ, pos, List, []}
use Rattle.std.specs.Cmp.{IsTotalOrder, int_cmp_total, nat_cmp_total, on_total, then_total}
use Rattle.std.specs.Cmp.Lexicographic.{slice_cmp}
use Rattle.std.specs.Ordering.{int_cmp, nat_cmp, on, then_cmp}
use Rattle.std.specs.declared.cmp.Ordering.{Ordering}
use Rattle.std.proofs.lemmas.Cmp.{nat_list_cmp_total}
use Rattle.gate_items.specs.declared.key.Key.{Key}
use Rattle.gate_items.specs.declared.key.Key.TheVariants as key

abbrev pub kind_of : Key → ℕ
kind_of (key.Change conn number) = 0
kind_of (key.Ref conn project refname newrev) = 1

abbrev pub conn_of : Key → ℕ
conn_of (key.Change conn number) = conn.0
conn_of (key.Ref conn project refname newrev) = conn.0

abbrev pub number_of : Key → ℤ
number_of (key.Change conn number) = number
number_of (key.Ref conn project refname newrev) = pos 0

abbrev pub project_of : Key → List ℕ
project_of (key.Change conn number) = []
project_of (key.Ref conn project refname newrev) = project

abbrev pub refname_of : Key → List ℕ
refname_of (key.Change conn number) = []
refname_of (key.Ref conn project refname newrev) = refname

abbrev pub newrev_of : Key → List ℕ
newrev_of (key.Change conn number) = []
newrev_of (key.Ref conn project refname newrev) = newrev

-- Changes come before refs; keys of one kind are compared field by field.
abbrev pub key_cmp : Key → Key → Ordering
key_cmp =
    then_cmp (on kind_of nat_cmp)
    (then_cmp (on conn_of nat_cmp)
    (then_cmp (on number_of int_cmp)
    (then_cmp (on project_of (slice_cmp nat_cmp))
    (then_cmp (on refname_of (slice_cmp nat_cmp))
    (on newrev_of (slice_cmp nat_cmp))))))

pub key_cmp_total : IsTotalOrder key_cmp
key_cmp_total =
    then_total (on_total kind_of nat_cmp_total)
    (then_total (on_total conn_of nat_cmp_total)
    (then_total (on_total number_of int_cmp_total)
    (then_total (on_total project_of nat_list_cmp_total)
    (then_total (on_total refname_of nat_list_cmp_total)
    (on_total newrev_of nat_list_cmp_total)))))
