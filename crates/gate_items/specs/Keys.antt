-- Keys, compared field by field.
use Rattle.std.specs.Prelude.{◌&&◌, nat_eq, Bool, false}
use Rattle.std.specs.Ordering.{int_eq}
use Rattle.std.specs.Str.{bytes_eq}
use Rattle.gate_items.specs.declared.key.Key.{Key}
use Rattle.gate_items.specs.declared.key.Key.TheVariants as key

abbrev pub is_same : Key → Key → Bool
is_same (key.Change conn number) (key.Change other_conn other_number) = nat_eq conn.0 other_conn.0 && int_eq number other_number
is_same (key.Ref conn project refname newrev) (key.Ref other_conn other_project other_refname other_newrev) =
    nat_eq conn.0 other_conn.0
    && bytes_eq project other_project
    && bytes_eq refname other_refname
    && bytes_eq newrev other_newrev
is_same (key.Change conn number) (key.Ref other_conn project refname newrev) = false
is_same (key.Ref conn project refname newrev) (key.Change other_conn number) = false
