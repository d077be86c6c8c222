-- What private contracts and proofs say of a text that isn't built, beside `Built`.
use Rattle.std.specs.Prelude.{ℕ, List}
use Rattle.gate_rule.specs.declared.pattern.BuildFault.{BuildFault}
use Rattle.gate_rule.specs.declared.pattern.BuildFault.TheVariants as build
use Rattle.gate_rule.specs.Built.{IsRead, IsUnread}

-- What is known of a text that isn't built, by the cause. `regex` limits the size by a number of bytes, for which there is no
-- definition.
abbrev pub IsNotBuilt : List ℕ → BuildFault → Type 0
IsNotBuilt text build.Memory = Unit {0}
IsNotBuilt text build.Unread = IsUnread text
IsNotBuilt text build.TooLarge = IsRead text
