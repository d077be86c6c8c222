-- What the parser of `regex` refuses.
use Rattle.std.proofs.Common.{◌≢◌, ℕ, List, inl, inr}
use Rattle.regex.specs.Patterns.{default_config}
use Rattle.regex_syntax.specs.Verdict.{Refuses}
use Rattle.regex_syntax.specs.declared.error.ErrorKind.{ErrorKind}
use Rattle.regex_syntax.specs.declared.error.ErrorKind.TheVariants.{OutOfMemory}
use Rattle.gate_rule.specs.Built.{IsUnread}

-- a refusal that isn't for want of memory says that the text isn't read
pub unread : (text : List ℕ) (kind : ErrorKind) → Refuses default_config text kind → kind ≢ OutOfMemory → IsUnread text
unfolding Refuses
unread text kind (inl memory) other = absurd (other memory)
unread text kind (inr (inl nothing)) other = inl nothing
unread text kind (inr (inr deep)) other = inr deep.1
