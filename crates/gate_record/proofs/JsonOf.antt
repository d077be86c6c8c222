-- What a reader of bytes found, as `json_of`.
use Rattle.std.proofs.Common.{◌≡◌, ◌∙◌, ℕ, List, Bool, true, false, cond, Some, None, refl, ap}
use Rattle.std.specs.Str.{IsUtf8, is_utf8}
use Rattle.std.proofs.lemmas.Str.{IsUtf8-from_is_utf8, is_utf8-from_IsUtf8}
use Rattle.serde_json.specs.Data.{Data}
use Rattle.serde_json.specs.Read.{read}
use Rattle.gate_record.specs.Json.{json_of}

-- bytes that are UTF-8 and read as a value
pub json_of_read : (bytes : List ℕ) (value : Data) → IsUtf8 bytes × (read bytes ≡ Some value) → json_of bytes ≡ Some value
json_of_read bytes value h = ap (λ b. cond b (read bytes) None) (is_utf8-from_IsUtf8 bytes h.0) ∙ h.1

none_by_test : (bytes : List ℕ) (b : Bool) → is_utf8 bytes ≡ b → (IsUtf8 bytes → read bytes ≡ None) → cond b (read bytes) None ≡ None
none_by_test bytes true e h = h (IsUtf8-from_is_utf8 bytes e)
none_by_test bytes false e h = refl

-- bytes that are no UTF-8, or don't read as a value
pub json_of_none : (bytes : List ℕ) → (IsUtf8 bytes → read bytes ≡ None) → json_of bytes ≡ None
json_of_none bytes h = none_by_test bytes (is_utf8 bytes) refl h

-- bytes that are known to be UTF-8
pub json_of_utf8 : (bytes : List ℕ) → IsUtf8 bytes → json_of bytes ≡ read bytes
json_of_utf8 bytes u = ap (λ b. cond b (read bytes) None) (is_utf8-from_IsUtf8 bytes u)

not_utf8 : (bytes : List ℕ) (b : Bool) → is_utf8 bytes ≡ b → (IsUtf8 bytes → ⊥) → cond b (read bytes) None ≡ None
not_utf8 bytes true e none = absurd (none (IsUtf8-from_is_utf8 bytes e))
not_utf8 bytes false e none = refl

-- bytes that are no UTF-8
pub json_of_not_utf8 : (bytes : List ℕ) → (IsUtf8 bytes → ⊥) → json_of bytes ≡ None
json_of_not_utf8 bytes none = not_utf8 bytes (is_utf8 bytes) refl none
