-- Bytes that are no text.
use Rattle.std.proofs.Common.{◌≡◌, Bool, List, false, refl, true, ℕ}
use Rattle.std.proofs.lemmas.Str.{IsUtf8-from_is_utf8}
use Rattle.std.specs.Str.{IsUtf8, is_utf8}

as_tested : (bytes : List ℕ) (tested : Bool) → is_utf8 bytes ≡ tested → ¬ (IsUtf8 bytes) → is_utf8 bytes ≡ false
as_tested bytes true is none = absurd (none (IsUtf8-from_is_utf8 bytes is))
as_tested bytes false is none = is

-- the test fails of them
pub not_text : {bytes : List ℕ} → ¬ (IsUtf8 bytes) → is_utf8 bytes ≡ false
not_text {bytes} none = as_tested bytes (is_utf8 bytes) refl none
