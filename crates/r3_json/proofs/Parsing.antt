-- Bytes that are no JSON.
use Rattle.std.proofs.Common.{◌≡◌, ℕ, List, true, false, None, if◌then◌else◌, IsUtf8, refl}
use Rattle.std.proofs.lemmas.Str.{IsUtf8-from_is_utf8}
use Rattle.std.specs.Str.{is_utf8}
use Rattle.serde_json.specs.Read.{read}
use Rattle.r3_json.specs.Lines.{parse}

pub not_parsed : (bytes : List ℕ) → (IsUtf8 bytes → read bytes ≡ None) → parse bytes ≡ None
not_parsed bytes refused =
    elim (is_utf8 bytes) as (λ b. is_utf8 bytes ≡ b → (if b then read bytes else None) ≡ None)
    [ true ↦ λ e. refused (IsUtf8-from_is_utf8 bytes e) | false ↦ λ e. refl ] refl
