-- The IDs that the machine makes where none is given.
use Rattle.std.specs.Prelude.{ℕ, List, ◌++◌, take, decimal, replicate}
use Rattle.uuid.specs.declared.Variant.TheVariants.{RFC4122}
use Rattle.uuid.specs.declared.Version.TheVariants.{Sha1}
use Rattle.uuid.specs.Parts.{with_variant, with_version}
use Rattle.uuid.specs.Text.{hyphenated_text, lower}
use Rattle.sha1.specs.Sha1.{sha1}
use Rattle.r3_model.specs.Language.{Text}

-- the version 5 UUID of a name in the nil namespace (RFC 4122, section 4.3)
abbrev pub name_uuid : Text → List ℕ
name_uuid name = with_version (with_variant (take 16 (sha1 (replicate 16 0 ++ name))) RFC4122) Sha1

-- stands for an absent ID on a history of this length
unfoldable pub made_id : ℕ → Text
made_id n = hyphenated_text lower (name_uuid (decimal n))
