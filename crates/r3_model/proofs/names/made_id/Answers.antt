use Rattle.std.proofs.Common.{◌≡◌, ℕ, List, ◌++◌, ap, ◌∙◌}
use Rattle.std.specs.Prelude.{take, decimal, replicate}
use Rattle.uuid.specs.declared.Variant.TheVariants.{RFC4122}
use Rattle.uuid.specs.declared.Version.TheVariants.{Sha1}
use Rattle.uuid.specs.Parts.{with_variant, with_version}
use Rattle.uuid.specs.Text.{hyphenated_text, lower}
use Rattle.sha1.specs.Sha1.{sha1}
use Rattle.r3_model.specs.Names as names
use Rattle.r3_model.specs.Names.{made_id}
use Rattle.r3_model.proofs.names.made_id.Goals as goal

abbrev uuid_of : List ℕ → List ℕ
uuid_of bytes = with_version (with_variant (take 16 (sha1 bytes)) RFC4122) Sha1

pub returns-in-Ok : goal.returns-in-Ok
unfolding made_id
returns-in-Ok c =
    let name : c.as_bytes.result.now ≡ decimal c.args.length = c.as_bytes.ensures.value ∙ c.format-name.ensures.text in
    let bytes : c.nil.result ++ c.as_bytes.result.now ≡ replicate 16 0 ++ decimal c.args.length = λ i. c.nil.ensures i ++ name i in
    c.in-Ok.ensures.made.0
    ∙ c.encode_lower-text.ensures.text
    ∙ ap (λ (b : List ℕ). hyphenated_text lower b) (c.hyphenated.ensures ∙ c.new_v5-uuid.ensures.value)
    ∙ ap (λ (b : List ℕ). hyphenated_text lower (uuid_of b)) bytes
