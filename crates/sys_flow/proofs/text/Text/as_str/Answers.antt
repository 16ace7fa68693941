use Rattle.std.proofs.Common.{◌≡◌, string_bytes, true}
use Rattle.std.specs.Str.{is_utf8}
use Rattle.std.proofs.lemmas.Str.{is_utf8-from_IsUtf8, IsUtf8-string_bytes}
use Rattle.sys_flow.proofs.text.Text.as_str.Goals as goal

pub returns-clause-utf8 : goal.returns-clause-utf8
returns-clause-utf8 c =
    let h : is_utf8 (string_bytes c.self.inside.text) ≡ true = is_utf8-from_IsUtf8 _ (IsUtf8-string_bytes c.self.inside.text) in
    cc
