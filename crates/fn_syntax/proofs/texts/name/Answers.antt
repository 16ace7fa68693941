use Rattle.fn_syntax.proofs.TextLemmas.{named_ascii, named_short}
use Rattle.fn_syntax.proofs.texts.name.Goals as goal

pub txt-requires : goal.txt-requires
txt-requires c = record { ascii = named_ascii _ _ c.requires.kind c.requires.token.is; short = named_short _ _ c.requires.kind c.requires.token.within }
