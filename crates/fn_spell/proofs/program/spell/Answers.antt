use Rattle.std.proofs.Common.{sym, ap, ◌∙◌, subst}
use Rattle.fn_spell.specs.Pieces.{spaced}
use Rattle.fn_spell.specs.Spelling.{program_pieces}
use Rattle.fn_spell.specs.Limits.{IsReadAs}
use Rattle.fn_spell.proofs.LexLemmas.{spelling_is_read}
use Rattle.fn_spell.proofs.program.spell.Goals as goal

pub returns-clause-read : goal.returns-clause-read
returns-clause-read c = λ h l.
    let items = c.args.program.now.items.items in
    subst (λ b. IsReadAs b items) (sym (c.in_ok-bytes.ensures ∙ ap (λ is. spaced (program_pieces is)) c.as_slice.ensures.value)) (spelling_is_read items h l)
