use Rattle.std.proofs.Common.{◌≡◌, ◌+◌, ◌++◌, Err, length, map, ap, ◌∙◌, arith, false}
use Rattle.r3_entry.specs.Bytes.{entry}
use Rattle.r3_entry.specs.declared.fault.EntryFault.TheVariants as misses
use Rattle.r3_entry.specs.Limits.{IsEntry}
use Rattle.r3_formed.specs.Answers.{text_at, text_of}
use Rattle.r3_formed.proofs.LoadLaws.{last_all, follows_last, texts_more}
use Rattle.r3_formed.proofs.loading.load_moved.Goals as goal

pub returns-in-Err-clause-unformed : goal.returns-in-Err-clause-unformed
returns-in-Err-clause-unformed c = λ h same stand is e bytes formed.
    let fault : c.in-Err.fault ≡ misses.NotEntry = cc in
    c.in-Err.ensures.unformed h same stand (ap Err fault) e bytes (last_all IsEntry h e formed.limits) (follows_last h e formed)

pub returns-in-Ok-keep_text-clause-ok : goal.returns-in-Ok-keep_text-clause-ok
returns-in-Ok-keep_text-clause-ok c = λ h same loads room.
    let m = c.in-Ok.ensures.entry h same loads.versions in
    let long : length c.args.payload.now ≡ length (entry m.0) = ap length m.3 in (
      m.0,
      m.3,
      record {
        formed = c.formed_goes_on.ensures h m.0 loads.formed m.4 m.2 (omega (arith, c.requires.bytes, long)) (omega (arith, c.requires.few, same)) (omega (arith, room, long));
        versions = m.5;
        cap = c.move_payload.ensures.cap ∙ loads.cap;
        entries = loads.entries;
        texts = c.in-Ok-keep_text.ensures ∙ ap (λ a. map text_of c.args.loaded.now.texts.items ++ text_at (c.args.count + 1) a) m.1
            ∙ texts_more false (map text_of c.args.loaded.now.texts.items) h m.0 c.args.count same loads.texts;
      },
    )
