use Rattle.std.proofs.Common.{◌≡◌, Err, length, ap, ◌∙◌, arith, true}
use Rattle.r3_entry.specs.Bytes.{entry}
use Rattle.r3_entry.specs.declared.fault.EntryFault.TheVariants as misses
use Rattle.r3_entry.specs.Limits.{IsEntry}
use Rattle.r3_formed.proofs.LoadLaws.{last_all, follows_last, kept_more}
use Rattle.r3_formed.proofs.loading.load_kept.Goals as goal

pub returns-in-Err-clause-unformed : goal.returns-in-Err-clause-unformed
returns-in-Err-clause-unformed c = λ h same stand is e bytes formed.
    let fault : c.in-Err.fault ≡ misses.NotEntry = cc in
    c.in-Err.ensures.unformed h same stand (ap Err fault) e bytes (last_all IsEntry h e formed.limits) (follows_last h e formed)

pub returns-in-Ok-keep_entry-clause-ok : goal.returns-in-Ok-keep_entry-clause-ok
returns-in-Ok-keep_entry-clause-ok c = λ h same loads room.
    let e = c.in-Ok.entry in
    let f = c.in-Ok.ensures.follows h same loads.versions in
    let long : length c.args.payload.now ≡ length (entry e) = ap length c.in-Ok.ensures.entry.1 in (
      e,
      c.in-Ok.ensures.entry.1,
      record {
        formed = c.formed_goes_on.ensures h e loads.formed f.0 c.in-Ok.ensures.entry.0 (omega (arith, c.requires.bytes, long)) (omega (arith, c.requires.few, same)) (omega (arith, room, long));
        versions = f.1;
        cap = c.add_entry.ensures.cap ∙ loads.cap;
        entries = c.in-Ok-keep_entry.ensures ∙ kept_more true c.args.loaded.now.entries.items h e loads.entries;
        texts = loads.texts;
      },
    )
