use Rattle.std.proofs.Common.{map, string_bytes}
use Rattle.clap.specs.Words.{app_of}
use Rattle.r3_words.proofs.PlaceLemmas.{placed_by, none_by}
use Rattle.r3_words.proofs.positions.parse.Goals as goal

pub returns-in-Ok : goal.returns-in-Ok
returns-in-Ok c =
    placed_by (app_of c.in_ok-line.line) (map string_bytes c.args.words.now) c.in-Ok.matches
    c.in_ok-line.ensures c.requires
    c.in-Ok.ensures.matches c.in-Ok.ensures.kinds

pub returns-else-is_memory : goal.returns-else-is_memory
returns-else-is_memory c =
    none_by (app_of c.in_ok-line.line) (map string_bytes c.args.words.now) c.in-Err.error
    c.in_ok-line.ensures c.requires
    c.in-Err.ensures.kinds (c.is_memory.ensures c.if-is_memory.false)
