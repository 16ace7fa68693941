use Rattle.r3_top.proofs.Refusals.{no_program, no-lexed, no-parsed, one-program}
use Rattle.r3_top.proofs.functions.program_of.Goals as goal

pub returns-in-Err-Syntax-clause-refused : goal.returns-in-Err-Syntax-clause-refused
returns-in-Err-Syntax-clause-refused c = λ fault is.
    let failed = rw c.in-Err-Syntax.field-0-is at c.in-Err-Syntax.is in
    no_program c.args.text.now c.in-Ok.tokens.items c.deref.result.now c.in-Err-Syntax.at fault c.deref.ensures.value c.in-Ok.ensures.tokens
    (c.parse.ensures.place c.in-Err-Syntax.at failed) (c.parse.ensures.none c.in-Err-Syntax.at failed) is

pub returns-in-Err-Syntax-clause-none : goal.returns-in-Err-Syntax-clause-none
returns-in-Err-Syntax-clause-none c = λ fault is items program.
    let failed = rw c.in-Err-Syntax.field-0-is at c.in-Err-Syntax.is in
    no-parsed c.one_reading.ensures c.args.text.now c.in-Ok.tokens.items c.deref.result.now c.deref.ensures.value c.in-Ok.ensures.tokens
    (c.parse.ensures.none c.in-Err-Syntax.at failed) items program

pub returns-in-Err-Lex-clause-none : goal.returns-in-Err-Lex-clause-none
returns-in-Err-Lex-clause-none c = λ fault is items program.
    let failed = rw c.in-Err-Lex.field-0-is at c.in-Err-Lex.is in
    no-lexed c.one_reading.ensures c.args.text.now c.in-Err-Lex.at (c.tokens.ensures.refused c.in-Err-Lex.at failed) items program

pub returns-in-Ok-parse-clause-only : goal.returns-in-Ok-parse-clause-only
returns-in-Ok-parse-clause-only c = λ items program.
    one-program c.one_reading.ensures c.args.text.now c.in-Ok.tokens.items c.deref.result.now c.in-Ok-parse.program.items.items c.deref.ensures.value c.in-Ok.ensures.tokens
    c.in-Ok-parse.ensures.only items program
