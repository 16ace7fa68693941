use Rattle.fn_cases.proofs.reading.parsed.Goals as goal

pub returns-in-Err-Syntax-clause-refused : goal.returns-in-Err-Syntax-clause-refused
returns-in-Err-Syntax-clause-refused c =
    let failed = rw c.in-Err-Syntax.field-0-is at c.in-Err-Syntax.is in
    record {
      tokens = c.args.tokens.now;
      lexed = c.requires.lexed;
      place = c.parse.ensures.place c.in-Err-Syntax.at failed;
      none = c.parse.ensures.none c.in-Err-Syntax.at failed;
    }
