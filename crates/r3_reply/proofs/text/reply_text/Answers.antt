use Rattle.r3_reply.specs.Replies.{as_reply}
use Rattle.r3_reply.proofs.NoFloat.{of_reply}
use Rattle.r3_reply.proofs.text.reply_text.Goals as goal

pub line-requires : goal.line-requires
line-requires c =
    record { no_float = rw c.in_ok-json.ensures (of_reply (as_reply c.args.reply.now)) }
