use Rattle.r3_entry.proofs.EntryUnique.{entry_unique}
use Rattle.r3_entry.proofs.laws.one_spelling.Goals as goal

pub returns : goal.returns
returns c = λ d e a b hd he s. entry_unique.one d e a b hd he s
