use Rattle.std.proofs.Common.{rules, ◌≡◌, ◌∙◌, sym, string_bytes}
use borrow.Author.Tests.{tests}
use Rattle.std.specs.List.{list_all}
use Rattle.std.proofs.lemmas.Iterator.{YieldsList-from_slice}
use Rattle.std.proofs.lemmas.Iterator.Search.{all_from_yields_List}
use Rattle.std.proofs.lemmas.List.Folds.{list_all-map}
use Rattle.r3_words.specs.Forms.{is_word}
use Rattle.r3_words.proofs.line.are_words.Goals as goal

pub returns : goal.returns
returns c =
    let each : c.all.result ≡ list_all (λ word. is_word (string_bytes word)) c.args.words.now =
    all_from_yields_List (λ word. is_word (string_bytes word)) _ _ c.all.result c.all.ensures.ran
    (YieldsList-from_slice c.args.words.now cc) (λ x b q k. search (rules, tests)) in
    each ∙ sym (list_all-map is_word (λ word. string_bytes word) c.args.words.now)
