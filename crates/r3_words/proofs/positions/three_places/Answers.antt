use Rattle.std.proofs.Common.{rules, ◌≡◌, ◌∙◌, ap, ap₂, codes, true}
use Rattle.clap.specs.Words.{App, app_of, new_rule, rule_of, with_rule}
use Rattle.clap.specs.Simple.{app_of_fields}
use Rattle.r3_words.specs.Places.{nameless, required}
use Rattle.r3_words.proofs.positions.three_places.Goals as goal

abbrev no_name : App → App
no_name a = record a { top = record a.top { no_binary_name = true } }

abbrev no_help : App → App
no_help a = record a { top = record a.top { disable_help_flag = true } }

pub returns : goal.returns
returns c =
    let word_is : rule_of c.action-word.result ≡ required = search rules in
    let first_is : rule_of c.new-first.result ≡ new_rule (codes "first") = search rules in
    let second_is : rule_of c.new-second.result ≡ new_rule (codes "second") = search rules in
    let named : app_of c.no_binary_name.result ≡ no_name (app_of c.new-2.result) = ap app_of_fields
    c.no_binary_name.ensures in
    let helped : app_of c.disable_help_flag.result ≡ no_help (app_of c.no_binary_name.result) = ap
    app_of_fields c.disable_help_flag.ensures in
    let base : app_of c.disable_help_flag.result ≡ nameless = helped ∙ ap no_help (named
    ∙ ap no_name c.new-2.ensures.app) in
    c.in_ok-line.ensures.shape (search rules)
    ∙ ap₂ with_rule (c.in_ok-arg-2.ensures.shape (search rules)
    ∙ ap₂ with_rule (c.in_ok-arg.ensures.shape (search rules)
    ∙ ap₂ with_rule base word_is) first_is) second_is
