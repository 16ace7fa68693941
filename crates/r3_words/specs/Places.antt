-- Where clap puts the words behind the path of the store: each in the next of three places.
use Rattle.std.specs.Prelude.{true, [], ◌∷◌, Option, Some, None, codes}
use Rattle.clap.specs.Words.{App, Rule, new_app, new_rule, with_rule}
use Rattle.clap.specs.Simple.{new_shape}
use Rattle.clap.specs.declared.builder.ArgAction.TheVariants.{Set}
use Rattle.r3_words.specs.Numbers.{Text}
use Rattle.r3_words.specs.Forms.{Form, form_of}

-- the first word has to be there
abbrev pub required : Rule
required = record (new_rule (codes "command")) { required = true; action = Some Set }

-- the words have no name of a program in front, and `--help` is no flag
abbrev pub nameless : App
nameless = record (new_app (codes "r3")) {
  top = record (new_shape (codes "r3")) { no_binary_name = true; disable_help_flag = true };
}

-- the command line as clap sees it: one word, and at most two more
abbrev pub three_places : App
three_places = with_rule (with_rule (with_rule nameless required) (new_rule (codes "first")))
    (new_rule (codes "second"))

-- what the words in the places ask for
abbrev pub placed : Option Text → Option Text → Option Text → Option Form
placed None first second = None
placed (Some word) None second = form_of (word ∷ [])
placed (Some word) (Some a) None = form_of (word ∷ a ∷ [])
placed (Some word) (Some a) (Some b) = form_of (word ∷ a ∷ b ∷ [])
