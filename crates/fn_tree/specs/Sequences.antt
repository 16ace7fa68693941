-- Operators on texts and lists.
use Rattle.r3_value.specs.Made.{made_list}
use Rattle.r3_value.specs.View.{vals_of}
use Rattle.r3_value.specs.declared.fault.ValFault.{ValFault}
use Rattle.r3_value.specs.declared.value.Outcome.{Outcome}
use Rattle.r3_value.specs.declared.value.Outcome.TheVariants.{Value, Failure}
use Rattle.r3_value.specs.declared.value.Val.{Val}
use Rattle.r3_value.specs.declared.value.Val.TheVariants.{Int, Text, List as ListOf}
use Rattle.std.specs.Fmt.{signed_decimal}
use Rattle.std.specs.Prelude.{ℕ, ℤ, pos, negsuc, List, ◌++◌, length, codes, Option, Some, None, Result, Ok, Err, nat_lt, if◌then◌else◌, slice_get}
use Rattle.fn_tree.specs.Values.{int_of, items_of}
use Rattle.fn_tree.specs.Arithmetic.{type_failure}

-- a value, unless it passed a limit
abbrev pub value_or_size : Result Val ValFault → Outcome
value_or_size (Ok v) = Value v
value_or_size (Err fault) = Failure (codes "size")

-- a list of at most 4,096 bytes, whose lists nest at most 16 deep
unfoldable pub list_or_size : List Val → Outcome
list_or_size vs = value_or_size (made_list vs)

-- a text of at most 4,091 bytes
unfoldable pub text_or_size : List ℕ → Outcome
text_or_size t = if nat_lt 4091 (length t) then Failure (codes "size") else Value (Text t)

-- two texts or two lists, one after the other
unfoldable pub joined : Val → Val → Outcome
joined (Text s) (Text t) = text_or_size (s ++ t)
joined (ListOf vs) (ListOf ws) = list_or_size (vals_of vs ++ vals_of ws)
joined _ _ = type_failure

unfoldable pub length_of : Val → Outcome
length_of (Text t) = Value (Int (pos (length t)))
length_of (ListOf vs) = Value (Int (pos (length (vals_of vs))))
length_of _ = type_failure

unfoldable pub shown : Val → Outcome
shown (Int z) = Value (Text (signed_decimal z))
shown (Text t) = Value (Text t)
shown _ = type_failure

abbrev item_or_index : Option Val → Outcome
item_or_index (Some v) = Value v
item_or_index None = Failure (codes "index")

abbrev pub item_at : List Val → ℤ → Outcome
item_at vs (pos n) = item_or_index (slice_get vs n)
item_at vs (negsuc n) = Failure (codes "index")

abbrev pub indexed_by : Option (List Val) → Option ℤ → Outcome
indexed_by (Some vs) (Some i) = item_at vs i
indexed_by None i = type_failure
indexed_by (Some vs) None = type_failure

unfoldable pub indexed : Val → Val → Outcome
indexed a i = indexed_by (items_of a) (int_of i)
