-- The operators.
unfoldable pub use Rattle.fn_tree.specs.Arithmetic.{type_failure, fits_i64, int_or_overflow, on_ints, on_int, divided, sum, difference, product, quotient, remainder, negated}
unfoldable pub use Rattle.fn_tree.specs.Comparison.{equal, unequal, bytes_lt, compared, less, less_or_equal, greater, greater_or_equal, on_truth, inverted, truth}
unfoldable pub use Rattle.fn_tree.specs.Sequences.{value_or_size, list_or_size, text_or_size, joined, length_of, shown, item_at, indexed_by, indexed}
