-- How many items of each kind a program has.
use Rattle.std.specs.Prelude.{Bool, true, false, List, count_by, codes}
use Rattle.serde_json.specs.Data.{Data, number, unsigned, object, member, no_members}
use Rattle.fn_tree.specs.declared.program.Item.{Item}
use Rattle.fn_tree.specs.declared.program.Item.TheVariants as item
use Rattle.r3_top.specs.declared.counts.ItemKind.{ItemKind}
use Rattle.r3_top.specs.declared.counts.ItemKind.TheVariants as kinds

-- the item is of this kind
abbrev pub is_of : ItemKind → Item → Bool
is_of kinds.Flow (item.Flow name params body) = true
is_of kinds.Helper (item.Helper name params body) = true
is_of kinds.Outside (item.Outside name params) = true
is_of kinds.Queue (item.Queue name bound) = true
is_of kinds.Table (item.Table name) = true
is_of kinds.Txn (item.Txn serial name params body) = true
is_of kind i = false

abbrev pub counted : ItemKind → List Item → Data
counted kind items = number (unsigned (count_by (is_of kind) items))

-- how many items of each kind there are
abbrev pub counts_data : List Item → Data
counts_data items = object
    (member (codes "flows") (counted kinds.Flow items)
    (member (codes "helpers") (counted kinds.Helper items)
    (member (codes "outsides") (counted kinds.Outside items)
    (member (codes "queues") (counted kinds.Queue items)
    (member (codes "tables") (counted kinds.Table items)
    (member (codes "txns") (counted kinds.Txn items) no_members))))))
