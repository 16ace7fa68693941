-- How a record of looks and writes is stored by a ghost variable.
use Rattle.std.specs.Prelude.{◌≡◌, ℕ, List, Option, refl}
use Rattle.std.specs.Coded.{Coded, codes, code_by, coded×, coded_list}
use Rattle.r3_value.specs.Code.{items_code}
use Rattle.r3_value.specs.declared.value.Val.{Val}
use Rattle.fn_tree.specs.declared.look.Look.{Look}
use Rattle.fn_tree.specs.Writes.{Log, Write}

looks_code : Coded (List Look)
looks_code = hlevel (codes, items_code)

writes_code : Coded (List (List ℕ × List ℕ × Option Val))
writes_code = hlevel (codes, items_code)

pub log_code : Coded Log
log_code =
    code_by (List Look × List (List ℕ × List ℕ × Option Val)) (coded× looks_code writes_code) (λ l. (l.looks, l.writes)) (λ p. record { looks = p.0; writes = p.1 }) (λ l. refl)
