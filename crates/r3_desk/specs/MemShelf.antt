-- What a contract sees of a shelf in memory.
use Rattle.std.specs.Prelude.{map, string_bytes}
use Rattle.r3_desk.specs.declared.mem_shelf.MemShelf.{MemShelf}
use Rattle.r3_desk.specs.Shelves.{ShelfContents}

abbrev pub shelf_contents : MemShelf → ShelfContents
shelf_contents s = record { texts = map (λ t. (string_bytes t.0, t.1.items)) s.texts.items; fails = s.fails.items; made = s.made; faults = s.faults }
