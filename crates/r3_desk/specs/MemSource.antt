-- What a contract sees of a source in memory.
use Rattle.std.specs.Prelude.{drop}
use Rattle.r3_desk.specs.declared.mem_source.MemSource.{MemSource}
use Rattle.r3_desk.specs.Sources.{SourceContents}

abbrev pub source_contents : MemSource → SourceContents
source_contents s = record { left = drop s.at s.bytes.items; ended = s.ended; fails = s.fails.items; made = s.made; faults = s.faults }
