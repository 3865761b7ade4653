use Rattle.std.proofs.Common.{◌≡◌, drop}
use Rattle.symbol_index.specs.Stems.{stem_from}
use Rattle.symbol_index.proofs.stems.stem_from.Given as goal

abbrev pub invariant-loop-byte : goal.invariant-loop-byte
invariant-loop-byte l = stem_from l.stem (drop l.byte-index l.bytes) ≡ stem_from l.basis l.bytes
