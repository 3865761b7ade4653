use Rattle.std.proofs.Common.{◌≡◌, ◌-◌, ◌/◌, length}
use Rattle.std.specs.List.{find, range_with_len}
use Rattle.scale_base.specs.Symbols.{is_named}
use Rattle.elf_image.proofs.symbols.SymbolTable.value.Given as goal

abbrev pub invariant-loop-k : goal.invariant-loop-k
invariant-loop-k l = find (is_named l.name l.self.strings.now l.self.entries.now) (range_with_len l.k (length l.self.entries.now / 16 - l.k)) ≡ find (is_named l.name l.self.strings.now l.self.entries.now) (range_with_len 1 (length l.self.entries.now / 16 - 1))
