use Rattle.std.proofs.Common.{◌≡◌, drop}
use Rattle.std.specs.List.{find}
use Rattle.scale_base.specs.Symbols.{is_named}
use Rattle.symbol_index.specs.declared.stems.SymbolKey.{SymbolKey}
use Rattle.symbol_index.proofs.sorted_symbols.value_among.Given as goal

abbrev pub invariant-loop-key : goal.invariant-loop-key
invariant-loop-key l = find (λ (key : SymbolKey). is_named l.name l.table.strings.now l.table.entries.now key.number) (drop l.key-index l.keys) ≡ find (λ (key : SymbolKey). is_named l.name l.table.strings.now l.table.entries.now key.number) l.keys
