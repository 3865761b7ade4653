use Rattle.std.proofs.Common.{◌≡◌, ◌-◌, ◌/◌, ◌≤◌, length}
use Rattle.symbol_index.specs.Stems.{keys_of}
use Rattle.symbol_index.proofs.stems.list_keys.Given as goal

abbrev pub invariant-loop-number : goal.invariant-loop-number
invariant-loop-number l = record {
  keys : l.keys.items ≡ keys_of l.symbols.strings.now l.symbols.entries.now (l.number - 1);
  within : l.number - 1 ≤ length l.symbols.entries.now / 16 - 1;
}
