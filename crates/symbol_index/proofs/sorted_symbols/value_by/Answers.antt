use Rattle.std.proofs.Common.{◌∙◌}
use Rattle.symbol_index.proofs.StemLaws.{found, keys_in_table}
use Rattle.symbol_index.proofs.sorted_symbols.value_by.Goals as goal

pub value_among-requires : goal.value_among-requires
value_among-requires c = rw c.keys_with.ensures (keys_in_table c.args.table.now.strings.now c.args.table.now.entries.now c.args.keys.now c.stem_of.result c.requires)

pub returns : goal.returns
returns c =
    rw (c.keys_with.ensures, c.stem_of.ensures) at c.value_among.ensures ∙ found c.args.name.now c.args.table.now.strings.now c.args.table.now.entries.now c.args.keys.now c.requires
