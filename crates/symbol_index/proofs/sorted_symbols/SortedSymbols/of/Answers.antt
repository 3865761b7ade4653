use Rattle.scale_base.proofs.Laws.{contents-are}
use Rattle.symbol_index.proofs.sorted_symbols.SortedSymbols.of.Goals as goal

pub returns : goal.returns
returns c = contents-are c.file-file.result.now c.args.image.now (rw c.file-file.ensures.bytes c.file-file.ensures.image)
