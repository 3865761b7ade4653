use Rattle.std.proofs.Common.{◌∙◌, sym}
use Rattle.scale_base.specs.Image.{contents}
use Rattle.symbol_index.proofs.sorted_symbols.SortedSymbols.value.Goals as goal

pub returns : goal.returns
unfolding contents
returns c = rw (← c.self.view_is) (rw c.as_bytes.ensures.value at c.value_by.ensures ∙ sym (c.self.invariant.bytes c.args.name.now))
