use Rattle.std.proofs.lemmas.List.{take_rest}
use Rattle.symbol_index.specs.declared.stems.SymbolKey.{SymbolKey}
use Rattle.symbol_index.proofs.StemLaws.{filter_between}
use Rattle.symbol_index.proofs.stems.keys_with.Goals as goal

pub returns : goal.returns
returns c =
    let d : SymbolKey = record { stem = 0; number = 0 } in
    filter_between c.args.stem c.args.keys.now _ c.below-first.result c.up_to.result (take_rest c.args.keys.now c.below-first.result) c.below-first.ensures.bound c.up_to.ensures.bound
    (λ k lt. c.below-first.ensures.before k d lt) (λ k le lt. c.below-first.ensures.behind k d le lt)
    (λ k lt. c.up_to.ensures.before k d lt) (λ k le lt. c.up_to.ensures.behind k d le lt)
