use Rattle.std.proofs.lemmas.List.{take_rest}
use Rattle.keep_monitor.specs.declared.headers.Header.{Header}
use Rattle.keep_monitor.proofs.HeaderLaws.{filter_between}
use Rattle.keep_monitor.proofs.headers.headers_at.Goals as goal

pub returns : goal.returns
returns c =
    let d : Header = record { at = 0; number = 0 } in
    filter_between c.args.at c.args.headers.now _ c.below-first.result c.up_to.result (take_rest c.args.headers.now c.below-first.result) c.below-first.ensures.bound c.up_to.ensures.bound
    (λ k lt. c.below-first.ensures.before k d lt) (λ k le lt. c.below-first.ensures.behind k d le lt)
    (λ k lt. c.up_to.ensures.before k d lt) (λ k le lt. c.up_to.ensures.behind k d le lt)
