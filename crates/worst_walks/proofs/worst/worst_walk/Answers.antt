use Rattle.std.proofs.Common.{◌≡◌, sym, ◌∙◌}
use Rattle.std.proofs.lemmas.Option.{same_Some}
use Rattle.worst_walks.proofs.worst.worst_walk.Goals as goal

pub returns-clause-walk : goal.returns-clause-walk
returns-clause-walk c = λ worst at.
    let same : c.total.result ≡ worst = same_Some c.total.result worst (sym c.total.ensures ∙ at) in
    rw (← same) c.count_walk.ensures.walk
