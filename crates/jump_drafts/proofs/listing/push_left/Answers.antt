use Rattle.std.proofs.Common.{ap, ◌∙◌, ◌+◌, ◌*◌, ◌++◌, ◌∷◌, [], map}
use Rattle.std.specs.Prelude.{filter}
use Rattle.jump_drafts.specs.Jumps.{is_left}
use Rattle.jump_drafts.proofs.Left.{next_left}
use Rattle.jump_drafts.proofs.listing.push_left.Goals as goal

pub loop-k-preserved : goal.loop-k-preserved
loop-k-preserved c =
    let from = c.args.range.from in
    let p = is_left c.args.view.now c.args.notes.now in
    c.in_ok-push_if_left.ensures ∙ ap (λ xs. xs ++ filter p ((from + 4 * c.loop-k.k) ∷ [])) c.loop-k.invariant
    ∙ next_left p (λ i. from + 4 * i) (map (λ other. other.at) c.args.others.now.items) c.loop-k.k
