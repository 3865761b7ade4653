use Rattle.std.proofs.Common.{ap, ◌∙◌, ◌+◌, ◌*◌, ◌++◌, ◌∷◌, []}
use Rattle.code_text.proofs.Rows.{next_word}
use Rattle.code_text.proofs.words.add_addresses.Goals as goal

pub loop-k-preserved : goal.loop-k-preserved
loop-k-preserved c =
    let from = c.args.range.from in
    c.in_ok-push.ensures.items ∙ ap (λ xs. xs ++ (from + 4 * c.loop-k.k) ∷ []) c.loop-k.invariant ∙ next_word (λ i. from + 4 * i) c.args.addresses.now.items c.loop-k.k
