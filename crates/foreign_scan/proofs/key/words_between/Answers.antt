use Rattle.std.proofs.Common.{ap, ◌∙◌, ◌+◌, ◌*◌, ◌++◌, ◌∷◌, [], ℕ}
use Rattle.scale_base.specs.State.{word_at}
use Rattle.flat_memory.specs.Lists.{list_bytes}
use Rattle.foreign_scan.proofs.KeyLaws.{one_more}
use Rattle.foreign_scan.proofs.key.words_between.Goals as goal

pub loop-k-preserved : goal.loop-k-preserved
loop-k-preserved c =
    let f = λ (k : ℕ). word_at (list_bytes c.args.memory.now) (4 * (c.args.first + k)) in
    c.in_ok-push.ensures.items ∙ (ap (λ x. c.loop-k.words.items ++ x ∷ []) c.word.ensures ∙ (ap (λ xs. xs ++ f c.loop-k.k ∷ []) c.loop-k.invariant ∙ one_more f c.loop-k.k))
