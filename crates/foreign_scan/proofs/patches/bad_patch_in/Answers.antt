use Rattle.std.proofs.Common.{ap, sym, ◌∙◌, ⊎_elim}
use Rattle.foreign_scan.specs.Least.{is_bad_word}
use Rattle.foreign_scan.proofs.LeastLaws.{below_or_last}
use Rattle.foreign_scan.proofs.patches.bad_patch_in.Goals as goal

pub loop-at-preserved : goal.loop-at-preserved
loop-at-preserved c = λ a low lt. ⊎_elim
    (λ before. c.loop-at.invariant a low before)
    (λ same. ap (is_bad_word c.args.original.now c.args.foreign.now c.args.nodes.now) same ∙ (sym c.is_bad_patch.ensures ∙ c.if-is_bad_patch.false)) (below_or_last a c.loop-at.at lt)
