use Rattle.std.proofs.Common.{sym, ◌∙◌, ◌≤◌, arith, leb-true}
use Rattle.flat_memory.proofs.UsedLaws.{first_held}
use Rattle.flat_memory.proofs.page_loading.touches.Goals as goal
use Rattle.flat_memory.proofs.page_loading.touches.Goals.{then-from-block, else-from-block}

pub returns-then-begins : goal.returns-then-begins
returns-then-begins c =
    elim c.if-from-block.branch [
      | then-from-block w ↦
          (λ yes. first_held c.args.block.now c.args.from c.args.last w.is_empty.result (omega arith) (omega arith) w.is_empty.ensures (sym w.begins-is ∙ c.if-begins.true), λ some. c.if-begins.true)
      | else-from-block w ↦ (let low : c.args.from ≤ c.args.block.now.from = leb-true _ _ (sym w.begins-is ∙ c.if-begins.true) in absurd (omega arith))
    ]
