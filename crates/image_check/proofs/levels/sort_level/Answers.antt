use Rattle.std.proofs.Common.{◌≡◌, true, false, sym, ◌∙◌}
use Rattle.image_check.proofs.FirstLevels.{sort_of, other_sort}
use Rattle.image_check.proofs.levels.sort_level.Goals as goal

pub returns-then-is_of_sort : goal.returns-then-is_of_sort
returns-then-is_of_sort c = λ original foreign found w n least by.
    sort_of c.args.known.now foreign found w n least c.args.e c.edge-edge.result c.args.taken c.edge_level.result c.edge-edge.ensures (c.is_of_sort.ensures.0 c.if-is_of_sort.true) (c.edge_level.ensures original foreign found w n least by)

pub returns-else-is_of_sort : goal.returns-else-is_of_sort
returns-else-is_of_sort c = λ original foreign found w n least by.
    other_sort c.args.known.now foreign found w n least c.args.e c.edge-edge.result c.args.taken c.edge-edge.ensures
    (λ is. let on = c.is_of_sort.ensures.1 is in let off = c.if-is_of_sort.false in let both : true ≡ false = sym on ∙ off in let never : ⊥ = cc in never)
