use Rattle.image_lower.proofs.trees.+tree_depth.Given as goal

abbrev pub decreases-tree_depth : goal.decreases-tree_depth
decreases-tree_depth l = l.bits
