use Rattle.std.proofs.Common.{rules, ap}
use Rattle.scale_base.specs.declared.refusal.Refusal.TheVariants.{TooDeep}
use Rattle.loop_tree.proofs.ReadyLaws.{deepest}
use Rattle.loop_tree.proofs.natural.entries.check_depths.Goals as goal

pub returns-then-depths-header-gt-MOST_DEPTH : goal.returns-then-depths-header-gt-MOST_DEPTH
returns-then-depths-header-gt-MOST_DEPTH c = deepest c.args.headers.now c.args.depths.now c.loop-k.k _ (search rules) (search rules) c.loop-k.invariant (ap TooDeep c.number_of.ensures)
