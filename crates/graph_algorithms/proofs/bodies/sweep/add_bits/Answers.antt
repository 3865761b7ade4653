use Rattle.std.proofs.Common.{rules, refl}
use Rattle.graph_algorithms.proofs.SweepLaws.{gains_add, added_all, same_all}
use Rattle.graph_algorithms.proofs.bodies.sweep.add_bits.Goals as goal

pub returns-then-more-found-clause-gains : goal.returns-then-more-found-clause-gains
returns-then-more-found-clause-gains c = gains_add c.args.found.now c.args.pending.now c.args.inside.now c.args.node c.args.bits _ c.requires.node c.requires.pending refl

pub returns-then-more-found-clause-all : goal.returns-then-more-found-clause-all
returns-then-more-found-clause-all c = added_all c.args.found.now c.args.pending.now c.args.inside.now c.args.node c.args.bits _ c.requires.node c.requires.pending refl

pub returns-else-more-found-clause-all : goal.returns-else-more-found-clause-all
returns-else-more-found-clause-all c = same_all c.args.found.now c.args.pending.now c.args.inside.now c.args.node c.args.bits _ c.requires.node c.requires.pending refl (search rules)
