use Rattle.std.proofs.Common.{◌≡◌, ◌+◌, length, arith, refl, sym, subst}
use Rattle.scale_sites.proofs.CounterLaws.{AreFirst, first_on, first_more, first_last, none_last}
use Rattle.scale_sites.proofs.counting.first_uncountable.Goals as goal
use Rattle.scale_sites.proofs.counting.first_uncountable.Goals.{in-Some, in_default}

pub loop-e-preserved : goal.loop-e-preserved
loop-e-preserved c = elim c.match-uncountable_at.branch [
  | in-Some w ↦ subst (AreFirst c.args.graph.now c.args.tree.now (c.loop-e.e + 1)) (sym w.first-is)
      (first_more c.args.graph.now c.args.tree.now c.requires.tree.0 c.loop-e.e (record { l = w.in-Some.l; e = c.loop-e.e }) c.loop-e.first w.lesser-first.result c.requires.tree.1 refl ((c.uncountable_at.ensures w.in-Some.l).0 w.in-Some.is)
      w.lesser-first.ensures.some w.lesser-first.ensures.none c.loop-e.invariant)
  | in_default w ↦ subst (AreFirst c.args.graph.now c.args.tree.now (c.loop-e.e + 1)) (sym w.first-is)
      (first_on c.args.graph.now c.args.tree.now c.loop-e.e c.loop-e.first (λ k is. w.in_default.not-Some k ((c.uncountable_at.ensures k).1 is)) c.loop-e.invariant)
]

pub returns : goal.returns
returns c =
    let last : c.loop-e.e ≡ length c.args.graph.now.code.edges = omega arith in
    record {
      some = λ b is. first_last c.args.graph.now c.args.tree.now c.loop-e.e b last (subst (AreFirst c.args.graph.now c.args.tree.now c.loop-e.e) is c.loop-e.invariant);
      none = λ is. none_last c.args.graph.now c.args.tree.now c.loop-e.e last (subst (AreFirst c.args.graph.now c.args.tree.now c.loop-e.e) is c.loop-e.invariant);
    }
