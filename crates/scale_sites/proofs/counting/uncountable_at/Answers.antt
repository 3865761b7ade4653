use Rattle.std.proofs.Common.{Some, sym, ap, ◌∙◌, subst}
use Rattle.std.proofs.lemmas.Option.{same_Some}
use Rattle.scale_sites.specs.Counters.{IsUncountable}
use Rattle.scale_sites.proofs.CounterLaws.{known_loop, is_known}
use Rattle.scale_sites.proofs.counting.uncountable_at.Goals as goal

pub counted-requires : goal.counted-requires
counted-requires c = ((c.requires.tree.1.backs c.args.e c.in-Some.l).0 c.in-Some.ensures).1

pub returns-then-counted : goal.returns-then-counted
returns-then-counted c = λ k. (
  λ same. subst (λ l. IsUncountable c.args.graph.now c.args.tree.now l c.args.e) (same_Some c.in-Some.l k same)
      (is_known c.args.graph.now c.args.tree.now c.requires.tree.0 c.in-Some.l c.args.e c.edge.result c.requires.tree.1 c.edge.ensures (sym c.goes_on.ensures ∙ c.if-not-goes_on.false) c.in-Some.ensures (c.counted.ensures ∙ ap Some c.if-counted.true)),
  λ is. known_loop c.args.graph.now c.args.tree.now c.requires.tree.0 k c.in-Some.l c.args.e c.requires.tree.1 c.in-Some.ensures is,
)
