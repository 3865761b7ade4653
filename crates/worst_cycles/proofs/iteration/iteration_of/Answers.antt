use Rattle.std.proofs.Common.{◌+◌, ◌^◌, ◌<◌, ◌≤◌, length, Some, None, refl, arith, subst}
use Rattle.std.proofs.lemmas.Option.{none-some, same_Some}
use Rattle.worst_cycles.specs.Rests.{IsRestOf}
use Rattle.worst_cycles.proofs.IterationLaws.{header_rest, header_place}
use Rattle.worst_cycles.proofs.iteration.iteration_of.Goals as goal

pub returns-in-Some : goal.returns-in-Some
returns-in-Some c = (
  c.in-Some.ensures.small c.in-Some.cycles refl,
  λ n s.
      let sizes = c.requires.planned.plan.places_size in
      let h : c.header.result < length c.args.planned.now.graph.now.code.nodes = c.requires.planned.tree.1.header c.args.l c.header.result c.header.ensures in
      let low : c.header.result < length c.args.planned.now.plan.now.places.items = omega arith in
      let place = header_place c.args.planned.now.tree.now c.args.planned.now.plan.now.places.items c.args.l c.header.result c.index.result.now c.header.ensures low c.index.ensures in
      let rest = subst (λ p. IsRestOf c.in_ok-rests.rests p (Some c.in-Some.cycles)) place c.in-Some.ensures.rest in
      same_Some c.in-Some.cycles (n.iteration c.args.l)
      (header_rest c.requires.planned c.args.l c.in_ok-rests.rests (Some c.in-Some.cycles) c.requires.within c.in_ok-rests.ensures.places c.in_ok-rests.ensures.sizes
      c.in_ok-rests.ensures.found rest n s),
)

pub returns : goal.returns
returns c = (
  (let r : 0 ≤ 2 ^ 48 + 2 ^ 32 = omega arith in r),
  λ n s.
      let sizes = c.requires.planned.plan.places_size in
      let h : c.header.result < length c.args.planned.now.graph.now.code.nodes = c.requires.planned.tree.1.header c.args.l c.header.result c.header.ensures in
      let low : c.header.result < length c.args.planned.now.plan.now.places.items = omega arith in
      let place = header_place c.args.planned.now.tree.now c.args.planned.now.plan.now.places.items c.args.l c.header.result c.index.result.now c.header.ensures low c.index.ensures in
      let rest = subst (λ p. IsRestOf c.in_ok-rests.rests p None) place c.in-None.ensures.rest in
      absurd (none-some (n.iteration c.args.l)
      (header_rest c.requires.planned c.args.l c.in_ok-rests.rests None c.requires.within c.in_ok-rests.ensures.places c.in_ok-rests.ensures.sizes
      c.in_ok-rests.ensures.found rest n s)),
)
