use Rattle.std.proofs.Common.{◌<◌, ◌≤◌, ℕ, Option, length, sym, subst, arith}
use Rattle.graph_algorithms.specs.Keys.{IsLastBelow}
use Rattle.graph_algorithms.proofs.Laws.{place, place_less}
use Rattle.least_cycles.specs.Tables.{least_by}
use Rattle.least_cycles.specs.Ends.{AreBehindFrom}
use Rattle.least_cycles.proofs.EndLaws.{behind_first, behind_more, behind_whole}
use Rattle.least_cycles.proofs.ends.behind_of.Goals as goal

pub loop-next-init : goal.loop-next-init
loop-next-init c = λ keys are chains.
    let size = are.size in
    let v = c.args.graph.now in (
      length keys,
      (let r : length keys ≤ length v.code.edges = omega arith in r),
      subst (λ (o : Option ℕ). IsLastBelow keys (length keys) c.args.f o) (sym c.last-next.ensures) (chains.last c.args.f c.requires.function),
      behind_first v (least_by v c.args.walks.now.returns.items c.args.walks.now.exits.items c.args.behind.now) c.args.f (length keys) (sym size),
    )

pub end_over-requires-clause-edge : goal.end_over-requires-clause-edge
end_over-requires-clause-edge c =
    let t = c.requires.chains in
    let inv = c.loop-next.invariant t.0 t.1 t.2 in
    let at = inv.2.place c.in-Some.e c.in-Some.is in
    let low = at.0 in
    let within = inv.1 in
    omega arith

pub before-next-requires : goal.before-next-requires
before-next-requires c =
    let t = c.requires.chains in
    let inv = c.loop-next.invariant t.0 t.1 t.2 in
    let at = inv.2.place c.in-Some.e c.in-Some.is in
    let low = at.0 in
    let within = inv.1 in
    let size = t.1.size in
    let before = t.2.before_size in
    omega arith

pub loop-next-smaller : goal.loop-next-smaller
loop-next-smaller c =
    let t = c.requires.chains in
    let inv = c.loop-next.invariant t.0 t.1 t.2 in
    let key = (inv.2.place c.in-Some.e c.in-Some.is).1 in
    let before = subst (λ (o : Option ℕ). IsLastBelow t.0 c.in-Some.e c.args.f o) (sym c.before-next.ensures) (t.2.before c.in-Some.e c.args.f key) in
    subst (λ (o : Option ℕ). place c.before-next.result < place o) (sym c.in-Some.is)
    (place_less c.before-next.result c.in-Some.e (λ r e. (before.place r e).0))

pub loop-next-preserved : goal.loop-next-preserved
loop-next-preserved c = λ keys are chains.
    let v = c.args.graph.now in
    let n = least_by v c.args.walks.now.returns.items c.args.walks.now.exits.items c.args.behind.now in
    let inv = c.loop-next.invariant keys are chains in
    let at = inv.2.place c.in-Some.e c.in-Some.is in
    let low = at.0 in
    let within = inv.1 in
    let el : c.in-Some.e < length v.code.edges = omega arith in (
      c.in-Some.e,
      (let r : c.in-Some.e ≤ length v.code.edges = omega arith in r),
      subst (λ (o : Option ℕ). IsLastBelow keys c.in-Some.e c.args.f o) (sym c.before-next.ensures) (chains.before c.in-Some.e c.args.f at.1),
      subst (λ (o : Option ℕ). AreBehindFrom v n c.args.f c.in-Some.e o) (sym c.lesser-least.ensures)
          (behind_more v n keys c.args.f inv.0 c.in-Some.e c.loop-next.least c.end_over.result are (subst (λ (o : Option ℕ). IsLastBelow keys inv.0 c.args.f o) c.in-Some.is inv.2) el c.end_over.ensures inv.3),
    )

pub returns : goal.returns
returns c =
    let v = c.args.graph.now in
    let n = least_by v c.args.walks.now.returns.items c.args.walks.now.exits.items c.args.behind.now in
    let t = c.requires.chains in
    let inv = c.loop-next.invariant t.0 t.1 t.2 in
    behind_whole v n t.0 c.args.f inv.0 c.loop-next.least t.1 (subst (λ (o : Option ℕ). IsLastBelow t.0 inv.0 c.args.f o) c.in_default.is inv.2) inv.3
