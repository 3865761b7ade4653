use Rattle.std.proofs.Common.{◌≡◌, ⊎_elim, subst, arith}
use Rattle.std.specs.Prelude.{slice_get, Some}
use Rattle.std.proofs.lemmas.Bool.{cases_lt}
use Rattle.image_check.specs.Levels.{IsBadAt}
use Rattle.image_check.proofs.FirstLevels.{sort_own, own_at}
use Rattle.image_check.proofs.levels.node_level.Goals as goal

pub loop-e-init : goal.loop-e-init
loop-e-init c = λ original foreign found w n least by d i edge lt sort bad.
    let low = (sort_own c.args.known.now c.args.k c.args.taken c.edges_of-first.result.0 c.edges_of-first.result.1 c.edges_of-first.ensures.edges d edge sort).0 in
    let no : ⊥ = omega (arith, lt, low) in no

pub loop-e-preserved : goal.loop-e-preserved
loop-e-preserved c = λ original foreign found w n least by d i edge lt sort bad. ⊎_elim
    (λ low. c.loop-e.invariant original foreign found w n least by d i edge low sort bad)
    (λ high. let same : d ≡ c.loop-e.e = omega (arith, lt, high) in
    c.in-None.ensures original foreign found w n least by i edge (subst (λ m. slice_get c.args.known.now.graph.now.code.edges m ≡ Some edge) same sort.0) sort.2 (subst (λ m. IsBadAt c.args.known.now foreign found w n least m i) same bad))
    (cases_lt d c.loop-e.e)

pub returns-in-Some : goal.returns-in-Some
returns-in-Some c = λ original foreign found w n least by.
    let h = c.in-Some.ensures original foreign found w n least by in
    let within = c.edges_of-first.ensures.within in
    let up = within.1 in
    let high = c.loop-e-test.true in
    (c.loop-e.e, h.0, (h.1, own_at c.args.known.now c.args.k c.edges_of-first.result.0 c.edges_of-first.result.1 c.edges_of-first.ensures.edges c.loop-e.e h.0 h.1 c.loop-e.auto.e high, h.2), h.3)

pub returns : goal.returns
returns c = λ original foreign found w n least by d i edge sort bad.
    let high = (sort_own c.args.known.now c.args.k c.args.taken c.edges_of-first.result.0 c.edges_of-first.result.1 c.edges_of-first.ensures.edges d edge sort).1 in
    let end = c.loop-e-test.false in
    c.loop-e.invariant original foreign found w n least by d i edge (omega (arith, high, end)) sort bad
