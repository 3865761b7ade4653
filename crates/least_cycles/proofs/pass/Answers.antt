use Rattle.std.proofs.Common.{◌≡◌, ◌+◌, ℕ, length, sym, ◌∙◌, subst, Some, slice_get, IfSome, arith, List, Option, slice_index_or}
use Rattle.least_cycles.specs.Hops.{relaxed, AreHops, IsHop}
use Rattle.least_cycles.proofs.Relaxing.{IsPassed, passed-changed, passed-same, still-least, get-some}
use Rattle.least_cycles.specs.declared.Hop.{Hop}
use Rattle.least_cycles.specs.declared.Way.TheVariants.{Last}
use Rattle.least_cycles.proofs.pass.Goals as goal
use Rattle.least_cycles.proofs.pass.Goals.{then-relax, else-relax}

good : (hops : List Hop) (n most i : ℕ) (h : Hop) → AreHops n most hops → slice_get hops i ≡ Some h → IsHop n most h
good hops n most i h all at = subst (λ o. IfSome o (IsHop n most)) at (all i)

pub loop-hop-preserved : goal.loop-hop-preserved
loop-hop-preserved c =
    let d : Hop = record { tail = 0; way = Last; cost = 0 } in
    let h : Hop = slice_index_or c.args.hops.now c.loop-hop.hop-index d in
    let at : slice_get c.args.hops.now c.loop-hop.hop-index ≡ Some h = get-some c.args.hops.now c.loop-hop.hop-index d c.loop-hop-test.true in
    let n : ℕ = length c.args.table.now in
    let hop : IsHop n c.args.most h = good c.args.hops.now n c.args.most c.loop-hop.hop-index h c.requires.hops at in
    let Next : List (Option ℕ) → Type 0 = λ t. IsPassed n c.args.most c.args.hops.now c.args.table.now t c.if-relax.changed (c.loop-hop.hop-index + 1) in
    subst Next (sym c.relax.ensures.table)
    (elim c.if-relax.branch [
      | then-relax w ↦ subst (λ b. IsPassed n c.args.most c.args.hops.now c.args.table.now (relaxed c.loop-hop.table h) b (c.loop-hop.hop-index + 1)) (sym w.changed-is)
          (passed-changed n c.args.most c.args.hops.now c.args.table.now c.loop-hop.table c.loop-hop.changed c.loop-hop.hop-index h c.loop-hop.invariant at hop (sym c.relax.ensures.result ∙ w.if-relax.true))
      | else-relax w ↦ subst (λ b. IsPassed n c.args.most c.args.hops.now c.args.table.now (relaxed c.loop-hop.table h) b (c.loop-hop.hop-index + 1)) (sym w.changed-is)
          (passed-same n c.args.most c.args.hops.now c.args.table.now c.loop-hop.table c.loop-hop.changed c.loop-hop.hop-index h c.loop-hop.invariant at (sym c.relax.ensures.result ∙ w.if-relax.false))
    ])

pub returns-clause-done : goal.returns-clause-done
returns-clause-done c = λ f. let end : c.loop-hop.hop-index ≡ length c.args.hops.now = omega arith in
    still-least (length c.args.table.now) c.args.most c.args.hops.now c.loop-hop.table c.loop-hop.invariant.table_kept (λ e lt. c.loop-hop.invariant.still f e (omega arith))
