use Rattle.std.proofs.Common.{◌≡◌, ℕ, ◌<◌, ◌⊎◌, Option, None, ap, ◌∙◌, sym, ⊎_elim, arith, refl}
use Rattle.std.specs.Prelude.{slice_get}
use Rattle.std.proofs.lemmas.Option.{slice_get_within}
use Rattle.flow_graph.proofs.Laws.{less_same_more}
use Rattle.value_checks.specs.Tables.{or_other}
use Rattle.jump_laws.specs.declared.reads.TableRead.{TableRead}
use Rattle.jump_checks.proofs.edges.are_of_registers.Goals as goal

pub loop-k-preserved : goal.loop-k-preserved
loop-k-preserved c k x lt at = ⊎_elim
    (λ (before : k < c.loop-k.k). c.loop-k.invariant k x before at)
    (λ (rest : (k ≡ c.loop-k.k) ⊎ (c.loop-k.k < k)). ⊎_elim
    (λ (same : k ≡ c.loop-k.k). c.if-not-is_of_register.ensures refl x (c.entry.ensures ∙ ap (λ (o : Option (Option TableRead)). or_other None o) (sym (ap (slice_get c.args.reads.now) same) ∙ at)))
    (λ (after : c.loop-k.k < k). let bad : ⊥ = omega (arith, lt, after) in absurd bad)
    rest)
    (less_same_more k c.loop-k.k)

pub returns : goal.returns
returns c so k x at = c.loop-k.invariant k x
    (let test = c.loop-k-test.false in let within = slice_get_within c.args.reads.now k _ at in omega (arith, within, test)) at
