use Rattle.std.proofs.Common.{◌≡◌, ℕ, ◌<◌, ◌⊎◌, Option, None, Some, ap, ◌∙◌, sym, subst, ⊎_elim, arith}
use Rattle.std.specs.Prelude.{slice_get}
use Rattle.std.proofs.lemmas.Option.{slice_get_within}
use Rattle.flow_graph.proofs.Laws.{less_same_more}
use Rattle.value_checks.specs.Tables.{or_other}
use Rattle.jump_laws.specs.declared.reads.TableRead.{TableRead}
use Rattle.jump_checks.specs.Claimed.{AreFixed, IsReadFixed}
use Rattle.jump_checks.proofs.Words.{unwritten_all}
use Rattle.jump_checks.proofs.fixed.are_words_fixed.Goals as goal

pub loop-k-preserved : goal.loop-k-preserved
loop-k-preserved c k x lt at = ⊎_elim
    (λ (before : k < c.loop-k.k). c.loop-k.invariant k x before at)
    (λ (rest : (k ≡ c.loop-k.k) ⊎ (c.loop-k.k < k)). ⊎_elim
    (λ (same : k ≡ c.loop-k.k).
    let e = c.entry.ensures ∙ ap (λ (o : Option (Option TableRead)). or_other None o) (sym (ap (slice_get c.args.claim.now.reads.now) same) ∙ at) in
    subst (λ (o : Option TableRead). IsReadFixed c.args.claim.now.claim.now.view.now o) e (c.in_ok-fixed.ensures c.if-not-fixed.false))
    (λ (after : c.loop-k.k < k). let bad : ⊥ = omega (arith, lt, after) in absurd bad)
    rest)
    (less_same_more k c.loop-k.k)

pub returns : goal.returns
returns c so = unwritten_all c.args.claim.now c.requires (λ k x at. c.loop-k.invariant k x
    (let test = c.loop-k-test.false in let within = slice_get_within c.args.claim.now.reads.now k (Some x) at in omega (arith, within, test)) at)
