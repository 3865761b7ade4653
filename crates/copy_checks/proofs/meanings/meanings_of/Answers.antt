use Rattle.std.proofs.Common.{ℕ, ◌≡◌, ◌<◌, ◌+◌, List, Some, length, sym, subst, arith}
use Rattle.std.specs.Prelude.{slice_get}
use Rattle.std.proofs.lemmas.Option.{slice_get_within}
use Rattle.copy_bounds.specs.Meanings.{meaning}
use Rattle.copy_checks.specs.declared.tables.Meant.{Meant}
use Rattle.copy_checks.specs.Checked.{IsMeant}
use Rattle.copy_checks.proofs.Lists.{beside_more}
use Rattle.copy_checks.proofs.meanings.meanings_of.Goals as goal

pub loop-k-preserved : goal.loop-k-preserved
loop-k-preserved c = subst (λ (xs : List Meant). (length xs ≡ c.loop-k.k + 1) × ((k a : ℕ) → k < c.loop-k.k + 1 → slice_get c.args.graph.now.code.nodes k ≡ Some a → (x : Meant) × (slice_get xs k ≡ Some x) × IsMeant (meaning c.args.copied.now.pieces.now c.args.copied.now.sites.now c.args.copied.now.base) a x))
    (sym c.in_ok-push.ensures.items)
    (beside_more (λ (a : ℕ) (x : Meant). IsMeant (meaning c.args.copied.now.pieces.now c.args.copied.now.sites.now c.args.copied.now.base) a x) c.args.graph.now.code.nodes c.loop-k.made.items c.in_ok-meant_at.field-0 c.loop-k.k c.node.result c.node.ensures c.in_ok-meant_at.ensures c.loop-k.invariant)

pub returns : goal.returns
returns c k a at = c.loop-k.invariant.1 k a (let count = c.node_count-k-end.ensures.count in let test = c.loop-k-test.false in let lt = slice_get_within c.args.graph.now.code.nodes k a at in omega (arith, count, test, lt)) at
