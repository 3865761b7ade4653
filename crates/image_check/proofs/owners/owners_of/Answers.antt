use Rattle.std.proofs.Common.{ℕ, length, Option, Some, None, List, sym, subst}
use Rattle.image_check.specs.Uses.{AreTallies, AreSmallTallies}
use Rattle.image_check.specs.declared.uses.Tally.{Tally}
use Rattle.image_check.proofs.OwnerLaws.{all_owners, first_bad, moved_bad}
use Rattle.image_check.proofs.owners.owners_of.Goals as goal

pub first_bad-requires-clause-small : goal.first_bad-requires-clause-small
first_bad-requires-clause-small c = subst (λ (xs : List Tally). AreSmallTallies 262144 xs) (sym c.deref-5.ensures.value) c.in_ok-tallies.ensures.small

pub returns-in-None : goal.returns-in-None
returns-in-None c = λ original foreign found is.
    let tallies = subst (λ (xs : List (Option ℕ)). AreTallies c.args.graph.now c.args.tree.now c.args.sites.now xs (length c.args.graph.now.code.edges) c.in_ok-tallies.tallies.items) c.deref.ensures.value c.in_ok-tallies.ensures.tallies in
    all_owners original foreign c.args.graph.now c.args.tree.now found c.args.sites.now is c.in_ok-owners.owners.items c.in_ok-turns.turns.items c.in_ok-exits.exits.items c.in_ok-tallies.tallies.items
    c.in_ok-owners.ensures c.in_ok-turns.ensures c.in_ok-exits.ensures tallies
    (moved_bad c.deref-3.result.now c.in_ok-turns.turns.items c.deref-4.result.now c.in_ok-exits.exits.items c.deref-5.result.now c.in_ok-tallies.tallies.items c.deref-2.result.now c.in_ok-owners.owners.items None
    c.deref-3.ensures.value c.deref-4.ensures.value c.deref-5.ensures.value c.deref-2.ensures.value c.in-None.ensures)

pub returns-in-Some : goal.returns-in-Some
returns-in-Some c = λ original foreign found is.
    let tallies = subst (λ (xs : List (Option ℕ)). AreTallies c.args.graph.now c.args.tree.now c.args.sites.now xs (length c.args.graph.now.code.edges) c.in_ok-tallies.tallies.items) c.deref.ensures.value c.in_ok-tallies.ensures.tallies in
    first_bad original foreign c.args.graph.now c.args.tree.now found c.args.sites.now is c.in_ok-owners.owners.items c.in_ok-turns.turns.items c.in_ok-exits.exits.items c.in_ok-tallies.tallies.items
    c.in_ok-owners.ensures c.in_ok-turns.ensures c.in_ok-exits.ensures tallies c.in-Some.counter
    (moved_bad c.deref-3.result.now c.in_ok-turns.turns.items c.deref-4.result.now c.in_ok-exits.exits.items c.deref-5.result.now c.in_ok-tallies.tallies.items c.deref-2.result.now c.in_ok-owners.owners.items (Some c.in-Some.counter)
    c.deref-3.ensures.value c.deref-4.ensures.value c.deref-5.ensures.value c.deref-2.ensures.value c.in-Some.ensures)
