use Rattle.std.proofs.Common.{◌≡◌, length, sym, ap, ◌∙◌, subst, arith, add-one}
use Rattle.std.proofs.lemmas.List.{length-replicate}
use Rattle.image_check.specs.Known.{owner_by}
use Rattle.image_check.specs.Uses.{fits_on, on_edge, taken, no_tally, tally_of, AreTallies}
use Rattle.image_check.specs.declared.uses.Tally.{Tally}
use Rattle.image_check.proofs.UseLaws.{none_taken}
use Rattle.image_check.proofs.uses.tallies_of.Goals as goal

pub loop-e-init : goal.loop-e-init
loop-e-init c =
    let items = c.in_ok-tallies.ensures.items_if_clones_equal (λ y is. is) in
    record {
      tallies = (ap length items ∙ length-replicate 511 no_tally, none_taken c.in_ok-tallies.tallies.items 511 items);
      small = λ k.
          let none = none_taken c.in_ok-tallies.tallies.items 511 items k in
          let counts = ap (λ (u : Tally). u.counts) none in
          let clears = ap (λ (u : Tally). u.clears) none in
          (omega (arith, counts), omega (arith, clears));
    }

pub loop-e-preserved : goal.loop-e-preserved
loop-e-preserved c = record {
  tallies = (
    c.take_edge.ensures.taken.0,
    λ k. c.take_edge.ensures.taken.1 k
        ∙ (ap (taken k (fits_on c.args.graph.now c.args.tree.now c.args.sites.now (owner_by c.args.owners.now k) k c.loop-e.e) (on_edge c.args.sites.now c.loop-e.e)) (c.loop-e.invariant.tallies.1 k)
        ∙ ap (tally_of c.args.graph.now c.args.tree.now c.args.sites.now (owner_by c.args.owners.now k) k) (sym (add-one c.loop-e.e))),
  );
  small = c.take_edge.ensures.small;
}

pub returns-clause-tallies : goal.returns-clause-tallies
returns-clause-tallies c =
    let count = c.edge_count-e-end.ensures.count in
    let last : c.loop-e.e ≡ length c.args.graph.now.code.edges = omega (arith, count) in
    subst (λ n. AreTallies c.args.graph.now c.args.tree.now c.args.sites.now c.args.owners.now n c.loop-e.tallies.items) last c.loop-e.invariant.tallies

pub returns-clause-small : goal.returns-clause-small
returns-clause-small c = λ k.
    let few = c.edge_count-e-end.ensures.few in
    let end = c.loop-e.auto.e-end in
    let counts = (c.loop-e.invariant.small k).0 in
    let clears = (c.loop-e.invariant.small k).1 in
    (omega (arith, few, end, counts), omega (arith, few, end, clears))
