use Rattle.std.proofs.Common.{◌≤◌, ◌*◌, ◌^◌, All, sym, ◌∙◌, subst, arith}
use Rattle.std.proofs.lemmas.Option.{get_or_from_slice_get, same_Some}
use Rattle.std.proofs.Common.{List}
use Rattle.foreign_scan.specs.declared.fragment.ForeignFragment.{ForeignFragment}
use Rattle.foreign_scan.specs.declared.fragment.ForeignFragment.TheVariants.{Exit}
use Rattle.foreign_scan.specs.Form.{IsForeign}
use Rattle.image_check.proofs.FoundFacts.{fine_on}
use Rattle.image_check.proofs.LevelLaws.{exit_loop, exit_rows, exit_is}
use Rattle.image_check.proofs.levels.exit_level.Goals as goal

pub bound-bound-requires : goal.bound-bound-requires
bound-bound-requires c =
    let k = c.requires.known in
    exit_loop c.args.known.now k.0 k.1 k.2 k.3 k.4 k.5 k.6 c.args.e c.args.counter c.args.shift c.args.table c.in-Some.k c.requires.exit.0 c.requires.leads.0 c.requires.exit.1 (sym c.in-Some.ensures)

pub iteration-iteration-requires : goal.iteration-iteration-requires
iteration-iteration-requires c =
    let k = c.requires.known in
    let low = exit_loop c.args.known.now k.0 k.1 k.2 k.3 k.4 k.5 k.6 c.args.e c.args.counter c.args.shift c.args.table c.in-Some.k c.requires.exit.0 c.requires.leads.0 c.requires.exit.1 (sym c.in-Some.ensures) in
    let size = k.6.known.weighed.iterations_size in
    omega (arith, low, size)

pub invariant_of-exit-clause-small_bound : goal.invariant_of-exit-clause-small_bound
invariant_of-exit-clause-small_bound c = c.requires.known.6.known.found_is.tree.1.bound c.in-Some.k c.bound-bound.result c.bound-bound.ensures

pub invariant_of-exit-clause-small_shift : goal.invariant_of-exit-clause-small_shift
invariant_of-exit-clause-small_shift c =
    let k = c.requires.known in
    let fine = fine_on k.0 k.1 c.args.known.now.graph.now c.args.known.now.tree.now k.2 c.args.known.now.sites.now k.6.known.found_is c.args.e c.requires.leads.0 in
    let all = subst (λ (fs : List ForeignFragment). All IsForeign fs) c.requires.exit.1 fine.foreign in
    (all 0 (Exit c.args.counter c.args.shift c.args.table) (omega arith)).1

pub invariant_of-exit-clause-small_turns : goal.invariant_of-exit-clause-small_turns
invariant_of-exit-clause-small_turns c =
    let k = c.requires.known in
    let low = exit_loop c.args.known.now k.0 k.1 k.2 k.3 k.4 k.5 k.6 c.args.e c.args.counter c.args.shift c.args.table c.in-Some.k c.requires.exit.0 c.requires.leads.0 c.requires.exit.1 (sym c.in-Some.ensures) in
    let bound_is = get_or_from_slice_get c.args.known.now.tree.now.bounds c.in-Some.k c.bound-bound.result 0 c.bound-bound.ensures in
    let iteration_is = same_Some c.iteration-iteration.result (k.4.iteration c.in-Some.k) (sym c.iteration-iteration.ensures ∙ k.6.known.weighed.iteration c.in-Some.k low) in
    subst (λ m. c.bound-bound.result * m ≤ 2 ^ 48) (sym iteration_is) (subst (λ b. b * k.4.iteration c.in-Some.k ≤ 2 ^ 48) bound_is (k.6.known.weighed.turns_small c.in-Some.k low))

pub table_level-requires-clause-rows : goal.table_level-requires-clause-rows
table_level-requires-clause-rows c =
    let k = c.requires.known in
    let bound_is = get_or_from_slice_get c.args.known.now.tree.now.bounds c.in-Some.k c.bound-bound.result 0 c.bound-bound.ensures in
    exit_rows c.args.known.now k.0 k.1 k.2 k.3 k.4 k.5 k.6 c.args.e c.args.counter c.args.shift c.args.table c.in-Some.k c.bound-bound.result c.requires.exit.0 c.requires.leads.0 c.requires.exit.1 (sym c.in-Some.ensures)
    (sym bound_is)

pub returns : goal.returns
returns c = λ original foreign found w n least by.
    let low = exit_loop c.args.known.now original foreign found w n least by c.args.e c.args.counter c.args.shift c.args.table c.in-Some.k c.requires.exit.0 c.requires.leads.0 c.requires.exit.1 (sym c.in-Some.ensures) in
    let bound_is = get_or_from_slice_get c.args.known.now.tree.now.bounds c.in-Some.k c.bound-bound.result 0 c.bound-bound.ensures in
    let iteration_is = same_Some c.iteration-iteration.result (n.iteration c.in-Some.k) (sym c.iteration-iteration.ensures ∙ by.known.weighed.iteration c.in-Some.k low) in
    exit_is c.args.known.now original foreign found w n least by c.args.e c.requires.leads.1.0 c.args.counter c.args.shift c.args.table c.in-Some.k c.bound-bound.result c.iteration-iteration.result c.requires.exit.0
    c.told_at-told.result c.table_level.result c.requires.leads.0 c.requires.leads.1.1 c.requires.exit.1 (c.told_at-told.ensures.told original foreign found w n least by) (sym c.in-Some.ensures) (sym bound_is) iteration_is c.table_level.ensures
