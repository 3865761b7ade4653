use Rattle.std.proofs.Common.{◌≡◌, sym, ap, ◌∙◌}
use Rattle.std.specs.List.{sum_by}
use Rattle.std.proofs.lemmas.Option.{get_or_from_slice_get}
use Rattle.std.proofs.Common.{[]}
use Rattle.image_check.specs.Safe.{counts_it, clears_it}
use Rattle.image_check.specs.Uses.{on_edge}
use Rattle.image_check.proofs.UseLaws.{fits_is, fits_not}
use Rattle.image_check.proofs.uses.fits_on.Goals as goal

pub returns-then-counts_in-turns : goal.returns-then-counts_in-turns
returns-then-counts_in-turns c =
    let on : on_edge c.args.scanned.now.sites.now c.args.e ≡ c.fragments-fragments.result.now = get_or_from_slice_get c.args.scanned.now.sites.now.fragments c.args.e c.fragments-fragments.result.now [] c.fragments-fragments.ensures in
    fits_is c.args.scanned.now.graph.now c.args.scanned.now.tree.now c.args.scanned.now.sites.now c.args.owner c.args.counter c.args.e c.counts_in.result c.clears_in.result c.turn_of-turns.result c.exit_of-exits.result
    (c.counts_in.ensures ∙ ap (sum_by (counts_it c.args.counter)) (sym on)) (c.clears_in.ensures ∙ ap (sum_by (clears_it c.args.counter)) (sym on)) c.turn_of-turns.ensures c.exit_of-exits.ensures c.if-counts_in-turns.true

pub returns-else-counts_in-turns : goal.returns-else-counts_in-turns
returns-else-counts_in-turns c =
    let on : on_edge c.args.scanned.now.sites.now c.args.e ≡ c.fragments-fragments.result.now = get_or_from_slice_get c.args.scanned.now.sites.now.fragments c.args.e c.fragments-fragments.result.now [] c.fragments-fragments.ensures in
    fits_not c.args.scanned.now.graph.now c.args.scanned.now.tree.now c.args.scanned.now.sites.now c.args.owner c.args.counter c.args.e c.counts_in.result c.turn_of-turns.result
    (c.counts_in.ensures ∙ ap (sum_by (counts_it c.args.counter)) (sym on)) c.turn_of-turns.ensures c.if-counts_in-turns.false
