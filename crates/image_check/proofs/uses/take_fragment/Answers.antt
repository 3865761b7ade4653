use Rattle.std.proofs.Common.{◌≡◌, sym, ap, ◌∙◌, arith}
use Rattle.image_check.specs.Known.{owner_by}
use Rattle.image_check.specs.Uses.{fits_on}
use Rattle.image_check.proofs.UseLaws.{low_counter, one_set}
use Rattle.image_check.proofs.uses.take_fragment.Goals as goal

pub returns-in-Some-clause-taken : goal.returns-in-Some-clause-taken
returns-in-Some-clause-taken c =
    let low = low_counter c.args.fragment.now c.in-Some.counter c.requires.foreign (sym c.in-Some.ensures) in
    let size = c.requires.size in
    let number : c.from.result ≡ c.in-Some.counter = cc in
    one_set (λ k. fits_on c.args.scanned.now.graph.now c.args.scanned.now.tree.now c.args.scanned.now.sites.now (owner_by c.args.owners.now k) k c.args.e) c.args.fragment.now c.args.tallies.now.items c.set_tally.new.tallies.items c.in-Some.counter c.fits_on-fits.result
    (sym c.in-Some.ensures) (omega (arith, low, size)) (c.fits_on-fits.ensures ∙ ap (λ k. fits_on c.args.scanned.now.graph.now c.args.scanned.now.tree.now c.args.scanned.now.sites.now (owner_by c.args.owners.now k) c.in-Some.counter c.args.e) number) c.set_tally.ensures
