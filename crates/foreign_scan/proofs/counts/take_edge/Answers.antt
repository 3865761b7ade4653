use Rattle.std.proofs.Common.{◌<◌, length, get_or, None, Some, ap, sym, ◌∙◌, arith}
use Rattle.std.proofs.lemmas.Option.{slice_get-get_or}
use Rattle.foreign_scan.specs.Counts.{numbered_fragments}
use Rattle.foreign_scan.proofs.CountLaws.{firsts_more, firsts_skip, numbered_here}
use Rattle.foreign_scan.proofs.counts.take_edge.Goals as goal

pub returns-in-Some-clause-firsts : goal.returns-in-Some-clause-firsts
returns-in-Some-clause-firsts c =
    let lists = c.args.lists.now in
    let e = c.args.e in
    let backs : e < length lists.backs.now = omega (arith, c.requires.edge, c.requires.sizes.backs) in
    let sources : e < length lists.sources.now = omega (arith, c.requires.edge, c.requires.sizes.sources) in
    firsts_more lists.edges.now lists.backs.now (numbered_fragments lists.sources.now lists.edges.now c.args.sites.now) e c.in-Some.field-0 c.fragments_on-fragments.result.now c.args.firsts.now c.take_counts.new.firsts
    (slice_get-get_or lists.backs.now e None backs ∙ ap Some c.in-Some.is)
    (c.fragments_on-fragments.ensures
    ∙ sym (numbered_here lists.sources.now lists.edges.now c.args.sites.now e (get_or lists.sources.now e 0) (get_or lists.edges.now e _) (slice_get-get_or lists.sources.now e 0 sources) (slice_get-get_or lists.edges.now e _ c.requires.edge)))
    (sym c.take_counts.auto.firsts) c.take_counts.ensures.taken c.requires.firsts

pub returns-in-None-clause-firsts : goal.returns-in-None-clause-firsts
returns-in-None-clause-firsts c =
    let lists = c.args.lists.now in
    let backs : c.args.e < length lists.backs.now = omega (arith, c.requires.edge, c.requires.sizes.backs) in
    firsts_skip lists.edges.now lists.backs.now (numbered_fragments lists.sources.now lists.edges.now c.args.sites.now) c.args.e c.args.firsts.now (slice_get-get_or lists.backs.now c.args.e None backs ∙ ap Some c.in-None.is) c.requires.firsts
