use Rattle.std.proofs.Common.{◌<◌, length, ap, arith}
use Rattle.std.proofs.lemmas.Option.{slice_get-get_or, get_or_from_slice_get}
use Rattle.scale_base.specs.declared.edges.Edge.{Edge}
use Rattle.foreign_scan.proofs.PlaceLaws.{places_push}
use Rattle.foreign_scan.proofs.sites.places_of.Goals as goal

pub loop-e-preserved : goal.loop-e-preserved
loop-e-preserved c =
    let lt : c.loop-e.e < length c.args.lists.now.sources.now = omega arith in
    places_push c.args.lists.now.sources.now c.args.lists.now.edges.now c.loop-e.e _ _ c.loop-e.places.items c.push.new.self.items c.loop-e.invariant (slice_get-get_or c.args.lists.now.sources.now c.loop-e.e 0 lt)
    (λ edge there. ap (λ (x : Edge). x.kind) (get_or_from_slice_get c.args.lists.now.edges.now c.loop-e.e edge _ there)) c.in_ok-push.ensures.items
