use Rattle.scale_sites.proofs.counting.counters.Goals as goal

pub edge-at-requires : goal.edge-at-requires
edge-at-requires c = (c.first_uncountable.ensures.some c.in-Some.b c.in-Some.is).is.edge

pub loop_number-requires : goal.loop_number-requires
loop_number-requires c = (c.first_uncountable.ensures.some c.in-Some.b c.in-Some.is).is.within
