use Rattle.std.proofs.Common.{◌∙◌}
use Rattle.foreign_scan.proofs.OddLaws.{odd_found}
use Rattle.foreign_scan.proofs.bytes.odd_byte.Goals as goal

pub returns : goal.returns
returns c =
    let h = odd_found c.args.original.now c.args.foreign.now c.deref.result.now c.deref-2.result.now c.odd_among-here.result c.odd_among-there.result c.lesser.result (c.deref.ensures.value ∙ c.in_ok-parts.ensures) (c.deref-2.ensures.value ∙ c.in_ok-others.ensures)
    c.odd_among-here.ensures c.odd_among-there.ensures c.lesser.ensures in
    record { some = h.0; none = h.1 }
