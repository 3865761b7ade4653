use Rattle.std.proofs.Common.{sym, ap, ◌∙◌}
use Rattle.least_cycles.specs.Tables.{least_by}
use Rattle.least_cycles.specs.Ends.{end_place}
use Rattle.least_cycles.proofs.PriceLaws.{led_to}
use Rattle.least_cycles.proofs.ends.end_over.Goals as goal

pub returns-in-Some : goal.returns-in-Some
returns-in-Some c =
    let v = c.args.graph.now in
    c.end_at.ensures ∙ sym (ap (end_place (least_by v c.args.walks.now.returns.items c.args.walks.now.exits.items c.args.behind.now)) (led_to v c.args.e c.in-Some.k (c.target.ensures.some c.in-Some.k c.in-Some.is) (c.target.ensures.within c.in-Some.k c.in-Some.is)))
