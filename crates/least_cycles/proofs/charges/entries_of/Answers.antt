use Rattle.std.proofs.Common.{◌+◌, List, Option, ℕ, sym, subst}
use Rattle.least_cycles.specs.Charging.{AreEnteredLoops}
use Rattle.least_cycles.proofs.ChargeLaws.{entered_more}
use Rattle.least_cycles.proofs.charges.entries_of.Goals as goal

pub loop-e-preserved : goal.loop-e-preserved
loop-e-preserved c =
    subst (λ (entries : List (Option ℕ)). AreEnteredLoops c.args.graph.now c.args.tree.now (c.loop-e.e + 1) entries) (sym c.in_ok-push.ensures.items)
    (entered_more c.args.graph.now c.args.tree.now c.loop-e.e c.loop-e.entries.items c.entered.result c.loop-e.invariant c.entered.ensures)
