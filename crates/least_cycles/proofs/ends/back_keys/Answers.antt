use Rattle.std.proofs.Common.{◌+◌, List, Option, ℕ, sym, subst}
use Rattle.least_cycles.specs.Tables.{AreBackKeys}
use Rattle.least_cycles.proofs.EndLaws.{back_keys_more}
use Rattle.least_cycles.proofs.ends.back_keys.Goals as goal

pub loop-e-preserved : goal.loop-e-preserved
loop-e-preserved c =
    subst (λ (keys : List (Option ℕ)). AreBackKeys c.args.graph.now (c.loop-e.e + 1) keys) (sym c.in_ok-push.ensures.items)
    (back_keys_more c.args.graph.now c.loop-e.e c.loop-e.keys.items c.comes_back.result c.loop-e.invariant c.comes_back.ensures)
