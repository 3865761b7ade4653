use Rattle.std.proofs.Common.{ℕ, List, Option, length, sym, subst}
use Rattle.graph_algorithms.specs.Keys.{AreKeys}
use Rattle.least_cycles.proofs.PriceLaws.{keys_below}
use Rattle.least_cycles.proofs.buckets.node_chains.Goals as goal

pub find_chains-requires : goal.find_chains-requires
find_chains-requires c =
    let below : AreKeys c.in_ok-keys.keys.items (length c.args.graph.now.code.functions) = keys_below c.args.graph.now c.in_ok-keys.keys.items c.requires.flow c.in_ok-keys.ensures in
    subst (λ n. AreKeys c.deref.result.now n) (sym c.function_count.ensures.count) (subst (λ (keys : List (Option ℕ)). AreKeys keys (length c.args.graph.now.code.functions)) (sym c.deref.ensures.value) below)
