use Rattle.std.proofs.Common.{subst, sym, IfOk, List, ℕ, Option, ◌∙◌}
use Rattle.graph_algorithms.specs.Keys.{AreKeys, AreChains}
use Rattle.loop_drafts.proofs.Keys.{keys_low}
use Rattle.loop_drafts.proofs.search.levels.chains_of.Goals as goal

pub find_chains-requires : goal.find_chains-requires
find_chains-requires c =
    subst (λ (keys : List (Option ℕ)). AreKeys keys c.args.count) (sym (c.deref.ensures.value ∙ c.in_ok-keys.ensures)) (keys_low c.args.count c.args.roots.now c.requires)

pub returns : goal.returns
returns c =
    subst (λ (keys : List (Option ℕ)). IfOk c.find_chains.result (λ chains. AreChains keys c.args.count chains)) (c.deref.ensures.value ∙ c.in_ok-keys.ensures) c.find_chains.ensures
