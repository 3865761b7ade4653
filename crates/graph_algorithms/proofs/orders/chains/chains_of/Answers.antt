use Rattle.std.proofs.Common.{◌≡◌, length, map, sym, subst, ap, ◌∙◌}
use Rattle.graph_algorithms.specs.DepthFirst.{AreLasts, AreArcChains}
use Rattle.graph_algorithms.specs.Keys.{AreKeys, AreChains}
use Rattle.graph_algorithms.proofs.ArcChainLaws.{key_of, are_keys, lasts_are, chains_are, before_size}
use Rattle.graph_algorithms.proofs.orders.chains.chains_of.Goals as goal

pub find_chains-requires : goal.find_chains-requires
find_chains-requires c =
    let same : c.deref.result.now ≡ map key_of c.args.arcs.now = c.deref.ensures.value ∙ c.in_ok-keys.ensures in
    subst (λ keys. AreKeys keys c.args.count) (sym same) (are_keys c.args.count c.args.arcs.now c.requires.numbered)

pub returns : goal.returns
returns c =
    let same : c.deref.result.now ≡ map key_of c.args.arcs.now = c.deref.ensures.value ∙ c.in_ok-keys.ensures in
    let arcs = c.args.arcs.now in
    let view = c.in_ok-chains.chains in
    let are : AreChains (map key_of arcs) c.args.count view = subst (λ keys. AreChains keys c.args.count view) same c.in_ok-chains.ensures in
    let last = sym c.into_parts.ensures.last in
    let before = sym c.into_parts.ensures.before in
    record {
      size = ap length (sym last) ∙ are.last_size;
      lasts = subst (AreLasts (length arcs) arcs) last (lasts_are c.args.count arcs view c.requires.numbered are);
      chain = subst (AreArcChains (length arcs) arcs) before (chains_are c.args.count arcs view c.requires.numbered are);
      before = ap length (sym before) ∙ before_size c.args.count arcs view c.requires.numbered are;
    }
