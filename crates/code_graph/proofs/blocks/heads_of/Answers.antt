use Rattle.std.proofs.Common.{◌≡◌, ℕ, Some, length, ap, subst, arith, ◌↔◌}
use Rattle.std.proofs.lemmas.Option.{slice_get_within}
use Rattle.code_graph.specs.Assembling.{LeadsApart}
use Rattle.code_graph.proofs.StepLaws.{heads_more}
use Rattle.code_graph.proofs.blocks.heads_of.Goals as goal

pub led_apart-requires-clause-within : goal.led_apart-requires-clause-within
led_apart-requires-clause-within c = λ k at.
    let node = slice_get_within c.args.nodes.now.addresses.items k _ (c.requires.ends.source c.loop-e.e k at) in
    let size = c.requires.firsts.size in
    let same : length c.deref-in-loop-e.result.now ≡ length c.args.lists.now.firsts.items = ap length c.deref-in-loop-e.ensures.value in
    omega arith

pub raise-requires : goal.raise-requires
raise-requires c = λ k is.
    let target = ((c.led_apart.ensures k).0 is).0 in
    let node = (c.requires.ends.target c.loop-e.e k target).1 in
    let size = c.loop-e.invariant.size in
    omega arith

pub loop-e-preserved : goal.loop-e-preserved
loop-e-preserved c =
    let led : (k : ℕ) → (c.led_apart.result ≡ Some k) ↔ LeadsApart c.args.lists.now.edges.items c.args.lists.now.firsts.items c.args.ends.now.sources.items c.args.ends.now.targets.items c.loop-e.e k =
    λ k. subst (λ xs. (c.led_apart.result ≡ Some k) ↔ LeadsApart xs c.args.lists.now.firsts.items c.args.ends.now.sources.items c.args.ends.now.targets.items c.loop-e.e k) c.deref.ensures.value
    (subst (λ fs. (c.led_apart.result ≡ Some k) ↔ LeadsApart c.deref.result.now fs c.args.ends.now.sources.items c.args.ends.now.targets.items c.loop-e.e k) c.deref-in-loop-e.ensures.value (c.led_apart.ensures k)) in
    heads_more c.args.nodes.now.addresses.items c.args.nodes.now.owners.items c.args.functions.now c.args.lists.now.edges.items c.args.lists.now.firsts.items c.args.ends.now.sources.items c.args.ends.now.targets.items
    c.loop-e.e c.loop-e.heads.items c.raise.new.flags.items c.led_apart.result c.raise.ensures.size c.raise.ensures.up led c.loop-e.invariant
