use Rattle.std.proofs.Common.{◌≡◌, ◌+◌, ◌<◌, length, slice_index_or, slice_set, sym, ◌∙◌, subst, arith, Some, None}
use Rattle.code_graph.specs.Flow.{AreStepChains, key_of, step_at}
use Rattle.code_graph.specs.declared.reach.step.Step.TheVariants.{Return}
use Rattle.code_graph.proofs.LinkLaws.{chain_add, chain_skip, same_link, some_same, none_some, key_same}
use Rattle.code_graph.proofs.reach.chains.link.Goals as goal

pub returns-then-k-steps : goal.returns-then-k-steps
returns-then-k-steps c =
    let within : c.in-Some.k < length c.args.chains.now.last.items = omega (arith, c.requires.chain.last_size) in
    let at : c.index.result.now ≡ slice_index_or c.args.chains.now.last.items c.in-Some.k None = c.index.ensures ∙ same_link c.args.chains.now.last.items c.in-Some.k c.index.result.now None within in
    let key : key_of (step_at c.args.steps.now c.args.s) ≡ Some c.in-Some.k = key_same c.args.steps.now c.args.s Return c.requires.within ∙ sym c.key.ensures ∙ c.in-Some.is in
    subst (λ o. AreStepChains c.args.steps.now (c.args.s + 1) (slice_set c.args.chains.now.last.items c.in-Some.k (Some c.args.s)) (slice_set c.args.chains.now.before.items c.args.s o)) (sym at)
    (chain_add c.args.steps.now c.args.s c.in-Some.k c.args.chains.now.last.items c.args.chains.now.before.items c.requires.chain c.requires.within (omega arith) key)

pub returns-else-k-steps : goal.returns-else-k-steps
returns-else-k-steps c = chain_skip c.args.steps.now c.args.s c.args.chains.now.last.items c.args.chains.now.before.items c.requires.chain
    (λ k kl ks. let same : c.in-Some.k ≡ k = some_same c.in-Some.k k (key_of (step_at c.args.steps.now c.args.s)) (key_same c.args.steps.now c.args.s Return c.requires.within ∙ sym c.key.ensures ∙ c.in-Some.is) ks in omega (arith, same, kl))

pub returns-in_default : goal.returns-in_default
returns-in_default c = chain_skip c.args.steps.now c.args.s c.args.chains.now.last.items c.args.chains.now.before.items c.requires.chain (λ k kl ks. none_some k (key_of (step_at c.args.steps.now c.args.s)) (key_same c.args.steps.now c.args.s Return c.requires.within ∙ sym c.key.ensures ∙ c.in_default.is) ks)
