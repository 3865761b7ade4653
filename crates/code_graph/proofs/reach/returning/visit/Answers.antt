use Rattle.std.proofs.Common.{rules, arith, ◌≡◌, ◌<◌, true, false, length, sym, subst, inl, slice_set, ◌++◌, ◌∷◌, []}
use Rattle.code_graph.specs.Flow.{flag, reason, IsReturnPass, Waits, but}
use Rattle.code_graph.proofs.FlowLaws.{pass_add, waits_add, waits_visit, flag_here}
use Rattle.code_graph.proofs.reach.returning.visit.Goals as goal

pub returns-in_ok-push-clause-pass : goal.returns-in_ok-push-clause-pass
returns-in_ok-push-clause-pass c =
    let none : flag c.args.found.now.flags.items c.args.s ≡ false = search rules in
    let has : reason c.args.steps.now c.args.found.now.flags.items c.args.s ≡ true = search rules in
    subst (λ q. IsReturnPass c.args.steps.now (slice_set c.args.found.now.flags.items c.args.s true) q) (sym c.in_ok-push.ensures.items)
    (pass_add c.args.steps.now c.args.found.now.flags.items c.args.found.now.queue.items c.args.s c.requires.pass c.requires.within none has)

pub returns-in_ok-push-clause-waits : goal.returns-in_ok-push-clause-waits
returns-in_ok-push-clause-waits c done left room waits =
    let lt : c.args.s < length c.args.found.now.flags.items = omega (arith, c.requires.pass.size, c.requires.within) in
    subst (λ q. Waits c.args.steps.now (slice_set c.args.found.now.flags.items c.args.s true) q done (but left c.args.s)) (sym c.in_ok-push.ensures.items)
    (waits_visit c.args.steps.now (slice_set c.args.found.now.flags.items c.args.s true) (c.args.found.now.queue.items ++ c.args.s ∷ []) done c.args.s left (inl (flag_here c.args.found.now.flags.items c.args.s lt))
    (waits_add c.args.steps.now c.args.found.now.flags.items c.args.found.now.queue.items done c.args.s left lt room waits))
