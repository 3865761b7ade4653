use Rattle.std.proofs.Common.{arith, refl, ◌<◌, ◌≤◌, ◌∙◌, Some, None, slice_index_or, length, sym, subst}
use Rattle.code_graph.specs.Flow.{Waits, but_above}
use Rattle.code_graph.proofs.ChainLaws.{place, place_less, chain_start, chain_next, chain_end}
use Rattle.code_graph.proofs.reach.returning.visit_sources.Goals as goal

pub loop-next-init : goal.loop-next-init
loop-next-init c = record {
  pass = c.requires.pass;
  member = λ s e. c.requires.chain.last_key c.args.k s e;
  waits = λ done left room waits. chain_start c.args.steps.now c.args.last.now c.args.before.now c.requires.chain c.args.found.now.flags.items c.args.found.now.queue.items done c.args.k c.requires.within left waits;
  longer = omega arith;
  front = λ p lt. refl;
}

pub visit-requires-clause-within : goal.visit-requires-clause-within
visit-requires-clause-within c = (c.loop-next.invariant.member c.in-Some.s c.in-Some.is).0

pub bounds-before-s : goal.bounds-before-s
bounds-before-s c = let m = (c.loop-next.invariant.member c.in-Some.s c.in-Some.is).0 in omega (arith, c.requires.chain.before_size)

pub offset_bounds-before-s : goal.offset_bounds-before-s
offset_bounds-before-s c = let m = (c.loop-next.invariant.member c.in-Some.s c.in-Some.is).0 in omega (arith, c.requires.room)

pub loop-next-smaller : goal.loop-next-smaller
loop-next-smaller c =
    let at = (c.loop-next.invariant.member c.in-Some.s c.in-Some.is).0 in
    let key = (c.loop-next.invariant.member c.in-Some.s c.in-Some.is).1 in
    subst (λ o. place (slice_index_or c.args.before.now c.in-Some.s None) < place o) (sym c.in-Some.is)
    (place_less (slice_index_or c.args.before.now c.in-Some.s None) c.in-Some.s (λ r e. (c.requires.chain.before_key c.args.k c.in-Some.s r c.requires.within at key e).0))

pub loop-next-preserved : goal.loop-next-preserved
loop-next-preserved c =
    let key = (c.loop-next.invariant.member c.in-Some.s c.in-Some.is).1 in
    let at = (c.loop-next.invariant.member c.in-Some.s c.in-Some.is).0 in
    record {
      pass = c.in_ok-visit.ensures.pass;
      member = λ r e. let b = c.requires.chain.before_key c.args.k c.in-Some.s r c.requires.within at key e in let lt = b.0 in (omega arith, b.1);
      waits = λ done left room waits. chain_next c.args.steps.now c.args.last.now c.args.before.now c.requires.chain c.visit.new.found.flags.items c.visit.new.found.queue.items done c.args.k c.requires.within left c.in-Some.s at key
          (c.in_ok-visit.ensures.waits done (but_above c.args.steps.now c.args.k (Some c.in-Some.s) left) (let l = c.loop-next.invariant.longer in let r : done ≤ length c.loop-next.found.queue.items = omega arith in r)
          (subst (λ o. Waits c.args.steps.now c.loop-next.found.flags.items c.loop-next.found.queue.items done (but_above c.args.steps.now c.args.k o left)) c.in-Some.is (c.loop-next.invariant.waits done left room waits)));
      longer = (let a = c.loop-next.invariant.longer in let b = c.in_ok-visit.ensures.front.0 in omega arith);
      front = λ p lt. (let a = c.loop-next.invariant.longer in c.in_ok-visit.ensures.front.1 p (omega arith)) ∙ c.loop-next.invariant.front p lt;
    }

pub returns-clause-waits : goal.returns-clause-waits
returns-clause-waits c done left room waits =
    chain_end c.args.steps.now c.args.last.now c.args.before.now c.requires.chain c.loop-next.found.flags.items c.loop-next.found.queue.items done c.args.k c.requires.within left
    (subst (λ o. Waits c.args.steps.now c.loop-next.found.flags.items c.loop-next.found.queue.items done (but_above c.args.steps.now c.args.k o left)) c.in_default.is (c.loop-next.invariant.waits done left room waits))
