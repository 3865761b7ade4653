use Rattle.std.proofs.Common.{rules, ◌≡◌, ◌+◌, ◌<◌, length, arith, sym, subst, slice_set, Some, None}
use Rattle.std.proofs.lemmas.List.{get_or_read}
use Rattle.graph_algorithms.specs.Keys.{option_at}
use Rattle.graph_algorithms.proofs.ChainLaws.{AreChainsBelow, chains_add, chains_skip, chains_end}
use Rattle.graph_algorithms.proofs.chains.find_chains.Goals as goal
use Rattle.graph_algorithms.proofs.chains.find_chains.Goals.{in-Some, in_default}

pub loop-place-preserved : goal.loop-place-preserved
loop-place-preserved c = elim c.match-key.branch [
  | in-Some w ↦ (
      let keys = c.args.keys.now in
      let count = c.args.count in
      let n = c.loop-place.place in
      let lasts = c.loop-place.last.items in
      let befores = c.loop-place.before.items in
      let nl : c.loop-place.place < length c.args.keys.now = search rules in
      let jl : w.in-Some.k < c.args.count = c.requires n w.in-Some.k w.in-Some.is in
      let xl : w.in-Some.k < length c.loop-place.last.items = (let z = c.loop-place.invariant.last_size in omega arith) in
      let read : w.index.result.now ≡ option_at c.loop-place.last.items w.in-Some.k = get_or_read lasts _ _ xl w.index.ensures None in
      subst (λ v. AreChainsBelow keys count (n + 1) v.items c.match-key.before.items) (sym w.last-is)
      (subst (λ v. AreChainsBelow keys count (n + 1) (slice_set lasts w.in-Some.k (Some n)) v.items) (sym w.before-is)
      (subst (λ o. AreChainsBelow keys count (n + 1) (slice_set lasts w.in-Some.k (Some n)) (slice_set befores n o)) (sym read)
      (chains_add keys count n w.in-Some.k lasts befores c.loop-place.invariant nl jl w.in-Some.is))))
  | in_default w ↦ (
      let keys = c.args.keys.now in
      subst (λ v. AreChainsBelow keys c.args.count (c.loop-place.place + 1) v.items c.match-key.before.items) (sym w.last-is)
      (subst (λ v. AreChainsBelow keys c.args.count (c.loop-place.place + 1) c.loop-place.last.items v.items) (sym w.before-is)
      (chains_skip keys c.args.count c.loop-place.place c.loop-place.last.items c.loop-place.before.items c.loop-place.invariant w.in_default.is)))
]

pub returns : goal.returns
returns c = chains_end c.args.keys.now c.args.count c.loop-place.place c.loop-place.last.items c.loop-place.before.items (omega arith) c.loop-place.invariant
