use Rattle.std.proofs.Common.{rules, ◌≡◌, ◌<◌, ◌+◌, length, arith, refl, sym, ◌∙◌, subst, slice_set, Some, None, get_or}
use Rattle.std.proofs.lemmas.Option.{slice_get-get_or}
use Rattle.std.proofs.lemmas.List.{get_or_read}
use Rattle.graph_algorithms.specs.Keys.{option_at}
use Rattle.loop_tree.proofs.HeaderLaws.{ArePairs, pairs_seen, pairs_new}
use Rattle.loop_tree.proofs.natural.headers.least_pair.Goals as goal
use Rattle.loop_tree.proofs.natural.headers.least_pair.Goals.{in-Some, in-None}

pub loop-k-preserved : goal.loop-k-preserved
loop-k-preserved c =
    let headers = c.args.headers.now in
    let k = c.loop-k.k in
    let firsts = c.loop-k.firsts.items in
    let lt : c.loop-k.k < length c.args.headers.now = search rules in
    let header = get_or c.args.headers.now c.loop-k.k 0 in
    let low : get_or c.args.headers.now c.loop-k.k 0 < c.args.count = c.requires k (get_or c.args.headers.now c.loop-k.k 0) (slice_get-get_or headers k 0 lt) in
    let size = c.loop-k.invariant.size in
    let read : c.index.result.now ≡ option_at c.loop-k.firsts.items (get_or c.args.headers.now c.loop-k.k 0) = get_or_read firsts header _ (omega arith) c.index.ensures None in
    elim c.match-index.branch [
      | in-Some w ↦
          subst (λ f. ArePairs c.args.headers.now c.args.count (c.loop-k.k + 1) f.items c.match-index.least) (sym w.firsts-is)
          (subst (λ o. ArePairs c.args.headers.now c.args.count (c.loop-k.k + 1) c.loop-k.firsts.items o) (sym w.least-is)
          (pairs_seen headers c.args.count k header firsts c.loop-k.least c.loop-k.invariant refl low w.in-Some.first w.lesser_pair.result (sym read ∙ w.in-Some.is) w.lesser_pair.ensures))
      | in-None w ↦
          subst (λ f. ArePairs c.args.headers.now c.args.count (c.loop-k.k + 1) f.items c.match-index.least) (sym w.firsts-is)
          (subst (λ o. ArePairs c.args.headers.now c.args.count (c.loop-k.k + 1) (slice_set c.loop-k.firsts.items (get_or c.args.headers.now c.loop-k.k 0) (Some c.loop-k.k)) o) (sym w.least-is)
          (pairs_new headers c.args.count k header firsts c.loop-k.least c.loop-k.invariant refl low (sym read ∙ w.in-None.is)))
    ]
