use Rattle.std.proofs.Common.{◌<◌, ℕ, List, Option, length, sym, subst, arith}
use Rattle.graph_algorithms.specs.Keys.{IsLastBelow}
use Rattle.graph_algorithms.proofs.Laws.{place, place_less}
use Rattle.least_cycles.proofs.PriceLaws.{IsBucketFrom, bucket_first, bucket_more, bucket_last, next_is}
use Rattle.least_cycles.proofs.buckets.nodes_of.Goals as goal

pub loop-next-init : goal.loop-next-init
loop-next-init c = λ keys owners chains.
    subst (λ (bucket : List ℕ). IsBucketFrom c.args.graph.now keys c.args.f c.last-next.result bucket) (sym c.new-bucket.ensures.items)
    (bucket_first c.args.graph.now keys c.args.f c.last-next.result owners (subst (λ (o : Option ℕ). IsLastBelow keys (length keys) c.args.f o) (sym c.last-next.ensures) (chains.last c.args.f c.requires.function)))

pub before-next-requires : goal.before-next-requires
before-next-requires c =
    let t = c.requires.chains in
    let is = subst (λ (o : Option ℕ). IsBucketFrom c.args.graph.now t.0 c.args.f o c.loop-next.bucket.items) c.in-Some.is (c.loop-next.invariant t.0 t.1 t.2) in
    let here = (next_is c.args.graph.now t.0 c.args.f c.in-Some.k c.loop-next.bucket.items t.1 is).0 in
    let size = t.1.size in
    let before = t.2.before_size in
    omega arith

pub loop-next-smaller : goal.loop-next-smaller
loop-next-smaller c =
    let t = c.requires.chains in
    let is = subst (λ (o : Option ℕ). IsBucketFrom c.args.graph.now t.0 c.args.f o c.loop-next.bucket.items) c.in-Some.is (c.loop-next.invariant t.0 t.1 t.2) in
    let key = (next_is c.args.graph.now t.0 c.args.f c.in-Some.k c.loop-next.bucket.items t.1 is).1 in
    let before = subst (λ (o : Option ℕ). IsLastBelow t.0 c.in-Some.k c.args.f o) (sym c.before-next.ensures) (t.2.before c.in-Some.k c.args.f key) in
    subst (λ (o : Option ℕ). place c.before-next.result < place o) (sym c.in-Some.is)
    (place_less c.before-next.result c.in-Some.k (λ r e. (before.place r e).0))

pub loop-next-preserved : goal.loop-next-preserved
loop-next-preserved c = λ keys owners chains.
    let v = c.args.graph.now in
    let is = subst (λ (o : Option ℕ). IsBucketFrom c.args.graph.now keys c.args.f o c.loop-next.bucket.items) c.in-Some.is (c.loop-next.invariant keys owners chains) in
    let key = (next_is v keys c.args.f c.in-Some.k c.loop-next.bucket.items owners is).1 in
    let before = subst (λ (o : Option ℕ). IsLastBelow keys c.in-Some.k c.args.f o) (sym c.before-next.ensures) (chains.before c.in-Some.k c.args.f key) in
    subst (λ (items : List ℕ). IsBucketFrom c.args.graph.now keys c.args.f c.before-next.result items) (sym c.in_ok-push.ensures.items)
    (bucket_more v keys c.args.f c.in-Some.k c.before-next.result c.loop-next.bucket.items owners is before)

pub returns-clause-bucket : goal.returns-clause-bucket
returns-clause-bucket c =
    let t = c.requires.chains in
    let is = subst (λ (o : Option ℕ). IsBucketFrom c.args.graph.now t.0 c.args.f o c.loop-next.bucket.items) c.in_default.is (c.loop-next.invariant t.0 t.1 t.2) in
    bucket_last c.args.graph.now t.0 c.args.f c.loop-next.bucket.items t.1 is

pub returns-clause-few : goal.returns-clause-few
returns-clause-few c =
    let t = c.requires.chains in
    let room = (c.loop-next.invariant t.0 t.1 t.2).room in
    omega arith
