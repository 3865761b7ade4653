use Rattle.std.proofs.Common.{ℕ, ◌≤◌, List, length, sym, subst, arith}
use Rattle.std.proofs.lemmas.List.Sorted.{length_permutation}
use Rattle.least_cycles.specs.Functions.{IsBucket}
use Rattle.least_cycles.proofs.OrderLaws.{bucket_permuted}
use Rattle.least_cycles.proofs.buckets.bucket_of.Goals as goal

pub ranked-requires-clause-within : goal.ranked-requires-clause-within
ranked-requires-clause-within c =
    let is : IsBucket c.args.graph.now c.args.f c.deref.result.now = subst (λ (nodes : List ℕ). IsBucket c.args.graph.now c.args.f nodes) (sym c.deref.ensures.value) c.in_ok-nodes.ensures.bucket in
    λ i il. let within = is.within i il in let size = c.requires.size in omega arith

pub ranked-requires-clause-once : goal.ranked-requires-clause-once
ranked-requires-clause-once c =
    let is : IsBucket c.args.graph.now c.args.f c.deref.result.now = subst (λ (nodes : List ℕ). IsBucket c.args.graph.now c.args.f nodes) (sym c.deref.ensures.value) c.in_ok-nodes.ensures.bucket in
    is.once

pub returns-clause-bucket : goal.returns-clause-bucket
returns-clause-bucket c =
    let is : IsBucket c.args.graph.now c.args.f c.deref.result.now = subst (λ (nodes : List ℕ). IsBucket c.args.graph.now c.args.f nodes) (sym c.deref.ensures.value) c.in_ok-nodes.ensures.bucket in
    bucket_permuted c.deref.result.now c.in_ok-bucket.bucket.items c.in_ok-bucket.ensures.nodes c.args.graph.now c.args.f is

pub returns-clause-few : goal.returns-clause-few
returns-clause-few c =
    let size = length_permutation c.deref.result.now c.in_ok-bucket.bucket.items c.in_ok-bucket.ensures.nodes in
    let same = c.deref.ensures.value in
    let few = c.in_ok-nodes.ensures.few in
    subst (λ n. n ≤ length c.args.graph.now.code.nodes) (sym size) (subst (λ (nodes : List ℕ). length nodes ≤ length c.args.graph.now.code.nodes) (sym same) few)
