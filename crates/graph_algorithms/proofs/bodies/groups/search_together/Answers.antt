use Rattle.std.proofs.Common.{rules, ℕ, ◌≡◌, ◌∙◌, ◌↔◌, length, replicate, sym, subst}
use Rattle.std.proofs.lemmas.List.{take_at}
use Rattle.graph_algorithms.specs.Groups.{IsFlagged, OfLoop, IsTurn, IsSpan, AreBodyBits, IsSearched, AreInside}
use Rattle.graph_algorithms.proofs.SweepLaws.{searched_all}
use Rattle.graph_algorithms.proofs.GroupLaws.{zero_flags}
use Rattle.graph_algorithms.proofs.bodies.groups.search_together.Goals as goal

pub find_inside-requires-clause-span : goal.find_inside-requires-clause-span
find_inside-requires-clause-span c = subst (λ n. IsSpan n c.args.loops.now c.args.nodes) (sym c.count-count.ensures.count) c.requires.span

pub settle-requires-clause-nodes : goal.settle-requires-clause-nodes
settle-requires-clause-nodes c = c.requires.span.within

pub start_loops-requires-clause-none : goal.start_loops-requires-clause-none
start_loops-requires-clause-none c =
    let zeros : c.in_ok-found.found.items ≡ replicate {A = ℕ} c.count-count.result 0 = search rules in
    zero_flags c.count-count.result c.deref_mut.result.now (c.deref_mut.ensures.value ∙ zeros)

pub returns-then-settle : goal.returns-then-settle
returns-then-settle c =
    let one : length c.start_loops.new.found ≡ c.in_ok-found.found.len = search rules in
    let two : length c.settle.new.found ≡ c.in_ok-found.found.len = search rules in
    let start : c.deref_mut-3.result.now ≡ c.start_loops.new.found = c.deref_mut-3.ensures.value ∙ take_at c.start_loops.new.found _ c.in_ok-found.found.len one in
    let inside : AreInside c.args.loops.now c.args.edges.now.count c.in_ok-inside.inside.items = subst (λ n. AreInside c.args.loops.now n c.in_ok-inside.inside.items) c.count-count.ensures.count c.in_ok-inside.ensures in
    let starts : (v i : ℕ) → IsFlagged c.deref_mut-3.result.now v i ↔ OfLoop c.args.loops.now i (IsTurn c.args.edges.now c.in_ok-inside.inside.items v i) =
    subst (λ xs. (v i : ℕ) → IsFlagged c.deref_mut-3.result.now v i ↔ OfLoop c.args.loops.now i (IsTurn c.args.edges.now xs v i)) c.deref.ensures.value
    (subst (λ s. (v i : ℕ) → IsFlagged s v i ↔ OfLoop c.args.loops.now i (IsTurn c.args.edges.now c.deref.result.now v i)) (sym start) c.start_loops.ensures.found) in
    let searched : IsSearched c.args.edges.now c.in_ok-inside.inside.items c.deref_mut-3.result.now c.settle.new.found c.settle.new.pending =
    subst (λ xs. IsSearched c.args.edges.now xs c.deref_mut-3.result.now c.settle.new.found c.settle.new.pending) c.deref-2.ensures.value c.settle.ensures.search in
    subst (AreBodyBits c.args.edges.now c.args.loops.now) (sym (take_at c.settle.new.found _ c.in_ok-found.found.len two))
    (searched_all c.args.edges.now c.in_ok-inside.inside.items c.args.loops.now c.deref_mut-3.result.now c.settle.new.found c.settle.new.pending c.count-count.ensures.edges inside starts searched (c.settle.ensures.quiet.0 c.if-settle.true))
