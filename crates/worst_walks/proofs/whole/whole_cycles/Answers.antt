use Rattle.std.proofs.Common.{◌≡◌, ℕ, ◌*◌, ◌<◌, List, length, ap, ◌∙◌, subst}
use Rattle.graph_algorithms.specs.Arcs.{number_in_place}
use Rattle.worst_cycles.specs.Worst.{by_edge}
use Rattle.worst_walks.specs.Whole.{body_taken}
use Rattle.worst_walks.proofs.WholeLaws.{whole_is}
use Rattle.worst_walks.proofs.whole.whole_cycles.Goals as goal

pub returns-clause-whole : goal.returns-clause-whole
returns-clause-whole c = λ worst top tops walk.
    let v = c.args.known.now.graph.now in
    let t = c.args.known.now.tree.now in
    let w = by_edge c.args.known.now.weights.now in
    let table = c.args.known.now.worst.now.worst in
    let functions_size = rw c.in-Some.is at c.in_ok-functions.ensures.size in
    let functions_are = rw c.in-Some.is at c.in_ok-functions.ensures.each in
    let loops_size = rw c.in-Some-2.is at c.in_ok-loops.ensures.size in
    let loops_are = rw c.in-Some-2.is at c.in_ok-loops.ensures.each in
    whole_is v t c.requires.known.tree.0 c.node_count-nodes.ensures.graph c.requires.known.tree.1 w table worst c.args.counts.now tops top walk
    (record { functions = c.in-Some.functions; loops = c.in-Some-2.loops })
    (functions_size ∙ ap length c.deref.ensures.value) c.requires.calls
    (subst (λ (calls : List ℕ). (f : ℕ) → f < length calls → number_in_place c.in-Some.functions.items f ≡ number_in_place calls f * number_in_place table f) c.deref.ensures.value functions_are)
    loops_size
    (subst (λ (taken : List ℕ). (k : ℕ) → k < length t.headers → number_in_place c.in-Some-2.loops.items k ≡ body_taken v t w table taken k) c.deref-2.ensures.value loops_are)
