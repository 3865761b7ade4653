-- The hops of some nodes, node by node, and the least costs by them.
use Rattle.std.proofs.Common.{◌≡◌, ℕ, zero, suc, ◌+◌, ◌<◌, ◌≤◌, ◌⊎◌, inl, inr, Bool, true, false, List, [], ◌∷◌, ◌++◌, length, length-append, slice_get, option_map, Option, Some, None, is_some, IsSome, IfSome, refl, sym, ap, ◌∙◌, subst, arith, ⊎_elim}
use Rattle.std.proofs.lemmas.Bool.{cases_lt}
use Rattle.std.proofs.lemmas.List.{length-map}
use Rattle.std.proofs.lemmas.Option.{slice_get_within, slice_get-get_or, slice_get-map, same_Some}
use Rattle.graph_algorithms.specs.Arcs.{number_in_place}
use Rattle.cost_theory.specs.Graph.{Graph, total}
use Rattle.cost_theory.specs.Least.{IsLeastIfAny, EndsWith}
use Rattle.cost_theory.specs.LeastTurns.{IsRun}
use Rattle.flow_graph.specs.FlowGraph.{FlowGraph, graph, IsFlowGraph}
use Rattle.loop_forest.specs.Noted.{node_address}
use Rattle.loop_forest.proofs.Laws.{one_number}
use Rattle.least_cycles.specs.declared.Hop.{Hop}
use Rattle.least_cycles.specs.declared.Way.{Way}
use Rattle.least_cycles.specs.declared.Way.TheVariants.{Last, To, Stop}
use Rattle.least_cycles.specs.Hops.{HeadBelow, IsHop, AreHops, AreLeastCosts, number_in_table}
use Rattle.least_cycles.specs.Local.{AreLocal}
use Rattle.least_cycles.specs.Functions.{IsBucket, AreKinds, addresses, is_in_flags, IsNodeFlagged, IsFromFirst, IsFromNext, AreLeastRuns, AreLeastIn}
use Rattle.least_cycles.specs.declared.function.Runs.{Runs}
use Rattle.least_cycles.specs.Passes.{AreRuns, run_cost, IsWayIn, IsHopIn, AreHopsIn, AreLeastOf}
use Rattle.least_cycles.specs.Tables.{AreLeading}
use Rattle.least_cycles.proofs.Transfer.{local-least}

node_here : (v : FlowGraph) (k : ℕ) → k < length v.code.nodes → slice_get v.code.nodes k ≡ Some (node_address v k)
node_here v k lt = slice_get-get_or v.code.nodes k 0 lt

address_at : (v : FlowGraph) (bucket : List ℕ) (i : ℕ) → i < length bucket → slice_get (addresses v bucket) i ≡ Some (node_address v (number_in_place bucket i))
address_at v bucket i lt = slice_get-map (node_address v) bucket i ∙ ap (option_map (node_address v)) (slice_get-get_or bucket i 0 lt)

-- ---- where an edge leads

pub way_to : (r : Runs) (e k : ℕ) → AreRuns r → e < length r.graph.now.code.edges → IsFromFirst r.graph.now r.nodes.now (length r.nodes.now) e →
    is_in_flags r.lasts.now e ≡ false → is_in_flags r.steps.now e ≡ true → (graph r.graph.now).target e ≡ slice_get r.graph.now.code.nodes k → k < length r.graph.now.code.nodes → IsWayIn r (To (number_in_place r.places.now k)) e
way_to r e k are lt from no_last a_step to kl =
    let v = r.graph.now in
    let nodes = r.nodes.now in
    let places = r.places.now in
    let target : (graph v).target e ≡ Some (node_address v k) = to ∙ node_here v k kl in
    let j = are.kinds.stays e lt from a_step in
    let same : number_in_place nodes j.0 ≡ k = one_number v are.flow (number_in_place nodes j.0) k (node_address v k) (node_here v (number_in_place nodes j.0) (are.nodes.within j.0 j.1) ∙ sym j.2 ∙ target) (node_here v k kl) in
    let here : number_in_place places k ≡ j.0 = ap (number_in_place places) (sym same) ∙ are.places.each j.0 j.1 in
    (no_last, a_step, (node_address v k, target, ap (slice_get (addresses v nodes)) here ∙ address_at v nodes j.0 j.1 ∙ ap (λ m. Some (node_address v m)) same))

-- ---- hops

pub hops_for : (r : Runs) (Done Other : ℕ → Type 0) (hops : List Hop) → AreHopsIn r Done hops → ((e : ℕ) → e < length r.graph.now.code.edges → Other e → Done e) → AreHopsIn r Other hops
hops_for r Done Other hops are less = (are.0, record { size = are.1.size; edge = are.1.edge; all = λ e lt done. are.1.all e lt (less e lt done); hop = are.1.hop })

push_before : {A : Type 0} (xs : List A) (x : A) (i : ℕ) → i < length xs → slice_get (xs ++ x ∷ []) i ≡ slice_get xs i
push_before [] x i lt = let bad : ⊥ = omega arith in absurd bad
push_before (y ∷ ys) x zero lt = refl
push_before (y ∷ ys) x (suc i) lt = push_before ys x i (omega arith)

push_last : {A : Type 0} (xs : List A) (x : A) → slice_get (xs ++ x ∷ []) (length xs) ≡ Some x
push_last [] x = refl
push_last (y ∷ ys) x = push_last ys x

pub hops_push : (r : Runs) (Done Next : ℕ → Type 0) (hops : List Hop) (e : ℕ) (h : Hop) → AreHopsIn r Done hops → e < length r.graph.now.code.edges → IsHopIn r h e →
    ((d : ℕ) → d < length r.graph.now.code.edges → Next d → Done d ⊎ (d ≡ e)) → AreHopsIn r Next (hops ++ h ∷ [])
hops_push r Done Next hops e h (edges, are) el is next =
    let size : length edges ≡ length hops = are.size in
    let more : length (edges ++ e ∷ []) ≡ length edges + 1 = length-append edges (e ∷ []) in
    let also : length (hops ++ h ∷ []) ≡ length hops + 1 = length-append hops (h ∷ []) in (
      edges ++ e ∷ [],
      record {
        size = let r : length (edges ++ e ∷ []) ≡ length (hops ++ h ∷ []) = omega arith in r;
        edge = λ i d at. ⊎_elim
            (λ (low : i < length edges). are.edge i d (sym (push_before edges e i low) ∙ at))
            (λ (high : length edges ≤ i). subst (λ x. x < length r.graph.now.code.edges) (last i d high at) el)
            (cases_lt i (length edges));
        all = λ d dl done. ⊎_elim
            (λ (old : Done d). let p = are.all d dl old in (p.0, push_before edges e p.0 (slice_get_within edges p.0 d p.1) ∙ p.1))
            (λ (same : d ≡ e). (length edges, push_last edges e ∙ ap Some (sym same)))
            (next d dl done);
        hop = λ i d at. ⊎_elim
            (λ (low : i < length edges).
            let p = are.hop i d (sym (push_before edges e i low) ∙ at) in
            (p.0, push_before hops h i (let r : i < length hops = omega arith in r) ∙ p.1, p.2))
            (λ (high : length edges ≤ i).
            let same : e ≡ d = last i d high at in
            let place : i ≡ length hops = (let w : i < length (edges ++ e ∷ []) = slice_get_within (edges ++ e ∷ []) i d at in omega arith) in
            (h, ap (slice_get (hops ++ h ∷ [])) place ∙ push_last hops h, subst (IsHopIn r h) same is))
            (cases_lt i (length edges));
      },
    )
  where
    last : (i d : ℕ) → length edges ≤ i → slice_get (edges ++ e ∷ []) i ≡ Some d → e ≡ d
    last i d high at =
        let more : length (edges ++ e ∷ []) ≡ length edges + 1 = length-append edges (e ∷ []) in
        let w : i < length (edges ++ e ∷ []) = slice_get_within (edges ++ e ∷ []) i d at in
        let place : i ≡ length edges = omega arith in
        same_Some e d (sym (push_last edges e) ∙ ap (slice_get (edges ++ e ∷ [])) (sym place) ∙ at)

-- the hop of an edge of the node at a place
pub hop_of : (r : Runs) (i e : ℕ) (way : Way) (cost : ℕ) → i < length r.nodes.now → (graph r.graph.now).source e ≡ node_address r.graph.now (number_in_place r.nodes.now i) → IsWayIn r way e → cost ≡ run_cost r e → IsHopIn r (record { tail = i; way = way; cost = cost }) e
hop_of r i e way cost il from is price = record { tail = address_at r.graph.now r.nodes.now i il ∙ ap Some (sym from); way = is; cost = price }

pub next_start : (v : FlowGraph) (bucket : List ℕ) (i first e : ℕ) → ((graph v).source e ≡ node_address v (number_in_place bucket i) → first ≤ e) → IsFromFirst v bucket i e ⊎ IsFromNext v bucket i first e → IsFromFirst v bucket i e
next_start v bucket i first e from done = ⊎_elim
    (λ (old : IsFromFirst v bucket i e). old)
    (λ (next : IsFromNext v bucket i first e). let low : first ≤ e = from next.0 in let high : e < first = next.1 in let bad : ⊥ = omega arith in absurd bad)
    done

pub next_step : (v : FlowGraph) (bucket : List ℕ) (i e d : ℕ) → IsFromFirst v bucket i d ⊎ IsFromNext v bucket i (e + 1) d → (IsFromFirst v bucket i d ⊎ IsFromNext v bucket i e d) ⊎ (d ≡ e)
next_step v bucket i e d done = ⊎_elim
    (λ (old : IsFromFirst v bucket i d). inl (inl old))
    (λ (next : IsFromNext v bucket i (e + 1) d). ⊎_elim
    (λ (low : d < e). inl (inr (next.0, low)))
    (λ (high : e ≤ d). let less : d < e + 1 = next.1 in let r : (IsFromFirst v bucket i d ⊎ IsFromNext v bucket i e d) ⊎ (d ≡ e) = inr (let q : d ≡ e = omega arith in q) in r)
    (cases_lt d e))
    done

pub next_end : (v : FlowGraph) (bucket : List ℕ) (i end e : ℕ) → ((graph v).source e ≡ node_address v (number_in_place bucket i) → e < end) → IsFromFirst v bucket (i + 1) e → IsFromFirst v bucket i e ⊎ IsFromNext v bucket i end e
next_end v bucket i end e below done = ⊎_elim
    (λ (low : done.0 < i). inl (done.0, low, done.2))
    (λ (high : i ≤ done.0).
    let less : done.0 < i + 1 = done.1 in
    let same : done.0 ≡ i = omega arith in
    let from : (graph v).source e ≡ node_address v (number_in_place bucket i) = done.2 ∙ ap (λ j. node_address v (number_in_place bucket j)) same in
    inr (from, below from))
    (cases_lt done.0 i)

-- ---- all of the nodes

pub are_hops : (r : Runs) (most : ℕ) (hops : List Hop) → AreHopsIn r (IsFromFirst r.graph.now r.nodes.now (length r.nodes.now)) hops → ((e : ℕ) → run_cost r e ≤ most) → AreHops (length r.nodes.now) most hops
are_hops r most hops (edges, are) small i = go (slice_get hops i) refl
  where
    size : length (addresses r.graph.now r.nodes.now) ≡ length r.nodes.now
    size = length-map r.nodes.now (node_address r.graph.now)

    head : (w : Way) (e : ℕ) → IsWayIn r w e → HeadBelow (length r.nodes.now) w
    head Last e is = tt
    head (To j) e is = let low : j < length (addresses r.graph.now r.nodes.now) = slice_get_within (addresses r.graph.now r.nodes.now) j is.2.0 is.2.2 in let s = size in omega arith
    head Stop e is = tt

    go : (o : Option Hop) → slice_get hops i ≡ o → IfSome o (IsHop (length r.nodes.now) most)
    go None at = tt
    go (Some h) at =
        let sizes : length edges ≡ length hops = are.size in
        let within : i < length hops = slice_get_within hops i h at in
        let edge : slice_get edges i ≡ Some (number_in_place edges i) = slice_get-get_or edges i 0 (let s : i < length edges = omega arith in s) in
        let p = are.hop i (number_in_place edges i) edge in
        let same : p.0 ≡ h = same_hop p.0 h (sym p.1 ∙ at) in
        subst (IsHop (length r.nodes.now) most) same (record {
          tail = let low : p.0.tail < length (addresses r.graph.now r.nodes.now) = slice_get_within (addresses r.graph.now r.nodes.now) p.0.tail _ p.2.tail in let s = size in let q : p.0.tail < length r.nodes.now = omega arith in q;
          head = head p.0.way (number_in_place edges i) p.2.way;
          cost = let price : p.0.cost ≡ run_cost r (number_in_place edges i) = p.2.cost in let low = small (number_in_place edges i) in let q : p.0.cost ≤ most = omega arith in q;
        })
      where
        same_hop : (a b : Hop) → Some a ≡ Some b → a ≡ b
        same_hop a b e = let q : a ≡ b = cc in q

pub least_in : (r : Runs) (hops : List Hop) (table : List (Option ℕ)) → AreRuns r → AreHopsIn r (IsFromFirst r.graph.now r.nodes.now (length r.nodes.now)) hops → AreLeastCosts hops table → AreLeastOf r table
least_in r hops table runs (edges, are) least i il =
    local-least (graph r.graph.now) (is_in_flags r.lasts.now) (is_in_flags r.steps.now) (run_cost r) (addresses r.graph.now r.nodes.now) edges hops local (node_address r.graph.now (number_in_place r.nodes.now i)) i (number_in_table table i) (address_at r.graph.now r.nodes.now i il) (least i)
  where
    size : length (addresses r.graph.now r.nodes.now) ≡ length r.nodes.now
    size = length-map r.nodes.now (node_address r.graph.now)

    place : (j u : ℕ) → slice_get (addresses r.graph.now r.nodes.now) j ≡ Some u → (j < length r.nodes.now) × (u ≡ node_address r.graph.now (number_in_place r.nodes.now j))
    place j u at =
        let s = size in
        let low : j < length (addresses r.graph.now r.nodes.now) = slice_get_within (addresses r.graph.now r.nodes.now) j u at in
        let jl : j < length r.nodes.now = omega arith in
        (jl, same_Some u (node_address r.graph.now (number_in_place r.nodes.now j)) (sym at ∙ address_at r.graph.now r.nodes.now j jl))

    one_place : (j k : ℕ) → j < length r.nodes.now → k < length r.nodes.now → number_in_place r.nodes.now j ≡ number_in_place r.nodes.now k → j ≡ k
    one_place j k jl kl same = ⊎_elim
        (λ (lt : j < k). absurd (runs.nodes.once j k lt kl same))
        (λ (le : k ≤ j). ⊎_elim
        (λ (lt : k < j). absurd (runs.nodes.once k j lt jl (sym same)))
        (λ (ge : j ≤ k). let q : j ≡ k = omega arith in q)
        (cases_lt k j))
        (cases_lt j k)

    local : AreLocal (graph r.graph.now) (is_in_flags r.lasts.now) (is_in_flags r.steps.now) (run_cost r) (addresses r.graph.now r.nodes.now) edges hops
    local = record {
      once = λ j k u at_j at_k.
          let a = place j u at_j in
          let b = place k u at_k in
          let same : number_in_place r.nodes.now j ≡ number_in_place r.nodes.now k = one_number r.graph.now runs.flow (number_in_place r.nodes.now j) (number_in_place r.nodes.now k) u (node_here r.graph.now (number_in_place r.nodes.now j) (runs.nodes.within j a.0) ∙ ap Some (sym a.1)) (node_here r.graph.now (number_in_place r.nodes.now k) (runs.nodes.within k b.0) ∙ ap Some (sym b.1)) in
          one_place j k a.0 b.0 same;
      edge = are.edge;
      all = λ e j lt at. let p = place j ((graph r.graph.now).source e) at in are.all e lt (j, p.0, p.1);
      hop = are.hop;
      no_more = λ j jl. let s : length edges ≡ length hops = are.size in (number_in_place edges j, slice_get-get_or edges j 0 (let q : j < length edges = omega arith in q));
    }

-- ---- where all edges that lead to a node are steps

module _ (g : Graph) (lasts steps : List Bool) (c : ℕ → ℕ) (lead : (e : ℕ) → e < g.edges → is_in_flags steps e ≡ is_some (g.target e)) where
  as_walk : (es : List ℕ) (p : Option ℕ) → IsRun g false (is_in_flags lasts) (is_in_flags steps) p es → EndsWith g (IsNodeFlagged lasts) p es
  as_walk [] p run = let q : false ≡ true = run in let bad : ⊥ = cc in absurd bad
  as_walk (e ∷ es) p run = (
    run.0,
    run.1,
    ⊎_elim
        (λ (b : (is_in_flags lasts e ≡ true) × (es ≡ [])). inl (b.1, b.0))
        (λ (b : (is_in_flags steps e ≡ true) × IsRun g false (is_in_flags lasts) (is_in_flags steps) (g.target e) es). inr (sym (lead e run.0) ∙ b.0, as_walk es (g.target e) b.1))
        run.2,
  )

  as_run : (es : List ℕ) (p : Option ℕ) → EndsWith g (IsNodeFlagged lasts) p es → IsRun g false (is_in_flags lasts) (is_in_flags steps) p es
  as_run [] p walk = absurd walk
  as_run (e ∷ es) p walk = (
    walk.0,
    walk.1,
    ⊎_elim
        (λ (b : (es ≡ []) × IsNodeFlagged lasts e). inl (b.1, b.0))
        (λ (b : IsSome (g.target e) × EndsWith g (IsNodeFlagged lasts) (g.target e) es). inr (lead e walk.0 ∙ b.0, as_run es (g.target e) b.1))
        walk.2,
  )

  least_walk : (p : Option ℕ) (o : Option ℕ) → IsLeastIfAny (IsRun g false (is_in_flags lasts) (is_in_flags steps) p) (total c) o → IsLeastIfAny (EndsWith g (IsNodeFlagged lasts) p) (total c) o
  least_walk p None none = λ es walk. none es (as_run es p walk)
  least_walk p (Some m) some = record {
    reached = (some.reached.0, as_walk some.reached.0 p some.reached.1, some.reached.2);
    least = λ es walk. some.least es (as_run es p walk);
  }

pub least_walks : (v : FlowGraph) (lasts steps : List Bool) (c : ℕ → ℕ) (nodes : List ℕ) (table : List (Option ℕ)) → AreLeading v (length v.code.edges) steps → AreLeastRuns v lasts steps c nodes table → AreLeastIn v lasts c nodes table
least_walks v lasts steps c nodes table leading least i il =
    least_walk (graph v) lasts steps c leading.each (Some (node_address v (number_in_place nodes i))) (number_in_table table i) (least i il)

-- ---- the nodes of a function

pub bucket_kinds : (v : FlowGraph) (f : ℕ) (bucket : List ℕ) (lasts steps : List Bool) → IsFlowGraph v → IsBucket v f bucket → AreLeading v (length v.code.edges) steps → length lasts ≡ length v.code.edges →
    ((e : ℕ) → e < length v.code.edges → IsNodeFlagged lasts e → (graph v).target e ≡ None) → AreKinds v bucket lasts steps
bucket_kinds v f bucket lasts steps flow is leading size ends = record {
  lasts_size = size;
  steps_size = leading.size;
  apart = λ e el from marked. leading.each e el ∙ ap is_some (ends e el marked);
  stays = λ e el from marked. to e el from ((graph v).target e) refl (sym (leading.each e el) ∙ marked);
}
  where
    to : (e : ℕ) → e < length v.code.edges → IsFromFirst v bucket (length bucket) e → (o : Option ℕ) → (graph v).target e ≡ o → is_some o ≡ true →
        (j : ℕ) × (j < length bucket) × ((graph v).target e ≡ Some (node_address v (number_in_place bucket j)))
    to e el from None at some = let bad : ⊥ = cc in absurd bad
    to e el from (Some u) at some =
        let stay = flow.program.stays e u el at in
        let k = (flow.nodes u).1 stay.0 in
        let kl = slice_get_within v.code.nodes k.0 u k.1 in
        let here : node_address v k.0 ≡ u = same_Some (node_address v k.0) u (sym (node_here v k.0 kl) ∙ k.1) in
        let own : (graph v).owner (node_address v k.0) ≡ f = ap (graph v).owner here ∙ stay.1 ∙ ap (graph v).owner from.2 ∙ is.own from.0 from.1 in
        let i = is.whole k.0 kl own in
        (i.0, i.1, at ∙ ap Some (sym here ∙ ap (node_address v) (sym i.2)))

-- ---- flags of the edges that lead to a node

module _ (v : FlowGraph) (e : ℕ) (flags : List Bool) (are : AreLeading v e flags) (el : e < length v.code.edges) where
  pub leading_more : (b : Bool) (o : Option ℕ) → b ≡ is_some o → ((k : ℕ) → o ≡ Some k → (graph v).target e ≡ slice_get v.code.nodes k) → ((k : ℕ) → o ≡ Some k → k < length v.code.nodes) → (o ≡ None → (graph v).target e ≡ None) →
      AreLeading v (e + 1) (flags ++ b ∷ [])
  leading_more b o is some within none = record {
    size = let s = are.size in let a : length (flags ++ b ∷ []) ≡ length flags + 1 = length-append flags (b ∷ []) in omega arith;
    each = λ d dl. ⊎_elim
        (λ (low : d < e). before flags b d (let s = are.size in omega arith) ∙ are.each d low)
        (λ (high : e ≤ d).
        let s = are.size in
        let last : d ≡ length flags = omega arith in
        let same : d ≡ e = omega arith in
        ap (is_in_flags (flags ++ b ∷ [])) last ∙ at flags b ∙ is ∙ leads o refl ∙ ap (λ x. is_some ((graph v).target x)) (sym same))
        (cases_lt d e);
  }
    where
      before : (xs : List Bool) (x : Bool) (i : ℕ) → i < length xs → is_in_flags (xs ++ x ∷ []) i ≡ is_in_flags xs i
      before [] x i lt = let bad : ⊥ = omega arith in absurd bad
      before (y ∷ ys) x zero lt = refl
      before (y ∷ ys) x (suc i) lt = before ys x i (omega arith)

      at : (xs : List Bool) (x : Bool) → is_in_flags (xs ++ x ∷ []) (length xs) ≡ x
      at [] x = refl
      at (y ∷ ys) x = at ys x

      leads : (p : Option ℕ) → o ≡ p → is_some o ≡ is_some ((graph v).target e)
      leads None eq = ap is_some eq ∙ sym (ap is_some (none eq))
      leads (Some k) eq = ap is_some eq ∙ sym (ap is_some (some k eq ∙ node_here v k (within k eq)))
