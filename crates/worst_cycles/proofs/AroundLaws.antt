-- The turns of the loops round each node, one loop after the other.
use Rattle.std.proofs.Common.{◌≡◌, ◌≢◌, ℕ, zero, suc, ◌+◌, ◌<◌, ◌≤◌, ◌⊎◌, inl, inr, Bool, true, false, List, length, refl, sym, ap, ◌∙◌, subst, arith, ⊎_elim}
use Rattle.graph_algorithms.specs.Arcs.{number_in_place, AreDistinct}
use Rattle.cost_theory.specs.Graph.{sum_below, only}
use Rattle.cost_theory.specs.Worst.{Numbers, all_of}
use Rattle.cost_theory.specs.Lists.{body_of}
use Rattle.flow_graph.specs.FlowGraph.{FlowGraph}
use Rattle.loop_forest.specs.Noted.{node_address}
use Rattle.std.proofs.lemmas.Bool.{cases_lt, cases_eq}
use Rattle.std.proofs.lemmas.Option.{slice_get-get_or}
use Rattle.loop_forest.specs.Tree.{LoopView, IsLoopTree, loops}
use Rattle.worst_cycles.specs.declared.plan.Plan.{Plan}
use Rattle.worst_cycles.specs.declared.visits.Visit.{Visit}
use Rattle.worst_cycles.specs.Worst.{by_edge}
use Rattle.worst_cycles.specs.Needs.{HasTree}
use Rattle.worst_cycles.specs.Visits.{visit_at, IsVisit, AreSolvedBy, AreAllVisited}
use Rattle.worst_cycles.specs.Lefts.{AreTurnsRound}
use Rattle.worst_cycles.specs.Planned.{IsPlannedBy}
use Rattle.worst_cycles.proofs.BodyLaws.{node_here, same_node, loop_count, header_number, header_address, inside_at, number_inside}
use Rattle.worst_cycles.proofs.IterationLaws.{body_within}

-- those of the first loops
abbrev pub AreTurnsTo : FlowGraph → LoopView → (ℕ → ℕ) → ℕ → List ℕ → Type 0
AreTurnsTo v t w l around = (n : Numbers) → AreSolvedBy v t w n → (k : ℕ) → k < length v.code.nodes →
    number_in_place around k ≡ sum_below l (λ j. only ((loops v t).inside j (node_address v k)) (all_of (loops v t) n j))

-- what the visits have at the header of a loop
pub turns_at_header : {v : FlowGraph} {t : LoopView} {w : ℕ → ℕ} {visits : List Visit} {n : Numbers} (l : ℕ) → HasTree v t → AreAllVisited v t w visits → AreSolvedBy v t w n → l < length t.headers →
    (visit_at visits (number_in_place t.headers l)).turns ≡ all_of (loops v t) n l
turns_at_header {v = v} {t = t} {w = w} {visits = visits} {n = n} l tree found s ll =
    let count = loop_count v t in
    let lt : l < (loops v t).loops = omega arith in
    let address = header_address v t l ll in
    let visit : IsVisit (loops v t) n (node_address v (number_in_place t.headers l)) (visit_at visits (number_in_place t.headers l)) =
    found.each n s (number_in_place t.headers l) (node_address v (number_in_place t.headers l)) (node_here v (number_in_place t.headers l) (header_number v t tree.0 tree.1 l ll)) in
    ⊎_elim
    (λ (some : (k : ℕ) × (k < (loops v t).loops) × ((loops v t).header k ≡ node_address v (number_in_place t.headers l)) × ((visit_at visits (number_in_place t.headers l)).turns ≡ all_of (loops v t) n k)).
    some.3 ∙ ap (all_of (loops v t) n) (s.different some.0 l some.1 lt (some.2 ∙ sym address)))
    (λ (none : ((k : ℕ) → k < (loops v t).loops → (loops v t).header k ≢ node_address v (number_in_place t.headers l)) × ((visit_at visits (number_in_place t.headers l)).turns ≡ 0)). absurd (none.0 l lt address))
    visit.turns

-- one loop more
pub turns_more : {v : FlowGraph} {t : LoopView} {w : List ℕ} {plan : Plan} → IsPlannedBy v t w plan → (l turns : ℕ) (old new : List ℕ) → l < length t.headers → ((n : Numbers) → AreSolvedBy v t (by_edge w) n → turns ≡ all_of (loops v t) n l) →
    ((i : ℕ) → i < length (body_of t.bodies l) → number_in_place new (number_in_place (body_of t.bodies l) i) ≡ number_in_place old (number_in_place (body_of t.bodies l) i) + turns) →
    ((k : ℕ) → ((i : ℕ) → i < length (body_of t.bodies l) → number_in_place (body_of t.bodies l) i ≢ k) → number_in_place new k ≡ number_in_place old k) →
    AreTurnsTo v t (by_edge w) l old → AreTurnsTo v t (by_edge w) (l + 1) new
turns_more {v = v} {t = t} {w = w} {plan = plan} is l turns old new ll all inside outside to n s k kl =
    let before = to n s k kl in
    go ((loops v t).inside l (node_address v k)) refl before
  where
    f : ℕ → ℕ
    f = λ j. only ((loops v t).inside j (node_address v k)) (all_of (loops v t) n j)

    next : sum_below (l + 1) f ≡ sum_below l f + f l
    next = (let e : l + 1 ≡ suc l = omega arith in ap (λ m. sum_below m f) e)

    go : (b : Bool) → (loops v t).inside l (node_address v k) ≡ b → number_in_place old k ≡ sum_below l f → number_in_place new k ≡ sum_below (l + 1) f
    go true in_l before =
        let i = number_inside v t l (node_address v k) in_l in
        let same : k ≡ number_in_place (body_of t.bodies l) i.0 = same_node v is.flow k (number_in_place (body_of t.bodies l) i.0) kl (body_within v t is.tree.0 is.tree.1 l i.0 ll i.1) i.2 in
        let more : number_in_place new k ≡ number_in_place old k + turns = subst (λ x. number_in_place new x ≡ number_in_place old x + turns) (sym same) (inside i.0 i.1) in
        let turn : f l ≡ all_of (loops v t) n l = ap (λ b. only b (all_of (loops v t) n l)) in_l in
        let whole : turns ≡ all_of (loops v t) n l = all n s in
        let r : number_in_place new k ≡ sum_below l f + f l = omega arith in
        r ∙ sym next
    go false out before =
        let kept : number_in_place new k ≡ number_in_place old k = outside k (λ i il same.
        let is_in : (loops v t).inside l (node_address v k) ≡ true = subst (λ x. (loops v t).inside l (node_address v x) ≡ true) same (inside_at v t l i il) in
        let bad : ⊥ = cc in bad) in
        let turn : f l ≡ 0 = ap (λ b. only b (all_of (loops v t) n l)) out in
        let r : number_in_place new k ≡ sum_below l f + f l = omega arith in
        r ∙ sym next

pub turns_last : (v : FlowGraph) (t : LoopView) (w : ℕ → ℕ) (around : List ℕ) (l : ℕ) → l ≡ length t.headers → length around ≡ length v.code.nodes → AreTurnsTo v t w l around → AreTurnsRound v t w around
turns_last v t w around l last size to = record {
  size = size;
  each = λ n s k kl. subst (λ m. number_in_place around k ≡ sum_below m (λ j. only ((loops v t).inside j (node_address v k)) (all_of (loops v t) n j))) (last ∙ sym (loop_count v t)) (to n s k kl);
}

-- a number is one of a list, or none
among_or : (xs : List ℕ) (k m : ℕ) → ((i : ℕ) × (i < m) × (number_in_place xs i ≡ k)) ⊎ ((i : ℕ) → i < m → number_in_place xs i ≢ k)
among_or xs k zero = inr (λ i lt same. let bad : ⊥ = omega arith in bad)
among_or xs k (suc m) = ⊎_elim
    (λ (some : (i : ℕ) × (i < m) × (number_in_place xs i ≡ k)). inl (some.0, (let low = some.1 in let r : some.0 < suc m = omega arith in r), some.2))
    (λ (none : (i : ℕ) → i < m → number_in_place xs i ≢ k). ⊎_elim
    (λ (here : number_in_place xs m ≡ k). inl (m, (let r : m < suc m = omega arith in r), here))
    (λ (other : number_in_place xs m ≢ k). inr (λ i lt same. ⊎_elim
    (λ (low : i < m). none i low same)
    (λ (high : m ≤ i). let last : i ≡ m = omega arith in other (ap (number_in_place xs) (sym last) ∙ same))
    (cases_lt i m)))
    (cases_eq (number_in_place xs m) k))
    (among_or xs k m)

-- turns stay small
pub turns_small : (old new body : List ℕ) (most turns room : ℕ) → ((i : ℕ) → i < length body → number_in_place new (number_in_place body i) ≡ number_in_place old (number_in_place body i) + turns) →
    ((k : ℕ) → ((i : ℕ) → i < length body → number_in_place body i ≢ k) → number_in_place new k ≡ number_in_place old k) → ((k : ℕ) → number_in_place old k ≤ most) → turns ≤ room → (k : ℕ) → number_in_place new k ≤ most + room
turns_small old new body most turns room inside outside small low k =
    let before = small k in
    ⊎_elim
    (λ (some : (i : ℕ) × (i < length body) × (number_in_place body i ≡ k)).
    let here : number_in_place new k ≡ number_in_place old k + turns = subst (λ x. number_in_place new x ≡ number_in_place old x + turns) some.2 (inside some.0 some.1) in
    let r : number_in_place new k ≤ most + room = omega arith in r)
    (λ (none : (i : ℕ) → i < length body → number_in_place body i ≢ k). let kept = outside k none in let r : number_in_place new k ≤ most + room = omega arith in r)
    (among_or body k (length body))

-- no number comes twice in a body
pub body_distinct : (v : FlowGraph) (t : LoopView) (extent : ℕ → ℕ → Bool) → IsLoopTree v extent t → (l : ℕ) → l < length t.headers → AreDistinct (body_of t.bodies l)
body_distinct v t extent is l ll i j ij jl same =
    let il : i < length (body_of t.bodies l) = omega arith in
    let up : number_in_place (body_of t.bodies l) i < number_in_place (body_of t.bodies l) j =
    (is.body l ll).ascending i j (number_in_place (body_of t.bodies l) i) (number_in_place (body_of t.bodies l) j) ij (slice_get-get_or (body_of t.bodies l) i 0 il) (slice_get-get_or (body_of t.bodies l) j 0 jl) in
    omega arith
