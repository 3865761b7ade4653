-- One iteration of a loop, by the places of its body's nodes.
use Rattle.std.proofs.Common.{◌≡◌, ◌≢◌, ℕ, zero, suc, ◌+◌, ◌^◌, ◌<◌, ◌≤◌, ◌⊎◌, inl, Bool, true, false, List, [], ◌∷◌, ◌++◌, length, slice_get, slice_index, get_or, Option, Some, None, refl, sym, ap, ◌∙◌, ◌-◌, subst, arith, ⊎_elim}
use Rattle.std.proofs.lemmas.Bool.{cases_lt}
use Rattle.std.proofs.lemmas.List.{get_or_append_left}
use Rattle.std.proofs.Math.Seq.{get_or-append_right}
use Rattle.std.proofs.lemmas.Option.{slice_get-get_or, slice_get_within, get_or_from_slice_get, none-some}
use Rattle.graph_algorithms.specs.Arcs.{number_in_place}
use Rattle.cost_theory.specs.Worst.{Numbers}
use Rattle.cost_theory.specs.Lists.{body_of}
use Rattle.flow_graph.specs.FlowGraph.{FlowGraph}
use Rattle.loop_forest.specs.Noted.{node_address}
use Rattle.loop_forest.specs.Tree.{LoopView, loops, IsLoopTree}
use Rattle.worst_cycles.specs.declared.plan.Plan.{Plan}
use Rattle.worst_cycles.specs.declared.rests.Rests.{Rests}
use Rattle.worst_cycles.specs.Worst.{by_edge}
use Rattle.worst_cycles.specs.Needs.{StartsAtNode}
use Rattle.worst_cycles.specs.declared.visits.Visit.{Visit}
use Rattle.worst_cycles.specs.Visits.{AreKnownAt, AreSolvedBy, AreVisitedTo, IsOverLimit}
use Rattle.worst_cycles.specs.Rests.{AreBodyPlaces, rest_in, IsRestOf, held, closing_at, AreRestsKnownAt, address_at, AreFoundTo}
use Rattle.worst_cycles.specs.Planned.{IsPlannedBy}
use Rattle.worst_cycles.proofs.BodyLaws.{inside_at, number_inside, node_here, same_node, by_plain, loop_count, header_number, header_address}
use Rattle.worst_cycles.proofs.PlanLaws.{at_place, body_before}
use Rattle.worst_cycles.proofs.SearchLaws.{value_at}
use Rattle.worst_cycles.proofs.VisitLaws.{known_before}

-- numbers of a body are numbers of nodes
pub body_within : (v : FlowGraph) (t : LoopView) (extent : ℕ → ℕ → Bool) → IsLoopTree v extent t → (l i : ℕ) → l < length t.headers → i < length (body_of t.bodies l) → number_in_place (body_of t.bodies l) i < length v.code.nodes
body_within v t extent is l i ll il = (is.body l ll).within i (number_in_place (body_of t.bodies l) i) (slice_get-get_or (body_of t.bodies l) i 0 il)

-- a loop, whose header stands at place i of the order, and the places of its body
pub record IsBodyAt (t : LoopView) (plan : Plan) (l i : ℕ) (steps : List ℕ) : Type 0 where
  pub within : l < length t.headers
  pub place : i < length plan.order.items
  pub header : number_in_place t.headers l ≡ number_in_place plan.order.items i
  pub places : AreBodyPlaces (body_of t.bodies l) plan.places.items steps

-- a place of a body is that of a node in it, and not behind the header
pub step_inside : {v : FlowGraph} {t : LoopView} {w : List ℕ} {plan : Plan} {l i : ℕ} {steps : List ℕ} → IsPlannedBy v t w plan → IsBodyAt t plan l i steps →
    (m : ℕ) → m < length steps → (number_in_place steps m < length plan.order.items) × ((loops v t).inside l (address_at v plan steps m) ≡ true) × (number_in_place steps m ≤ i)
step_inside {v = v} {t = t} {w = w} {plan = plan} {l = l} {i = i} {steps = steps} is body m ml =
    let b = body.places.each m ml in
    let at = at_place is (number_in_place (body_of t.bodies l) b.0) (body_within v t is.tree.0 is.tree.1 l b.0 body.within b.1) in
    let within = at.0 in let step = b.2 in
    let low : number_in_place steps m < length plan.order.items = omega arith in
    let node : number_in_place plan.order.items (number_in_place steps m) ≡ number_in_place (body_of t.bodies l) b.0 = ap (number_in_place plan.order.items) b.2 ∙ at.1 in
    let inside : (loops v t).inside l (address_at v plan steps m) ≡ true = subst (λ k. (loops v t).inside l (node_address v k) ≡ true) (sym node) (inside_at v t l b.0 b.1) in
    (low, inside, body_before is l i (number_in_place steps m) body.within body.place low body.header inside)

-- a node of the body is at one of its places
pub step_of : {v : FlowGraph} {t : LoopView} {w : List ℕ} {plan : Plan} {steps : List ℕ} → IsPlannedBy v t w plan → (l : ℕ) → l < length t.headers → AreBodyPlaces (body_of t.bodies l) plan.places.items steps →
    (u : ℕ) → u < length v.code.nodes → (loops v t).inside l (node_address v u) ≡ true → (q : ℕ) × (q < length steps) × (number_in_place steps q ≡ number_in_place plan.places.items u)
step_of {v = v} {t = t} {w = w} {plan = plan} {steps = steps} is l ll places u ul inside =
    let b = number_inside v t l (node_address v u) inside in
    let same : u ≡ number_in_place (body_of t.bodies l) b.0 = same_node v is.flow u (number_in_place (body_of t.bodies l) b.0) ul (body_within v t is.tree.0 is.tree.1 l b.0 ll b.1) b.2 in
    let q = places.whole b.0 b.1 in
    (q.0, q.1, q.2 ∙ ap (number_in_place plan.places.items) (sym same))

-- what stands at the place of a node is this node
pub address_of : {v : FlowGraph} {t : LoopView} {w : List ℕ} {plan : Plan} → IsPlannedBy v t w plan → (steps : List ℕ) → (u q : ℕ) → u < length v.code.nodes → number_in_place steps q ≡ number_in_place plan.places.items u → address_at v plan steps q ≡ node_address v u
address_of {v = v} {t = t} {w = w} {plan = plan} is steps u q ul at = ap (λ p. node_address v (number_in_place plan.order.items p)) at ∙ ap (node_address v) (at_place is u ul).1

-- the rests that the edges of the next node need are found
pub rests_known : {v : FlowGraph} {t : LoopView} {w : List ℕ} {plan : Plan} {l i : ℕ} {n : Numbers} → IsPlannedBy v t w plan → (rests : Rests) → IsBodyAt t plan l i rests.steps.items →
    (m : ℕ) → m < length rests.steps.items → length rests.found.items ≡ m → AreFoundTo v t (by_edge w) plan l rests.steps.items m rests.found.items → AreSolvedBy v t (by_edge w) n →
    AreRestsKnownAt v t plan rests n l (address_at v plan rests.steps.items m)
rests_known {v = v} {t = t} {w = w} {plan = plan} {l = l} {i = i} {n = n} is rests body m ml size found s e lt from u at o node to plain rest = go ((loops v t).inside l at) refl
  where
    ul : u < length v.code.nodes
    ul = slice_get_within v.code.nodes u at node

    at_u : node_address v u ≡ at
    at_u = get_or_from_slice_get v.code.nodes u at 0 node

    here : number_in_place rests.steps.items m < length plan.order.items
    here = (step_inside is body m ml).0

    starts : StartsAtNode v e (number_in_place plan.order.items (number_in_place rests.steps.items m))
    starts = node_here v (number_in_place plan.order.items (number_in_place rests.steps.items m)) (is.plan.order.within (number_in_place rests.steps.items m) here) ∙ ap Some (sym from)

    before : number_in_place plan.places.items u < number_in_place rests.steps.items m
    before =
        let j = is.plan.order.ready (number_in_place rests.steps.items m) e u here lt starts (inl (by_plain v t is.tree.0 is.tree.1 e lt plain, (to ∙ sym node, ul))) in
        let low : j.0 < number_in_place rests.steps.items m = j.1 in
        let within : number_in_place rests.steps.items m < length plan.order.items = here in
        let jl : j.0 < length plan.order.items = omega arith in
        let place : number_in_place plan.places.items u ≡ j.0 = ap (number_in_place plan.places.items) (sym j.2) ∙ is.plan.places j.0 jl in
        omega arith

    not_later : (q : ℕ) → m ≤ q → q < length rests.steps.items → number_in_place rests.steps.items q ≡ number_in_place plan.places.items u → ⊥
    not_later q le ql same = let rises = body.places.rise m q le ql in let b = before in omega arith

    there : (q : ℕ) → q < length rests.found.items → number_in_place rests.steps.items q ≡ number_in_place plan.places.items u → rest_in rests.found.items q ≡ n.closing l at
    there q ql same = let low : q < m = omega arith in found n s q low ∙ ap (n.closing l) (address_of is rests.steps.items u q ul same ∙ at_u)

    go : (b : Bool) → (loops v t).inside l at ≡ b → o ≡ closing_at (loops v t) n l at
    go true inside =
        let q = step_of is l body.within body.places u ul (subst (λ a. (loops v t).inside l a ≡ true) (sym at_u) inside) in
        let closes : n.closing l at ≡ closing_at (loops v t) n l at = ap (λ b. held b (n.closing l at)) (sym inside) in
        ⊎_elim
        (λ (some : (q : ℕ) × (q < length rests.found.items) × (q < length rests.steps.items) × (number_in_place rests.steps.items q ≡ number_in_place plan.places.items u) × (o ≡ rest_in rests.found.items q)).
        some.4 ∙ there some.0 some.1 some.3 ∙ closes)
        (λ (none : (o ≡ None) × (((q : ℕ) → q < length rests.steps.items → number_in_place rests.steps.items q ≢ number_in_place plan.places.items u) ⊎
        ((q : ℕ) × (length rests.found.items ≤ q) × (q < length rests.steps.items) × (number_in_place rests.steps.items q ≡ number_in_place plan.places.items u)))).
        ⊎_elim
        (λ (never : (q : ℕ) → q < length rests.steps.items → number_in_place rests.steps.items q ≢ number_in_place plan.places.items u). absurd (never q.0 q.1 q.2))
        (λ (late : (q : ℕ) × (length rests.found.items ≤ q) × (q < length rests.steps.items) × (number_in_place rests.steps.items q ≡ number_in_place plan.places.items u)).
        let high = late.1 in let le : m ≤ late.0 = omega arith in absurd (not_later late.0 le late.2 late.3))
        none.1)
        rest
    go false outside =
        let closes : None ≡ closing_at (loops v t) n l at = ap (λ b. held b (n.closing l at)) (sym outside) in
        ⊎_elim
        (λ (some : (q : ℕ) × (q < length rests.found.items) × (q < length rests.steps.items) × (number_in_place rests.steps.items q ≡ number_in_place plan.places.items u) × (o ≡ rest_in rests.found.items q)).
        let inside : (loops v t).inside l at ≡ true = subst (λ a. (loops v t).inside l a ≡ true) (address_of is rests.steps.items u some.0 ul some.3 ∙ at_u)
        (step_inside is body some.0 some.2).1 in
        let bad : ⊥ = cc in absurd bad)
        (λ (none : (o ≡ None) × (((q : ℕ) → q < length rests.steps.items → number_in_place rests.steps.items q ≢ number_in_place plan.places.items u) ⊎
        ((q : ℕ) × (length rests.found.items ≤ q) × (q < length rests.steps.items) × (number_in_place rests.steps.items q ≡ number_in_place plan.places.items u)))).
        none.0 ∙ closes)
        rest

-- the rest that is found at the next node is that of its address
pub next_rest : {v : FlowGraph} {t : LoopView} {w : List ℕ} {plan : Plan} {l i : ℕ} → IsPlannedBy v t w plan → (visits : List Visit) (m k : ℕ) (rests : Rests) (rest : Option ℕ) → AreVisitedTo v t (by_edge w) plan.order.items i visits →
    IsBodyAt t plan l i rests.steps.items → m < length rests.steps.items → length rests.found.items ≡ m →
    AreFoundTo v t (by_edge w) plan l rests.steps.items m rests.found.items → k ≡ number_in_place plan.order.items (number_in_place rests.steps.items m) →
    ((n : Numbers) → AreSolvedBy v t (by_edge w) n → AreKnownAt v t plan visits n (slice_index v.code.nodes k) → AreRestsKnownAt v t plan rests n l (slice_index v.code.nodes k) → rest ≡ n.closing l (slice_index v.code.nodes k)) →
    (n : Numbers) → AreSolvedBy v t (by_edge w) n → rest ≡ n.closing l (address_at v plan rests.steps.items m)
next_rest {v = v} {t = t} {w = w} {plan = plan} {l = l} {i = i} is visits m k rests rest visited body ml size found node this n s =
    let step = step_inside is body m ml in
    let here = subst (λ x. AreKnownAt v t plan visits n (slice_index v.code.nodes x) → AreRestsKnownAt v t plan rests n l (slice_index v.code.nodes x) → rest ≡ n.closing l (slice_index v.code.nodes x)) node (this n s) in
    here (known_before is visits i (number_in_place rests.steps.items m) visited s step.2 step.0) (rests_known is rests body m ml size found s)

-- the number of the node at a place of the body
pub step_node : (plan : Plan) (steps : List ℕ) (m x k : ℕ) → m < length steps → number_in_place steps m < length plan.order.items → x ≡ get_or steps m x → k ≡ get_or plan.order.items x k → k ≡ number_in_place plan.order.items (number_in_place steps m)
step_node plan steps m x k ml low at node =
    let here : number_in_place steps m ≡ x = value_at steps m x 0 ml at in
    let within : x < length plan.order.items = omega arith in
    sym (value_at plan.order.items x k 0 within node) ∙ ap (number_in_place plan.order.items) (sym here)

-- the rest of the next node is put behind the others
pub found_more : (v : FlowGraph) (t : LoopView) (w : ℕ → ℕ) (plan : Plan) (l m : ℕ) (steps : List ℕ) (found : List (Option ℕ)) (rest : Option ℕ) → length found ≡ m → AreFoundTo v t w plan l steps m found →
    ((n : Numbers) → AreSolvedBy v t w n → rest ≡ n.closing l (address_at v plan steps m)) → AreFoundTo v t w plan l steps (m + 1) (found ++ rest ∷ [])
found_more v t w plan l m steps found rest size are this n s q lt = ⊎_elim
    (λ (low : q < m). get_or_append_left found (rest ∷ []) None q (let h : q < length found = omega arith in h) ∙ are n s q low)
    (λ (high : m ≤ q).
    let same : q ≡ m = omega arith in
    let at : rest_in (found ++ rest ∷ []) q ≡ rest_in (rest ∷ []) (q - length found) = get_or-append_right found (rest ∷ []) q None (let h : length found ≤ q = omega arith in h) in
    let first : q - length found ≡ 0 = omega arith in
    at ∙ ap (rest_in (rest ∷ [])) first ∙ this n s ∙ ap (λ x. n.closing l (address_at v plan steps x)) (sym same))
    (cases_lt q m)

pub rests_small : (found : List (Option ℕ)) (rest : Option ℕ) → ((m b : ℕ) → rest_in found m ≡ Some b → b ≤ 2 ^ 48 + 2 ^ 32) → ((b : ℕ) → rest ≡ Some b → b ≤ 2 ^ 48 + 2 ^ 32) → (m b : ℕ) → rest_in (found ++ rest ∷ []) m ≡ Some b → b ≤ 2 ^ 48 + 2 ^ 32
rests_small found rest small this m b at = ⊎_elim
    (λ (low : m < length found). small m b (sym (get_or_append_left found (rest ∷ []) None m low) ∙ at))
    (λ (high : length found ≤ m). past (m - length found) (sym (get_or-append_right found (rest ∷ []) m None high) ∙ at))
    (cases_lt m (length found))
  where
    past : (i : ℕ) → rest_in (rest ∷ []) i ≡ Some b → b ≤ 2 ^ 48 + 2 ^ 32
    past zero e = this b e
    past (suc i) e = absurd (none-some b e)

-- over the limit
pub rest_too_long : {v : FlowGraph} {t : LoopView} {w : List ℕ} {plan : Plan} → IsPlannedBy v t w plan → (l at b : ℕ) (rest : Option ℕ) → l < length t.headers → (loops v t).inside l at ≡ true →
    ((n : Numbers) → AreSolvedBy v t (by_edge w) n → rest ≡ n.closing l at) → rest ≡ Some b → 2 ^ 48 + plan.heaviest < b → IsOverLimit v t (by_edge w)
rest_too_long {v = v} {t = t} {w = w} {plan = plan} is l at b rest ll inside found some more n s =
    let count = loop_count v t in
    let lt : l < (loops v t).loops = omega arith in
    let edges = is.weights in
    let near : b ≤ n.worst 0 + plan.heaviest = s.closing_near plan.heaviest (λ e el none. is.heaviest e (omega arith)) l at b lt inside (sym (found n s) ∙ some) in
    omega arith

-- once all rests are found, that of the header is one iteration
pub header_rest : {v : FlowGraph} {t : LoopView} {w : List ℕ} {plan : Plan} → IsPlannedBy v t w plan → (l : ℕ) (rests : Rests) (o : Option ℕ) → l < length t.headers →
    AreBodyPlaces (body_of t.bodies l) plan.places.items rests.steps.items → length rests.found.items ≡ length rests.steps.items → AreFoundTo v t (by_edge w) plan l rests.steps.items (length rests.steps.items) rests.found.items →
    IsRestOf rests (number_in_place plan.places.items (number_in_place t.headers l)) o → (n : Numbers) → AreSolvedBy v t (by_edge w) n → o ≡ Some (n.iteration l)
header_rest {v = v} {t = t} {w = w} {plan = plan} is l rests o ll places size found rest n s =
    let count = loop_count v t in
    let lt : l < (loops v t).loops = omega arith in
    let hl : number_in_place t.headers l < length v.code.nodes = header_number v t is.tree.0 is.tree.1 l ll in
    let address : (loops v t).header l ≡ node_address v (number_in_place t.headers l) = header_address v t l ll in
    let inside : (loops v t).inside l (node_address v (number_in_place t.headers l)) ≡ true = subst (λ a. (loops v t).inside l a ≡ true) address (s.held l lt) in
    let q = step_of is l ll places (number_in_place t.headers l) hl inside in
    ⊎_elim
    (λ (some : (q : ℕ) × (q < length rests.found.items) × (q < length rests.steps.items) × (number_in_place rests.steps.items q ≡ number_in_place plan.places.items (number_in_place t.headers l)) × (o ≡ rest_in rests.found.items q)).
    some.4 ∙ found n s some.0 some.2 ∙ ap (n.closing l) (address_of is rests.steps.items (number_in_place t.headers l) some.0 hl some.3 ∙ sym address) ∙ s.iteration l lt)
    (λ (none : (o ≡ None) × (((q : ℕ) → q < length rests.steps.items → number_in_place rests.steps.items q ≢ number_in_place plan.places.items (number_in_place t.headers l)) ⊎
    ((q : ℕ) × (length rests.found.items ≤ q) × (q < length rests.steps.items) × (number_in_place rests.steps.items q ≡ number_in_place plan.places.items (number_in_place t.headers l))))).
    ⊎_elim
    (λ (never : (q : ℕ) → q < length rests.steps.items → number_in_place rests.steps.items q ≢ number_in_place plan.places.items (number_in_place t.headers l)). absurd (never q.0 q.1 q.2))
    (λ (late : (q : ℕ) × (length rests.found.items ≤ q) × (q < length rests.steps.items) × (number_in_place rests.steps.items q ≡ number_in_place plan.places.items (number_in_place t.headers l))).
    let high = late.1 in let low = late.2 in let bad : ⊥ = omega arith in absurd bad)
    none.1)
    rest

-- the place of the header
pub header_place : (t : LoopView) (places : List ℕ) (l h x : ℕ) → slice_get t.headers l ≡ Some h → h < length places → x ≡ get_or places h x → x ≡ number_in_place places (number_in_place t.headers l)
header_place t places l h x has lt is = sym (value_at places h x 0 lt is) ∙ ap (number_in_place places) (sym (get_or_from_slice_get t.headers l h 0 has))
