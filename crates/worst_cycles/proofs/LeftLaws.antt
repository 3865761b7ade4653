-- What is left at the nodes of a program, as the rests of iterations raise it.
use Rattle.std.proofs.Common.{◌≡◌, ◌≢◌, ℕ, ◌+◌, ◌^◌, ◌<◌, ◌≤◌, ◌⊎◌, inl, inr, true, List, length, set, slice_get, get_or, length-set, Option, Some, None, le_refl, get_or-set_same, get_or-set_other, refl, sym, ap, ◌∙◌, subst, arith, ⊎_elim}
use Rattle.std.proofs.lemmas.Bool.{cases_lt, cases_eq}
use Rattle.std.proofs.lemmas.Option.{slice_get_within, get_or_from_slice_get}
use Rattle.graph_algorithms.specs.Arcs.{number_in_place}
use Rattle.cost_theory.specs.Graph.{Loops}
use Rattle.cost_theory.specs.Worst.{Numbers, IsLeft}
use Rattle.flow_graph.specs.FlowGraph.{FlowGraph}
use Rattle.loop_forest.specs.Noted.{node_address}
use Rattle.loop_forest.specs.Tree.{LoopView, loops}
use Rattle.worst_cycles.specs.declared.plan.Plan.{Plan}
use Rattle.worst_cycles.specs.declared.rests.Rests.{Rests}
use Rattle.worst_cycles.specs.declared.visits.Visit.{Visit}
use Rattle.worst_cycles.specs.Worst.{by_edge}
use Rattle.worst_cycles.specs.Visits.{visit_at, AreSolvedBy, AreVisitedTo, AreAllVisited}
use Rattle.worst_cycles.specs.Rests.{rest_in, address_at, AreRestsOf}
use Rattle.worst_cycles.specs.Lefts.{HasSolved, IsHeadedFrom, IsLeftTo, AreLeftsTo, AreLefts}
use Rattle.worst_cycles.specs.Planned.{IsPlannedBy}
use Rattle.worst_cycles.proofs.BodyLaws.{node_here, same_node, loop_count, header_number, header_address}
use Rattle.worst_cycles.proofs.PlanLaws.{at_place, body_before}
use Rattle.worst_cycles.proofs.IterationLaws.{IsBodyAt, step_inside, step_of, address_of}
use Rattle.worst_cycles.proofs.SearchLaws.{value_at}
use Rattle.worst_cycles.proofs.VisitLaws.{headed_is, no_turns}

-- where all loops round a node are done, nothing more is left there
pub left_whole : (l : Loops) (n : Numbers) (Done : ℕ → Type 0) (at x : ℕ) → IsLeft l n at → IsLeftTo l n Done at x → ((k : ℕ) → k < l.loops → l.inside k at ≡ true → l.header k ≢ at → Done k) → x ≡ n.left at
left_whole l n Done at x is to done =
    let under : x ≤ n.left at = to.under in
    let plain : n.plain at ≤ x = to.over_plain in
    ⊎_elim
    (λ (one : n.left at ≡ n.plain at). let r : x ≡ n.left at = omega arith in r)
    (λ (some : (k : ℕ) × (b : ℕ) × (k < l.loops) × (l.inside k at ≡ true) × (l.header k ≢ at) × (n.closing k at ≡ Some b) × (n.left at + n.iteration k ≡ b + n.left (l.header k))).
    let over : some.1 + n.left (l.header some.0) ≤ x + n.iteration some.0 = to.over_closing some.0 some.1 some.2 (done some.0 some.2 some.3 some.4) some.3 some.4 some.5 in
    let e : n.left at + n.iteration some.0 ≡ some.1 + n.left (l.header some.0) = some.6 in
    let r : x ≡ n.left at = omega arith in r)
    is.attained

-- all visits are those before any place
pub visited_before : {v : FlowGraph} {t : LoopView} {w : ℕ → ℕ} {visits : List Visit} (order : List ℕ) (i : ℕ) → AreAllVisited v t w visits → AreVisitedTo v t w order i visits
visited_before {v = v} {t = t} {w = w} {visits = visits} order i all n s j at lt node = all.each n s (number_in_place order j) at node

-- no header stands behind the order
pub lefts_first : {v : FlowGraph} {t : LoopView} {w : List ℕ} {plan : Plan} {visits : List Visit} → IsPlannedBy v t w plan → (left : List ℕ) → AreAllVisited v t (by_edge w) visits →
    ((k : ℕ) → k < length visits → number_in_place left k ≡ (visit_at visits k).plain) → AreLeftsTo v t (by_edge w) plan (length plan.order.items) left
lefts_first {v = v} {t = t} {w = w} {plan = plan} {visits = visits} is left all each n s k kl =
    let size = all.table.size in
    let here : number_in_place left k ≡ (visit_at visits k).plain = each k (let r : k < length visits = omega arith in r) in
    let visit : (visit_at visits k).plain ≡ n.plain (node_address v k) = (all.each n s k (node_address v k) (node_here v k kl)).plain in
    let over : n.plain (node_address v k) ≤ n.left (node_address v k) = (s.left (node_address v k)).over_plain in
    record {
      under = let r : number_in_place left k ≤ n.left (node_address v k) = omega arith in r;
      over_plain = let r : n.plain (node_address v k) ≤ number_in_place left k = omega arith in r;
      over_closing = λ j b jl done inside other closes.
          let count = loop_count v t in
          let low : j < length t.headers = omega arith in
          let place = at_place is (number_in_place t.headers j) (header_number v t is.tree.0 is.tree.1 j low) in
          let within = place.0 in
          let bad : ⊥ = omega arith in absurd bad;
    }

-- the header of an outer loop stands behind that of an inner one
outer_behind : {v : FlowGraph} {t : LoopView} {w : List ℕ} {plan : Plan} → IsPlannedBy v t w plan → (i j : ℕ) → i < length plan.order.items → j < (loops v t).loops →
    (loops v t).inside j (node_address v (number_in_place plan.order.items i)) ≡ true → (loops v t).header j ≢ node_address v (number_in_place plan.order.items i) → IsHeadedFrom t plan (i + 1) j
outer_behind {v = v} {t = t} {w = w} {plan = plan} is i j il jl inside other =
    let count = loop_count v t in
    let low : j < length t.headers = omega arith in
    let place = at_place is (number_in_place t.headers j) (header_number v t is.tree.0 is.tree.1 j low) in
    let before : i ≤ number_in_place plan.places.items (number_in_place t.headers j) = body_before is j (number_in_place plan.places.items (number_in_place t.headers j)) i low place.0 il (sym place.1) inside in
    ⊎_elim
    (λ (lt : i < number_in_place plan.places.items (number_in_place t.headers j)). let r : i + 1 ≤ number_in_place plan.places.items (number_in_place t.headers j) = omega arith in r)
    (λ (le : number_in_place plan.places.items (number_in_place t.headers j) ≤ i).
    let same : number_in_place plan.places.items (number_in_place t.headers j) ≡ i = omega arith in
    absurd (other (header_address v t j low ∙ ap (node_address v) (sym place.1) ∙ ap (λ p. node_address v (number_in_place plan.order.items p)) same)))
    (cases_lt i (number_in_place plan.places.items (number_in_place t.headers j)))

-- what is left at the header of a loop is known before its body is raised
pub header_left : {v : FlowGraph} {t : LoopView} {w : List ℕ} {plan : Plan} {n : Numbers} → IsPlannedBy v t w plan → (left : List ℕ) (i : ℕ) → i < length plan.order.items → AreLeftsTo v t (by_edge w) plan (i + 1) left → AreSolvedBy v t (by_edge w) n →
    number_in_place left (number_in_place plan.order.items i) ≡ n.left (node_address v (number_in_place plan.order.items i))
header_left {v = v} {t = t} {w = w} {plan = plan} {n = n} is left i il to s =
    left_whole (loops v t) n (IsHeadedFrom t plan (i + 1)) (node_address v (number_in_place plan.order.items i)) (number_in_place left (number_in_place plan.order.items i)) (s.left (node_address v (number_in_place plan.order.items i)))
    (to n s (number_in_place plan.order.items i) (is.plan.order.within i il)) (λ j jl inside other. outer_behind is i j il jl inside other)

-- what raising the body of a loop does, up to place m of it
pub record AreRaisedTo (plan : Plan) (rests : Rests) (header iteration m : ℕ) (old new : List ℕ) : Type 0 where
  pub higher : (k : ℕ) → number_in_place old k ≤ number_in_place new k
  pub over : (q b : ℕ) → q < m → rest_in rests.found.items q ≡ Some b → number_in_place plan.order.items (number_in_place rests.steps.items q) ≢ header →
      b + number_in_place old header ≤ number_in_place new (number_in_place plan.order.items (number_in_place rests.steps.items q)) + iteration
  pub either : (k : ℕ) → (number_in_place new k ≡ number_in_place old k) ⊎ ((q : ℕ) × (b : ℕ) × (q < length rests.steps.items) × (number_in_place plan.order.items (number_in_place rests.steps.items q) ≡ k) × (k ≢ header) ×
      (rest_in rests.found.items q ≡ Some b) × (number_in_place new k + iteration ≡ b + number_in_place old header))

abbrev pub AreRaised : Plan → Rests → ℕ → ℕ → List ℕ → List ℕ → Type 0
AreRaised plan rests header iteration old new = AreRaisedTo plan rests header iteration (length rests.steps.items) old new

pub raised_first : (plan : Plan) (rests : Rests) (header iteration : ℕ) (old : List ℕ) → AreRaisedTo plan rests header iteration 0 old old
raised_first plan rests header iteration old = record {
  higher = λ k. le_refl (number_in_place old k);
  over = λ q b lt rest off. let bad : ⊥ = omega arith in absurd bad;
  either = λ k. inl refl;
}

-- one node more
pub raised_more : {plan : Plan} {rests : Rests} {header iteration m : ℕ} {old now : List ℕ} (k x whole : ℕ) (o : Option ℕ) (new : List ℕ) → number_in_place plan.order.items (number_in_place rests.steps.items m) ≡ k → k ≢ header → m < length rests.steps.items → rest_in rests.found.items m ≡ o →
    whole ≡ number_in_place old header → new ≡ set now k x → k < length now → number_in_place now k ≤ x → ((b : ℕ) → o ≡ Some b → b + whole ≤ x + iteration) → (x ≡ number_in_place now k) ⊎ ((b : ℕ) × (o ≡ Some b) × (x + iteration ≡ b + whole)) →
    AreRaisedTo plan rests header iteration m old now → AreRaisedTo plan rests header iteration (m + 1) old new
raised_more {plan = plan} {rests = rests} {header = header} {iteration = iteration} {m = m} {old = old} {now = now} k x whole o new node off ml rest head is kl higher over either to = record {
  higher = λ j. let low = to.higher j in let more = rises j in let r : number_in_place old j ≤ number_in_place new j = omega arith in r;
  over = λ q b lt some other. ⊎_elim
      (λ (before : q < m).
      let less = to.over q b before some other in let more = rises (number_in_place plan.order.items (number_in_place rests.steps.items q)) in
      let r : b + number_in_place old header ≤ number_in_place new (number_in_place plan.order.items (number_in_place rests.steps.items q)) + iteration = omega arith in r)
      (λ (last : m ≤ q).
      let same : q ≡ m = omega arith in
      let at : number_in_place plan.order.items (number_in_place rests.steps.items q) ≡ k = ap (λ p. number_in_place plan.order.items (number_in_place rests.steps.items p)) same ∙ node in
      let more : b + whole ≤ x + iteration = over b (sym rest ∙ ap (rest_in rests.found.items) (sym same) ∙ some) in
      let value : number_in_place new (number_in_place plan.order.items (number_in_place rests.steps.items q)) ≡ x = ap (number_in_place new) at ∙ here in
      let r : b + number_in_place old header ≤ number_in_place new (number_in_place plan.order.items (number_in_place rests.steps.items q)) + iteration = omega arith in r)
      (cases_lt q m);
  either = λ j. ⊎_elim
      (λ (same : j ≡ k). ⊎_elim
      (λ (kept : x ≡ number_in_place now k). keep j (ap (number_in_place new) same ∙ here ∙ kept ∙ ap (number_in_place now) (sym same)))
      (λ (some : (b : ℕ) × (o ≡ Some b) × (x + iteration ≡ b + whole)).
      let value : number_in_place new j ≡ x = ap (number_in_place new) same ∙ here in
      let e : x + iteration ≡ some.0 + whole = some.2 in
      let sum : number_in_place new j + iteration ≡ some.0 + number_in_place old header = omega arith in
      let r : (number_in_place new j ≡ number_in_place old j) ⊎ ((q : ℕ) × (b : ℕ) × (q < length rests.steps.items) × (number_in_place plan.order.items (number_in_place rests.steps.items q) ≡ j) × (j ≢ header) × (rest_in rests.found.items q ≡ Some b) × (number_in_place new j + iteration ≡ b + number_in_place old header)) =
      inr (m, some.0, ml, node ∙ sym same, (λ at. off (sym same ∙ at)), rest ∙ some.1, sum) in r)
      either)
      (λ (other : j ≢ k). keep j (others j other))
      (cases_eq j k);
}
  where
    here : number_in_place new k ≡ x
    here = ap (λ xs. number_in_place xs k) is ∙ get_or-set_same now k x 0 kl

    others : (j : ℕ) → j ≢ k → number_in_place new j ≡ number_in_place now j
    others j other = ap (λ xs. number_in_place xs j) is ∙ get_or-set_other now k j x 0 other

    rises : (j : ℕ) → number_in_place now j ≤ number_in_place new j
    rises j = ⊎_elim
        (λ (same : j ≡ k). let a : number_in_place new j ≡ x = ap (number_in_place new) same ∙ here in let b : number_in_place now j ≡ number_in_place now k = ap (number_in_place now) same in let r : number_in_place now j ≤ number_in_place new j = omega arith in r)
        (λ (other : j ≢ k). let e = others j other in let r : number_in_place now j ≤ number_in_place new j = omega arith in r)
        (cases_eq j k)

    keep : (j : ℕ) → number_in_place new j ≡ number_in_place now j → (number_in_place new j ≡ number_in_place old j) ⊎ ((q : ℕ) × (b : ℕ) × (q < length rests.steps.items) × (number_in_place plan.order.items (number_in_place rests.steps.items q) ≡ j) × (j ≢ header) ×
        (rest_in rests.found.items q ≡ Some b) × (number_in_place new j + iteration ≡ b + number_in_place old header))
    keep j same = ⊎_elim
        (λ (old_is : number_in_place now j ≡ number_in_place old j). inl (same ∙ old_is))
        (λ (some : (q : ℕ) × (b : ℕ) × (q < length rests.steps.items) × (number_in_place plan.order.items (number_in_place rests.steps.items q) ≡ j) × (j ≢ header) × (rest_in rests.found.items q ≡ Some b) × (number_in_place now j + iteration ≡ b + number_in_place old header)).
        inr (some.0, some.1, some.2, some.3, some.4, some.5, ap (λ y. y + iteration) same ∙ some.6))
        (to.either j)

-- the header is left as it is
pub raised_past : {plan : Plan} {rests : Rests} {header iteration m : ℕ} {old now : List ℕ} (k : ℕ) → number_in_place plan.order.items (number_in_place rests.steps.items m) ≡ k → k ≡ header → AreRaisedTo plan rests header iteration m old now → AreRaisedTo plan rests header iteration (m + 1) old now
raised_past {plan = plan} {rests = rests} {header = header} {iteration = iteration} {m = m} {old = old} {now = now} k node same to = record {
  higher = to.higher;
  over = λ q b lt some other. ⊎_elim
      (λ (before : q < m). to.over q b before some other)
      (λ (last : m ≤ q). let one : q ≡ m = omega arith in absurd (other (ap (λ p. number_in_place plan.order.items (number_in_place rests.steps.items p)) one ∙ node ∙ same)))
      (cases_lt q m);
  either = to.either;
}

pub lefts_more : {v : FlowGraph} {t : LoopView} {w : List ℕ} {plan : Plan} {rests : Rests} {l : ℕ} → IsPlannedBy v t w plan → (old new : List ℕ) (i : ℕ) (iteration : ℕ) → i < length plan.order.items → l < length t.headers →
    number_in_place t.headers l ≡ number_in_place plan.order.items i → AreRestsOf v t (by_edge w) plan l rests → ((n : Numbers) → AreSolvedBy v t (by_edge w) n → iteration ≡ n.iteration l) → AreRaised plan rests (number_in_place plan.order.items i) iteration old new →
    AreLeftsTo v t (by_edge w) plan (i + 1) old → AreLeftsTo v t (by_edge w) plan i new
lefts_more {v = v} {t = t} {w = w} {plan = plan} {rests = rests} {l = l} is old new i iteration il ll header of one raised to n s k kl =
    let before = to n s k kl in
    record {
      under = ⊎_elim
          (λ (same : number_in_place new k ≡ number_in_place old k). let low = before.under in let r : number_in_place new k ≤ n.left (node_address v k) = omega arith in r)
          (λ (some : (m : ℕ) × (b : ℕ) × (m < length rests.steps.items) × (number_in_place plan.order.items (number_in_place rests.steps.items m) ≡ k) × (k ≢ number_in_place plan.order.items i) ×
          (rest_in rests.found.items m ≡ Some b) × (number_in_place new k + iteration ≡ b + number_in_place old (number_in_place plan.order.items i))).
          let step = step_inside is body some.0 some.2 in
          let at : address_at v plan rests.steps.items some.0 ≡ node_address v k = ap (node_address v) some.3 in
          let size = of.sizes in
          let closes : n.closing l (node_address v k) ≡ Some some.1 = sym (of.found n s some.0 (let r : some.0 < length rests.steps.items = some.2 in r) ∙ ap (n.closing l) at) ∙ some.5 in
          let inside : (loops v t).inside l (node_address v k) ≡ true = subst (λ a. (loops v t).inside l a ≡ true) at step.1 in
          let over : some.1 + n.left ((loops v t).header l) ≤ n.left (node_address v k) + n.iteration l = (s.left (node_address v k)).over_closing l some.1 lt inside (not_header some.4) closes in
          let e : number_in_place new k + iteration ≡ some.1 + number_in_place old (number_in_place plan.order.items i) = some.6 in
          let r : number_in_place new k ≤ n.left (node_address v k) = omega (arith, turn, whole) in r)
          (raised.either k);
      over_plain = let a = before.over_plain in let b = raised.higher k in let r : n.plain (node_address v k) ≤ number_in_place new k = omega arith in r;
      over_closing = λ j b jl done inside other closes. ⊎_elim
          (λ (behind : i < number_in_place plan.places.items (number_in_place t.headers j)).
          let old_over : b + n.left ((loops v t).header j) ≤ number_in_place old k + n.iteration j = before.over_closing j b jl (let r : i + 1 ≤ number_in_place plan.places.items (number_in_place t.headers j) = omega arith in r) inside other closes in
          let more = raised.higher k in
          let r : b + n.left ((loops v t).header j) ≤ number_in_place new k + n.iteration j = omega arith in r)
          (λ (here : number_in_place plan.places.items (number_in_place t.headers j) ≤ i).
          let count = loop_count v t in
          let low : j < length t.headers = omega arith in
          let place = at_place is (number_in_place t.headers j) (header_number v t is.tree.0 is.tree.1 j low) in
          let done_at : i ≤ number_in_place plan.places.items (number_in_place t.headers j) = done in
          let same : number_in_place plan.places.items (number_in_place t.headers j) ≡ i = omega arith in
          let heads : number_in_place t.headers j ≡ number_in_place t.headers l = sym place.1 ∙ ap (number_in_place plan.order.items) same ∙ sym header in
          let addresses : (loops v t).header j ≡ (loops v t).header l = header_address v t j low ∙ ap (node_address v) heads ∙ sym (header_address v t l ll) in
          let one_loop : j ≡ l = s.different j l jl lt addresses in
          subst (λ x. b + n.left ((loops v t).header x) ≤ number_in_place new k + n.iteration x) (sym one_loop)
          (own b (subst (λ x. (loops v t).inside x (node_address v k) ≡ true) one_loop inside) (subst (λ x. (loops v t).header x ≢ node_address v k) one_loop other) (subst (λ x. n.closing x (node_address v k) ≡ Some b) one_loop closes)))
          (cases_lt i (number_in_place plan.places.items (number_in_place t.headers j)));
    }
  where
    lt : l < (loops v t).loops
    lt = let count = loop_count v t in omega arith

    body : IsBodyAt t plan l i rests.steps.items
    body = record { within = ll; place = il; header = header; places = of.places }

    at_header : (loops v t).header l ≡ node_address v (number_in_place plan.order.items i)
    at_header = header_address v t l ll ∙ ap (node_address v) header

    turn : iteration ≡ n.iteration l
    turn = one n s

    whole : number_in_place old (number_in_place plan.order.items i) ≡ n.left ((loops v t).header l)
    whole = header_left is old i il to s ∙ ap n.left (sym at_header)

    not_header : k ≢ number_in_place plan.order.items i → (loops v t).header l ≢ node_address v k
    not_header other e = other (same_node v is.flow k (number_in_place plan.order.items i) kl (is.plan.order.within i il) (sym e ∙ at_header))

    own : (b : ℕ) → (loops v t).inside l (node_address v k) ≡ true → (loops v t).header l ≢ node_address v k → n.closing l (node_address v k) ≡ Some b → b + n.left ((loops v t).header l) ≤ number_in_place new k + n.iteration l
    own b inside other closes =
        let q = step_of is l ll of.places k kl inside in
        let at : address_at v plan rests.steps.items q.0 ≡ node_address v k = address_of is rests.steps.items k q.0 kl q.2 in
        let rest : rest_in rests.found.items q.0 ≡ Some b = of.found n s q.0 q.1 ∙ ap (n.closing l) at ∙ closes in
        let node : number_in_place plan.order.items (number_in_place rests.steps.items q.0) ≡ k = ap (number_in_place plan.order.items) q.2 ∙ (at_place is k kl).1 in
        let off : number_in_place plan.order.items (number_in_place rests.steps.items q.0) ≢ number_in_place plan.order.items i = λ e. other (at_header ∙ ap (node_address v) (sym e ∙ node)) in
        let over : b + number_in_place old (number_in_place plan.order.items i) ≤ number_in_place new (number_in_place plan.order.items (number_in_place rests.steps.items q.0)) + iteration = raised.over q.0 b q.1 rest off in
        let new_at : number_in_place new (number_in_place plan.order.items (number_in_place rests.steps.items q.0)) ≡ number_in_place new k = ap (number_in_place new) node in
        let r : b + n.left ((loops v t).header l) ≤ number_in_place new k + n.iteration l = omega (arith, turn, whole) in r

-- where no header is there, nothing is to be raised
pub lefts_on : {v : FlowGraph} {t : LoopView} {w : List ℕ} {plan : Plan} → IsPlannedBy v t w plan → (left : List ℕ) (i : ℕ) → i < length plan.order.items → ((j : ℕ) → j < (loops v t).loops → (loops v t).header j ≢ node_address v (number_in_place plan.order.items i)) →
    AreLeftsTo v t (by_edge w) plan (i + 1) left → AreLeftsTo v t (by_edge w) plan i left
lefts_on {v = v} {t = t} {w = w} {plan = plan} is left i il none to n s k kl =
    let before = to n s k kl in
    record {
      under = before.under;
      over_plain = before.over_plain;
      over_closing = λ j b jl done inside other closes. ⊎_elim
          (λ (behind : i < number_in_place plan.places.items (number_in_place t.headers j)). before.over_closing j b jl (let r : i + 1 ≤ number_in_place plan.places.items (number_in_place t.headers j) = omega arith in r) inside other closes)
          (λ (here : number_in_place plan.places.items (number_in_place t.headers j) ≤ i).
          let count = loop_count v t in
          let low : j < length t.headers = omega arith in
          let place = at_place is (number_in_place t.headers j) (header_number v t is.tree.0 is.tree.1 j low) in
          let done_at : i ≤ number_in_place plan.places.items (number_in_place t.headers j) = done in
          let same : number_in_place plan.places.items (number_in_place t.headers j) ≡ i = omega arith in
          absurd (none j jl (header_address v t j low ∙ ap (node_address v) (sym place.1 ∙ ap (number_in_place plan.order.items) same))))
          (cases_lt i (number_in_place plan.places.items (number_in_place t.headers j)));
    }

-- in the end all is known
pub lefts_last : (v : FlowGraph) (t : LoopView) (w : ℕ → ℕ) (plan : Plan) (left : List ℕ) → length left ≡ length v.code.nodes → AreLeftsTo v t w plan 0 left → AreLefts v t w left
lefts_last v t w plan left size to = record {
  size = size;
  each = λ n s k kl. left_whole (loops v t) n (IsHeadedFrom t plan 0) (node_address v k) (number_in_place left k) (s.left (node_address v k)) (to n s k kl) (λ j jl inside other. let r : 0 ≤ number_in_place plan.places.items (number_in_place t.headers j) = omega arith in r);
}

-- the loop whose header the next node is
pub headed_loop : {v : FlowGraph} {t : LoopView} {w : List ℕ} {plan : Plan} → IsPlannedBy v t w plan → (i k l : ℕ) (o : Option ℕ) → i < length plan.order.items → k ≡ get_or plan.order.items i k → o ≡ get_or plan.headed.items k o → o ≡ Some l →
    (l < length t.headers) × (number_in_place t.headers l ≡ number_in_place plan.order.items i) × (number_in_place plan.order.items i ≡ k)
headed_loop {v = v} {t = t} {w = w} {plan = plan} is i k l o il node has some =
    let heads : slice_get t.headers l ≡ Some (number_in_place plan.order.items i) = is.plan.headed.some (number_in_place plan.order.items i) l (headed_is is i k o il node has ∙ some) in
    (slice_get_within t.headers l (number_in_place plan.order.items i) heads, get_or_from_slice_get t.headers l (number_in_place plan.order.items i) 0 heads, value_at plan.order.items i k 0 il node)

-- an iteration is one of the rests
pub iteration_small : {v : FlowGraph} {t : LoopView} {w : List ℕ} {plan : Plan} {l : ℕ} {rests : Rests} {n : Numbers} → IsPlannedBy v t w plan → l < length t.headers → AreRestsOf v t (by_edge w) plan l rests → AreSolvedBy v t (by_edge w) n → n.iteration l ≤ 2 ^ 48 + 2 ^ 32
iteration_small {v = v} {t = t} {w = w} {plan = plan} {l = l} {rests = rests} {n = n} is ll of s =
    let count = loop_count v t in
    let lt : l < (loops v t).loops = omega arith in
    let hl : number_in_place t.headers l < length v.code.nodes = header_number v t is.tree.0 is.tree.1 l ll in
    let address : (loops v t).header l ≡ node_address v (number_in_place t.headers l) = header_address v t l ll in
    let inside : (loops v t).inside l (node_address v (number_in_place t.headers l)) ≡ true = subst (λ a. (loops v t).inside l a ≡ true) address (s.held l lt) in
    let q = step_of is l ll of.places (number_in_place t.headers l) hl inside in
    of.table.small q.0 (n.iteration l) (of.found n s q.0 q.1 ∙ ap (n.closing l) (address_of is rests.steps.items (number_in_place t.headers l) q.0 hl q.2 ∙ sym address) ∙ s.iteration l lt)

-- an entry that is set is no greater
pub small_set : (xs ys : List ℕ) (k x most : ℕ) → ys ≡ set xs k x → x ≤ most → ((j : ℕ) → j < length xs → number_in_place xs j ≤ most) → (j : ℕ) → j < length ys → number_in_place ys j ≤ most
small_set xs ys k x most is low small j jl =
    let size : length ys ≡ length xs = ap length is ∙ length-set xs k x in
    let jx : j < length xs = omega arith in
    ⊎_elim
    (λ (same : j ≡ k).
    let kl : k < length xs = omega arith in
    let value : number_in_place ys j ≡ x = ap (number_in_place ys) same ∙ ap (λ zs. number_in_place zs k) is ∙ get_or-set_same xs k x 0 kl in
    let r : number_in_place ys j ≤ most = omega arith in r)
    (λ (other : j ≢ k).
    let value : number_in_place ys j ≡ number_in_place xs j = ap (λ zs. number_in_place zs j) is ∙ get_or-set_other xs k j x 0 other in
    let before = small j jx in let r : number_in_place ys j ≤ most = omega arith in r)
    (cases_eq j k)

pub left_small : {v : FlowGraph} {t : LoopView} {w : List ℕ} {plan : Plan} → IsPlannedBy v t w plan → (left : List ℕ) (i : ℕ) → HasSolved v t (by_edge w) → length left ≡ length v.code.nodes → AreLeftsTo v t (by_edge w) plan i left → (k : ℕ) → k < length left → number_in_place left k ≤ 2 ^ 48
left_small {v = v} {t = t} {w = w} {plan = plan} is left i n size to k kl =
    let low : k < length v.code.nodes = omega arith in
    let under : number_in_place left k ≤ n.0.left (node_address v k) = (to n.0 n.1 k low).under in
    let within = n.1.left_within (node_address v k) ((is.flow.nodes (node_address v k)).0 (k, node_here v k low)) in
    let small : n.0.worst 0 ≤ 2 ^ 48 = n.2 in
    let r : number_in_place left k ≤ 2 ^ 48 = omega arith in r

-- a node that is the header of no loop
pub unheaded : {v : FlowGraph} {t : LoopView} {w : List ℕ} {plan : Plan} → IsPlannedBy v t w plan → (i k : ℕ) (o : Option ℕ) → i < length plan.order.items → k ≡ get_or plan.order.items i k → o ≡ get_or plan.headed.items k o → ((x : ℕ) → o ≡ Some x → ⊥) →
    (j : ℕ) → j < (loops v t).loops → (loops v t).header j ≢ node_address v (number_in_place plan.order.items i)
unheaded {v = v} {t = t} {w = w} {plan = plan} is i k o il node has none j jl =
    no_turns is (record { worst = λ x. 0; iteration = λ x. 0; plain = λ x. 0; closing = λ x y. None; left = λ x. 0; context = λ x. 0 }) (number_in_place plan.order.items i) (is.plan.order.within i il) (headed_is is i k o il node has ∙ is_none o none) j jl
  where
    is_none : (o : Option ℕ) → ((x : ℕ) → o ≡ Some x → ⊥) → o ≡ None
    is_none None e = refl
    is_none (Some x) e = absurd (e x refl)
