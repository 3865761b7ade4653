-- The turns and the charges of loops, where the costs in their functions and the charges of the loops within them are known.
use Rattle.std.proofs.Common.{◌≡◌, ◌≢◌, ℕ, ◌+◌, ◌*◌, ◌<◌, ◌≤◌, ◌⊎◌, ◌↔◌, inl, inr, Bool, true, false, not, ◌&&◌, ◌||◌, nat_eq, List, [], ◌∷◌, length, slice_get, slice_set, slice_index, slice_index_or, Option, Some, None, refl, sym, ap, ◌∙◌, subst, arith, ⊎_elim, get_or-set_other, get_or-set_same, eqb-true, eq-eqb}
use Rattle.std.proofs.lemmas.Bool.{cases_lt}
use Rattle.std.proofs.lemmas.Option.{slice_get-get_or, slice_get_within, get_or_from_slice_get, same_Some, none-some}
use Rattle.graph_algorithms.specs.Arcs.{number_in_place}
use Rattle.cost_theory.specs.Graph.{Graph, Loops, total, only, is_round, is_header, is_back, any_below, end_of, IsPlainPath}
use Rattle.cost_theory.specs.Worst.{at_some}
use Rattle.cost_theory.specs.Least.{IsLeastIfAny, IsExit, least_cost}
use Rattle.cost_theory.specs.LeastTurns.{IsRun, turn_step, turn_last}
use Rattle.cost_theory.proofs.Laws.{search_below, and_left, and_right, any-none, none-any, accepted_entered, header_held, body_node, IsAtHeader, step_at_header, entry_at_header, plain_from_entry}
use Rattle.flow_graph.specs.FlowGraph.{FlowGraph, graph, IsFlowGraph}
use Rattle.loop_forest.specs.Noted.{node_address}
use Rattle.loop_forest.proofs.Laws.{one_number, source_number}
use Rattle.loop_forest.specs.Tree.{LoopView, loops, IsAtPlace}
use Rattle.graph_algorithms.specs.Keys.{option_at, HasKey, IsLastBelow}
use Rattle.cycle_laws.specs.Charged.{Charged, calls_exit, is_closed, charge_of, charged_cost}
use Rattle.cycle_laws.proofs.Laws.{least_same}
use Rattle.least_cycles.specs.declared.charges.Charges.{Charges}
use Rattle.least_cycles.specs.Hops.{number_in_table}
use Rattle.least_cycles.specs.Functions.{IsBucket, AreKinds, ArePlacesIn, is_in_flags, IsNodeFlagged, IsFromFirst, AreLeastRuns}
use Rattle.least_cycles.specs.Charging.{own_by, loop_charge, IsCharging, AreHeaderLoops, IsInto, AreEnteredLoops, charge_by, cost_with, AreChargedTo, loop_owner, ArePricedAt, IsInner, IsBodyOf, AreTurnKinds, AreHeaderKeys, IsHeaderFrom}
use Rattle.least_cycles.proofs.ChargedLaws.{charged_on, charged_back, charged_into}
use Rattle.least_cycles.proofs.AgreeLaws.{calls_so_at, calls_one}
use Rattle.least_cycles.proofs.TurnLaws.{loop_count, loop_below, header_number, header_address, address_of_header, one_header, same_bool, key_is, key_of}
use Rattle.least_cycles.specs.Tables.{least_by, ArePriced, IsBefore, IsAnyFunction}
use Rattle.least_cycles.proofs.PriceLaws.{owner_below}
use Rattle.least_cycles.proofs.WalkLaws.{address_is, from_first, not_before, next_before, all_before}

same_or : (a b : ℕ) → (a ≡ b) ⊎ (a ≢ b)
same_or a b = grind arith

number_below : (v : FlowGraph) (t : LoopView) (k : ℕ) → k < (loops v t).loops → k < length t.headers
number_below v t k lt = let count = loop_count v t in omega arith

-- ---- the edges of a turn

pub body_kinds : (v : FlowGraph) (t : LoopView) (k : ℕ) (nodes : List ℕ) (turns stays : List Bool) → IsFlowGraph v → IsBodyOf v t k nodes → AreTurnKinds v t k (IsFromFirst v nodes (length nodes)) turns stays → AreKinds v nodes turns stays
body_kinds v t k nodes turns stays flow body kinds = record {
  lasts_size = kinds.turns_size;
  steps_size = kinds.stays_size;
  apart = λ e el from marked.
      let back : turn_last (graph v) (loops v t) k e ≡ true = sym (kinds.turn e el from) ∙ marked in
      let at : is_header (loops v t) k ((graph v).target e) ≡ true = and_right ((loops v t).inside k ((graph v).source e)) (is_header (loops v t) k ((graph v).target e)) back in
      kinds.stay e el from ∙ ap (λ b. (loops v t).inside k ((graph v).source e) && (is_round (loops v t) k ((graph v).target e) && not b)) at
      ∙ never ((loops v t).inside k ((graph v).source e)) (is_round (loops v t) k ((graph v).target e));
  stays = λ e el from marked.
      let step : turn_step (graph v) (loops v t) k e ≡ true = sym (kinds.stay e el from) ∙ marked in
      to e el ((graph v).target e) refl (and_left (is_round (loops v t) k ((graph v).target e)) (not (is_header (loops v t) k ((graph v).target e))) (and_right ((loops v t).inside k ((graph v).source e)) (is_round (loops v t) k ((graph v).target e) && not (is_header (loops v t) k ((graph v).target e))) step));
}
  where
    never : (a b : Bool) → (a && (b && false)) ≡ false
    never true true = refl
    never true false = refl
    never false b = refl

    to : (e : ℕ) → e < length v.code.edges → (o : Option ℕ) → (graph v).target e ≡ o → is_round (loops v t) k ((graph v).target e) ≡ true → (j : ℕ) × (j < length nodes) × ((graph v).target e ≡ Some (node_address v (number_in_place nodes j)))
    to e el None at round = let none : false ≡ true = sym (ap (is_round (loops v t) k) at) ∙ round in let bad : ⊥ = cc in absurd bad
    to e el (Some u) at round =
        let node = (flow.nodes u).1 (flow.program.stays e u el at).0 in
        let address : node_address v node.0 ≡ u = address_is v node.0 u node.1 in
        let inside : (loops v t).inside k (node_address v node.0) ≡ true = ap ((loops v t).inside k) address ∙ sym (ap (is_round (loops v t) k) at) ∙ round in
        let j = body.whole node.0 (slice_get_within v.code.nodes node.0 u node.1) inside in
        (j.0, j.1, at ∙ ap Some (sym address ∙ ap (node_address v) (sym j.2)))

-- ---- what an edge is charged

module _ (v : FlowGraph) (t : LoopView) (w : ℕ → ℕ) (n : Charged) (is : IsCharging v t w n) where
  abbrev g : Graph
  g = graph v

  abbrev l : Loops
  l = loops v t

  -- an edge to a header from outside pays for the loop, and others do not
  pub charge_known : (Done : ℕ → Type 0) (entries : List (Option ℕ)) (found : List ℕ) (e : ℕ) → AreEnteredLoops v t (length v.code.edges) entries → AreChargedTo v t n Done found → e < length v.code.edges → ((j : ℕ) → IsInto v t e j → Done j) → charge_by entries found e ≡ charge_of g l n e
  charge_known Done entries found e entered charged el done = go (option_at entries e) refl
    where
      go : (o : Option ℕ) → option_at entries e ≡ o → charge_by entries found e ≡ charge_of g l n e
      go (Some j) at =
          let into = (entered.each e el).some j at in
          ap (λ (o : Option ℕ). at_some o (number_in_place found)) at ∙ charged j into.0 (done j into)
          ∙ sym (charged_into g l is.extent w n is.flow.program is.tree.accepted e j el (loop_below v t j into.0) into.1 into.2)
      go None at = ap (λ (o : Option ℕ). at_some o (number_in_place found)) at ∙ sym (⊎_elim
          (λ (some : (k : ℕ) × (k < l.loops) × (is_header l k (g.target e) ≡ true)). free some.0 some.1 (to_header some.0 (g.target e) some.2) (is_back g l some.0 e) refl)
          (λ (none : (k : ℕ) → k < l.loops → is_header l k (g.target e) ≡ false). charged_on g l is.extent w n is.flow.program is.tree.accepted e el (λ k kl to.
          let bad_test : false ≡ true = sym (none k kl) ∙ ap (is_header l k) to ∙ eq-eqb (l.header k) (l.header k) refl in
          let bad : ⊥ = cc in bad))
          (search_below l.loops (λ k. is_header l k (g.target e))))
        where
          to_header : (k : ℕ) (o : Option ℕ) → is_header l k o ≡ true → o ≡ Some (l.header k)
          to_header k None h = let bad : ⊥ = cc in absurd bad
          to_header k (Some u) h = ap Some (eqb-true u (l.header k) h)

          free : (k : ℕ) → k < l.loops → g.target e ≡ Some (l.header k) → (b : Bool) → is_back g l k e ≡ b → charge_of g l n e ≡ 0
          free k kl to true back = charged_back g l is.extent w n is.flow.program is.tree.accepted e k el kl back
          free k kl to false out = absurd ((entered.each e el).none k at (number_below v t k kl, to, out))

  -- ---- a body

  pub body_owner : (k a : ℕ) → k < length t.headers → l.inside k a ≡ true → g.owner a ≡ loop_owner v t k
  body_owner k a kl inside = ((is.tree.accepted.bodies k a (loop_below v t k kl)).0 inside).0

  pub header_inside : (k : ℕ) → k < length t.headers → l.inside k (l.header k) ≡ true
  header_inside k kl = header_held g l is.extent is.flow.program (accepted_entered is.tree.accepted) k (loop_below v t k kl)

  -- an edge from a body is one of those of its nodes
  pub from_body : (k e : ℕ) (nodes : List ℕ) → IsBodyOf v t k nodes → e < length v.code.edges → l.inside k (g.source e) ≡ true → IsFromFirst v nodes (length nodes) e
  from_body k e nodes body el inside =
      let s = source_number v is.flow e el in
      let sl = slice_get_within v.code.nodes s.0 (g.source e) s.1 in
      let address : node_address v s.0 ≡ g.source e = address_is v s.0 (g.source e) s.1 in
      let i = body.whole s.0 sl (subst (λ a. l.inside k a ≡ true) (sym address) inside) in
      (i.0, i.1, sym (ap (node_address v) i.2 ∙ address))

  pub of_body : (k e : ℕ) (nodes : List ℕ) → IsBodyOf v t k nodes → IsFromFirst v nodes (length nodes) e → l.inside k (g.source e) ≡ true
  of_body k e nodes body from = subst (λ a. l.inside k a ≡ true) (sym from.2) (body.inside from.0 from.1)

  -- ---- closed loops

  module _ (k : ℕ) (nodes : List ℕ) (costs : List ℕ) (lasts : List Bool) (kl : k < length t.headers) (body : IsBodyOf v t k nodes) (priced : ArePricedAt v w n (loop_owner v t k) costs lasts) where
    abbrev Shut : Type 0
    Shut = (e : ℕ) → e < length v.code.edges → IsFromFirst v nodes (length nodes) e → IsNodeFlagged lasts e → ⊥

    abbrev test : ℕ → Bool
    test e = l.inside k (g.source e) && (g.exits e || calls_exit g n.least e)

    open_at : Shut → (e : ℕ) → e < g.edges → test e ≡ true → ⊥
    open_at shut e el holds =
        let inside : l.inside k (g.source e) ≡ true = and_left (l.inside k (g.source e)) (g.exits e || calls_exit g n.least e) holds in
        either (g.exits e) (calls_exit g n.least e) refl refl inside (and_right (l.inside k (g.source e)) (g.exits e || calls_exit g n.least e) holds)
      where
        leaves : (d : ℕ) → d < g.edges → l.inside k (g.source d) ≡ true → IsExit g n.least d → ⊥
        leaves d dl inside exit = shut d dl (from_body k d nodes body dl inside) ((priced.last d dl (body_owner k (g.source d) kl inside)).1 exit)

        either : (a b : Bool) → g.exits e ≡ a → calls_exit g n.least e ≡ b → l.inside k (g.source e) ≡ true → (a || b) ≡ true → ⊥
        either true b exits calls inside or = leaves e el inside (inl exits)
        either false true exits calls inside or =
            let f = calls_one g n.least e calls in
            let d = is.flow.program.call_end (g.source e) f.0 (e, el, refl, f.1) in
            leaves d.0 d.1 (subst (λ a. l.inside k a ≡ true) (sym d.2) inside) (inr (d.4, (f.0, d.3, f.2)))
        either false false exits calls inside or = let bad : ⊥ = cc in bad

    closed_if : Shut → is_closed g l n.least k ≡ true
    closed_if shut = ap not (none-any g.edges test (λ e el. never (test e) (open_at shut e el)))
      where
        never : (b : Bool) → (b ≡ true → ⊥) → b ≡ false
        never true no_way = absurd (no_way refl)
        never false no_way = refl

    shut_if : is_closed g l n.least k ≡ true → Shut
    shut_if closed e el from marked =
        let inside : l.inside k (g.source e) ≡ true = of_body k e nodes body from in
        let none : test e ≡ false = any-none g.edges test (off (any_below g.edges test) closed) e el in
        let both : (g.exits e || calls_exit g n.least e) ≡ false = sym (ap (λ b. b && (g.exits e || calls_exit g n.least e)) inside) ∙ none in
        clash both ((priced.last e el (body_owner k (g.source e) kl inside)).0 marked)
      where
        off : (b : Bool) → not b ≡ true → b ≡ false
        off false h = refl
        off true h = let bad : ⊥ = cc in absurd bad

        no_left : (a b : Bool) → (a || b) ≡ false → a ≡ true → ⊥
        no_left true b h yes_a = let bad : ⊥ = cc in bad
        no_left false b h yes_a = let bad : ⊥ = cc in bad

        no_right : (a b : Bool) → (a || b) ≡ false → b ≡ true → ⊥
        no_right true b h yes_b = let bad : ⊥ = cc in bad
        no_right false b h yes_b = let bad : ⊥ = cc in bad

        clash : (g.exits e || calls_exit g n.least e) ≡ false → IsExit g n.least e → ⊥
        clash both (inl exit) = no_left (g.exits e) (calls_exit g n.least e) both exit
        clash both (inr call) = no_right (g.exits e) (calls_exit g n.least e) both (calls_so_at g n.least e call.1.0 call.1.1 ∙ call.1.2)

    pub closed_is : (b : Bool) → ((b ≡ true) ↔ Shut) → b ≡ is_closed g l n.least k
    closed_is b means = same_bool b (is_closed g l n.least k) (λ yes_b. closed_if (means.0 yes_b)) (λ closed. means.1 (shut_if closed))

  pub charge_open : (k : ℕ) → is_closed g l n.least k ≡ false → loop_charge v t n k ≡ 0
  charge_open k open_is = let none : 0 * n.turn k ≡ 0 = omega arith in ap (λ b. only b (l.least_trips k) * n.turn k) open_is ∙ none

  pub charge_closed : (k : ℕ) → is_closed g l n.least k ≡ true → loop_charge v t n k ≡ slice_index t.least_trips k * n.turn k
  charge_closed k closed = ap (λ b. only b (l.least_trips k) * n.turn k) closed

  -- ---- a turn

  module _ (k : ℕ) (nodes : List ℕ) (costs : List ℕ) (lasts turns stays : List Bool) (charges : Charges) (kl : k < length t.headers) (body : IsBodyOf v t k nodes) (priced : ArePricedAt v w n (loop_owner v t k) costs lasts)
      (entered : AreEnteredLoops v t (length v.code.edges) charges.entries.items) (inner : AreChargedTo v t n (IsInner v t k) charges.found.items) (kinds : AreTurnKinds v t k (IsFromFirst v nodes (length nodes)) turns stays) where
    abbrev c : ℕ → ℕ
    c = cost_with costs charges

    abbrev d : ℕ → ℕ
    d = charged_cost g l w n

    back_to : (e : ℕ) → turn_last g l k e ≡ true → g.target e ≡ Some (l.header k)
    back_to e back = go (g.target e) (and_right (l.inside k (g.source e)) (is_header l k (g.target e)) back)
      where
        go : (o : Option ℕ) → is_header l k o ≡ true → o ≡ Some (l.header k)
        go None at = let bad : ⊥ = cc in absurd bad
        go (Some u) at = ap Some (eqb-true u (l.header k) at)

    -- a loop that an edge of a turn enters lies within
    within : (e j : ℕ) → e < length v.code.edges → (turn_last g l k e ≡ true) ⊎ (turn_step g l k e ≡ true) → IsInto v t e j → IsInner v t k j
    within e j el (inl back) into =
        let same : j ≡ k = one_header v t is.extent j k is.flow is.tree into.0 kl (same_Some (l.header j) (l.header k) (sym into.1 ∙ back_to e back)) in
        let out : is_back g l k e ≡ false = ap (λ i. is_back g l i e) (sym same) ∙ into.2 in
        let bad : ⊥ = cc in absurd bad
    within e j el (inr step) into =
        let on : (is_round l k (g.target e) && not (is_header l k (g.target e))) ≡ true = and_right (l.inside k (g.source e)) (is_round l k (g.target e) && not (is_header l k (g.target e))) step in
        let round : l.inside k (l.header j) ≡ true = sym (ap (is_round l k) into.1) ∙ and_left (is_round l k (g.target e)) (not (is_header l k (g.target e))) on in
        let away : not (nat_eq (l.header j) (l.header k)) ≡ true = sym (ap (λ o. not (is_header l k o)) into.1) ∙ and_right (is_round l k (g.target e)) (not (is_header l k (g.target e))) on in (
          (λ same.
              let at : not (nat_eq (l.header j) (l.header k)) ≡ false = ap not (eq-eqb (l.header j) (l.header k) (ap l.header same)) in
              let bad : ⊥ = cc in bad),
          round,
        )

    costs_same : (e : ℕ) → e < length v.code.edges → l.inside k (g.source e) ≡ true → (turn_last g l k e ≡ true) ⊎ (turn_step g l k e ≡ true) → c e ≡ d e
    costs_same e el inside which =
        let price : number_in_place costs e ≡ least_cost g w n.least e = priced.cost e el (body_owner k (g.source e) kl inside) in
        let charge : charge_by charges.entries.items charges.found.items e ≡ charge_of g l n e = charge_known (IsInner v t k) charges.entries.items charges.found.items e entered inner el (λ j into. within e j el which into) in
        omega arith

    flag_of : (e : ℕ) → e < length v.code.edges → l.inside k (g.source e) ≡ true → (is_in_flags turns e ≡ turn_last g l k e) × (is_in_flags stays e ≡ turn_step g l k e)
    flag_of e el inside = let from = from_body k e nodes body el inside in (kinds.turn e el from, kinds.stay e el from)

    stays_in : (e u : ℕ) → turn_step g l k e ≡ true → g.target e ≡ Some u → l.inside k u ≡ true
    stays_in e u step to = sym (ap (is_round l k) to) ∙ and_left (is_round l k (g.target e)) (not (is_header l k (g.target e))) (and_right (l.inside k (g.source e)) (is_round l k (g.target e) && not (is_header l k (g.target e))) step)

    there : (es : List ℕ) (p : Option ℕ) → ((u : ℕ) → p ≡ Some u → l.inside k u ≡ true) → IsRun g false (is_in_flags turns) (is_in_flags stays) p es → IsRun g false (turn_last g l k) (turn_step g l k) p es × (total c es ≡ total d es)
    there [] p at run = let q : false ≡ true = run in let bad : ⊥ = cc in absurd bad
    there (e ∷ es) p at run = ⊎_elim
        (λ (b : (is_in_flags turns e ≡ true) × (es ≡ [])).
        let last : turn_last g l k e ≡ true = sym flags.0 ∙ b.0 in
        let one : c e ≡ d e = costs_same e run.0 inside (inl last) in
        let rest : total c es ≡ total d es = ap (total c) b.1 ∙ sym (ap (total d) b.1) in
        let r : IsRun g false (turn_last g l k) (turn_step g l k) p (e ∷ es) × (c e + total c es ≡ d e + total d es) = ((run.0, run.1, inl (last, b.1)), omega arith) in r)
        (λ (b : (is_in_flags stays e ≡ true) × IsRun g false (is_in_flags turns) (is_in_flags stays) (g.target e) es).
        let step : turn_step g l k e ≡ true = sym flags.1 ∙ b.0 in
        let one : c e ≡ d e = costs_same e run.0 inside (inr step) in
        let more = there es (g.target e) (λ u to. stays_in e u step to) b.1 in
        let rest : total c es ≡ total d es = more.1 in
        let r : IsRun g false (turn_last g l k) (turn_step g l k) p (e ∷ es) × (c e + total c es ≡ d e + total d es) = ((run.0, run.1, inr (step, more.0)), omega arith) in r)
        run.2
      where
        inside : l.inside k (g.source e) ≡ true
        inside = at (g.source e) run.1

        flags : (is_in_flags turns e ≡ turn_last g l k e) × (is_in_flags stays e ≡ turn_step g l k e)
        flags = flag_of e run.0 inside

    back : (es : List ℕ) (p : Option ℕ) → ((u : ℕ) → p ≡ Some u → l.inside k u ≡ true) → IsRun g false (turn_last g l k) (turn_step g l k) p es → IsRun g false (is_in_flags turns) (is_in_flags stays) p es × (total d es ≡ total c es)
    back [] p at run = let q : false ≡ true = run in let bad : ⊥ = cc in absurd bad
    back (e ∷ es) p at run = ⊎_elim
        (λ (b : (turn_last g l k e ≡ true) × (es ≡ [])).
        let one : c e ≡ d e = costs_same e run.0 inside (inl b.0) in
        let rest : total d es ≡ total c es = ap (total d) b.1 ∙ sym (ap (total c) b.1) in
        let r : IsRun g false (is_in_flags turns) (is_in_flags stays) p (e ∷ es) × (d e + total d es ≡ c e + total c es) = ((run.0, run.1, inl (flags.0 ∙ b.0, b.1)), omega arith) in r)
        (λ (b : (turn_step g l k e ≡ true) × IsRun g false (turn_last g l k) (turn_step g l k) (g.target e) es).
        let one : c e ≡ d e = costs_same e run.0 inside (inr b.0) in
        let more = back es (g.target e) (λ u to. stays_in e u b.0 to) b.1 in
        let rest : total d es ≡ total c es = more.1 in
        let r : IsRun g false (is_in_flags turns) (is_in_flags stays) p (e ∷ es) × (d e + total d es ≡ c e + total c es) = ((run.0, run.1, inr (flags.1 ∙ b.0, more.0)), omega arith) in r)
        run.2
      where
        inside : l.inside k (g.source e) ≡ true
        inside = at (g.source e) run.1

        flags : (is_in_flags turns e ≡ turn_last g l k e) × (is_in_flags stays e ≡ turn_step g l k e)
        flags = flag_of e run.0 inside

    pub turn_found : (i : ℕ) (table : List (Option ℕ)) → i < length nodes → number_in_place nodes i ≡ number_in_place t.headers k → AreLeastRuns v turns stays c nodes table → number_in_table table i ≡ Some (n.turn k)
    turn_found i table il at_header least =
        least_same (IsRun g false (is_in_flags turns) (is_in_flags stays) (Some h)) (IsRun g false (turn_last g l k) (turn_step g l k) (Some h)) (total c) (total d) (number_in_table table i) (n.closing k h)
        (λ es run. there es (Some h) start run) (λ es run. back es (Some h) start run)
        (subst (λ a. IsLeastIfAny (IsRun g false (is_in_flags turns) (is_in_flags stays) (Some a)) (total c) (number_in_table table i)) address (least i il))
        (is.numbers.closing k h (loop_below v t k kl))
        ∙ is.numbers.turn k (loop_below v t k kl)
      where
        h : ℕ
        h = l.header k

        address : node_address v (number_in_place nodes i) ≡ h
        address = ap (node_address v) at_header ∙ sym (header_address v t k kl)

        start : (u : ℕ) → Some h ≡ Some u → l.inside k u ≡ true
        start u same = subst (λ a. l.inside k a ≡ true) (same_Some h u same) (header_inside k kl)

  -- the place of a header in its body
  pub header_place : (k : ℕ) (nodes spots : List ℕ) → k < length t.headers → IsBodyOf v t k nodes → ((i : ℕ) → i < length nodes → number_in_place spots (number_in_place nodes i) ≡ i) →
      (number_in_place spots (number_in_place t.headers k) < length nodes) × (number_in_place nodes (number_in_place spots (number_in_place t.headers k)) ≡ number_in_place t.headers k)
  header_place k nodes spots kl body each =
      let hl = header_number v t is.extent is.tree k kl in
      let i = body.whole (number_in_place t.headers k) hl (subst (λ a. l.inside k a ≡ true) (header_address v t k kl) (header_inside k kl)) in
      let place : number_in_place spots (number_in_place t.headers k) ≡ i.0 = ap (number_in_place spots) (sym i.2) ∙ each i.0 i.1 in
      let il = i.1 in
      ((let r : number_in_place spots (number_in_place t.headers k) < length nodes = omega arith in r), ap (number_in_place nodes) place ∙ i.2)

  pub header_spot : (k : ℕ) (nodes spots : List ℕ) (h x : ℕ) → k < length t.headers → IsBodyOf v t k nodes → ArePlacesIn nodes spots → length spots ≡ length v.code.nodes → slice_get t.headers k ≡ Some h → x ≡ slice_index_or spots h x → (x < length nodes) × (number_in_place nodes x ≡ number_in_place t.headers k)
  header_spot k nodes spots h x kl body are size at is_x =
      let here : number_in_place t.headers k ≡ h = get_or_from_slice_get t.headers k h 0 at in
      let hl = header_number v t is.extent is.tree k kl in
      let sl : h < length spots = omega arith in
      let value : number_in_place spots h ≡ x = get_or_from_slice_get spots h x 0 (slice_get-get_or spots h x sl ∙ ap Some (sym is_x)) in
      let place = header_place k nodes spots kl body are.each in
      let same : number_in_place spots (number_in_place t.headers k) ≡ x = ap (number_in_place spots) here ∙ value in
      let low = place.0 in
      ((let r : x < length nodes = omega arith in r), ap (number_in_place nodes) (sym same) ∙ place.1)

  -- ---- the order of headers

  -- from the header on, a plain path into a body
  from_header : (k : ℕ) → k < length t.headers → (es : List ℕ) (p : Option ℕ) (u : ℕ) → IsAtHeader l k p → IsPlainPath g l p es → end_of g p es ≡ Some u → l.inside k u ≡ true →
      (xs : List ℕ) × IsPlainPath g l (Some (l.header k)) xs × (end_of g (Some (l.header k)) xs ≡ Some u)
  from_header k kl [] p u at path ends in_u =
      let r : is_round l k p ≡ true = subst (λ o. is_round l k o ≡ true) (sym ends) in_u in
      ([], tt, sym (at r) ∙ ends)
  from_header k kl (e ∷ es) p u at path ends in_u = go (is_round l k p) refl
      (λ out. from_header k kl es (g.target e) u (step_at_header g l is.extent is.flow.program (accepted_entered is.tree.accepted) e k path.0 (loop_below v t k kl) out) path.3 ends in_u)
    where
      go : (b : Bool) → is_round l k p ≡ b →
          (l.inside k (g.source e) ≡ false → (xs : List ℕ) × IsPlainPath g l (Some (l.header k)) xs × (end_of g (Some (l.header k)) xs ≡ Some u)) →
          (xs : List ℕ) × IsPlainPath g l (Some (l.header k)) xs × (end_of g (Some (l.header k)) xs ≡ Some u)
      go true r ih = (e ∷ es, (path.0, sym (at r) ∙ path.1, path.2, path.3), ends)
      go false r ih = ih (subst (λ o. is_round l k o ≡ false) path.1 r)

  place_of : (a : ℕ) → ((k : ℕ) × (slice_get v.code.nodes k ≡ Some a)) → (i : ℕ) × IsAtPlace v t.order i a
  place_of a node =
      let kl = slice_get_within v.code.nodes node.0 a node.1 in
      let p = is.tree.order.whole node.0 kl in
      (p.0, (node.0, p.1, node.1))

  one_place : (a i j : ℕ) → IsAtPlace v t.order i a → IsAtPlace v t.order j a → i ≡ j
  one_place a i j p q =
      let same : p.0 ≡ q.0 = one_number v is.flow p.0 q.0 a p.2 q.2 in
      is.tree.order.once i j q.0 (p.1 ∙ ap Some same) q.1

  ascends : (es : List ℕ) (p : Option ℕ) (a b i j : ℕ) → p ≡ Some a → IsPlainPath g l p es → end_of g p es ≡ Some b → IsAtPlace v t.order i a → IsAtPlace v t.order j b → i ≤ j
  ascends [] p a b i j at path ends at_i at_j =
      let same : a ≡ b = same_Some a b (sym at ∙ ends) in
      let eq : i ≡ j = one_place b i j (subst (IsAtPlace v t.order i) same at_i) at_j in
      omega arith
  ascends (e ∷ es) p a b i j at path ends at_i at_j = go (g.target e) refl (λ u m to at_m. ascends es (g.target e) u b m j to path.3 ends at_m at_j)
    where
      source : g.source e ≡ a
      source = same_Some (g.source e) a (sym path.1 ∙ at)

      nowhere : (xs : List ℕ) → IsPlainPath g l None xs → end_of g None xs ≡ Some b → ⊥
      nowhere [] walk to = none-some b to
      nowhere (x ∷ xs) walk to = none-some (g.source x) walk.1

      go : (o : Option ℕ) → g.target e ≡ o → ((u m : ℕ) → g.target e ≡ Some u → IsAtPlace v t.order m u → m ≤ j) → i ≤ j
      go None to ih = absurd (nowhere es (subst (λ o. IsPlainPath g l o es) to path.3) (subst (λ o. end_of g o es ≡ Some b) to ends))
      go (Some u) to ih =
          let node = (is.flow.nodes u).1 (is.flow.program.stays e u path.0 to).0 in
          let m = place_of u node in
          let rises = is.tree.order.before e i m.0 u path.0 path.2 to (subst (IsAtPlace v t.order i) (sym source) at_i) m.1 in
          let more = ih u m.0 to m.1 in
          omega arith

  -- the header of a loop stands before those of the loops within it
  pub headers_ascend : (k j i p : ℕ) → k < length t.headers → j < length t.headers → IsInner v t k j → slice_get t.order i ≡ Some (number_in_place t.headers k) → slice_get t.order p ≡ Some (number_in_place t.headers j) → i < p
  headers_ascend k j i p kl jl inner at_k at_j =
      let node = body_node g l is.extent is.flow.program (accepted_entered is.tree.accepted) j (l.header j) (loop_below v t j jl) (header_inside j jl) in
      let way = plain_from_entry g l is.extent is.flow.program is.tree.accepted node.0 node.1 in
      let start = g.entry (g.owner (g.source node.0)) in
      let suffix = from_header k kl way.0 (Some start) (l.header j) (entry_at_header g l is.extent is.flow.program (accepted_entered is.tree.accepted) (g.owner (g.source node.0)) k (is.flow.program.owner_function node.0 node.1) (loop_below v t k kl))
      way.1 (way.2 ∙ ap Some node.2) inner.1 in
      let le : i ≤ p = ascends suffix.0 (Some (l.header k)) (l.header k) (l.header j) i p refl suffix.1 suffix.2 (place k i kl at_k) (place j p jl at_j) in
      ⊎_elim
      (λ (same : i ≡ p).
      let one : number_in_place t.headers k ≡ number_in_place t.headers j = same_Some (number_in_place t.headers k) (number_in_place t.headers j) (sym at_k ∙ ap (slice_get t.order) same ∙ at_j) in
      absurd (inner.0 (one_header v t is.extent j k is.flow is.tree jl kl (header_address v t j jl ∙ ap (node_address v) (sym one) ∙ sym (header_address v t k kl)))))
      (λ (other : i ≢ p). let r : i < p = omega arith in r)
      (same_or i p)
    where
      place : (m q : ℕ) → m < length t.headers → slice_get t.order q ≡ Some (number_in_place t.headers m) → IsAtPlace v t.order q (l.header m)
      place m q ml at = (number_in_place t.headers m, at, slice_get-get_or v.code.nodes (number_in_place t.headers m) 0 (header_number v t is.extent is.tree m ml) ∙ ap Some (sym (header_address v t m ml)))

  -- ---- the loops of a function, by the places of their headers

  module _ (heads keys : List (Option ℕ)) (f : ℕ) (are : AreHeaderLoops t heads) (key : AreHeaderKeys v t.order heads (length t.order) keys) where
    -- the loop at the place of a key
    pub loop_at : (i : ℕ) → HasKey keys i f → (k : ℕ) × (option_at heads (number_in_place t.order i) ≡ Some k) × (k < length t.headers) × (slice_get t.order i ≡ Some (number_in_place t.headers k)) × (loop_owner v t k ≡ f)
    loop_at i has =
        let at = key_is v t.order heads keys i f key has in
        let header : slice_get t.headers at.0 ≡ Some (number_in_place t.order i) = are.some (number_in_place t.order i) at.0 at.2 in
        let kl = slice_get_within t.headers at.0 (number_in_place t.order i) header in
        let number : number_in_place t.headers at.0 ≡ number_in_place t.order i = get_or_from_slice_get t.headers at.0 (number_in_place t.order i) 0 header in
        (at.0, at.2, kl, slice_get-get_or t.order i 0 at.1 ∙ ap Some (sym number), ap g.owner (address_of_header v t (number_in_place t.order i) at.0 header) ∙ at.3)

    -- as it is read from an order that is the same
    module _ (order : List ℕ) (order_is : order ≡ t.order) (heads_size : length heads ≡ length v.code.nodes) (i : ℕ) (has : HasKey keys i f) where
      pub place_below : i < length t.order
      place_below = slice_get_within t.order i (number_in_place t.headers (loop_at i has).0) (loop_at i has).3

      number_same : number_in_place order i ≡ number_in_place t.order i
      number_same = ap (λ (xs : List ℕ). number_in_place xs i) order_is

      pub number_low : number_in_place order i < length heads
      number_low =
          let low = is.tree.order.within i (number_in_place t.order i) (slice_get-get_or t.order i 0 place_below) in
          let same = number_same in
          omega arith

      read : (o : Option ℕ) → o ≡ slice_index_or heads (number_in_place order i) o → option_at heads (number_in_place t.order i) ≡ o
      read o is_o = ap (option_at heads) (sym number_same) ∙ get_or_from_slice_get heads (number_in_place order i) o None (slice_get-get_or heads (number_in_place order i) o number_low ∙ ap Some (sym is_o))

      pub loop_none : (o : Option ℕ) → o ≡ slice_index_or heads (number_in_place order i) o → o ≡ None → ⊥
      loop_none o is_o none = none-some (loop_at i has).0 (sym none ∙ sym (read o is_o) ∙ (loop_at i has).1)

      pub loop_is : (o : Option ℕ) (k : ℕ) → o ≡ slice_index_or heads (number_in_place order i) o → o ≡ Some k → (k < length t.headers) × (slice_get t.order i ≡ Some (number_in_place t.headers k)) × (loop_owner v t k ≡ f)
      loop_is o k is_o some =
          let at = loop_at i has in
          let same : at.0 ≡ k = same_Some at.0 k (sym at.1 ∙ read o is_o ∙ some) in
          (subst (λ j. j < length t.headers) same at.2, at.3 ∙ ap (λ j. Some (number_in_place t.headers j)) same, ap (loop_owner v t) (sym same) ∙ at.4)

    -- and a key at the place of a loop's header
    pub key_at : (k i : ℕ) → k < length t.headers → loop_owner v t k ≡ f → slice_get t.order i ≡ Some (number_in_place t.headers k) → HasKey keys i f
    key_at k i kl own at =
        let il = slice_get_within t.order i (number_in_place t.headers k) at in
        let number : number_in_place t.order i ≡ number_in_place t.headers k = get_or_from_slice_get t.order i (number_in_place t.headers k) 0 at in
        let header : slice_get t.headers k ≡ Some (number_in_place t.order i) = slice_get-get_or t.headers k 0 kl ∙ ap Some (sym number) in
        go il header (option_at heads (number_in_place t.order i)) refl
      where
        go : i < length t.order → slice_get t.headers k ≡ Some (number_in_place t.order i) → (o : Option ℕ) → option_at heads (number_in_place t.order i) ≡ o → HasKey keys i f
        go il header None none = absurd (are.none (number_in_place t.order i) k none header)
        go il header (Some j) some =
            let other : slice_get t.headers j ≡ Some (number_in_place t.order i) = are.some (number_in_place t.order i) j some in
            let owner : g.owner (node_address v (number_in_place t.order i)) ≡ f = ap g.owner (sym (address_of_header v t (number_in_place t.order i) k header)) ∙ own in
            key_of v t.order heads keys i j f key il some owner

    -- a place behind that of the next one is behind those that are done
    pub behind_next : (from i p : ℕ) (o : Option ℕ) → IsLastBelow keys from f o → o ≡ Some i → i < p → HasKey keys p f → from ≤ p
    behind_next from i p o last at lt has = ⊎_elim
        (λ (low : p < from).
        let top = last.greatest p low has in
        let same : top.0 ≡ i = same_Some top.0 i (sym top.1 ∙ at) in
        let le = top.2 in
        let bad : ⊥ = omega arith in absurd bad)
        (λ (high : from ≤ p). high)
        (cases_lt p from)

    -- the loops within one at the next place are done
    pub inner_done : (from i k : ℕ) (o : Option ℕ) (found : List ℕ) → IsLastBelow keys from f o → o ≡ Some i → k < length t.headers → loop_owner v t k ≡ f → slice_get t.order i ≡ Some (number_in_place t.headers k) → AreChargedTo v t n (IsHeaderFrom v t f from) found → AreChargedTo v t n (IsInner v t k) found
    inner_done from i k o found last at kl own place charged j jl inner =
        let owner : loop_owner v t j ≡ f = body_owner k (l.header j) kl inner.1 ∙ own in
        let p = is.tree.order.whole (number_in_place t.headers j) (header_number v t is.extent is.tree j jl) in
        let later = headers_ascend k j i p.0 kl jl inner place p.1 in
        charged j jl (owner, (p.0, behind_next from i p.0 o last at later (key_at j p.0 jl owner p.1), p.1))

    -- one loop more
    pub charged_more : (from i k x : ℕ) (o : Option ℕ) (found : List ℕ) → IsLastBelow keys from f o → o ≡ Some i → k < length t.headers → length found ≡ length t.headers → slice_get t.order i ≡ Some (number_in_place t.headers k) → x ≡ loop_charge v t n k → AreChargedTo v t n (IsHeaderFrom v t f from) found →
        AreChargedTo v t n (IsHeaderFrom v t f i) (slice_set found k x)
    charged_more from i k x o found last at kl size place is_x charged j jl done = ⊎_elim
        (λ (same : j ≡ k). ap (number_in_place (slice_set found k x)) same ∙ get_or-set_same found k x 0 (omega arith) ∙ is_x ∙ ap (loop_charge v t n) (sym same))
        (λ (other : j ≢ k).
        get_or-set_other found k j x 0 other ∙ charged j jl (done.0, (done.1.0, behind_next from i done.1.0 o last at (later other) (key_at j done.1.0 jl done.0 done.1.2), done.1.2)))
        (same_or j k)
      where
        later : j ≢ k → i < done.1.0
        later other = ⊎_elim
            (λ (same : done.1.0 ≡ i).
            let one : number_in_place t.headers j ≡ number_in_place t.headers k = same_Some (number_in_place t.headers j) (number_in_place t.headers k) (sym done.1.2 ∙ ap (slice_get t.order) same ∙ place) in
            absurd (other (one_header v t is.extent j k is.flow is.tree jl kl (header_address v t j jl ∙ ap (node_address v) one ∙ sym (header_address v t k kl)))))
            (λ (apart : done.1.0 ≢ i). let le : i ≤ done.1.0 = done.1.1 in let r : i < done.1.0 = omega arith in r)
            (same_or done.1.0 i)

    -- all are done
    pub charged_all : (from : ℕ) (o : Option ℕ) (found : List ℕ) → IsLastBelow keys from f o → o ≡ None → AreChargedTo v t n (IsHeaderFrom v t f from) found → AreChargedTo v t n (λ k. loop_owner v t k ≡ f) found
    charged_all from o found last none charged j jl own =
        let p = is.tree.order.whole (number_in_place t.headers j) (header_number v t is.extent is.tree j jl) in
        charged j jl (own, (p.0, above p.0 (key_at j p.0 jl own p.1), p.1))
      where
        above : (p : ℕ) → HasKey keys p f → from ≤ p
        above p has = ⊎_elim
            (λ (low : p < from). let top = last.greatest p low has in absurd (none-some top.0 (sym none ∙ top.1)))
            (λ (high : from ≤ p). high)
            (cases_lt p from)

-- ---- a function's edges

module _ (v : FlowGraph) (t : LoopView) (w : ℕ → ℕ) (n : Charged) (is : IsCharging v t w n) (f : ℕ) where
  -- the loops that an edge of a function enters are of the function
  pub into_owner : (e j : ℕ) → e < length v.code.edges → (graph v).owner ((graph v).source e) ≡ f → IsInto v t e j → loop_owner v t j ≡ f
  into_owner e j el own into = (is.flow.program.stays e ((loops v t).header j) el into.1).1 ∙ own

  -- what an edge costs with its charge
  pub cost_found : (returns exits : List (Option ℕ)) (bucket costs : List ℕ) (lasts : List Bool) (charges : Charges) → IsBucket v f bucket → ArePriced v w returns exits (IsFromFirst v bucket (length bucket)) costs lasts →
      AreEnteredLoops v t (length v.code.edges) charges.entries.items → AreChargedTo v t n (λ k. loop_owner v t k ≡ f) charges.found.items →
      (e : ℕ) → e < length v.code.edges → (graph v).owner ((graph v).source e) ≡ f → cost_with costs charges e ≡ least_cost (graph v) (own_by v t w n) (least_by v returns exits []) e
  cost_found returns exits bucket costs lasts charges bucket_is priced entered charged e el own =
      let price : number_in_place costs e ≡ least_cost (graph v) w (least_by v returns exits []) e = priced.cost e el (from_first v f bucket e is.flow bucket_is el own) in
      let charge : charge_by charges.entries.items charges.found.items e ≡ charge_of (graph v) (loops v t) n e = charge_known v t w n is (λ k. loop_owner v t k ≡ f) charges.entries.items charges.found.items e entered charged el (λ j into. into_owner e j el own into) in
      omega arith

  -- the loops of one function more
  pub charged_next : (i : ℕ) (old found : List ℕ) → slice_get v.order i ≡ Some f → AreChargedTo v t n (λ k. IsBefore v i (loop_owner v t k)) old → AreChargedTo v t n (λ k. loop_owner v t k ≡ f) found →
      ((k : ℕ) → k < length t.headers → loop_owner v t k ≢ f → number_in_place found k ≡ number_in_place old k) → AreChargedTo v t n (λ k. IsBefore v (i + 1) (loop_owner v t k)) found
  charged_next i old found at before now others k kl done = ⊎_elim
      (λ (early : IsBefore v i (loop_owner v t k)). others k kl (λ same. not_before v i f is.flow at (subst (IsBefore v i) same early)) ∙ before k kl early)
      (λ (same : loop_owner v t k ≡ f). now k kl same)
      (next_before v i f (loop_owner v t k) at done)

-- all loops are those of functions
pub charged_whole : (v : FlowGraph) (t : LoopView) (w : ℕ → ℕ) (n : Charged) → IsCharging v t w n → (found : List ℕ) → AreChargedTo v t n (λ k. IsBefore v (length v.order) (loop_owner v t k)) found → AreChargedTo v t n (λ k. IsAnyFunction k) found
charged_whole v t w n is found charged k kl any =
    charged k kl (all_before v (loop_owner v t k) is.flow (subst (λ a. (graph v).owner a < length v.code.functions) (sym (header_address v t k kl)) (owner_below v (number_in_place t.headers k) is.flow (header_number v t is.extent is.tree k kl))))
