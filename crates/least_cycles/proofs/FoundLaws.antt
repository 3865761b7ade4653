-- The least numbers of a program, found as lists.
use Rattle.std.proofs.Common.{◌≡◌, ℕ, zero, suc, ◌+◌, ◌^◌, ◌<◌, ◌≤◌, Bool, List, [], ◌∷◌, ◌++◌, length, length-append, slice_get, option_map, Option, Some, None, refl, sym, ap, ◌∙◌, subst, arith, ⊎_elim}
use Rattle.std.proofs.lemmas.Bool.{cases_lt}
use Rattle.std.proofs.lemmas.List.{ext_get_or}
use Rattle.std.proofs.lemmas.Option.{slice_get_within, slice_get-get_or, get_or_from_slice_get, same_Some, none-some}
use Rattle.graph_algorithms.specs.Arcs.{number_in_place}
use Rattle.cost_theory.specs.Graph.{Graph, Loops}
use Rattle.cost_theory.specs.Accepted.{AreWeights}
use Rattle.cost_theory.specs.Least.{Least, IsLeastIfAny, IsWay, way_cost}
use Rattle.flow_graph.specs.FlowGraph.{FlowGraph, graph, IsFlowGraph}
use Rattle.loop_forest.specs.Noted.{node_address}
use Rattle.loop_forest.specs.Tree.{LoopView, loops, IsLoopTree}
use Rattle.cycle_laws.specs.Charged.{Charged, AreCharged, charge_of, end_behind, to_end_after}
use Rattle.cycle_laws.specs.LeastLaws.{HaveFewTrips}
use Rattle.cycle_laws.proofs.Laws.{charged_exist}
use Rattle.least_cycles.specs.declared.charges.Charges.{Charges}
use Rattle.least_cycles.specs.Hops.{number_in_table}
use Rattle.least_cycles.specs.Tables.{least_by, AreWalksOf, IsAnyFunction}
use Rattle.least_cycles.specs.Charging.{own_by, IsCharging, HasCharging, HasWalks, charge_by, AreCharges, AreChargedTo}
use Rattle.least_cycles.specs.Ends.{AreBehind, AreSmallWalks, end_place}
use Rattle.least_cycles.specs.Found.{HasWorstInRange, IsLeastOf, AreSmallLeast, AreOwn, AreEndsTo, AreAfterTo, plus_charge}
use Rattle.least_cycles.proofs.ChargedLaws.{IsNumbered}
use Rattle.least_cycles.proofs.Within.{charge_within, trips_within, turn_worst}
use Rattle.least_cycles.proofs.Bounds.{limits_hold}
use Rattle.least_cycles.proofs.TableLaws.{at_number}
use Rattle.least_cycles.proofs.PriceLaws.{owner_below}
use Rattle.least_cycles.proofs.WalkLaws.{all_before}
use Rattle.least_cycles.proofs.AgreeLaws.{all_same}
use Rattle.least_cycles.proofs.TurnLaws.{loop_below}
use Rattle.least_cycles.proofs.LoopLaws.{charge_known}
use Rattle.least_cycles.proofs.ChargeLaws.{charge_low, small_charges}
use Rattle.least_cycles.proofs.EndLaws.{end_low, low_behind, least_numbers}

push_before : {A : Type 0} (xs : List A) (x : A) (i : ℕ) → i < length xs → slice_get (xs ++ x ∷ []) i ≡ slice_get xs i
push_before [] x i lt = let bad : ⊥ = omega arith in absurd bad
push_before (y ∷ ys) x zero lt = refl
push_before (y ∷ ys) x (suc i) lt = push_before ys x i (omega arith)

push_last : {A : Type 0} (xs : List A) (x : A) → slice_get (xs ++ x ∷ []) (length xs) ≡ Some x
push_last [] x = refl
push_last (y ∷ ys) x = push_last ys x

pub ends_more : (v : FlowGraph) (n : Least) (k : ℕ) (ends : List (Option ℕ)) (o : Option ℕ) → AreEndsTo v n k ends → o ≡ n.to_end (node_address v k) → k < length v.code.nodes → AreEndsTo v n (k + 1) (ends ++ o ∷ [])
ends_more v n k ends o are is kl = record {
  size = let s = are.size in let a : length (ends ++ o ∷ []) ≡ length ends + 1 = length-append ends (o ∷ []) in omega arith;
  each = λ j at jl node. ⊎_elim
      (λ (low : j < k). push_before ends o j (let s = are.size in omega arith) ∙ are.each j at low node)
      (λ (high : k ≤ j).
      let s = are.size in
      let last : j ≡ length ends = omega arith in
      let same : j ≡ k = omega arith in
      let here : node_address v k ≡ at = same_Some (node_address v k) at (sym (slice_get-get_or v.code.nodes k 0 kl) ∙ ap (slice_get v.code.nodes) (sym same) ∙ node) in
      ap (slice_get (ends ++ o ∷ [])) last ∙ push_last ends o ∙ ap Some (is ∙ ap n.to_end here))
      (cases_lt j k);
}

module _ (v : FlowGraph) (n : Least) (charge : ℕ → ℕ) where
  pub after_more : (e : ℕ) (after : List (Option ℕ)) (o : Option ℕ) → AreAfterTo v n charge e after → o ≡ plus_charge (charge e) (end_place n ((graph v).target e)) → AreAfterTo v n charge (e + 1) (after ++ o ∷ [])
  after_more e after o are is = record {
    size = let s = are.size in let a : length (after ++ o ∷ []) ≡ length after + 1 = length-append after (o ∷ []) in omega arith;
    each = λ d dl. ⊎_elim
        (λ (low : d < e). push_before after o d (let s = are.size in omega arith) ∙ are.each d low)
        (λ (high : e ≤ d).
        let s = are.size in
        let last : d ≡ length after = omega arith in
        let same : d ≡ e = omega arith in
        ap (slice_get (after ++ o ∷ [])) last ∙ push_last after o ∙ ap Some (is ∙ ap (λ x. plus_charge (charge x) (end_place n ((graph v).target x))) (sym same)))
        (cases_lt d e);
  }

pub end_small : (n : Least) (most : ℕ) → ((a x : ℕ) → n.to_end a ≡ Some x → x ≤ most) → (p o : Option ℕ) → o ≡ end_place n p → (x : ℕ) → o ≡ Some x → x ≤ most
end_small n most low None o is x at = absurd (none-some x (sym is ∙ at))
end_small n most low (Some u) o is x at = low u x (sym is ∙ at)

pub own_is : (v : FlowGraph) (weights own : List ℕ) → length weights ≡ length v.code.edges → AreOwn (length v.code.edges) weights own → own ≡ weights
own_is v weights own size are = ext_get_or 0 own weights (are.size ∙ sym size) (λ i il. are.each i (let s = are.size in omega arith))

-- ---- the numbers exist

pub has_charging : (v : FlowGraph) (t : LoopView) (extent : ℕ → ℕ → Bool) (weights own : List ℕ) → IsFlowGraph v → IsLoopTree v extent t → length weights ≡ length v.code.edges → AreWeights (graph v) (number_in_place weights) → HasWorstInRange v (loops v t) (number_in_place weights) → AreOwn (length v.code.edges) weights own → HasCharging v t (number_in_place own)
has_charging v t extent weights own flow tree size calls solved mine = subst (λ (xs : List ℕ). HasCharging v t (number_in_place xs)) (sym (own_is v weights own size mine)) (exist.0, charging)
  where
    exist : (n : Charged) × AreCharged (graph v) (loops v t) (number_in_place weights) n
    exist = charged_exist (graph v) (loops v t) extent (number_in_place weights) flow.program tree.accepted

    numbered : IsNumbered (graph v) (loops v t) extent (number_in_place weights) exist.0
    numbered = record { program = flow.program; accepted = tree.accepted; weights = calls; numbers = exist.1 }

    few : HaveFewTrips (loops v t)
    few k kl = tree.trips k

    charging : IsCharging v t (number_in_place weights) exist.0
    charging = record {
      flow = flow;
      extent = extent;
      tree = tree;
      numbers = exist.1;
      limit = solved.0.worst;
      limits = limits_hold (graph v) (loops v t) extent (number_in_place weights) solved.0 (record { program = flow.program; accepted = tree.accepted; weights = calls; numbers = solved.1 }) solved.2 (own_by v t (number_in_place weights) exist.0)
          (λ e el. let low = charge_within (graph v) (loops v t) extent (number_in_place weights) exist.0 solved.0 numbered solved.1 few e el in omega arith);
      turns = λ k kl turning. let low = turn_worst (graph v) (loops v t) extent (number_in_place weights) exist.0 solved.0 numbered solved.1 few k (loop_below v t k kl) turning in let top = solved.2 in omega arith;
      charges = λ k kl. let low = trips_within (graph v) (loops v t) extent (number_in_place weights) exist.0 solved.0 numbered solved.1 few k (loop_below v t k kl) in let top = solved.2 in omega arith;
    }

-- small numbers, of which there is one for each node
pub small_found : (v : FlowGraph) (t : LoopView) (w : ℕ → ℕ) (returns exits : List (Option ℕ)) → HasCharging v t w → HasWalks v t w IsAnyFunction returns exits → AreSmallWalks v returns exits
small_found v t w returns exits exist walks =
    let are = walks exist.0 exist.1 in
    record { returns_size = are.returns_size; exits_size = are.exits_size; small_return = are.small_return; small_exit = are.small_exit }

-- ---- and are found

module _ (v : FlowGraph) (t : LoopView) (w : ℕ → ℕ) (charges : Charges) (returns exits behind ends after : List (Option ℕ)) (n : Charged) (is : IsCharging v t w n) (few : length v.code.functions ≤ 131072)
    (walks : HasWalks v t w IsAnyFunction returns exits) (are : AreCharges v t charges) (charged : AreChargedTo v t n (λ k. IsAnyFunction k) charges.found.items) (done : AreBehind v returns exits 0 behind)
    (nodes : AreEndsTo v (least_by v returns exits behind) (length v.code.nodes) ends) (edges : AreAfterTo v (least_by v returns exits behind) (charge_by charges.entries.items charges.found.items) (length v.code.edges) after) where
  abbrev g : Graph
  g = graph v

  abbrev l : Loops
  l = loops v t

  abbrev numbers : Least
  numbers = least_by v returns exits behind

  walks_are : AreWalksOf v (own_by v t w n) is.limit IsAnyFunction returns exits
  walks_are = walks n is

  same : (a : ℕ) → (numbers.to_return a ≡ n.least.to_return a) × (numbers.to_exit a ≡ n.least.to_exit a)
  same = all_same v t w n is returns exits (record {
    returns_size = walks_are.returns_size;
    exits_size = walks_are.exits_size;
    to_return = λ k kl before. walks_are.to_return k kl tt;
    to_exit = λ k kl before. walks_are.to_exit k kl tt;
    low_return = walks_are.low_return;
    low_exit = walks_are.low_exit;
    small_return = walks_are.small_return;
    small_exit = walks_are.small_exit;
  }) (λ h hl. all_before v h is.flow hl) (λ k kl. owner_below v k is.flow kl)

  -- the same numbers with the ends that are found
  abbrev whole : Charged
  whole = record { least = record { to_return = n.least.to_return; to_exit = n.least.to_exit; to_end = numbers.to_end }; turn = n.turn; closing = n.closing }

  abbrev Ends : ℕ → Option ℕ → Option ℕ → Type 0
  Ends a r x = IsLeastIfAny (IsWay g (record { to_return = λ b. r; to_exit = λ b. x; to_end = numbers.to_end }) a) (way_cost g (record { to_return = λ b. r; to_exit = λ b. x; to_end = numbers.to_end }) a) (numbers.to_end a)

  ends_are : (a : ℕ) → IsLeastIfAny (IsWay g whole.least a) (way_cost g whole.least a) (numbers.to_end a)
  ends_are a =
      let least : Ends a (numbers.to_return a) (numbers.to_exit a) = (least_numbers v (own_by v t w n) is.limit returns exits behind is.flow walks_are done).to_end a in
      let one : Ends a (n.least.to_return a) (numbers.to_exit a) = subst (λ r. Ends a r (numbers.to_exit a)) (same a).0 least in
      subst (λ x. Ends a (n.least.to_return a) x) (same a).1 one

  charge_is : (e : ℕ) → e < length v.code.edges → charge_by charges.entries.items charges.found.items e ≡ charge_of g l n e
  charge_is e el = charge_known v t w n is (λ k. IsAnyFunction k) charges.entries.items charges.found.items e are.entered charged el (λ j into. tt)

  behind_is : (e : ℕ) → e < length v.code.edges → plus_charge (charge_by charges.entries.items charges.found.items e) (end_place numbers (g.target e)) ≡ to_end_after g l whole e
  behind_is e el = ap (λ c. plus_charge c (end_place numbers (g.target e))) (charge_is e el) ∙ place (g.target e) (charge_of g l n e)
    where
      number : (o : Option ℕ) (c : ℕ) → plus_charge c o ≡ option_map (λ z. z + c) o
      number None c = refl
      number (Some z) c = refl

      place : (p : Option ℕ) (c : ℕ) → plus_charge c (end_place numbers p) ≡ end_behind whole p c
      place None c = refl
      place (Some u) c = number (numbers.to_end u) c

  pub found : IsLeastOf v (loops v t) w (record { returns = returns; ends = ends; after = after })
  found = (
    whole,
    record { to_return = is.numbers.to_return; to_exit = is.numbers.to_exit; to_end = ends_are; closing = is.numbers.closing; turn = is.numbers.turn },
    record {
      to_return = λ k at node. get k returns (let s = walks_are.returns_size in let b = slice_get_within v.code.nodes k at node in omega arith) ∙ ap Some (sym (at_number v is.flow returns k at node) ∙ (same at).0);
      to_end = λ k at node. nodes.each k at (slice_get_within v.code.nodes k at node) node;
      after = λ e el. edges.each e el ∙ ap Some (behind_is e el);
    },
  )
    where
      get : (k : ℕ) (xs : List (Option ℕ)) → k < length xs → slice_get xs k ≡ Some (number_in_table xs k)
      get k xs lt = slice_get-get_or xs k None lt

  pub small : AreSmallLeast v (record { returns = returns; ends = ends; after = after })
  small = record {
    returns_size = walks_are.returns_size;
    ends_size = nodes.size;
    after_size = edges.size;
    returns = λ k z at. let low = walks_are.small_return k z (get_or_from_slice_get returns k (Some z) None at) in omega arith;
    ends = λ k z at.
        let kl = slice_get_within ends k (Some z) at in
        let s = nodes.size in
        let nl : k < length v.code.nodes = omega arith in
        let low = within (node_address v k) z (same_option (numbers.to_end (node_address v k)) (Some z) (sym (nodes.each k (node_address v k) nl (slice_get-get_or v.code.nodes k 0 nl)) ∙ at)) in omega arith;
    after = λ e z at.
        let kl = slice_get_within after e (Some z) at in
        let s = edges.size in
        let el : e < length v.code.edges = omega arith in
        behind_edge (charge_by charges.entries.items charges.found.items e) (charge_low v charges (small_charges v t charges are) e) (g.target e) z (same_option (plus_charge (charge_by charges.entries.items charges.found.items e) (end_place numbers (g.target e))) (Some z) (sym (edges.each e el) ∙ at));
  }
    where
      small_are : AreSmallWalks v returns exits
      small_are = record { returns_size = walks_are.returns_size; exits_size = walks_are.exits_size; small_return = walks_are.small_return; small_exit = walks_are.small_exit }

      same_option : (a b : Option ℕ) → Some a ≡ Some b → a ≡ b
      same_option a b e = let r : a ≡ b = cc in r

      within : (a z : ℕ) → numbers.to_end a ≡ Some z → z ≤ 2 ^ 67 + 2 ^ 84
      within a z at = end_low v returns exits behind (2 ^ 84) small_are (low_behind v returns exits behind 0 is.flow few done) a z at

      charged_low : (c : ℕ) → c ≤ 2 ^ 48 → (o : Option ℕ) → ((x : ℕ) → o ≡ Some x → x ≤ 2 ^ 67 + 2 ^ 84) → (z : ℕ) → plus_charge c o ≡ Some z → z < 2 ^ 89
      charged_low c low None small z at = absurd (none-some z at)
      charged_low c low (Some y) small z at = let sum : y + c ≡ z = same_Some (y + c) z at in let s = small y refl in omega arith

      behind_edge : (c : ℕ) → c ≤ 2 ^ 48 → (p : Option ℕ) (z : ℕ) → plus_charge c (end_place numbers p) ≡ Some z → z < 2 ^ 89
      behind_edge c low None z at = absurd (none-some z at)
      behind_edge c low (Some u) z at = charged_low c low (numbers.to_end u) (within u) z at
