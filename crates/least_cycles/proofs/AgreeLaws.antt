-- What stands in the tables for the functions that are done are the least cycles with charges.
use Rattle.std.proofs.Common.{◌≡◌, ℕ, zero, suc, ◌+◌, ◌<◌, ◌≤◌, ◌⊎◌, inl, inr, Bool, true, false, not, ◌&&◌, ◌||◌, List, [], ◌∷◌, length, slice_get, Option, Some, None, is_some, IsSome, refl, sym, ap, ◌∙◌, subst, arith, ⊎_elim}
use Rattle.std.proofs.lemmas.Option.{slice_get_within, same_Some}
use Rattle.cost_theory.specs.Graph.{Graph, total}
use Rattle.cost_theory.specs.Least.{Least, IsLeastIfAny, EndsWith, IsReturn, IsExit, least_call, least_cost}
use Rattle.cost_theory.specs.LeastTurns.{IsRun}
use Rattle.cost_theory.proofs.Laws.{and_left, and_right, and_both}
use Rattle.flow_graph.specs.FlowGraph.{FlowGraph, graph}
use Rattle.loop_forest.specs.Noted.{node_address}
use Rattle.loop_forest.proofs.Laws.{source_number}
use Rattle.loop_forest.specs.Tree.{LoopView, loops}
use Rattle.cycle_laws.specs.Charged.{Charged, calls_so, calls_exit, charged_cost, leads_on, ends_exit}
use Rattle.cycle_laws.proofs.Laws.{least_same}
use Rattle.least_cycles.specs.Hops.{number_in_table}
use Rattle.least_cycles.specs.Functions.{IsBucket, IsFromFirst}
use Rattle.least_cycles.specs.Tables.{value_beside, least_by, AreWalksOf, ArePriced, IsBefore}
use Rattle.least_cycles.specs.Charging.{own_by, IsCharging, ArePricedAt}
use Rattle.least_cycles.proofs.TableLaws.{at_number, beside_none, moved}
use Rattle.least_cycles.proofs.WalkLaws.{address_is, call_kept, callees_before, from_first}
use Rattle.least_cycles.proofs.EndLaws.{in_or_not}

-- ---- walks and runs

module _ (g : Graph) (Last : ℕ → Type 0) (last : ℕ → Bool) where
  pub walk_run : ((e : ℕ) → e < g.edges → Last e → last e ≡ true) → (es : List ℕ) (p : Option ℕ) → EndsWith g Last p es → IsRun g false last (leads_on g) p es
  walk_run to [] p walk = absurd walk
  walk_run to (e ∷ es) p walk = (
    walk.0,
    walk.1,
    ⊎_elim
        (λ (b : (es ≡ []) × Last e). inl (to e walk.0 b.1, b.0))
        (λ (b : IsSome (g.target e) × EndsWith g Last (g.target e) es). inr (b.0, walk_run to es (g.target e) b.1))
        walk.2,
  )

  pub run_walk : ((e : ℕ) → e < g.edges → last e ≡ true → Last e) → (es : List ℕ) (p : Option ℕ) → IsRun g false last (leads_on g) p es → EndsWith g Last p es
  run_walk back [] p run = let q : false ≡ true = run in let bad : ⊥ = cc in absurd bad
  run_walk back (e ∷ es) p run = (
    run.0,
    run.1,
    ⊎_elim
        (λ (b : (last e ≡ true) × (es ≡ [])). inl (b.1, back e run.0 b.0))
        (λ (b : (leads_on g e ≡ true) × IsRun g false last (leads_on g) (g.target e) es). inr (b.0, run_walk back es (g.target e) b.1))
        run.2,
  )

-- ---- exits

or_right : (a b : Bool) → b ≡ true → (a || b) ≡ true
or_right true b is = refl
or_right false b is = is

or_left : (a b : Bool) → a ≡ true → (a || b) ≡ true
or_left true b is = refl
or_left false b is = let bad : ⊥ = cc in absurd bad

or_either : (a b : Bool) → (a || b) ≡ true → (a ≡ true) ⊎ (b ≡ true)
or_either true b is = inl refl
or_either false b is = inr is

pub calls_so_at : (g : Graph) (n : Least) (e f : ℕ) → g.callee e ≡ Some f → calls_exit g n e ≡ is_some (n.to_exit (g.entry f))
calls_so_at g n e f calls = ap (λ (o : Option ℕ). calls_so o (λ h. is_some (n.to_exit (g.entry h)))) calls

pub calls_one : (g : Graph) (n : Least) (e : ℕ) → calls_exit g n e ≡ true → (f : ℕ) × (g.callee e ≡ Some f) × IsSome (n.to_exit (g.entry f))
calls_one g n e is = go (g.callee e) refl
  where
    go : (o : Option ℕ) → g.callee e ≡ o → (f : ℕ) × (g.callee e ≡ Some f) × IsSome (n.to_exit (g.entry f))
    go None at = let none : calls_exit g n e ≡ false = ap (λ (o : Option ℕ). calls_so o (λ h. is_some (n.to_exit (g.entry h)))) at in let bad : ⊥ = cc in absurd bad
    go (Some f) at = (f, at, sym (calls_so_at g n e f at) ∙ is)

pub exit_ends : (g : Graph) (n : Least) (e : ℕ) → IsExit g n e → ends_exit g n e ≡ true
exit_ends g n e (inl exit) = or_left (g.exits e) (not (is_some (g.target e)) && calls_exit g n e) exit
exit_ends g n e (inr call) = or_right (g.exits e) (not (is_some (g.target e)) && calls_exit g n e)
    (and_both (not (is_some (g.target e))) (calls_exit g n e) (ap (λ (o : Option ℕ). not (is_some o)) call.0) (calls_so_at g n e call.1.0 call.1.1 ∙ call.1.2))

pub ends_are : (g : Graph) (n : Least) (e : ℕ) → ends_exit g n e ≡ true → IsExit g n e
ends_are g n e is = ⊎_elim
    (λ (exit : g.exits e ≡ true). let r : IsExit g n e = inl exit in r)
    (λ (call : (not (is_some (g.target e)) && calls_exit g n e) ≡ true).
    let r : IsExit g n e = inr (none (g.target e) (and_left (not (is_some (g.target e))) (calls_exit g n e) call), calls_one g n e (and_right (not (is_some (g.target e))) (calls_exit g n e) call)) in r)
    (or_either (g.exits e) (not (is_some (g.target e)) && calls_exit g n e) is)
  where
    none : (o : Option ℕ) → not (is_some o) ≡ true → o ≡ None
    none None h = refl
    none (Some v) h = let bad : ⊥ = cc in absurd bad

-- ---- functions that are done

module _ (v : FlowGraph) (t : LoopView) (w : ℕ → ℕ) (n : Charged) (is : IsCharging v t w n) (i : ℕ) (returns exits : List (Option ℕ)) (are : AreWalksOf v (own_by v t w n) is.limit (IsBefore v i) returns exits) where
  abbrev g : Graph
  g = graph v

  abbrev tables : Least
  tables = least_by v returns exits []

  -- the tables have the numbers of a function's nodes, and of its entry
  abbrev pub SameFor : ℕ → Type 0
  SameFor f = (k : ℕ) → k < length v.code.nodes → g.owner (node_address v k) ≡ f → (number_in_table returns k ≡ n.least.to_return (node_address v k)) × (number_in_table exits k ≡ n.least.to_exit (node_address v k))

  abbrev pub SameAtEntry : ℕ → Type 0
  SameAtEntry f = (tables.to_return (g.entry f) ≡ n.least.to_return (g.entry f)) × (tables.to_exit (g.entry f) ≡ n.least.to_exit (g.entry f))

  entry_same : (f : ℕ) → f < length v.code.functions → SameFor f → SameAtEntry f
  entry_same f fl same =
      let k = (is.flow.nodes (g.entry f)).1 (is.flow.program.entry_node f fl) in
      let address : node_address v k.0 ≡ g.entry f = address_is v k.0 (g.entry f) k.1 in
      let here = same k.0 (slice_get_within v.code.nodes k.0 (g.entry f) k.1) (ap g.owner address ∙ is.flow.program.entry_owner f fl) in (
        at_number v is.flow returns k.0 (g.entry f) k.1 ∙ here.0 ∙ ap n.least.to_return address,
        at_number v is.flow exits k.0 (g.entry f) k.1 ∙ here.1 ∙ ap n.least.to_exit address,
      )

  -- the costs and exits of an edge, where those that it calls agree
  module _ (e : ℕ) (callees : (h : ℕ) → g.callee e ≡ Some h → SameAtEntry h) where
    pub call_same : (p : Option ℕ) → least_call g tables e p ≡ least_call g n.least e p
    call_same p = call_kept g tables n.least e p (λ h calls. (callees h calls).0) (λ h calls. (callees h calls).1)

    pub cost_same : least_cost g (own_by v t w n) tables e ≡ charged_cost g (loops v t) w n e
    cost_same = let call = call_same (g.target e) in omega arith

    pub exit_to : IsExit g tables e → IsExit g n.least e
    exit_to (inl exit) = inl exit
    exit_to (inr call) = inr (call.0, (call.1.0, call.1.1, subst (λ (o : Option ℕ). IsSome o) (callees call.1.0 call.1.1).1 call.1.2))

    pub exit_back : IsExit g n.least e → IsExit g tables e
    exit_back (inl exit) = inl exit
    exit_back (inr call) = inr (call.0, (call.1.0, call.1.1, subst (λ (o : Option ℕ). IsSome o) (sym (callees call.1.0 call.1.1).1) call.1.2))

  -- a function
  module _ (f : ℕ) (done : IsBefore v i f) (callees : (e h : ℕ) → e < length v.code.edges → g.owner (g.source e) ≡ f → g.callee e ≡ Some h → SameAtEntry h) where
    abbrev c : ℕ → ℕ
    c = least_cost g (own_by v t w n) tables

    abbrev d : ℕ → ℕ
    d = charged_cost g (loops v t) w n

    costs : (e : ℕ) → e < g.edges → g.owner (g.source e) ≡ f → c e ≡ d e
    costs e el here = cost_same e (λ h calls. callees e h el here calls)

    own_start : (a : ℕ) → g.owner a ≡ f → (u : ℕ) → Some a ≡ Some u → g.owner u ≡ f
    own_start a own u same = subst (λ x. g.owner x ≡ f) (same_Some a u same) own

    function_same : SameFor f
    function_same k kl own = (
      least_same (EndsWith g (IsReturn g) (Some a)) (IsRun g false g.returns (leads_on g) (Some a)) (total c) (total d) (number_in_table returns k) (n.least.to_return a)
          (λ es walk. let m = moved g is.flow.program f (IsReturn g) (IsReturn g) c d costs (λ e el at yes. yes) es (Some a) (own_start a own) walk in (walk_run g (IsReturn g) g.returns (λ e el yes. yes) es (Some a) m.0, m.1))
          (λ es run.
          let walk = run_walk g (IsReturn g) g.returns (λ e el yes. yes) es (Some a) run in
          let m = moved g is.flow.program f (IsReturn g) (IsReturn g) d c (λ e el at. sym (costs e el at)) (λ e el at yes. yes) es (Some a) (own_start a own) walk in (m.0, m.1))
          (are.to_return k kl before) (is.numbers.to_return a),
      least_same (EndsWith g (IsExit g tables) (Some a)) (IsRun g false (ends_exit g n.least) (leads_on g) (Some a)) (total c) (total d) (number_in_table exits k) (n.least.to_exit a)
          (λ es walk.
          let m = moved g is.flow.program f (IsExit g tables) (IsExit g n.least) c d costs (λ e el at yes. exit_to e (λ h calls. callees e h el at calls) yes) es (Some a) (own_start a own) walk in
          (walk_run g (IsExit g n.least) (ends_exit g n.least) (λ e el yes. exit_ends g n.least e yes) es (Some a) m.0, m.1))
          (λ es run.
          let walk = run_walk g (IsExit g n.least) (ends_exit g n.least) (λ e el yes. ends_are g n.least e yes) es (Some a) run in
          let m = moved g is.flow.program f (IsExit g n.least) (IsExit g tables) d c (λ e el at. sym (costs e el at)) (λ e el at yes. exit_back e (λ h calls. callees e h el at calls) yes) es (Some a) (own_start a own) walk in (m.0, m.1))
          (are.to_exit k kl before) (is.numbers.to_exit a),
    )
      where
        a : ℕ
        a = node_address v k

        before : IsBefore v i (g.owner (node_address v k))
        before = subst (IsBefore v i) (sym own) done

  functions_same : (m f j : ℕ) → j < m → m ≤ i → slice_get v.order j ≡ Some f → SameFor f
  functions_same zero f j lt le at = let bad : ⊥ = omega arith in absurd bad
  functions_same (suc m) f j lt le at =
      function_same f (j, (let r : j < i = omega arith in r), at)
      (λ e h el own calls.
      let before = callees_before v j f is.flow at e h el (inr own) calls in
      let low : before.0 < j = before.1 in
      entry_same h (is.flow.program.callee_function e h el calls) (functions_same m h before.0 (omega arith) (omega arith) before.2))

  pub done_same : (f : ℕ) → IsBefore v i f → SameFor f
  done_same f done = let low : done.0 < i = done.1 in functions_same i f done.0 low (omega arith) done.2

  pub done_entry : (f : ℕ) → f < length v.code.functions → IsBefore v i f → SameAtEntry f
  done_entry f fl done = entry_same f fl (done_same f done)

  -- ---- the function at the next place

  -- the costs of its edges without charges
  pub priced_at : (f : ℕ) (bucket costs : List ℕ) (lasts : List Bool) → slice_get v.order i ≡ Some f → IsBucket v f bucket → ArePriced v w returns exits (IsFromFirst v bucket (length bucket)) costs lasts → ArePricedAt v w n f costs lasts
  priced_at f bucket costs lasts at bucket_is priced = record {
    cost = λ e el own. priced.cost e el (from_first v f bucket e is.flow bucket_is el own) ∙ ap (λ x. w e + x) (call_same e (callees e el own) ((graph v).target e));
    last = λ e el own.
        let means = priced.last e el (from_first v f bucket e is.flow bucket_is el own) in
        (λ yes. exit_to e (callees e el own) (means.0 yes), λ exit. means.1 (exit_back e (callees e el own) exit));
  }
    where
      callees : (e : ℕ) → e < length v.code.edges → (graph v).owner ((graph v).source e) ≡ f → (h : ℕ) → (graph v).callee e ≡ Some h → SameAtEntry h
      callees e el own h calls = done_entry h (is.flow.program.callee_function e h el calls) (callees_before v i f is.flow at e h el (inr own) calls)

-- ---- all functions

module _ (v : FlowGraph) (t : LoopView) (w : ℕ → ℕ) (n : Charged) (is : IsCharging v t w n) (returns exits : List (Option ℕ)) (are : AreWalksOf v (own_by v t w n) is.limit (IsBefore v (length v.order)) returns exits) where
  -- from what is no node there is no run
  no_run : (last step : ℕ → Bool) (a : ℕ) → ((k : ℕ) → slice_get v.code.nodes k ≡ Some a → ⊥) → (es : List ℕ) → IsRun (graph v) false last step (Some a) es → ⊥
  no_run last step a none [] run = let q : false ≡ true = run in let bad : ⊥ = cc in bad
  no_run last step a none (e ∷ es) run = let k = source_number v is.flow e run.0 in none k.0 (k.1 ∙ sym run.1)

  absent : (last step : ℕ → Bool) (c : ℕ → ℕ) (a : ℕ) → ((k : ℕ) → slice_get v.code.nodes k ≡ Some a → ⊥) → (o : Option ℕ) → IsLeastIfAny (IsRun (graph v) false last step (Some a)) (total c) o → None ≡ o
  absent last step c a none None least = refl
  absent last step c a none (Some m) least = absurd (no_run last step a none least.reached.0 least.reached.1)

  pub all_same : (before : (h : ℕ) → h < length v.code.functions → IsBefore v (length v.order) h) → (owner : (k : ℕ) → k < length v.code.nodes → (graph v).owner (node_address v k) < length v.code.functions) →
      (a : ℕ) → (value_beside v.code.nodes returns a ≡ n.least.to_return a) × (value_beside v.code.nodes exits a ≡ n.least.to_exit a)
  all_same before owner a = ⊎_elim
      (λ (node : (k : ℕ) × (slice_get v.code.nodes k ≡ Some a)).
      let kl = slice_get_within v.code.nodes node.0 a node.1 in
      let address : node_address v node.0 ≡ a = address_is v node.0 a node.1 in
      let f = (graph v).owner (node_address v node.0) in
      let same = done_same v t w n is (length v.order) returns exits are f (before f (owner node.0 kl)) node.0 kl refl in
      let r : (value_beside v.code.nodes returns a ≡ n.least.to_return a) × (value_beside v.code.nodes exits a ≡ n.least.to_exit a) =
      (at_number v is.flow returns node.0 a node.1 ∙ same.0 ∙ ap n.least.to_return address, at_number v is.flow exits node.0 a node.1 ∙ same.1 ∙ ap n.least.to_exit address) in r)
      (λ (none : (k : ℕ) → slice_get v.code.nodes k ≡ Some a → ⊥).
      let r : (value_beside v.code.nodes returns a ≡ n.least.to_return a) × (value_beside v.code.nodes exits a ≡ n.least.to_exit a) = (
        beside_none v.code.nodes returns a none ∙ absent (graph v).returns (leads_on (graph v)) (charged_cost (graph v) (loops v t) w n) a none (n.least.to_return a) (is.numbers.to_return a),
        beside_none v.code.nodes exits a none ∙ absent (ends_exit (graph v) n.least) (leads_on (graph v)) (charged_cost (graph v) (loops v t) w n) a none (n.least.to_exit a) (is.numbers.to_exit a),
      ) in r)
      (in_or_not v.code.nodes a)
