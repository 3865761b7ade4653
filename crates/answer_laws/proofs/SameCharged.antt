-- The least cycles of a program over a graph are those over the graph that is numbered anew.
use Rattle.std.proofs.Common.{◌≡◌, ℕ, ◌+◌, ◌*◌, ◌<◌, Bool, false, not, ◌&&◌, ◌||◌, Option, Some, None, is_some, option_map, unwrap_or, refl, sym, ap, ◌∙◌, subst}
use Rattle.std.proofs.Math.Path.{fun_ext}
use Rattle.cost_theory.specs.Graph.{Graph, Loops, total, only, any_below, enters}
use Rattle.cost_theory.specs.Worst.{at_some}
use Rattle.cost_theory.specs.Least.{IsLeastIfAny, Least, callee_value, least_call, least_cost, IsWay, way_cost, WayToEnd}
use Rattle.cost_theory.specs.Least.WayToEnd.{Exits, Returns}
use Rattle.cost_theory.specs.LeastTurns.{IsRun, turn_step, turn_last, least_charge}
use Rattle.cost_theory.proofs.Laws.{sum-same}
use Rattle.cycle_laws.specs.Charged.{Charged, calls_so, calls_exit, charged_trips, charge_of, charged_cost, leads_on, ends_exit, AreCharged, end_behind, to_end_after, HasPlainReturns}
use Rattle.cycle_laws.specs.LeastLaws.{IsCharged, AreAlike}
use Rattle.cycle_laws.proofs.Laws.{charged_agree, plain_returns}
use Rattle.code_text.specs.Text.{kind_at}
use Rattle.flow_graph.specs.FlowGraph.{graph}
use Rattle.loop_file.specs.Kept.{noted_loops}
use Rattle.loop_forest.specs.Tree.{loops}
use Rattle.answer_laws.specs.Renumbered.{IsRenumberedGraph}
use Rattle.answer_laws.specs.Laws.{ChargedAreAlike}
use Rattle.answer_laws.proofs.SameEdges.{with_edges, by_edges}
use Rattle.answer_laws.proofs.Trees.{trees_agree}

-- the least of the same things
least_as : {A : Type 0} (P P' : A → Type 0) (value : A → ℕ) (o : Option ℕ) → ((a : A) → P a → P' a) → ((a : A) → P' a → P a) → IsLeastIfAny P value o → IsLeastIfAny P' value o
least_as P P' value None there back none = λ a is. none a (back a is)
least_as P P' value (Some m) there back best = record {
  reached = (best.reached.0, there best.reached.0 best.reached.1, best.reached.2);
  least = λ a is. best.least a (back a is);
}

module _ (g h : Graph) (r : IsRenumberedGraph g (with_edges g h)) where
  -- what stands at the entry of the function that an edge calls
  value_read : (at : ℕ → ℕ) (o : Option ℕ) → ((f : ℕ) → o ≡ Some f → f < h.functions) → at_some o (λ f. at (h.entry f)) ≡ at_some (option_map r.number o) (λ f. at (g.entry f))
  value_read at None known = refl
  value_read at (Some f) known = ap at (sym (r.numbered.entry f (known f refl)))

  test_read : (at : ℕ → Bool) (o : Option ℕ) → ((f : ℕ) → o ≡ Some f → f < h.functions) → calls_so o (λ f. at (h.entry f)) ≡ calls_so (option_map r.number o) (λ f. at (g.entry f))
  test_read at None known = refl
  test_read at (Some f) known = ap at (sym (r.numbered.entry f (known f refl)))

  value_is : (table : ℕ → Option ℕ) (e : ℕ) → callee_value (with_edges g h) table e ≡ callee_value g table e
  value_is table e = value_read (λ at. unwrap_or (table at) 0) (h.callee e) (r.numbered.called e) ∙ ap (λ o. at_some o (λ f. unwrap_or (table (g.entry f)) 0)) (sym (r.numbered.callee e))

  exit_is : (n : Least) (e : ℕ) → calls_exit (with_edges g h) n e ≡ calls_exit g n e
  exit_is n e = test_read (λ at. is_some (n.to_exit at)) (h.callee e) (r.numbered.called e) ∙ ap (λ o. calls_so o (λ f. is_some (n.to_exit (g.entry f)))) (sym (r.numbered.callee e))

  exits_are : (n : Least) → calls_exit (with_edges g h) n ≡ calls_exit g n
  exits_are n = fun_ext (exit_is n)

  call_is : (n : Least) (e : ℕ) (o : Option ℕ) → least_call (with_edges g h) n e o ≡ least_call g n e o
  call_is n e None = value_is n.to_exit e
  call_is n e (Some v) = value_is n.to_return e

  ends_are : (n : Least) → ends_exit (with_edges g h) n ≡ ends_exit g n
  ends_are n = fun_ext (λ e. ap (λ b. g.exits e || (not (is_some (g.target e)) && b)) (exit_is n e))

  trips_are : (l : Loops) (n : Least) → charged_trips (with_edges g h) l n ≡ charged_trips g l n
  trips_are l n = fun_ext (λ k. ap (λ (c : ℕ → Bool). only (not (any_below g.edges (λ e. l.inside k (g.source e) && (g.exits e || c e)))) (l.least_trips k)) (exits_are n))

  pub charge_is : (l : Loops) (n : Charged) (e : ℕ) → charge_of (with_edges g h) l n e ≡ charge_of g l n e
  charge_is l n e = ap (λ m. least_charge g l m n.turn e) (trips_are l n.least)

  costs_are : (l : Loops) (w : ℕ → ℕ) (n : Charged) → charged_cost (with_edges g h) l w n ≡ charged_cost g l w n
  costs_are l w n = fun_ext (λ e. ap (λ x. w e + x + charge_of (with_edges g h) l n e) (call_is n.least e (g.target e)) ∙ ap (λ x. least_cost g w n.least e + x) (charge_is l n e))

  way_from : (n : Least) (v : ℕ) (way : WayToEnd) → IsWay (with_edges g h) n v way → IsWay g n v way
  way_from n v Exits is = is
  way_from n v (Returns e) is = (is.0, (is.1.0, r.numbered.callee e ∙ ap (option_map r.number) is.1.1 ∙ ap Some (sym (r.numbered.owner v)), is.1.2))

  way_to : (n : Least) (v : ℕ) (way : WayToEnd) → IsWay g n v way → IsWay (with_edges g h) n v way
  way_to n v Exits is = is
  way_to n v (Returns e) is = (is.0, (is.1.0, r.again.callee e ∙ ap (option_map r.back) is.1.1 ∙ ap Some (sym (r.again.owner v)), is.1.2))

  pub charged_from : (l : Loops) (w : ℕ → ℕ) (n : Charged) → AreCharged (with_edges g h) l w n → AreCharged g l w n
  charged_from l w n x =
      let same = costs_are l w n in
      record {
        to_return = λ v. subst (λ c. IsLeastIfAny (IsRun g false g.returns (leads_on g) (Some v)) (total c) (n.least.to_return v)) same (x.to_return v);
        to_exit = λ v. subst (λ s. IsLeastIfAny (IsRun g false s (leads_on g) (Some v)) (total (charged_cost g l w n)) (n.least.to_exit v)) (ends_are n.least)
            (subst (λ c. IsLeastIfAny (IsRun g false (ends_exit (with_edges g h) n.least) (leads_on g) (Some v)) (total c) (n.least.to_exit v)) same (x.to_exit v));
        to_end = λ v. least_as (IsWay (with_edges g h) n.least v) (IsWay g n.least v) (way_cost g n.least v) (n.least.to_end v) (way_from n.least v) (way_to n.least v) (x.to_end v);
        closing = λ k v kl. subst (λ c. IsLeastIfAny (IsRun g false (turn_last g l k) (turn_step g l k) (Some v)) (total c) (n.closing k v)) same (x.closing k v kl);
        turn = x.turn;
      }

  pub after_from : (l : Loops) (n : Charged) (e : ℕ) → to_end_after g l n e ≡ to_end_after (with_edges g h) l n e
  after_from l n e = ap (end_behind n (g.target e)) (sym (charge_is l n e))

-- ---- what two records that hold the same give an edge

module _ (g : Graph) (l : Loops) (n n' : Charged) (same : AreAlike l n n') where
  pub least_is : n.least ≡ n'.least
  least_is =
      ap {B = Least} (λ (x : ℕ → Option ℕ). record n.least { to_return = x }) (fun_ext same.to_return) ∙
      ap {B = Least} (λ (x : ℕ → Option ℕ). record n'.least { to_exit = x; to_end = n.least.to_end }) (fun_ext same.to_exit) ∙
      ap {B = Least} (λ (x : ℕ → Option ℕ). record n'.least { to_end = x }) (fun_ext same.to_end)

  charge_same : (e : ℕ) → charge_of g l n e ≡ charge_of g l n' e
  charge_same e =
      ap (λ m. least_charge g l (charged_trips g l m) n.turn e) least_is ∙
      sum-same l.loops (λ k. only (enters l k (g.source e) (g.target e)) (charged_trips g l n'.least k * n.turn k)) (λ k. only (enters l k (g.source e) (g.target e)) (charged_trips g l n'.least k * n'.turn k))
      (λ k kl. ap (λ x. only (enters l k (g.source e) (g.target e)) (charged_trips g l n'.least k * x)) (same.turn k kl))

  behind_same : (o : Option ℕ) (c c' : ℕ) → c ≡ c' → end_behind n o c ≡ end_behind n' o c'
  behind_same None c c' e = refl
  behind_same (Some v) c c' e = ap (option_map (λ z. z + c)) (same.to_end v) ∙ ap (λ x. option_map (λ z. z + x) (n'.least.to_end v)) e

  pub after_is : (e : ℕ) → to_end_after g l n e ≡ to_end_after g l n' e
  after_is e = behind_same (g.target e) (charge_of g l n e) (charge_of g l n' e) (charge_same e)

-- ---- over two graphs, with the same loops

record AreChargedOver (g g' : Graph) (l : Loops) (n n' : Charged) : Type 0 where
  pub least : n.least ≡ n'.least
  pub turn : (k : ℕ) → k < l.loops → n.turn k ≡ n'.turn k
  pub after : (e : ℕ) → to_end_after g l n e ≡ to_end_after g' l n' e

module _ (g : Graph) (l : Loops) (extent : ℕ → ℕ → Bool) (w : ℕ → ℕ) (n n' : Charged) (is : IsCharged g l extent w n) where
  over_from : (h : Graph) → IsRenumberedGraph g (with_edges g h) → AreCharged (with_edges g h) l w n' → AreChargedOver g (with_edges g h) l n n'
  over_from h r nums' =
      let same : AreAlike l n n' = charged_agree g l extent w n n' is (charged_from g h r l w n' nums') in
      record {
        least = least_is g l n n' same;
        turn = same.turn;
        after = λ e. after_is g l n n' same e ∙ after_from g h r l n' e;
      }

  charged_over : (g' : Graph) → IsRenumberedGraph g g' → AreCharged g' l w n' → AreChargedOver g g' l n n'
  charged_over g' r = by_edges g g' (λ y. AreCharged y l w n' → AreChargedOver g y l n n') over_from r

pub charged_alike : ChargedAreAlike
charged_alike t v v' notes tree tree' w n n' code same is is' weights nums nums' =
    let l = loops v tree in
    let e = (trees_agree v v' notes tree tree' same code.flow is is').loops in
    let charged : IsCharged (graph v) l (noted_loops notes).inside w n = record {
      program = code.flow.program;
      returns = subst HasPlainReturns code.graph_is (plain_returns (kind_at t) t.entry v.code code.reached.lists code.reached.words);
      accepted = is.tree.accepted;
      weights = weights;
      numbers = nums;
    } in
    let over : AreChargedOver (graph v) (graph v') l n n' = charged_over (graph v) l (noted_loops notes).inside w n n' charged (graph v') same.graphs (subst (λ x. AreCharged (graph v') x w n') (sym e) nums') in
    record {
      least = over.least;
      turn = over.turn;
      after = λ i. over.after i ∙ ap (λ x. to_end_after (graph v') x n' i) e;
    }
