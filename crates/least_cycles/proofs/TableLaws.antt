-- Tables by node, and walks that stay in a function.
use Rattle.std.proofs.Common.{◌≡◌, ℕ, zero, suc, ◌+◌, ◌<◌, ◌≤◌, ◌⊎◌, inl, inr, false, List, [], ◌∷◌, length, slice_get, nat_eq, if◌then◌else◌, Option, Some, None, IsSome, unwrap_or, refl, sym, ap, ◌∙◌, subst, arith, ⊎_elim, eq-eqb}
use Rattle.std.proofs.lemmas.Bool.{ne_eqb}
use Rattle.std.proofs.lemmas.Option.{slice_get-get_or, same_Some, none-some}
use Rattle.cost_theory.specs.Graph.{Graph, total}
use Rattle.cost_theory.specs.Worst.{at_some}
use Rattle.cost_theory.specs.Accepted.{IsProgram}
use Rattle.cost_theory.specs.Least.{Least, IsLeastIfAny, EndsWith, least_call}
use Rattle.flow_graph.specs.FlowGraph.{FlowGraph, IsFlowGraph}
use Rattle.loop_forest.specs.Noted.{node_address}
use Rattle.loop_forest.proofs.Laws.{one_number}
use Rattle.least_cycles.specs.Hops.{number_in_table}
use Rattle.least_cycles.specs.Tables.{value_beside, AreFunctionLimits}

-- ---- what stands beside an address

beside_at : (nodes : List ℕ) (table : List (Option ℕ)) (k a : ℕ) → ((i j b : ℕ) → slice_get nodes i ≡ Some b → slice_get nodes j ≡ Some b → i ≡ j) → slice_get nodes k ≡ Some a → value_beside nodes table a ≡ number_in_table table k
beside_at [] table k a once at = absurd (none-some a at)
beside_at (u ∷ us) [] k a once at = refl
beside_at (u ∷ us) (o ∷ os) zero a once at = ap (λ b. if b then o else value_beside us os a) (eq-eqb u a (same_Some u a at))
beside_at (u ∷ us) (o ∷ os) (suc k) a once at =
    let other : nat_eq u a ≡ false = ne_eqb u a (λ same. let z : 0 ≡ suc k = once 0 (suc k) a (ap Some same) at in let bad : ⊥ = omega arith in bad) in
    ap (λ b. if b then o else value_beside us os a) other ∙ beside_at us os k a (λ i j b p q. let s : suc i ≡ suc j = once (suc i) (suc j) b p q in let r : i ≡ j = omega arith in r) at

pub beside_none : (nodes : List ℕ) (table : List (Option ℕ)) (a : ℕ) → ((k : ℕ) → slice_get nodes k ≡ Some a → ⊥) → value_beside nodes table a ≡ None
beside_none [] table a free = refl
beside_none (u ∷ us) [] a free = refl
beside_none (u ∷ us) (o ∷ os) a free = ap (λ b. if b then o else value_beside us os a) (ne_eqb u a (λ same. free 0 (ap Some same))) ∙ beside_none us os a (λ k at. free (suc k) at)

pub at_number : (v : FlowGraph) → IsFlowGraph v → (table : List (Option ℕ)) (k a : ℕ) → slice_get v.code.nodes k ≡ Some a → value_beside v.code.nodes table a ≡ number_in_table table k
at_number v flow table k a at = beside_at v.code.nodes table k a (one_number v flow) at

pub at_node : (v : FlowGraph) → IsFlowGraph v → (table : List (Option ℕ)) (k : ℕ) → k < length v.code.nodes → value_beside v.code.nodes table (node_address v k) ≡ number_in_table table k
at_node v flow table k kl = at_number v flow table k (node_address v k) (slice_get-get_or v.code.nodes k 0 kl)

-- ---- calls

pub called_back : (g : Graph) (n : Least) (e f u : ℕ) (o : Option ℕ) → g.callee e ≡ Some f → g.target e ≡ Some u → o ≡ n.to_return (g.entry f) → unwrap_or o 0 ≡ least_call g n e (g.target e)
called_back g n e f u o calls to is =
    ap (λ (x : Option ℕ). unwrap_or x 0) is ∙ sym (ap (least_call g n e) to ∙ ap (λ (c : Option ℕ). at_some c (λ h. unwrap_or (n.to_return (g.entry h)) 0)) calls)

-- ---- walks in one function

module _ (g : Graph) (program : IsProgram g) (f : ℕ) where
  onward : (e u : ℕ) → e < g.edges → g.owner (g.source e) ≡ f → g.target e ≡ Some u → g.owner u ≡ f
  onward e u lt here to = (program.stays e u lt to).1 ∙ here

  module _ (last last' : ℕ → Type 0) (c d : ℕ → ℕ) (same : (e : ℕ) → e < g.edges → g.owner (g.source e) ≡ f → c e ≡ d e) (lasts : (e : ℕ) → e < g.edges → g.owner (g.source e) ≡ f → last e → last' e) where
    step : (e : ℕ) (es : List ℕ) (p : Option ℕ) → e < g.edges → p ≡ Some (g.source e) → g.owner (g.source e) ≡ f → (EndsWith g last (g.target e) es → EndsWith g last' (g.target e) es × (total c es ≡ total d es)) →
        ((es ≡ []) × last e) ⊎ (IsSome (g.target e) × EndsWith g last (g.target e) es) → EndsWith g last' p (e ∷ es) × (c e + total c es ≡ d e + total d es)
    step e es p lt from here more (inl b) =
        let one = same e lt here in
        let none : total c es ≡ total d es = ap (total c) b.0 ∙ sym (ap (total d) b.0) in
        ((lt, from, inl (b.0, lasts e lt here b.1)), omega arith)
    step e es p lt from here more (inr b) =
        let one = same e lt here in
        let rest = more b.1 in
        let sums = rest.1 in
        ((lt, from, inr (b.0, rest.0)), omega arith)

    pub moved : (es : List ℕ) (p : Option ℕ) → ((u : ℕ) → p ≡ Some u → g.owner u ≡ f) → EndsWith g last p es → EndsWith g last' p es × (total c es ≡ total d es)
    moved [] p own walk = absurd walk
    moved (e ∷ es) p own walk = step e es p walk.0 walk.1 (own (g.source e) walk.1) (λ w. moved es (g.target e) (λ u to. onward e u walk.0 (own (g.source e) walk.1) to) w) walk.2

  -- the last edge of a walk is one of its function
  module _ (last : ℕ → Type 0) where
    end_step : (e : ℕ) (es : List ℕ) → e < g.edges → g.owner (g.source e) ≡ f → (EndsWith g last (g.target e) es → (d : ℕ) × (d < g.edges) × last d × (g.owner (g.source d) ≡ f)) →
        ((es ≡ []) × last e) ⊎ (IsSome (g.target e) × EndsWith g last (g.target e) es) → (d : ℕ) × (d < g.edges) × last d × (g.owner (g.source d) ≡ f)
    end_step e es lt here more (inl b) = (e, lt, b.1, here)
    end_step e es lt here more (inr b) = more b.1

    pub last_edge : (es : List ℕ) (p : Option ℕ) → ((u : ℕ) → p ≡ Some u → g.owner u ≡ f) → EndsWith g last p es → (d : ℕ) × (d < g.edges) × last d × (g.owner (g.source d) ≡ f)
    last_edge [] p own walk = absurd walk
    last_edge (e ∷ es) p own walk = end_step e es walk.0 (own (g.source e) walk.1) (λ w. last_edge es (g.target e) (λ u to. onward e u walk.0 (own (g.source e) walk.1) to) w) walk.2

  pub least_moved : (last last' : ℕ → Type 0) (c d : ℕ → ℕ) → ((e : ℕ) → e < g.edges → g.owner (g.source e) ≡ f → c e ≡ d e) →
      ((e : ℕ) → e < g.edges → g.owner (g.source e) ≡ f → last e → last' e) → ((e : ℕ) → e < g.edges → g.owner (g.source e) ≡ f → last' e → last e) →
      (v : ℕ) (o : Option ℕ) → g.owner v ≡ f → IsLeastIfAny (EndsWith g last (Some v)) (total c) o → IsLeastIfAny (EndsWith g last' (Some v)) (total d) o
  least_moved last last' c d same to back v None own none = λ es walk. none es (moved last' last d c (λ e lt here. sym (same e lt here)) back es (Some v) (λ u is. subst (λ x. g.owner x ≡ f) (same_Some v u is) own) walk).0
  least_moved last last' c d same to back v (Some m) own some = record {
    reached = let w = moved last last' c d same to some.reached.0 (Some v) (λ u is. subst (λ x. g.owner x ≡ f) (same_Some v u is) own) some.reached.1 in (some.reached.0, w.0, sym w.1 ∙ some.reached.2);
    least = λ es walk.
        let w = moved last' last d c (λ e lt here. sym (same e lt here)) back es (Some v) (λ u is. subst (λ x. g.owner x ≡ f) (same_Some v u is) own) walk in
        let sums = w.1 in
        let low = some.least es w.0 in
        omega arith;
  }

-- ---- limits

ends_more : (g : Graph) (last last' : ℕ → Type 0) → ((e : ℕ) → last e → last' e) → (es : List ℕ) (p : Option ℕ) → EndsWith g last p es → EndsWith g last' p es
ends_more g last last' less [] p walk = absurd walk
ends_more g last last' less (e ∷ es) p walk = (
  walk.0,
  walk.1,
  ⊎_elim
      (λ (b : (es ≡ []) × last e). let r : ((es ≡ []) × last' e) ⊎ (IsSome (g.target e) × EndsWith g last' (g.target e) es) = inl (b.0, less e b.1) in r)
      (λ (b : IsSome (g.target e) × EndsWith g last (g.target e) es). let r : ((es ≡ []) × last' e) ⊎ (IsSome (g.target e) × EndsWith g last' (g.target e) es) = inr (b.0, ends_more g last last' less es (g.target e) b.1) in r)
      walk.2,
)

module _ (g : Graph) (last : ℕ → Type 0) (c d : ℕ → ℕ) (less : (e : ℕ) → e < g.edges → c e ≤ d e) where
  total_within : (es : List ℕ) (p : Option ℕ) → EndsWith g last p es → total c es ≤ total d es
  total_within [] p walk = absurd walk
  total_within (e ∷ es) p walk =
      let one = less e walk.0 in
      let rest : total c es ≤ total d es = ⊎_elim
      (λ (b : (es ≡ []) × last e). let r : total c es ≤ total d es = (let x : total c es ≡ 0 = ap (total c) b.0 in omega arith) in r)
      (λ (b : IsSome (g.target e) × EndsWith g last (g.target e) es). total_within es (g.target e) b.1)
      walk.2 in
      omega arith

module _ (g : Graph) (own limit : ℕ → ℕ) (program : IsProgram g) (limits : AreFunctionLimits g own limit) where
  pub within_limit : (last : ℕ → Type 0) (c : ℕ → ℕ) → ((e : ℕ) → e < g.edges → c e ≤ own e + at_some (g.callee e) limit) → ((e : ℕ) → e < g.edges → last e → g.target e ≡ None) →
      (f x : ℕ) → f < g.functions → IsLeastIfAny (EndsWith g last (Some (g.entry f))) (total c) (Some x) → x ≤ limit f
  within_limit last c less ends f x fl some =
      let e = last_edge g program f last some.reached.0 (Some (g.entry f)) (λ u is. subst (λ y. g.owner y ≡ f) (same_Some (g.entry f) u is) (program.entry_owner f fl)) some.reached.1 in
      let way = limits.way e.0 e.1 (ends e.0 e.1 e.2) in
      let walk : EndsWith g (λ d. d ≡ e.0) (Some (g.entry f)) way.0 = subst (λ h. EndsWith g (λ d. d ≡ e.0) (Some (g.entry h)) way.0) e.3 way.1 in
      let low : total (λ d. own d + at_some (g.callee d) limit) way.0 ≤ limit f = subst (λ h. total (λ d. own d + at_some (g.callee d) limit) way.0 ≤ limit h) e.3 way.2 in
      let least = some.least way.0 (ends_more g (λ d. d ≡ e.0) last (λ d same. subst last (sym same) e.2) way.0 (Some (g.entry f)) walk) in
      let sums = total_within g (λ d. d ≡ e.0) c (λ d. own d + at_some (g.callee d) limit) less way.0 (Some (g.entry f)) walk in
      omega arith
