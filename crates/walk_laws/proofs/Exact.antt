-- Along a walk that takes the worst cycles each function that is called takes its own worst cycles.
use Rattle.std.proofs.Common.{◌≡◌, ℕ, zero, suc, ◌+◌, ◌*◌, ◌<◌, ◌≤◌, Bool, true, false, nat_eq, List, [], ◌∷◌, ◌++◌, Option, Some, None, refl, sym, ap, ◌∙◌, subst, arith, eqb-true, eq-eqb, le_refl}
use Rattle.cost_theory.specs.Graph.{Graph, Loops, IsWalk, total, sum_below, only}
use Rattle.cost_theory.specs.Worst.{Numbers, AreWorst, at_some, cost}
use Rattle.cost_theory.specs.Accepted.{IsProgram, IsCallOrder}
use Rattle.cost_theory.proofs.Laws.{some_same, call_order, sum-one, sum-same, sum-none}
use Rattle.walk_laws.specs.Walks.{Walks, AreWalks, called_edges, with_calls, is_number}
use Rattle.walk_laws.proofs.Joined.{sum-add}
use Rattle.walk_laws.proofs.Functions.{called_cost, calls_cost}

-- ---- what holds of each edge of a list

abbrev pub Each : (ℕ → Type 0) → List ℕ → Type 0
Each P [] = Unit {0}
Each P (e ∷ es) = P e × Each P es

pub each_append : (P : ℕ → Type 0) (xs ys : List ℕ) → Each P xs → Each P ys → Each P (xs ++ ys)
each_append P [] ys a b = b
each_append P (x ∷ xs) ys a b = (a.0, each_append P xs ys a.1 b)

pub each_map : (P Q : ℕ → Type 0) → ((e : ℕ) → P e → Q e) → (es : List ℕ) → Each P es → Each Q es
each_map P Q to [] a = tt
each_map P Q to (e ∷ es) a = (to e a.0, each_map P Q to es a.1)

pub each_both : (P Q : ℕ → Type 0) (es : List ℕ) → Each P es → Each Q es → Each (λ e. P e × Q e) es
each_both P Q [] a b = tt
each_both P Q (e ∷ es) a b = ((a.0, b.0), each_both P Q es a.1 b.1)

total_le : (c d : ℕ → ℕ) (es : List ℕ) → Each (λ e. c e ≤ d e) es → total c es ≤ total d es
total_le c d [] a = le_refl 0
total_le c d (e ∷ es) a = let ih : total c es ≤ total d es = total_le c d es a.1 in let here : c e ≤ d e = a.0 in omega arith

pub total_same : (c d : ℕ → ℕ) (es : List ℕ) → Each (λ e. c e ≡ d e) es → total c es ≡ total d es
total_same c d [] a = refl
total_same c d (e ∷ es) a = let ih : total c es ≡ total d es = total_same c d es a.1 in let here : c e ≡ d e = a.0 in omega arith

each_same : (c d : ℕ → ℕ) (es : List ℕ) → Each (λ e. c e ≤ d e) es → total c es ≡ total d es → Each (λ e. c e ≡ d e) es
each_same c d [] a eq = tt
each_same c d (e ∷ es) a eq =
    let rest : total c es ≤ total d es = total_le c d es a.1 in
    let here : c e ≤ d e = a.0 in
    let all : c e + total c es ≡ d e + total d es = eq in
    (omega arith, each_same c d es a.1 (omega arith))

-- a total is a sum over the edges, each as often as it stands in the list
pub total_counted : (n : ℕ) (c : ℕ → ℕ) (es : List ℕ) → Each (λ e. e < n) es → total c es ≡ sum_below n (λ e. total (λ d. only (nat_eq d e) 1) es * c e)
total_counted n c [] a = sym (sum-none n (λ e. 0 * c e) (λ k kl. let z : 0 * c k ≡ 0 = omega arith in z))
total_counted n c (d ∷ es) a =
    let rest : ℕ → ℕ = λ e. total (λ b. only (nat_eq b e) 1) es * c e in
    let first : ℕ → ℕ = λ e. only (nat_eq d e) 1 * c e in
    let ih : total c es ≡ sum_below n rest = total_counted n c es a.1 in
    let split : sum_below n (λ e. (only (nat_eq d e) 1 + total (λ b. only (nat_eq b e) 1) es) * c e) ≡ sum_below n (λ e. first e + rest e) =
    sum-same n (λ e. (only (nat_eq d e) 1 + total (λ b. only (nat_eq b e) 1) es) * c e) (λ e. first e + rest e) (λ e lt. apart (only (nat_eq d e) 1) (total (λ b. only (nat_eq b e) 1) es) (c e)) in
    let add : sum_below n (λ e. first e + rest e) ≡ sum_below n first + sum_below n rest = sum-add n first rest in
    let one : sum_below n first ≡ first d = sum-one n first d a.0 (λ e lt ne. other e (nat_eq d e) ne refl) in
    let at : first d ≡ c d = ap (λ b. only b 1 * c d) (eq-eqb d d refl) ∙ (omega arith) in
    omega arith
  where
    apart : (a b c : ℕ) → (a + b) * c ≡ a * c + b * c
    apart a b c = grind arith

    other : (e : ℕ) (b : Bool) → (e ≡ d → ⊥) → nat_eq d e ≡ b → only b 1 * c e ≡ 0
    other e false ne is = omega arith
    other e true ne is = absurd (ne (sym (eqb-true d e is)))

-- ---- the calls

module _ (g : Graph) (l : Loops) (w : ℕ → ℕ) (n : Numbers) (s : Walks) (prog : IsProgram g) (walks : AreWalks g l s) (worst : AreWorst g l w n) where
  -- what one call of a function takes
  abbrev pub taken_by : ℕ → ℕ
  taken_by f = total w (s.whole f)

  -- the function that an edge calls takes its worst cycles
  abbrev pub IsExact : ℕ → Type 0
  IsExact e = (e < g.edges) × ((f : ℕ) → g.callee e ≡ Some f → taken_by f ≡ n.worst f)

  abbrev IsOwned : ℕ → ℕ → Type 0
  IsOwned f e = (e < g.edges) × (g.owner (g.source e) ≡ f)

  owned : (es : List ℕ) (p : Option ℕ) (f : ℕ) → ((v : ℕ) → p ≡ Some v → g.owner v ≡ f) → IsWalk g p es → Each (IsOwned f) es
  owned [] p f at walk = tt
  owned (e ∷ es) p f at walk =
      let here : g.owner (g.source e) ≡ f = at (g.source e) walk.1 in
      ((walk.0, here), owned es (g.target e) f (λ v to. (prog.stays e v walk.0 to).1 ∙ here) walk.2)

  owned_by : (f : ℕ) → f < g.functions → Each (IsOwned f) (s.own f)
  owned_by f fl = owned (s.own f) (Some (g.entry f)) f (λ v e. ap g.owner (sym (some_same (g.entry f) v e)) ∙ prog.entry_owner f fl) (walks.bounded f fl).0

  order : (o : ℕ → ℕ) × IsCallOrder g o
  order = call_order g prog

  falls : (f e h : ℕ) → IsOwned f e → g.callee e ≡ Some h → order.0 h < order.0 f
  falls f e h is call = subst (λ k. order.0 h < order.0 k) is.1 (order.1.falls (g.source e) h (e, is.0, refl, call))

  edge_le : (e : ℕ) → ((h : ℕ) → g.callee e ≡ Some h → taken_by h ≤ n.worst h) → called_cost g s.whole w e ≤ cost g n w e
  edge_le e less = go (g.callee e) refl
    where
      go : (o : Option ℕ) → g.callee e ≡ o → w e + at_some o taken_by ≤ w e + at_some o n.worst
      go None is = le_refl _
      go (Some h) is = let less_h : taken_by h ≤ n.worst h = less h is in omega arith

  by_own : (f : ℕ) → f < g.functions → taken_by f ≡ total (called_cost g s.whole w) (s.own f)
  by_own f fl = ap (total w) (walks.whole f fl) ∙ calls_cost g s.whole w (s.own f)

  at_most : (m f : ℕ) → f < g.functions → order.0 f < m → taken_by f ≤ n.worst f
  at_most zero f fl low = absurd (omega arith)
  at_most (suc m) f fl low =
      let each : Each (λ e. called_cost g s.whole w e ≤ cost g n w e) (s.own f) =
      each_map (IsOwned f) (λ e. called_cost g s.whole w e ≤ cost g n w e)
      (λ e is. edge_le e (λ h call. let less : order.0 h < order.0 f = falls f e h is call in at_most m h (prog.callee_function e h is.0 call) (omega arith)))
      (s.own f) (owned_by f fl) in
      let a : taken_by f ≡ total (called_cost g s.whole w) (s.own f) = by_own f fl in
      let b : total (called_cost g s.whole w) (s.own f) ≤ total (cost g n w) (s.own f) = total_le _ _ (s.own f) each in
      let c : total (cost g n w) (s.own f) ≤ n.worst f = (worst f fl).most (s.own f) (walks.bounded f fl) in
      omega arith

  least_all : (f : ℕ) → f < g.functions → taken_by f ≤ n.worst f
  least_all f fl = at_most (suc (order.0 f)) f fl (omega arith)

  exact_own : (f : ℕ) → f < g.functions → taken_by f ≡ n.worst f → Each IsExact (s.own f)
  exact_own f fl eq =
      let each : Each (λ e. called_cost g s.whole w e ≤ cost g n w e) (s.own f) =
      each_map (IsOwned f) (λ e. called_cost g s.whole w e ≤ cost g n w e)
      (λ e is. edge_le e (λ h call. least_all h (prog.callee_function e h is.0 call))) (s.own f) (owned_by f fl) in
      let a : taken_by f ≡ total (called_cost g s.whole w) (s.own f) = by_own f fl in
      let b : total (called_cost g s.whole w) (s.own f) ≤ total (cost g n w) (s.own f) = total_le _ _ (s.own f) each in
      let c : total (cost g n w) (s.own f) ≤ n.worst f = (worst f fl).most (s.own f) (walks.bounded f fl) in
      let same : total (called_cost g s.whole w) (s.own f) ≡ total (cost g n w) (s.own f) = omega arith in
      let both : Each (λ e. IsOwned f e × (called_cost g s.whole w e ≡ cost g n w e)) (s.own f) = each_both (IsOwned f) (λ e. called_cost g s.whole w e ≡ cost g n w e) (s.own f) (owned_by f fl) (each_same _ _ (s.own f) each same) in
      each_map (λ e. IsOwned f e × (called_cost g s.whole w e ≡ cost g n w e)) IsExact (λ e is. (is.0.0, λ h call. called e h call is.1)) (s.own f) both
    where
      called : (e h : ℕ) → g.callee e ≡ Some h → called_cost g s.whole w e ≡ cost g n w e → taken_by h ≡ n.worst h
      called e h call same =
          let both : w e + at_some (Some h) taken_by ≡ w e + at_some (Some h) n.worst = subst (λ o. w e + at_some o taken_by ≡ w e + at_some o n.worst) call same in
          omega arith

  along : (f : ℕ) → ((h : ℕ) → h < g.functions → order.0 h < order.0 f → taken_by h ≡ n.worst h → Each IsExact (s.whole h)) → (es : List ℕ) → Each (IsOwned f) es → Each IsExact es → Each IsExact (with_calls g s.whole es)
  along f deeper [] own exact = tt
  along f deeper (e ∷ es) own exact =
      each_append IsExact (e ∷ called_edges s.whole (g.callee e)) (with_calls g s.whole es) (exact.0, go (g.callee e) refl) (along f deeper es own.1 exact.1)
    where
      go : (o : Option ℕ) → g.callee e ≡ o → Each IsExact (called_edges s.whole o)
      go None is = tt
      go (Some h) is = deeper h (prog.callee_function e h own.0.0 is) (falls f e h own.0 is) (exact.0.1 h is)

  exact_at : (m f : ℕ) → f < g.functions → order.0 f < m → taken_by f ≡ n.worst f → Each IsExact (s.whole f)
  exact_at zero f fl low eq = absurd (omega arith)
  exact_at (suc m) f fl low eq =
      subst (Each IsExact) (sym (walks.whole f fl))
      (along f (λ h hl less e. exact_at m h hl (omega arith) e) (s.own f) (owned_by f fl) (exact_own f fl eq))

  -- where a walk takes the worst cycles, each edge of it is exact
  pub exact_walk : taken_by 0 ≡ n.worst 0 → Each IsExact (s.whole 0)
  exact_walk eq = exact_at (suc (order.0 0)) 0 prog.main (omega arith) eq

  -- what is called on exact edges takes its worst cycles
  pub called_exact : (f : ℕ) (es : List ℕ) → Each IsExact es → 0 < total (λ e. only (is_number f (g.callee e)) 1) es → taken_by f ≡ n.worst f
  called_exact f [] exact some = absurd (omega arith)
  called_exact f (e ∷ es) exact some = go (called_exact f es exact.1) (g.callee e) refl some
    where
      at : (rest : 0 < total (λ d. only (is_number f (g.callee d)) 1) es → taken_by f ≡ n.worst f) (h : ℕ) (b : Bool) → nat_eq h f ≡ b → g.callee e ≡ Some h → 0 < only b 1 + total (λ d. only (is_number f (g.callee d)) 1) es → taken_by f ≡ n.worst f
      at rest h true eq is more = exact.0.1 f (is ∙ ap Some (eqb-true h f eq))
      at rest h false eq is more = rest (omega arith)

      go : (rest : 0 < total (λ d. only (is_number f (g.callee d)) 1) es → taken_by f ≡ n.worst f) (o : Option ℕ) → g.callee e ≡ o → 0 < only (is_number f o) 1 + total (λ d. only (is_number f (g.callee d)) 1) es → taken_by f ≡ n.worst f
      go rest None is more = rest (omega arith)
      go rest (Some h) is more = at rest h (nat_eq h f) refl is more
