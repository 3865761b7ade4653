-- Plain paths from a node, by their first edge, and the worst cycles as one of them.
use Rattle.std.proofs.Common.{◌≡◌, ℕ, ◌+◌, ◌<◌, ◌≤◌, Bool, true, false, ◌⊎◌, inl, inr, List, [], ◌∷◌, Option, Some, None, refl, sym, ap, ◌∙◌, subst, arith, le_refl}
use Rattle.cost_theory.specs.Graph.{Graph, Loops, total, only, IsPlain, IsPlainPath}
use Rattle.cost_theory.specs.Worst.{Numbers, IsGreatest, cost, all_of, charged, turns_round}
use Rattle.cost_theory.specs.Accepted.{IsNode}
use Rattle.cost_theory.specs.Laws.{IsAnalyzed}
use Rattle.cost_theory.proofs.Laws.{sum-one, sum-none, only_true, some_same, header_held, headers-distinct, entry_header, nested, accepted_entered, left-plain, worst_equation, left-worst, call_order}
use Rattle.cycle_laws.specs.Passes.{plain_at, IsPlainOver, PlainOver, WorstIsPlain, PlainWithinWorst}

module _ (g : Graph) (l : Loops) (extent : ℕ → ℕ → Bool) (w : ℕ → ℕ) (n : Numbers) (is : IsAnalyzed g l extent w n) where
  abbrev charge : ℕ → ℕ
  charge = charged g l n (cost g n w)

  -- what is left at an entry is a plain path from it
  entry_plain : (f : ℕ) → f < g.functions → n.left (g.entry f) ≡ n.plain (g.entry f)
  entry_plain f fl = left-plain g l (cost g n w) n (nested g l extent is.program (accepted_entered is.accepted)) is.numbers.loops (g.entry f)
      (λ k kl in_k. entry_header g l extent is.program (accepted_entered is.accepted) f k fl kl in_k)

  worst_sum : (f : ℕ) → f < g.functions → n.worst f ≡ n.left (g.entry f) + turns_round l n (Some (g.entry f))
  worst_sum f fl = worst_equation g l extent w n is.program is.accepted is.weights is.numbers f fl

  no_header : (f : ℕ) → f < g.functions → ((k : ℕ) → k < l.loops → l.header k ≡ g.entry f → ⊥) → n.worst f ≡ n.plain (g.entry f)
  no_header f fl none =
      let a : n.worst f ≡ n.left (g.entry f) + turns_round l n (Some (g.entry f)) = worst_sum f fl in
      let b : n.left (g.entry f) ≡ n.plain (g.entry f) = entry_plain f fl in
      let z : turns_round l n (Some (g.entry f)) ≡ 0 = sum-none l.loops (λ k. only (l.inside k (g.entry f)) (all_of l n k))
      (λ k kl. go k kl (l.inside k (g.entry f)) refl) in
      omega arith
    where
      go : (k : ℕ) → k < l.loops → (b : Bool) → l.inside k (g.entry f) ≡ b → only b (all_of l n k) ≡ 0
      go k kl false at = refl
      go k kl true at = absurd (none k kl (sym (entry_header g l extent is.program (accepted_entered is.accepted) f k fl kl at)))

  of_header : (f : ℕ) → f < g.functions → (k : ℕ) → k < l.loops → l.header k ≡ g.entry f → n.worst f ≡ n.plain (g.entry f) + all_of l n k
  of_header f fl k kl heads =
      let a : n.worst f ≡ n.left (g.entry f) + turns_round l n (Some (g.entry f)) = worst_sum f fl in
      let b : n.left (g.entry f) ≡ n.plain (g.entry f) = entry_plain f fl in
      let one : turns_round l n (Some (g.entry f)) ≡ only (l.inside k (g.entry f)) (all_of l n k) = sum-one l.loops (λ j. only (l.inside j (g.entry f)) (all_of l n j)) k kl
      (λ j jl ne. go j jl ne (l.inside j (g.entry f)) refl) in
      let t : only (l.inside k (g.entry f)) (all_of l n k) ≡ all_of l n k = only_true (l.inside k (g.entry f)) (all_of l n k)
      (subst (λ v. l.inside k v ≡ true) heads (header_held g l extent is.program (accepted_entered is.accepted) k kl)) in
      omega arith
    where
      go : (j : ℕ) → j < l.loops → (j ≡ k → ⊥) → (b : Bool) → l.inside j (g.entry f) ≡ b → only b (all_of l n j) ≡ 0
      go j jl ne false at = refl
      go j jl ne true at = absurd (ne (headers-distinct g l extent is.program (accepted_entered is.accepted) j k jl kl
          (sym (entry_header g l extent is.program (accepted_entered is.accepted) f j fl jl at) ∙ sym heads)))

  within : (v : ℕ) → IsNode g v → n.plain v ≤ n.worst 0
  within v node =
      let a : n.left v + turns_round l n (Some v) ≤ n.worst 0 =
      left-worst g l extent w n is.program is.accepted is.weights is.numbers (call_order g is.program).0 (call_order g is.program).1 v node in
      let b : n.plain v ≤ n.left v = (is.numbers.loops.left v).over_plain in
      omega arith

  -- a plain path from a place costs at most the greatest, which one of them costs
  path_within : (p : Option ℕ) (es : List ℕ) → IsPlainPath g l p es → total charge es ≤ plain_at n p
  path_within None [] path = le_refl 0
  path_within None (e ∷ es) path = let q : None ≡ Some (g.source e) = path.1 in let bad : ⊥ = cc in absurd bad
  path_within (Some u) es path = (is.numbers.loops.plain u).most es path

  path_at : (p : Option ℕ) → (es : List ℕ) × IsPlainPath g l p es × (total charge es ≡ plain_at n p)
  path_at None = ([], tt, refl)
  path_at (Some u) = (is.numbers.loops.plain u).reached

  over_edge : (v e : ℕ) → e < g.edges → g.source e ≡ v → IsPlain g l e → charge e + plain_at n (g.target e) ≤ n.plain v
  over_edge v e lt at plain =
      let on : (es : List ℕ) × IsPlainPath g l (g.target e) es × (total charge es ≡ plain_at n (g.target e)) = path_at (g.target e) in
      let most : charge e + total charge on.0 ≤ n.plain v = path_within (Some v) (e ∷ on.0) (lt, ap Some (sym at), plain, on.1) in
      let q : total charge on.0 ≡ plain_at n (g.target e) = on.2 in
      omega arith

  first_edge : (v : ℕ) (es : List ℕ) → IsPlainPath g l (Some v) es → total charge es ≡ n.plain v →
      (n.plain v ≡ 0) ⊎ ((e : ℕ) × (e < g.edges) × (g.source e ≡ v) × IsPlain g l e × (n.plain v ≡ charge e + plain_at n (g.target e)))
  first_edge v [] path costs = inl (sym costs)
  first_edge v (e ∷ es) path costs =
      let at : g.source e ≡ v = sym (some_same _ _ path.1) in
      let sum : charge e + total charge es ≡ n.plain v = costs in
      let most : total charge es ≤ plain_at n (g.target e) = path_within (g.target e) es path.3 in
      let over : charge e + plain_at n (g.target e) ≤ n.plain v = over_edge v e path.0 at path.2 in
      let eq : n.plain v ≡ charge e + plain_at n (g.target e) = omega arith in
      inr (e, path.0, at, path.2, eq)

  over : (v : ℕ) → IsPlainOver g l w n v
  over v =
      let best : IsGreatest (IsPlainPath g l (Some v)) (total charge) (n.plain v) = is.numbers.loops.plain v in
      record { most = over_edge v; attained = first_edge v best.reached.0 best.reached.1 best.reached.2 }

pub worst_plain : WorstIsPlain
worst_plain g l extent w n is f fl = (no_header g l extent w n is f fl, of_header g l extent w n is f fl)

pub plain_within_worst : PlainWithinWorst
plain_within_worst g l extent w n is v node = within g l extent w n is v node

pub plain_over : PlainOver
plain_over g l extent w n is v node = over g l extent w n is v
