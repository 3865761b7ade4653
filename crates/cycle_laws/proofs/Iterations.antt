-- Iterations, and the rest of one from a node, by their first edge.
use Rattle.std.proofs.Common.{◌≡◌, ℕ, ◌+◌, ◌<◌, ◌≤◌, Bool, true, ◌⊎◌, inl, inr, List, [], ◌∷◌, Option, Some, None, refl, sym, ap, subst, arith}
use Rattle.cost_theory.specs.Graph.{Graph, Loops, total, is_round, is_back, IsPlain, IsClosing}
use Rattle.cost_theory.specs.Worst.{Numbers, IsGreatest, IsGreatestIfAny, cost, charged}
use Rattle.cost_theory.specs.Laws.{IsAnalyzed}
use Rattle.cost_theory.proofs.Laws.{some_same, header_held, entered_at_headers, accepted_entered, closing_present, greatest_some}
use Rattle.cycle_laws.specs.Passes.{IsRestOver, IsClosingOver, ClosingOver, IterationIsClosing}

module _ (g : Graph) (l : Loops) (extent : ℕ → ℕ → Bool) (w : ℕ → ℕ) (n : Numbers) (is : IsAnalyzed g l extent w n) where
  abbrev charge : ℕ → ℕ
  charge = charged g l n (cost g n w)

  from_header : (k : ℕ) → k < l.loops → n.closing k (l.header k) ≡ Some (n.iteration k)
  from_header k kl = greatest_some (IsClosing g l k (Some (l.header k))) (total charge) (n.closing k (l.header k)) (Some (n.iteration k))
      (is.numbers.loops.closing k (l.header k) kl (header_held g l extent is.program (accepted_entered is.accepted) k kl)) (is.numbers.loops.iteration k kl)

  -- the best rest, where there is one
  best : (k v : ℕ) → k < l.loops → l.inside k v ≡ true → (o : Option ℕ) → n.closing k v ≡ o → IsGreatestIfAny (IsClosing g l k (Some v)) (total charge) o
  best k v kl in_v o at = subst (λ o. IsGreatestIfAny (IsClosing g l k (Some v)) (total charge) o) at (is.numbers.loops.closing k v kl in_v)

  -- a rest over an edge is a path that begins with the edge
  rest_path : (k v : ℕ) → k < l.loops → (e b : ℕ) → e < g.edges → g.source e ≡ v → IsRestOver g l w n k e b →
      (es : List ℕ) × IsClosing g l k (Some v) es × (total charge es ≡ b)
  rest_path k v kl e b lt at (inl last) =
      let q : b ≡ charge e = last.1 in
      let sum : charge e + 0 ≡ b = omega arith in
      (e ∷ [], (lt, ap Some (sym at), inl (last.0, refl)), sum)
  rest_path k v kl e b lt at (inr (plain, (u, more, to, in_u, on, sum))) =
      let far : IsGreatest (IsClosing g l k (Some u)) (total charge) more = best k u kl in_u (Some more) on in
      let round : is_round l k (g.target e) ≡ true = subst (λ o. is_round l k o ≡ true) (sym to) in_u in
      let closes : IsClosing g l k (g.target e) far.reached.0 = subst (λ o. IsClosing g l k o far.reached.0) (sym to) far.reached.1 in
      let q : total charge far.reached.0 ≡ more = far.reached.2 in
      let both : charge e + total charge far.reached.0 ≡ b = omega arith in
      (e ∷ far.reached.0, (lt, ap Some (sym at), inr (plain, round, closes)), both)

  absent : (k v : ℕ) → k < l.loops → l.inside k v ≡ true → n.closing k v ≡ None → (e b : ℕ) → e < g.edges → g.source e ≡ v → IsRestOver g l w n k e b → ⊥
  absent k v kl in_v none e b lt at rest =
      let r : (es : List ℕ) × IsClosing g l k (Some v) es × (total charge es ≡ b) = rest_path k v kl e b lt at rest in
      best k v kl in_v None none r.0 r.1

  most : (k v : ℕ) → k < l.loops → l.inside k v ≡ true → (m : ℕ) → n.closing k v ≡ Some m → (e b : ℕ) → e < g.edges → g.source e ≡ v → IsRestOver g l w n k e b → b ≤ m
  most k v kl in_v m some e b lt at rest =
      let r : (es : List ℕ) × IsClosing g l k (Some v) es × (total charge es ≡ b) = rest_path k v kl e b lt at rest in
      let top : IsGreatest (IsClosing g l k (Some v)) (total charge) m = best k v kl in_v (Some m) some in
      subst (λ x. x ≤ m) r.2 (top.most r.0 r.1)

  -- a path that closes k is a rest over its first edge, where it costs the most
  first_edge : (k v : ℕ) → k < l.loops → l.inside k v ≡ true → (m : ℕ) → n.closing k v ≡ Some m → (es : List ℕ) → IsClosing g l k (Some v) es → total charge es ≡ m →
      (e : ℕ) × (e < g.edges) × (g.source e ≡ v) × IsRestOver g l w n k e m
  first_edge k v kl in_v m some [] closes costs = absurd closes
  first_edge k v kl in_v m some (e ∷ es) closes costs = (e, closes.0, at, go closes.2)
    where
      at : g.source e ≡ v
      at = sym (some_same _ _ closes.1)

      sum : charge e + total charge es ≡ m
      sum = costs

      on : (p : Option ℕ) → g.target e ≡ p → IsPlain g l e → is_round l k p ≡ true → IsClosing g l k p es → IsRestOver g l w n k e m
      on None to plain round more = let bad : ⊥ = cc in absurd bad
      on (Some u) to plain round more =
          let b : (b : ℕ) × (n.closing k u ≡ Some b) × (total charge es ≤ b) =
          closing_present g l (cost g n w) n is.numbers.loops (entered_at_headers g l extent is.program (accepted_entered is.accepted)) k u kl round es more in
          let le : charge e + b.0 ≤ m = most k v kl in_v m some e (charge e + b.0) closes.0 at (inr (plain, (u, b.0, to, round, b.1, refl))) in
          let ge : total charge es ≤ b.0 = b.2 in
          let s : charge e + total charge es ≡ m = sum in
          let eq : m ≡ charge e + b.0 = omega arith in
          inr (plain, (u, b.0, to, round, b.1, eq))

      go : (((is_back g l k e ≡ true) × (es ≡ [])) ⊎ (IsPlain g l e × (is_round l k (g.target e) ≡ true) × IsClosing g l k (g.target e) es)) → IsRestOver g l w n k e m
      go (inl last) =
          let none : total charge es ≡ 0 = ap (total charge) last.1 in
          let s : charge e + total charge es ≡ m = sum in
          let eq : m ≡ charge e = omega arith in
          inl (last.0, eq)
      go (inr more) = on (g.target e) refl more.0 more.1 more.2

  over : (k v : ℕ) → k < l.loops → l.inside k v ≡ true → IsClosingOver g l w n k v
  over k v kl in_v = record {
    absent = absent k v kl in_v;
    attained = λ m some. (let top : IsGreatest (IsClosing g l k (Some v)) (total charge) m = best k v kl in_v (Some m) some in
        first_edge k v kl in_v m some top.reached.0 top.reached.1 top.reached.2);
    most = most k v kl in_v;
  }

pub iteration_closing : IterationIsClosing
iteration_closing g l extent w n is k kl = from_header g l extent w n is k kl

pub closing_over : ClosingOver
closing_over g l extent w n is k v kl in_v = over g l extent w n is k v kl in_v
