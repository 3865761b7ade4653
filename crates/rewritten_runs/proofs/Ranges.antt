-- The numbers of an accepted program are in range.
use Rattle.std.proofs.Common.{◌≡◌, ℕ, zero, suc, ◌+◌, ◌*◌, ◌<◌, ◌≤◌, Bool, true, false, Option, Some, None, is_some, refl, sym, ap, ◌∙◌, arith, eqb-true}
use Rattle.std.proofs.lemmas.Bool.{and_parts}
use Rattle.cost_theory.specs.Graph.{Graph, Loops, only, sum_below, is_back, is_header}
use Rattle.cost_theory.specs.Laws.{IsAnalyzed}
use Rattle.cost_theory.specs.Worst.{Numbers, cost, turn_back, slack, rest}
use Rattle.cost_theory.proofs.Laws.{sum-none, headers-distinct, accepted_entered, left-worst, turns-worst, call_order, iteration-worst, rest-worst}
use Rattle.worst_cycles.specs.Worst.{slack_at, rest_at}

-- what holds once at most
one_at_most : (n most : ℕ) (b : ℕ → Bool) (x : ℕ → ℕ) → ((j k : ℕ) → j < n → k < n → b j ≡ true → b k ≡ true → j ≡ k) → ((k : ℕ) → k < n → x k ≤ most) → sum_below n (λ k. only (b k) (x k)) ≤ most
one_at_most zero most b x once small = omega arith
one_at_most (suc n) most b x once small = last (one_at_most n most b x (λ j k jl kl. once j k (omega arith) (omega arith)) (λ k kl. small k (omega arith))) (b n) refl
  where
    off : b n ≡ true → (k : ℕ) → k < n → (c : Bool) → b k ≡ c → only (b k) (x k) ≡ 0
    off on k kl false is = ap (λ c. only c (x k)) is
    off on k kl true is = let same = once k n (omega arith) (omega arith) is on in let bad : ⊥ = omega (arith, same, kl) in absurd bad

    last : sum_below n (λ k. only (b k) (x k)) ≤ most → (c : Bool) → b n ≡ c → sum_below n (λ k. only (b k) (x k)) + only (b n) (x n) ≤ most
    last s false is = let z : only (b n) (x n) ≡ 0 = ap (λ c. only c (x n)) is in omega (arith, z, s)
    last s true is =
        let z : only (b n) (x n) ≡ x n = ap (λ c. only c (x n)) is in
        let none = sum-none n (λ k. only (b k) (x k)) (λ k kl. off is k kl (b k) refl) in
        let q = small n (omega arith) in omega (arith, z, none, q)

-- ---- what is left at nodes and behind edges

module _ (g : Graph) (l : Loops) (extent : ℕ → ℕ → Bool) (w : ℕ → ℕ) (n : Numbers) (is : IsAnalyzed g l extent w n) where
  header_at : (k : ℕ) (o : Option ℕ) → is_header l k o ≡ true → o ≡ Some (l.header k)
  header_at k None h = let never : ⊥ = cc in absurd never
  header_at k (Some v) h = ap Some (eqb-true v (l.header k) h)

  back_header : (k e : ℕ) → is_back g l k e ≡ true → g.target e ≡ Some (l.header k)
  back_header k e h = header_at k (g.target e) (and_parts (l.inside k (g.source e)) (is_header l k (g.target e)) h).1

  some_is : {a b : ℕ} → Some a ≡ Some b → a ≡ b
  some_is e = cc

  turned_back : (most : ℕ) → ((e : ℕ) → e < g.edges → w e ≤ most) → (e : ℕ) → turn_back g l n e ≤ n.worst 0 + most
  turned_back most light e =
      let o = call_order g is.program in
      one_at_most l.loops (n.worst 0 + most) (λ k. is_back g l k e) n.iteration
      (λ j k jl kl bj bk. headers-distinct g l extent is.program (accepted_entered is.accepted) j k jl kl (some_is (sym (back_header j e bj) ∙ back_header k e bk)))
      (λ k kl. iteration-worst g l extent w n is most (λ d dl none. light d dl) o.0 o.1 k kl)

  pub slack_in_range : (most : ℕ) → ((e : ℕ) → e < g.edges → w e ≤ most) → (e : ℕ) → e < g.edges → slack_at g l w n e ≤ n.worst 0 + n.worst 0 + most
  slack_in_range most light e lt =
      let o = call_order g is.program in
      let node = left-worst g l extent w n is.program is.accepted is.weights is.numbers o.0 o.1 (g.source e) (e, lt, refl) in
      let back = turned_back most light e in
      let whole : slack g l n (cost g n w) e ≤ n.left (g.source e) + turn_back g l n e = omega arith in
      by (is_some (g.target e)) (omega (arith, node, back, whole))
    where
      by : (b : Bool) → slack g l n (cost g n w) e ≤ n.worst 0 + n.worst 0 + most → only b (slack g l n (cost g n w) e) ≤ n.worst 0 + n.worst 0 + most
      by true h = h
      by false h = omega arith

  pub rest_in_range : (e : ℕ) → e < g.edges → rest_at g l n e ≤ n.worst 0
  rest_in_range e lt = by (g.target e) refl
    where
      by : (o : Option ℕ) → g.target e ≡ o → rest_at g l n e ≤ n.worst 0
      by None to = let z : rest_at g l n e ≡ 0 = ap (λ q. only (is_some q) (rest g l n e)) to in omega (arith, z)
      by (Some v) to =
          let o = call_order g is.program in
          let z : rest_at g l n e ≡ rest g l n e = ap (λ q. only (is_some q) (rest g l n e)) to in
          let r = rest-worst g l extent w n is.program is.accepted is.weights is.numbers o.0 o.1 e v lt to in omega (arith, z, r)

  pub turns_in_range : (k : ℕ) → k < l.loops → l.bound k * n.iteration k ≤ n.worst 0
  turns_in_range k kl = let o = call_order g is.program in turns-worst g l extent w n is.program is.accepted is.weights is.numbers o.0 o.1 k kl
