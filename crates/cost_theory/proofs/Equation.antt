-- The greatest cost of a bounded walk from an entry: what is left at the entry, and all turns of the loop whose header it is.
use Rattle.std.proofs.Common.{◌≡◌, ◌≢◌, ℕ, ◌+◌, ◌*◌, ◌<◌, Bool, true, false, List, ◌++◌, Some, refl, sym, ap, ◌∙◌, subst, arith, ⊎_elim}
use Rattle.cost_theory.specs.Graph.{Graph, Loops, IsWalk, end_of, total, sum_below, only, IsPlainPath, AreWithin, IsBounded}
use Rattle.cost_theory.specs.Worst.{Numbers, IsGreatest, all_of, charged, AreLoopNumbers, IsBoundedWalk}
use Rattle.cost_theory.proofs.Basics.{search_below, sum-one, sum-none, total-append, only_true, only_false}
use Rattle.cost_theory.proofs.Append.{counts_along, walk-append, bounded-append, within_along, times, total-times}
use Rattle.cost_theory.proofs.Potential.{walk-worst}
use Rattle.cost_theory.proofs.Turns.{AreNested, Turn, turn_of, fill_path, times_walk, times_ends, times_bounded}

module _ (g : Graph) (l : Loops) (c : ℕ → ℕ) (n : Numbers) (nest : AreNested g l) (nums : AreLoopNumbers g l c n) where
  -- a node that lies in no loop but as its header: a function's entry
  abbrev pub IsAtHeaders : ℕ → Type 0
  IsAtHeaders v = (k : ℕ) → k < l.loops → l.inside k v ≡ true → v ≡ l.header k

  -- there what is left is a plain path
  pub left-plain : (v : ℕ) → IsAtHeaders v → n.left v ≡ n.plain v
  left-plain v at = ⊎_elim (λ e. e)
      (λ (m : (k : ℕ) × (b : ℕ) × (k < l.loops) × (l.inside k v ≡ true) × (l.header k ≢ v) × (n.closing k v ≡ Some b) ×
      (n.left v + n.iteration k ≡ b + n.left (l.header k))). absurd (m.4 (sym (at m.0 m.2 m.3))))
      (nums.left v).attained

  pub worst_walk : (v : ℕ) → IsAtHeaders v →
      (es : List ℕ) × IsBoundedWalk g l v es × (total c es ≡ n.left v + sum_below l.loops (λ k. only (l.inside k v) (all_of l n k)))
  worst_walk v at = ⊎_elim
      (λ (f : (k : ℕ) × (k < l.loops) × (l.inside k v ≡ true)). looping f.0 f.1 f.2)
      (λ (none : (k : ℕ) → k < l.loops → l.inside k v ≡ false). plainly none)
      (search_below l.loops (λ k. l.inside k v))
    where
      best : IsGreatest (IsPlainPath g l (Some v)) (total (charged g l n c)) (n.plain v)
      best = nums.plain v

      path : (xs : List ℕ) × IsWalk g (Some v) xs × (total c xs ≡ total (charged g l n c) best.reached.0) × ((counts : ℕ → ℕ) → AreWithin l counts → IsBounded g l counts xs)
      path = fill_path g l c n nest nums best.reached.0 (Some v) best.reached.1

      cost : total c path.0 ≡ n.left v
      cost = path.2 ∙ best.reached.2 ∙ sym (left-plain v at)

      fresh : AreWithin l (λ k. 0)
      fresh k kl = omega arith

      plainly : ((k : ℕ) → k < l.loops → l.inside k v ≡ false) →
          (es : List ℕ) × IsBoundedWalk g l v es × (total c es ≡ n.left v + sum_below l.loops (λ k. only (l.inside k v) (all_of l n k)))
      plainly none =
          let z : sum_below l.loops (λ k. only (l.inside k v) (all_of l n k)) ≡ 0 =
          sum-none l.loops (λ k. only (l.inside k v) (all_of l n k)) (λ k kl. only_false (l.inside k v) (all_of l n k) (none k kl)) in
          let q : total c path.0 ≡ n.left v = cost in
          (path.0, (path.1, path.3 (λ k. 0) fresh), omega arith)

      looping : (k : ℕ) → k < l.loops → l.inside k v ≡ true →
          (es : List ℕ) × IsBoundedWalk g l v es × (total c es ≡ n.left v + sum_below l.loops (λ k. only (l.inside k v) (all_of l n k)))
      looping k kl in_k =
          let t : Turn g l c n k = turn_of g l c n nest nums k kl in
          let head : v ≡ l.header k = at k kl in_k in
          let round : IsWalk g (Some v) (times (l.bound k) t.es) = subst (λ u. IsWalk g (Some u) (times (l.bound k) t.es)) (sym head) (times_walk g l c n nest k (l.bound k) t) in
          let ends : end_of g (Some v) (times (l.bound k) t.es) ≡ Some v = subst (λ u. end_of g (Some u) (times (l.bound k) t.es) ≡ Some u) (sym head) (times_ends g l c n nest k (l.bound k) t) in
          let bounded : IsBounded g l (λ k. 0) (times (l.bound k) t.es) = times_bounded g l c n nest k (l.bound k) t (λ k. 0) fresh (omega arith) in
          let one : sum_below l.loops (λ k. only (l.inside k v) (all_of l n k)) ≡ only (l.inside k v) (all_of l n k) =
          sum-one l.loops (λ k. only (l.inside k v) (all_of l n k)) k kl (λ j jl ne. other k kl in_k j jl ne (l.inside j v) refl) in
          let is : only (l.inside k v) (all_of l n k) ≡ all_of l n k = only_true (l.inside k v) (all_of l n k) in_k in
          let all : total c (times (l.bound k) t.es) ≡ l.bound k * total c t.es = total-times c (l.bound k) t.es in
          let each : l.bound k * total c t.es ≡ l.bound k * n.iteration k = ap (λ x. l.bound k * x) t.costs in
          let both : total c (times (l.bound k) t.es ++ path.0) ≡ total c (times (l.bound k) t.es) + total c path.0 = total-append c (times (l.bound k) t.es) path.0 in
          let q : total c path.0 ≡ n.left v = cost in (
            times (l.bound k) t.es ++ path.0,
            (
              walk-append g l (times (l.bound k) t.es) path.0 (Some v) round (subst (λ o. IsWalk g o path.0) (sym ends) path.1),
              bounded-append g l (times (l.bound k) t.es) path.0 (λ k. 0) bounded
                  (path.3 (counts_along g l (λ k. 0) (times (l.bound k) t.es)) (within_along g l (times (l.bound k) t.es) (λ k. 0) fresh bounded)),
            ),
            omega arith,
          )
        where
          other : (k : ℕ) → k < l.loops → l.inside k v ≡ true → (j : ℕ) → j < l.loops → j ≢ k → (b : Bool) → l.inside j v ≡ b → only b (all_of l n j) ≡ 0
          other k kl in_k j jl ne false is = refl
          other k kl in_k j jl ne true is = absurd (ne (nest.distinct j k jl kl (sym (at j jl is) ∙ at k kl in_k)))

  -- the equation
  pub worst_is : (v : ℕ) → IsAtHeaders v →
      IsGreatest (IsBoundedWalk g l v) (total c) (n.left v + sum_below l.loops (λ k. only (l.inside k v) (all_of l n k)))
  worst_is v at = record {
    reached = worst_walk v at;
    most = (λ es walk. walk-worst g l c n nums nest.ways v es walk.0 walk.1);
  }
