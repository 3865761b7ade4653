-- From the last loops that a pass meets to the least ones.
use Rattle.std.proofs.Common.{◌≡◌, ◌≢◌, ℕ, ◌<◌, ◌≤◌, List, length, Option, Some, None, ◌⊎◌, arith, subst, sym}
use Rattle.std.proofs.Math.Logic.{⊎_elim}
use Rattle.graph_algorithms.specs.declared.nesting.ranks.Rank.{Rank}
use Rattle.graph_algorithms.specs.Nesting.{HasNode, IsRound, AreNested, AreLoops, IsInnermostBody, IsParentBody, IsNextAtHeader, AreHeadersOuter, body_at, header_in_list}
use Rattle.graph_algorithms.specs.NestingPass.{AreFalling, IsLastRank, rank_at}

-- a longer loop stands before a shorter one
pub before_shorter : (bodies : List (List ℕ)) (ranks : List Rank) → AreFalling bodies ranks → (i j k l : ℕ) → i < length ranks → j < length ranks →
    (rank_at ranks i).number ≡ k → (rank_at ranks j).number ≡ l → length (body_at bodies l) < length (body_at bodies k) → i < j
before_shorter bodies ranks f i j k l il jl ik jl' less = ⊎_elim
    (λ (lt : i < j). lt)
    (λ (ge : j ≤ i).
    let le = f.falling j i ge il in
    let le' : length (body_at bodies k) ≤ length (body_at bodies l) = subst (λ x. length (body_at bodies x) ≤ length (body_at bodies l)) ik (subst (λ x. length (body_at bodies (rank_at ranks i).number) ≤ length (body_at bodies x)) jl' le) in
    let bad : ⊥ = omega arith in absurd bad)
    (split i j)
  where
    split : (i j : ℕ) → (i < j) ⊎ (j ≤ i)
    split i j = grind arith

-- a loop that stands before another is not shorter
pub before_longer : (bodies : List (List ℕ)) (ranks : List Rank) → AreFalling bodies ranks → (i j k l : ℕ) → i ≤ j → j < length ranks →
    (rank_at ranks i).number ≡ k → (rank_at ranks j).number ≡ l → length (body_at bodies l) ≤ length (body_at bodies k)
before_longer bodies ranks f i j k l le jl ik jl' =
    subst (λ x. length (body_at bodies l) ≤ length (body_at bodies x)) ik (subst (λ x. length (body_at bodies x) ≤ length (body_at bodies (rank_at ranks i).number)) jl' (f.falling i j le jl))

-- the last of all loops with a node is the least of them
pub innermost_found : (bodies : List (List ℕ)) (ranks : List Rank) (v : ℕ) → AreFalling bodies ranks → AreNested bodies → (o : Option ℕ) → IsLastRank bodies ranks (length ranks) v o → IsInnermostBody bodies v o
innermost_found bodies ranks v f nested None last = λ k kl has.
    let at = f.whole k kl in
    last at.0 at.1 (subst (λ x. HasNode bodies x v) (sym at.2) has)
innermost_found bodies ranks v f nested (Some l) last = (
  last.3.0,
  last.3,
  λ k kl other has.
      let at = f.whole k kl in
      let le : at.0 ≤ last.0 = last.4 at.0 at.1 (subst (λ x. HasNode bodies x v) (sym at.2) has) in
      (nested l k v (λ e. other (sym e)) last.3 has (before_longer bodies ranks f at.0 last.0 k l le last.1 at.2 last.2)).0,
)

-- what the loop at place j finds at its header, before it is written there, is its parent
pub parent_found : (bodies : List (List ℕ)) (headers : List ℕ) (count : ℕ) (ranks : List Rank) (j l : ℕ) → AreFalling bodies ranks → AreLoops bodies headers count → j < length ranks → (rank_at ranks j).number ≡ l → l < length bodies →
    (o : Option ℕ) → IsLastRank bodies ranks j (header_in_list headers l) o → IsParentBody bodies l o
parent_found bodies headers count ranks j l f loops jl at_j ll None last = λ k kl round.
    let at = f.whole k kl in
    let has : HasNode bodies k (header_in_list headers l) = round.1 (header_in_list headers l) (loops.headed l ll) in
    last at.0 (before_shorter bodies ranks f at.0 j k l at.1 jl at.2 at_j round.0) (subst (λ x. HasNode bodies x (header_in_list headers l)) (sym at.2) has)
parent_found bodies headers count ranks j l f loops jl at_j ll (Some p) last =
    let h = header_in_list headers l in
    let other : l ≢ p = λ e. f.distinct last.0 j last.1 jl (subst (λ x. (rank_at ranks last.0).number ≡ x) (sym at_j) (subst (λ x. (rank_at ranks last.0).number ≡ x) (sym e) last.2)) in
    let le : last.0 ≤ j = omega (arith, last.1) in
    let il : last.0 < length ranks = omega (arith, last.1, jl) in
    let round : IsRound bodies p l = loops.nested l p h other (loops.headed l ll) last.3 (before_longer bodies ranks f last.0 j p l le jl last.2 at_j) in (
      last.3.0,
      round,
      λ k kl different outer.
          let at = f.whole k kl in
          let has : HasNode bodies k h = outer.1 h (loops.headed l ll) in
          let before : at.0 < j = before_shorter bodies ranks f at.0 j k l at.1 jl at.2 at_j outer.0 in
          let upto : at.0 ≤ last.0 = last.4 at.0 before (subst (λ x. HasNode bodies x h) (sym at.2) has) in
          (loops.nested p k h (λ e. different (sym e)) last.3 has (before_longer bodies ranks f at.0 last.0 k p upto il at.2 last.2)).0,
    )

-- where no shorter loop has a loop's header, its parent is the least other loop that has it
pub next_at_header : (bodies : List (List ℕ)) (headers : List ℕ) (count : ℕ) (l : ℕ) → AreLoops bodies headers count → AreHeadersOuter bodies headers → l < length bodies → (o : Option ℕ) → IsParentBody bodies l o → IsNextAtHeader bodies headers l o
next_at_header bodies headers count l loops outer ll o = go o where
  round : (k : ℕ) → k ≢ l → HasNode bodies k (header_in_list headers l) → IsRound bodies k l
  round k other has =
      let less = outer l k ll other has in
      loops.nested l k (header_in_list headers l) (λ e. other (sym e)) (loops.headed l ll) has (omega (arith, less))

  go : (o : Option ℕ) → IsParentBody bodies l o → IsNextAtHeader bodies headers l o
  go None least = λ k kl is. least k kl (round k is.0 is.1)
  go (Some p) least =
      (least.0, (λ e. let less : length (body_at bodies l) < length (body_at bodies l) = subst (λ x. length (body_at bodies l) < length (body_at bodies x)) e least.1.0 in let bad : ⊥ = omega (arith, less) in bad, least.1.1 (header_in_list headers l) (loops.headed l ll)), λ k kl different is. least.2 k kl different (round k is.0 is.1))
