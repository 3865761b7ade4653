-- An edge has at most 17 marks, since no loop is in more than 16 bodies: an Exit or a Reset of each counted loop that it leaves, and a Count.
use Rattle.std.proofs.Common.{◌≡◌, ℕ, zero, suc, ◌+◌, ◌<◌, ◌≤◌, ◌⊎◌, inl, inr, Bool, true, false, not, ◌&&◌, ◌||◌, nat_le, List, [], ◌∷◌, ◌++◌, length, Option, Some, None, refl, sym, ap, ◌∙◌, subst, arith, ⊎_elim, eqb-true}
use Rattle.std.proofs.lemmas.Bool.{cases_lt, and_parts, false_from_ne_true}
use Rattle.std.proofs.lemmas.List.{length-append}
use Rattle.cost_theory.specs.Graph.{Graph, Loops, sum_below, only, is_header, leaves, goes_back}
use Rattle.cost_theory.specs.Accepted.{IsProgram, AreAccepted}
use Rattle.cost_theory.proofs.Laws.{sum-le, sum-none, accepted_entered, header_held}
use Rattle.scale_base.specs.declared.fragments.Mark.{Mark}
use Rattle.scale_base.specs.declared.fragments.Mark.TheVariants as marks
use Rattle.scale_sites.specs.Counters.{set_from}
use Rattle.scale_sites.specs.Marks.{first_counter, mark_if, leaves_any, holds_left, is_outermost, switch_of, exits_from, resets_from, counts_from, marks_at, IsListedLoop, AreLoopsOnce, AreDistinctLoops}
use Rattle.scale_sites.proofs.Laws.{switches-one}
use Rattle.rewritten_runs.proofs.MarkLists.{marks_from, exits_are, resets_are, counts_are}

abbrev count : (ℕ → Bool) → List ℕ → ℕ
count test [] = 0
count test (k ∷ ks) = only (test k) 1 + count test ks

if_length : (b : Bool) (m : Mark) → length (mark_if b m) ≡ only b 1
if_length true m = refl
if_length false m = refl

from_length : (test : ℕ → Bool) (make : ℕ → Mark) (i : ℕ) (ks : List ℕ) → length (marks_from test make i ks) ≡ count test ks
from_length test make i [] = refl
from_length test make i (k ∷ ks) =
    let rest = from_length test make (i + 1) ks in
    omega (arith, length-append (mark_if (test k) (make i)) (marks_from test make (i + 1) ks), if_length (test k) (make i), rest)

-- one of two
both_count : (one other all : ℕ → Bool) (ks : List ℕ) → ((k : ℕ) → only (one k) 1 + only (other k) 1 ≤ only (all k) 1) → count one ks + count other ks ≤ count all ks
both_count one other all [] h = omega arith
both_count one other all (k ∷ ks) h = let here = h k in let rest = both_count one other all ks h in omega (arith, here, rest)

none_count : (test : ℕ → Bool) (ks : List ℕ) → ((k : ℕ) → IsListedLoop k ks → test k ≡ false) → count test ks ≡ 0
none_count test [] h = refl
none_count test (k ∷ ks) h =
    let here : only (test k) 1 ≡ 0 = ap (λ b. only b 1) (h k (inl refl)) in
    let rest = none_count test ks (λ j q. h j (inr q)) in omega (arith, here, rest)

-- those that pass are one
one_count : (test : ℕ → Bool) (ks : List ℕ) → AreDistinctLoops ks → ((j k : ℕ) → IsListedLoop j ks → IsListedLoop k ks → test j ≡ true → test k ≡ true → j ≡ k) → count test ks ≤ 1
one_count test [] distinct same = omega arith
one_count test (k ∷ ks) distinct same = by (test k) refl (one_count test ks distinct.1 (λ i j a b. same i j (inr a) (inr b)))
  where
    by : (b : Bool) → test k ≡ b → count test ks ≤ 1 → only (test k) 1 + count test ks ≤ 1
    by true on rest =
        let none = none_count test ks (λ j q. false_from_ne_true (test j) (λ there. distinct.0 (subst (λ x. IsListedLoop x ks) (same j k (inr q) (inl refl) there on) q))) in
        let here : only (test k) 1 ≡ 1 = ap (λ b. only b 1) on in omega (arith, here, none)
    by false off rest = let here : only (test k) 1 ≡ 0 = ap (λ b. only b 1) off in omega (arith, here, rest)

-- ---- the loops of a list among all

front_sum : (n : ℕ) (f : ℕ → ℕ) → sum_below (suc n) f ≡ f 0 + sum_below n (λ k. f (suc k))
front_sum zero f = omega arith
front_sum (suc n) f = let rest = front_sum n f in omega (arith, rest)

set_count : (test : ℕ → Bool) (i : ℕ) (flags : List Bool) → count test (set_from i flags) ≤ sum_below (length flags) (λ k. only (test (i + k)) 1)
set_count test i [] = omega arith
set_count test i (true ∷ flags) =
    let rest = set_count test (i + 1) flags in
    let front = front_sum (length flags) (λ k. only (test (i + k)) 1) in
    let z : only (test (i + 0)) 1 ≡ only (test i) 1 = (let e : i + 0 ≡ i = omega arith in ap (λ x. only (test x) 1) e) in
    let s : sum_below (length flags) (λ k. only (test (i + 1 + k)) 1) ≤ sum_below (length flags) (λ k. only (test (i + suc k)) 1) =
    sum-le (length flags) (λ k. only (test (i + 1 + k)) 1) (λ k. only (test (i + suc k)) 1) (λ k kl. let e : i + 1 + k ≡ i + suc k = omega arith in let q = ap (λ x. only (test x) 1) e in omega (arith, q)) in
    omega (arith, rest, front, z, s)
set_count test i (false ∷ flags) =
    let rest = set_count test (i + 1) flags in
    let front = front_sum (length flags) (λ k. only (test (i + k)) 1) in
    let s : sum_below (length flags) (λ k. only (test (i + 1 + k)) 1) ≤ sum_below (length flags) (λ k. only (test (i + suc k)) 1) =
    sum-le (length flags) (λ k. only (test (i + 1 + k)) 1) (λ k. only (test (i + suc k)) 1) (λ k kl. let e : i + 1 + k ≡ i + suc k = omega arith in let q = ap (λ x. only (test x) 1) e in omega (arith, q)) in
    omega (arith, rest, front, s)

only_le : (a b : Bool) → (a ≡ true → b ≡ true) → only a 1 ≤ only b 1
only_le true b h = let e : only b 1 ≡ 1 = ap (λ q. only q 1) (h refl) in omega (arith, e)
only_le false b h = omega arith

module _ (g : Graph) (l : Loops) (extent : ℕ → ℕ → Bool) (prog : IsProgram g) (acc : AreAccepted g l extent) (flags : List Bool) (size : length flags ≡ l.loops) (are : AreLoopsOnce l (set_from 0 flags)) (distinct : AreDistinctLoops (set_from 0 flags)) where
  abbrev counted : List ℕ
  counted = set_from 0 flags

  -- so many loops are round a node, which all hold the header of the least of them
  pub depth : (u : ℕ) (o : Option ℕ) → ((o ≡ None) × ((k : ℕ) → k < l.loops → l.inside k u ≡ true → ⊥)) ⊎ ((j : ℕ) × (j < l.loops) × (l.inside j u ≡ true) × ((k w : ℕ) → k < l.loops → l.inside k u ≡ true → l.inside j w ≡ true → l.inside k w ≡ true))
      → sum_below l.loops (λ k. only (l.inside k u) 1) ≤ 16
  depth u o (inl none) =
      let z = sum-none l.loops (λ k. only (l.inside k u) 1) (λ k kl. ap (λ b. only b 1) (false_from_ne_true (l.inside k u) (none.1 k kl))) in omega (arith, z)
  depth u o (inr least) =
      let j = least.0 in
      let head = header_held g l extent prog (accepted_entered acc) j least.1 in
      let le = sum-le l.loops (λ k. only (l.inside k u) 1) (λ k. only (l.inside k (l.header j)) 1) (λ k kl. only_le (l.inside k u) (l.inside k (l.header j)) (λ on. least.3 k (l.header j) kl on head)) in
      ⊎_elim
      (λ (deep : 16 < sum_below l.loops (λ k. only (l.inside k (l.header j)) 1)). absurd (acc.not_deep j least.1 deep))
      (λ (fine : sum_below l.loops (λ k. only (l.inside k (l.header j)) 1) ≤ 16). omega (arith, le, fine))
      (cases_lt 16 (sum_below l.loops (λ k. only (l.inside k (l.header j)) 1)))

  leaves_in : (k u : ℕ) (p : Option ℕ) → leaves l k u p ≡ true → l.inside k u ≡ true
  leaves_in k u None h = let never : ⊥ = cc in absurd never
  leaves_in k u (Some w) h = (and_parts (l.inside k u) (not (l.inside k w)) h).0

  left_few : (u : ℕ) (p : Option ℕ) → sum_below l.loops (λ k. only (l.inside k u) 1) ≤ 16 → count (λ k. leaves l k u p) counted ≤ 16
  left_few u p few =
      let all = set_count (λ k. leaves l k u p) 0 flags in
      let s = sum-le l.loops (λ k. only (leaves l (0 + k) u p) 1) (λ k. only (l.inside k u) 1) (λ k kl. let e : 0 + k ≡ k = omega arith in only_le (leaves l (0 + k) u p) (l.inside k u) (λ on. leaves_in k u p (subst (λ x. leaves l x u p ≡ true) e on))) in
      let n : sum_below (length flags) (λ k. only (leaves l (0 + k) u p) 1) ≡ sum_below l.loops (λ k. only (leaves l (0 + k) u p) 1) = ap (λ m. sum_below m (λ k. only (leaves l (0 + k) u p) 1)) size in
      omega (arith, all, s, n, few)

  any_none : (u : ℕ) (p : Option ℕ) (ks : List ℕ) → leaves_any l u p ks ≡ false → (k : ℕ) → IsListedLoop k ks → leaves l k u p ≡ false
  any_none u p [] h k q = absurd q
  any_none u p (j ∷ ks) h k (inl e) = ap (λ x. leaves l x u p) e ∙ or_first (leaves l j u p) (leaves_any l u p ks) h
    where
      or_first : (a b : Bool) → (a || b) ≡ false → a ≡ false
      or_first true b q = q
      or_first false b q = refl
  any_none u p (j ∷ ks) h k (inr q) = any_none u p ks (or_rest (leaves l j u p) (leaves_any l u p ks) h) k q
    where
      or_rest : (a b : Bool) → (a || b) ≡ false → b ≡ false
      or_rest true b r = let never : ⊥ = cc in absurd never
      or_rest false b r = r

  -- loops to whose header a step goes back are one
  back_one : (u : ℕ) (p : Option ℕ) → count (λ k. goes_back l k u p) counted ≤ 1
  back_one u p = one_count (λ k. goes_back l k u p) counted distinct (λ j k a b on there. same j k p (are j a) (are k b) (and_parts (l.inside j u) (is_header l j p) on).1 (and_parts (l.inside k u) (is_header l k p) there).1)
    where
      same : (j k : ℕ) (p : Option ℕ) → j < l.loops → k < l.loops → is_header l j p ≡ true → is_header l k p ≡ true → j ≡ k
      same j k None jl kl a b = let never : ⊥ = cc in absurd never
      same j k (Some w) jl kl a b =
          let e : l.header j ≡ l.header k = sym (eqb-true w (l.header j) a) ∙ eqb-true w (l.header k) b in
          ⊎_elim (λ (lt : j < k). absurd (acc.distinct j k kl (lt, e)))
          (λ (ge : k ≤ j). ⊎_elim (λ (lt : k < j). absurd (acc.distinct k j jl (lt, sym e))) (λ (le : j ≤ k). let q : j ≡ k = omega arith in q) (cases_lt k j))
          (cases_lt j k)

  pub few_marks : (e : ℕ) (branch : Bool) (slack min_gain : ℕ) → e < g.edges → sum_below l.loops (λ k. only (l.inside k (g.source e)) 1) ≤ 16 → length (marks_at l counted branch slack min_gain (g.source e) (g.target e)) ≤ 17
  few_marks e branch slack min_gain lt depth_is = by (leaves_any l (g.source e) (g.target e) counted) refl
    where
      u : ℕ
      u = g.source e

      p : Option ℕ
      p = g.target e

      by : (b : Bool) → leaves_any l (g.source e) (g.target e) counted ≡ b → length (marks_at l counted branch slack min_gain (g.source e) (g.target e)) ≤ 17
      by b is =
          let s = switch_of l (g.source e) (g.target e) counted branch slack min_gain in
          let x = exits_from l (g.source e) (g.target e) counted first_counter counted in
          let r = resets_from l (g.source e) (g.target e) counted first_counter counted in
          let c = counts_from l (g.source e) (g.target e) first_counter counted in
          let xl : length x ≡ count (λ k. is_outermost l (g.source e) (g.target e) k counted) counted = ap length (exits_are l (g.source e) (g.target e) counted first_counter counted) ∙ from_length (λ k. is_outermost l (g.source e) (g.target e) k counted) marks.Exit first_counter counted in
          let rl : length r ≡ count (λ k. leaves l k (g.source e) (g.target e) && not (is_outermost l (g.source e) (g.target e) k counted)) counted = ap length (resets_are l (g.source e) (g.target e) counted first_counter counted) ∙ from_length (λ k. leaves l k (g.source e) (g.target e) && not (is_outermost l (g.source e) (g.target e) k counted)) marks.Reset first_counter counted in
          let cl : length c ≡ count (λ k. goes_back l k (g.source e) (g.target e)) counted = ap length (counts_are l (g.source e) (g.target e) first_counter counted) ∙ from_length (λ k. goes_back l k (g.source e) (g.target e)) marks.Count first_counter counted in
          let both = both_count (λ k. is_outermost l (g.source e) (g.target e) k counted) (λ k. leaves l k (g.source e) (g.target e) && not (is_outermost l (g.source e) (g.target e) k counted)) (λ k. leaves l k (g.source e) (g.target e)) counted
          (λ k. split (leaves l k (g.source e) (g.target e)) (holds_left l (g.source e) (g.target e) k counted)) in
          let left = left_few (g.source e) (g.target e) depth_is in
          let back = back_one (g.source e) (g.target e) in
          let one = switches-one g l extent prog acc counted are e branch slack min_gain first_counter lt distinct in
          let total = length-append s (x ++ (r ++ c)) in
          let total2 = length-append x (r ++ c) in
          let total3 = length-append r c in
          let sx = length-append s x in
          by_switch b is s refl (length x) (length r) (length c) xl rl cl both left back one total total2 total3 sx
        where
          split : (lv hd : Bool) → only (lv && hd) 1 + only (lv && not (lv && hd)) 1 ≤ only lv 1
          split true true = omega arith
          split true false = omega arith
          split false hd = omega arith

          by_switch : (b : Bool) → leaves_any l (g.source e) (g.target e) counted ≡ b → (s : List Mark) → switch_of l (g.source e) (g.target e) counted branch slack min_gain ≡ s → (nx nr nc : ℕ) → nx ≡ count (λ k. is_outermost l (g.source e) (g.target e) k counted) counted
              → nr ≡ count (λ k. leaves l k (g.source e) (g.target e) && not (is_outermost l (g.source e) (g.target e) k counted)) counted → nc ≡ count (λ k. goes_back l k (g.source e) (g.target e)) counted
              → count (λ k. is_outermost l (g.source e) (g.target e) k counted) counted + count (λ k. leaves l k (g.source e) (g.target e) && not (is_outermost l (g.source e) (g.target e) k counted)) counted ≤ count (λ k. leaves l k (g.source e) (g.target e)) counted
              → count (λ k. leaves l k (g.source e) (g.target e)) counted ≤ 16 → count (λ k. goes_back l k (g.source e) (g.target e)) counted ≤ 1
              → length (switch_of l (g.source e) (g.target e) counted branch slack min_gain ++ exits_from l (g.source e) (g.target e) counted first_counter counted) ≤ 1
              → length (marks_at l counted branch slack min_gain (g.source e) (g.target e)) ≡ length (switch_of l (g.source e) (g.target e) counted branch slack min_gain) + length (exits_from l (g.source e) (g.target e) counted first_counter counted ++ (resets_from l (g.source e) (g.target e) counted first_counter counted ++ counts_from l (g.source e) (g.target e) first_counter counted))
              → length (exits_from l (g.source e) (g.target e) counted first_counter counted ++ (resets_from l (g.source e) (g.target e) counted first_counter counted ++ counts_from l (g.source e) (g.target e) first_counter counted)) ≡ nx + length (resets_from l (g.source e) (g.target e) counted first_counter counted ++ counts_from l (g.source e) (g.target e) first_counter counted)
              → length (resets_from l (g.source e) (g.target e) counted first_counter counted ++ counts_from l (g.source e) (g.target e) first_counter counted) ≡ nr + nc
              → length (switch_of l (g.source e) (g.target e) counted branch slack min_gain ++ exits_from l (g.source e) (g.target e) counted first_counter counted) ≡ length (switch_of l (g.source e) (g.target e) counted branch slack min_gain) + nx
              → length (marks_at l counted branch slack min_gain (g.source e) (g.target e)) ≤ 17
          by_switch true is s sw nx nr nc xl rl cl both left back one t1 t2 t3 sx =
              let off : length (switch_of l (g.source e) (g.target e) counted branch slack min_gain) ≡ 0 = ap (λ b. length (mark_if (branch && (not b && nat_le min_gain slack)) marks.Switch)) is ∙ none branch in
              omega (arith, off, xl, rl, cl, both, left, back, t1, t2, t3)
            where
              none : (b : Bool) → length (mark_if (b && false) marks.Switch) ≡ 0
              none true = refl
              none false = refl
          by_switch false is s sw nx nr nc xl rl cl both left back one t1 t2 t3 sx =
              let zero_left = none_count (λ k. leaves l k (g.source e) (g.target e)) counted (any_none (g.source e) (g.target e) counted is) in
              omega (arith, zero_left, xl, rl, cl, both, back, one, t1, t2, t3, sx)
