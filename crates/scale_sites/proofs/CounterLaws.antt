-- The counted loops, and the least back edge that can't be counted.
use Rattle.std.proofs.Common.{◌≡◌, ℕ, zero, suc, ◌+◌, ◌<◌, ◌≤◌, ◌⊎◌, inl, inr, Bool, true, false, List, [], ◌∷◌, ◌++◌, drop, length, slice_get, Option, Some, None, refl, sym, ap, ◌∙◌, subst, arith, ⊎_elim}
use Rattle.std.proofs.lemmas.List.{append_assoc}
use Rattle.std.proofs.lemmas.Bool.{cases_lt}
use Rattle.std.proofs.lemmas.Option.{same_Some, none-some}
use Rattle.flow_graph.specs.FlowGraph.{FlowGraph}
use Rattle.loop_forest.specs.Tree.{LoopView, IsLoopTree}
use Rattle.scale_sites.specs.declared.counting.BackEdge.{BackEdge}
use Rattle.scale_base.specs.declared.edges.Edge.{Edge}
use Rattle.scale_sites.specs.Counters.{goes_on, edge_goes_on, set_from, IsUncountable, IsFirstUncountable, HasNone}

-- an edge is a back edge of one loop at most
one_loop : (v : FlowGraph) (t : LoopView) (extent : ℕ → ℕ → Bool) (j k e : ℕ) → IsLoopTree v extent t → IsUncountable v t j e → IsUncountable v t k e → j ≡ k
one_loop v t extent j k e tree a b =
    let at_j : slice_get t.backs e ≡ Some (Some j) = (tree.backs e j).1 (a.edge, a.within, a.back) in
    let at_k : slice_get t.backs e ≡ Some (Some k) = (tree.backs e k).1 (b.edge, b.within, b.back) in
    same_Some j k (same_Some (Some j) (Some k) (sym at_j ∙ at_k))

pub known_loop : (v : FlowGraph) (t : LoopView) (extent : ℕ → ℕ → Bool) (k l e : ℕ) → IsLoopTree v extent t → slice_get t.backs e ≡ Some (Some l) → IsUncountable v t k e → Some l ≡ Some k
known_loop v t extent k l e tree here is =
    let at : slice_get t.backs e ≡ Some (Some k) = (tree.backs e k).1 (is.edge, is.within, is.back) in
    same_Some (Some l) (Some k) (sym here ∙ at)

-- of the first n edges, the least one
abbrev pub AreFirst : FlowGraph → LoopView → ℕ → Option BackEdge → Type 0
AreFirst v t n None = (k e : ℕ) → e < n → IsUncountable v t k e → ⊥
AreFirst v t n (Some b) = (b.e < n) × IsUncountable v t b.l b.e × ((j d : ℕ) → d < n → IsUncountable v t j d → (b.l < j) ⊎ ((b.l ≡ j) × (b.e ≤ d)))

pub first_on : (v : FlowGraph) (t : LoopView) (n : ℕ) (first : Option BackEdge) → ((k : ℕ) → IsUncountable v t k n → ⊥) → AreFirst v t n first → AreFirst v t (n + 1) first
first_on v t n None none are = λ k e lt is. ⊎_elim
    (λ (low : e < n). are k e low is)
    (λ (high : n ≤ e). let same : e ≡ n = omega arith in none k (subst (IsUncountable v t k) same is))
    (cases_lt e n)
first_on v t n (Some b) none are = (
  (let low = are.0 in let r : b.e < n + 1 = omega arith in r),
  are.1,
  λ j d lt is. ⊎_elim
      (λ (low : d < n). are.2 j d low is)
      (λ (high : n ≤ d). let same : d ≡ n = omega arith in absurd (none j (subst (IsUncountable v t j) same is)))
      (cases_lt d n),
)

pub first_more : (v : FlowGraph) (t : LoopView) (extent : ℕ → ℕ → Bool) (n : ℕ) (next : BackEdge) (first result : Option BackEdge) → IsLoopTree v extent t → next.e ≡ n → IsUncountable v t next.l next.e →
    ((b : BackEdge) → first ≡ Some b → (next.l < b.l → result ≡ Some next) × (b.l ≤ next.l → result ≡ Some b)) → (first ≡ None → result ≡ Some next) → AreFirst v t n first → AreFirst v t (n + 1) result
first_more v t extent n next None result tree at is some none are = subst (AreFirst v t (n + 1)) (sym (none refl)) (
  (let r : next.e < n + 1 = omega arith in r),
  is,
  λ j d lt other. ⊎_elim
      (λ (low : d < n). absurd (are j d low other))
      (λ (high : n ≤ d).
      let same : d ≡ next.e = omega arith in
      let r : (next.l < j) ⊎ ((next.l ≡ j) × (next.e ≤ d)) = inr (one_loop v t extent next.l j next.e tree is (subst (IsUncountable v t j) same other), (let q : next.e ≤ d = omega arith in q)) in r)
      (cases_lt d n),
)
first_more v t extent n next (Some b) result tree at is some none are = ⊎_elim
    (λ (less : next.l < b.l). subst (AreFirst v t (n + 1)) (sym ((some b refl).0 less)) (
      (let r : next.e < n + 1 = omega arith in r),
      is,
      λ j d lt other. ⊎_elim
          (λ (low : d < n). ⊎_elim
          (λ (more : b.l < j). let r : (next.l < j) ⊎ ((next.l ≡ j) × (next.e ≤ d)) = inl (let q : next.l < j = omega arith in q) in r)
          (λ (same : (b.l ≡ j) × (b.e ≤ d)). let e = same.0 in let r : (next.l < j) ⊎ ((next.l ≡ j) × (next.e ≤ d)) = inl (let q : next.l < j = omega arith in q) in r)
          (are.2 j d low other))
          (λ (high : n ≤ d).
          let same : d ≡ next.e = omega arith in
          let r : (next.l < j) ⊎ ((next.l ≡ j) × (next.e ≤ d)) = inr (one_loop v t extent next.l j next.e tree is (subst (IsUncountable v t j) same other), (let q : next.e ≤ d = omega arith in q)) in r)
          (cases_lt d n),
    ))
    (λ (up : b.l ≤ next.l). subst (AreFirst v t (n + 1)) (sym ((some b refl).1 up)) (
      (let low = are.0 in let r : b.e < n + 1 = omega arith in r),
      are.1,
      λ j d lt other. ⊎_elim
          (λ (low : d < n). are.2 j d low other)
          (λ (high : n ≤ d).
          let same : d ≡ next.e = omega arith in
          let one : next.l ≡ j = one_loop v t extent next.l j next.e tree is (subst (IsUncountable v t j) same other) in
          let low = are.0 in
          ⊎_elim
          (λ (less : b.l < j). let r : (b.l < j) ⊎ ((b.l ≡ j) × (b.e ≤ d)) = inl less in r)
          (λ (more : j ≤ b.l). let r : (b.l < j) ⊎ ((b.l ≡ j) × (b.e ≤ d)) = inr ((let q : b.l ≡ j = omega arith in q), (let q : b.e ≤ d = omega arith in q)) in r)
          (cases_lt b.l j))
          (cases_lt d n),
    ))
    (cases_lt next.l b.l)

pub first_last : (v : FlowGraph) (t : LoopView) (n : ℕ) (b : BackEdge) → n ≡ length v.code.edges → AreFirst v t n (Some b) → IsFirstUncountable v t b.l b.e
first_last v t n b last are = record {
  is = are.1;
  least = λ j d is. let lt = is.edge in are.2 j d (let r : d < n = omega arith in r) is;
}

pub none_last : (v : FlowGraph) (t : LoopView) (n : ℕ) → n ≡ length v.code.edges → AreFirst v t n None → HasNone v t
none_last v t n last are k e is = let lt = is.edge in are k e (let r : e < n = omega arith in r) is

-- ---- flags that are set

drop_get : (xs : List Bool) (l : ℕ) (b : Bool) → slice_get xs l ≡ Some b → drop l xs ≡ b ∷ drop (suc l) xs
drop_get [] l b e = absurd (none-some b e)
drop_get (x ∷ xs) zero b e = let same : x ≡ b = same_Some x b e in ap (λ y. y ∷ xs) same
drop_get (x ∷ xs) (suc l) b e = drop_get xs l b e

next_is : (l : ℕ) → suc l ≡ l + 1
next_is l = omega arith

pub set_more : (xs : List Bool) (found : List ℕ) (l : ℕ) → slice_get xs l ≡ Some true → found ++ set_from l (drop l xs) ≡ set_from 0 xs → (found ++ l ∷ []) ++ set_from (l + 1) (drop (l + 1) xs) ≡ set_from 0 xs
set_more xs found l here whole =
    let split : set_from l (drop l xs) ≡ l ∷ set_from (l + 1) (drop (l + 1) xs) = ap (set_from l) (drop_get xs l true here) ∙ ap (λ m. l ∷ set_from (l + 1) (drop m xs)) (next_is l) in
    append_assoc found (l ∷ []) (set_from (l + 1) (drop (l + 1) xs)) ∙ ap (λ ys. found ++ ys) (sym split) ∙ whole

pub set_skip : (xs : List Bool) (found : List ℕ) (l : ℕ) → slice_get xs l ≡ Some false → found ++ set_from l (drop l xs) ≡ set_from 0 xs → found ++ set_from (l + 1) (drop (l + 1) xs) ≡ set_from 0 xs
set_skip xs found l here whole =
    let split : set_from l (drop l xs) ≡ set_from (l + 1) (drop (l + 1) xs) = ap (set_from l) (drop_get xs l false here) ∙ ap (λ m. set_from (l + 1) (drop m xs)) (next_is l) in
    ap (λ ys. found ++ ys) (sym split) ∙ whole

drop_all : (xs : List Bool) → drop (length xs) xs ≡ []
drop_all [] = refl
drop_all (x ∷ xs) = drop_all xs

append_none : (xs : List ℕ) → xs ++ [] ≡ xs
append_none [] = refl
append_none (x ∷ xs) = ap (λ ys. x ∷ ys) (append_none xs)

pub set_last : (xs : List Bool) (found : List ℕ) (l : ℕ) → l ≡ length xs → found ++ set_from l (drop l xs) ≡ set_from 0 xs → found ≡ set_from 0 xs
set_last xs found l last whole =
    let none : set_from l (drop l xs) ≡ [] = ap (λ m. set_from l (drop m xs)) last ∙ ap (set_from l) (drop_all xs) in
    sym (append_none found) ∙ ap (λ ys. found ++ ys) (sym none) ∙ whole

-- ---- one edge

pub is_known : (v : FlowGraph) (t : LoopView) (extent : ℕ → ℕ → Bool) (l e : ℕ) (edge : Edge) → IsLoopTree v extent t → slice_get v.code.edges e ≡ Some edge → goes_on edge.kind ≡ true → slice_get t.backs e ≡ Some (Some l) → slice_get t.counted l ≡ Some true → IsUncountable v t l e
is_known v t extent l e edge tree at on here counted =
    let back = (tree.backs e l).0 here in
    record { edge = back.0; within = back.1; back = back.2; counted = counted; on = ap edge_goes_on at ∙ on }
