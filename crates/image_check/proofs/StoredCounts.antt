-- How often the marks of an edge count, and set back, a counter.
use Rattle.std.proofs.Common.{◌≡◌, ◌⊎◌, inl, inr, ℕ, zero, suc, ◌+◌, ◌<◌, ◌≤◌, Bool, true, false, cond, not, ◌&&◌, List, [], ◌∷◌, ◌++◌, length, slice_get, Option, Some, refl, ap, ◌∙◌, arith, eq-eqb, ne_eqb}
use Rattle.std.specs.Prelude.{◌==◌, if◌then◌else◌, nat_le}
use Rattle.std.specs.List.{sum_by}
use Rattle.std.proofs.lemmas.Bool.{cond-true, cond-false}
use Rattle.std.proofs.lemmas.List.Sums.{sum_by-append, sum_by-cons}
use Rattle.cost_theory.specs.Graph.{Loops, leaves, goes_back}
use Rattle.scale_base.specs.declared.fragments.Mark.{Mark}
use Rattle.scale_base.specs.declared.fragments.Mark.TheVariants as marks
use Rattle.scale_sites.specs.Marks.{first_counter, leaves_any, holds_left, is_outermost, mark_if, switch_of, exits_from, resets_from, counts_from, marks_at}
use Rattle.image_check.specs.Safe.{one_where}

abbrev pub mark_counts : ℕ → Mark → ℕ
mark_counts c marks.Switch = 0
mark_counts c (marks.Exit i) = 0
mark_counts c (marks.Reset i) = 0
mark_counts c (marks.Count i) = if c == i then 1 else 0
mark_counts c marks.Lowest = 0
mark_counts c (marks.Tally i) = if c == i then 1 else 0

abbrev pub mark_clears : ℕ → Mark → ℕ
mark_clears c marks.Switch = 0
mark_clears c (marks.Exit i) = if c == i then 1 else 0
mark_clears c (marks.Reset i) = if c == i then 1 else 0
mark_clears c (marks.Count i) = 0
mark_clears c marks.Lowest = 0
mark_clears c (marks.Tally i) = 0

-- ---- marks for the loops of a list, one counter each

-- a mark for each loop that passes the test
abbrev marks_for : (ℕ → Bool) → (ℕ → Mark) → ℕ → List ℕ → List Mark
marks_for test make i [] = []
marks_for test make i (k ∷ ks) = mark_if (test k) (make i) ++ marks_for test make (i + 1) ks

exits_are : (l : Loops) (u : ℕ) (p : Option ℕ) (counted : List ℕ) (i : ℕ) (ks : List ℕ) → exits_from l u p counted i ks ≡ marks_for (λ k. is_outermost l u p k counted) marks.Exit i ks
exits_are l u p counted i [] = refl
exits_are l u p counted i (k ∷ ks) = ap (λ ms. mark_if (is_outermost l u p k counted) (marks.Exit i) ++ ms) (exits_are l u p counted (i + 1) ks)

resets_are : (l : Loops) (u : ℕ) (p : Option ℕ) (counted : List ℕ) (i : ℕ) (ks : List ℕ) → resets_from l u p counted i ks ≡ marks_for (λ k. leaves l k u p && not (is_outermost l u p k counted)) marks.Reset i ks
resets_are l u p counted i [] = refl
resets_are l u p counted i (k ∷ ks) = ap (λ ms. mark_if (leaves l k u p && not (is_outermost l u p k counted)) (marks.Reset i) ++ ms) (resets_are l u p counted (i + 1) ks)

counts_are : (l : Loops) (u : ℕ) (p : Option ℕ) (i : ℕ) (ks : List ℕ) → counts_from l u p i ks ≡ marks_for (λ k. goes_back l k u p) marks.Count i ks
counts_are l u p i [] = refl
counts_are l u p i (k ∷ ks) = ap (λ ms. mark_if (goes_back l k u p) (marks.Count i) ++ ms) (counts_are l u p (i + 1) ks)

module _ (f : Mark → ℕ) (make : ℕ → Mark) where
  if_sum : (b : Bool) (i : ℕ) → sum_by f (mark_if b (make i)) ≡ cond b (f (make i)) 0
  if_sum true i = let s = sum_by-cons f (make i) [] in omega (arith, s)
  if_sum false i = refl

  if_none : (b : Bool) (i : ℕ) → f (make i) ≡ 0 → sum_by f (mark_if b (make i)) ≡ 0
  if_none b i none = if_sum b i ∙ by b
    where
      by : (x : Bool) → cond x (f (make i)) 0 ≡ 0
      by true = none
      by false = refl

  sum_none : (test : ℕ → Bool) (i : ℕ) (ks : List ℕ) → ((j : ℕ) → i ≤ j → j < i + length ks → f (make j) ≡ 0) → sum_by f (marks_for test make i ks) ≡ 0
  sum_none test i [] none = refl
  sum_none test i (k ∷ ks) none =
      let one = if_none (test k) i (none i (omega arith) (omega arith)) in
      let rest = sum_none test (i + 1) ks (λ j from to. none j (omega (arith, from)) (omega (arith, to))) in
      let s = sum_by-append f (mark_if (test k) (make i)) (marks_for test make (i + 1) ks) in
      omega (arith, one, rest, s)

  -- the counter of the loop at a place of the list
  sum_at : (c : ℕ) → ((i : ℕ) → (c == i) ≡ false → f (make i) ≡ 0) → (test : ℕ → Bool) (i j k : ℕ) (ks : List ℕ) → slice_get ks j ≡ Some k → c ≡ i + j → sum_by f (marks_for test make i ks) ≡ cond (test k) (f (make c)) 0
  sum_at c alone test i j k [] h at = let never : ⊥ = cc in absurd never
  sum_at c alone test i zero k (k0 ∷ ks) h at =
      let same : k0 ≡ k = cc in
      let here : i ≡ c = omega (arith, at) in
      let one : sum_by f (mark_if (test k0) (make i)) ≡ cond (test k) (f (make c)) 0 = if_sum (test k0) i ∙ (ap (λ q. cond (test q) (f (make i)) 0) same ∙ ap (λ x. cond (test k) (f (make x)) 0) here) in
      let rest = sum_none test (i + 1) ks (λ q from to. alone q (ne_eqb c q (λ e. omega (arith, e, from, here)))) in
      let s = sum_by-append f (mark_if (test k0) (make i)) (marks_for test make (i + 1) ks) in
      omega (arith, one, rest, s)
  sum_at c alone test i (suc j) k (k0 ∷ ks) h at =
      let one = if_none (test k0) i (alone i (ne_eqb c i (λ e. omega (arith, e, at)))) in
      let rest = sum_at c alone test (i + 1) j k ks h (omega (arith, at)) in
      let s = sum_by-append f (mark_if (test k0) (make i)) (marks_for test make (i + 1) ks) in
      omega (arith, one, rest, s)

-- ---- all marks of a step, in their four parts

all_sum : (f : Mark → ℕ) → f marks.Switch ≡ 0 → (l : Loops) (counted : List ℕ) (branch : Bool) (slack min_gain u : ℕ) (p : Option ℕ) → sum_by f (marks_at l counted branch slack min_gain u p)
    ≡ sum_by f (marks_for (λ k. is_outermost l u p k counted) marks.Exit first_counter counted)
    + (sum_by f (marks_for (λ k. leaves l k u p && not (is_outermost l u p k counted)) marks.Reset first_counter counted) + sum_by f (marks_for (λ k. goes_back l k u p) marks.Count first_counter counted))
all_sum f none l counted branch slack min_gain u p =
    let s = switch_of l u p counted branch slack min_gain in
    let e = exits_from l u p counted first_counter counted in
    let r = resets_from l u p counted first_counter counted in
    let c = counts_from l u p first_counter counted in
    let zero_switch = if_none f (λ i. marks.Switch) (branch && (not (leaves_any l u p counted) && nat_le min_gain slack)) 0 none in
    let x = ap (sum_by f) (exits_are l u p counted first_counter counted) in
    let y = ap (sum_by f) (resets_are l u p counted first_counter counted) in
    let z = ap (sum_by f) (counts_are l u p first_counter counted) in
    let one = sum_by-append f s (e ++ (r ++ c)) in
    let two = sum_by-append f e (r ++ c) in
    let three = sum_by-append f r c in
    omega (arith, zero_switch, x, y, z, one, two, three)

if_one : (b : Bool) (c : ℕ) → cond b (mark_counts c (marks.Count c)) 0 ≡ one_where b
if_one true c = cond-true (c == c) 1 0 (eq-eqb c c refl)
if_one false c = refl

off_if : (c i : ℕ) → (c == i) ≡ false → mark_counts c (marks.Count i) ≡ 0
off_if c i e = cond-false (c == i) 1 0 e

-- the counter of the counted loop at a place counts once where the step goes back,
pub counts_at : (l : Loops) (counted : List ℕ) (branch : Bool) (slack min_gain u : ℕ) (p : Option ℕ) (j k : ℕ) → slice_get counted j ≡ Some k
    → sum_by (mark_counts (first_counter + j)) (marks_at l counted branch slack min_gain u p) ≡ one_where (goes_back l k u p)
counts_at l counted branch slack min_gain u p j k at =
    let c = first_counter + j in
    let all = all_sum (mark_counts c) refl l counted branch slack min_gain u p in
    let x = sum_none (mark_counts c) marks.Exit (λ q. is_outermost l u p q counted) first_counter counted (λ i from to. refl) in
    let y = sum_none (mark_counts c) marks.Reset (λ q. leaves l q u p && not (is_outermost l u p q counted)) first_counter counted (λ i from to. refl) in
    let z = sum_at (mark_counts c) marks.Count c (off_if c) (λ q. goes_back l q u p) first_counter j k counted at refl ∙ if_one (goes_back l k u p) c in
    omega (arith, all, x, y, z)

-- and is set back once where it leaves the loop
pub clears_at : (l : Loops) (counted : List ℕ) (branch : Bool) (slack min_gain u : ℕ) (p : Option ℕ) (j k : ℕ) → slice_get counted j ≡ Some k
    → sum_by (mark_clears (first_counter + j)) (marks_at l counted branch slack min_gain u p) ≡ one_where (leaves l k u p)
clears_at l counted branch slack min_gain u p j k at =
    let c = first_counter + j in
    let all = all_sum (mark_clears c) refl l counted branch slack min_gain u p in
    let x = sum_at (mark_clears c) marks.Exit c (off_if c) (λ q. is_outermost l u p q counted) first_counter j k counted at refl ∙ if_one (is_outermost l u p k counted) c in
    let y = sum_at (mark_clears c) marks.Reset c (off_if c) (λ q. leaves l q u p && not (is_outermost l u p q counted)) first_counter j k counted at refl ∙ if_one (leaves l k u p && not (is_outermost l u p k counted)) c in
    let z = sum_none (mark_clears c) marks.Count (λ q. goes_back l q u p) first_counter counted (λ i from to. refl) in
    let w = whole (leaves l k u p) (holds_left l u p k counted) in
    omega (arith, all, x, y, z, w)
  where
    whole : (lv hd : Bool) → one_where (lv && hd) + one_where (lv && not (lv && hd)) ≡ one_where lv
    whole true true = refl
    whole true false = refl
    whole false hd = refl

-- another word is neither counted nor set back
pub none_at : (l : Loops) (counted : List ℕ) (branch : Bool) (slack min_gain u : ℕ) (p : Option ℕ) (c : ℕ) → (c < first_counter) ⊎ (first_counter + length counted ≤ c)
    → sum_by (mark_counts c) (marks_at l counted branch slack min_gain u p) + sum_by (mark_clears c) (marks_at l counted branch slack min_gain u p) ≡ 0
none_at l counted branch slack min_gain u p c out =
    let one = all_sum (mark_counts c) refl l counted branch slack min_gain u p in
    let two = all_sum (mark_clears c) refl l counted branch slack min_gain u p in
    let a = sum_none (mark_counts c) marks.Exit (λ q. is_outermost l u p q counted) first_counter counted (λ i from to. refl) in
    let b = sum_none (mark_counts c) marks.Reset (λ q. leaves l q u p && not (is_outermost l u p q counted)) first_counter counted (λ i from to. refl) in
    let d = sum_none (mark_counts c) marks.Count (λ q. goes_back l q u p) first_counter counted (λ i from to. off_if c i (off i from to)) in
    let x = sum_none (mark_clears c) marks.Exit (λ q. is_outermost l u p q counted) first_counter counted (λ i from to. off_if c i (off i from to)) in
    let y = sum_none (mark_clears c) marks.Reset (λ q. leaves l q u p && not (is_outermost l u p q counted)) first_counter counted (λ i from to. off_if c i (off i from to)) in
    let z = sum_none (mark_clears c) marks.Count (λ q. goes_back l q u p) first_counter counted (λ i from to. refl) in
    omega (arith, one, two, a, b, d, x, y, z)
  where
    off : (i : ℕ) → first_counter ≤ i → i < first_counter + length counted → (c == i) ≡ false
    off i from to = ne_eqb c i (λ e. elim out [ inl low ↦ omega (arith, e, low, from) | inr high ↦ omega (arith, e, high, to) ])
