-- What is taken of the fragments of edges: names of loops, and tallies of counters.
use Rattle.std.proofs.Common.{◌≡◌, ◌≢◌, ◌⊎◌, inl, inr, ⊎_elim, ℕ, zero, suc, ◌+◌, ◌<◌, ◌≤◌, Bool, true, false, not, ◌&&◌, ◌||◌, List, [], ◌∷◌, length, Option, Some, refl, sym, ap, ◌∙◌, subst, arith, if◌then◌else◌, drop, get_or-set_same, get_or-set_other, replicate}
use Rattle.std.specs.Prelude.{◌==◌, nat_le, nat_lt, slice_index_or, slice_set}
use Rattle.std.specs.List.{sum_by}
use Rattle.std.proofs.lemmas.Bool.{leb-true, le-leb, lt-ltb, cond-true, cond-false, cases_lt, both_ways, eqb-true, eq-eqb}
use Rattle.std.proofs.lemmas.List.{get_or-replicate, get_or_past, length-replicate}
use Rattle.std.proofs.lemmas.List.Sums.{sum_by-cons}
use Rattle.cost_theory.specs.Graph.{sum_below}
use Rattle.cost_theory.proofs.Laws.{sum-le, and_left, and_right, and_both}
use Rattle.flow_graph.specs.FlowGraph.{FlowGraph, graph}
use Rattle.loop_forest.specs.Tree.{LoopView, loops}
use Rattle.foreign_scan.specs.declared.fragment.ForeignFragment.{ForeignFragment}
use Rattle.foreign_scan.specs.declared.fragment.ForeignFragment.TheVariants.{Switch, Exit, Reset, Count}
use Rattle.foreign_scan.specs.Form.{IsForeign}
use Rattle.foreign_scan.specs.Shown.{ScannedSites}
use Rattle.image_check.specs.Safe.{counts_it, clears_it}
use Rattle.image_check.specs.Known.{owner_by}
use Rattle.image_check.specs.Uses.{on_edge, counts_at, clears_at, turn_of, exit_of, of_loop, fits_on, named_by, named, AreNamed, counter_used, is_same_counter, no_tally, taken_one, taken, tally_of}
use Rattle.image_check.specs.declared.uses.Tally.{Tally}

-- ---- names

named_none : (k c : ℕ) (fs : List ForeignFragment) (o : Option ℕ) → sum_by (counts_it c) fs ≡ 0 → named k c fs o ≡ o
named_none k c [] o none = refl
named_none k c (f ∷ fs) o none =
    let here : counts_it c f ≡ 0 = omega (arith, none, sum_by-cons (counts_it c) f fs) in
    let rest : sum_by (counts_it c) fs ≡ 0 = omega (arith, none, sum_by-cons (counts_it c) f fs) in
    ap (λ x. named k c fs (if nat_lt 0 x then Some k else o)) here ∙ named_none k c fs o rest

some_or_none : (n : ℕ) → (n ≡ 0) ⊎ (0 < n)
some_or_none zero = inl refl
some_or_none (suc n) = inr (omega arith)

named_some : (k c : ℕ) (fs : List ForeignFragment) (o : Option ℕ) → 0 < sum_by (counts_it c) fs → named k c fs o ≡ Some k
named_some k c [] o some = absurd (let no : ⊥ = omega (arith, some) in no)
named_some k c (f ∷ fs) o some = ⊎_elim
    (λ (none : sum_by (counts_it c) fs ≡ 0).
    let here : 0 < counts_it c f = omega (arith, some, none, sum_by-cons (counts_it c) f fs) in
    named_none k c fs (named_by k c f o) none ∙ cond-true (nat_lt 0 (counts_it c f)) (Some k) o (lt-ltb 0 (counts_it c f) here))
    (λ more. named_some k c fs (named_by k c f o) more) (some_or_none (sum_by (counts_it c) fs))

module _ (v : FlowGraph) (t : LoopView) (s : ScannedSites) (n : ℕ) (old : List (Option ℕ)) (are : AreNamed v t s n old) where
  -- an edge that is no back edge
  pub named_skip : ((k : ℕ) → k < length t.headers → turn_of (graph v) (loops v t) k n ≡ 0) → AreNamed v t s (n + 1) old
  named_skip plain = record {
    size = are.size;
    some = λ c k e. let h = are.some c k e in let lt = h.1.1 in (h.0, (h.1.0, omega (arith, lt), h.1.2, h.1.3));
    none = λ c k e none kl el turn. ⊎_elim (λ low. are.none c k e none kl low turn)
        (λ high. let same : e ≡ n = omega (arith, el, high) in let z = plain k kl in let one : turn_of (graph v) (loops v t) k n ≡ 1 = subst (λ x. turn_of (graph v) (loops v t) k x ≡ 1) same turn in absurd (let bad : ⊥ = omega (arith, z, one) in bad)) (cases_lt e n);
  }

  -- a back edge of loop j
  pub named_more : (j : ℕ) (fs : List ForeignFragment) (new : List (Option ℕ)) → j < length t.headers → turn_of (graph v) (loops v t) j n ≡ 1 → on_edge s n ≡ fs → length new ≡ 511
      → ((c : ℕ) → owner_by new c ≡ named j c fs (owner_by old c)) → AreNamed v t s (n + 1) new
  named_more j fs new jl turn_j on size is = record {
    size = size;
    some = λ c k e. ⊎_elim
        (λ none. let h = are.some c k (sym (is c ∙ named_none j c fs (owner_by old c) none) ∙ e) in let lt = h.1.1 in (h.0, (h.1.0, omega (arith, lt), h.1.2, h.1.3)))
        (λ some. let now = sym (is c ∙ named_some j c fs (owner_by old c) some) ∙ e in
        let same : j ≡ k = cc in
        let all : 0 < counts_at s c n = subst (λ xs. 0 < sum_by (counts_it c) xs) (sym on) some in
        (subst (λ x. x < length t.headers) same jl, (n, omega arith, subst (λ x. turn_of (graph v) (loops v t) x n ≡ 1) same turn_j, all)))
        (some_or_none (sum_by (counts_it c) fs));
    none = λ c k e none kl el turn. ⊎_elim
        (λ zero_sum. ⊎_elim (λ low. are.none c k e (sym (is c ∙ named_none j c fs (owner_by old c) zero_sum) ∙ none) kl low turn)
        (λ high. let same : e ≡ n = omega (arith, el, high) in ap (counts_at s c) same ∙ (ap (sum_by (counts_it c)) on ∙ zero_sum)) (cases_lt e n))
        (λ some. let now = sym (is c ∙ named_some j c fs (owner_by old c) some) ∙ none in let bad : ⊥ = cc in absurd bad)
        (some_or_none (sum_by (counts_it c) fs));
  }

-- ---- tallies

pub taken_counts : (c : ℕ) (fits : Bool) (fs : List ForeignFragment) (u : Tally) → (taken c fits fs u).counts ≡ u.counts + sum_by (counts_it c) fs
taken_counts c fits [] u = omega arith
taken_counts c fits (f ∷ fs) u =
    let rest : (taken c fits fs (taken_one c fits f u)).counts ≡ u.counts + counts_it c f + sum_by (counts_it c) fs = taken_counts c fits fs (taken_one c fits f u) in
    omega (arith, rest, sum_by-cons (counts_it c) f fs)

pub taken_clears : (c : ℕ) (fits : Bool) (fs : List ForeignFragment) (u : Tally) → (taken c fits fs u).clears ≡ u.clears + sum_by (clears_it c) fs
taken_clears c fits [] u = omega arith
taken_clears c fits (f ∷ fs) u =
    let rest : (taken c fits fs (taken_one c fits f u)).clears ≡ u.clears + clears_it c f + sum_by (clears_it c) fs = taken_clears c fits fs (taken_one c fits f u) in
    omega (arith, rest, sum_by-cons (clears_it c) f fs)

or_of : (a b : Bool) → b ≡ true → a || b ≡ true
or_of true b e = refl
or_of false b e = e

pub taken_fits : (c : ℕ) (fits : Bool) (fs : List ForeignFragment) (u : Tally) → u.fits ≡ true → fits ≡ true → (taken c fits fs u).fits ≡ true
taken_fits c fits [] u is fit = is
taken_fits c fits (f ∷ fs) u is fit = taken_fits c fits fs (taken_one c fits f u) (and_both u.fits (not (is_same_counter (counter_used f) c) || fits) is (or_of (not (is_same_counter (counter_used f) c)) fits fit)) fit

no_use : (c : ℕ) (f : ForeignFragment) → is_same_counter (counter_used f) c ≡ false → (counts_it c f ≡ 0) × (clears_it c f ≡ 0)
no_use c (Switch word) e = (refl, refl)
no_use c (Exit counter shift table) e = (refl, cond-false (c == counter) 1 0 e)
no_use c (Reset counter) e = (refl, cond-false (c == counter) 1 0 e)
no_use c (Count counter) e = (cond-false (c == counter) 1 0 e, refl)

-- where the tally fits, the edge fits the counter, or no fragment uses it
pub fits_taken : (c : ℕ) (fits : Bool) (fs : List ForeignFragment) (u : Tally) → (taken c fits fs u).fits ≡ true → (u.fits ≡ true) × ((fits ≡ true) ⊎ ((sum_by (counts_it c) fs ≡ 0) × (sum_by (clears_it c) fs ≡ 0)))
fits_taken c fits [] u e = (e, inr ((refl, refl)))
fits_taken c fits (f ∷ fs) u e =
    let rest = fits_taken c fits fs (taken_one c fits f u) e in
    let old : u.fits ≡ true = and_left u.fits (not (is_same_counter (counter_used f) c) || fits) rest.0 in
    let this : not (is_same_counter (counter_used f) c) || fits ≡ true = and_right u.fits (not (is_same_counter (counter_used f) c) || fits) rest.0 in
    (old, ⊎_elim (λ fit. inl fit) (λ zeros. by_use (is_same_counter (counter_used f) c) refl this zeros) rest.1)
  where
    by_use : (b : Bool) → is_same_counter (counter_used f) c ≡ b → not (is_same_counter (counter_used f) c) || fits ≡ true → (sum_by (counts_it c) fs ≡ 0) × (sum_by (clears_it c) fs ≡ 0)
        → (fits ≡ true) ⊎ ((sum_by (counts_it c) (f ∷ fs) ≡ 0) × (sum_by (clears_it c) (f ∷ fs) ≡ 0))
    by_use true used this zeros = inl (sym (ap (λ b. not b || fits) used) ∙ this)
    by_use false used this zeros =
        let none = no_use c f used in
        let counts = none.0 in
        let clears = none.1 in
        let more_counts = zeros.0 in
        let more_clears = zeros.1 in
        inr ((omega (arith, counts, more_counts, sum_by-cons (counts_it c) f fs), omega (arith, clears, more_clears, sum_by-cons (clears_it c) f fs)))

module _ (v : FlowGraph) (t : LoopView) (s : ScannedSites) (owner : Option ℕ) (c : ℕ) where
  pub tally_counts : (n : ℕ) → (tally_of v t s owner c n).counts ≡ sum_below n (counts_at s c)
  tally_counts zero = refl
  tally_counts (suc n) =
      let more : (tally_of v t s owner c (suc n)).counts ≡ (tally_of v t s owner c n).counts + counts_at s c n = taken_counts c (fits_on v t s owner c n) (on_edge s n) (tally_of v t s owner c n) in
      let before : (tally_of v t s owner c n).counts ≡ sum_below n (counts_at s c) = tally_counts n in
      omega (arith, more, before)

  pub tally_clears : (n : ℕ) → (tally_of v t s owner c n).clears ≡ sum_below n (clears_at s c)
  tally_clears zero = refl
  tally_clears (suc n) =
      let more : (tally_of v t s owner c (suc n)).clears ≡ (tally_of v t s owner c n).clears + clears_at s c n = taken_clears c (fits_on v t s owner c n) (on_edge s n) (tally_of v t s owner c n) in
      let before : (tally_of v t s owner c n).clears ≡ sum_below n (clears_at s c) = tally_clears n in
      omega (arith, more, before)

  zero_fits : (e : ℕ) → counts_at s c e ≡ 0 → clears_at s c e ≡ 0 → fits_on v t s owner c e ≡ true
  zero_fits e no_counts no_clears = and_both (nat_le (counts_at s c e) (of_loop (turn_of (graph v) (loops v t)) owner e)) (nat_le (clears_at s c e) (of_loop (exit_of (graph v) (loops v t)) owner e))
      (le-leb (counts_at s c e) (of_loop (turn_of (graph v) (loops v t)) owner e) (omega (arith, no_counts)))
      (le-leb (clears_at s c e) (of_loop (exit_of (graph v) (loops v t)) owner e) (omega (arith, no_clears)))

  pub tally_fits : (n : ℕ) → (tally_of v t s owner c n).fits ≡ true → (e : ℕ) → e < n → fits_on v t s owner c e ≡ true
  tally_fits zero fits e lt = absurd (let no : ⊥ = omega (arith, lt) in no)
  tally_fits (suc n) fits e lt =
      let h = fits_taken c (fits_on v t s owner c n) (on_edge s n) (tally_of v t s owner c n) fits in
      ⊎_elim (λ low. tally_fits n h.0 e low)
      (λ high. let same : e ≡ n = omega (arith, lt, high) in subst (λ x. fits_on v t s owner c x ≡ true) (sym same) (⊎_elim (λ fit. fit) (λ zeros. zero_fits n zeros.0 zeros.1) h.1)) (cases_lt e n)

  pub all_fit : (n : ℕ) → ((e : ℕ) → e < n → fits_on v t s owner c e ≡ true) → (tally_of v t s owner c n).fits ≡ true
  all_fit zero all = refl
  all_fit (suc n) all = taken_fits c (fits_on v t s owner c n) (on_edge s n) (tally_of v t s owner c n) (all_fit n (λ e lt. all e (omega (arith, lt)))) (all n (omega arith))

-- ---- whether an edge fits

pub fits_is : (v : FlowGraph) (t : LoopView) (s : ScannedSites) (owner : Option ℕ) (c e counts clears turns exits : ℕ) → counts ≡ counts_at s c e → clears ≡ clears_at s c e → turns ≡ of_loop (turn_of (graph v) (loops v t)) owner e
    → exits ≡ of_loop (exit_of (graph v) (loops v t)) owner e → counts ≤ turns → nat_le clears exits ≡ fits_on v t s owner c e
fits_is v t s owner c e counts clears turns exits counts_is clears_is turns_is exits_is le =
    ap (λ x. nat_le x exits) clears_is ∙ (ap (nat_le (clears_at s c e)) exits_is
    ∙ sym (ap (λ b. b && nat_le (clears_at s c e) (of_loop (exit_of (graph v) (loops v t)) owner e))
    (le-leb (counts_at s c e) (of_loop (turn_of (graph v) (loops v t)) owner e) (subst (λ x. counts_at s c e ≤ x) turns_is (subst (λ x. x ≤ turns) counts_is le)))))

pub fits_not : (v : FlowGraph) (t : LoopView) (s : ScannedSites) (owner : Option ℕ) (c e counts turns : ℕ) → counts ≡ counts_at s c e → turns ≡ of_loop (turn_of (graph v) (loops v t)) owner e
    → turns < counts → nat_le counts turns ≡ fits_on v t s owner c e
fits_not v t s owner c e counts turns counts_is turns_is less =
    let off : nat_le counts turns ≡ false = over counts turns (nat_le counts turns) refl less in
    let same : nat_le counts turns ≡ nat_le (counts_at s c e) (of_loop (turn_of (graph v) (loops v t)) owner e) = ap (λ x. nat_le x turns) counts_is ∙ ap (nat_le (counts_at s c e)) turns_is in
    off ∙ sym (ap (λ b. b && nat_le (clears_at s c e) (of_loop (exit_of (graph v) (loops v t)) owner e)) (sym same ∙ off))
  where
    over : (a b : ℕ) (x : Bool) → nat_le a b ≡ x → b < a → x ≡ false
    over a b true e less = let le = leb-true a b e in absurd (let no : ⊥ = omega (arith, le, less) in no)
    over a b false e less = refl

-- ---- one fragment, and the fragments of an edge

and_free : (a b c : Bool) → b ≡ false → (a && (not b || c)) ≡ a
and_free true b c e = ap (λ x. not x || c) e
and_free false b c e = refl

plus_none : (a b : ℕ) → b ≡ 0 → a + b ≡ a
plus_none a b e = omega (arith, e)

-- a fragment that doesn't use a counter leaves its tally
pub taken_other : (c : ℕ) (fits : Bool) (f : ForeignFragment) (u : Tally) → is_same_counter (counter_used f) c ≡ false → taken_one c fits f u ≡ u
taken_other c fits f u e =
    let none = no_use c f e in
    ap (λ (x : ℕ). let r : Tally = record { counts = x; clears = u.clears + clears_it c f; fits = u.fits && (not (is_same_counter (counter_used f) c) || fits) } in r) (plus_none u.counts (counts_it c f) none.0)
    ∙ (ap (λ (x : ℕ). let r : Tally = record { counts = u.counts; clears = x; fits = u.fits && (not (is_same_counter (counter_used f) c) || fits) } in r) (plus_none u.clears (clears_it c f) none.1)
    ∙ ap (λ (x : Bool). let r : Tally = record { counts = u.counts; clears = u.clears; fits = x } in r) (and_free u.fits (is_same_counter (counter_used f) c) fits e))

pub one_set : (fits : ℕ → Bool) (f : ForeignFragment) (old new : List Tally) (counter : ℕ) (fit : Bool) → counter_used f ≡ Some counter → counter < length old → fit ≡ fits counter
    → new ≡ slice_set old counter (taken_one counter fit f (slice_index_or old counter no_tally)) → (c : ℕ) → slice_index_or new c no_tally ≡ taken_one c (fits c) f (slice_index_or old c no_tally)
one_set fits f old new counter fit of low fit_is is c = by_test (c == counter) refl
  where
    by_test : (b : Bool) → (c == counter) ≡ b → slice_index_or new c no_tally ≡ taken_one c (fits c) f (slice_index_or old c no_tally)
    by_test true e =
        let same : c ≡ counter = eqb-true c counter e in
        ap (λ xs. slice_index_or xs c no_tally) is
        ∙ (ap (λ i. slice_index_or (slice_set old counter (taken_one counter fit f (slice_index_or old counter no_tally))) i no_tally) same
        ∙ (get_or-set_same old counter (taken_one counter fit f (slice_index_or old counter no_tally)) no_tally low
        ∙ (ap (λ b. taken_one counter b f (slice_index_or old counter no_tally)) fit_is ∙ ap (λ i. taken_one i (fits i) f (slice_index_or old i no_tally)) (sym same))))
    by_test false e =
        let other : c ≢ counter = λ same. both_ways (c == counter) e (eq-eqb c counter same) in
        ap (λ xs. slice_index_or xs c no_tally) is
        ∙ (get_or-set_other old counter c (taken_one counter fit f (slice_index_or old counter no_tally)) no_tally other
        ∙ sym (taken_other c (fits c) f (slice_index_or old c no_tally) (ap (λ o. is_same_counter o c) of ∙ e)))

pub low_counter : (f : ForeignFragment) (counter : ℕ) → IsForeign f → counter_used f ≡ Some counter → counter < 511
low_counter (Switch word) counter fits of = let bad : ⊥ = cc in absurd bad
low_counter (Exit d shift table) counter fits of = let same : d ≡ counter = cc in let low = fits.0.1 in omega (arith, same, low)
low_counter (Reset d) counter fits of = let same : d ≡ counter = cc in let low = fits.1 in omega (arith, same, low)
low_counter (Count d) counter fits of = let same : d ≡ counter = cc in let low = fits.1 in omega (arith, same, low)

drop_end : {A : Type 0} (xs : List A) (n : ℕ) → length xs ≤ n → drop n xs ≡ []
drop_end [] zero le = refl
drop_end [] (suc n) le = refl
drop_end (x ∷ xs) zero le = absurd (let no : ⊥ = omega (arith, le) in no)
drop_end (x ∷ xs) (suc n) le = drop_end xs n (omega (arith, le))

pub edge_last : (fits : Bool) (c : ℕ) (fs : List ForeignFragment) (j : ℕ) (now end : Tally) → length fs ≤ j → taken c fits (drop j fs) now ≡ end → now ≡ end
edge_last fits c fs j now end le before = sym (ap (λ xs. taken c fits xs now) (drop_end fs j le)) ∙ before

-- ---- lists of tallies

pub none_taken : (tallies : List Tally) (n : ℕ) → tallies ≡ replicate n no_tally → (c : ℕ) → slice_index_or tallies c no_tally ≡ no_tally
none_taken tallies n is c = ⊎_elim (λ (lt : c < n). ap (λ xs. slice_index_or xs c no_tally) is ∙ get_or-replicate n c no_tally no_tally lt)
    (λ (le : n ≤ c). get_or_past tallies c no_tally (let size : length tallies ≡ n = ap length is ∙ length-replicate n no_tally in omega (arith, size, le))) (cases_lt c n)

-- ---- sums that are the same, of numbers of which none is greater

pub all_same : (n : ℕ) (f g : ℕ → ℕ) → ((k : ℕ) → k < n → f k ≤ g k) → sum_below n f ≡ sum_below n g → (k : ℕ) → k < n → f k ≡ g k
all_same zero f g le same k lt = absurd (let no : ⊥ = omega (arith, lt) in no)
all_same (suc n) f g le same k lt =
    let low : sum_below n f ≤ sum_below n g = sum-le n f g (λ j jl. le j (omega (arith, jl))) in
    let here : f n ≤ g n = le n (omega arith) in
    ⊎_elim (λ less. all_same n f g (λ j jl. le j (omega (arith, jl))) (omega (arith, same, low, here)) k less)
    (λ high. let e : k ≡ n = omega (arith, lt, high) in let last : f n ≡ g n = omega (arith, same, low, here) in ap f e ∙ (last ∙ sym (ap g e))) (cases_lt k n)
