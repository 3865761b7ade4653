-- Which counters count loops, by the tallies of their fragments.
use Rattle.std.proofs.Common.{◌≡◌, inl, inr, ⊎_elim, ℕ, zero, suc, ◌+◌, ◌<◌, ◌≤◌, Bool, true, false, not, ◌&&◌, List, [], ◌∷◌, length, All, Option, Some, None, refl, sym, ap, ◌∙◌, subst, arith}
use Rattle.std.specs.Prelude.{◌==◌, nat_le, nat_lt, slice_get, slice_index, slice_index_or}
use Rattle.std.specs.List.{sum_by}
use Rattle.std.proofs.lemmas.Bool.{leb-true, le-leb, lt-ltb, ltb-true, cond-false, cases_lt, eqb-true, eq-eqb}
use Rattle.std.proofs.lemmas.List.{length-map}
use Rattle.std.proofs.lemmas.List.Sums.{sum_by-cons}
use Rattle.scale_base.specs.Image.{Image}
use Rattle.cost_theory.specs.Graph.{sum_below, is_back}
use Rattle.cost_theory.proofs.Laws.{sum-same, term-le-sum, search_below, some_get, and_left, and_right, and_both}
use Rattle.flow_graph.specs.FlowGraph.{FlowGraph, graph}
use Rattle.loop_forest.specs.Noted.{node_address}
use Rattle.loop_forest.specs.Tree.{LoopView, loops}
use Rattle.foreign_scan.specs.declared.fragment.ForeignFragment.{ForeignFragment}
use Rattle.foreign_scan.specs.declared.fragment.ForeignFragment.TheVariants.{Switch, Exit, Reset, Count}
use Rattle.foreign_scan.specs.Form.{IsForeign}
use Rattle.foreign_scan.specs.Scanned.{Found}
use Rattle.foreign_scan.specs.Shown.{ScannedSites}
use Rattle.image_check.specs.Safe.{counts_it, clears_it, one_where, counts_on, clears_on, IsCounterOf, IsUsed, AreOwners}
use Rattle.image_check.specs.Causes.{IsBadCounter, IsFirstBadCounter}
use Rattle.image_check.specs.Known.{owner_by, IsFoundIn}
use Rattle.image_check.specs.Uses.{on_edge, counts_at, clears_at, turn_of, exit_of, fits_on, AreTurns, AreExits, AreNamed, no_tally, tally_of, AreTallies, is_tally_of, is_bad_tally, IsFirstBad}
use Rattle.image_check.specs.declared.uses.Tally.{Tally}
use Rattle.image_check.proofs.FoundFacts.{on_edge_is, fine_on}
use Rattle.image_check.proofs.TreeFacts.{sum_plus, turn_back}
use Rattle.image_check.proofs.UseLaws.{tally_counts, tally_clears, tally_fits, all_fit, all_same}

-- ---- lists and sums

sum_some : (n : ℕ) (f : ℕ → ℕ) → 0 < sum_below n f → (k : ℕ) × (k < n) × (0 < f k)
sum_some zero f some = absurd (let no : ⊥ = omega (arith, some) in no)
sum_some (suc n) f some = by_last (f n) refl (λ h. sum_some n f h)
  where
    by_last : (m : ℕ) → f n ≡ m → (0 < sum_below n f → (k : ℕ) × (k < n) × (0 < f k)) → (k : ℕ) × (k < suc n) × (0 < f k)
    by_last zero e go = let rest = go (omega (arith, some, e)) in let lt = rest.1 in (rest.0, omega (arith, lt), rest.2)
    by_last (suc m) e go = (n, omega arith, omega (arith, e))

-- ---- fragments of great counters

great : (c : ℕ) (f : ForeignFragment) → IsForeign f → 511 ≤ c → (counts_it c f ≡ 0) × (clears_it c f ≡ 0)
great c (Switch word) fits high = (refl, refl)
great c (Exit counter shift table) fits high = let low = fits.0.1 in (refl, cond-false (c == counter) 1 0 (other (c == counter) refl low))
  where
    other : (b : Bool) → (c == counter) ≡ b → counter < 511 → b ≡ false
    other true e low = let same : c ≡ counter = eqb-true c counter e in absurd (let no : ⊥ = omega (arith, same, low, high) in no)
    other false e low = refl
great c (Reset counter) fits high = let low = fits.1 in (refl, cond-false (c == counter) 1 0 (other (c == counter) refl low))
  where
    other : (b : Bool) → (c == counter) ≡ b → counter < 511 → b ≡ false
    other true e low = let same : c ≡ counter = eqb-true c counter e in absurd (let no : ⊥ = omega (arith, same, low, high) in no)
    other false e low = refl
great c (Count counter) fits high = let low = fits.1 in (cond-false (c == counter) 1 0 (other (c == counter) refl low), refl)
  where
    other : (b : Bool) → (c == counter) ≡ b → counter < 511 → b ≡ false
    other true e low = let same : c ≡ counter = eqb-true c counter e in absurd (let no : ⊥ = omega (arith, same, low, high) in no)
    other false e low = refl

great_unused : (c : ℕ) (fs : List ForeignFragment) → All IsForeign fs → 511 ≤ c → (sum_by (counts_it c) fs ≡ 0) × (sum_by (clears_it c) fs ≡ 0)
great_unused c [] all high = (refl, refl)
great_unused c (f ∷ fs) all high =
    let here = great c f (all 0 f (omega arith)) high in
    let rest = great_unused c fs (λ k d lt. all (suc k) d (omega (arith, lt))) high in
    let counts = here.0 in
    let clears = here.1 in
    let more_counts = rest.0 in
    let more_clears = rest.1 in
    (omega (arith, counts, more_counts, sum_by-cons (counts_it c) f fs), omega (arith, clears, more_clears, sum_by-cons (clears_it c) f fs))

-- ---- a counter

module _ (original foreign : Image) (v : FlowGraph) (t : LoopView) (found : Found) (s : ScannedSites) (is : IsFoundIn original foreign v t found s) (owners : List (Option ℕ)) (turns exits : List ℕ) (tallies : List Tally)
    (names : AreNamed v t s (length v.code.edges) owners) (turns_are : AreTurns v t (length v.code.edges) turns) (exits_are : AreExits v t (length t.headers) exits)
    (tallies_are : AreTallies v t s owners (length v.code.edges) tallies) where
  abbrev edges : ℕ
  edges = length v.code.edges

  counts_same : (c e : ℕ) → e < edges → counts_on found (slice_get v.code.edges e) c ≡ counts_at s c e
  counts_same c e lt =
      let x = some_get v.code.edges e lt in
      ap (λ o. counts_on found o c) x.1 ∙ ap (sum_by (counts_it c)) (sym (on_edge_is original foreign v t found s is e x.0 x.1))

  clears_same : (c e : ℕ) → e < edges → clears_on found (slice_get v.code.edges e) c ≡ clears_at s c e
  clears_same c e lt =
      let x = some_get v.code.edges e lt in
      ap (λ o. clears_on found o c) x.1 ∙ ap (sum_by (clears_it c)) (sym (on_edge_is original foreign v t found s is e x.0 x.1))

  loop_count : (loops v t).loops ≡ length t.headers
  loop_count = length-map t.headers (node_address v)

  -- the tally of a counter of loop k
  tally_at : (c : ℕ) → c < 511 → slice_index_or tallies c no_tally ≡ tally_of v t s (owner_by owners c) c edges
  tally_at c lt = tallies_are.1 c

  fits_le : (c k e : ℕ) → fits_on v t s (Some k) c e ≡ true → (counts_at s c e ≤ turn_of (graph v) (loops v t) k e) × (clears_at s c e ≤ exit_of (graph v) (loops v t) k e)
  fits_le c k e fit = (
    leb-true (counts_at s c e) (turn_of (graph v) (loops v t) k e) (and_left (nat_le (counts_at s c e) (turn_of (graph v) (loops v t) k e)) (nat_le (clears_at s c e) (exit_of (graph v) (loops v t) k e)) fit),
    leb-true (clears_at s c e) (exit_of (graph v) (loops v t) k e) (and_right (nat_le (counts_at s c e) (turn_of (graph v) (loops v t) k e)) (nat_le (clears_at s c e) (exit_of (graph v) (loops v t) k e)) fit),
  )

  -- a tally that fits and has as many as the loop
  counts_loop : (c k : ℕ) → c < 511 → owner_by owners c ≡ Some k → is_tally_of turns exits (slice_index_or tallies c no_tally) (Some k) ≡ true → IsCounterOf (graph v) v.code (loops v t) found c k
  counts_loop c k low own on =
      let kl : k < length t.headers = (names.some c k own).0 in
      let u : Tally = slice_index_or tallies c no_tally in
      let first : u.fits && (u.counts == slice_index turns k) ≡ true = and_left (u.fits && (u.counts == slice_index turns k)) (u.clears == slice_index exits k) on in
      let fits : u.fits ≡ true = and_left u.fits (u.counts == slice_index turns k) first in
      let counts : u.counts ≡ slice_index turns k = eqb-true u.counts (slice_index turns k) (and_right u.fits (u.counts == slice_index turns k) first) in
      let clears : u.clears ≡ slice_index exits k = eqb-true u.clears (slice_index exits k) (and_right (u.fits && (u.counts == slice_index turns k)) (u.clears == slice_index exits k) on) in
      let tally : u ≡ tally_of v t s (Some k) c edges = tally_at c low ∙ ap (λ o. tally_of v t s o c edges) own in
      let all : (e : ℕ) → e < edges → fits_on v t s (Some k) c e ≡ true = tally_fits v t s (Some k) c edges (ap (λ (x : Tally). x.fits) (sym tally) ∙ fits) in
      let count_sum : sum_below edges (counts_at s c) ≡ sum_below edges (turn_of (graph v) (loops v t) k) =
      sym (tally_counts v t s (Some k) c edges) ∙ (ap (λ (x : Tally). x.counts) (sym tally) ∙ (counts ∙ turns_are.each k kl)) in
      let clear_sum : sum_below edges (clears_at s c) ≡ sum_below edges (exit_of (graph v) (loops v t) k) =
      sym (tally_clears v t s (Some k) c edges) ∙ (ap (λ (x : Tally). x.clears) (sym tally) ∙ (clears ∙ exits_are.each k kl)) in
      record {
        low = subst (λ m. k < m) (sym loop_count) kl;
        counts = λ e lt. counts_same c e lt ∙ all_same edges (counts_at s c) (turn_of (graph v) (loops v t) k) (λ d dl. (fits_le c k d (all d dl)).0) count_sum e lt;
        clears = λ e lt. clears_same c e lt ∙ all_same edges (clears_at s c) (exit_of (graph v) (loops v t) k) (λ d dl. (fits_le c k d (all d dl)).1) clear_sum e lt;
      }

  -- a counter of a loop has the loop's name, and such a tally
  has_name : (c k : ℕ) → IsCounterOf (graph v) v.code (loops v t) found c k → owner_by owners c ≡ Some k
  has_name c k of = elim (search_below edges (is_back (graph v) (loops v t) k)) [
    | inl some ↦
        let one : counts_at s c some.0 ≡ 1 = sym (counts_same c some.0 some.1) ∙ (of.counts some.0 some.1 ∙ ap one_where some.2) in
        by_owner some.0 some.1 (ap one_where some.2) one (owner_by owners c) refl
    | inr none ↦ absurd (is.tree.1.accepted.back_edge k of.low none)
  ]
    where
      kl : k < length t.headers
      kl = subst (λ m. k < m) loop_count of.low

      by_owner : (e : ℕ) → e < edges → turn_of (graph v) (loops v t) k e ≡ 1 → counts_at s c e ≡ 1 → (o : Option ℕ) → owner_by owners c ≡ o → o ≡ Some k
      by_owner e lt turn one None own = let z = names.none c k e own kl lt turn in absurd (let no : ⊥ = omega (arith, one, z) in no)
      by_owner e lt turn one (Some j) own =
          let h = names.some c j own in
          let there : counts_at s c h.1.0 ≡ turn_of (graph v) (loops v t) k h.1.0 = sym (counts_same c h.1.0 h.1.1) ∙ of.counts h.1.0 h.1.1 in
          let turn_k : turn_of (graph v) (loops v t) k h.1.0 ≡ 1 = some_one (is_back (graph v) (loops v t) k h.1.0) (subst (λ n. 0 < n) there h.1.3) in
          let of_j = turn_back v t is.tree.0 is.code.flow is.tree.1 j h.1.0 h.0 h.1.1 h.1.2 in
          let of_k = turn_back v t is.tree.0 is.code.flow is.tree.1 k h.1.0 kl h.1.1 turn_k in
          let both : Some (Some j) ≡ Some (Some k) = sym of_j ∙ of_k in
          let same : Some j ≡ Some k = cc in
          same
        where
          some_one : (b : Bool) → 0 < one_where b → one_where b ≡ 1
          some_one true some = refl
          some_one false some = absurd (let no : ⊥ = omega (arith, some) in no)

  has_tally : (c k : ℕ) → c < 511 → IsCounterOf (graph v) v.code (loops v t) found c k → is_tally_of turns exits (slice_index_or tallies c no_tally) (owner_by owners c) ≡ true
  has_tally c k low of =
      let own = has_name c k of in
      let kl : k < length t.headers = subst (λ m. k < m) loop_count of.low in
      let u : Tally = slice_index_or tallies c no_tally in
      let tally : u ≡ tally_of v t s (Some k) c edges = tally_at c low ∙ ap (λ o. tally_of v t s o c edges) own in
      let count_at : (e : ℕ) → e < edges → counts_at s c e ≡ turn_of (graph v) (loops v t) k e = λ e lt. sym (counts_same c e lt) ∙ of.counts e lt in
      let clear_at : (e : ℕ) → e < edges → clears_at s c e ≡ exit_of (graph v) (loops v t) k e = λ e lt. sym (clears_same c e lt) ∙ of.clears e lt in
      let fits : u.fits ≡ true = ap (λ (x : Tally). x.fits) tally ∙ all_fit v t s (Some k) c edges (λ e lt.
      let one = count_at e lt in
      let other = clear_at e lt in
      and_both (nat_le (counts_at s c e) (turn_of (graph v) (loops v t) k e)) (nat_le (clears_at s c e) (exit_of (graph v) (loops v t) k e))
      (le-leb (counts_at s c e) (turn_of (graph v) (loops v t) k e) (omega (arith, one))) (le-leb (clears_at s c e) (exit_of (graph v) (loops v t) k e) (omega (arith, other)))) in
      let counts : u.counts ≡ slice_index turns k =
      ap (λ (x : Tally). x.counts) tally ∙ (tally_counts v t s (Some k) c edges ∙ (sum-same edges (counts_at s c) (turn_of (graph v) (loops v t) k) count_at ∙ sym (turns_are.each k kl))) in
      let clears : u.clears ≡ slice_index exits k =
      ap (λ (x : Tally). x.clears) tally ∙ (tally_clears v t s (Some k) c edges ∙ (sum-same edges (clears_at s c) (exit_of (graph v) (loops v t) k) clear_at ∙ sym (exits_are.each k kl))) in
      ap (is_tally_of turns exits u) own
      ∙ and_both (u.fits && (u.counts == slice_index turns k)) (u.clears == slice_index exits k)
      (and_both u.fits (u.counts == slice_index turns k) fits (eq-eqb u.counts (slice_index turns k) counts)) (eq-eqb u.clears (slice_index exits k) clears)

  -- ---- used counters

  is_used : (c e : ℕ) → e < edges → 0 < counts_at s c e + clears_at s c e → IsUsed (graph v) v.code found c
  is_used c e lt some = let a = counts_same c e lt in let b = clears_same c e lt in record { edge = e; low = lt; uses = omega (arith, some, a, b) }

  used_low : (c : ℕ) → IsUsed (graph v) v.code found c → c < 511
  used_low c used = ⊎_elim (λ low. low)
      (λ high.
      let fine = (fine_on original foreign v t found s is used.edge used.low).foreign in
      let zeros = great_unused c (on_edge s used.edge) fine high in
      let no_counts = zeros.0 in
      let no_clears = zeros.1 in
      let uses = used.uses in
      let a = counts_same c used.edge used.low in
      let b = clears_same c used.edge used.low in
      absurd (let no : ⊥ = omega (arith, no_counts, no_clears, uses, a, b) in no)) (cases_lt c 511)

  used_tally : (c : ℕ) → c < 511 → IsUsed (graph v) v.code found c → nat_lt 0 ((slice_index_or tallies c no_tally).counts + (slice_index_or tallies c no_tally).clears) ≡ true
  used_tally c low used =
      let u : Tally = slice_index_or tallies c no_tally in
      let counts : u.counts ≡ sum_below edges (counts_at s c) = ap (λ (x : Tally). x.counts) (tally_at c low) ∙ tally_counts v t s (owner_by owners c) c edges in
      let clears : u.clears ≡ sum_below edges (clears_at s c) = ap (λ (x : Tally). x.clears) (tally_at c low) ∙ tally_clears v t s (owner_by owners c) c edges in
      let one : counts_at s c used.edge ≤ sum_below edges (counts_at s c) = term-le-sum edges (counts_at s c) used.edge used.low in
      let other : clears_at s c used.edge ≤ sum_below edges (clears_at s c) = term-le-sum edges (clears_at s c) used.edge used.low in
      let a = counts_same c used.edge used.low in
      let b = clears_same c used.edge used.low in
      let uses = used.uses in
      lt-ltb 0 (u.counts + u.clears) (omega (arith, counts, clears, one, other, a, b, uses))

  tally_used : (c : ℕ) → c < 511 → nat_lt 0 ((slice_index_or tallies c no_tally).counts + (slice_index_or tallies c no_tally).clears) ≡ true → IsUsed (graph v) v.code found c
  tally_used c low some =
      let u : Tally = slice_index_or tallies c no_tally in
      let counts : u.counts ≡ sum_below edges (counts_at s c) = ap (λ (x : Tally). x.counts) (tally_at c low) ∙ tally_counts v t s (owner_by owners c) c edges in
      let clears : u.clears ≡ sum_below edges (clears_at s c) = ap (λ (x : Tally). x.clears) (tally_at c low) ∙ tally_clears v t s (owner_by owners c) c edges in
      let lt : 0 < u.counts + u.clears = ltb-true 0 (u.counts + u.clears) some in
      let both : sum_below edges (λ e. counts_at s c e + clears_at s c e) ≡ sum_below edges (counts_at s c) + sum_below edges (clears_at s c) = sum_plus edges (counts_at s c) (clears_at s c) in
      let at = sum_some edges (λ e. counts_at s c e + clears_at s c e) (omega (arith, counts, clears, lt, both)) in
      is_used c at.0 at.1 at.2

  -- a used counter that isn't bad counts its loop
  fine_counter : (c : ℕ) → c < 511 → is_bad_tally turns exits (slice_index_or tallies c no_tally) (owner_by owners c) ≡ false → IsUsed (graph v) v.code found c → (k : ℕ) × (owner_by owners c ≡ Some k) × IsCounterOf (graph v) v.code (loops v t) found c k
  fine_counter c low fine used = by_owner (owner_by owners c) refl
    where
      on : is_tally_of turns exits (slice_index_or tallies c no_tally) (owner_by owners c) ≡ true
      on = by_test (nat_lt 0 ((slice_index_or tallies c no_tally).counts + (slice_index_or tallies c no_tally).clears)) (is_tally_of turns exits (slice_index_or tallies c no_tally) (owner_by owners c)) (used_tally c low used) fine
        where
          by_test : (a b : Bool) → a ≡ true → a && not b ≡ false → b ≡ true
          by_test a true h e = refl
          by_test true false h e = let bad : ⊥ = cc in absurd bad
          by_test false false h e = let bad : ⊥ = cc in absurd bad

      by_owner : (o : Option ℕ) → owner_by owners c ≡ o → (k : ℕ) × (owner_by owners c ≡ Some k) × IsCounterOf (graph v) v.code (loops v t) found c k
      by_owner None own = let off = sym (ap (is_tally_of turns exits (slice_index_or tallies c no_tally)) own) ∙ on in let bad : ⊥ = cc in absurd bad
      by_owner (Some k) own = (k, own, counts_loop c k low own (sym (ap (is_tally_of turns exits (slice_index_or tallies c no_tally)) own) ∙ on))

  bad_counter : (c : ℕ) → c < 511 → is_bad_tally turns exits (slice_index_or tallies c no_tally) (owner_by owners c) ≡ true → IsBadCounter (graph v) v.code (loops v t) found c
  bad_counter c low bad =
      let u : Tally = slice_index_or tallies c no_tally in (
        tally_used c low (and_left (nat_lt 0 (u.counts + u.clears)) (not (is_tally_of turns exits u (owner_by owners c))) bad),
        λ k of. no_not (is_tally_of turns exits u (owner_by owners c)) (has_tally c k low of) (and_right (nat_lt 0 (u.counts + u.clears)) (not (is_tally_of turns exits u (owner_by owners c))) bad),
      )
    where
      no_not : (b : Bool) → b ≡ true → not b ≡ true → ⊥
      no_not true e f = let bad : ⊥ = cc in bad
      no_not false e f = let bad : ⊥ = cc in bad

  -- ---- all counters

  pub all_owners : IsFirstBad turns exits tallies owners None → AreOwners (graph v) v.code (loops v t) found (owner_by owners)
  all_owners fine = record {
    used = λ c used. let low = used_low c used in fine_counter c low (fine c low) used;
    unused = λ c never. by_owner c never (owner_by owners c) refl;
  }
    where
      by_owner : (c : ℕ) → (IsUsed (graph v) v.code found c → ⊥) → (o : Option ℕ) → owner_by owners c ≡ o → o ≡ None
      by_owner c never None own = refl
      by_owner c never (Some k) own = let h = names.some c k own in let some = h.1.3 in absurd (never (is_used c h.1.0 h.1.1 (omega (arith, some))))

  pub first_bad : (b : ℕ) → IsFirstBad turns exits tallies owners (Some b) → IsFirstBadCounter (graph v) v.code (loops v t) found b
  first_bad b is_first =
      let low = is_first.0 in (
        bad_counter b is_first.0 is_first.1,
        λ lower lt bad. let k = fine_counter lower (omega (arith, low, lt)) (is_first.2 lower lt) bad.0 in bad.1 k.0 k.2,
      )

pub moved_bad : (turns turns2 exits exits2 : List ℕ) (tallies tallies2 : List Tally) (owners owners2 : List (Option ℕ)) (o : Option ℕ) → turns ≡ turns2 → exits ≡ exits2 → tallies ≡ tallies2 → owners ≡ owners2
    → IsFirstBad turns exits tallies owners o → IsFirstBad turns2 exits2 tallies2 owners2 o
moved_bad turns turns2 exits exits2 tallies tallies2 owners owners2 o a b c d h =
    subst (λ xs. IsFirstBad turns2 exits2 tallies2 xs o) d (subst (λ (xs : List Tally). IsFirstBad turns2 exits2 xs owners o) c (subst (λ xs. IsFirstBad turns2 xs tallies owners o) b (subst (λ xs. IsFirstBad xs exits tallies owners o) a h)))
