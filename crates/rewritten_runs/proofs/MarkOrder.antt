-- The first mark of an edge may be a switch, and no other is.
use Rattle.std.proofs.Common.{◌≡◌, ℕ, suc, ◌+◌, ◌<◌, ◌≤◌, inl, inr, Bool, true, false, not, ◌&&◌, List, [], ◌∷◌, ◌++◌, map, length, slice_get, Some, sym, ap, subst, arith, append_assoc}
use Rattle.std.specs.Prelude.{All}
use Rattle.std.proofs.lemmas.List.Elements.{All-append, All-map}
use Rattle.cost_theory.specs.Graph.{Graph, Loops, leaves, goes_back}
use Rattle.cost_theory.specs.Accepted.{IsProgram, AreAccepted}
use Rattle.cost_theory.specs.Worst.{Numbers}
use Rattle.power_model.specs.Numbers.{PowerModel}
use Rattle.level_tables.specs.declared.edge_numbers.EdgeNumbers.{EdgeNumbers}
use Rattle.scale_base.specs.declared.fragments.Mark.{Mark}
use Rattle.scale_base.specs.declared.fragments.Mark.TheVariants as marks
use Rattle.scale_sites.specs.Counters.{set_from}
use Rattle.scale_sites.specs.Marks.{first_counter, is_outermost, switch_of, exits_from, resets_from, counts_from, marks_at, IsListedLoop, AreLoopsOnce, AreDistinctLoops}
use Rattle.scale_sites.proofs.Laws.{switches-one}
use Rattle.stored_runs.specs.Stubbed.{IsQuiet, AreOrdered}
use Rattle.rewritten_runs.specs.Stubs.{fragment_by}
use Rattle.rewritten_runs.proofs.MarkLists.{marks_all, resets_are, counts_are}

-- ---- lists of loops

pub in_get : (k : ℕ) (ks : List ℕ) → IsListedLoop k ks → (j : ℕ) × (slice_get ks j ≡ Some k)
in_get k [] h = absurd h
in_get k (j ∷ ks) (inl e) = (0, ap Some (sym e))
in_get k (j ∷ ks) (inr h) = let r = in_get k ks h in (suc r.0, r.1)

in_from : (k i : ℕ) (flags : List Bool) → IsListedLoop k (set_from i flags) → i ≤ k
in_from k i [] h = absurd h
in_from k i (true ∷ flags) (inl e) = omega (arith, e)
in_from k i (true ∷ flags) (inr h) = let r = in_from k (i + 1) flags h in omega (arith, r)
in_from k i (false ∷ flags) h = let r = in_from k (i + 1) flags h in omega (arith, r)

pub set_distinct : (i : ℕ) (flags : List Bool) → AreDistinctLoops (set_from i flags)
set_distinct i [] = tt
set_distinct i (true ∷ flags) = (λ h. let r = in_from i (i + 1) flags h in omega (arith, r), set_distinct (i + 1) flags)
set_distinct i (false ∷ flags) = set_distinct (i + 1) flags

-- ---- order

abbrev pub IsQuietMark : Mark → Type 0
IsQuietMark marks.Switch = ⊥
IsQuietMark (marks.Exit c) = ⊥
IsQuietMark (marks.Reset c) = Unit {0}
IsQuietMark (marks.Count c) = Unit {0}
IsQuietMark marks.Lowest = ⊥
IsQuietMark (marks.Tally c) = ⊥

quiet_fragment : (power : PowerModel) (test : EdgeNumbers → ℕ → ℕ → Bool) (l : Loops) (counted : List ℕ) (n : Numbers) (told : EdgeNumbers) (m : Mark) → IsQuietMark m → IsQuiet (fragment_by power test l counted n told m)
quiet_fragment power test l counted n told marks.Switch h = absurd h
quiet_fragment power test l counted n told (marks.Exit c) h = absurd h
quiet_fragment power test l counted n told (marks.Reset c) h = tt
quiet_fragment power test l counted n told (marks.Count c) h = tt
quiet_fragment power test l counted n told marks.Lowest h = absurd h
quiet_fragment power test l counted n told (marks.Tally c) h = absurd h

all_quiet : (power : PowerModel) (test : EdgeNumbers → ℕ → ℕ → Bool) (l : Loops) (counted : List ℕ) (n : Numbers) (told : EdgeNumbers) (ms : List Mark) → All IsQuietMark ms → All IsQuiet (map (fragment_by power test l counted n told) ms)
all_quiet power test l counted n told ms h = All-map IsQuiet (fragment_by power test l counted n told) ms (λ k d lt. quiet_fragment power test l counted n told _ (h k d lt))

ordered_by : (power : PowerModel) (test : EdgeNumbers → ℕ → ℕ → Bool) (l : Loops) (counted : List ℕ) (n : Numbers) (told : EdgeNumbers) (first rest : List Mark) → length first ≤ 1 → All IsQuietMark rest → AreOrdered (map (fragment_by power test l counted n told) (first ++ rest))
ordered_by power test l counted n told [] [] few h = tt
ordered_by power test l counted n told [] (m ∷ rest) few h = all_quiet power test l counted n told rest (λ k d lt. h (suc k) d (omega arith))
ordered_by power test l counted n told (m ∷ []) rest few h = all_quiet power test l counted n told rest h
ordered_by power test l counted n told (m ∷ q ∷ first) rest few h = let bad : ⊥ = omega arith in absurd bad

pub marks_ordered : (power : PowerModel) (test : EdgeNumbers → ℕ → ℕ → Bool) (g : Graph) (l : Loops) (extent : ℕ → ℕ → Bool) (counted : List ℕ) (n : Numbers) (told : EdgeNumbers) → IsProgram g → AreAccepted g l extent → AreLoopsOnce l counted → AreDistinctLoops counted
    → (e : ℕ) (branch : Bool) (slack min_gain : ℕ) → e < g.edges → AreOrdered (map (fragment_by power test l counted n told) (marks_at l counted branch slack min_gain (g.source e) (g.target e)))
marks_ordered power test g l extent counted n told prog acc are distinct e branch slack min_gain lt =
    let u = g.source e in
    let p = g.target e in
    let s = switch_of l u p counted branch slack min_gain in
    let x = exits_from l u p counted first_counter counted in
    let r = resets_from l u p counted first_counter counted in
    let c = counts_from l u p first_counter counted in
    let few = switches-one g l extent prog acc counted are e branch slack min_gain first_counter lt distinct in
    let one : All IsQuietMark r = subst (All IsQuietMark) (sym (resets_are l u p counted first_counter counted)) (marks_all IsQuietMark (λ k. leaves l k u p && not (is_outermost l u p k counted)) marks.Reset first_counter counted (λ j k at on. tt)) in
    let two : All IsQuietMark c = subst (All IsQuietMark) (sym (counts_are l u p first_counter counted)) (marks_all IsQuietMark (λ k. goes_back l k u p) marks.Count first_counter counted (λ j k at on. tt)) in
    subst (λ ms. AreOrdered (map (fragment_by power test l counted n told) ms)) (append_assoc s x (r ++ c)) (ordered_by power test l counted n told (s ++ x) (r ++ c) few (All-append IsQuietMark r c one two))
