-- At most the first mark of an edge stores at the port.
use Rattle.std.proofs.Common.{◌≡◌, ℕ, ◌+◌, ◌≤◌, Bool, true, false, not, ◌&&◌, List, [], ◌∷◌, ◌++◌, length, Option, refl, sym, ap, subst, arith, append_assoc}
use Rattle.std.specs.Prelude.{All}
use Rattle.std.proofs.lemmas.List.Elements.{All-nil, All-cons, All-append}
use Rattle.cost_theory.specs.Graph.{Loops, leaves, goes_back}
use Rattle.scale_base.specs.declared.fragments.Mark.{Mark}
use Rattle.scale_base.specs.declared.fragments.Mark.TheVariants.{Reset, Count}
use Rattle.scale_sites.specs.Forms.{IsQuietMark, IsFirstAlone, MarksStoreFirst}
use Rattle.scale_sites.specs.Marks.{first_counter, is_outermost, mark_if, switch_of, exits_from, resets_from, counts_from}
use Rattle.scale_sites.proofs.OneExit.{switches-one}

if_quiet : (b : Bool) (m : Mark) → IsQuietMark m → All IsQuietMark (mark_if b m)
if_quiet true m quiet = All-cons IsQuietMark m [] quiet (All-nil IsQuietMark)
if_quiet false m quiet = All-nil IsQuietMark

resets_quiet : (l : Loops) (u : ℕ) (p : Option ℕ) (counted : List ℕ) (i : ℕ) (ks : List ℕ) → All IsQuietMark (resets_from l u p counted i ks)
resets_quiet l u p counted i [] = All-nil IsQuietMark
resets_quiet l u p counted i (k ∷ ks) =
    All-append IsQuietMark (mark_if (leaves l k u p && not (is_outermost l u p k counted)) (Reset i)) (resets_from l u p counted (i + 1) ks) (if_quiet (leaves l k u p && not (is_outermost l u p k counted)) (Reset i) tt) (resets_quiet l u p counted (i + 1) ks)

counts_quiet : (l : Loops) (u : ℕ) (p : Option ℕ) (i : ℕ) (ks : List ℕ) → All IsQuietMark (counts_from l u p i ks)
counts_quiet l u p i [] = All-nil IsQuietMark
counts_quiet l u p i (k ∷ ks) =
    All-append IsQuietMark (mark_if (goes_back l k u p) (Count i)) (counts_from l u p (i + 1) ks) (if_quiet (goes_back l k u p) (Count i) tt) (counts_quiet l u p (i + 1) ks)

-- one mark, and quiet ones behind it
one_first : (few quiet : List Mark) → length few ≤ 1 → All IsQuietMark quiet → IsFirstAlone (few ++ quiet)
one_first [] [] short all = All-nil IsQuietMark
one_first [] (m ∷ ms) short all = λ k d lt. all (Rattle.std.proofs.Common.suc k) d (omega (arith, lt))
one_first (m ∷ []) quiet short all = all
one_first (m ∷ (n ∷ few)) quiet short all = absurd (omega (arith, short))

pub marks_store_first : MarksStoreFirst
marks_store_first = λ g l extent counted prog acc loops distinct e branch slack min_gain lt.
    let u = g.source e in
    let p = g.target e in
    let s = switch_of l u p counted branch slack min_gain in
    let x = exits_from l u p counted first_counter counted in
    let r = resets_from l u p counted first_counter counted in
    let c = counts_from l u p first_counter counted in
    let few = switches-one g l extent prog acc counted loops e branch slack min_gain first_counter lt distinct in
    subst IsFirstAlone (append_assoc s x (r ++ c)) (one_first (s ++ x) (r ++ c) few (All-append IsQuietMark r c (resets_quiet l u p counted first_counter counted) (counts_quiet l u p first_counter counted)))
