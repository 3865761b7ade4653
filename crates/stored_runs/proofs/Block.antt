-- The block of safe sites is one whose stubs stand in their places.
use Rattle.std.proofs.Common.{ℕ, suc, List, [], ◌∷◌, ◌++◌, arith, sym, subst}
use Rattle.std.specs.Prelude.{All}
use Rattle.std.proofs.lemmas.List.Elements.{All-nil, All-cons}
use Rattle.std.proofs.lemmas.List.Concat.{flat_map-cons}
use Rattle.scale_base.specs.declared.fragments.Fragment.{Fragment}
use Rattle.scale_base.specs.declared.fragments.Fragment.TheVariants.{Switch, Exit, Reset, Count, Lowest, Tally}
use Rattle.scale_base.specs.Image.{Image}
use Rattle.stub_writer.specs.Fragments.{IsFragment, fragment_rows}
use Rattle.stub_writer.specs.Stubs.{Site, Way, Place, Forked, Straight, rows_by, way_rows, stub_rows, stub_rows_of, block_rows}
use Rattle.stored_runs.specs.Held.{IsFineWay, IsFine, AreFine, AllWords}
use Rattle.stored_runs.specs.Stubbed.{IsTable, IsSafe, IsSafeWay, AreSafeWays, IsSafeSite}

safe_fragment : (levels : ℕ) (limits : ℕ → ℕ) (f : Fragment) → IsSafe levels limits f → IsFragment f
safe_fragment levels limits (Switch word) h = tt
safe_fragment levels limits (Exit counter shift rows) h = (h.0, h.1, h.2)
safe_fragment levels limits (Reset counter) h = h
safe_fragment levels limits (Count counter) h = h
safe_fragment levels limits (Lowest down) h = tt
safe_fragment levels limits (Tally counter shift from) h = (h.0, h.1, h.2, h.3)

safe_fragments : (levels : ℕ) (limits : ℕ → ℕ) (fs : List Fragment) → All (IsSafe levels limits) fs → All IsFragment fs
safe_fragments levels limits [] h = All-nil IsFragment
safe_fragments levels limits (f ∷ fs) h = All-cons IsFragment f fs (safe_fragment levels limits f (h 0 f (omega arith))) (safe_fragments levels limits fs (λ k d lt. h (suc k) d (omega arith)))

safe_way : (levels : ℕ) (limits : ℕ → ℕ) (w : Way) → IsSafeWay levels limits w → IsFineWay w
safe_way levels limits w h = (h.few, safe_fragments levels limits w.fragments h.safe)

pub safe_place : (levels : ℕ) (limits : ℕ → ℕ) (p : Place) → AreSafeWays levels limits p → IsFine p
safe_place levels limits (Forked op rs1 rs2 untaken taken) h = (h.0, h.1, safe_way levels limits untaken h.2, safe_way levels limits taken h.3)
safe_place levels limits (Straight w) h = safe_way levels limits w h

pub are_fine : (image : Image) (levels : ℕ) (limits : ℕ → ℕ) (sites : List Site) → All (IsSafeSite image levels limits) sites → AreFine sites
are_fine image levels limits [] h = tt
are_fine image levels limits (site ∷ sites) h =
    (safe_place levels limits site.place (h 0 site (omega arith)).ways, are_fine image levels limits sites (λ k d lt. h (suc k) d (omega arith)))

-- ---- the rows are words

words_join : (xs ys : List ℕ) → AllWords xs → AllWords ys → AllWords (xs ++ ys)
words_join [] ys h g = g
words_join (x ∷ xs) ys h g = (h.0, words_join xs ys h.1 g)

table_words : (levels : ℕ) (rows : List ℕ) → All (IsTable levels) rows → AllWords rows
table_words levels [] h = tt
table_words levels (r ∷ rows) h = let first = h 0 r (omega arith) in (first.0, table_words levels rows (λ k d lt. h (suc k) d (omega arith)))

fragment_words : (levels : ℕ) (limits : ℕ → ℕ) (f : Fragment) → IsSafe levels limits f → AllWords (fragment_rows f)
fragment_words levels limits (Switch word) h = tt
fragment_words levels limits (Exit counter shift rows) h = table_words levels rows h.4
fragment_words levels limits (Reset counter) h = tt
fragment_words levels limits (Count counter) h = tt
fragment_words levels limits (Lowest down) h = tt
fragment_words levels limits (Tally counter shift from) h = tt

fragments_words : (levels : ℕ) (limits : ℕ → ℕ) (fs : List Fragment) → All (IsSafe levels limits) fs → AllWords (rows_by fs)
fragments_words levels limits [] h = tt
fragments_words levels limits (f ∷ fs) h =
    subst AllWords (sym (flat_map-cons fragment_rows f fs))
    (words_join (fragment_rows f) (rows_by fs) (fragment_words levels limits f (h 0 f (omega arith))) (fragments_words levels limits fs (λ k d lt. h (suc k) d (omega arith))))

place_words : (levels : ℕ) (limits : ℕ → ℕ) (p : Place) → AreSafeWays levels limits p → AllWords (stub_rows_of p)
place_words levels limits (Forked op rs1 rs2 untaken taken) h =
    words_join (way_rows untaken) (way_rows taken) (fragments_words levels limits untaken.fragments h.2.safe) (fragments_words levels limits taken.fragments h.3.safe)
place_words levels limits (Straight w) h = fragments_words levels limits w.fragments h.safe

pub rows_words : (image : Image) (levels : ℕ) (limits : ℕ → ℕ) (sites : List Site) → All (IsSafeSite image levels limits) sites → AllWords (block_rows sites)
rows_words image levels limits [] h = tt
rows_words image levels limits (site ∷ sites) h =
    subst AllWords (sym (flat_map-cons stub_rows site sites))
    (words_join (stub_rows site) (block_rows sites) (place_words levels limits site.place (h 0 site (omega arith)).ways) (rows_words image levels limits sites (λ k d lt. h (suc k) d (omega arith))))
