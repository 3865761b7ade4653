-- A block whose stubs are in reach is short, and the text lies before it.
use Rattle.std.proofs.Common.{◌≡◌, ℕ, pos, negsuc, suc, ◌+◌, ◌-◌, ◌*◌, ◌%◌, ◌^◌, ◌<◌, ◌≤◌, ◌⊎◌, inl, inr, Bool, true, false, cond, List, [], ◌∷◌, ◌++◌, map, length, slice_get, Option, Some, None, Ok, refl, sym, ap, ◌∙◌, subst, arith, ⊎_elim}
use Rattle.std.specs.Prelude.{All, ◌==◌, nat_lt, nat_le, fold}
use Rattle.std.specs.Int.{w32, cast_signed}
use Rattle.std.specs.List.{sum_by, list_any}
use Rattle.std.proofs.lemmas.Bool.{cond_both, and_parts, and_from, cases_lt, or_cases}
use Rattle.std.proofs.lemmas.Bool.Decides.{nat_tests}
use Rattle.std.proofs.lemmas.List.{length-append}
use Rattle.std.proofs.lemmas.List.Elements.{All-nil, All-cons}
use Rattle.std.proofs.lemmas.List.Sums.{sum_by-cons}
use Rattle.std.proofs.lemmas.List.Concat.{flat_map-cons}
use Rattle.scale_base.specs.declared.ranges.Range.{Range}
use Rattle.scale_base.specs.declared.fragments.Fragment.{Fragment}
use Rattle.scale_base.specs.declared.fragments.Fragment.TheVariants as fragments
use Rattle.scale_base.specs.Image.{Image, image_of, contents, is_in, insert_range, ascending, text_ranges, range_of, text_parts, loaded_headers}
use Rattle.scale_base.proofs.Laws.{contents-are}
use Rattle.elf_patch.specs.Stored.{IsStubBase, text_end, end_in}
use Rattle.elf_patch.proofs.Laws.{some_place}
use Rattle.machine_laws.proofs.Laws.{text_ranges_kept}
use Rattle.code_text.specs.Text.{AreApart}
use Rattle.code_text.proofs.Laws.{ranges_apart}
use Rattle.rv_encode.specs.Jumps.{distance}
use Rattle.stub_writer.specs.Fragments.{code_len, fragment_rows}
use Rattle.stub_writer.specs.Stubs.{Site, Place, Forked, Straight, way_rows, rows_by, stub_len, stub_len_of, stub_rows, stub_rows_of, stubs_len, block_rows, block_size, block_bytes, is_even, is_field, reaches, is_near, out_of_reach, stub_reaches_of}
use Rattle.stored_runs.proofs.Laws.{codes_small, block_length, words_length}
use Rattle.stored_runs.specs.Stubbed.{IsSafe, AreSafeWays, IsSafeSite}

-- ---- reach

pub field_near : (x : ℕ) → x ≤ 0xFFA00000 → is_field (cast_signed w32 x) ≡ true → x < 2 ^ 20
field_near x high h =
    by (cases_lt x (2 ^ 31))
  where
    by : (x < 2 ^ 31) ⊎ (2 ^ 31 ≤ x) → x < 2 ^ 20
    by (inl low) =
        let e : cast_signed w32 x ≡ pos x = (let t : nat_lt x (2 ^ 31) ≡ true = grind (arith, nat_tests) in ap (λ b. cond b (pos x) (negsuc (2 ^ 32 - suc x))) t) in
        let f : nat_lt x (2 ^ 20) ≡ true = sym (ap is_field e) ∙ h in grind (arith, nat_tests)
    by (inr big) =
        let e : cast_signed w32 x ≡ negsuc (2 ^ 32 - suc x) = (let t : nat_lt x (2 ^ 31) ≡ false = grind (arith, nat_tests) in ap (λ b. cond b (pos x) (negsuc (2 ^ 32 - suc x))) t) in
        let f : nat_lt (2 ^ 32 - suc x) (2 ^ 20) ≡ true = sym (ap is_field e) ∙ h in
        let g : 2 ^ 32 - suc x < 2 ^ 20 = grind (arith, nat_tests) in
        omega (arith, g, high)

reach_near : (from to : ℕ) → from < to → to ≤ 0xFFA00000 → reaches from to ≡ true → to < from + 2 ^ 20
reach_near from to lt high h =
    let d : (to % 2 ^ 32 + (2 ^ 32 - from % 2 ^ 32)) % 2 ^ 32 ≡ to - from = omega arith in
    let parts = and_parts (is_even (distance (from % 2 ^ 32) (to % 2 ^ 32))) (is_field (distance (from % 2 ^ 32) (to % 2 ^ 32))) h in
    let near = field_near (to - from) (omega arith) (ap (λ x. is_field (cast_signed w32 x)) (sym d) ∙ parts.1) in
    omega (arith, near, lt)

-- ---- lengths

row_short : (levels : ℕ) (limits : ℕ → ℕ) (f : Fragment) → IsSafe levels limits f → length (fragment_rows f) ≤ code_len f
row_short levels limits (fragments.Switch word) h = omega arith
row_short levels limits (fragments.Exit counter shift rows) h = let few = h.2 in omega (arith, few)
row_short levels limits (fragments.Reset counter) h = omega arith
row_short levels limits (fragments.Count counter) h = omega arith
row_short levels limits (fragments.Lowest down) h = omega arith
row_short levels limits (fragments.Tally counter shift from) h = omega arith

rows_short : (levels : ℕ) (limits : ℕ → ℕ) (fs : List Fragment) → All (IsSafe levels limits) fs → length (rows_by fs) ≤ sum_by code_len fs
rows_short levels limits [] h = omega arith
rows_short levels limits (f ∷ fs) h =
    let one = row_short levels limits f (h 0 f (omega arith)) in
    let rest = rows_short levels limits fs (λ k d lt. h (suc k) d (omega arith)) in
    let e : length (rows_by (f ∷ fs)) ≡ length (fragment_rows f ++ rows_by fs) = ap length (flat_map-cons fragment_rows f fs) in
    omega (arith, one, rest, e, length-append (fragment_rows f) (rows_by fs), sum_by-cons code_len f fs)

record IsShort (s : Site) : Type 0 where
  rows : length (stub_rows s) ≤ stub_len s
  words : stub_len s ≤ 547

short_place : (levels : ℕ) (limits : ℕ → ℕ) (p : Place) → AreSafeWays levels limits p → (length (stub_rows_of p) ≤ stub_len_of p) × (stub_len_of p ≤ 547)
short_place levels limits (Forked op rs1 rs2 untaken taken) h =
    let a = h.2 in
    let b = h.3 in
    let ra = rows_short levels limits untaken.fragments a.safe in
    let rb = rows_short levels limits taken.fragments b.safe in
    let ca = codes_small untaken.fragments in
    let cb = codes_small taken.fragments in
    (omega (arith, ra, rb, length-append (way_rows untaken) (way_rows taken)), omega (arith, ca, cb, a.few, b.few))
short_place levels limits (Straight way) h =
    let ra = rows_short levels limits way.fragments h.safe in
    let ca = codes_small way.fragments in
    (omega (arith, ra), omega (arith, ca, h.few))

-- ---- the block

near_first : (b : Bool) (rest : Option ℕ) (at : ℕ) → cond b rest (Some at) ≡ None → (b ≡ true) × (rest ≡ None)
near_first true rest at h = (refl, h)
near_first false rest at h = let never : ⊥ = cc in absurd never

near_len : (base at : ℕ) (sites : List Site) → All (λ s. s.at < base) sites → All (λ s. (length (stub_rows s) ≤ stub_len s) × (stub_len s ≤ 547)) sites → base ≤ at → at ≤ base + 2 ^ 20 + 2188 → base ≤ 0xFF800000 → out_of_reach at sites ≡ None
    → (at + 4 * stubs_len sites ≤ base + 2 ^ 20 + 2188) × (length (block_rows sites) ≤ stubs_len sites)
near_len base at [] below short from to high near = (omega (arith, to), omega arith)
near_len base at (site ∷ sites) below short from to high near =
    let first = near_first (is_near at site) (out_of_reach (at + 4 * stub_len site) sites) site.at near in
    let reach = (and_parts (reaches site.at at) (stub_reaches_of at site.place) first.0).0 in
    let lt = below 0 site (omega arith) in
    let close = reach_near site.at at (omega (arith, lt, from)) (omega (arith, to, high)) reach in
    let s = short 0 site (omega arith) in
    let rest = near_len base (at + 4 * stub_len site) sites (λ k d q. below (suc k) d (omega arith)) (λ k d q. short (suc k) d (omega arith)) (omega (arith, from)) (omega (arith, close, lt, s.1)) high first.1 in
    let e : length (block_rows (site ∷ sites)) ≡ length (stub_rows site ++ block_rows sites) = ap length (flat_map-cons stub_rows site sites) in
    (omega (arith, rest.0, sum_by-cons stub_len site sites), omega (arith, rest.1, s.0, e, length-append (stub_rows site) (block_rows sites), sum_by-cons stub_len site sites))

-- ---- the end of the text

abbrev Sorted : List Range → Type 0
Sorted [] = Unit {0}
Sorted (r ∷ rs) = All (λ q. r.from ≤ q.from) rs × Sorted rs

inserted_all : (P : Range → Type 0) (rs : List Range) (r : Range) → All P rs → P r → All P (insert_range rs r)
inserted_all P [] r h p = All-cons P r [] p (All-nil P)
inserted_all P (x ∷ rs) r h p = cond_both (nat_lt r.from x.from) _ _ (All P) (λ _. All-cons P r (x ∷ rs) p h) (λ _. All-cons P x (insert_range rs r) (h 0 x (omega arith)) (inserted_all P rs r (λ k d lt. h (suc k) d (omega arith)) p))

inserted_sorted : (rs : List Range) (r : Range) → Sorted rs → Sorted (insert_range rs r)
inserted_sorted [] r h = (All-nil (λ q. r.from ≤ q.from), tt)
inserted_sorted (x ∷ rs) r h = cond_both (nat_lt r.from x.from) _ _ Sorted
    (λ e. let lt : r.from < x.from = grind (arith, nat_tests) in
    (All-cons (λ q. r.from ≤ q.from) x rs (omega arith) (λ k d q. let up = h.0 k d q in omega (arith, up, lt)), h))
    (λ e. let ge : x.from ≤ r.from = grind (arith, nat_tests) in
    (inserted_all (λ q. x.from ≤ q.from) rs r h.0 ge, inserted_sorted rs r h.1))

fold_sorted : (rs xs : List Range) → Sorted rs → Sorted (fold insert_range rs xs)
fold_sorted rs [] h = h
fold_sorted rs (x ∷ xs) h = fold_sorted (insert_range rs x) xs (inserted_sorted rs x h)

contents_sorted : (file : List ℕ) → Sorted (contents file).text
unfolding contents text_ranges ascending
contents_sorted file = fold_sorted [] (map range_of (text_parts file (loaded_headers file))) tt

text_sorted : (file : List ℕ) (image : Image) → image_of file ≡ Ok image → Sorted image.text
text_sorted file image e = subst (λ (i : Image). Sorted i.text) (contents-are file image e) (contents_sorted file)

in_of : (a : ℕ) (r : Range) → r.from ≤ a → a < r.to → is_in a r ≡ true
in_of a r lo hi = and_from (nat_le r.from a) (nat_lt a r.to) (grind (arith, nat_tests)) (grind (arith, nat_tests))

of_in : (a : ℕ) (r : Range) → is_in a r ≡ true → a < r.to
of_in a r h = let p = and_parts (nat_le r.from a) (nat_lt a r.to) h in grind (arith, nat_tests)

end_more : (r q : Range) (rs : List Range) → text_end (r ∷ q ∷ rs) ≡ text_end (q ∷ rs)
end_more r q rs = let e : length (r ∷ q ∷ rs) - 1 ≡ suc (length (q ∷ rs) - 1) = omega arith in ap (λ i. end_in (slice_get (r ∷ q ∷ rs) i)) e

ends_below : (rs : List Range) → Sorted rs → AreApart rs → All (λ r. r.from < r.to) rs → All (λ r. r.to ≤ text_end rs) rs
ends_below [] s apart some = All-nil (λ r. r.to ≤ 0)
ends_below (r ∷ []) s apart some = All-cons (λ q. q.to ≤ r.to) r [] (omega arith) (All-nil (λ q. q.to ≤ r.to))
ends_below (r ∷ q ∷ rs) s apart some =
    let rest = ends_below (q ∷ rs) s.1 (λ k d lt. λ j c lj. apart (suc k) d (omega arith) (suc j) c (omega arith)) (λ k d lt. some (suc k) d (omega arith)) in
    let e = end_more r q rs in
    let qe = rest 0 q (omega arith) in
    let up = s.0 0 q (omega arith) in
    let qs = some 1 q (omega arith) in
    let first : r.to ≤ text_end (q ∷ rs) = ⊎_elim
    (λ (over : q.from < r.to).
    let same : r ≡ q = apart 0 r (omega arith) 1 q (omega arith) q.from (in_of q.from r up over) (in_of q.from q (omega arith) qs) in
    let t : r.to ≡ q.to = ap (λ (x : Range). x.to) same in omega (arith, t, qe))
    (λ (under : r.to ≤ q.from). omega (arith, under, qs, qe))
    (cases_lt q.from r.to) in
    subst (λ n. All (λ x. x.to ≤ n) (r ∷ q ∷ rs)) (sym e) (All-cons (λ x. x.to ≤ text_end (q ∷ rs)) r (q ∷ rs) first rest)

any_below_end : (a n : ℕ) (rs : List Range) → All (λ r. r.to ≤ n) rs → list_any (is_in a) rs ≡ true → a < n
any_below_end a n [] h e = let never : ⊥ = cc in absurd never
any_below_end a n (r ∷ rs) h e = ⊎_elim
    (λ here. let lt = of_in a r here in let le = h 0 r (omega arith) in omega (arith, lt, le))
    (λ later. any_below_end a n rs (λ k d lt. h (suc k) d (omega arith)) later)
    (or_cases (is_in a r) (list_any (is_in a) rs) e)

pub text_below : (file : List ℕ) (image : Image) (a : ℕ) → image_of file ≡ Ok image → list_any (is_in a) image.text ≡ true → a < text_end image.text
text_below file image a e on =
    let kept = text_ranges_kept file image e in
    any_below_end a (text_end image.text) image.text (ends_below image.text (text_sorted file image e) (ranges_apart file image e) (λ k d lt. (kept k d lt).nonempty)) on

-- ---- all together

pub block_short : (file : List ℕ) (image : Image) (levels : ℕ) (limits : ℕ → ℕ) (sites : List Site) (base len : ℕ) → image_of file ≡ Ok image → len ≤ 4194304 → IsStubBase image len base → All (IsSafeSite image levels limits) sites → out_of_reach base sites ≡ None
    → block_size sites ≤ 4194304
block_short file image levels limits sites base len e short is safe near =
    let place = some_place file image len e short in
    let low = is.least place.0 place.1 in
    let behind = is.place.behind in
    let below : All (λ s. s.at < base) sites = λ k d lt.
    let s = safe k d lt in
    let on = (and_parts (_ == 0) (list_any (is_in _) image.text) s.word).1 in
    let t = text_below file image _ e on in omega (arith, t, behind) in
    let all : All (λ s. (length (stub_rows s) ≤ stub_len s) × (stub_len s ≤ 547)) sites = λ k d lt. short_place levels limits _ (safe k d lt).ways in
    let r = near_len base base sites below all (omega arith) (omega arith) (omega (arith, low, place.2)) near in
    omega (arith, r.0, r.1)

pub block_bytes_len : (base : ℕ) (sites : List Site) → length (block_bytes base sites) ≡ block_size sites
block_bytes_len base sites = let a = block_length base sites in let b = words_length base sites in omega (arith, a, b)
