-- A block of stubs that are in reach is short: its last stub begins less than 2 ^ 20 bytes behind the base, and it has no more rows than words of code.
use Rattle.std.proofs.Common.{◌≡◌, ℕ, pos, negsuc, suc, ◌+◌, ◌-◌, ◌*◌, ◌%◌, ◌^◌, ◌<◌, ◌≤◌, ◌⊎◌, inl, inr, true, false, cond, List, [], ◌∷◌, ◌++◌, length, None, Ok, sym, ap, ◌∙◌, arith}
use Rattle.std.specs.Prelude.{All, ◌==◌, nat_lt}
use Rattle.std.specs.Int.{w32, cast_signed}
use Rattle.std.specs.List.{sum_by, list_any}
use Rattle.std.proofs.lemmas.Bool.{and_parts, cases_lt}
use Rattle.std.proofs.lemmas.Bool.Decides.{nat_tests}
use Rattle.std.proofs.lemmas.List.{length-append}
use Rattle.std.proofs.lemmas.List.Sums.{sum_by-cons}
use Rattle.std.proofs.lemmas.List.Concat.{flat_map-cons}
use Rattle.scale_base.specs.declared.fragments.Fragment.{Fragment}
use Rattle.scale_base.specs.declared.fragments.Fragment.TheVariants.{Switch, Exit, Reset, Count, Lowest, Tally}
use Rattle.scale_base.specs.Image.{Image, image_of, is_in}
use Rattle.elf_patch.specs.Stored.{IsStubBase}
use Rattle.elf_patch.proofs.Laws.{some_place}
use Rattle.rv_encode.specs.Jumps.{distance}
use Rattle.stub_writer.specs.Fragments.{code_len, fragment_rows}
use Rattle.stub_writer.specs.Stubs.{Site, Way, Place, Forked, Straight, way_len, way_rows, rows_by, stub_len, stub_len_of, stub_rows, stub_rows_of, stubs_len, block_rows, block_size, is_even, is_field, reaches, is_near, out_of_reach, stub_reaches_of}
use Rattle.stub_writer.proofs.Laws.{all_near}
use Rattle.stored_runs.specs.Stubbed.{IsSafe, IsSafeWay, AreSafeWays, IsSafeSite}
use Rattle.stored_runs.proofs.Laws.{codes_small}
use Rattle.stored_lengths.proofs.TextEnd.{text_below}

-- ---- reach

-- an offset of a jump on, which is below 2 ^ 32
small_field : (x : ℕ) → x ≤ 0xFFA00000 → is_field (cast_signed w32 x) ≡ true → x < 2 ^ 20
small_field x high h =
    by (cases_lt x (2 ^ 31))
  where
    by : (x < 2 ^ 31) ⊎ (2 ^ 31 ≤ x) → x < 2 ^ 20
    by (inl low) =
        let e : cast_signed w32 x ≡ pos x = (let t : nat_lt x (2 ^ 31) ≡ true = grind (arith, nat_tests) in ap (λ b. cond b (pos x) (negsuc (2 ^ 32 - suc x))) t) in
        let f : nat_lt x (2 ^ 20) ≡ true = sym (ap is_field e) ∙ h in grind (arith, nat_tests)
    by (inr big) =
        let e : cast_signed w32 x ≡ negsuc (2 ^ 32 - suc x) = (let t : nat_lt x (2 ^ 31) ≡ false = grind (arith, nat_tests) in ap (λ b. cond b (pos x) (negsuc (2 ^ 32 - suc x))) t) in
        let f : nat_lt (2 ^ 32 - suc x) (2 ^ 20) ≡ true = sym (ap is_field e) ∙ h in
        let g : 2 ^ 32 - suc x < 2 ^ 20 = grind (arith, nat_tests) in
        omega (arith, g, high)

-- a jump on to an address below the window leads less than 2 ^ 20 bytes on
near_on : (from to : ℕ) → from < to → to ≤ 0xFFA00000 → reaches from to ≡ true → to < from + 2 ^ 20
near_on from to lt high h =
    let d : (to % 2 ^ 32 + (2 ^ 32 - from % 2 ^ 32)) % 2 ^ 32 ≡ to - from = omega arith in
    let parts = and_parts (is_even (distance (from % 2 ^ 32) (to % 2 ^ 32))) (is_field (distance (from % 2 ^ 32) (to % 2 ^ 32))) h in
    let near = small_field (to - from) (omega (arith, high)) (ap (λ x. is_field (cast_signed w32 x)) (sym d) ∙ parts.1) in
    omega (arith, near, lt)

-- ---- the words of a stub

rows_within : (levels : ℕ) (limits : ℕ → ℕ) (f : Fragment) → IsSafe levels limits f → length (fragment_rows f) ≤ code_len f
rows_within levels limits (Switch word) h = omega arith
rows_within levels limits (Exit counter shift rows) h = h.2
rows_within levels limits (Reset counter) h = omega arith
rows_within levels limits (Count counter) h = omega arith
rows_within levels limits (Lowest down) h = omega arith
rows_within levels limits (Tally counter shift from) h = omega arith

all_rows_within : (levels : ℕ) (limits : ℕ → ℕ) (fs : List Fragment) → All (IsSafe levels limits) fs → length (rows_by fs) ≤ sum_by code_len fs
all_rows_within levels limits [] h = omega arith
all_rows_within levels limits (f ∷ fs) h =
    let one = rows_within levels limits f (h 0 f (omega arith)) in
    let rest = all_rows_within levels limits fs (λ k d lt. h (suc k) d (omega arith)) in
    let e : length (rows_by (f ∷ fs)) ≡ length (fragment_rows f ++ rows_by fs) = ap length (flat_map-cons fragment_rows f fs) in
    omega (arith, one, rest, e, length-append (fragment_rows f) (rows_by fs), sum_by-cons code_len f fs)

-- a stub has no more rows than words of code, and few of them
abbrev IsShort : Place → Type 0
IsShort p = (length (stub_rows_of p) ≤ stub_len_of p) × (stub_len_of p ≤ 547)

way_short : (levels : ℕ) (limits : ℕ → ℕ) (w : Way) → IsSafeWay levels limits w → (length (way_rows w) ≤ way_len w) × (way_len w ≤ 273)
way_short levels limits w h =
    let rows = all_rows_within levels limits w.fragments h.safe in
    let words = codes_small w.fragments in
    let few = h.few in
    (omega (arith, rows), omega (arith, words, few))

place_short : (levels : ℕ) (limits : ℕ → ℕ) (p : Place) → AreSafeWays levels limits p → IsShort p
place_short levels limits (Forked op rs1 rs2 untaken taken) h =
    let a = way_short levels limits untaken h.2 in
    let b = way_short levels limits taken h.3 in
    (omega (arith, a.0, b.0, length-append (way_rows untaken) (way_rows taken)), omega (arith, a.1, b.1))
place_short levels limits (Straight w) h = let a = way_short levels limits w h in (a.0, omega (arith, a.1))

-- ---- the block

-- the code of stubs from an address on, and their rows, where the marked instructions lie below the base
within : (base at : ℕ) (sites : List Site) → All (λ s. s.at < base) sites → All (λ s. IsShort s.place) sites → base ≤ at → at ≤ base + 2 ^ 20 + 2188 → base ≤ 0xFF800000 → out_of_reach at sites ≡ None
    → (at + 4 * stubs_len sites ≤ base + 2 ^ 20 + 2188) × (length (block_rows sites) ≤ stubs_len sites)
within base at [] below short from to high near = (omega (arith, to), omega arith)
within base at (site ∷ sites) below short from to high near =
    let first = all_near (is_near at site) (out_of_reach (at + 4 * stub_len site) sites) site.at near in
    let reach = (and_parts (reaches site.at at) (stub_reaches_of at site.place) first.0).0 in
    let lt = below 0 site (omega arith) in
    let close = near_on site.at at (omega (arith, lt, from)) (omega (arith, to, high)) reach in
    let s = short 0 site (omega arith) in
    let rest = within base (at + 4 * stub_len site) sites (λ k d q. below (suc k) d (omega arith)) (λ k d q. short (suc k) d (omega arith)) (omega (arith, from)) (omega (arith, close, lt, s.1)) high first.1 in
    let e : length (block_rows (site ∷ sites)) ≡ length (stub_rows site ++ block_rows sites) = ap length (flat_map-cons stub_rows site sites) in
    (omega (arith, rest.0, sum_by-cons stub_len site sites), omega (arith, rest.1, s.0, e, length-append (stub_rows site) (block_rows sites), sum_by-cons stub_len site sites))

-- at most 2 ^ 20 + 2188 bytes of code, and as many of rows
pub block_small : (file : List ℕ) (image : Image) (levels : ℕ) (limits : ℕ → ℕ) (sites : List Site) (base len : ℕ) → image_of file ≡ Ok image → len ≤ 4194304 → IsStubBase image len base → All (IsSafeSite image levels limits) sites → out_of_reach base sites ≡ None
    → block_size sites ≤ 2101528
block_small file image levels limits sites base len e short is safe near =
    let place = some_place file image len e short in
    let low = is.least place.0 place.1 in
    let behind = is.place.behind in
    let below : All (λ s. s.at < base) sites = λ k d lt.
    let s = safe k d lt in
    let on = (and_parts (_ == 0) (list_any (is_in _) image.text) s.word).1 in
    let t = text_below file image _ e on in omega (arith, t, behind) in
    let all : All (λ s. IsShort s.place) sites = λ k d lt. place_short levels limits _ (safe k d lt).ways in
    let r = within base base sites below all (omega arith) (omega arith) (omega (arith, low, place.2)) near in
    omega (arith, r.0, r.1)
