-- The fragments of a stored edge as they are found in its stub, with the addresses of their tables.
use Rattle.std.proofs.Common.{◌≡◌, ℕ, zero, suc, ◌+◌, ◌*◌, ◌/◌, ◌%◌, ◌^◌, ◌<◌, ◌≤◌, List, [], ◌∷◌, ◌++◌, length, refl, arith, sym, ap, ◌∙◌, subst}
use Rattle.std.specs.Prelude.{All}
use Rattle.std.specs.List.{sum_by, flat_map}
use Rattle.std.proofs.lemmas.List.Elements.{All-nil, All-cons}
use Rattle.std.proofs.lemmas.List.Sums.{sum_by-cons}
use Rattle.std.proofs.lemmas.List.Concat.{flat_map-cons}
use Rattle.scale_base.specs.declared.fragments.Fragment.{Fragment}
use Rattle.scale_base.specs.declared.fragments.Fragment.TheVariants as fragments
use Rattle.scale_base.specs.Image.{Image, loaded_byte}
use Rattle.scale_base.specs.Run.{setting_of}
use Rattle.scale_base.specs.State.{Setting}
use Rattle.cost_theory.specs.Graph.{Loops}
use Rattle.stub_writer.specs.Fragments.{fragment_code, code_len, fragment_rows, rows_len}
use Rattle.stub_writer.specs.Stubs.{fragments_code, rows_by}
use Rattle.stored_runs.specs.Held.{Lie, LiesAt}
use Rattle.stored_runs.proofs.Laws.{lie_left}
use Rattle.stored_runs.specs.Stubbed.{IsQuiet, AreOrdered}
use Rattle.stored_runs.specs.Patched.{IsSafeFragment}
use Rattle.foreign_scan.specs.declared.fragment.ForeignFragment.{ForeignFragment}
use Rattle.foreign_scan.specs.declared.fragment.ForeignFragment.TheVariants.{Switch, Exit, Reset, Count}
use Rattle.foreign_scan.specs.Form.{foreign_code, foreign_len, IsForeign, ChoosesNone, FirstChooses, AreRowsIn}
use Rattle.foreign_scan.specs.Scanned.{IsOn}
use Rattle.image_check.specs.Safe.{Owner, owner_bound, words_from, with_rows, all_with_rows}

-- a fragment of one of the forms that a scan finds
abbrev pub IsPlain : Fragment → Type 0
IsPlain (fragments.Switch word) = Unit {0}
IsPlain (fragments.Exit counter shift rows) = Unit {0}
IsPlain (fragments.Reset counter) = Unit {0}
IsPlain (fragments.Count counter) = Unit {0}
IsPlain (fragments.Lowest down) = ⊥
IsPlain (fragments.Tally counter shift from) = ⊥

-- A fragment as it is found. Of the two forms that no scan finds something stands here that chooses and counts as they do.
abbrev pub found_one : (table : ℕ) → Fragment → ForeignFragment
found_one table (fragments.Switch word) = Switch word
found_one table (fragments.Exit counter shift rows) = Exit counter shift (table % 2 ^ 32)
found_one table (fragments.Reset counter) = Reset counter
found_one table (fragments.Count counter) = Count counter
found_one table (fragments.Lowest down) = Switch 0
found_one table (fragments.Tally counter shift from) = Count counter

abbrev pub found_with : (table : ℕ) → List Fragment → List ForeignFragment
found_with table [] = []
found_with table (f ∷ fs) = found_one table f ∷ found_with (table + 4 * rows_len f) fs

-- ---- code

one_code : (table : ℕ) (f : Fragment) → IsPlain f → foreign_code (found_one table f) ≡ fragment_code table f
one_code table (fragments.Switch word) plain = refl
one_code table (fragments.Exit counter shift rows) plain = refl
one_code table (fragments.Reset counter) plain = refl
one_code table (fragments.Count counter) plain = refl
one_code table (fragments.Lowest down) plain = absurd plain
one_code table (fragments.Tally counter shift from) plain = absurd plain

pub found_code : (table : ℕ) (fs : List Fragment) → All IsPlain fs → flat_map foreign_code (found_with table fs) ≡ fragments_code table fs
found_code table [] plain = refl
found_code table (f ∷ fs) plain =
    let later = table + 4 * rows_len f in
    flat_map-cons foreign_code (found_one table f) (found_with later fs)
    ∙ (ap (λ c. c ++ flat_map foreign_code (found_with later fs)) (one_code table f (plain 0 f (omega arith)))
    ∙ ap (λ c. fragment_code table f ++ c) (found_code later fs (λ k d lt. plain (suc k) d (omega (arith, lt)))))

one_len : (table : ℕ) (f : Fragment) → IsPlain f → foreign_len (found_one table f) ≡ code_len f
one_len table (fragments.Switch word) plain = refl
one_len table (fragments.Exit counter shift rows) plain = refl
one_len table (fragments.Reset counter) plain = refl
one_len table (fragments.Count counter) plain = refl
one_len table (fragments.Lowest down) plain = absurd plain
one_len table (fragments.Tally counter shift from) plain = absurd plain

pub found_lens : (table : ℕ) (fs : List Fragment) → All IsPlain fs → sum_by foreign_len (found_with table fs) ≡ sum_by code_len fs
found_lens table [] plain = refl
found_lens table (f ∷ fs) plain =
    let later = table + 4 * rows_len f in
    let one = one_len table f (plain 0 f (omega arith)) in
    let rest = found_lens later fs (λ k d lt. plain (suc k) d (omega (arith, lt))) in
    omega (arith, one, rest, sum_by-cons foreign_len (found_one table f) (found_with later fs), sum_by-cons code_len f fs)

pub found_length : (table : ℕ) (fs : List Fragment) → length (found_with table fs) ≡ length fs
found_length table [] = refl
found_length table (f ∷ fs) = ap suc (found_length (table + 4 * rows_len f) fs)

-- ---- their numbers fit, and at most the first one chooses a level

one_foreign : (levels : ℕ) (limits : ℕ → ℕ) (table : ℕ) (f : Fragment) → IsSafeFragment levels limits f → IsForeign (found_one table f)
one_foreign levels limits table (fragments.Switch word) h = h.0
one_foreign levels limits table (fragments.Exit counter shift rows) h = (h.0, h.1, omega arith)
one_foreign levels limits table (fragments.Reset counter) h = h
one_foreign levels limits table (fragments.Count counter) h = h
one_foreign levels limits table (fragments.Lowest down) h = omega arith
one_foreign levels limits table (fragments.Tally counter shift from) h = h.0

pub found_foreign : (levels : ℕ) (limits : ℕ → ℕ) (table : ℕ) (fs : List Fragment) → All (IsSafeFragment levels limits) fs → All IsForeign (found_with table fs)
found_foreign levels limits table [] h = All-nil IsForeign
found_foreign levels limits table (f ∷ fs) h =
    All-cons IsForeign (found_one table f) (found_with (table + 4 * rows_len f) fs) (one_foreign levels limits table f (h 0 f (omega arith)))
    (found_foreign levels limits (table + 4 * rows_len f) fs (λ k d lt. h (suc k) d (omega (arith, lt))))

one_quiet : (table : ℕ) (f : Fragment) → IsQuiet f → ChoosesNone (found_one table f)
one_quiet table (fragments.Switch word) q = absurd q
one_quiet table (fragments.Exit counter shift rows) q = absurd q
one_quiet table (fragments.Reset counter) q = tt
one_quiet table (fragments.Count counter) q = tt
one_quiet table (fragments.Lowest down) q = absurd q
one_quiet table (fragments.Tally counter shift from) q = absurd q

all_quiet : (table : ℕ) (fs : List Fragment) → All IsQuiet fs → All ChoosesNone (found_with table fs)
all_quiet table [] q = All-nil ChoosesNone
all_quiet table (f ∷ fs) q =
    All-cons ChoosesNone (found_one table f) (found_with (table + 4 * rows_len f) fs) (one_quiet table f (q 0 f (omega arith))) (all_quiet (table + 4 * rows_len f) fs (λ k d lt. q (suc k) d (omega (arith, lt))))

pub found_first : (table : ℕ) (fs : List Fragment) → AreOrdered fs → FirstChooses (found_with table fs)
found_first table [] q = tt
found_first table (f ∷ fs) q = all_quiet (table + 4 * rows_len f) fs q

-- an exit is the first fragment
no_exit : (fs : List ForeignFragment) (counter shift table : ℕ) → All ChoosesNone fs → IsOn (Exit counter shift table) fs → ⊥
no_exit [] counter shift table q (i, e) = let never : ⊥ = cc in never
no_exit (f ∷ fs) counter shift table q (zero, e) =
    let is : f ≡ Exit counter shift table = cc in subst ChoosesNone is (q 0 f (omega arith))
no_exit (f ∷ fs) counter shift table q (suc i, e) = no_exit fs counter shift table (λ k d lt. q (suc k) d (omega (arith, lt))) (i, e)

pub record HasExit (counter shift table : ℕ) (at : ℕ) (fs : List Fragment) : Type 0 where
  pub rows : List ℕ
  pub others : List Fragment
  pub parts : fs ≡ fragments.Exit counter shift rows ∷ others
  pub place : table ≡ at % 2 ^ 32

one_exit : (at : ℕ) (f : Fragment) (fs : List Fragment) (counter shift table : ℕ) → found_one at f ≡ Exit counter shift table → HasExit counter shift table at (f ∷ fs)
one_exit at (fragments.Switch word) fs counter shift table e = let never : ⊥ = cc in absurd never
one_exit at (fragments.Exit c s rows) fs counter shift table e =
    let first : c ≡ counter = cc in
    let second : s ≡ shift = cc in
    let third : at % 2 ^ 32 ≡ table = cc in
    record { rows = rows; others = fs; parts = ap (λ x. fragments.Exit x s rows ∷ fs) first ∙ ap (λ x. fragments.Exit counter x rows ∷ fs) second; place = sym third }
one_exit at (fragments.Reset c) fs counter shift table e = let never : ⊥ = cc in absurd never
one_exit at (fragments.Count c) fs counter shift table e = let never : ⊥ = cc in absurd never
one_exit at (fragments.Lowest down) fs counter shift table e = let never : ⊥ = cc in absurd never
one_exit at (fragments.Tally c s from) fs counter shift table e = let never : ⊥ = cc in absurd never

pub exit_on : (at : ℕ) (fs : List Fragment) (counter shift table : ℕ) → AreOrdered fs → IsOn (Exit counter shift table) (found_with at fs) → HasExit counter shift table at fs
exit_on at [] counter shift table q (i, e) = let never : ⊥ = cc in absurd never
exit_on at (f ∷ fs) counter shift table q (zero, e) = let is : found_one at f ≡ Exit counter shift table = cc in one_exit at f fs counter shift table is
exit_on at (f ∷ fs) counter shift table q (suc i, e) = absurd (no_exit (found_with (at + 4 * rows_len f) fs) counter shift table (all_quiet (at + 4 * rows_len f) fs q) (i, e))

-- ---- rows

-- the fragment has a row for each count of its counter, and no more
abbrev pub HasItsRows : Loops → Owner → Fragment → Type 0
HasItsRows l owner (fragments.Switch word) = Unit {0}
HasItsRows l owner (fragments.Exit counter shift rows) = length rows ≡ owner_bound l (owner counter) / 2 ^ shift + 1
HasItsRows l owner (fragments.Reset counter) = Unit {0}
HasItsRows l owner (fragments.Count counter) = Unit {0}
HasItsRows l owner (fragments.Lowest down) = Unit {0}
HasItsRows l owner (fragments.Tally counter shift from) = Unit {0}

module _ (image : Image) (levels : ℕ) (input : List ℕ) where
  abbrev env : Setting
  env = setting_of image levels input

  words_are : (table : ℕ) (rows : List ℕ) → Lie env (loaded_byte image) table rows → words_from image table (length rows) ≡ rows
  words_are table [] h = refl
  words_are table (r ∷ rows) h = ap (λ x. x ∷ words_from image (table + 4) (length rows)) h.0.same ∙ ap (λ xs. r ∷ xs) (words_are (table + 4) rows h.1)

  pub row_lies : (table j : ℕ) (rows : List ℕ) → j < length rows → Lie env (loaded_byte image) table rows → (word : ℕ) × LiesAt env (loaded_byte image) (table + 4 * j) word
  row_lies table j [] lt h = let no : ⊥ = omega (arith, lt) in absurd no
  row_lies table zero (r ∷ rows) lt h = (r, let e : table ≡ table + 4 * zero = omega arith in subst (λ a. LiesAt env (loaded_byte image) a r) e h.0)
  row_lies table (suc j) (r ∷ rows) lt h =
      let later = row_lies (table + 4) j rows (omega (arith, lt)) h.1 in
      let e : table + 4 + 4 * j ≡ table + 4 * suc j = omega arith in
      (later.0, subst (λ a. LiesAt env (loaded_byte image) a later.0) e later.1)

  -- rows that lie at a multiple of 4 lie in the keyed segment
  pub rows_in : (table : ℕ) (rows : List ℕ) (n : ℕ) → table % 4 ≡ 0 → n ≤ length rows → Lie env (loaded_byte image) table rows → AreRowsIn image table n
  rows_in table rows n even le h j lt = let r = row_lies table j rows (omega (arith, le, lt)) h in (omega (arith, even), λ i low. r.1.whole i low)

  module _ (l : Loops) (owner : Owner) where
    quiet_again : (table : ℕ) (f : Fragment) → IsQuiet f → with_rows image l owner (found_one table f) ≡ f
    quiet_again table (fragments.Switch word) q = absurd q
    quiet_again table (fragments.Exit counter shift rows) q = absurd q
    quiet_again table (fragments.Reset counter) q = refl
    quiet_again table (fragments.Count counter) q = refl
    quiet_again table (fragments.Lowest down) q = absurd q
    quiet_again table (fragments.Tally counter shift from) q = absurd q

    quiets_again : (table : ℕ) (fs : List Fragment) → All IsQuiet fs → all_with_rows image l owner (found_with table fs) ≡ fs
    quiets_again table [] q = refl
    quiets_again table (f ∷ fs) q =
        let later = table + 4 * rows_len f in
        ap (λ x. x ∷ all_with_rows image l owner (found_with later fs)) (quiet_again table f (q 0 f (omega arith))) ∙ ap (λ xs. f ∷ xs) (quiets_again later fs (λ k d lt. q (suc k) d (omega (arith, lt))))

    one_again : (table : ℕ) (f : Fragment) → IsPlain f → HasItsRows l owner f → table < 2 ^ 32 → Lie env (loaded_byte image) table (fragment_rows f) → with_rows image l owner (found_one table f) ≡ f
    one_again table (fragments.Switch word) plain its low h = refl
    one_again table (fragments.Exit counter shift rows) plain its low h =
        let small : table % 2 ^ 32 ≡ table = omega (arith, low) in
        ap (fragments.Exit counter shift)
        (ap (λ a. words_from image a (owner_bound l (owner counter) / 2 ^ shift + 1)) small ∙ (ap (words_from image table) (sym its) ∙ words_are table rows h))
    one_again table (fragments.Reset counter) plain its low h = refl
    one_again table (fragments.Count counter) plain its low h = refl
    one_again table (fragments.Lowest down) plain its low h = absurd plain
    one_again table (fragments.Tally counter shift from) plain its low h = absurd plain

    -- with their rows they are the fragments again
    pub found_again : (table : ℕ) (fs : List Fragment) → AreOrdered fs → All IsPlain fs → All (HasItsRows l owner) fs → table < 2 ^ 32 → Lie env (loaded_byte image) table (rows_by fs)
        → all_with_rows image l owner (found_with table fs) ≡ fs
    found_again table [] q plain its low h = refl
    found_again table (f ∷ fs) q plain its low h =
        let own = lie_left env (loaded_byte image) table (fragment_rows f) (rows_by fs) (subst (Lie env (loaded_byte image) table) (flat_map-cons fragment_rows f fs) h) in
        let later = table + 4 * rows_len f in
        ap (λ x. x ∷ all_with_rows image l owner (found_with later fs)) (one_again table f (plain 0 f (omega arith)) (its 0 f (omega arith)) low own) ∙ ap (λ xs. f ∷ xs) (quiets_again later fs q)

  -- the rows of an exit lie in the keyed segment
  pub exit_rows_in : (at counter shift table : ℕ) (fs : List Fragment) (n : ℕ) (x : HasExit counter shift table at fs) → at % 4 ≡ 0 → at < 2 ^ 32 → n ≤ length x.rows → Lie env (loaded_byte image) at (rows_by fs) → AreRowsIn image table n
  exit_rows_in at counter shift table fs n x even low le h =
      let small : table ≡ at = (let e = x.place in omega (arith, e, low)) in
      let all : rows_by fs ≡ x.rows ++ rows_by x.others = ap rows_by x.parts ∙ flat_map-cons fragment_rows (fragments.Exit counter shift x.rows) x.others in
      let own = lie_left env (loaded_byte image) at x.rows (rows_by x.others) (subst (Lie env (loaded_byte image) at) all h) in
      subst (λ a. AreRowsIn image a n) (sym small) (rows_in at x.rows n even le own)
