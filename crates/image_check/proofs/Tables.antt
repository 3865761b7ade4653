-- The tables of an image whose entries meet a test: they are levels, and lead to a lower one only where the test is met.
use Rattle.std.proofs.Common.{◌≡◌, inl, inr, ℕ, zero, suc, ◌+◌, ◌*◌, ◌/◌, ◌^◌, ◌<◌, ◌≤◌, Bool, true, List, [], ◌∷◌, length, refl, arith, sym, ap, ◌∙◌, subst, Some, None}
use Rattle.std.specs.Prelude.{All, slice_index}
use Rattle.std.proofs.lemmas.List.Elements.{All-nil, All-cons}
use Rattle.scale_base.specs.declared.fragments.Fragment.TheVariants as fragments
use Rattle.scale_base.specs.Image.{Image, loaded_byte}
use Rattle.scale_base.specs.State.{word_at}
use Rattle.power_model.specs.Numbers.{PowerModel}
use Rattle.cost_theory.specs.Graph.{Graph, Loops, leaves}
use Rattle.cost_theory.specs.Worst.{Numbers}
use Rattle.cycle_laws.specs.Charged.{Charged}
use Rattle.stored_runs.specs.Meaning.{four_bits}
use Rattle.stored_runs.specs.Marks.{tail_cycles}
use Rattle.stored_runs.specs.Stubbed as stubbed
use Rattle.stored_runs.specs.Stubbed.{AreOrdered, IsQuiet}
use Rattle.stored_runs.specs.Patched.{IsSafeFragment}
use Rattle.power_model.specs.Switches.{costs_of}
use Rattle.level_tables.specs.Tables.{at_row}
use Rattle.level_tables.specs.declared.edge_numbers.EdgeNumbers.{EdgeNumbers}
use Rattle.paid_runs.specs.Tabled.{told_on, IsEntryBy, IsEdgeTabledBy}
use Rattle.foreign_scan.specs.declared.fragment.ForeignFragment.{ForeignFragment}
use Rattle.foreign_scan.specs.declared.fragment.ForeignFragment.TheVariants.{Switch, Exit, Reset, Count}
use Rattle.foreign_scan.specs.Form.{IsForeign, ChoosesNone, FirstChooses}
use Rattle.image_check.specs.Safe.{Owner, owner_bound, words_from, with_rows, all_with_rows, IsWordBy, AreWordsBy}
use Rattle.image_check.specs.Laws.{is_owner}
use Rattle.image_check.proofs.Owning.{is_own}

-- ---- words of a table

pub words_count : (image : Image) (table n : ℕ) → length (words_from image table n) ≡ n
words_count image table zero = refl
words_count image table (suc n) = ap suc (words_count image (table + 4) n)

pub word_of_row : (image : Image) (table n j : ℕ) → j < n → slice_index (words_from image table n) j ≡ word_at (loaded_byte image) (table + 4 * j)
word_of_row image table zero j lt = absurd (omega (arith, lt))
word_of_row image table (suc n) zero lt = let e : table ≡ table + 4 * 0 = omega arith in ap (word_at (loaded_byte image)) e
word_of_row image table (suc n) (suc j) lt =
    let e : table + 4 + 4 * j ≡ table + 4 * suc j = omega arith in
    word_of_row image (table + 4) n j (omega (arith, lt)) ∙ ap (word_at (loaded_byte image)) e

-- ---- entries

not_higher : (meets : EdgeNumbers → ℕ → ℕ → Bool) (told : EdgeNumbers) (i j : ℕ) → IsEntryBy meets told i j → j ≤ i
not_higher meets told i j (inl same) = omega (arith, same)
not_higher meets told i j (inr lower) = let low = lower.0 in omega (arith, low)

-- the entries of such a word are levels
pub is_table : (power : PowerModel) (meets : EdgeNumbers → ℕ → ℕ → Bool) (told : EdgeNumbers) (word : ℕ) → word < 2 ^ 32 → IsWordBy power meets told word → stubbed.IsTable (length power.levels) word
is_table power meets told word small safe = (small, λ i low. let at_most = not_higher meets told i (four_bits word i) (safe i low) in omega (arith, at_most, low))

module _ (power : PowerModel) (meets : EdgeNumbers → ℕ → ℕ → Bool) (image : Image) (l : Loops) (owner : Owner) (n : Numbers) (bytes : (a : ℕ) → loaded_byte image a < 256) where
  abbrev limits : ℕ → ℕ
  limits c = owner_bound l (owner c)

  small_word : (at : ℕ) → word_at (loaded_byte image) at < 2 ^ 32
  small_word at =
      let b0 = bytes at in
      let b1 = bytes (at + 1) in
      let b2 = bytes (at + 2) in
      let b3 = bytes (at + 3) in
      omega (arith, b0, b1, b2, b3)

  quiet_safe : (f : ForeignFragment) → IsForeign f → ChoosesNone f → IsSafeFragment (length power.levels) limits (with_rows image l owner f)
  quiet_safe (Switch word) h q = absurd q
  quiet_safe (Exit counter shift table) h q = absurd q
  quiet_safe (Reset counter) h q = h
  quiet_safe (Count counter) h q = h

  quiet_all : (fs : List ForeignFragment) → All IsForeign fs → All ChoosesNone fs → All (IsSafeFragment (length power.levels) limits) (all_with_rows image l owner fs)
  quiet_all [] h q = All-nil (IsSafeFragment (length power.levels) limits)
  quiet_all (f ∷ fs) h q =
      All-cons (IsSafeFragment (length power.levels) limits) (with_rows image l owner f) (all_with_rows image l owner fs) (quiet_safe f (h 0 f (omega arith)) (q 0 f (omega arith)))
      (quiet_all fs (λ k d lt. h (suc k) d (omega (arith, lt))) (λ k d lt. q (suc k) d (omega (arith, lt))))

  quiet_one : (f : ForeignFragment) → ChoosesNone f → IsQuiet (with_rows image l owner f)
  quiet_one (Switch word) q = absurd q
  quiet_one (Exit counter shift table) q = absurd q
  quiet_one (Reset counter) q = tt
  quiet_one (Count counter) q = tt

  quiet_ones : (fs : List ForeignFragment) → All ChoosesNone fs → All IsQuiet (all_with_rows image l owner fs)
  quiet_ones [] q = All-nil IsQuiet
  quiet_ones (f ∷ fs) q = All-cons IsQuiet (with_rows image l owner f) (all_with_rows image l owner fs) (quiet_one f (q 0 f (omega arith))) (quiet_ones fs (λ k d lt. q (suc k) d (omega (arith, lt))))

  pub ordered : (fs : List ForeignFragment) → FirstChooses fs → AreOrdered (all_with_rows image l owner fs)
  ordered [] q = tt
  ordered (f ∷ fs) q = quiet_ones fs q

  pub few : (fs : List ForeignFragment) → length (all_with_rows image l owner fs) ≡ length fs
  few [] = refl
  few (f ∷ fs) = ap suc (few fs)

  rows_are : (table count : ℕ) → ((j : ℕ) → j < count → stubbed.IsTable (length power.levels) (word_at (loaded_byte image) (table + 4 * j))) → All (stubbed.IsTable (length power.levels)) (words_from image table count)
  rows_are table zero h = All-nil (stubbed.IsTable (length power.levels))
  rows_are table (suc count) h =
      All-cons (stubbed.IsTable (length power.levels)) (word_at (loaded_byte image) table) (words_from image (table + 4) count)
      (let e : table + 4 * 0 ≡ table = omega arith in subst (λ a. stubbed.IsTable (length power.levels) (word_at (loaded_byte image) a)) e (h 0 (omega arith)))
      (rows_are (table + 4) count (λ j lt. (let e : table + 4 * suc j ≡ table + 4 + 4 * j = omega arith in subst (λ a. stubbed.IsTable (length power.levels) (word_at (loaded_byte image) a)) e (h (suc j) (omega (arith, lt))))))

  -- the fragments of an edge are safe, where its words are, and each exit's counter has a loop
  pub safe_all : (told : EdgeNumbers) (fs : List ForeignFragment) → All IsForeign fs → FirstChooses fs → ((counter shift table : ℕ) (rest : List ForeignFragment) → fs ≡ Exit counter shift table ∷ rest → (k : ℕ) × (owner counter ≡ Some k)) → AreWordsBy power meets image l owner n told fs
      → All (IsSafeFragment (length power.levels) limits) (all_with_rows image l owner fs)
  safe_all told [] h q own safe = All-nil (IsSafeFragment (length power.levels) limits)
  safe_all told (Switch word ∷ fs) h q own safe =
      All-cons (IsSafeFragment (length power.levels) limits) (fragments.Switch word) (all_with_rows image l owner fs) (is_table power meets told word (h 0 (Switch word) (omega arith)) safe)
      (quiet_all fs (λ k d lt. h (suc k) d (omega (arith, lt))) q)
  safe_all told (Exit counter shift table ∷ fs) h q own safe =
      let o = own counter shift table fs refl in
      let bound : owner_bound l (owner counter) ≡ l.bound o.0 = ap (owner_bound l) o.1 in
      let count = owner_bound l (owner counter) / 2 ^ shift + 1 in
      let form = h 0 (Exit counter shift table) (omega arith) in
      let long = words_count image table count in
      let entries : (j : ℕ) → j < count → stubbed.IsTable (length power.levels) (word_at (loaded_byte image) (table + 4 * j)) = λ j lt.
      let same : owner_bound l (owner counter) / 2 ^ shift ≡ l.bound o.0 / 2 ^ shift = ap (λ b. b / 2 ^ shift) bound in
      is_table power meets (at_row (l.bound o.0) (n.iteration o.0) shift told j) (word_at (loaded_byte image) (table + 4 * j)) (small_word (table + 4 * j)) (safe o.0 o.1 j (omega (arith, lt, same))) in
      All-cons (IsSafeFragment (length power.levels) limits) (fragments.Exit counter shift (words_from image table count)) (all_with_rows image l owner fs)
      (form.0, form.1, omega (arith, long), rows_are table count entries)
      (quiet_all fs (λ k d lt. h (suc k) d (omega (arith, lt))) q)
  safe_all told (Reset counter ∷ fs) h q own safe =
      All-cons (IsSafeFragment (length power.levels) limits) (fragments.Reset counter) (all_with_rows image l owner fs) (h 0 (Reset counter) (omega arith)) (quiet_all fs (λ k d lt. h (suc k) d (omega (arith, lt))) q)
  safe_all told (Count counter ∷ fs) h q own safe =
      All-cons (IsSafeFragment (length power.levels) limits) (fragments.Count counter) (all_with_rows image l owner fs) (h 0 (Count counter) (omega arith)) (quiet_all fs (λ k d lt. h (suc k) d (omega (arith, lt))) q)

  -- the tables of an edge that leads to a node
  module _ (g : Graph) (w : ℕ → ℕ) (least : Charged) (e to : ℕ) (inside : g.callee e ≡ None) (leads : g.target e ≡ Some to) where
    pub tabled : (fs : List ForeignFragment) → ((counter shift table : ℕ) (rest : List ForeignFragment) → fs ≡ Exit counter shift table ∷ rest → (k : ℕ) × (owner counter ≡ Some k) × (k < l.loops) × (leaves l k (g.source e) (g.target e) ≡ true))
        → AreWordsBy power meets image l owner n (told_on g l w n least e (tail_cycles (costs_of power) (all_with_rows image l owner fs))) fs
        → IsEdgeTabledBy power meets g l w n least (is_owner owner) e (all_with_rows image l owner fs)
    tabled [] own safe = tt
    tabled (Switch word ∷ fs) own safe = record { inside = inside; target = to; leads = leads; table = safe }
    tabled (Exit counter shift table ∷ fs) own safe =
        let o = own counter shift table fs refl in
        let count = owner_bound l (owner counter) / 2 ^ shift + 1 in
        let long = words_count image table count in
        let same : owner_bound l (owner counter) / 2 ^ shift ≡ l.bound o.0 / 2 ^ shift = ap (λ b. owner_bound l b / 2 ^ shift) o.1 in
        record {
          inside = inside;
          target = to;
          leads = leads;
          table = record {
            loop = o.0;
            low = o.2;
            counts = is_own owner counter o.0 o.1;
            left = o.3;
            enough = omega (arith, long, same);
            entries = λ j i lt low.
                let row : j < count = omega (arith, lt, long) in
                subst (λ x. IsEntryBy meets (at_row (l.bound o.0) (n.iteration o.0) shift (told_on g l w n least e (tail_cycles (costs_of power) (all_with_rows image l owner (Exit counter shift table ∷ fs)))) j) i (four_bits x i))
                (sym (word_of_row image table count j row)) (safe o.0 o.1 j (omega (arith, row, same)) i low);
          };
        }
    tabled (Reset counter ∷ fs) own safe = tt
    tabled (Count counter ∷ fs) own safe = tt
