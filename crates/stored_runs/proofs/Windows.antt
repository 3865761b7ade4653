-- The window along the fragments of an edge: they fit, and it holds the level and the counters that the marks lead to.
use Rattle.std.proofs.Common.{◌≡◌, ℕ, suc, ◌+◌, ◌*◌, ◌/◌, ◌%◌, ◌^◌, ◌<◌, ◌≤◌, Bool, true, false, cond, List, [], ◌∷◌, ◌++◌, length, length-append, get_or, refl, arith, sym, ◌∙◌, ap, subst, length-set, get_or-set_other}
use Rattle.std.specs.Prelude.{slice_index, slice_set, ◌==◌, All, if◌then◌else◌, Option, Some, None, unwrap_or}
use Rattle.std.proofs.lemmas.Nat.{le-div, pow_pos}
use Rattle.std.proofs.Math.Nat.{div-mul-le_self}
use Rattle.std.proofs.lemmas.List.{get_or-set_same, get_or_append_left}
use Rattle.std.proofs.lemmas.List.Elements.{All-cons}
use Rattle.std.proofs.lemmas.List.Concat.{flat_map-cons}
use Rattle.std.proofs.lemmas.Bool.{eqb-true, eqb-false}
use Rattle.scale_base.specs.declared.fragments.Fragment.{Fragment}
use Rattle.scale_base.specs.declared.fragments.Fragment.TheVariants.{Switch, Exit, Reset, Count, Lowest, Tally}
use Rattle.scale_base.specs.Layout.{is_keyed}
use Rattle.scale_base.specs.State.{Setting, reg, word_at}
use Rattle.stub_writer.specs.Fragments.{t0, port, code_len, rows_len, fragment_rows, IsShadow}
use Rattle.stub_writer.specs.Stubs.{rows_by, fragments_code}
use Rattle.stored_runs.specs.Meaning.{Stand, four_bits, is_due, IsCounter, IsRowAt}
use Rattle.stored_runs.specs.Ways.{row_at, saved_in, window_behind, Fits, windows_behind, AllFit}
use Rattle.stored_runs.specs.Held.{Lie}
use Rattle.stored_runs.proofs.Passage.{row_lies, one_lies, word_lies}
use Rattle.stored_runs.specs.Marks.{Shadow, level_stored, counters_after, counters_behind, shadow_behind}
use Rattle.stored_runs.specs.Stubbed.{IsQuiet, AreOrdered}
use Rattle.stored_runs.specs.Patched.{IsSafeFragment}

-- the window holds a level and counters
pub record IsWindow (levels level : ℕ) (c : ℕ → ℕ) (w : List ℕ) : Type 0 where
  pub size : length w ≡ 512
  pub port : slice_index w 511 ≡ level
  pub is_level : level < levels
  pub counters : (k : ℕ) → IsShadow k → slice_index w k ≡ c k

-- a counter's word is put anew
put_counter : (levels level : ℕ) (c : ℕ → ℕ) (w : List ℕ) (counter v : ℕ) → IsShadow counter → IsWindow levels level c w → IsWindow levels level (λ k. if k == counter then v else c k) (slice_set w counter v)
put_counter levels level c w counter v shadow h = record {
  size = length-set w counter v ∙ h.size;
  port = get_or-set_other w counter 511 v 0 (omega (arith, shadow.1)) ∙ h.port;
  is_level = h.is_level;
  counters = λ k s. at_word k s (k == counter) refl;
}
  where
    at_word : (k : ℕ) → IsShadow k → (b : Bool) → (k == counter) ≡ b → slice_index (slice_set w counter v) k ≡ cond b v (c k)
    at_word k s true e = let same : k ≡ counter = eqb-true k counter e in ap (slice_index (slice_set w counter v)) same ∙ get_or-set_same w counter v 0 (omega (arith, h.size, shadow.1))
    at_word k s false e = let other = eqb-false k counter e in get_or-set_other w counter k v 0 other ∙ h.counters k s

-- a save slot is put anew
put_slot : (levels level : ℕ) (c : ℕ → ℕ) (w : List ℕ) (slot v : ℕ) → slot < 2 → IsWindow levels level c w → IsWindow levels level c (slice_set w slot v)
put_slot levels level c w slot v low h = record {
  size = length-set w slot v ∙ h.size;
  port = get_or-set_other w slot 511 v 0 (omega arith) ∙ h.port;
  is_level = h.is_level;
  counters = λ k s. get_or-set_other w slot k v 0 (omega (arith, s.0)) ∙ h.counters k s;
}

put_level : (levels level : ℕ) (c : ℕ → ℕ) (w : List ℕ) (v : ℕ) → v < levels → IsWindow levels level c w → IsWindow levels v c (slice_set w 511 v)
put_level levels level c w v low h = record {
  size = length-set w 511 v ∙ h.size;
  port = get_or-set_same w 511 v 0 (omega (arith, h.size));
  is_level = low;
  counters = λ k s. get_or-set_other w 511 k v 0 (omega (arith, s.1)) ∙ h.counters k s;
}

is_counter : (k : ℕ) → IsShadow k → IsCounter k
is_counter k h = record { low = h.0; high = h.1 }

-- the counters are the same
with_counters : (levels level : ℕ) (c d : ℕ → ℕ) (w : List ℕ) → ((k : ℕ) → c k ≡ d k) → IsWindow levels level c w → IsWindow levels level d w
with_counters levels level c d w same h = record { size = h.size; port = h.port; is_level = h.is_level; counters = λ k s. h.counters k s ∙ same k }

-- a counter is one more, and t0 is in its save slot
put_count : (levels level : ℕ) (c : ℕ → ℕ) (w : List ℕ) (counter a : ℕ) → IsShadow counter → c counter + 1 < 2 ^ 32 → IsWindow levels level c w
    → IsWindow levels level (λ k. if k == counter then c k + 1 else c k) (slice_set (slice_set w 0 a) counter ((slice_index w counter + 1) % 2 ^ 32))
put_count levels level c w counter a shadow small h =
    let saved = put_slot levels level c w 0 a (omega arith) h in
    let here : slice_index w counter ≡ c counter = h.counters counter shadow in
    let more : (slice_index w counter + 1) % 2 ^ 32 ≡ c counter + 1 = omega (arith, here, small) in
    with_counters levels level (λ k. if k == counter then (slice_index w counter + 1) % 2 ^ 32 else c k) (λ k. if k == counter then c k + 1 else c k) (slice_set (slice_set w 0 a) counter ((slice_index w counter + 1) % 2 ^ 32)) (λ k. at_word k (k == counter) refl more)
    (put_counter levels level c (slice_set w 0 a) counter ((slice_index w counter + 1) % 2 ^ 32) shadow saved)
  where
    at_word : (k : ℕ) (b : Bool) → (k == counter) ≡ b → (slice_index w counter + 1) % 2 ^ 32 ≡ c counter + 1 → cond b ((slice_index w counter + 1) % 2 ^ 32) (c k) ≡ cond b (c k + 1) (c k)
    at_word k true e more = let same : k ≡ counter = eqb-true k counter e in more ∙ ap (λ j. c j + 1) (sym same)
    at_word k false e more = refl

-- 0 is stored at the port, or in the save slot of t1
put_zero : (levels level : ℕ) (c : ℕ → ℕ) (w : List ℕ) (b : Bool) → IsWindow levels level c w → IsWindow levels (cond b 0 level) c (slice_set w (cond b port 1) 0)
put_zero levels level c w true h = put_level levels level c w 0 (omega (arith, h.is_level)) h
put_zero levels level c w false h = put_slot levels level c w 1 0 (omega arith) h

level_then : (b : Bool) (level : ℕ) → cond b 0 level ≡ unwrap_or (cond b (Some 0) None) level
level_then true level = refl
level_then false level = refl

-- ---- fragments that store nothing at the port

pub record AreQuietly (env : Setting) (bytes : ℕ → ℕ) (regs : List ℕ) (table at level : ℕ) (fs : List Fragment) (c : ℕ → ℕ) (w : List ℕ) : Type 0 where
  pub fit : AllFit env bytes regs table at fs w
  pub window : IsWindow env.levels level (counters_behind fs c) (windows_behind bytes regs table fs w)

one_more_at_most : (b : Bool) (n : ℕ) → cond b (n + 1) n ≤ n + 1
one_more_at_most true n = omega arith
one_more_at_most false n = omega arith

-- a counter grows by at most one
grows : (f : Fragment) (c : ℕ → ℕ) (k : ℕ) → counters_after f c k ≤ c k + 1
grows (Switch word) c k = omega arith
grows (Exit counter shift rows) c k = at_most (k == counter)
  where
    at_most : (b : Bool) → cond b 0 (c k) ≤ c k + 1
    at_most true = omega arith
    at_most false = omega arith
grows (Reset counter) c k = at_most (k == counter)
  where
    at_most : (b : Bool) → cond b 0 (c k) ≤ c k + 1
    at_most true = omega arith
    at_most false = omega arith
grows (Count counter) c k = one_more_at_most (k == counter) (c k)
grows (Lowest down) c k = omega arith
grows (Tally counter shift from) c k = one_more_at_most (k == counter) (c k)

record IsOneQuiet (env : Setting) (bytes : ℕ → ℕ) (regs : List ℕ) (table at level : ℕ) (f : Fragment) (c : ℕ → ℕ) (w : List ℕ) : Type 0 where
  fit : Fits env bytes table at f w
  window : IsWindow env.levels level (counters_after f c) (window_behind bytes regs table f w)

one_quiet : (env : Setting) (bytes : ℕ → ℕ) (regs : List ℕ) (limits : ℕ → ℕ) (table at level : ℕ) (f : Fragment) (c : ℕ → ℕ) (w : List ℕ) → IsQuiet f → IsSafeFragment env.levels limits f → ((k : ℕ) → c k + 1 < 2 ^ 32) → IsWindow env.levels level c w
    → IsOneQuiet env bytes regs table at level f c w
one_quiet env bytes regs limits table at level (Switch word) c w quiet safe small h = absurd quiet
one_quiet env bytes regs limits table at level (Exit counter shift rows) c w quiet safe small h = absurd quiet
one_quiet env bytes regs limits table at level (Reset counter) c w quiet safe small h = record { fit = is_counter counter safe; window = put_counter env.levels level c w counter 0 safe h }
one_quiet env bytes regs limits table at level (Count counter) c w quiet safe small h =
    record { fit = is_counter counter safe; window = put_count env.levels level c w counter (reg regs t0) safe (small counter) h }
one_quiet env bytes regs limits table at level (Lowest down) c w quiet safe small h = absurd quiet
one_quiet env bytes regs limits table at level (Tally counter shift from) c w quiet safe small h = absurd quiet

pub are_quiet : (env : Setting) (bytes : ℕ → ℕ) (regs : List ℕ) (limits : ℕ → ℕ) (table at level : ℕ) (fs : List Fragment) (c : ℕ → ℕ) (w : List ℕ) → All IsQuiet fs → All (IsSafeFragment env.levels limits) fs → ((k : ℕ) → c k + length fs < 2 ^ 32) → IsWindow env.levels level c w
    → AreQuietly env bytes regs table at level fs c w
are_quiet env bytes regs limits table at level [] c w quiet safe small h = record { fit = tt; window = h }
are_quiet env bytes regs limits table at level (f ∷ fs) c w quiet safe small h =
    let one = one_quiet env bytes regs limits table at level f c w (quiet 0 f (omega arith)) (safe 0 f (omega arith)) (λ k. omega (arith, small k)) h in
    let rest = are_quiet env bytes regs limits (table + 4 * rows_len f) (at + 4 * code_len f) level fs (counters_after f c) (window_behind bytes regs table f w)
    (λ k d lt. quiet (suc k) d (omega arith)) (λ k d lt. safe (suc k) d (omega arith)) (λ k. omega (arith, small k, grows f c k)) one.window in
    record { fit = (one.fit, rest.fit); window = rest.window }

-- ---- the fragments of an edge

-- the code stands from `at` on, and the rows lie from `table` on
pub record AreInPlace (env : Setting) (bytes : ℕ → ℕ) (at table : ℕ) (fs : List Fragment) : Type 0 where
  pub code : Stand env bytes at (fragments_code table fs)
  pub even : table % 4 ≡ 0
  pub rows : Lie env bytes table (rows_by fs)
  pub high : table + 4 * length (rows_by fs) ≤ 0xFFFFF800

-- the level that they store at the port, if they store one
abbrev pub port_by : (bytes : ℕ → ℕ) (table : ℕ) → List Fragment → List ℕ → Option ℕ
port_by bytes table [] w = None
port_by bytes table (Switch word ∷ fs) w = Some (four_bits word (slice_index w port))
port_by bytes table (Exit counter shift rows ∷ fs) w = Some (four_bits (row_at bytes table counter shift w) (slice_index w port))
port_by bytes table (Reset counter ∷ fs) w = None
port_by bytes table (Count counter ∷ fs) w = None
port_by bytes table (Lowest down ∷ fs) w = cond down (Some 0) None
port_by bytes table (Tally counter shift from ∷ fs) w = cond (is_due shift from (slice_index w counter)) (Some 0) None

-- they fit, and the window behind them is that of the marks
pub record IsEdge (env : Setting) (bytes : ℕ → ℕ) (regs : List ℕ) (table at : ℕ) (fs : List Fragment) (h : Shadow) (w : List ℕ) : Type 0 where
  pub fit : AllFit env bytes regs table at fs w
  pub window : IsWindow env.levels (shadow_behind fs h).level (shadow_behind fs h).counters (windows_behind bytes regs table fs w)
  pub stored : port_by bytes table fs w ≡ level_stored fs h

-- the row that an Exit reads is the one of its count
pub row_is : (env : Setting) (bytes : ℕ → ℕ) (at table counter shift : ℕ) (rows : List ℕ) (fs : List Fragment) (limits : ℕ → ℕ) (c : ℕ → ℕ) (w : List ℕ) → AreInPlace env bytes at table (Exit counter shift rows ∷ fs) → slice_index w counter ≡ c counter → c counter ≤ limits counter
    → limits counter / 2 ^ shift < length rows → (row_at bytes table counter shift w ≡ get_or rows (c counter / 2 ^ shift) 0) × (c counter / 2 ^ shift < length rows)
row_is env bytes at table counter shift rows fs limits c w block here within few =
    let n = c counter / 2 ^ shift in
    let low : n < length rows = le_lt n (limits counter / 2 ^ shift) (length rows) (div_up (2 ^ shift) (c counter) (limits counter) (pow_pos shift) within) few in
    let all = subst (Lie env bytes table) (flat_map-cons fragment_rows (Exit counter shift rows) fs) block.rows in
    let long = length-append rows (rows_by fs) in (
      ap (λ k. word_at bytes (table + 4 * (k / 2 ^ shift))) here
          ∙ (word_lies env bytes table n (rows ++ rows_by fs) (omega (arith, long, low)) all ∙ get_or_append_left rows (rows_by fs) 0 n low),
      low,
    )
  where
    le_lt : (a b c : ℕ) → a ≤ b → b < c → a < c
    le_lt a b c h g = omega arith

    at_most : (a b c : ℕ) → a ≤ b → b ≤ c → a ≤ c
    at_most a b c h g = omega arith

    div_up : (k a b : ℕ) → 0 < k → a ≤ b → a / k ≤ b / k
    div_up k a b pos h = le-div (a / k) b k pos (at_most (a / k * k) a b (div-mul-le_self a k) h)

pub edge_fits : (env : Setting) (bytes : ℕ → ℕ) (regs : List ℕ) (limits : ℕ → ℕ) (table at : ℕ) (fs : List Fragment) (h : Shadow) (w : List ℕ) → AreOrdered fs → All (IsSafeFragment env.levels limits) fs → length fs ≤ 64 → ((k : ℕ) → h.counters k ≤ limits k) → ((k : ℕ) → limits k ≤ 2 ^ 31)
    → IsWindow env.levels h.level h.counters w → AreInPlace env bytes at table fs → IsEdge env bytes regs table at fs h w
edge_fits env bytes regs limits table at [] h w ordered safe few within small win block = record { fit = tt; window = win; stored = refl }
edge_fits env bytes regs limits table at (Switch word ∷ fs) h w ordered safe few within small win block =
    let is = safe 0 (Switch word) (omega arith) in
    let new = four_bits word (slice_index w port) in
    let level : new ≡ four_bits word h.level = ap (four_bits word) win.port in
    let low : new < env.levels = subst (λ v. v < env.levels) (sym level) (is.1 h.level win.is_level) in
    let saved = put_slot env.levels h.level h.counters (slice_set w 0 (reg regs 5)) 1 (reg regs 6) (omega arith) (put_slot env.levels h.level h.counters w 0 (reg regs 5) (omega arith) win) in
    let here = put_level env.levels h.level h.counters (saved_in regs w) new low saved in
    let rest = are_quiet env bytes regs limits (table + 4 * rows_len (Switch word)) (at + 4 * 11) new fs h.counters (window_behind bytes regs table (Switch word) w) ordered
    (λ k d lt. safe (suc k) d (omega arith)) (λ k. omega (arith, within k, small k, few)) here in
    record { fit = ((is.0, low), rest.fit); window = subst (λ v. IsWindow env.levels v (counters_behind fs h.counters) (windows_behind bytes regs table (Switch word ∷ fs) w)) level rest.window; stored = ap (λ v. Some v) level }
edge_fits env bytes regs limits table at (Exit counter shift rows ∷ fs) h w ordered safe few within small win block =
    let is = safe 0 (Exit counter shift rows) (omega arith) in
    let c = h.counters in
    let n = c counter / 2 ^ shift in
    let held : slice_index w counter ≡ c counter = win.counters counter is.0 in
    let row = row_is env bytes at table counter shift rows fs limits c w block held (within counter) is.2 in
    let got : four_bits (row_at bytes table counter shift w) (slice_index w port) ≡ four_bits (get_or rows n 0) h.level =
    ap (λ r. four_bits r (slice_index w port)) row.0 ∙ ap (four_bits (get_or rows n 0)) win.port in
    let new = four_bits (row_at bytes table counter shift w) (slice_index w port) in
    let table_is = is.3 n 0 row.1 in
    let low : new < env.levels = subst (λ v. v < env.levels) (sym got) (table_is.1 h.level win.is_level) in
    let place : slice_index w counter / 2 ^ shift ≡ n = ap (λ k. k / 2 ^ shift) held in
    let long : length (rows_by (Exit counter shift rows ∷ fs)) ≡ length rows + length (rows_by fs) = ap (λ (l : List ℕ). length l) (flat_map-cons fragment_rows (Exit counter shift rows) fs) ∙ length-append rows (rows_by fs) in
    let seventh = block.code.1.1.1.1.1.1.1.0.keyed in
    let here_is : at + 4 + 4 + 4 + 4 + 4 + 4 + 4 ≡ at + 28 = omega arith in
    let keyed : is_keyed env.layout (at + 28) ≡ true = subst (λ a. is_keyed env.layout a ≡ true) here_is seventh in
    let many : n < length (rows_by (Exit counter shift rows ∷ fs)) = omega (arith, long, row.1) in
    let lies = one_lies env bytes table n (rows_by (Exit counter shift rows ∷ fs)) many block.rows in
    let even = block.even in
    let high = block.high in
    let there = row_lies env bytes (at + 28) (table + 4 * n) (get_or (rows_by (Exit counter shift rows ∷ fs)) n 0) keyed lies (omega (arith, even)) (omega (arith, high, many)) in
    let saved = put_slot env.levels h.level c (slice_set w 0 (reg regs 5)) 1 (reg regs 6) (omega arith) (put_slot env.levels h.level c w 0 (reg regs 5) (omega arith) win) in
    let cleared = put_counter env.levels h.level c (saved_in regs w) counter 0 is.0 saved in
    let here = put_level env.levels h.level (counters_after (Exit counter shift rows) c) (slice_set (saved_in regs w) counter 0) new low cleared in
    let rest = are_quiet env bytes regs limits (table + 4 * length rows) (at + 4 * 16) new fs (counters_after (Exit counter shift rows) c) (window_behind bytes regs table (Exit counter shift rows) w) ordered
    (λ k d lt. safe (suc k) d (omega arith)) (λ k. omega (arith, within k, small k, few, grows (Exit counter shift rows) c k)) here in
    record {
      fit = ((is_counter counter is.0, is.1, subst (λ k. IsRowAt env (at + 28) (table + 4 * k)) (sym place) there, low), rest.fit);
      window = subst (λ v. IsWindow env.levels v (counters_behind fs (counters_after (Exit counter shift rows) c)) (windows_behind bytes regs table (Exit counter shift rows ∷ fs) w)) got rest.window;
      stored = ap (λ v. Some v) got;
    }
edge_fits env bytes regs limits table at (Reset counter ∷ fs) h w ordered safe few within small win block =
    let all = are_quiet env bytes regs limits table at h.level (Reset counter ∷ fs) h.counters w (All-cons IsQuiet (Reset counter) fs tt ordered) safe (λ k. omega (arith, within k, small k, few)) win in
    record { fit = all.fit; window = all.window; stored = refl }
edge_fits env bytes regs limits table at (Count counter ∷ fs) h w ordered safe few within small win block =
    let all = are_quiet env bytes regs limits table at h.level (Count counter ∷ fs) h.counters w (All-cons IsQuiet (Count counter) fs tt ordered) safe (λ k. omega (arith, within k, small k, few)) win in
    record { fit = all.fit; window = all.window; stored = refl }
edge_fits env bytes regs limits table at (Lowest down ∷ fs) h w ordered safe few within small win block =
    let f : Fragment = Lowest down in
    let here = put_zero env.levels h.level h.counters w down win in
    let rest = are_quiet env bytes regs limits (table + 4 * rows_len f) (at + 4 * 1) (cond down 0 h.level) fs h.counters (window_behind bytes regs table f w) ordered
    (λ k d lt. safe (suc k) d (omega arith)) (λ k. omega (arith, within k, small k, few)) here in
    record {
      fit = (tt, rest.fit);
      window = subst (λ v. IsWindow env.levels v (counters_behind fs h.counters) (windows_behind bytes regs table (f ∷ fs) w)) (level_then down h.level) rest.window;
      stored = refl;
    }
edge_fits env bytes regs limits table at (Tally counter shift from ∷ fs) h w ordered safe few within small win block =
    let f : Fragment = Tally counter shift from in
    let is = safe 0 f (omega arith) in
    let c = h.counters in
    let held : slice_index w counter ≡ c counter = win.counters counter is.0 in
    let low : c counter + 1 < 2 ^ 31 = omega (arith, within counter, is.4) in
    let due : is_due shift from (slice_index w counter) ≡ is_due shift from (c counter) = ap (is_due shift from) held in
    let new = cond (is_due shift from (slice_index w counter)) 0 h.level in
    let counted = put_count env.levels h.level c w counter (reg regs t0) is.0 (omega (arith, low)) win in
    let here = put_zero env.levels h.level (counters_after f c) (slice_set (slice_set w 0 (reg regs t0)) counter ((slice_index w counter + 1) % 2 ^ 32)) (is_due shift from (slice_index w counter)) counted in
    let rest = are_quiet env bytes regs limits (table + 4 * rows_len f) (at + 4 * 10) new fs (counters_after f c) (window_behind bytes regs table f w) ordered
    (λ k d lt. safe (suc k) d (omega arith)) (λ k. omega (arith, within k, small k, few, grows f c k)) here in
    record {
      fit = ((is_counter counter is.0, is.1, is.2, is.3, omega (arith, held, low)), rest.fit);
      window = subst (λ v. IsWindow env.levels v (counters_behind fs (counters_after f c)) (windows_behind bytes regs table (f ∷ fs) w)) (ap (λ b. cond b 0 h.level) due ∙ level_then (is_due shift from (c counter)) h.level) rest.window;
      stored = ap (λ b. cond b (Some 0) None) due;
    }
