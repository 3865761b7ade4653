-- Scaffold: what a list of fragments, a way and a stub do: the window behind them, and the steps.
use Rattle.std.specs.Prelude.{◌≡◌, ℕ, cond, ◌+◌, ◌*◌, ◌/◌, ◌%◌, ◌^◌, ◌<◌, ◌≤◌, true, List, [], ◌∷◌, ◌++◌, length, slice_index, slice_set, None}
use Rattle.scale_base.specs.declared.stepping.Stepped.{Stepped}
use Rattle.scale_base.specs.declared.stepping.Class.{Class}
use Rattle.scale_base.specs.declared.stepping.Class.TheVariants as classes
use Rattle.scale_base.specs.declared.stepping.Move.TheVariants as moves
use Rattle.scale_base.specs.State.{Setting, State, reg, word_at}
use Rattle.scale_base.specs.declared.fragments.Fragment.{Fragment}
use Rattle.scale_base.specs.declared.fragments.Fragment.TheVariants.{Switch, Exit, Reset, Count, Lowest, Tally}
use Rattle.stub_writer.specs.Fragments.{t0, t1, port, code_len, rows_len, switch_code, exit_code, count_code, reset_code, lowest_code, tally_code}
use Rattle.stub_writer.specs.Stubs.{Way, jump_at, taken_at, way_rows}
use Rattle.stored_runs.specs.Meaning.{along, along_storing, four_bits, is_due, IsRowAt, IsCounter}

-- the row that an Exit reads
abbrev pub row_at : (bytes : ℕ → ℕ) (table counter shift : ℕ) → List ℕ → ℕ
row_at bytes table counter shift w = word_at bytes (table + 4 * (slice_index w counter / 2 ^ shift))

abbrev pub saved_in : (regs window : List ℕ) → List ℕ
saved_in regs w = slice_set (slice_set w 0 (reg regs t0)) 1 (reg regs t1)

-- the level that a fragment stores, of those that store one
abbrev pub new_level : (bytes : ℕ → ℕ) (table : ℕ) → Fragment → List ℕ → ℕ
new_level bytes table (Switch word) w = four_bits word (slice_index w port)
new_level bytes table (Exit counter shift rows) w = four_bits (row_at bytes table counter shift w) (slice_index w port)
new_level bytes table (Lowest down) w = cond down 0 (slice_index w port)
new_level bytes table (Tally counter shift from) w = cond (is_due shift from (slice_index w counter)) 0 (slice_index w port)
new_level bytes table f w = slice_index w port

abbrev pub window_behind : (bytes : ℕ → ℕ) (regs : List ℕ) (table : ℕ) → Fragment → List ℕ → List ℕ
window_behind bytes regs table (Switch word) w = slice_set (saved_in regs w) port (four_bits word (slice_index w port))
window_behind bytes regs table (Exit counter shift rows) w =
    slice_set (slice_set (saved_in regs w) counter 0) port (four_bits (row_at bytes table counter shift w) (slice_index w port))
window_behind bytes regs table (Reset counter) w = slice_set w counter 0
window_behind bytes regs table (Count counter) w =
    slice_set (slice_set w 0 (reg regs t0)) counter ((slice_index w counter + 1) % 2 ^ 32)
window_behind bytes regs table (Lowest down) w = slice_set w (cond down port 1) 0
window_behind bytes regs table (Tally counter shift from) w =
    slice_set (slice_set (slice_set w 0 (reg regs t0)) counter ((slice_index w counter + 1) % 2 ^ 32))
    (cond (is_due shift from (slice_index w counter)) port 1) 0

abbrev pub fragment_steps : (bytes : ℕ → ℕ) (table at : ℕ) → Fragment → List ℕ → List Stepped
fragment_steps bytes table at (Switch word) w = along_storing 8 (four_bits word (slice_index w port)) at (switch_code word)
fragment_steps bytes table at (Exit counter shift rows) w =
    along_storing 13 (four_bits (row_at bytes table counter shift w) (slice_index w port)) at (exit_code counter shift (table % 2 ^ 32))
fragment_steps bytes table at (Reset counter) w = along at (reset_code counter)
fragment_steps bytes table at (Count counter) w = along at (count_code counter)
fragment_steps bytes table at (Lowest down) w = cond down (along_storing 0 0 at (lowest_code down)) (along at (lowest_code down))
fragment_steps bytes table at (Tally counter shift from) w =
    cond (is_due shift from (slice_index w counter)) (along_storing 8 0 at (tally_code counter shift from))
    (along at (tally_code counter shift from))

-- what is asked of a fragment: its counter is one, its row is there, and what it stores is a level
abbrev pub Fits : Setting → (bytes : ℕ → ℕ) (table at : ℕ) → Fragment → List ℕ → Type 0
Fits env bytes table at (Switch word) w = (word < 2 ^ 32) × (four_bits word (slice_index w port) < env.levels)
Fits env bytes table at (Exit counter shift rows) w =
    IsCounter counter × (shift < 32) × IsRowAt env (at + 28) (table + 4 * (slice_index w counter / 2 ^ shift))
    × (four_bits (row_at bytes table counter shift w) (slice_index w port) < env.levels)
Fits env bytes table at (Reset counter) w = IsCounter counter
Fits env bytes table at (Count counter) w = IsCounter counter
Fits env bytes table at (Lowest down) w = Unit {0}
Fits env bytes table at (Tally counter shift from) w = IsCounter counter × (shift < 32) × (1 ≤ from) × (from < 2048) ×
    (slice_index w counter + 1 < 2 ^ 31)

-- ---- the same of fragments one after another

abbrev pub windows_behind : (bytes : ℕ → ℕ) (regs : List ℕ) (table : ℕ) → List Fragment → List ℕ → List ℕ
windows_behind bytes regs table [] w = w
windows_behind bytes regs table (f ∷ fs) w =
    windows_behind bytes regs (table + 4 * rows_len f) fs (window_behind bytes regs table f w)

abbrev pub fragments_steps : (bytes : ℕ → ℕ) (regs : List ℕ) (table at : ℕ) → List Fragment → List ℕ → List Stepped
fragments_steps bytes regs table at [] w = []
fragments_steps bytes regs table at (f ∷ fs) w =
    fragment_steps bytes table at f w
    ++ fragments_steps bytes regs (table + 4 * rows_len f) (at + 4 * code_len f) fs (window_behind bytes regs table f w)

abbrev pub AllFit : Setting → (bytes : ℕ → ℕ) (regs : List ℕ) (table at : ℕ) → List Fragment → List ℕ → Type 0
AllFit env bytes regs table at [] w = Unit {0}
AllFit env bytes regs table at (f ∷ fs) w =
    Fits env bytes table at f w
    × AllFit env bytes regs (table + 4 * rows_len f) (at + 4 * code_len f) fs (window_behind bytes regs table f w)

-- ---- ways and stubs

-- a step of the keyed segment to another place
abbrev pub turn : (at to : ℕ) → Class → Stepped
turn at to class = record { pc = at; next = to; class = class; moved = moves.Local; keyed = true; port = None }

abbrev pub way_steps : State → (table at : ℕ) → Way → List Stepped
way_steps s table at way =
    fragments_steps s.bytes s.regs table at way.fragments s.window ++ turn (jump_at at way) way.to classes.Jump ∷ []

-- the state behind a way: at its address, with the window of its fragments, and all else as it was
abbrev pub behind_way : State → (table : ℕ) → Way → State
behind_way s table way = record s { pc = way.to; window = windows_behind s.bytes s.regs table way.fragments s.window }

abbrev pub WayFits : Setting → State → (table at : ℕ) → Way → Type 0
WayFits env s table at way =
    AllFit env s.bytes s.regs table at way.fragments s.window × (way.to < 2 ^ 32) × (way.to % 4 ≡ 0)

-- the steps of a branch's stub
abbrev pub taken_steps : State → (table : ℕ) → Way → Way → List Stepped
taken_steps s table untaken taken =
    turn s.pc (taken_at s.pc untaken) classes.Taken ∷ way_steps s (table + 4 * length (way_rows untaken)) (taken_at s.pc untaken) taken

abbrev pub untaken_steps : State → (table : ℕ) → Way → List Stepped
untaken_steps s table untaken = turn s.pc (s.pc + 4) classes.Untaken ∷ way_steps s table (s.pc + 4) untaken
