-- The states inside a fragment: t0, t1, the save slots, one counter and the port have any values, and all else is as it was.
use Rattle.std.proofs.Common.{◌≡◌, ℕ, List, length, arith, ◌∙◌, ap, get_or-set_other, length-set}
use Rattle.std.proofs.lemmas.List.{get_or-set_same, set-set, set_comm, set-get_or}
use Rattle.std.specs.Prelude.{slice_index, slice_set}
use Rattle.scale_base.specs.State.{State, reg, with_reg}
use Rattle.stored_runs.specs.Meaning.{IsCounter}

pub data Temp : Type 0 where
  X5 : Temp
  X6 : Temp

pub data Slot : Type 0 where
  Save0 : Slot
  Save1 : Slot
  Counter : Slot
  Port : Slot

pub record Point : Type 0 where
  pub pc : ℕ
  pub t0 : ℕ
  pub t1 : ℕ
  pub save0 : ℕ
  pub save1 : ℕ
  pub counter : ℕ
  pub level : ℕ

abbrev pub temp_reg : Temp → ℕ
temp_reg X5 = 5
temp_reg X6 = 6

abbrev pub value : Point → Temp → ℕ
value p X5 = p.t0
value p X6 = p.t1

abbrev pub with_value : Point → Temp → ℕ → Point
with_value p X5 v = record p { t0 = v }
with_value p X6 v = record p { t1 = v }

abbrev pub slot_index : ℕ → Slot → ℕ
slot_index k Save0 = 0
slot_index k Save1 = 1
slot_index k Counter = k
slot_index k Port = 511

abbrev pub held_in : Point → Slot → ℕ
held_in p Save0 = p.save0
held_in p Save1 = p.save1
held_in p Counter = p.counter
held_in p Port = p.level

abbrev pub with_held : Point → Slot → ℕ → Point
with_held p Save0 v = record p { save0 = v }
with_held p Save1 v = record p { save1 = v }
with_held p Counter v = record p { counter = v }
with_held p Port v = record p { level = v }

abbrev pub regs_at : List ℕ → Point → List ℕ
regs_at regs p = slice_set (slice_set regs 5 p.t0) 6 p.t1

abbrev pub window_at : List ℕ → ℕ → Point → List ℕ
window_at window k p = slice_set (slice_set (slice_set (slice_set window 0 p.save0) 1 p.save1) k p.counter) 511 p.level

-- the state with the values of the point. Word k of the window is the counter
abbrev pub at_point : State → ℕ → Point → State
at_point s k p = record s { pc = p.pc; regs = regs_at s.regs p; window = window_at s.window k p }

-- the values that the state has
abbrev pub point_of : State → ℕ → Point
point_of s k = record {
  pc = s.pc;
  t0 = reg s.regs 5;
  t1 = reg s.regs 6;
  save0 = slice_index s.window 0;
  save1 = slice_index s.window 1;
  counter = slice_index s.window k;
  level = slice_index s.window 511;
}

pub read_temp : (regs : List ℕ) (p : Point) (t : Temp) → length regs ≡ 32 → reg (regs_at regs p) (temp_reg t) ≡ value p t
read_temp regs p X5 h = get_or-set_other (slice_set regs 5 p.t0) 6 5 p.t1 0 (omega arith) ∙ get_or-set_same regs 5 p.t0 0 (omega arith)
read_temp regs p X6 h = get_or-set_same (slice_set regs 5 p.t0) 6 p.t1 0 (omega (arith, length-set {A = ℕ}))

pub read_zero : (regs : List ℕ) (p : Point) → reg regs 0 ≡ 0 → reg (regs_at regs p) 0 ≡ 0
read_zero regs p h =
    get_or-set_other (slice_set regs 5 p.t0) 6 0 p.t1 0 (omega arith) ∙ (get_or-set_other regs 5 0 p.t0 0 (omega arith) ∙ h)

pub write_temp : (regs : List ℕ) (p : Point) (t : Temp) (v : ℕ) → with_reg (regs_at regs p) (temp_reg t) v ≡ regs_at regs (with_value p t v)
write_temp regs p X5 v =
    set_comm (slice_set regs 5 p.t0) 6 5 p.t1 v (omega arith) ∙ ap (λ l. slice_set l 6 p.t1) (set-set regs 5 p.t0 v)
write_temp regs p X6 v = set-set (slice_set regs 5 p.t0) 6 p.t1 v

pub read_slot : (window : List ℕ) (k : ℕ) (p : Point) (slot : Slot) → length window ≡ 512 → IsCounter k → slice_index (window_at window k p) (slot_index k slot) ≡ held_in p slot
read_slot w k p Save0 h c =
    let w0 = slice_set w 0 p.save0 in
    let w1 = slice_set w0 1 p.save1 in
    get_or-set_other (slice_set w1 k p.counter) 511 0 p.level 0 (omega arith)
    ∙ (get_or-set_other w1 k 0 p.counter 0 (omega arith)
    ∙ (get_or-set_other w0 1 0 p.save1 0 (omega arith) ∙ get_or-set_same w 0 p.save0 0 (omega arith)))
read_slot w k p Save1 h c =
    let w0 = slice_set w 0 p.save0 in
    let w1 = slice_set w0 1 p.save1 in
    get_or-set_other (slice_set w1 k p.counter) 511 1 p.level 0 (omega arith)
    ∙ (get_or-set_other w1 k 1 p.counter 0 (omega arith)
    ∙ get_or-set_same w0 1 p.save1 0 (omega (arith, length-set {A = ℕ})))
read_slot w k p Counter h c =
    let w1 = slice_set (slice_set w 0 p.save0) 1 p.save1 in
    get_or-set_other (slice_set w1 k p.counter) 511 k p.level 0 (omega arith)
    ∙ get_or-set_same w1 k p.counter 0 (omega (arith, length-set {A = ℕ}))
read_slot w k p Port h c =
    get_or-set_same (slice_set (slice_set (slice_set w 0 p.save0) 1 p.save1) k p.counter) 511 p.level 0 (omega (arith, length-set {A = ℕ}))

pub write_slot : (window : List ℕ) (k : ℕ) (p : Point) (slot : Slot) (v : ℕ) → IsCounter k → slice_set (window_at window k p) (slot_index k slot) v ≡ window_at window k (with_held p slot v)
write_slot w k p Save0 v c =
    let w0 = slice_set w 0 p.save0 in
    let w1 = slice_set w0 1 p.save1 in
    set_comm (slice_set w1 k p.counter) 511 0 p.level v (omega arith)
    ∙ ap (λ l. slice_set l 511 p.level) (set_comm w1 k 0 p.counter v (omega arith)
    ∙ ap (λ l. slice_set l k p.counter) (set_comm w0 1 0 p.save1 v (omega arith)
    ∙ ap (λ l. slice_set l 1 p.save1) (set-set w 0 p.save0 v)))
write_slot w k p Save1 v c =
    let w0 = slice_set w 0 p.save0 in
    let w1 = slice_set w0 1 p.save1 in
    set_comm (slice_set w1 k p.counter) 511 1 p.level v (omega arith)
    ∙ ap (λ l. slice_set l 511 p.level) (set_comm w1 k 1 p.counter v (omega arith)
    ∙ ap (λ l. slice_set l k p.counter) (set-set w0 1 p.save1 v))
write_slot w k p Counter v c =
    let w1 = slice_set (slice_set w 0 p.save0) 1 p.save1 in
    set_comm (slice_set w1 k p.counter) 511 k p.level v (omega arith)
    ∙ ap (λ l. slice_set l 511 p.level) (set-set w1 k p.counter v)
write_slot w k p Port v c = set-set _ 511 p.level v

-- each state has the values of its point
pub regs_same : (regs : List ℕ) → slice_set (slice_set regs 5 (slice_index regs 5)) 6 (slice_index regs 6) ≡ regs
regs_same regs = ap (λ l. slice_set l 6 (slice_index regs 6)) (set-get_or regs 5 0) ∙ set-get_or regs 6 0

pub window_same : (w : List ℕ) (k : ℕ) → window_at w k (record { pc = 0; t0 = 0; t1 = 0; save0 = slice_index w 0; save1 = slice_index w 1; counter = slice_index w k; level = slice_index w 511 }) ≡ w
window_same w k =
    ap (λ l. slice_set (slice_set (slice_set l 1 (slice_index w 1)) k (slice_index w k)) 511 (slice_index w 511)) (set-get_or w 0 0)
    ∙ (ap (λ l. slice_set (slice_set l k (slice_index w k)) 511 (slice_index w 511)) (set-get_or w 1 0)
    ∙ (ap (λ l. slice_set l 511 (slice_index w 511)) (set-get_or w k 0) ∙ set-get_or w 511 0))

pub own_point : (s : State) (k : ℕ) → at_point s k (point_of s k) ≡ s
own_point s k =
    ap (λ regs. record s { pc = s.pc; regs = regs; window = window_at s.window k (point_of s k) }) (regs_same s.regs)
    ∙ ap (λ w. record s { pc = s.pc; regs = s.regs; window = w }) (window_same s.window k)
