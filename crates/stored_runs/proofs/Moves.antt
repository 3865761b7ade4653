-- The few kinds of instruction that the fragments are made of, each as a move from point to point.
use Rattle.std.proofs.Common.{◌≡◌, ℕ, ℤ, negsuc, ◌+◌, ◌*◌, ◌%◌, ◌^◌, ◌<◌, Bool, true, false, List, [], ◌∷◌, map, length, refl, sym, arith, ◌∙◌, ap, Option, Some, None, rules}
use Rattle.std.specs.Prelude.{slice_index, slice_set, ◌==◌, ◌&&◌, not, nat_lt}
use Rattle.std.proofs.lemmas.Bool.{cond-true, cond-false}
use Rattle.std.proofs.lemmas.Bool.Decides.{nat_tests}
use Rattle.std.proofs.lemmas.Int.{ints}
use Rattle.scale_base.specs.declared.instruction.LoadOp.TheVariants.{Lw}
use Rattle.scale_base.specs.declared.instruction.StoreOp.TheVariants.{Sw}
use Rattle.scale_base.specs.declared.instruction.ImmOp.{ImmOp}
use Rattle.scale_base.specs.declared.instruction.RegOp.{RegOp}
use Rattle.scale_base.specs.declared.instruction.Instr.{Instr}
use Rattle.scale_base.specs.declared.instruction.Instr.TheVariants as instrs
use Rattle.scale_base.specs.declared.stepping.Stepped.{Stepped}
use Rattle.scale_base.specs.Class.{class_of}
use Rattle.scale_base.specs.Layout.{is_keyed, can_read, uses_window, in_window}
use Rattle.scale_base.specs.Arith.{moved_by, plus, imm_result, reg_result}
use Rattle.scale_base.specs.State.{Setting, State, reg, word_at}
use Rattle.scale_base.specs.Step.{Outcome, step, goes, sets, stores, stores_word, loads, performs, move_of, window_index, port_index}
use Rattle.stub_writer.specs.Fragments.{sw, lw, slot}
use Rattle.stored_runs.specs.Meaning.{StandsAt, Stand, StepsLead, keyed_step, IsRowAt, IsCounter}
use Rattle.stored_runs.proofs.Steps.{performed, leads_none, leads_first}
use Rattle.stored_runs.proofs.Points.{Temp, X5, X6, Slot, Save0, Save1, Counter, Port, Point, temp_reg, value, with_value, slot_index, held_in, with_held, regs_at, window_at, at_point, read_temp, read_zero, write_temp, read_slot, write_slot}

pub data Move : Type 0 where
  Put : Slot → Temp → Move
  Clear : Slot → Move
  Steer : Bool → Move
  Get : Temp → Slot → Move
  Work : ImmOp → Temp → ℤ → Move
  Join : RegOp → Temp → Temp → Move
  Upper : Temp → ℕ → Move
  Row : ℤ → Move

-- where a store 4 below t0 goes that is to hit the port or else the save slot of t1
abbrev pub aimed : Bool → Slot
aimed true = Port
aimed false = Save1

abbrev pub instr_for : ℕ → Move → Instr
instr_for k (Put slot t) = sw (temp_reg t) (slot_index k slot)
instr_for k (Clear slot) = sw 0 (slot_index k slot)
instr_for k (Steer at_port) = instrs.Store Sw 5 0 (negsuc 3)
instr_for k (Get t slot) = lw (temp_reg t) (slot_index k slot)
instr_for k (Work op t z) = instrs.Imm op (temp_reg t) (temp_reg t) z
instr_for k (Join op t u) = instrs.Reg op (temp_reg t) (temp_reg t) (temp_reg u)
instr_for k (Upper t imm) = instrs.Lui (temp_reg t) imm
instr_for k (Row z) = instrs.Load Lw 6 5 z

-- the values after the move
abbrev pub change : (ℕ → ℕ) → Point → Move → Point
change bytes p (Put slot t) = with_held p slot (value p t)
change bytes p (Clear slot) = with_held p slot 0
change bytes p (Steer at_port) = with_held p (aimed at_port) 0
change bytes p (Get t slot) = with_value p t (held_in p slot)
change bytes p (Work op t z) = with_value p t (imm_result op (value p t) z)
change bytes p (Join op t u) = with_value p t (reg_result op (value p t) (value p u))
change bytes p (Upper t imm) = with_value p t imm
change bytes p (Row z) = with_value p X6 (word_at bytes (moved_by p.t0 z))

abbrev pub forward : ℕ → Point → Point
forward pc p = record p { pc = pc + 4 }

abbrev pub move : (ℕ → ℕ) → Point → Move → Point
move bytes p m = forward p.pc (change bytes p m)

-- what the move stores at the port
abbrev pub port_of : Point → Move → Option ℕ
port_of p (Put Port t) = Some (value p t)
port_of p (Clear Port) = Some 0
port_of p (Steer true) = Some 0
port_of p m = None

-- the address of a word of the window
abbrev pub place : ℕ → ℕ
place n = 0xFFFFF800 + 4 * n

abbrev pub Allows : Setting → Point → Move → Type 0
Allows env p (Put Port t) = value p t < env.levels
Allows env p (Clear Port) = 0 < env.levels
Allows env p (Steer at_port) = (moved_by p.t0 (negsuc 3) ≡ place (slot_index 2 (aimed at_port))) × (0 < env.levels)
Allows env p (Row z) = IsRowAt env p.pc (moved_by p.t0 z)
Allows env p m = Unit {0}

-- what is asked of the state that the points are of
pub record IsWhole (s : State) (k : ℕ) : Type 0 where
  pub regs : length s.regs ≡ 32
  pub window : length s.window ≡ 512
  pub zero : reg s.regs 0 ≡ 0
  pub counter : IsCounter k

-- ---- the window's addresses

place_is : (a n : ℕ) → a ≡ 0 → n < 512 → moved_by a (slot n) ≡ place n
place_is a n e h = omega (arith, ints)

index_small : (k : ℕ) (slot : Slot) → IsCounter k → slot_index k slot < 512
index_small k Save0 c = omega arith
index_small k Save1 c = omega arith
index_small k Counter c = omega arith
index_small k Port c = omega arith

window_seen : (env : Setting) (pc n : ℕ) → n < 512 → is_keyed env.layout pc ≡ true → uses_window env.layout pc (place n) 4 ≡ true
window_seen env pc n h keyed =
    ap (λ b. b && true && in_window (place n)) keyed ∙ grind (arith, nat_tests)

index_is : (n : ℕ) → window_index (place n) ≡ n
index_is n = omega arith

store_seen : (env : Setting) (s : State) (i : Instr) (n v : ℕ) → n < 512 → is_keyed env.layout s.pc ≡ true → stores env s i Sw (place n) v ≡ stores_word env s i (place n) v
store_seen env s i n v h keyed =
    cond-false (not (place n % 4 == 0)) _ _ (grind (arith, nat_tests)) ∙ cond-true (uses_window env.layout s.pc (place n) 4) _ _ (window_seen env s.pc n h keyed)

load_seen : (env : Setting) (s : State) (i : Instr) (rd n : ℕ) → n < 512 → is_keyed env.layout s.pc ≡ true → loads env s i Lw rd (place n) ≡ sets env s i rd (slice_index s.window n)
load_seen env s i rd n h keyed =
    cond-false (not (place n % 4 == 0)) _ _ (grind (arith, nat_tests))
    ∙ (cond-true (uses_window env.layout s.pc (place n) 4) _ _ (window_seen env s.pc n h keyed)
    ∙ ap (λ j. sets env s i rd (slice_index s.window j)) (index_is n))

row_seen : (env : Setting) (s : State) (i : Instr) (rd at : ℕ) → IsRowAt env s.pc at → loads env s i Lw rd at ≡ sets env s i rd (word_at s.bytes at)
row_seen env s i rd at h =
    let high : in_window at ≡ false = grind (arith, nat_tests) in
    let low : uses_window env.layout s.pc at 4 ≡ false = ap (λ b. is_keyed env.layout s.pc && true && b) high ∙ search rules in
    cond-false (not (at % 4 == 0)) _ _ (grind (arith, nat_tests))
    ∙ (cond-false (uses_window env.layout s.pc at 4) _ _ low ∙ cond-true (can_read env.layout s.pc at 4) _ _ h.allowed)

-- ---- what the machine's step makes of each kind

abbrev gone : (pc : ℕ) → Instr → Option ℕ → (next : ℕ) → (keyed : Bool) → State → Outcome
gone pc i stored next keyed t =
    goes (record { pc = pc; next = next; class = class_of i false; moved = move_of i; keyed = keyed; port = stored }) t

gone_on : (pc : ℕ) (i : Instr) (stored : Option ℕ) (next : ℕ) (keyed : Bool) (t u : State) → next ≡ pc + 4 → keyed ≡ true → t ≡ u → gone pc i stored next keyed t ≡ goes (keyed_step pc i stored) u
gone_on pc i stored next keyed t u a b c =
    ap (λ n. gone pc i stored n keyed t) a ∙ (ap (λ x. gone pc i stored (pc + 4) x t) b ∙ ap (gone pc i stored (pc + 4) true) c)

next_is : (pc : ℕ) → pc + 4 < 2 ^ 32 → plus pc 4 ≡ pc + 4
next_is pc h = omega arith

put_state : (s : State) (pc : ℕ) (regs window : List ℕ) (pc2 : ℕ) (regs2 window2 : List ℕ) → pc ≡ pc2 → regs ≡ regs2 → window ≡ window2 → record s { pc = pc; regs = regs; window = window } ≡ record s { pc = pc2; regs = regs2; window = window2 }
put_state s pc regs window pc2 regs2 window2 a b c =
    ap (λ x. record s { pc = x; regs = regs; window = window }) a
    ∙ (ap (λ x. record s { pc = pc2; regs = x; window = window }) b ∙ ap (λ x. record s { pc = pc2; regs = regs2; window = x }) c)

temp_set : (env : Setting) (s : State) (k : ℕ) (p : Point) (i : Instr) (t : Temp) (v : ℕ) → StandsAt env s.bytes p.pc i → sets env (at_point s k p) i (temp_reg t) v ≡ goes (keyed_step p.pc i None) (at_point s k (forward p.pc (with_value p t v)))
temp_set env s k p i X5 v h =
    gone_on p.pc i None (plus p.pc 4) (is_keyed env.layout p.pc) _ _ (next_is p.pc h.room) h.keyed
    (put_state s _ _ _ _ _ _ (next_is p.pc h.room) (write_temp s.regs p X5 v) refl)
temp_set env s k p i X6 v h =
    gone_on p.pc i None (plus p.pc 4) (is_keyed env.layout p.pc) _ _ (next_is p.pc h.room) h.keyed
    (put_state s _ _ _ _ _ _ (next_is p.pc h.room) (write_temp s.regs p X6 v) refl)

slot_same : (s : State) (k pc : ℕ) (p : Point) (slot : Slot) (v : ℕ) → IsCounter k → plus pc 4 ≡ pc + 4 → record (at_point s k p) { pc = plus pc 4; window = slice_set (window_at s.window k p) (slot_index k slot) v } ≡ at_point s k (forward pc (with_held p slot v))
slot_same s k pc p Save0 v c e = put_state s _ _ _ _ _ _ e refl (write_slot s.window k p Save0 v c)
slot_same s k pc p Save1 v c e = put_state s _ _ _ _ _ _ e refl (write_slot s.window k p Save1 v c)
slot_same s k pc p Counter v c e = put_state s _ _ _ _ _ _ e refl (write_slot s.window k p Counter v c)
slot_same s k pc p Port v c e = put_state s _ _ _ _ _ _ e refl (write_slot s.window k p Port v c)

plain_put : (env : Setting) (s : State) (k : ℕ) (p : Point) (i : Instr) (slot : Slot) (v : ℕ) → IsCounter k → slot_index k slot < 511 → StandsAt env s.bytes p.pc i → stores env (at_point s k p) i Sw (place (slot_index k slot)) v ≡ goes (keyed_step p.pc i None) (at_point s k (forward p.pc (with_held p slot v)))
plain_put env s k p i slot v c low h =
    let n = slot_index k slot in
    store_seen env (at_point s k p) i n v (index_small k slot c) h.keyed
    ∙ (cond-true (not (window_index (place n) == port_index)) _ _ (grind (arith, nat_tests))
    ∙ (ap (λ j. gone p.pc i None (plus p.pc 4) (is_keyed env.layout p.pc) (record (at_point s k p) { pc = plus p.pc 4; window = slice_set (window_at s.window k p) j v })) (index_is n)
    ∙ gone_on p.pc i None (plus p.pc 4) (is_keyed env.layout p.pc) _ _ (next_is p.pc h.room) h.keyed (slot_same s k p.pc p slot v c (next_is p.pc h.room))))

port_put : (env : Setting) (s : State) (k : ℕ) (p : Point) (i : Instr) (v : ℕ) → IsCounter k → v < env.levels → StandsAt env s.bytes p.pc i → stores env (at_point s k p) i Sw (place 511) v ≡ goes (keyed_step p.pc i (Some v)) (at_point s k (forward p.pc (with_held p Port v)))
port_put env s k p i v c fits h =
    store_seen env (at_point s k p) i 511 v (omega arith) h.keyed
    ∙ (cond-true (nat_lt v env.levels) _ _ (grind (arith, nat_tests))
    ∙ gone_on p.pc i (Some v) (plus p.pc 4) (is_keyed env.layout p.pc) _ _ (next_is p.pc h.room) h.keyed (slot_same s k p.pc p Port v c (next_is p.pc h.room)))

-- the value and the place of a store, once they are known
put_at : (env : Setting) (s : State) (i : Instr) (at at2 v v2 : ℕ) (o : Outcome) → at ≡ at2 → v ≡ v2 → stores env s i Sw at2 v2 ≡ o → stores env s i Sw at v ≡ o
put_at env s i at at2 v v2 o a b e = ap (λ x. stores env s i Sw x v) a ∙ (ap (stores env s i Sw at2) b ∙ e)

put_move : (env : Setting) (s : State) (k : ℕ) (p : Point) (slot : Slot) (t : Temp) → IsWhole s k → Allows env p (Put slot t) → StandsAt env s.bytes p.pc (instr_for k (Put slot t)) → performs env (at_point s k p) (instr_for k (Put slot t)) (instr_for k (Put slot t)) ≡ goes (keyed_step p.pc (instr_for k (Put slot t)) (port_of p (Put slot t))) (at_point s k (move s.bytes p (Put slot t)))
put_move env s k p Save0 t w a h =
    let i = instr_for k (Put Save0 t) in
    let z = reg (regs_at s.regs p) 0 in
    put_at env (at_point s k p) i (moved_by z (slot 0)) (place 0) (reg (regs_at s.regs p) (temp_reg t)) (value p t) _ (place_is z 0 (read_zero s.regs p w.zero) (omega arith)) (read_temp s.regs p t w.regs)
    (plain_put env s k p i Save0 (value p t) w.counter (omega arith) h)
put_move env s k p Save1 t w a h =
    let i = instr_for k (Put Save1 t) in
    let z = reg (regs_at s.regs p) 0 in
    put_at env (at_point s k p) i (moved_by z (slot 1)) (place 1) (reg (regs_at s.regs p) (temp_reg t)) (value p t) _ (place_is z 1 (read_zero s.regs p w.zero) (omega arith)) (read_temp s.regs p t w.regs)
    (plain_put env s k p i Save1 (value p t) w.counter (omega arith) h)
put_move env s k p Counter t w a h =
    let i = instr_for k (Put Counter t) in
    let z = reg (regs_at s.regs p) 0 in
    put_at env (at_point s k p) i (moved_by z (slot k)) (place k) (reg (regs_at s.regs p) (temp_reg t)) (value p t) _ (place_is z k (read_zero s.regs p w.zero) (omega arith)) (read_temp s.regs p t w.regs)
    (plain_put env s k p i Counter (value p t) w.counter (omega arith) h)
put_move env s k p Port t w a h =
    let i = instr_for k (Put Port t) in
    let z = reg (regs_at s.regs p) 0 in
    put_at env (at_point s k p) i (moved_by z (slot 511)) (place 511) (reg (regs_at s.regs p) (temp_reg t)) (value p t) _ (place_is z 511 (read_zero s.regs p w.zero) (omega arith)) (read_temp s.regs p t w.regs)
    (port_put env s k p i (value p t) w.counter a h)

-- zero is stored
zero_put : (env : Setting) (s : State) (k : ℕ) (p : Point) (m : Move) (slot : Slot) (at : ℕ) → IsWhole s k → Allows env p (Clear slot) → StandsAt env s.bytes p.pc (instr_for k m) → at ≡ place (slot_index k slot) → port_of p m ≡ port_of p (Clear slot)
    → stores env (at_point s k p) (instr_for k m) Sw at (reg (regs_at s.regs p) 0) ≡ goes (keyed_step p.pc (instr_for k m) (port_of p m)) (at_point s k (forward p.pc (with_held p slot 0)))
zero_put env s k p m Save0 at w a h there port =
    put_at env (at_point s k p) (instr_for k m) at (place 0) _ 0 _ there (read_zero s.regs p w.zero) (plain_put env s k p (instr_for k m) Save0 0 w.counter (omega arith) h)
    ∙ ap (λ o. goes (keyed_step p.pc (instr_for k m) o) (at_point s k (forward p.pc (with_held p Save0 0)))) (sym port)
zero_put env s k p m Save1 at w a h there port =
    put_at env (at_point s k p) (instr_for k m) at (place 1) _ 0 _ there (read_zero s.regs p w.zero) (plain_put env s k p (instr_for k m) Save1 0 w.counter (omega arith) h)
    ∙ ap (λ o. goes (keyed_step p.pc (instr_for k m) o) (at_point s k (forward p.pc (with_held p Save1 0)))) (sym port)
zero_put env s k p m Counter at w a h there port =
    put_at env (at_point s k p) (instr_for k m) at (place k) _ 0 _ there (read_zero s.regs p w.zero) (plain_put env s k p (instr_for k m) Counter 0 w.counter (omega arith) h)
    ∙ ap (λ o. goes (keyed_step p.pc (instr_for k m) o) (at_point s k (forward p.pc (with_held p Counter 0)))) (sym port)
zero_put env s k p m Port at w a h there port =
    put_at env (at_point s k p) (instr_for k m) at (place 511) _ 0 _ there (read_zero s.regs p w.zero) (port_put env s k p (instr_for k m) 0 w.counter a h)
    ∙ ap (λ o. goes (keyed_step p.pc (instr_for k m) o) (at_point s k (forward p.pc (with_held p Port 0)))) (sym port)

performed_move : (env : Setting) (s : State) (k : ℕ) (p : Point) (m : Move) → IsWhole s k → Allows env p m → StandsAt env s.bytes p.pc (instr_for k m) → performs env (at_point s k p) (instr_for k m) (instr_for k m) ≡ goes (keyed_step p.pc (instr_for k m) (port_of p m)) (at_point s k (move s.bytes p m))
performed_move env s k p (Put slot t) w a h = put_move env s k p slot t w a h
performed_move env s k p (Clear slot) w a h =
    zero_put env s k p (Clear slot) slot _ w a h (place_is _ (slot_index k slot) (read_zero s.regs p w.zero) (index_small k slot w.counter)) refl
performed_move env s k p (Steer true) w a h =
    zero_put env s k p (Steer true) Port _ w a.1 h (ap (λ x. moved_by x (negsuc 3)) (read_temp s.regs p X5 w.regs) ∙ a.0) refl
performed_move env s k p (Steer false) w a h =
    zero_put env s k p (Steer false) Save1 _ w tt h (ap (λ x. moved_by x (negsuc 3)) (read_temp s.regs p X5 w.regs) ∙ a.0) refl
performed_move env s k p (Get t slot) w a h =
    let i = instr_for k (Get t slot) in
    let n = slot_index k slot in
    let small : n < 512 = index_small k slot w.counter in
    ap (loads env (at_point s k p) i Lw (temp_reg t)) (place_is _ n (read_zero s.regs p w.zero) small)
    ∙ (load_seen env (at_point s k p) i (temp_reg t) n small h.keyed
    ∙ (ap (sets env (at_point s k p) i (temp_reg t)) (read_slot s.window k p slot w.window w.counter)
    ∙ temp_set env s k p i t (held_in p slot) h))
performed_move env s k p (Work op t z) w a h =
    ap (λ x. sets env (at_point s k p) (instr_for k (Work op t z)) (temp_reg t) (imm_result op x z)) (read_temp s.regs p t w.regs)
    ∙ temp_set env s k p _ t _ h
performed_move env s k p (Join op t u) w a h =
    ap (λ x. sets env (at_point s k p) (instr_for k (Join op t u)) (temp_reg t) (reg_result op x (reg (regs_at s.regs p) (temp_reg u)))) (read_temp s.regs p t w.regs)
    ∙ (ap (λ x. sets env (at_point s k p) (instr_for k (Join op t u)) (temp_reg t) (reg_result op (value p t) x)) (read_temp s.regs p u w.regs)
    ∙ temp_set env s k p _ t _ h)
performed_move env s k p (Upper t imm) w a h = temp_set env s k p _ t imm h
performed_move env s k p (Row z) w a h =
    let i = instr_for k (Row z) in
    ap (λ x. loads env (at_point s k p) i Lw 6 (moved_by x z)) (read_temp s.regs p X5 w.regs)
    ∙ (row_seen env (at_point s k p) i 6 (moved_by p.t0 z) a
    ∙ temp_set env s k p i X6 (word_at s.bytes (moved_by p.t0 z)) h)

pub move_step : (env : Setting) (s : State) (k : ℕ) (p : Point) (m : Move) → IsWhole s k → Allows env p m → StandsAt env s.bytes p.pc (instr_for k m) → step env (at_point s k p) ≡ goes (keyed_step p.pc (instr_for k m) (port_of p m)) (at_point s k (move s.bytes p m))
move_step env s k p m w a h = performed env (at_point s k p) (instr_for k m) h ∙ performed_move env s k p m w a h

-- ---- moves one after another

abbrev pub moves : (ℕ → ℕ) → Point → List Move → Point
moves bytes p [] = p
moves bytes p (m ∷ ms) = moves bytes (move bytes p m) ms

abbrev pub AllowsAll : Setting → (ℕ → ℕ) → Point → List Move → Type 0
AllowsAll env bytes p [] = Unit {0}
AllowsAll env bytes p (m ∷ ms) = Allows env p m × AllowsAll env bytes (move bytes p m) ms

abbrev pub steps_of : ℕ → (ℕ → ℕ) → Point → List Move → List Stepped
steps_of k bytes p [] = []
steps_of k bytes p (m ∷ ms) = keyed_step p.pc (instr_for k m) (port_of p m) ∷ steps_of k bytes (move bytes p m) ms

pub run_transitions : (env : Setting) (s : State) (k : ℕ) (p : Point) (ms : List Move) → IsWhole s k → AllowsAll env s.bytes p ms → Stand env s.bytes p.pc (map (instr_for k) ms) → StepsLead env (at_point s k p) (steps_of k s.bytes p ms) (at_point s k (moves s.bytes p ms))
run_transitions env s k p [] w a h = leads_none env (at_point s k p)
run_transitions env s k p (m ∷ ms) w a h =
    leads_first env _ _ _ _ _ (move_step env s k p m w a.0 h.0) (run_transitions env s k (move s.bytes p m) ms w a.1 h.1)
