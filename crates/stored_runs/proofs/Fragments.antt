-- What each fragment does: its moves from the values that the state has.
use Rattle.std.proofs.Common.{◌≡◌, ℕ, ℤ, pos, negsuc, ◌+◌, ◌-◌, ◌*◌, ◌/◌, ◌%◌, ◌^◌, ◌<◌, ◌≤◌, Bool, true, false, cond, List, [], ◌∷◌, refl, arith, sym, ◌∙◌, ap, subst, get_or-set_other, bit_and}
use Rattle.std.specs.Prelude.{slice_index, slice_set, nat_lt}
use Rattle.std.proofs.lemmas.List.{set-get_or}
use Rattle.std.proofs.lemmas.Bool.{cond_both}
use Rattle.std.proofs.lemmas.Bool.Decides.{nat_tests}
use Rattle.std.proofs.lemmas.Int.{ints}
use Rattle.std.proofs.lemmas.Nat.{and_mask}
use Rattle.scale_base.specs.declared.instruction.ImmOp.TheVariants.{Addi, Andi, Slli, Srli, Srai}
use Rattle.scale_base.specs.declared.instruction.RegOp.TheVariants.{Add, Srl}
use Rattle.scale_base.specs.declared.stepping.Stepped.{Stepped}
use Rattle.scale_base.specs.Arith.{moved_by, plus, unsigned, imm_result, reg_result}
use Rattle.scale_base.specs.State.{Setting, State, reg, word_at}
use Rattle.stub_writer.specs.Fragments.{port, hi, lo, switch_code, exit_code, count_code, reset_code, lowest_code, tally_code}
use Rattle.stored_runs.specs.Meaning.{Stand, StepsLead, along, along_storing, behind, IsSound, IsRowAt, IsCounter, four_bits, is_due, level_in, row_place, switched, exited, counted, cleared}
use Rattle.stored_runs.proofs.Points.{X5, X6, Save0, Save1, Counter, Port, Slot, slot_index, with_held, point_of, at_point, own_point, regs_same, window_at, window_same, write_slot}
use Rattle.stored_runs.proofs.Moves.{Move, Put, Clear, Steer, Get, Work, Join, Upper, Row, IsWhole, moves, AllowsAll, steps_of, run_transitions}
use Rattle.stored_runs.proofs.TallyWords.{steered_is}

-- ---- arithmetic

low_part : (c : ℕ) → c < 2 ^ 32 → nat_lt (c % 2 ^ 12) (2 ^ (12 - 1)) ≡ true → moved_by (hi c) (pos (c % 2 ^ 12)) ≡ c
low_part c h e = let small : c % 2 ^ 12 < 2 ^ 11 = grind (arith, nat_tests) in omega (arith, ints)

high_part : (c : ℕ) → c < 2 ^ 32 → nat_lt (c % 2 ^ 12) (2 ^ (12 - 1)) ≡ false → moved_by (hi c) (negsuc (2 ^ 12 - 1 - c % 2 ^ 12)) ≡ c
high_part c h e = let large : 2 ^ 11 ≤ c % 2 ^ 12 = grind (arith, nat_tests) in omega (arith, ints)

-- the two parts of a number give it again
high_low : (c : ℕ) → c < 2 ^ 32 → moved_by (hi c) (lo c) ≡ c
high_low c h = cond_both (nat_lt (c % 2 ^ 12) (2 ^ (12 - 1))) _ _ (λ z. moved_by (hi c) z ≡ c) (low_part c h) (high_part c h)

moved_plus : (a b : ℕ) (z : ℤ) → moved_by (plus a b) z ≡ plus a (moved_by b z)
moved_plus a b z = omega arith

-- the same, seen from a distance
high_low_from : (x c : ℕ) → c + x < 2 ^ 32 → moved_by (plus x (hi c)) (lo c) ≡ c + x
high_low_from x c h =
    let fits : c < 2 ^ 32 = omega arith in
    moved_plus x (hi c) (lo c) ∙ (ap (plus x) (high_low c fits) ∙ omega arith)

-- four bits of a word, as the machine takes them
nibble_is : (w level : ℕ) → level < 8 → imm_result Andi (reg_result Srl w (imm_result Slli level (pos 2))) (pos 15) ≡ four_bits w level
nibble_is w level h =
    let e : level * 4 % 2 ^ 32 % 32 ≡ 4 * level = omega arith in
    ap (λ k. bit_and (w / 2 ^ k) 15) e ∙ and_mask (w / 2 ^ (4 * level)) 4

-- ---- the end of a run in other words

leads_as : (env : Setting) (s s2 : State) (xs ys : List Stepped) (t u : State) → s ≡ s2 → xs ≡ ys → t ≡ u → StepsLead env s xs t → StepsLead env s2 ys u
leads_as env s s2 xs ys t u a b c h =
    subst (λ x. StepsLead env x ys u) a (subst (λ x. StepsLead env s x u) b (subst (λ x. StepsLead env s xs x) c h))

whole : (env : Setting) (s : State) (k : ℕ) → IsSound env s → IsCounter k → IsWhole s k
whole env s k h c = record { regs = h.regs; window = h.window; zero = h.zero; counter = c }

end_as : (s : State) (pc pc2 : ℕ) (window window2 : List ℕ) → pc ≡ pc2 → window ≡ window2 → record s { pc = pc; regs = slice_set (slice_set s.regs 5 (reg s.regs 5)) 6 (reg s.regs 6); window = window } ≡ record s { pc = pc2; window = window2 }
end_as s pc pc2 window window2 a b =
    ap (λ x. record s { pc = pc; regs = x; window = window }) (regs_same s.regs)
    ∙ (ap (λ x. record s { pc = x; regs = s.regs; window = window }) a ∙ ap (λ x. record s { pc = pc2; regs = s.regs; window = x }) b)

-- ---- words of the window that stay

-- the port and the save slots hold what they held
plain_window : (w : List ℕ) (k v : ℕ) → IsCounter k → slice_set (slice_set (slice_set (slice_set w 0 (slice_index w 0)) 1 (slice_index w 1)) k v) 511 (slice_index w 511) ≡ slice_set w k v
plain_window w k v c =
    let w1 = slice_set w k v in
    let same : slice_index w1 511 ≡ slice_index w 511 = get_or-set_other w k 511 v 0 (omega arith) in
    ap (λ l. slice_set (slice_set (slice_set l 1 (slice_index w 1)) k v) 511 (slice_index w 511)) (set-get_or w 0 0)
    ∙ (ap (λ l. slice_set (slice_set l k v) 511 (slice_index w 511)) (set-get_or w 1 0)
    ∙ (ap (slice_set w1 511) (sym same) ∙ set-get_or w1 511 0))

count_window : (w : List ℕ) (k a v : ℕ) → IsCounter k → slice_set (slice_set (slice_set (slice_set w 0 a) 1 (slice_index w 1)) k v) 511 (slice_index w 511) ≡ slice_set (slice_set w 0 a) k v
count_window w k a v c =
    let w0 = slice_set w 0 a in
    let w1 = slice_set w0 k v in
    let one : slice_index w0 1 ≡ slice_index w 1 = get_or-set_other w 0 1 a 0 (omega arith) in
    let same : slice_index w1 511 ≡ slice_index w 511 = get_or-set_other w0 k 511 v 0 (omega arith) ∙ get_or-set_other w 0 511 a 0 (omega arith) in
    ap (λ l. slice_set (slice_set l k v) 511 (slice_index w 511)) (ap (slice_set w0 1) (sym one) ∙ set-get_or w0 1 0)
    ∙ (ap (slice_set w1 511) (sym same) ∙ set-get_or w1 511 0)

-- ---- Switch

abbrev switch_moves : ℕ → List Move
switch_moves word =
    Put Save0 X5 ∷ Put Save1 X6 ∷ Get X5 Port ∷ Work Slli X5 (pos 2) ∷ Upper X6 (hi word) ∷ Work Addi X6 (lo word)
    ∷ Join Srl X6 X5 ∷ Work Andi X6 (pos 15) ∷ Put Port X6 ∷ Get X6 Save1 ∷ Get X5 Save0 ∷ []

-- counter 2 stays as it is
switch_window : (w : List ℕ) (a b level : ℕ) → slice_set (slice_set (slice_set (slice_set w 0 a) 1 b) 2 (slice_index w 2)) 511 level ≡ slice_set (slice_set (slice_set w 0 a) 1 b) 511 level
switch_window w a b level =
    let w1 = slice_set (slice_set w 0 a) 1 b in
    let same : slice_index w1 2 ≡ slice_index w 2 = get_or-set_other (slice_set w 0 a) 1 2 b 0 (omega arith) ∙ get_or-set_other w 0 2 a 0 (omega arith) in
    ap (λ l. slice_set l 511 level) (ap (slice_set w1 2) (sym same) ∙ set-get_or w1 2 0)

level_is : (word level : ℕ) → word < 2 ^ 32 → level < 8 → imm_result Andi (reg_result Srl (imm_result Addi (hi word) (lo word)) (imm_result Slli level (pos 2))) (pos 15) ≡ four_bits word level
level_is word level h g =
    ap (λ w. imm_result Andi (reg_result Srl w (imm_result Slli level (pos 2))) (pos 15)) (high_low word h) ∙ nibble_is word level g

pub switch_does : (env : Setting) (s : State) (word : ℕ) → IsSound env s → word < 2 ^ 32 → four_bits word (level_in s) < env.levels → Stand env s.bytes s.pc (switch_code word) → StepsLead env s (along_storing 8 (four_bits word (level_in s)) s.pc (switch_code word)) (switched s word)
switch_does env s word sound small fits stand =
    let p = point_of s 2 in
    let ms = switch_moves word in
    let new = four_bits word (level_in s) in
    let low : level_in s < 8 = omega (arith, sound.level, sound.levels) in
    let level : imm_result Andi (reg_result Srl (imm_result Addi (hi word) (lo word)) (imm_result Slli (level_in s) (pos 2))) (pos 15) ≡ new = level_is word (level_in s) small low in
    let may : imm_result Andi (reg_result Srl (imm_result Addi (hi word) (lo word)) (imm_result Slli (level_in s) (pos 2))) (pos 15) < env.levels = omega (arith, level, fits) in
    let c : IsCounter 2 = record { low = omega arith; high = omega arith } in
    let all : AllowsAll env s.bytes p ms = (tt, (tt, (tt, (tt, (tt, (tt, (tt, (tt, (may, (tt, (tt, tt))))))))))) in
    let ran = run_transitions env s 2 p ms (whole env s 2 sound c) all stand in
    leads_as env (at_point s 2 p) s (steps_of 2 s.bytes p ms) (along_storing 8 new s.pc (switch_code word)) (at_point s 2 (moves s.bytes p ms)) (switched s word)
    (own_point s 2)
    (ap (λ v. along_storing 8 v s.pc (switch_code word)) level)
    (end_as s _ _ _ _ (omega arith)
    (ap (λ v. window_at s.window 2 (record p { save0 = reg s.regs 5; save1 = reg s.regs 6; level = v })) level ∙ switch_window s.window (reg s.regs 5) (reg s.regs 6) new))
    ran

-- ---- Reset

pub reset_does : (env : Setting) (s : State) (k : ℕ) → IsSound env s → IsCounter k → Stand env s.bytes s.pc (reset_code k) → StepsLead env s (along s.pc (reset_code k)) (cleared s k)
reset_does env s k sound c stand =
    let p = point_of s k in
    let ms : List Move = Clear Counter ∷ [] in
    let all : AllowsAll env s.bytes p ms = (tt, tt) in
    let ran = run_transitions env s k p ms (whole env s k sound c) all stand in
    leads_as env (at_point s k p) s (steps_of k s.bytes p ms) (along s.pc (reset_code k)) (at_point s k (moves s.bytes p ms)) (cleared s k)
    (own_point s k) refl
    (end_as s _ _ _ _ (omega arith) (plain_window s.window k 0 c))
    ran

-- ---- Count

abbrev count_moves : List Move
count_moves = Put Save0 X5 ∷ Get X5 Counter ∷ Work Addi X5 (pos 1) ∷ Put Counter X5 ∷ Get X5 Save0 ∷ []

pub count_does : (env : Setting) (s : State) (k : ℕ) → IsSound env s → IsCounter k → Stand env s.bytes s.pc (count_code k) → StepsLead env s (along s.pc (count_code k)) (counted s k)
count_does env s k sound c stand =
    let p = point_of s k in
    let ms : List Move = count_moves in
    let all : AllowsAll env s.bytes p ms = (tt, (tt, (tt, (tt, (tt, tt))))) in
    let ran = run_transitions env s k p ms (whole env s k sound c) all stand in
    leads_as env (at_point s k p) s (steps_of k s.bytes p ms) (along s.pc (count_code k)) (at_point s k (moves s.bytes p ms)) (counted s k)
    (own_point s k) refl
    (end_as s _ _ _ _ (omega arith) (count_window s.window k (reg s.regs 5) _ c))
    ran

-- ---- Exit

abbrev exit_moves : (shift table : ℕ) → List Move
exit_moves shift table =
    Put Save0 X5 ∷ Put Save1 X6 ∷ Get X5 Counter ∷ Work Srli X5 (pos shift) ∷ Work Slli X5 (pos 2) ∷ Upper X6 (hi table)
    ∷ Join Add X5 X6 ∷ Row (lo table) ∷ Get X5 Port ∷ Work Slli X5 (pos 2) ∷ Join Srl X6 X5 ∷ Work Andi X6 (pos 15)
    ∷ Clear Counter ∷ Put Port X6 ∷ Get X6 Save1 ∷ Get X5 Save0 ∷ []

-- the address that the Exit reads, as the machine has it
abbrev row_sum : (count shift table : ℕ) → ℕ
row_sum count shift table = moved_by (reg_result Add (imm_result Slli (imm_result Srli count (pos shift)) (pos 2)) (hi table)) (lo table)

row_is : (count shift table : ℕ) → shift < 32 → table + 4 * (count / 2 ^ shift) < 2 ^ 32 → row_sum count shift table ≡ table + 4 * (count / 2 ^ shift)
row_is count shift table h fits =
    let by : unsigned (pos shift) % 32 ≡ shift = omega (arith, ints) in
    let four : count / 2 ^ shift * 4 % 2 ^ 32 ≡ 4 * (count / 2 ^ shift) = omega arith in
    ap (λ k. moved_by (plus (count / 2 ^ k * 4 % 2 ^ 32) (hi table)) (lo table)) by
    ∙ (ap (λ x. moved_by (plus x (hi table)) (lo table)) four ∙ high_low_from (4 * (count / 2 ^ shift)) table fits)

pub exit_does : (env : Setting) (s : State) (k shift table : ℕ) → IsSound env s → IsCounter k → shift < 32 → IsRowAt env (s.pc + 28) (row_place s k shift table) → four_bits (word_at s.bytes (row_place s k shift table)) (level_in s) < env.levels → Stand env s.bytes s.pc (exit_code k shift table) → StepsLead env s (along_storing 13 (four_bits (word_at s.bytes (row_place s k shift table)) (level_in s)) s.pc (exit_code k shift table)) (exited s k (word_at s.bytes (row_place s k shift table)))
exit_does env s k shift table sound c short row fits stand =
    let p = point_of s k in
    let ms : List Move = exit_moves shift table in
    let at = row_place s k shift table in
    let new = four_bits (word_at s.bytes at) (level_in s) in
    let low : level_in s < 8 = omega (arith, sound.level, sound.levels) in
    let sum : row_sum (slice_index s.window k) shift table ≡ at = row_is (slice_index s.window k) shift table short (omega (arith, row.outside)) in
    let got : imm_result Andi (reg_result Srl (word_at s.bytes (row_sum (slice_index s.window k) shift table)) (imm_result Slli (level_in s) (pos 2))) (pos 15) ≡ new =
    ap (λ a. imm_result Andi (reg_result Srl (word_at s.bytes a) (imm_result Slli (level_in s) (pos 2))) (pos 15)) sum ∙ nibble_is (word_at s.bytes at) (level_in s) low in
    let may : imm_result Andi (reg_result Srl (word_at s.bytes (row_sum (slice_index s.window k) shift table)) (imm_result Slli (level_in s) (pos 2))) (pos 15) < env.levels = subst (λ v. v < env.levels) (sym got) fits in
    let e : s.pc + 28 ≡ s.pc + 4 + 4 + 4 + 4 + 4 + 4 + 4 = omega arith in
    let there : IsRowAt env (s.pc + 4 + 4 + 4 + 4 + 4 + 4 + 4) (row_sum (slice_index s.window k) shift table) =
    subst (λ a. IsRowAt env (s.pc + 4 + 4 + 4 + 4 + 4 + 4 + 4) a) (sym sum) (subst (λ pc. IsRowAt env pc at) e row) in
    let all : AllowsAll env s.bytes p ms = (tt, (tt, (tt, (tt, (tt, (tt, (tt, (there, (tt, (tt, (tt, (tt, (tt, (may, (tt, (tt, tt)))))))))))))))) in
    let ran = run_transitions env s k p ms (whole env s k sound c) all stand in
    leads_as env (at_point s k p) s (steps_of k s.bytes p ms) (along_storing 13 new s.pc (exit_code k shift table)) (at_point s k (moves s.bytes p ms)) (exited s k (word_at s.bytes at))
    (own_point s k)
    (ap (λ v. along_storing 13 v s.pc (exit_code k shift table)) got)
    (end_as s _ _ _ _ (omega arith)
    (ap (λ v. window_at s.window k (record p { save0 = reg s.regs 5; save1 = reg s.regs 6; counter = 0; level = v })) got))
    ran

-- ---- Lowest

-- one word is put anew
one_window : (s : State) (k : ℕ) (slot : Slot) (v : ℕ) → IsCounter k → window_at s.window k (with_held (point_of s k) slot v) ≡ slice_set s.window (slot_index k slot) v
one_window s k slot v c =
    sym (write_slot s.window k (point_of s k) slot v c) ∙ ap (λ w. slice_set w (slot_index k slot) v) (window_same s.window k)

pub lowest_does : (env : Setting) (s : State) (down : Bool) → IsSound env s → Stand env s.bytes s.pc (lowest_code down) → StepsLead env s (cond down (along_storing 0 0 s.pc (lowest_code down)) (along s.pc (lowest_code down))) (behind s 1 (slice_set s.window (cond down port 1) 0))
lowest_does env s true sound stand =
    let p = point_of s 2 in
    let ms : List Move = Clear Port ∷ [] in
    let c : IsCounter 2 = record { low = omega arith; high = omega arith } in
    let some : 0 < env.levels = omega (arith, sound.level) in
    let all : AllowsAll env s.bytes p ms = (some, tt) in
    let ran = run_transitions env s 2 p ms (whole env s 2 sound c) all stand in
    leads_as env (at_point s 2 p) s (steps_of 2 s.bytes p ms) (along_storing 0 0 s.pc (lowest_code true)) (at_point s 2 (moves s.bytes p ms)) (behind s 1 (slice_set s.window port 0))
    (own_point s 2) refl
    (end_as s _ _ _ _ (omega arith) (one_window s 2 Port 0 c))
    ran
lowest_does env s false sound stand =
    let p = point_of s 2 in
    let ms : List Move = Clear Save1 ∷ [] in
    let c : IsCounter 2 = record { low = omega arith; high = omega arith } in
    let all : AllowsAll env s.bytes p ms = (tt, tt) in
    let ran = run_transitions env s 2 p ms (whole env s 2 sound c) all stand in
    leads_as env (at_point s 2 p) s (steps_of 2 s.bytes p ms) (along s.pc (lowest_code false)) (at_point s 2 (moves s.bytes p ms)) (behind s 1 (slice_set s.window 1 0))
    (own_point s 2) refl
    (end_as s _ _ _ _ (omega arith) (one_window s 2 Save1 0 c))
    ran

-- ---- Tally

abbrev tally_moves : (shift from : ℕ) (due : Bool) → List Move
tally_moves shift from due =
    Put Save0 X5 ∷ Get X5 Counter ∷ Work Addi X5 (pos 1) ∷ Put Counter X5 ∷ Work Srli X5 (pos shift) ∷ Work Addi X5 (negsuc (from - 1))
    ∷ Work Srai X5 (pos 31) ∷ Work Andi X5 (negsuc 2039) ∷ Steer due ∷ Get X5 Save0 ∷ []

-- the save slot of t0, the counter and one word more are put anew
tally_window : (s : State) (k a v : ℕ) (slot : Slot) → IsCounter k
    → window_at s.window k (with_held (with_held (with_held (point_of s k) Save0 a) Counter v) slot 0) ≡ slice_set (slice_set (slice_set s.window 0 a) k v) (slot_index k slot) 0
tally_window s k a v slot c =
    let p0 = with_held (point_of s k) Save0 a in
    let p1 = with_held p0 Counter v in
    sym (write_slot s.window k p1 slot 0 c)
    ∙ ap (λ w. slice_set w (slot_index k slot) 0) (sym (write_slot s.window k p0 Counter v c) ∙ ap (λ w. slice_set w k v) (one_window s k Save0 a c))

-- the counter is one more, t0 is in its save slot, and 0 is at the port, or in the save slot of t1
abbrev tallied : State → (counter : ℕ) → Bool → State
tallied s counter due =
    behind s 10 (slice_set (slice_set (slice_set s.window 0 (reg s.regs 5)) counter ((slice_index s.window counter + 1) % 2 ^ 32)) (cond due port 1) 0)

abbrev tally_steps : State → (counter shift from : ℕ) → Bool → List Stepped
tally_steps s counter shift from due =
    cond due (along_storing 8 0 s.pc (tally_code counter shift from)) (along s.pc (tally_code counter shift from))

tally_by : (env : Setting) (s : State) (k shift from : ℕ) → IsSound env s → IsCounter k → shift < 32 → 1 ≤ from → from < 2048 → slice_index s.window k + 1 < 2 ^ 31 → Stand env s.bytes s.pc (tally_code k shift from) → (due : Bool) → is_due shift from (slice_index s.window k) ≡ due
    → StepsLead env s (tally_steps s k shift from due) (tallied s k due)
tally_by env s k shift from sound c short least most small stand true e =
    let p = point_of s k in
    let ms = tally_moves shift from true in
    let some : 0 < env.levels = omega (arith, sound.level) in
    let there = steered_is shift from (slice_index s.window k) short least most small true e in
    let all : AllowsAll env s.bytes p ms = (tt, (tt, (tt, (tt, (tt, (tt, (tt, (tt, ((there, some), (tt, tt)))))))))) in
    let ran = run_transitions env s k p ms (whole env s k sound c) all stand in
    leads_as env (at_point s k p) s (steps_of k s.bytes p ms) (along_storing 8 0 s.pc (tally_code k shift from)) (at_point s k (moves s.bytes p ms)) (tallied s k true)
    (own_point s k) refl
    (end_as s _ _ _ _ (omega arith) (tally_window s k (reg s.regs 5) ((slice_index s.window k + 1) % 2 ^ 32) Port c))
    ran
tally_by env s k shift from sound c short least most small stand false e =
    let p = point_of s k in
    let ms = tally_moves shift from false in
    let some : 0 < env.levels = omega (arith, sound.level) in
    let there = steered_is shift from (slice_index s.window k) short least most small false e in
    let all : AllowsAll env s.bytes p ms = (tt, (tt, (tt, (tt, (tt, (tt, (tt, (tt, ((there, some), (tt, tt)))))))))) in
    let ran = run_transitions env s k p ms (whole env s k sound c) all stand in
    leads_as env (at_point s k p) s (steps_of k s.bytes p ms) (along s.pc (tally_code k shift from)) (at_point s k (moves s.bytes p ms)) (tallied s k false)
    (own_point s k) refl
    (end_as s _ _ _ _ (omega arith) (tally_window s k (reg s.regs 5) ((slice_index s.window k + 1) % 2 ^ 32) Save1 c))
    ran

pub tally_does : (env : Setting) (s : State) (k shift from : ℕ) → IsSound env s → IsCounter k → shift < 32 → 1 ≤ from → from < 2048 → slice_index s.window k + 1 < 2 ^ 31 → Stand env s.bytes s.pc (tally_code k shift from)
    → StepsLead env s (tally_steps s k shift from (is_due shift from (slice_index s.window k))) (tallied s k (is_due shift from (slice_index s.window k)))
tally_does env s k shift from sound c short least most small stand =
    tally_by env s k shift from sound c short least most small stand (is_due shift from (slice_index s.window k)) refl
