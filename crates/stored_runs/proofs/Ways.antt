-- Fragments one after another, a way, and a stub.
use Rattle.std.proofs.Common.{◌≡◌, ℕ, ℤ, pos, ◌+◌, ◌-◌, ◌*◌, ◌%◌, ◌^◌, ◌<◌, Bool, true, false, cond, List, [], ◌∷◌, ◌++◌, length, refl, arith, sym, ◌∙◌, ap, subst, None, length-append, length-set, get_or-set_other}
use Rattle.std.specs.Prelude.{slice_index, slice_set, ◌==◌}
use Rattle.std.specs.List.{sum_by}
use Rattle.std.proofs.lemmas.List.{get_or-set_same}
use Rattle.std.proofs.lemmas.List.Sums.{sum_by-cons}
use Rattle.std.proofs.lemmas.Bool.{cond-true, and_parts, eqb-true}
use Rattle.std.proofs.lemmas.Bool.Decides.{nat_tests}
use Rattle.std.proofs.lemmas.Int.{ints, of_z-to_z}
use Rattle.std.specs.Int.{w32}
use Rattle.scale_base.specs.declared.instruction.BranchOp.{BranchOp}
use Rattle.scale_base.specs.declared.instruction.Instr.{Instr}
use Rattle.scale_base.specs.declared.instruction.Instr.TheVariants as instrs
use Rattle.scale_base.specs.declared.stepping.Class.TheVariants as classes
use Rattle.scale_base.specs.Layout.{is_keyed, can_fetch, each_byte, fetches_byte}
use Rattle.scale_base.specs.Arith.{moved_by, plus, is_taken}
use Rattle.scale_base.specs.State.{Setting, State, reg, word_at}
use Rattle.scale_base.specs.Step.{step, goes, executes, jumps, branches}
use Rattle.scale_base.specs.declared.stepping.Move.TheVariants as moves
use Rattle.rv_encode.specs.Jumps.{distance}
use Rattle.scale_base.specs.declared.fragments.Fragment.{Fragment}
use Rattle.scale_base.specs.declared.fragments.Fragment.TheVariants.{Switch, Exit, Reset, Count, Lowest, Tally}
use Rattle.stub_writer.specs.Fragments.{t0, port, exit_code, fragment_code, code_len, rows_len}
use Rattle.stub_writer.specs.Stubs.{Way, Forked, fragments_code, way_code, way_len, way_rows, jump, jump_at, taken_at, stub_code_of}
use Rattle.stored_runs.specs.Meaning.{StandsAt, Stand, StepsLead, IsSound, behind, four_bits, is_due, along_storing}
use Rattle.stored_runs.specs.Ways.{new_level, saved_in, row_at, window_behind, fragment_steps, Fits, windows_behind, fragments_steps, AllFit, turn, way_steps, behind_way, WayFits}
use Rattle.stored_runs.specs.Held.{IsInText, text_turn}
use Rattle.scale_base.proofs.Laws.{word_back}
use Rattle.stored_runs.proofs.Steps.{performed, leads_none, leads_first, leads_on}
use Rattle.stored_runs.proofs.Fragments.{switch_does, exit_does, reset_does, count_does, lowest_does, tally_does}

-- ---- code that stands, in parts

pub stand_left : (env : Setting) (bytes : ℕ → ℕ) (at : ℕ) (xs ys : List Instr) → Stand env bytes at (xs ++ ys) → Stand env bytes at xs
stand_left env bytes at [] ys h = tt
stand_left env bytes at (x ∷ xs) ys h = (h.0, stand_left env bytes (at + 4) xs ys h.1)

pub stand_right : (env : Setting) (bytes : ℕ → ℕ) (at : ℕ) (xs ys : List Instr) → Stand env bytes at (xs ++ ys) → Stand env bytes (at + 4 * length xs) ys
stand_right env bytes at [] ys h = let e : at ≡ at + 4 * 0 = omega arith in subst (λ a. Stand env bytes a ys) e h
stand_right env bytes at (x ∷ xs) ys h =
    let e : at + 4 + 4 * length xs ≡ at + 4 * length (x ∷ xs) = omega arith in
    subst (λ a. Stand env bytes a ys) e (stand_right env bytes (at + 4) xs ys h.1)

pub code_length : (table : ℕ) (f : Fragment) → length (fragment_code table f) ≡ code_len f
code_length table (Switch word) = refl
code_length table (Exit counter shift rows) = refl
code_length table (Reset counter) = refl
code_length table (Count counter) = refl
code_length table (Lowest down) = refl
code_length table (Tally counter shift from) = refl

pub codes_length : (table : ℕ) (fs : List Fragment) → length (fragments_code table fs) ≡ sum_by code_len fs
codes_length table [] = refl
codes_length table (f ∷ fs) =
    let rest = codes_length (table + 4 * rows_len f) fs in
    let one = code_length table f in
    omega (arith, length-append (fragment_code table f) (fragments_code (table + 4 * rows_len f) fs), sum_by-cons code_len f fs, rest, one)

-- ---- fragments

pub fragment_does : (env : Setting) (s : State) (table : ℕ) (f : Fragment) → IsSound env s → Fits env s.bytes table s.pc f s.window → Stand env s.bytes s.pc (fragment_code table f) → StepsLead env s (fragment_steps s.bytes table s.pc f s.window) (behind s (code_len f) (window_behind s.bytes s.regs table f s.window))
fragment_does env s table (Switch word) sound fits stand = switch_does env s word sound fits.0 fits.1 stand
fragment_does env s table (Exit counter shift rows) sound fits stand =
    let e : table % 2 ^ 32 ≡ table = omega (arith, fits.2.outside) in
    let code : Stand env s.bytes s.pc (exit_code counter shift table) = subst (λ t. Stand env s.bytes s.pc (exit_code counter shift t)) e stand in
    subst (λ t. StepsLead env s (along_storing 13 (new_level s.bytes table (Exit counter shift rows) s.window) s.pc (exit_code counter shift t)) (behind s 16 (window_behind s.bytes s.regs table (Exit counter shift rows) s.window))) (sym e)
    (exit_does env s counter shift table sound fits.0 fits.1 fits.2 fits.3 code)
fragment_does env s table (Reset counter) sound fits stand = reset_does env s counter sound fits stand
fragment_does env s table (Count counter) sound fits stand = count_does env s counter sound fits stand
fragment_does env s table (Lowest down) sound fits stand = lowest_does env s down sound stand
fragment_does env s table (Tally counter shift from) sound fits stand = tally_does env s counter shift from sound fits.0 fits.1 fits.2 fits.3 fits.4 stand

window_length : (bytes : ℕ → ℕ) (regs : List ℕ) (table : ℕ) (f : Fragment) (w : List ℕ) → length (window_behind bytes regs table f w) ≡ length w
window_length bytes regs table (Switch word) w = simp length-set
window_length bytes regs table (Exit counter shift rows) w = simp length-set
window_length bytes regs table (Reset counter) w = simp length-set
window_length bytes regs table (Count counter) w = simp length-set
window_length bytes regs table (Lowest down) w = simp length-set
window_length bytes regs table (Tally counter shift from) w = simp length-set

-- 0 is stored at the port, or in the save slot of t1
zero_kept : (env : Setting) (w : List ℕ) (b : Bool) → length w ≡ 512 → slice_index w port < env.levels → slice_index (slice_set w (cond b port 1) 0) port < env.levels
zero_kept env w true len h = subst (λ v. v < env.levels) (sym (get_or-set_same w 511 0 0 (omega arith))) (omega arith)
zero_kept env w false len h = subst (λ v. v < env.levels) (sym (get_or-set_other w 1 511 0 0 (omega arith))) h

level_kept : (env : Setting) (bytes : ℕ → ℕ) (regs : List ℕ) (table at : ℕ) (f : Fragment) (w : List ℕ) → length w ≡ 512 → slice_index w port < env.levels → Fits env bytes table at f w → slice_index (window_behind bytes regs table f w) port < env.levels
level_kept env bytes regs table at (Switch word) w len h fits =
    let x = saved_in regs w in
    let long : length x ≡ 512 = simp length-set len in
    subst (λ v. v < env.levels) (sym (get_or-set_same x 511 (four_bits word (slice_index w port)) 0 (omega arith))) fits.1
level_kept env bytes regs table at (Exit counter shift rows) w len h fits =
    let x = slice_set (saved_in regs w) counter 0 in
    let long : length x ≡ 512 = simp length-set len in
    subst (λ v. v < env.levels) (sym (get_or-set_same x 511 (four_bits (row_at bytes table counter shift w) (slice_index w port)) 0 (omega arith))) fits.3
level_kept env bytes regs table at (Reset counter) w len h fits =
    subst (λ v. v < env.levels) (sym (get_or-set_other w counter 511 0 0 (omega arith))) h
level_kept env bytes regs table at (Count counter) w len h fits =
    let x = slice_set w 0 (reg regs t0) in
    let same : slice_index (slice_set x counter ((slice_index w counter + 1) % 2 ^ 32)) 511 ≡ slice_index w 511 =
    get_or-set_other x counter 511 _ 0 (omega arith) ∙ get_or-set_other w 0 511 (reg regs t0) 0 (omega arith) in
    subst (λ v. v < env.levels) (sym same) h
level_kept env bytes regs table at (Lowest down) w len h fits = zero_kept env w down len h
level_kept env bytes regs table at (Tally counter shift from) w len h fits =
    let x = slice_set w 0 (reg regs t0) in
    let y = slice_set x counter ((slice_index w counter + 1) % 2 ^ 32) in
    let long : length y ≡ 512 = simp length-set len in
    let same : slice_index y 511 ≡ slice_index w 511 = get_or-set_other x counter 511 _ 0 (omega (arith, fits.0.high)) ∙ get_or-set_other w 0 511 (reg regs t0) 0 (omega arith) in
    zero_kept env y (is_due shift from (slice_index w counter)) long (subst (λ v. v < env.levels) (sym same) h)

sound_behind : (env : Setting) (s : State) (table : ℕ) (f : Fragment) → IsSound env s → Fits env s.bytes table s.pc f s.window → IsSound env (behind s (code_len f) (window_behind s.bytes s.regs table f s.window))
sound_behind env s table f sound fits = record {
  regs = sound.regs;
  window = window_length s.bytes s.regs table f s.window ∙ sound.window;
  zero = sound.zero;
  level = level_kept env s.bytes s.regs table s.pc f s.window sound.window sound.level fits;
  levels = sound.levels;
}

pub fragments_do : (env : Setting) (s : State) (table : ℕ) (fs : List Fragment) → IsSound env s → AllFit env s.bytes s.regs table s.pc fs s.window → Stand env s.bytes s.pc (fragments_code table fs) → StepsLead env s (fragments_steps s.bytes s.regs table s.pc fs s.window) (behind s (sum_by code_len fs) (windows_behind s.bytes s.regs table fs s.window))
fragments_do env s table [] sound fits stand =
    let e : s.pc ≡ s.pc + 4 * 0 = omega arith in
    subst (λ pc. StepsLead env s [] (record s { pc = pc })) e (leads_none env s)
fragments_do env s table (f ∷ fs) sound fits stand =
    let first = fragment_code table f in
    let later = table + 4 * rows_len f in
    let t = behind s (code_len f) (window_behind s.bytes s.regs table f s.window) in
    let here = fragment_does env s table f sound fits.0 (stand_left env s.bytes s.pc first (fragments_code later fs) stand) in
    let there : Stand env s.bytes (s.pc + 4 * code_len f) (fragments_code later fs) =
    subst (λ n. Stand env s.bytes (s.pc + 4 * n) (fragments_code later fs)) (code_length table f) (stand_right env s.bytes s.pc first (fragments_code later fs) stand) in
    let rest = fragments_do env t later fs (sound_behind env s table f sound fits.0) fits.1 there in
    let e : s.pc + 4 * code_len f + 4 * sum_by code_len fs ≡ s.pc + 4 * sum_by code_len (f ∷ fs) = omega (arith, sum_by-cons code_len f fs) in
    subst (λ pc. StepsLead env s (fragments_steps s.bytes s.regs table s.pc (f ∷ fs) s.window) (record s { pc = pc; window = windows_behind s.bytes s.regs table (f ∷ fs) s.window })) e
    (leads_on env s t _ _ _ here rest)

-- ---- jumps

pub reaches_to : (from to : ℕ) → from < 2 ^ 32 → to < 2 ^ 32 → moved_by from (distance (from % 2 ^ 32) (to % 2 ^ 32)) ≡ to
reaches_to from to h g =
    ap (plus from) (of_z-to_z w32 ((to % 2 ^ 32 + (2 ^ 32 - from % 2 ^ 32)) % 2 ^ 32) (omega arith)) ∙ omega arith

pub jump_does : (env : Setting) (s : State) (to : ℕ) → StandsAt env s.bytes s.pc (jump s.pc to) → to < 2 ^ 32 → to % 4 ≡ 0 → step env s ≡ goes (turn s.pc to classes.Jump) (record s { pc = to })
jump_does env s to h small even =
    let from : s.pc < 2 ^ 32 = omega (arith, h.room) in
    let there = reaches_to s.pc to from small in
    performed env s (jump s.pc to) h
    ∙ (ap (λ target. jumps env s (jump s.pc to) 0 target) there
    ∙ (cond-true (to % 4 == 0) _ _ (grind (arith, nat_tests))
    ∙ ap (λ k. goes (record { pc = s.pc; next = to; class = classes.Jump; moved = moves.Local; keyed = k; port = None }) (record s { pc = to })) h.keyed))

pub way_does : (env : Setting) (s : State) (table : ℕ) (way : Way) → IsSound env s → WayFits env s table s.pc way → Stand env s.bytes s.pc (way_code s.pc table way) → StepsLead env s (way_steps s table s.pc way) (behind_way s table way)
way_does env s table way sound fits stand =
    let code = fragments_code table way.fragments in
    let last : List Instr = jump (jump_at s.pc way) way.to ∷ [] in
    let t = behind s (sum_by code_len way.fragments) (windows_behind s.bytes s.regs table way.fragments s.window) in
    let here = fragments_do env s table way.fragments sound fits.0 (stand_left env s.bytes s.pc code last stand) in
    let there : Stand env s.bytes (jump_at s.pc way) last =
    subst (λ n. Stand env s.bytes (s.pc + 4 * n) last) (codes_length table way.fragments) (stand_right env s.bytes s.pc code last stand) in
    let u = behind_way s table way in
    let jumped = jump_does env t way.to there.0 fits.1 fits.2 in
    leads_on env s t u _ _ here (leads_first env t u u _ [] jumped (leads_none env u))

-- ---- the stub of a branch

-- the branch of a stub, where it is taken
pub fork_taken_to : (env : Setting) (s : State) (op : BranchOp) (rs1 rs2 : ℕ) (offset : ℤ) (to : ℕ) → StandsAt env s.bytes s.pc (instrs.Branch op rs1 rs2 offset) → moved_by s.pc offset ≡ to → to % 4 ≡ 0 → is_taken op (reg s.regs rs1) (reg s.regs rs2) ≡ true → step env s ≡ goes (turn s.pc to classes.Taken) (record s { pc = to })
fork_taken_to env s op rs1 rs2 offset to h there even taken =
    let i = instrs.Branch op rs1 rs2 offset in
    performed env s i h
    ∙ (ap (branches env s i (is_taken op (reg s.regs rs1) (reg s.regs rs2))) there
    ∙ (ap (λ b. branches env s i b to) taken
    ∙ (cond-true (to % 4 == 0) _ _ (grind (arith, nat_tests))
    ∙ ap (λ k. goes (record { pc = s.pc; next = to; class = classes.Taken; moved = moves.Local; keyed = k; port = None }) (record s { pc = to })) h.keyed)))

fork_taken : (env : Setting) (s : State) (op : BranchOp) (rs1 rs2 len : ℕ) → StandsAt env s.bytes s.pc (instrs.Branch op rs1 rs2 (pos (4 + 4 * len))) → is_taken op (reg s.regs rs1) (reg s.regs rs2) ≡ true → s.pc + 4 + 4 * len < 2 ^ 32 → 4 + 4 * len < 2 ^ 12 → step env s ≡ goes (turn s.pc (s.pc + 4 + 4 * len) classes.Taken) (record s { pc = s.pc + 4 + 4 * len })
fork_taken env s op rs1 rs2 len h taken room near =
    let to = s.pc + 4 + 4 * len in
    let there : moved_by s.pc (pos (4 + 4 * len)) ≡ to = omega (arith, ints) in
    let parts = and_parts (s.pc % 4 == 0) (each_byte (fetches_byte env.layout) s.pc 4) h.fetched in
    let even : to % 4 ≡ 0 = (let e : s.pc % 4 ≡ 0 = eqb-true (s.pc % 4) 0 parts.0 in omega arith) in
    fork_taken_to env s op rs1 rs2 (pos (4 + 4 * len)) to h there even taken

pub fork_passed : (env : Setting) (s : State) (op : BranchOp) (rs1 rs2 : ℕ) (offset : ℤ) → StandsAt env s.bytes s.pc (instrs.Branch op rs1 rs2 offset) → is_taken op (reg s.regs rs1) (reg s.regs rs2) ≡ false → step env s ≡ goes (turn s.pc (s.pc + 4) classes.Untaken) (record s { pc = s.pc + 4 })
fork_passed env s op rs1 rs2 offset h taken =
    let i = instrs.Branch op rs1 rs2 offset in
    let target = moved_by s.pc offset in
    let next : plus s.pc 4 ≡ s.pc + 4 = omega (arith, h.room) in
    performed env s i h
    ∙ (ap (λ b. branches env s i b target) taken
    ∙ (ap (λ n. goes (record { pc = s.pc; next = n; class = classes.Untaken; moved = moves.Local; keyed = is_keyed env.layout s.pc; port = None }) (record s { pc = n })) next
    ∙ ap (λ k. goes (record { pc = s.pc; next = s.pc + 4; class = classes.Untaken; moved = moves.Local; keyed = k; port = None }) (record s { pc = s.pc + 4 })) h.keyed))

fork_untaken : (env : Setting) (s : State) (op : BranchOp) (rs1 rs2 len : ℕ) → StandsAt env s.bytes s.pc (instrs.Branch op rs1 rs2 (pos (4 + 4 * len))) → is_taken op (reg s.regs rs1) (reg s.regs rs2) ≡ false → step env s ≡ goes (turn s.pc (s.pc + 4) classes.Untaken) (record s { pc = s.pc + 4 })
fork_untaken env s op rs1 rs2 len h taken = fork_passed env s op rs1 rs2 (pos (4 + 4 * len)) h taken

pub sound_at : (env : Setting) (s : State) (pc : ℕ) → IsSound env s → IsSound env (record s { pc = pc })
sound_at env s pc h = record { regs = h.regs; window = h.window; zero = h.zero; level = h.level; levels = h.levels }

-- the way that the stub of a branch takes
pub taken_does : (env : Setting) (s : State) (table : ℕ) (op : BranchOp) (rs1 rs2 : ℕ) (untaken taken : Way) → IsSound env s → Stand env s.bytes s.pc (stub_code_of s.pc table (Forked op rs1 rs2 untaken taken)) → is_taken op (reg s.regs rs1) (reg s.regs rs2) ≡ true → 4 + 4 * way_len untaken < 2 ^ 12 → taken_at s.pc untaken < 2 ^ 32 → WayFits env s (table + 4 * length (way_rows untaken)) (taken_at s.pc untaken) taken → StepsLead env s (turn s.pc (taken_at s.pc untaken) classes.Taken ∷ way_steps s (table + 4 * length (way_rows untaken)) (taken_at s.pc untaken) taken) (behind_way s (table + 4 * length (way_rows untaken)) taken)
taken_does env s table op rs1 rs2 untaken taken sound stand is near room fits =
    let at = taken_at s.pc untaken in
    let later = table + 4 * length (way_rows untaken) in
    let t : State = record s { pc = at } in
    let here = fork_taken env s op rs1 rs2 (way_len untaken) stand.0 is room near in
    let second = way_code at later taken in
    let long : s.pc + 4 + 4 * length (way_code (s.pc + 4) table untaken) ≡ at = omega (arith, length-append (fragments_code table untaken.fragments) (jump (jump_at (s.pc + 4) untaken) untaken.to ∷ []), codes_length table untaken.fragments) in
    let there : Stand env s.bytes at second =
    subst (λ a. Stand env s.bytes a second) long (stand_right env s.bytes (s.pc + 4) (way_code (s.pc + 4) table untaken) second stand.1) in
    leads_first env s t (behind_way s later taken) _ _ here (way_does env t later taken (sound_at env s at sound) fits there)

pub untaken_does : (env : Setting) (s : State) (table : ℕ) (op : BranchOp) (rs1 rs2 : ℕ) (untaken taken : Way) → IsSound env s → Stand env s.bytes s.pc (stub_code_of s.pc table (Forked op rs1 rs2 untaken taken)) → is_taken op (reg s.regs rs1) (reg s.regs rs2) ≡ false → WayFits env s table (s.pc + 4) untaken → StepsLead env s (turn s.pc (s.pc + 4) classes.Untaken ∷ way_steps s table (s.pc + 4) untaken) (behind_way s table untaken)
untaken_does env s table op rs1 rs2 untaken taken sound stand is fits =
    let t : State = record s { pc = s.pc + 4 } in
    let later = table + 4 * length (way_rows untaken) in
    let here = fork_untaken env s op rs1 rs2 (way_len untaken) stand.0 is in
    let there = stand_left env s.bytes (s.pc + 4) (way_code (s.pc + 4) table untaken) (way_code (taken_at s.pc untaken) later taken) stand.1 in
    leads_first env s t (behind_way s table untaken) _ _ here (way_does env t table untaken (sound_at env s (s.pc + 4) sound) fits there)

-- ---- the patched instruction: a jump of the text to its stub

pub patch_does : (env : Setting) (s : State) (to : ℕ) → IsInText env s.bytes s.pc (jump s.pc to) → s.pc < 2 ^ 32 → to < 2 ^ 32 → to % 4 ≡ 0 → step env s ≡ goes (text_turn s.pc to) (record s { pc = to })
unfolding step
patch_does env s to h from small even =
    let there = reaches_to s.pc to from small in
    cond-true (can_fetch env.layout s.pc) _ _ h.fetched
    ∙ (ap (executes env s) (word_back (word_at s.bytes s.pc) (jump s.pc to) h.encodes)
    ∙ (ap (λ target. jumps env s (jump s.pc to) 0 target) there
    ∙ (cond-true (to % 4 == 0) _ _ (grind (arith, nat_tests))
    ∙ ap (λ k. goes (record { pc = s.pc; next = to; class = classes.Jump; moved = moves.Local; keyed = k; port = None }) (record s { pc = to })) h.keyed)))
