-- From a patched instruction through its stub; the closing jump that traps; the rows that an Exit reads.
use Rattle.std.proofs.Common.{◌≡◌, ℕ, suc, zero, ◌+◌, ◌*◌, ◌%◌, ◌^◌, ◌<◌, true, false, List, [], ◌∷◌, length, get_or, arith, ◌∙◌, ap, subst}
use Rattle.std.specs.Prelude.{◌&&◌}
use Rattle.std.proofs.lemmas.Bool.{or_right, and_from}
use Rattle.scale_base.specs.declared.instruction.BranchOp.{BranchOp}
use Rattle.scale_base.specs.declared.stepping.Class.TheVariants as classes
use Rattle.scale_base.specs.Arith.{is_taken}
use Rattle.scale_base.specs.Layout.{is_keyed, may_read, reads_byte}
use Rattle.scale_base.specs.State.{Setting, State, reg, word_at}
use Rattle.scale_base.proofs.Laws.{each_byte_none, each_byte_more}
use Rattle.stub_writer.specs.Stubs.{Way, Forked, Straight, way_len, way_rows, taken_at, stub_code_of}
use Rattle.stored_runs.specs.Meaning.{Stand, StepsLead, IsSound, IsRowAt}
use Rattle.stored_runs.specs.Ways.{turn, WayFits, behind_way, way_steps, taken_steps, untaken_steps}
use Rattle.stored_runs.specs.Held.{StandsAtPatch, text_turn, LiesAt, Lie, WayStands, ForkStands}
use Rattle.stored_runs.proofs.Steps.{leads_first}
use Rattle.stored_runs.proofs.Ways.{sound_at, patch_does, way_does, taken_does, untaken_does, fork_taken_to, fork_passed}

pub passes_taken : (env : Setting) (s : State) (stub table : ℕ) (op : BranchOp) (rs1 rs2 : ℕ) (untaken taken : Way) → IsSound env s → StandsAtPatch env s stub → Stand env s.bytes stub (stub_code_of stub table (Forked op rs1 rs2 untaken taken)) → is_taken op (reg s.regs rs1) (reg s.regs rs2) ≡ true → 4 + 4 * way_len untaken < 2 ^ 12 → taken_at stub untaken < 2 ^ 32 → WayFits env s (table + 4 * length (way_rows untaken)) (taken_at stub untaken) taken → StepsLead env s (text_turn s.pc stub ∷ taken_steps (record s { pc = stub }) table untaken taken) (behind_way s (table + 4 * length (way_rows untaken)) taken)
passes_taken env s stub table op rs1 rs2 untaken taken sound patched stand is near room fits =
    let t : State = record s { pc = stub } in
    leads_first env s t _ _ _ (patch_does env s stub patched.there patched.pc patched.small patched.even)
    (taken_does env t table op rs1 rs2 untaken taken (sound_at env s stub sound) stand is near room fits)

pub passes_untaken : (env : Setting) (s : State) (stub table : ℕ) (op : BranchOp) (rs1 rs2 : ℕ) (untaken taken : Way) → IsSound env s → StandsAtPatch env s stub → Stand env s.bytes stub (stub_code_of stub table (Forked op rs1 rs2 untaken taken)) → is_taken op (reg s.regs rs1) (reg s.regs rs2) ≡ false → WayFits env s table (stub + 4) untaken → StepsLead env s (text_turn s.pc stub ∷ untaken_steps (record s { pc = stub }) table untaken) (behind_way s table untaken)
passes_untaken env s stub table op rs1 rs2 untaken taken sound patched stand is fits =
    let t : State = record s { pc = stub } in
    leads_first env s t _ _ _ (patch_does env s stub patched.there patched.pc patched.small patched.even)
    (untaken_does env t table op rs1 rs2 untaken taken (sound_at env s stub sound) stand is fits)

pub passes_jump : (env : Setting) (s : State) (stub table : ℕ) (way : Way) → IsSound env s → StandsAtPatch env s stub → Stand env s.bytes stub (stub_code_of stub table (Straight way)) → WayFits env s table stub way → StepsLead env s (text_turn s.pc stub ∷ way_steps (record s { pc = stub }) table stub way) (behind_way s table way)
passes_jump env s stub table way sound patched stand fits =
    let t : State = record s { pc = stub } in
    leads_first env s t _ _ _ (patch_does env s stub patched.there patched.pc patched.small patched.even)
    (way_does env t table way (sound_at env s stub sound) fits stand)

-- ---- stubs anywhere in the keyed segment

pub goes_taken : (env : Setting) (s : State) (stub : ℕ) (op : BranchOp) (rs1 rs2 : ℕ) (untaken taken : Way) → IsSound env s → StandsAtPatch env s stub → (f : ForkStands env s.bytes stub op rs1 rs2 untaken taken) → is_taken op (reg s.regs rs1) (reg s.regs rs2) ≡ true → WayFits env s f.taken_way.table f.to taken
    → StepsLead env s (text_turn s.pc stub ∷ turn stub f.to classes.Taken ∷ way_steps (record s { pc = stub }) f.taken_way.table f.to taken) (behind_way s f.taken_way.table taken)
goes_taken env s stub op rs1 rs2 untaken taken sound patched f is fits =
    let t : State = record s { pc = stub } in
    let u : State = record s { pc = f.to } in
    let table = f.taken_way.table in
    leads_first env s t _ _ _ (patch_does env s stub patched.there patched.pc patched.small patched.even)
    (leads_first env t u (behind_way s table taken) _ _ (fork_taken_to env t op rs1 rs2 f.offset f.to f.branch f.leads f.even is)
    (way_does env u table taken (sound_at env s f.to sound) fits f.taken_way.code))

pub goes_untaken : (env : Setting) (s : State) (stub : ℕ) (op : BranchOp) (rs1 rs2 : ℕ) (untaken taken : Way) → IsSound env s → StandsAtPatch env s stub → (f : ForkStands env s.bytes stub op rs1 rs2 untaken taken) → is_taken op (reg s.regs rs1) (reg s.regs rs2) ≡ false → WayFits env s f.untaken_way.table (stub + 4) untaken
    → StepsLead env s (text_turn s.pc stub ∷ turn stub (stub + 4) classes.Untaken ∷ way_steps (record s { pc = stub }) f.untaken_way.table (stub + 4) untaken) (behind_way s f.untaken_way.table untaken)
goes_untaken env s stub op rs1 rs2 untaken taken sound patched f is fits =
    let t : State = record s { pc = stub } in
    let u : State = record s { pc = stub + 4 } in
    let table = f.untaken_way.table in
    leads_first env s t _ _ _ (patch_does env s stub patched.there patched.pc patched.small patched.even)
    (leads_first env t u (behind_way s table untaken) _ _ (fork_passed env t op rs1 rs2 f.offset f.branch is)
    (way_does env u table untaken (sound_at env s (stub + 4) sound) fits f.untaken_way.code))

pub goes_on : (env : Setting) (s : State) (stub : ℕ) (way : Way) → IsSound env s → StandsAtPatch env s stub → (f : WayStands env s.bytes stub way) → WayFits env s f.table stub way
    → StepsLead env s (text_turn s.pc stub ∷ way_steps (record s { pc = stub }) f.table stub way) (behind_way s f.table way)
goes_on env s stub way sound patched f fits =
    let t : State = record s { pc = stub } in
    leads_first env s t _ _ _ (patch_does env s stub patched.there patched.pc patched.small patched.even)
    (way_does env t f.table way (sound_at env s stub sound) fits f.code)

-- an instruction of the keyed segment may read a word that lies in it
pub row_lies : (env : Setting) (bytes : ℕ → ℕ) (pc at word : ℕ) → is_keyed env.layout pc ≡ true → LiesAt env bytes at word → at % 4 ≡ 0 → at < 0xFFFFF800 → IsRowAt env pc at
row_lies env bytes pc at word here lies even below =
    let test = reads_byte env.layout pc in
    let byte : (k : ℕ) → k < 4 → test (at + k) ≡ true = λ k lt.
    or_right (may_read env.layout (at + k)) (is_keyed env.layout pc && is_keyed env.layout (at + k))
    (and_from (is_keyed env.layout pc) (is_keyed env.layout (at + k)) here (lies.whole k lt)) in
    let none = each_byte_none test at in
    let one = each_byte_more test at 0 none (byte 0 (omega arith)) in
    let two = each_byte_more test at 1 one (byte 1 (omega arith)) in
    let three = each_byte_more test at 2 two (byte 2 (omega arith)) in
    let four = each_byte_more test at 3 three (byte 3 (omega arith)) in
    record { aligned = even; outside = below; allowed = four }

-- one of the words that lie one after another
pub one_lies : (env : Setting) (bytes : ℕ → ℕ) (at j : ℕ) (ws : List ℕ) → j < length ws → Lie env bytes at ws → LiesAt env bytes (at + 4 * j) (get_or ws j 0)
one_lies env bytes at j [] h lie = absurd (omega arith)
one_lies env bytes at zero (w ∷ ws) h lie = let e : at ≡ at + 4 * 0 = omega arith in subst (λ a. LiesAt env bytes a w) e lie.0
one_lies env bytes at (suc j) (w ∷ ws) h lie =
    let e : at + 4 + 4 * j ≡ at + 4 * suc j = omega arith in
    subst (λ a. LiesAt env bytes a (get_or ws j 0)) e (one_lies env bytes (at + 4) j ws (omega arith) lie.1)

-- and finds the word that lies there
pub word_lies : (env : Setting) (bytes : ℕ → ℕ) (at j : ℕ) (ws : List ℕ) → j < length ws → Lie env bytes at ws → word_at bytes (at + 4 * j) ≡ get_or ws j 0
word_lies env bytes at j [] h lie = absurd (omega arith)
word_lies env bytes at zero (w ∷ ws) h lie = let e : at + 4 * 0 ≡ at = omega arith in ap (word_at bytes) e ∙ lie.0.same
word_lies env bytes at (suc j) (w ∷ ws) h lie =
    let e : at + 4 * suc j ≡ at + 4 + 4 * j = omega arith in
    ap (word_at bytes) e ∙ word_lies env bytes (at + 4) j ws (omega arith) lie.1
