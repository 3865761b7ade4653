-- One step of the raw run, and what the lowered image makes of it.
use Rattle.std.proofs.Common.{◌≡◌, ℕ, pos, ◌+◌, ◌-◌, ◌*◌, ◌%◌, ◌^◌, ◌<◌, ◌≤◌, Bool, true, false, cond, List, [], ◌∷◌, length, replicate, refl, arith, sym, ◌∙◌, ap, subst, Option, Some, None, ◌⊎◌, inl, inr}
use Rattle.std.specs.Prelude.{All, slice_set, is_some, ◌==◌, ◌||◌, max}
use Rattle.std.specs.List.{list_any, Contains}
use Rattle.std.proofs.Math.Nat.{mul-le-mul_right}
use Rattle.std.proofs.lemmas.Bool.{cond-true, cond-false, and_parts, and_from, or_left, eqb-true, eq-eqb}
use Rattle.std.proofs.lemmas.Bool.Decides.{nat_tests}
use Rattle.std.proofs.lemmas.Int.{ints, of_z-to_z}
use Rattle.std.proofs.lemmas.List.{get_or-set_same}
use Rattle.std.proofs.lemmas.List.Sums.{sum_by-cons}
use Rattle.std.specs.Int.{w32}
use Rattle.scale_base.specs.declared.instruction.Instr.{Instr}
use Rattle.scale_base.specs.declared.instruction.Instr.TheVariants as instr
use Rattle.scale_base.specs.declared.stepping.Class.{Class}
use Rattle.scale_base.specs.declared.stepping.Class.TheVariants as classes
use Rattle.scale_base.specs.declared.stepping.Stepped.{Stepped}
use Rattle.scale_base.specs.declared.stepping.StepEnd.{StepEnd}
use Rattle.scale_base.specs.declared.stepping.StepEnd.TheVariants.{Went, Exited, Trapped}
use Rattle.scale_base.specs.declared.stepping.Trap.{Trap}
use Rattle.scale_base.specs.declared.stepping.TrapKind.TheVariants as traps
use Rattle.scale_base.specs.Image.{Image, loaded_byte, is_word_address, is_in}
use Rattle.scale_base.specs.Layout.{layout_of, is_keyed, can_fetch, in_text, each_byte, fetches_byte, may_fetch}
use Rattle.scale_base.specs.Reading.{instr_of}
use Rattle.scale_base.specs.Arith.{plus, moved_by}
use Rattle.scale_base.specs.State.{Setting, State, reg, with_reg, word_at}
use Rattle.scale_base.specs.Step.{Outcome, step, goes, stops, stepped, jumps, performs, pc_after}
use Rattle.scale_base.specs.Run.{setting_of, starting_level}
use Rattle.scale_base.proofs.Laws.{each_byte_first, step_zero}
use Rattle.rv_encode.specs.Jumps.{distance}
use Rattle.machine_laws.proofs.Laws.{step_length, step_performs}
use Rattle.code_text.specs.Text.{text_of, instr_at}
use Rattle.code_text.specs.Text as texts
use Rattle.graph_runs.proofs.Laws.{word_within, word_bound, word_same, not_written, IsTrap, step_done, went_at}
use Rattle.stored_runs.specs.Meaning.{StepsLead}
use Rattle.stored_runs.proofs.Laws.{leads_none, leads_first, laid, SeeAlike, over, step_alike, hidden, word_by, word_stays}
use Rattle.jump_lists.specs.declared.notes.JumpNote.{JumpNote}
use Rattle.image_lower.specs.FarJumps.{far_jump, far_target}
use Rattle.stored_runs.specs.Cycles.{stepped_cycles}
use Rattle.stub_writer.specs.Stubs.{jump}
use Rattle.image_lower.specs.Trees.{whole_tree, tree_depth}
use Rattle.image_lower.specs.Block.{register, block_len, greatest_depth}
use Rattle.image_lower.specs.Meets.{HoldsTarget, in_block, is_noted_jump, tree_cycles, jumps_taken}
use Rattle.image_lower.specs.TreeRuns.{InstrStands, CodeStands}
use Rattle.image_lower.proofs.FarParts.{far_parts, auipc_low}
use Rattle.image_lower.proofs.TreeSteps.{jump_step, trees_find}
use Rattle.image_lower.proofs.LoweredFrame.{IsFrame}

-- nothing is hidden
abbrev none : ℕ → Bool
none a = false

module _ (image lowered : Image) (notes : List JumpNote) (base levels : ℕ) (input : List ℕ) (f : IsFrame image lowered notes base levels input) where
  abbrev pub one : Setting
  one = setting_of image levels input

  abbrev pub other : Setting
  other = setting_of lowered levels input

  abbrev t : texts.Text
  t = text_of image

  -- the window at the start
  abbrev pub w0 : List ℕ
  w0 = slice_set (replicate 512 0) 511 (starting_level levels image.keyed_segment)

  -- the state of the lowered run
  abbrev pub up : State → State
  up s = over (hidden lowered) (loaded_byte lowered) w0 s

  -- at the second word of a far jump, the register holds what the first has put there
  abbrev pub IsPrepared : State → Type 0
  IsPrepared s = (rx imm : ℕ) → is_some (far_jump image notes s.pc) ≡ true → instr_at t (s.pc - 4) ≡ Some (instr.Auipc rx imm) → 0 < rx → reg s.regs rx ≡ plus (s.pc - 4) imm

  -- what is known of the state of the raw run
  pub record IsRaw (s : State) : Type 0 where
    pub text : (a : ℕ) → list_any (is_in a) image.text ≡ true → s.bytes a ≡ loaded_byte image a
    pub regs : length s.regs ≡ 32
    pub zero : reg s.regs 0 ≡ 0
    pub window : s.window ≡ w0
    pub prepared : IsPrepared s

  -- ---- the word at pc

  in_word : (pc : ℕ) → is_word_address image pc ≡ true → (pc % 4 ≡ 0) × (list_any (is_in pc) image.text ≡ true)
  in_word pc word = let a = and_parts (pc % 4 == 0) (list_any (is_in pc) image.text) word in (eqb-true (pc % 4) 0 a.0, a.1)

  word_kept : (s : State) → IsRaw s → is_word_address image s.pc ≡ true → word_at s.bytes s.pc ≡ word_at (loaded_byte image) s.pc
  word_kept s is word = let w = in_word s.pc word in word_same t one f.text s.bytes is.text s.pc w.1 w.0

  low_pc : (pc : ℕ) → is_word_address image pc ≡ true → pc < 0xFF000000
  low_pc pc word = word_bound t one f.text pc (in_word pc word).1

  -- the text of both is hidden
  laid_word : (bytes : ℕ → ℕ) (pc : ℕ) → is_word_address image pc ≡ true → word_at (laid (hidden lowered) (loaded_byte lowered) bytes) pc ≡ word_at (loaded_byte lowered) pc
  laid_word bytes pc word =
      let w = in_word pc word in
      word_by (laid (hidden lowered) (loaded_byte lowered) bytes) (loaded_byte lowered) pc (λ j lt.
      cond-true (hidden lowered (pc + j)) (loaded_byte lowered (pc + j)) (bytes (pc + j))
      (or_left (in_text (layout_of lowered) (pc + j)) (is_keyed (layout_of lowered) (pc + j)) (f.same_text (pc + j) (word_within t one f.text pc j w.1 w.0 lt))))

  -- a word that may be fetched is one of the text
  fetched_word : (pc : ℕ) → can_fetch (layout_of image) pc ≡ true → is_word_address image pc ≡ true
  unfolding may_fetch
  fetched_word pc e =
      let p = and_parts (pc % 4 == 0) (each_byte (fetches_byte (layout_of image)) pc 4) e in
      let first = each_byte_first (fetches_byte (layout_of image)) pc 4 (omega arith) p.1 in
      let text : in_text (layout_of image) pc ≡ true = unkeyed (in_text (layout_of image) pc) (is_keyed (layout_of image) pc) (f.keyless pc) first in
      and_from (pc % 4 == 0) (list_any (is_in pc) image.text) p.0 (ap (λ rs. list_any (is_in pc) rs) f.text.ranges ∙ text)
    where
      unkeyed : (a b : Bool) → b ≡ false → (a || b) ≡ true → a ≡ true
      unkeyed true b e h = refl
      unkeyed false b e h = let never : ⊥ = cc in absurd never

  -- ---- what a step of the raw run keeps

  no_difference : (pc : ℕ) → SeeAlike (layout_of image) (layout_of image) none pc
  no_difference pc = record { reads = refl; writes = refl; left = f.keyless pc; right = f.keyless pc; read_seen = λ a h. refl; write_seen = λ a h. refl }

  window_kept : (s u : State) (x : Stepped) → step one s ≡ goes x u → can_fetch (layout_of image) s.pc ≡ true → u.window ≡ s.window
  window_kept s u x is fetched =
      let same = step_alike (layout_of image) (layout_of image) levels input s.window none s.bytes s (no_difference s.pc) fetched fetched refl in
      let kept : (step one s).state.window ≡ s.window = ap (λ (o : Outcome). o.state.window) same in
      sym (ap (λ (o : Outcome). o.state.window) is) ∙ kept

  text_kept : (s u : State) (x : Stepped) → step one s ≡ goes x u → IsRaw s → (a : ℕ) → list_any (is_in a) image.text ≡ true → u.bytes a ≡ loaded_byte image a
  text_kept s u x is raw a on = elim (step_done one s) [
    | inl trap ↦ absurd (subst (λ (o : Outcome). IsTrap o.end) is trap)
    | inr done ↦
        let kept = done.1.bytes a (not_written t one f.text a on) in
        sym (ap (λ (o : Outcome). o.state.bytes a) is) ∙ (kept ∙ raw.text a on)
  ]

  read_here : (s : State) (i : Instr) → IsRaw s → is_word_address image s.pc ≡ true → can_fetch (layout_of image) s.pc ≡ true → instr_at t s.pc ≡ Some i → step one s ≡ performs one s i i
  read_here s i raw word fetched e = step_performs one s i fetched (ap instr_of (word_kept s raw word) ∙ e)

  prepared_next : (s u : State) (x : Stepped) → IsRaw s → step one s ≡ goes x u → can_fetch (layout_of image) s.pc ≡ true → is_word_address image s.pc ≡ true
      → (is_some (far_jump image notes x.next) ≡ true → x.pc + 4 ≡ x.next) → IsPrepared u
  prepared_next s u x raw is fetched word pair rx imm far before some =
      let end_is : (step one s).end ≡ Went x = ap (λ (o : Outcome). o.end) is in
      let at = went_at one s x end_is in
      let next : u.pc ≡ x.next = sym (ap (λ (o : Outcome). o.state.pc) is) ∙ at.1 in
      let four = pair (ap (λ pc. is_some (far_jump image notes pc)) (sym next) ∙ far) in
      let first = at.0 in
      let back : u.pc - 4 ≡ s.pc = omega (arith, next, four, first) in
      let here : instr_at t s.pc ≡ Some (instr.Auipc rx imm) = ap (instr_at t) (sym back) ∙ before in
      let does = read_here s (instr.Auipc rx imm) raw word fetched here in
      let regs : with_reg s.regs rx (plus s.pc imm) ≡ u.regs = ap (λ (o : Outcome). o.state.regs) (sym does ∙ is) in
      let low = auipc_low (word_at t.bytes s.pc) rx imm here in
      let long = raw.regs in
      let put : reg (with_reg s.regs rx (plus s.pc imm)) rx ≡ plus s.pc imm = written s.regs rx (plus s.pc imm) some (omega (arith, low, long)) in
      ap (λ r. reg r rx) (sym regs) ∙ (put ∙ ap (λ pc. plus pc imm) (sym back))
    where
      written : (regs : List ℕ) (r v : ℕ) → 0 < r → r < length regs → reg (with_reg regs r v) r ≡ v
      written regs r v some lt = ap (λ rs. reg rs r) (cond-false (r == 0) regs (slice_set regs r v) (grind (arith, nat_tests))) ∙ get_or-set_same regs r v 0 lt

  pub raw_next : (s u : State) (x : Stepped) → IsRaw s → step one s ≡ goes x u → can_fetch (layout_of image) s.pc ≡ true → (is_some (far_jump image notes x.next) ≡ true → x.pc + 4 ≡ x.next) → IsRaw u
  raw_next s u x raw is fetched pair = record {
    text = text_kept s u x is raw;
    regs = sym (ap (λ (o : Outcome). length o.state.regs) is) ∙ (step_length one s ∙ raw.regs);
    zero = sym (ap (λ (o : Outcome). reg o.state.regs 0) is) ∙ step_zero one s raw.zero;
    window = window_kept s u x is fetched ∙ raw.window;
    prepared = prepared_next s u x raw is fetched (fetched_word s.pc fetched) pair;
  }

  -- ---- a step and its leg

  pub record IsPassed (s : State) : Type 0 where
    pub x : Stepped
    pub u : State
    pub step_is : step one s ≡ goes x u
    pub fetched : can_fetch (layout_of image) s.pc ≡ true
    pub steps : List Stepped
    pub leads : StepsLead other (up s) steps (up u)
    pub within : (costs : Class → ℕ) → stepped_cycles costs steps ≤ stepped_cycles costs (x ∷ []) + jumps_taken notes (x ∷ []) * tree_cycles costs (greatest_depth notes)

  abbrev pub IsStop : StepEnd → Type 0
  IsStop (Went x) = ⊥
  IsStop (Exited x status) = Unit {0}
  IsStop (Trapped trap) = Unit {0}

  -- how a step ended that doesn't go on: the lowered image's ends so too
  pub record IsEnded (s : State) : Type 0 where
    pub end : StepEnd
    pub u : State
    pub ends : step one s ≡ record { end = end; state = u }
    pub ends_too : step other (up s) ≡ record { end = end; state = up u }
    pub stops : IsStop end

  -- it trapped in the block
  pub record IsLost (s : State) : Type 0 where
    pub trap : Trap
    pub ends : step one s ≡ record { end = Trapped trap; state = s }
    pub inside : in_block base (block_len image notes) s.pc ≡ true

  -- ---- an instruction that stays as it is

  no_more : (costs : Class → ℕ) (x : Stepped) (n : ℕ) → stepped_cycles costs (x ∷ []) ≤ stepped_cycles costs (x ∷ []) + n
  no_more costs x n = omega arith

  by_end : (s : State) (e : StepEnd) (u : State) → can_fetch (layout_of image) s.pc ≡ true → step one s ≡ record { end = e; state = u } → step other (up s) ≡ record { end = e; state = up u } → IsPassed s ⊎ IsEnded s
  by_end s (Went x) u fetched is is_too = inl (record {
    x = x;
    u = u;
    step_is = is;
    fetched = fetched;
    steps = x ∷ [];
    leads = leads_first other (up s) (up u) (up u) x [] is_too (leads_none other (up u));
    within = λ costs. no_more costs x (jumps_taken notes (x ∷ []) * tree_cycles costs (greatest_depth notes));
  })
  by_end s (Exited x status) u fetched is is_too = inr (record { end = Exited x status; u = u; ends = is; ends_too = is_too; stops = tt })
  by_end s (Trapped trap) u fetched is is_too = inr (record { end = Trapped trap; u = u; ends = is; ends_too = is_too; stops = tt })

  stays : (s : State) → IsRaw s → can_fetch (layout_of image) s.pc ≡ true → can_fetch (layout_of lowered) s.pc ≡ true → is_noted_jump notes s.pc ≡ false → far_jump image notes s.pc ≡ None → IsPassed s ⊎ IsEnded s
  stays s raw fetched too noted far =
      let word = fetched_word s.pc fetched in
      let same = step_alike (layout_of image) (layout_of lowered) levels input w0 (hidden lowered) (loaded_byte lowered) s (f.alike s.pc) fetched too
      (laid_word s.bytes s.pc word ∙ (f.plain s.pc word noted far ∙ sym (word_kept s raw word))) in
      by_end s (step one s).end (step one s).state fetched refl same

  -- ---- a far jump

  jumped : (env : Setting) (s : State) (i : Instr) (rd from to : ℕ) → from ≡ to → to % 4 ≡ 0 → jumps env s i rd from ≡ goes (stepped env s i false None to) (record s { pc = to; regs = with_reg s.regs rd (pc_after s) })
  jumped env s i rd from to e even = ap (jumps env s i rd) e ∙ cond-true (to % 4 == 0) _ _ (eq-eqb (to % 4) 0 even)

  one_cycle : (costs : Class → ℕ) (x : Stepped) → stepped_cycles costs (x ∷ []) ≡ costs x.class
  one_cycle costs x = omega (arith, sum_by-cons (λ y. costs y.class) x [])

  far_to : (pc to : ℕ) → pc < 2 ^ 32 → to < 2 ^ 32 → moved_by pc (distance pc to) ≡ to
  far_to pc to low small = ap (plus pc) (of_z-to_z w32 ((to + (2 ^ 32 - pc)) % 2 ^ 32) (omega arith)) ∙ omega arith

  passes_far : (s : State) (i : Instr) → IsRaw s → can_fetch (layout_of image) s.pc ≡ true → can_fetch (layout_of lowered) s.pc ≡ true → is_noted_jump notes s.pc ≡ false → far_jump image notes s.pc ≡ Some i → IsPassed s
  passes_far s i raw fetched too noted e =
      let word = fetched_word s.pc fetched in
      let p = (far_parts image notes s.pc i e).far in
      let to = far_target (s.pc - 4) p.imm p.offset in
      let low = low_pc s.pc word in
      let small = word_bound t one f.text to p.inside in
      let old = instr.Jalr p.rd p.rx p.offset in
      let new = instr.Jal p.rd (distance s.pc to) in
      let held : reg s.regs p.rx ≡ plus (s.pc - 4) p.imm = raw.prepared p.rx p.imm (ap is_some e) p.before p.some in
      let there = ap (λ v. let u = moved_by v p.offset in u - u % 2) held in
      let first : step one s ≡ goes (stepped one s old false None to) (record s { pc = to; regs = with_reg s.regs p.rd (pc_after s) }) =
      read_here s old raw word fetched p.here ∙ jumped one s old p.rd _ to there p.even in
      let reads : instr_of (word_at (up s).bytes s.pc) ≡ Some new = ap instr_of (laid_word s.bytes s.pc word) ∙ (f.near s.pc i word noted e ∙ ap (λ j. Some j) (sym p.is)) in
      let second : step other (up s) ≡ goes (stepped other (up s) new false None to) (record (up s) { pc = to; regs = with_reg s.regs p.rd (pc_after s) }) =
      step_performs other (up s) new too reads ∙ jumped other (up s) new p.rd (moved_by s.pc (distance s.pc to)) to (far_to s.pc to (omega (arith, low)) (omega (arith, small))) p.even in
      record {
        x = stepped one s old false None to;
        u = record s { pc = to; regs = with_reg s.regs p.rd (pc_after s) };
        step_is = first;
        fetched = fetched;
        steps = stepped other (up s) new false None to ∷ [];
        leads = leads_first other (up s) (record (up s) { pc = to; regs = with_reg s.regs p.rd (pc_after s) }) _ _ [] second (leads_none other (record (up s) { pc = to; regs = with_reg s.regs p.rd (pc_after s) }));
        within = λ costs. omega (arith, one_cycle costs (stepped one s old false None to), one_cycle costs (stepped other (up s) new false None to));
      }

  -- ---- a noted jump

  one_stays : (bytes : ℕ → ℕ) (at : ℕ) (i : Instr) → InstrStands other (loaded_byte lowered) at i → InstrStands other (laid (hidden lowered) (loaded_byte lowered) bytes) at i
  one_stays bytes at i h = record { fetched = h.fetched; room = h.room; encodes = (h.encodes.0, word_stays lowered levels input bytes at h.fetched ∙ h.encodes.1) }

  code_stays : (bytes : ℕ → ℕ) (at : ℕ) (is : List Instr) → CodeStands other (loaded_byte lowered) at is → CodeStands other (laid (hidden lowered) (loaded_byte lowered) bytes) at is
  code_stays bytes at [] h = tt
  code_stays bytes at (i ∷ is) h = (one_stays bytes at i h.0, code_stays bytes (at + 4) is h.1)

  deeper : (d e alu branch leaves : ℕ) → d ≤ e → d * (alu + branch) + leaves ≤ e * (alu + branch) + leaves
  deeper d e alu branch leaves le = let more : d * (alu + branch) ≤ e * (alu + branch) = mul-le-mul_right (alu + branch) le in omega (arith, more)

  at_listed : (P : JumpNote → Type 0) (xs : List JumpNote) (n : JumpNote) → All P xs → Contains xs n → P n
  at_listed P xs n h c = subst P c.2 (h c.0 n c.1)

  counted : (x : Stepped) → is_noted_jump notes x.pc ≡ true → jumps_taken notes (x ∷ []) ≡ 1
  counted x e =
      sum_by-cons (λ (y : Stepped). cond (is_noted_jump notes y.pc) 1 0) x [] ∙ ap (λ b. cond b 1 0 + 0) e

  returned : (v : ℕ) → v % 4 ≡ 0 → v < 2 ^ 32 → (let to = moved_by v (pos 0) in to - to % 2) ≡ v
  returned v even small = omega (arith, ints)

  passes_tree : (s : State) → IsRaw s → can_fetch (layout_of image) s.pc ≡ true → All (HoldsTarget image notes base s) notes → is_noted_jump notes s.pc ≡ true → IsPassed s
  passes_tree s raw fetched holds noted =
      let word = fetched_word s.pc fetched in
      let tree = f.trees s.pc noted in
      let rs = register image tree.note in
      let to = reg s.regs rs in
      let listed : Contains tree.note.targets to = at_listed (HoldsTarget image notes base s) notes tree.note holds tree.listed (sym tree.at_is) in
      let good : (to % 4 ≡ 0) × (to < 2 ^ 32) = subst (λ u. (u % 4 ≡ 0) × (u < 2 ^ 32)) listed.2 (tree.words listed.0 to listed.1) in
      let old = instr.Jalr 0 rs (pos 0) in
      let first : step one s ≡ goes (stepped one s old false None to) (record s { pc = to }) =
      read_here s old raw word fetched tree.reads ∙ jumped one s old 0 _ to (returned to good.0 good.1) good.0 in
      let there : State = record (up s) { pc = tree.tree } in
      let y = stepped other (up s) (jump s.pc tree.tree) false None tree.tree in
      let second = jump_step other (up s) s.pc tree.tree refl (one_stays s.bytes s.pc (jump s.pc tree.tree) tree.jumps) tree.small tree.even in
      let third = trees_find other there rs to tree.note.targets (record {
        register = (tree.some, tree.few);
        regs = raw.regs;
        zero = raw.zero;
        words = tree.words;
        listed = listed;
        holds = refl;
        room = tree.room;
        code = code_stays s.bytes tree.tree (whole_tree rs tree.tree tree.note.targets) tree.code;
      }) in
      record {
        x = stepped one s old false None to;
        u = record s { pc = to };
        step_is = first;
        fetched = fetched;
        steps = y ∷ third.steps;
        leads = leads_first other (up s) there (record (up s) { pc = to }) y third.steps second third.leads;
        within = λ costs.
            let a = sum_by-cons (λ (z : Stepped). costs z.class) y third.steps in
            let b = third.within costs in
            let c = one_cycle costs (stepped one s old false None to) in
            let d = counted (stepped one s old false None to) noted in
            let e : jumps_taken notes (stepped one s old false None to ∷ []) * tree_cycles costs (greatest_depth notes) ≡ 1 * tree_cycles costs (greatest_depth notes) = ap (λ n. n * tree_cycles costs (greatest_depth notes)) d in
            let g = deeper (tree_depth 32 tree.note.targets) (greatest_depth notes) (costs classes.Alu) (max (costs classes.Taken) (costs classes.Untaken)) (2 * costs classes.Alu + costs classes.Jump) tree.depth in
            omega (arith, a, b, c, e, g);
      }

  -- ---- each step

  not_fetched : (env : Setting) (s : State) → can_fetch env.layout s.pc ≡ false → step env s ≡ stops s traps.FetchFault s.pc
  unfolding step
  not_fetched env s e = cond-false (can_fetch env.layout s.pc) _ _ e

  passes_word : (s : State) → IsRaw s → can_fetch (layout_of image) s.pc ≡ true → is_noted_jump notes s.pc ≡ false → (o : Option Instr) → far_jump image notes s.pc ≡ o → IsPassed s ⊎ IsEnded s
  passes_word s raw fetched noted None far = stays s raw fetched (f.fetched_too s.pc (fetched_word s.pc fetched)) noted far
  passes_word s raw fetched noted (Some i) far = inl (passes_far s i raw fetched (f.fetched_too s.pc (fetched_word s.pc fetched)) noted far)

  pub passes : (s : State) → IsRaw s → All (HoldsTarget image notes base s) notes → IsPassed s ⊎ IsEnded s ⊎ IsLost s
  passes s raw holds = by_fetch (can_fetch (layout_of image) s.pc) refl
    where
      widen : IsPassed s ⊎ IsEnded s → IsPassed s ⊎ IsEnded s ⊎ IsLost s
      widen (inl p) = inl p
      widen (inr e) = inr (inl e)

      by_note : can_fetch (layout_of image) s.pc ≡ true → (b : Bool) → is_noted_jump notes s.pc ≡ b → IsPassed s ⊎ IsEnded s ⊎ IsLost s
      by_note fetched true noted = inl (passes_tree s raw fetched holds noted)
      by_note fetched false noted = widen (passes_word s raw fetched noted (far_jump image notes s.pc) refl)

      by_block : can_fetch (layout_of image) s.pc ≡ false → (b : Bool) → in_block base (block_len image notes) s.pc ≡ b → IsPassed s ⊎ IsEnded s ⊎ IsLost s
      by_block off true inside = inr (inr (record { trap = record { kind = traps.FetchFault; at = s.pc }; ends = not_fetched one s off; inside = inside }))
      by_block off false outside =
          inr (inl (record { end = Trapped (record { kind = traps.FetchFault; at = s.pc }); u = s; ends = not_fetched one s off; ends_too = not_fetched other (up s) (f.unfetched s.pc outside off); stops = tt }))

      by_fetch : (b : Bool) → can_fetch (layout_of image) s.pc ≡ b → IsPassed s ⊎ IsEnded s ⊎ IsLost s
      by_fetch true fetched = by_note fetched (is_noted_jump notes s.pc) refl
      by_fetch false off = by_block off (in_block base (block_len image notes) s.pc) refl
