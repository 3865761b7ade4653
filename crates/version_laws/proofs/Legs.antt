-- One step of the original run, and the step of the versioned run that stands for it.
use Rattle.std.proofs.Common.{◌≡◌, ℕ, ◌+◌, ◌-◌, ◌%◌, ◌^◌, ◌<◌, ◌≤◌, Bool, true, false, cond, List, [], ◌∷◌, refl, arith, sym, ◌∙◌, ap, subst, Some, None, ◌⊎◌, inl, inr, pos, negsuc}
use Rattle.std.specs.Prelude.{◌==◌, ◌||◌, All, nat_lt, slice_set, if◌then◌else◌, ◌&&◌}
use Rattle.std.specs.List.{list_any}
use Rattle.std.proofs.Math.Path.{fun_ext}
use Rattle.std.proofs.lemmas.Bool.{cond-true, cond-false, and_parts, and_from, or_left, or_from, eq-eqb, eqb-true}
use Rattle.std.proofs.lemmas.Bool.Decides.{nat_tests, Decides-int_eq}
use Rattle.std.proofs.lemmas.Int.{ints, of_z-to_z}
use Rattle.std.proofs.lemmas.List.{get_or-set_same, set-set}
use Rattle.std.proofs.lemmas.List.Elements.{All-nil, All-cons}
use Rattle.std.specs.Ordering.{int_eq}
use Rattle.std.specs.Int.{w32}
use Rattle.scale_base.specs.declared.instruction.Instr.{Instr}
use Rattle.scale_base.specs.declared.instruction.Instr.TheVariants as instr
use Rattle.scale_base.specs.declared.instruction.ImmOp.TheVariants.{Addi}
use Rattle.scale_base.specs.declared.stepping.Move.TheVariants.{Local, Return}
use Rattle.scale_base.specs.declared.stepping.Stepped.{Stepped}
use Rattle.scale_base.specs.declared.stepping.Trap.{Trap}
use Rattle.scale_base.specs.declared.stepping.StepEnd.{StepEnd}
use Rattle.scale_base.specs.declared.stepping.StepEnd.TheVariants.{Went, Exited, Trapped}
use Rattle.scale_base.specs.declared.stepping.TrapKind.TheVariants as traps
use Rattle.scale_base.specs.Image.{Image, loaded_byte, is_word_address, is_in}
use Rattle.scale_base.specs.Layout.{layout_of, is_keyed, can_fetch, in_text, each_byte, fetches_byte, may_fetch}
use Rattle.scale_base.specs.Reading.{instr_of}
use Rattle.scale_base.specs.Arith.{plus, moved_by, is_taken, unsigned, imm_result}
use Rattle.scale_base.specs.State.{Setting, State, reg, word_at}
use Rattle.scale_base.specs.Step.{Outcome, step, goes, stops, stepped, branches, performs, jumps, move_of}
use Rattle.scale_base.proofs.Laws.{each_byte_first, each_byte_more, each_byte_none, word_back}
use Rattle.rv_encode.specs.Jumps.{distance}
use Rattle.machine_laws.proofs.Laws.{step_performs}
use Rattle.code_text.specs.Text.{text_of}
use Rattle.graph_runs.proofs.Laws.{word_within, word_same, went_at, exited_at, step_done, IsTrap, EndsBy}
use Rattle.stored_runs.proofs.Laws.{laid, SeeAlike, over, seen, step_alike, hidden, word_by, word_stays, leads_none, leads_first}
use Rattle.graph_runs.specs.ReturnAddresses.{returned, returns_by, returns_after}
use Rattle.stored_runs.specs.Meaning.{StepsLead}
use Rattle.stub_writer.specs.Fragments.{hi, lo}
use Rattle.stub_writer.specs.Stubs.{jump}
use Rattle.image_lower.specs.TreeRuns.{InstrStands, CodeStands}
use Rattle.loop_versions.specs.declared.pieces.Piece.{Piece}
use Rattle.loop_versions.specs.declared.pieces.Piece.TheVariants.{Copied, Branched, Jumped, Bridge, Guard, Entered, Returned}
use Rattle.loop_versions.specs.declared.pieces.Site.{Site}
use Rattle.loop_versions.specs.Pieces.{origin_of, piece_at, site_at, read, in_extra, is_site, extra_len}
use Rattle.loop_versions.specs.Fitting.{origin, begins, calls_at, is_entered, is_returned, is_plain}
use Rattle.loop_versions.specs.MovedSteps.{moved_to}
use Rattle.loop_versions.specs.Follows.{in_block, is_extra_step}
use Rattle.loop_versions.proofs.Laws.{branch_code, branch_of, copied_code, copy_of, IsBranchOf, IsCopyOf, IsJumpOf, jump_of, jump_step, len_some, plain_instructions_move, IsCallOf, call_of, IsReturnOf, return_of, begins_on, begins_more, begins_first, off_calls, some_entered, found_any, set_step}
use Rattle.version_laws.proofs.Frame.{IsPieceAt, IsFrame}
use Rattle.version_laws.proofs.States as states
use Rattle.version_laws.proofs.States.{is_extra}
use Rattle.version_laws.proofs.Pairs.{IsPair}
use Rattle.version_laws.proofs.Pairs.IsPair.{as_it_was, in_copy, at_call, at_return}

-- how the step of the versioned run ends where that of the original doesn't go on
abbrev pub EndsAlike : ℕ → StepEnd → StepEnd → Type 0
EndsAlike v (Exited x status) (Exited y other) = (other ≡ status) × (y.class ≡ x.class) × (y.pc ≡ v)
EndsAlike v (Trapped trap) (Trapped other) = other.kind ≡ trap.kind
EndsAlike v e g = ⊥

-- a plain instruction is no call and no return
pub plain_local : (i : Instr) → is_plain (Some i) ≡ true → move_of i ≡ Local
plain_local (instr.Lui rd imm) e = refl
plain_local (instr.Auipc rd imm) e = let never : ⊥ = cc in absurd never
plain_local (instr.Jal rd offset) e = let never : ⊥ = cc in absurd never
plain_local (instr.Jalr rd rs1 offset) e = let never : ⊥ = cc in absurd never
plain_local (instr.Branch op rs1 rs2 offset) e = let never : ⊥ = cc in absurd never
plain_local (instr.Load op rd rs1 offset) e = refl
plain_local (instr.Store op rs1 rs2 offset) e = refl
plain_local (instr.Imm op rd rs1 imm) e = refl
plain_local (instr.Reg op rd rs1 rs2) e = refl
plain_local (instr.Fence rd rs1 imm) e = refl
plain_local instr.Ecall e = refl
plain_local instr.Ebreak e = let never : ⊥ = cc in absurd never

module _ (image versioned : Image) (pieces : List Piece) (sites : List Site) (base levels : ℕ) (input : List ℕ) (f : IsFrame image versioned pieces sites base levels input) where
  abbrev one : Setting
  one = states.one image versioned pieces sites base levels input f

  abbrev other : Setting
  other = states.other image versioned pieces sites base levels input f

  abbrev w0 : List ℕ
  w0 = states.w0 image versioned pieces sites base levels input f

  abbrev up : ℕ → State → State
  up v s = states.up image versioned pieces sites base levels input f v s

  abbrev IsRaw : State → Type 0
  IsRaw s = states.IsRaw image versioned pieces sites base levels input f s

  abbrev IsReal : ℕ → Type 0
  IsReal v = states.IsReal image versioned pieces sites base levels input f v

  abbrev in_code : ℕ → Bool
  in_code v = in_block image versioned pieces sites base v

  abbrev is_extra_at : Stepped → Bool
  is_extra_at x = is_extra_step image versioned pieces sites base x

  -- ---- a step, and the one that stands for it

  abbrev IsExtra : Stepped → Type 0
  IsExtra x = is_extra_at x ≡ true

  abbrev calls : ℕ → List ℕ
  calls v = calls_at pieces base v

  -- the calls that are open at an address are the first ones of these
  abbrev AreOpen : ℕ → List ℕ → Type 0
  AreOpen v rs = begins (calls v) rs ≡ true

  -- where calls are inlined, the step of the original keeps to its open calls
  abbrev pub KeepsCalls : ℕ → Stepped → Type 0
  KeepsCalls v x = list_any is_entered pieces ≡ true → (rs : List ℕ) × (after : List ℕ) × AreOpen v rs × (returns_after rs x ≡ Some after)

  pub record IsPassed (s : State) (v : ℕ) : Type 0 where
    pub x : Stepped
    pub u : State
    pub step_is : step one s ≡ goes x u
    pub fetched : can_fetch (layout_of image) s.pc ≡ true
    -- steps that stand for none, and the one that stands for it
    pub front : List Stepped
    pub t : State
    pub leads : StepsLead other (up v s) front t
    pub extra : All IsExtra front
    pub y : Stepped
    pub next : ℕ
    pub step_too : step other t ≡ goes y (up next u)
    pub class : y.class ≡ x.class
    pub pair : IsPair image versioned pieces sites base x y
    pub real : is_extra_at y ≡ false
    pub stands : in_code x.next ≡ false → KeepsCalls v x → origin pieces base next ≡ u.pc
    pub opens : in_code x.next ≡ false → (rs after : List ℕ) → AreOpen v rs → returns_after rs x ≡ Some after → AreOpen next after

  pub record IsEnded (s : State) (v : ℕ) : Type 0 where
    pub end : StepEnd
    pub u : State
    pub ends : step one s ≡ record { end = end; state = u }
    pub end_too : StepEnd
    pub u_too : State
    pub ends_too : step other (up v s) ≡ record { end = end_too; state = u_too }
    pub output : u_too.output ≡ u.output
    pub alike : EndsAlike v end end_too
    pub real : (y : Stepped) → y.pc ≡ v → is_extra_at y ≡ false

  -- it trapped at a return of an inlined call
  pub record IsLost (s : State) : Type 0 where
    pub trap : Trap
    pub ends : step one s ≡ record { end = Trapped trap; state = s }
    pub at_return : list_any (is_returned s.pc) pieces ≡ true

  -- it is no step of a site, a bridge or a guard
  real_text : (s : State) (x : Stepped) → in_code s.pc ≡ false → site_at sites s.pc ≡ None → x.pc ≡ s.pc → is_extra_at x ≡ false
  real_text s x outside site here =
      or_from (is_site sites x.pc) (in_extra base pieces x.pc)
      (ap (is_site sites) here ∙ f.no_site s.pc site)
      (ap (in_extra base pieces) here ∙ (f.no_piece s.pc outside).1)

  real_piece : (v : ℕ) (p : Piece) (x : Stepped) → IsPieceAt image versioned pieces sites base levels input v p → extra_len p ≡ 0 → x.pc ≡ v → is_extra_at x ≡ false
  real_piece v p x is zero_long here =
      let some = len_some p in
      states.real_inside image versioned pieces sites base levels input f v p x is (omega (arith, here, zero_long)) (omega (arith, here, some))

  -- a step that is no call and no return leaves the calls open
  local_calls : (rs after : List ℕ) (x : Stepped) → x.moved ≡ Local → returns_after rs x ≡ Some after → rs ≡ after
  local_calls rs after x moved e = let same : Some rs ≡ Some after = sym (ap (λ m. returns_by m rs x) moved) ∙ e in cc

  stays_open : (v next : ℕ) (rs after : List ℕ) (x : Stepped) → x.moved ≡ Local → begins (calls next) (calls v) ≡ true → AreOpen v rs → returns_after rs x ≡ Some after → AreOpen next after
  stays_open v next rs after x moved more opened e =
      subst (λ (r : List ℕ). begins (calls next) r ≡ true) (local_calls rs after x moved e) (begins_on (calls next) (calls v) rs more opened)

  -- ---- the word at the pc of the original

  in_word : (pc : ℕ) → is_word_address image pc ≡ true → (pc % 4 ≡ 0) × (list_any (is_in pc) image.text ≡ true)
  in_word pc word = (states.even_word image versioned pieces sites base levels input f pc word, (and_parts (pc % 4 == 0) (list_any (is_in pc) image.text) word).1)

  word_kept : (s : State) → IsRaw s → is_word_address image s.pc ≡ true → word_at s.bytes s.pc ≡ word_at (loaded_byte image) s.pc
  word_kept s is word = let w = in_word s.pc word in word_same (text_of image) one f.text s.bytes is.text s.pc w.1 w.0

  in_layout : (a : ℕ) → list_any (is_in a) image.text ≡ in_text (layout_of image) a
  in_layout a = ap (λ rs. list_any (is_in a) rs) f.text.ranges

  pub fetched_word : (pc : ℕ) → can_fetch (layout_of image) pc ≡ true → is_word_address image pc ≡ true
  unfolding may_fetch
  fetched_word pc e =
      let p = and_parts (pc % 4 == 0) (each_byte (fetches_byte (layout_of image)) pc 4) e in
      let first = each_byte_first (fetches_byte (layout_of image)) pc 4 (omega arith) p.1 in
      let text : in_text (layout_of image) pc ≡ true = unkeyed (in_text (layout_of image) pc) (is_keyed (layout_of image) pc) (f.keyless pc) first in
      and_from (pc % 4 == 0) (list_any (is_in pc) image.text) p.0 (in_layout pc ∙ text)
    where
      unkeyed : (a b : Bool) → b ≡ false → (a || b) ≡ true → a ≡ true
      unkeyed true b e h = refl
      unkeyed false b e h = let never : ⊥ = cc in absurd never

  word_fetched : (pc : ℕ) → is_word_address image pc ≡ true → can_fetch (layout_of image) pc ≡ true
  unfolding may_fetch
  word_fetched pc word =
      let w = in_word pc word in
      let byte : (j : ℕ) → j < 4 → fetches_byte (layout_of image) (pc + j) ≡ true = λ j lt.
      or_left (in_text (layout_of image) (pc + j)) (is_keyed (layout_of image) (pc + j)) (sym (in_layout (pc + j)) ∙ word_within (text_of image) one f.text pc j w.1 w.0 lt) in
      and_from (pc % 4 == 0) (each_byte (fetches_byte (layout_of image)) pc 4) (eq-eqb (pc % 4) 0 w.0) (four (fetches_byte (layout_of image)) pc byte)
    where
      four : (test : ℕ → Bool) (at : ℕ) → ((j : ℕ) → j < 4 → test (at + j) ≡ true) → each_byte test at 4 ≡ true
      four test at h =
          each_byte_more test at 3 (each_byte_more test at 2 (each_byte_more test at 1 (each_byte_more test at 0 (each_byte_none test at) (h 0 (omega arith))) (h 1 (omega arith))) (h 2 (omega arith))) (h 3 (omega arith))

  seen_text : (a : ℕ) → in_text (layout_of versioned) a ≡ true → hidden versioned a ≡ true
  seen_text a on = or_left (in_text (layout_of versioned) a) (is_keyed (layout_of versioned) a) on

  read_here : (s : State) (i : Instr) → IsRaw s → is_word_address image s.pc ≡ true → read image s.pc ≡ Some i → step one s ≡ performs one s i i
  read_here s i raw word e = step_performs one s i (word_fetched s.pc word) (ap instr_of (word_kept s raw word) ∙ e)

  -- ---- an instruction that stays as it is

  laid_word : (bytes : ℕ → ℕ) (pc : ℕ) → is_word_address image pc ≡ true → word_at (laid (hidden versioned) (loaded_byte versioned) bytes) pc ≡ word_at (loaded_byte versioned) pc
  laid_word bytes pc word = word_stays versioned levels input bytes pc (f.fetched_too pc word)

  by_end : (s : State) (e : StepEnd) (u : State) → in_code s.pc ≡ false → site_at sites s.pc ≡ None → can_fetch (layout_of image) s.pc ≡ true → step one s ≡ record { end = e; state = u } → step other (up s.pc s) ≡ record { end = e; state = up u.pc u } → IsPassed s s.pc ⊎ IsEnded s s.pc
  by_end s (Went x) u outside site fetched is is_too =
      let at = went_at one s x (ap (λ (o : Outcome). o.end) is) in
      let next : u.pc ≡ x.next = sym (ap (λ (o : Outcome). o.state.pc) is) ∙ at.1 in
      inl (record {
        x = x;
        u = u;
        step_is = is;
        fetched = fetched;
        front = [];
        t = up s.pc s;
        leads = leads_none other (up s.pc s);
        extra = All-nil IsExtra;
        y = x;
        next = u.pc;
        step_too = is_too;
        class = refl;
        pair = as_it_was refl (ap in_code at.0 ∙ outside) (ap (site_at sites) at.0 ∙ site);
        real = real_text s x outside site at.0;
        stands = λ off keeps. states.origin_none image versioned pieces sites base levels input f u.pc (f.no_piece u.pc (ap in_code next ∙ off)).0;
        opens = λ off rs after opened e. ap (λ (cs : List ℕ). begins cs after) (off_calls pieces base u.pc (f.no_piece u.pc (ap in_code next ∙ off)).0);
      })
  by_end s (Exited x status) u outside site fetched is is_too = inr (record {
    end = Exited x status;
    u = u;
    ends = is;
    end_too = Exited x status;
    u_too = up u.pc u;
    ends_too = is_too;
    output = refl;
    alike = (refl, refl, exited_at one s x status (ap (λ (o : Outcome). o.end) is));
    real = λ y here. real_text s y outside site here;
  })
  by_end s (Trapped trap) u outside site fetched is is_too = inr (record { end = Trapped trap; u = u; ends = is; end_too = Trapped trap; u_too = up u.pc u; ends_too = is_too; output = refl; alike = refl; real = λ y here. real_text s y outside site here })

  not_fetched : (env : Setting) (s : State) → can_fetch env.layout s.pc ≡ false → step env s ≡ stops s traps.FetchFault s.pc
  unfolding step
  not_fetched env s e = cond-false (can_fetch env.layout s.pc) _ _ e

  stays : (s : State) → IsRaw s → in_code s.pc ≡ false → site_at sites s.pc ≡ None → IsPassed s s.pc ⊎ IsEnded s s.pc
  stays s raw outside site = by_fetch (can_fetch (layout_of image) s.pc) refl
    where
      by_fetch : (b : Bool) → can_fetch (layout_of image) s.pc ≡ b → IsPassed s s.pc ⊎ IsEnded s s.pc
      by_fetch true fetched =
          let word = fetched_word s.pc fetched in
          let same = step_alike (layout_of image) (layout_of versioned) levels input w0 (hidden versioned) (loaded_byte versioned) s (f.alike s.pc) fetched (f.fetched_too s.pc word)
          (laid_word s.bytes s.pc word ∙ (f.plain s.pc word site ∙ sym (word_kept s raw word))) in
          by_end s (step one s).end (step one s).state outside site fetched refl same
      by_fetch false off = inr (record {
        end = Trapped (record { kind = traps.FetchFault; at = s.pc });
        u = s;
        ends = not_fetched one s off;
        end_too = Trapped (record { kind = traps.FetchFault; at = s.pc });
        u_too = up s.pc s;
        ends_too = not_fetched other (up s.pc s) (f.unfetched s.pc outside off);
        output = refl;
        alike = refl;
        real = λ y here. real_text s y outside site here;
      })

  -- ---- an instruction that is copied

  -- the bytes of the original's text, and else those of the versioned image
  abbrev mixed : ℕ → ℕ
  mixed a = cond (in_text (layout_of image) a) (loaded_byte image a) (loaded_byte versioned a)

  -- the state with these bytes in the text of the versioned image
  abbrev mid : State → State
  mid s = over (hidden versioned) mixed w0 s

  laid_twice : (bytes : ℕ → ℕ) → laid (hidden versioned) (loaded_byte versioned) (laid (hidden versioned) mixed bytes) ≡ laid (hidden versioned) (loaded_byte versioned) bytes
  laid_twice bytes = fun_ext (λ a. twice (hidden versioned a) (loaded_byte versioned a) (mixed a) (bytes a))
    where
      twice : (b : Bool) (x y z : ℕ) → cond b x (cond b y z) ≡ cond b x z
      twice true x y z = refl
      twice false x y z = refl

  up_of_mid : (v : ℕ) (u : State) → over (hidden versioned) (loaded_byte versioned) w0 (record (mid u) { pc = v }) ≡ up v u
  up_of_mid v u = ap (λ (b : ℕ → ℕ). record (up v u) { bytes = b }) (laid_twice u.bytes)

  mixed_text : (s : State) → IsRaw s → is_word_address image s.pc ≡ true → word_at (mid s).bytes s.pc ≡ word_at s.bytes s.pc
  mixed_text s raw word =
      let w = in_word s.pc word in
      word_by (mid s).bytes s.bytes s.pc (λ j lt.
      let a = s.pc + j in
      let on = word_within (text_of image) one f.text s.pc j w.1 w.0 lt in
      cond-true (hidden versioned a) (mixed a) (s.bytes a) (seen_text a (f.same_text a on))
      ∙ (cond-true (in_text (layout_of image) a) (loaded_byte image a) (loaded_byte versioned a) (sym (in_layout a) ∙ on)
      ∙ sym (raw.text a on)))

  mixed_block : (bytes : ℕ → ℕ) (v : ℕ) (p : Piece) → IsPieceAt image versioned pieces sites base levels input v p → word_at (laid (hidden versioned) mixed bytes) v ≡ word_at (loaded_byte versioned) v
  mixed_block bytes v p is =
      let some = len_some p in
      word_by (laid (hidden versioned) mixed bytes) (loaded_byte versioned) v (λ j lt.
      let a = v + j in
      let t = is.text a (omega arith) (omega (arith, lt, some)) in
      cond-true (hidden versioned a) (mixed a) (bytes a) (seen_text a t.0)
      ∙ cond-false (in_text (layout_of image) a) (loaded_byte image a) (loaded_byte versioned a) t.1)

  no_change : (v : ℕ) → SeeAlike (layout_of versioned) (layout_of versioned) (hidden versioned) v
  no_change v =
      let a = f.alike v in
      record {
        reads = refl;
        writes = refl;
        left = a.right;
        right = a.right;
        read_seen = λ b on. a.read_seen b (sym (ap (λ (t : ℕ → Bool). t b) a.reads) ∙ on);
        write_seen = λ b on. a.write_seen b (sym (ap (λ (t : ℕ → Bool). t b) a.writes) ∙ on);
      }

  module _ (s : State) (v at : ℕ) (raw : IsRaw s) (found : piece_at base pieces v ≡ Some (Copied at)) (is : IsPieceAt image versioned pieces sites base levels input v (Copied at)) (same : at ≡ s.pc) where
    c : IsCopyOf image pieces base v at
    c = copy_of image pieces base v at is.right

    word : is_word_address image s.pc ≡ true
    word = subst (λ a. is_word_address image a ≡ true) same is.word

    reads : read image s.pc ≡ Some c.i
    reads = ap (read image) (sym same) ∙ c.reads

    code : InstrStands other (loaded_byte versioned) v c.i
    code = let all : CodeStands other (loaded_byte versioned) v (c.i ∷ []) = subst (CodeStands other (loaded_byte versioned) v) (copied_code image pieces base v at c) is.code in all.0

    at_mid : step other (mid s) ≡ seen (hidden versioned) mixed w0 (step one s)
    at_mid = step_alike (layout_of image) (layout_of versioned) levels input w0 (hidden versioned) mixed s (f.alike s.pc) (word_fetched s.pc word) (f.fetched_too s.pc word) (mixed_text s raw word)

    mid_performs : step other (mid s) ≡ performs other (mid s) c.i c.i
    mid_performs = step_performs other (mid s) c.i (f.fetched_too s.pc word) (ap instr_of (mixed_text s raw word ∙ word_kept s raw word) ∙ reads)

    there : State
    there = record (mid s) { pc = v }

    there_performs : step other (record (mid s) { pc = v }) ≡ performs other (record (mid s) { pc = v }) c.i c.i
    there_performs = step_performs other (record (mid s) { pc = v }) c.i code.fetched (ap instr_of (mixed_block s.bytes v (Copied at) is) ∙ word_back (word_at (loaded_byte versioned) v) c.i code.encodes)

    moves : performs other (record (mid s) { pc = v }) c.i c.i ≡ moved_to v (performs other (mid s) c.i c.i)
    moves = plain_instructions_move other (mid s) v c.i c.plain (f.keyless_too s.pc) (f.keyless_too v)

    copied_step : step other (up v s) ≡ seen (hidden versioned) (loaded_byte versioned) w0 (moved_to v (seen (hidden versioned) mixed w0 (step one s)))
    copied_step =
        ap (step other) (sym (up_of_mid v s))
        ∙ (step_alike (layout_of versioned) (layout_of versioned) levels input w0 (hidden versioned) (loaded_byte versioned) (record (mid s) { pc = v }) (no_change v) code.fetched code.fetched
        (word_stays versioned levels input (mid s).bytes v code.fetched ∙ sym (mixed_block s.bytes v (Copied at) is))
        ∙ ap (seen (hidden versioned) (loaded_byte versioned) w0) (there_performs ∙ (moves ∙ ap (moved_to v) (sym mid_performs ∙ at_mid))))

    -- behind a plain instruction the next one follows
    next_follows : (x : Stepped) (u : State) → step one s ≡ goes x u → u.pc ≡ plus s.pc 4
    next_follows x u goes_on =
        let does : performs one s c.i c.i ≡ goes x u = sym (read_here s c.i raw word reads) ∙ goes_on in
        let again : performs one s c.i c.i ≡ moved_to s.pc (performs one s c.i c.i) = plain_instructions_move one s s.pc c.i c.plain (f.keyless s.pc) (f.keyless s.pc) in
        let both : goes x u ≡ moved_to s.pc (goes x u) = sym does ∙ (again ∙ ap (moved_to s.pc) does) in
        ap (λ (o : Outcome). o.state.pc) both

    -- it is no call and no return
    copied_local : (x : Stepped) (u : State) → step one s ≡ goes x u → x.moved ≡ Local
    copied_local x u goes_on = elim (step_done one s) [
      | inl trap ↦ absurd (subst (λ (o : Outcome). IsTrap o.end) goes_on trap)
      | inr done ↦
          let found : Some done.0 ≡ Some c.i = sym done.1.instr ∙ (ap instr_of (word_kept s raw word) ∙ reads) in
          let same : done.0 ≡ c.i = cc in
          let ends : EndsBy done.0 s (Went x) u = subst (λ (o : Outcome). EndsBy done.0 s o.end o.state) goes_on done.1.ends in
          ends.moved ∙ (ap move_of same ∙ plain_local c.i c.plain)
    ]

    copied_real : (y : Stepped) → y.pc ≡ v → is_extra_at y ≡ false
    copied_real y here = real_piece v (Copied at) y is refl here

    copied_end : (e : StepEnd) (u : State) → step one s ≡ record { end = e; state = u } → IsPassed s v ⊎ IsEnded s v
    copied_end (Went x) u goes_on =
        let room = is.room in
        let low = states.low_word image versioned pieces sites base levels input f s.pc word in
        let next : plus v 4 ≡ v + 4 = omega (arith, room) in
        let first = next_follows x u goes_on in
        let stays : at + 4 ≡ u.pc = omega (arith, first, low, same) in
        let y : Stepped = record x { pc = v; next = plus v 4 } in
        inl (record {
          x = x;
          u = u;
          step_is = goes_on;
          fetched = word_fetched s.pc word;
          front = [];
          t = up v s;
          leads = leads_none other (up v s);
          extra = All-nil IsExtra;
          y = y;
          next = v + 4;
          step_too = copied_step
              ∙ (ap (λ (o : Outcome). seen (hidden versioned) (loaded_byte versioned) w0 (moved_to v (seen (hidden versioned) mixed w0 o))) goes_on
              ∙ (ap (λ (t : State). goes y t) (up_of_mid (plus v 4) u) ∙ ap (λ n. goes y (up n u)) next));
          class = refl;
          pair = in_copy (Copied at) found refl ((went_at one s x (ap (λ (o : Outcome). o.end) goes_on)).0 ∙ sym same) (copied_local x u goes_on) (copied_local x u goes_on);
          real = copied_real y refl;
          stands = λ outside keeps. c.next ∙ stays;
          opens = λ outside rs after opened e. stays_open v (v + 4) rs after x (copied_local x u goes_on) c.calls opened e;
        })
    copied_end (Exited x status) u ends = inr (record {
      end = Exited x status;
      u = u;
      ends = ends;
      end_too = Exited (record x { pc = v; next = v }) status;
      u_too = over (hidden versioned) (loaded_byte versioned) w0 (record (mid u) { pc = v });
      ends_too = copied_step ∙ ap (λ (o : Outcome). seen (hidden versioned) (loaded_byte versioned) w0 (moved_to v (seen (hidden versioned) mixed w0 o))) ends;
      output = refl;
      alike = (refl, refl, refl);
      real = copied_real;
    })
    copied_end (Trapped trap) u ends = inr (record {
      end = Trapped trap;
      u = u;
      ends = ends;
      end_too = Trapped trap;
      u_too = over (hidden versioned) (loaded_byte versioned) w0 (record (mid u) { pc = v });
      ends_too = copied_step ∙ ap (λ (o : Outcome). seen (hidden versioned) (loaded_byte versioned) w0 (moved_to v (seen (hidden versioned) mixed w0 o))) ends;
      output = refl;
      alike = refl;
      real = copied_real;
    })

    copied : IsPassed s v ⊎ IsEnded s v
    copied = copied_end (step one s).end (step one s).state refl

  -- ---- a branch and a jump

  far_to : (pc to : ℕ) → pc < 2 ^ 32 → to < 2 ^ 32 → moved_by pc (distance pc to) ≡ to
  far_to pc to low small = ap (plus pc) (of_z-to_z w32 ((to + (2 ^ 32 - pc)) % 2 ^ 32) (omega arith)) ∙ omega arith

  branched_to : (env : Setting) (s : State) (i : Instr) (from to : ℕ) → from ≡ to → to % 4 ≡ 0 → branches env s i true from ≡ goes (stepped env s i true None to) (record s { pc = to })
  branched_to env s i from to e even = ap (branches env s i true) e ∙ cond-true (to % 4 == 0) _ _ (eq-eqb (to % 4) 0 even)

  module _ (s : State) (v at to : ℕ) (raw : IsRaw s) (found : piece_at base pieces v ≡ Some (Branched at to)) (is : IsPieceAt image versioned pieces sites base levels input v (Branched at to)) (same : at ≡ s.pc) where
    b : IsBranchOf image pieces base v at to
    b = branch_of image pieces base v at to is.right

    branch_word : is_word_address image s.pc ≡ true
    branch_word = subst (λ a. is_word_address image a ≡ true) same is.word

    abbrev old : Instr
    old = instr.Branch b.op b.rs1 b.rs2 b.offset

    abbrev new : Instr
    new = instr.Branch b.op b.rs1 b.rs2 (distance v to)

    abbrev target : ℕ
    target = moved_by s.pc b.offset

    branch_there : moved_by at b.offset ≡ moved_by s.pc b.offset
    branch_there = ap (λ a. moved_by a b.offset) same

    branch_good : (to < 2 ^ 32) × (to % 4 ≡ 0)
    branch_good = states.good_way image versioned pieces sites base levels input f to (moved_by at b.offset) b.there b.word

    branch_stands : InstrStands other (up v s).bytes v (instr.Branch b.op b.rs1 b.rs2 (distance v to))
    branch_stands =
        let all : CodeStands other (loaded_byte versioned) v (instr.Branch b.op b.rs1 b.rs2 (distance v to) ∷ []) = subst (CodeStands other (loaded_byte versioned) v) (branch_code image pieces base v at to b) is.code in
        states.one_stays image versioned pieces sites base levels input f s.bytes v (instr.Branch b.op b.rs1 b.rs2 (distance v to)) all.0

    branch_old : step one s ≡ branches one s old (is_taken b.op (reg s.regs b.rs1) (reg s.regs b.rs2)) target
    branch_old = read_here s old raw branch_word (ap (read image) (sym same) ∙ b.reads)

    branch_new : step other (up v s) ≡ branches other (up v s) new (is_taken b.op (reg s.regs b.rs1) (reg s.regs b.rs2)) (moved_by v (distance v to))
    branch_new = step_performs other (up v s) new branch_stands.fetched (word_back (word_at (up v s).bytes v) new branch_stands.encodes)

    branch_by : (taken : Bool) → is_taken b.op (reg s.regs b.rs1) (reg s.regs b.rs2) ≡ taken → IsPassed s v ⊎ IsEnded s v
    branch_by true e =
        let room = is.room in
        let even = states.even_word image versioned pieces sites base levels input f target (subst (λ a. is_word_address image a ≡ true) branch_there b.word) in
        inl (record {
          x = stepped one s old true None target;
          u = record s { pc = target };
          step_is = branch_old ∙ (ap (λ t. branches one s old t target) e ∙ branched_to one s old target target refl even);
          fetched = word_fetched s.pc branch_word;
          front = [];
          t = up v s;
          leads = leads_none other (up v s);
          extra = All-nil IsExtra;
          y = stepped other (up v s) new true None to;
          next = to;
          step_too = branch_new ∙ (ap (λ t. branches other (up v s) new t (moved_by v (distance v to))) e ∙ branched_to other (up v s) new (moved_by v (distance v to)) to (far_to v to (omega (arith, room)) branch_good.0) branch_good.1);
          class = refl;
          pair = in_copy (Branched at to) found refl (sym same) refl refl;
          real = real_piece v (Branched at to) (stepped other (up v s) new true None to) is refl refl;
          stands = λ outside keeps. b.there ∙ branch_there;
          opens = λ outside rs after opened e. stays_open v to rs after (stepped one s old true None target) refl b.calls opened e;
        })
    branch_by false e =
        let room = is.room in
        let low = states.low_word image versioned pieces sites base levels input f s.pc branch_word in
        let next : plus v 4 ≡ v + 4 = omega (arith, room) in
        let stays : at + 4 ≡ plus s.pc 4 = omega (arith, low, same) in
        let y = stepped other (up v s) new false None (plus v 4) in
        inl (record {
          x = stepped one s old false None (plus s.pc 4);
          u = record s { pc = plus s.pc 4 };
          step_is = branch_old ∙ ap (λ t. branches one s old t target) e;
          fetched = word_fetched s.pc branch_word;
          front = [];
          t = up v s;
          leads = leads_none other (up v s);
          extra = All-nil IsExtra;
          y = y;
          next = v + 4;
          step_too = branch_new ∙ (ap (λ t. branches other (up v s) new t (moved_by v (distance v to))) e ∙ ap (λ n. goes y (up n s)) next);
          class = refl;
          pair = in_copy (Branched at to) found refl (sym same) refl refl;
          real = real_piece v (Branched at to) y is refl refl;
          stands = λ outside keeps. b.next ∙ stays;
          opens = λ outside rs after opened e. stays_open v (v + 4) rs after (stepped one s old false None (plus s.pc 4)) refl b.calls_next opened e;
        })

    branched : IsPassed s v ⊎ IsEnded s v
    branched = branch_by (is_taken b.op (reg s.regs b.rs1) (reg s.regs b.rs2)) refl

  module _ (s : State) (v at to : ℕ) (raw : IsRaw s) (found : piece_at base pieces v ≡ Some (Jumped at to)) (is : IsPieceAt image versioned pieces sites base levels input v (Jumped at to)) (same : at ≡ s.pc) where
    jump_is : IsJumpOf image pieces base v at to
    jump_is = jump_of image pieces base v at to is.right

    jumped : IsPassed s v ⊎ IsEnded s v
    jumped =
        let j = jump_is in
        let word = subst (λ a. is_word_address image a ≡ true) same is.word in
        let old = instr.Jal 0 j.offset in
        let target = moved_by s.pc j.offset in
        let there : moved_by at j.offset ≡ target = ap (λ a. moved_by a j.offset) same in
        let good = states.good_way image versioned pieces sites base levels input f to (moved_by at j.offset) j.there j.word in
        let even = states.even_word image versioned pieces sites base levels input f target (subst (λ a. is_word_address image a ≡ true) there j.word) in
        let stands = states.one_stays image versioned pieces sites base levels input f s.bytes v (jump v to) is.code.0 in
        inl (record {
          x = stepped one s old false None target;
          u = record s { pc = target };
          step_is = read_here s old raw word (ap (read image) (sym same) ∙ j.reads) ∙ cond-true (target % 4 == 0) _ _ (eq-eqb (target % 4) 0 even);
          fetched = word_fetched s.pc word;
          front = [];
          t = up v s;
          leads = leads_none other (up v s);
          extra = All-nil IsExtra;
          y = stepped other (up v s) (jump v to) false None to;
          next = to;
          step_too = jump_step other (up v s) v to refl stands good.0 good.1;
          class = refl;
          pair = in_copy (Jumped at to) found refl (sym same) refl refl;
          real = real_piece v (Jumped at to) (stepped other (up v s) (jump v to) false None to) is refl refl;
          stands = λ outside keeps. j.there ∙ there;
          opens = λ outside rs after opened e. stays_open v to rs after (stepped one s old false None target) refl j.calls opened e;
        })

  -- ---- a call that is entered

  parts_join : (to : ℕ) → to < 2 ^ 32 → plus (hi to) (unsigned (lo to)) ≡ to
  parts_join to small = by (nat_lt (to % 2 ^ 12) (2 ^ 11)) refl
    where
      by : (c : Bool) → nat_lt (to % 2 ^ 12) (2 ^ 11) ≡ c → plus (hi to) (unsigned (if c then pos (to % 2 ^ 12) else negsuc (2 ^ 12 - 1 - to % 2 ^ 12))) ≡ to
      by true e = let low : to % 2 ^ 12 < 2 ^ 11 = grind (arith, nat_tests) in omega (arith, ints)
      by false e = let high : 2 ^ 11 ≤ to % 2 ^ 12 = grind (arith, nat_tests) in omega (arith, ints)

  module _ (s : State) (v at to end : ℕ) (raw : IsRaw s) (found : piece_at base pieces v ≡ Some (Entered at to end)) (is : IsPieceAt image versioned pieces sites base levels input v (Entered at to end)) (same : at ≡ s.pc) where
    k : IsCallOf image pieces base v at to
    k = call_of image pieces base v at to end is.right

    call_word : is_word_address image s.pc ≡ true
    call_word = subst (λ a. is_word_address image a ≡ true) same is.word

    -- the address behind the call
    behind_call : plus at 4 ≡ plus s.pc 4
    behind_call = ap (λ a. plus a 4) same

    abbrev regs1 : List ℕ
    regs1 = slice_set s.regs 1 (hi (plus at 4))

    abbrev regs2 : List ℕ
    regs2 = slice_set s.regs 1 (plus at 4)

    abbrev s1 : State
    s1 = record (up v s) { pc = v + 4; regs = regs1 }

    abbrev s2 : State
    s2 = record (up v s) { pc = v + 4 + 4; regs = regs2 }

    abbrev i1 : Instr
    i1 = instr.Lui 1 (hi (plus at 4))

    abbrev i2 : Instr
    i2 = instr.Imm Addi 1 1 (lo (plus at 4))

    abbrev y1 : Stepped
    y1 = stepped other (up v s) i1 false None (plus v 4)

    abbrev y2 : Stepped
    y2 = stepped other s1 i2 false None (plus (v + 4) 4)

    abbrev y3 : Stepped
    y3 = stepped other s2 (jump (v + 8) to) false None to

    here_at : (a : ℕ) (i : Instr) → InstrStands other (loaded_byte versioned) a i → InstrStands other (up v s).bytes a i
    here_at a i h = states.one_stays image versioned pieces sites base levels input f s.bytes a i h

    small : plus at 4 < 2 ^ 32
    small = omega arith

    sum : imm_result Addi (reg regs1 1) (lo (plus at 4)) ≡ plus at 4
    sum =
        let long = raw.regs in
        let held : reg regs1 1 ≡ hi (plus at 4) = get_or-set_same s.regs 1 (hi (plus at 4)) 0 (omega (arith, long)) in
        ap (λ n. imm_result Addi n (lo (plus at 4))) held ∙ parts_join (plus at 4) small

    first : step other (up v s) ≡ goes y1 s1
    first = set_step other (up v s) i1 1 (hi (plus at 4)) (hi (plus at 4)) regs1 (here_at v i1 is.code.0) refl (omega arith) refl refl

    second : step other s1 ≡ goes y2 s2
    second = set_step other s1 i2 1 (imm_result Addi (reg regs1 1) (lo (plus at 4))) (plus at 4) regs2 (here_at (v + 4) i2 is.code.1.0) refl (omega arith) sum (set-set s.regs 1 (hi (plus at 4)) (plus at 4))

    call_good : (to < 2 ^ 32) × (to % 4 ≡ 0)
    call_good = states.good_way image versioned pieces sites base levels input f to (moved_by at k.offset) k.there k.word

    third : step other s2 ≡ goes y3 (record s2 { pc = to })
    third = let there : v + 4 + 4 ≡ v + 8 = omega arith in jump_step other s2 (v + 8) to there (here_at (v + 4 + 4) (jump (v + 8) to) is.code.1.1.0) call_good.0 call_good.1

    entered : IsPassed s v ⊎ IsEnded s v
    entered =
        let old = instr.Jal 1 k.offset in
        let target = moved_by s.pc k.offset in
        let there : moved_by at k.offset ≡ target = ap (λ a. moved_by a k.offset) same in
        let even = states.even_word image versioned pieces sites base levels input f target (subst (λ a. is_word_address image a ≡ true) there k.word) in
        let u : State = record s { pc = target; regs = slice_set s.regs 1 (plus s.pc 4) } in
        let x = stepped one s old false None target in
        inl (record {
          x = x;
          u = u;
          step_is = read_here s old raw call_word (ap (read image) (sym same) ∙ k.reads) ∙ cond-true (target % 4 == 0) _ _ (eq-eqb (target % 4) 0 even);
          fetched = word_fetched s.pc call_word;
          front = y1 ∷ y2 ∷ [];
          t = s2;
          leads = leads_first other (up v s) s1 s2 y1 (y2 ∷ []) first (leads_first other s1 s2 s2 y2 [] second (leads_none other s2));
          extra = All-cons IsExtra y1 (y2 ∷ []) (states.extra_inside image versioned pieces sites base levels input f v (Entered at to end) y1 is (omega arith) (omega arith))
              (All-cons IsExtra y2 [] (states.extra_inside image versioned pieces sites base levels input f v (Entered at to end) y2 is (omega arith) (omega arith)) (All-nil IsExtra));
          y = y3;
          next = to;
          step_too = third ∙ ap (λ n. goes y3 (up to (record s { pc = target; regs = slice_set s.regs 1 n }))) behind_call;
          class = refl;
          pair = at_call v at to end found (omega arith) (sym same) refl refl;
          real = states.real_inside image versioned pieces sites base levels input f v (Entered at to end) y3 is (omega arith) (omega arith);
          stands = λ outside keeps. k.there ∙ there;
          opens = λ outside rs after opened e.
              let put : Some (plus s.pc 4 ∷ rs) ≡ Some after = e in
              let more : plus s.pc 4 ∷ rs ≡ after = cc in
              let on = begins_on (calls to) (plus at 4 ∷ calls v) (plus at 4 ∷ rs) k.calls (begins_more (plus at 4) (calls v) rs opened) in
              subst (λ (xs : List ℕ). begins (calls to) xs ≡ true) (ap (λ n. n ∷ rs) behind_call ∙ more) on;
        })

  -- ---- a return of an inlined call

  back_to : (cs : List ℕ) (back : ℕ) (others rs after : List ℕ) (next : ℕ) → cs ≡ back ∷ others → begins cs rs ≡ true → returned rs next ≡ Some after → (back ≡ next) × (begins others after ≡ true)
  back_to cs back others [] after next e h g = let never : ⊥ = cc in absurd never
  back_to cs back others (q ∷ qs) after next e h g =
      let first = begins_first back others q qs (sym (ap (λ (xs : List ℕ). begins xs (q ∷ qs)) e) ∙ h) in
      by (q == next) refl first
    where
      by : (b : Bool) → (q == next) ≡ b → (back ≡ q) × (begins others qs ≡ true) → (back ≡ next) × (begins others after ≡ true)
      by true is first =
          let rest : Some qs ≡ Some after = sym (cond-true (q == next) (Some qs) None is) ∙ g in
          let same : qs ≡ after = cc in
          (first.0 ∙ eqb-true q next is, subst (λ (xs : List ℕ). begins others xs ≡ true) same first.1)
      by false is first =
          let rest : None ≡ Some after = sym (cond-false (q == next) (Some qs) None is) ∙ g in
          let never : ⊥ = cc in absurd never

  moves_back : move_of (instr.Jalr 0 1 (pos 0)) ≡ Return
  moves_back = cond-true ((0 == 0) && (1 == 1) && int_eq (pos 0) (pos 0)) Return Local ((Decides-int_eq (pos 0) (pos 0)).1 refl)

  module _ (s : State) (v at to : ℕ) (raw : IsRaw s) (found : piece_at base pieces v ≡ Some (Returned at to)) (is : IsPieceAt image versioned pieces sites base levels input v (Returned at to)) (same : at ≡ s.pc) where
    m : IsReturnOf image pieces base v at to
    m = return_of image pieces base v at to is.right

    return_word : is_word_address image s.pc ≡ true
    return_word = subst (λ a. is_word_address image a ≡ true) same is.word

    abbrev way : ℕ
    way = let t = moved_by (reg s.regs 1) (pos 0) in t - t % 2

    return_old : step one s ≡ jumps one s (instr.Jalr 0 1 (pos 0)) 0 way
    return_old = read_here s (instr.Jalr 0 1 (pos 0)) raw return_word (ap (read image) (sym same) ∙ m.reads)

    abbrev x_back : Stepped
    x_back = stepped one s (instr.Jalr 0 1 (pos 0)) false None way

    goes_back : (rs after : List ℕ) → AreOpen v rs → returns_after rs x_back ≡ Some after → (m.back ≡ way) × (begins m.others after ≡ true)
    goes_back rs after opened e = back_to (calls v) m.back m.others rs after way m.open_are opened (sym (ap (λ k. returns_by k rs x_back) moves_back) ∙ e)

    back_by : (b : Bool) → (way % 4 == 0) ≡ b → IsPassed s v ⊎ IsEnded s v ⊎ IsLost s
    back_by true even =
        let good = states.good_way image versioned pieces sites base levels input f to m.back m.there m.word in
        let y = stepped other (up v s) (jump v to) false None to in
        inl (record {
          x = x_back;
          u = record s { pc = way };
          step_is = return_old ∙ cond-true (way % 4 == 0) _ _ even;
          fetched = word_fetched s.pc return_word;
          front = [];
          t = up v s;
          leads = leads_none other (up v s);
          extra = All-nil IsExtra;
          y = y;
          next = to;
          step_too = jump_step other (up v s) v to refl (states.one_stays image versioned pieces sites base levels input f s.bytes v (jump v to) is.code.0) good.0 good.1;
          class = refl;
          pair = at_return at to found (sym same) moves_back refl;
          real = real_piece v (Returned at to) y is refl refl;
          stands = λ outside keeps.
              let k = keeps (some_entered pieces base v m.back m.others m.open_are) in
              m.there ∙ (goes_back k.0 k.1 k.2 k.3).0;
          opens = λ outside rs after opened e. begins_on (calls to) m.others after m.calls (goes_back rs after opened e).1;
        })
    back_by false odd = inr (inr (record {
      trap = record { kind = traps.MisalignedTarget; at = way };
      ends = return_old ∙ cond-false (way % 4 == 0) _ _ odd;
      at_return = found_any (is_returned s.pc) base pieces v (Returned at to) found (eq-eqb at s.pc same);
    }))

    returned_there : IsPassed s v ⊎ IsEnded s v ⊎ IsLost s
    returned_there = back_by (way % 4 == 0) refl

  -- ---- each step

  widen : (s : State) (v : ℕ) → IsPassed s v ⊎ IsEnded s v → IsPassed s v ⊎ IsEnded s v ⊎ IsLost s
  widen s v (inl p) = inl p
  widen s v (inr e) = inr (inl e)

  pub passes : (s : State) (v : ℕ) → IsRaw s → in_code s.pc ≡ false → origin pieces base v ≡ s.pc → IsReal v → IsPassed s v ⊎ IsEnded s v ⊎ IsLost s
  passes s v raw outside stands (inl p) = by p.0 p.1 p.2
    where
      same_as : (p : Piece) → piece_at base pieces v ≡ Some p → origin_of p ≡ s.pc
      same_as p e = sym (states.origin_piece image versioned pieces sites base levels input f v p e) ∙ stands

      by : (p : Piece) → piece_at base pieces v ≡ Some p → is_extra p ≡ false → IsPassed s v ⊎ IsEnded s v ⊎ IsLost s
      by (Copied at) e extra = widen s v (copied s v at raw e (f.pieces_at v (Copied at) e) (same_as (Copied at) e))
      by (Branched at to) e extra = widen s v (branched s v at to raw e (f.pieces_at v (Branched at to) e) (same_as (Branched at to) e))
      by (Jumped at to) e extra = widen s v (jumped s v at to raw e (f.pieces_at v (Jumped at to) e) (same_as (Jumped at to) e))
      by (Bridge at to) e extra = let never : ⊥ = cc in absurd never
      by (Guard at larger smaller limit to) e extra = let never : ⊥ = cc in absurd never
      by (Entered at to end) e extra = widen s v (entered s v at to end raw e (f.pieces_at v (Entered at to end) e) (same_as (Entered at to end) e))
      by (Returned at to) e extra = returned_there s v at to raw e (f.pieces_at v (Returned at to) e) (same_as (Returned at to) e)
  passes s v raw outside stands (inr none) =
      let same : v ≡ s.pc = sym (states.origin_none image versioned pieces sites base levels input f v none.0) ∙ stands in
      subst (λ a. IsPassed s a ⊎ IsEnded s a ⊎ IsLost s) (sym same) (widen s s.pc (stays s raw outside (ap (site_at sites) (sym same) ∙ none.1)))
