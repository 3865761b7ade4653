-- One step of the original, and what the stored image makes of it.
use Rattle.std.proofs.Common.{◌≡◌, ℕ, ℤ, ◌+◌, ◌*◌, ◌%◌, ◌^◌, ◌<◌, ◌≤◌, Bool, true, false, List, [], ◌∷◌, length, refl, arith, sym, ◌∙◌, ap, subst, Option, Some, None, ◌⊎◌, inl, inr}
use Rattle.std.specs.Prelude.{◌==◌, All}
use Rattle.std.specs.List.{sum_by, list_any}
use Rattle.std.proofs.lemmas.Bool.{cond-true, and_parts, or_left, eqb-true, eq-eqb}
use Rattle.std.proofs.lemmas.List.Elements.{All-nil, All-cons}
use Rattle.std.proofs.lemmas.List.Sums.{sum_by-cons}
use Rattle.scale_base.specs.declared.instruction.BranchOp.{BranchOp}
use Rattle.scale_base.specs.declared.instruction.Instr.{Instr}
use Rattle.scale_base.specs.declared.instruction.Instr.TheVariants as instr
use Rattle.scale_base.specs.declared.stepping.Class.{Class}
use Rattle.scale_base.specs.declared.stepping.Class.TheVariants as classes
use Rattle.scale_base.specs.declared.stepping.Move.TheVariants as moves
use Rattle.scale_base.specs.declared.stepping.Stepped.{Stepped}
use Rattle.scale_base.specs.declared.stepping.StepEnd.{StepEnd}
use Rattle.scale_base.specs.declared.stepping.StepEnd.TheVariants.{Went, Exited, Trapped}
use Rattle.scale_base.specs.Image.{Image, loaded_byte, is_word_address, is_in}
use Rattle.scale_base.specs.Layout.{layout_of, is_keyed, can_fetch, in_text}
use Rattle.scale_base.specs.Reading.{instr_of}
use Rattle.scale_base.specs.Arith.{plus, moved_by, is_taken}
use Rattle.scale_base.specs.State.{Setting, State, reg, word_at}
use Rattle.scale_base.specs.Step.{Outcome, step, goes, executes, performs, branches, jumps}
use Rattle.scale_base.specs.Run.{setting_of}
use Rattle.machine_laws.proofs.Laws.{step_keyless, EndsKeyless}
use Rattle.code_text.specs.Text.{text_of}
use Rattle.graph_runs.proofs.Laws.{word_within, word_bound, word_same, went_at, exited_at}
use Rattle.stub_writer.specs.Stubs.{Site, Way, Place, Forked, Straight, fragments_code}
use Rattle.stored_runs.specs.Meaning.{StepsLead, IsSound}
use Rattle.stored_runs.specs.Ways.{turn, way_steps, windows_behind}
use Rattle.stored_runs.specs.Held.{StandsAtPatch, text_turn, WayStands, StubStands}
use Rattle.stored_runs.specs.Cycles.{stepped_cycles, fragment_cost}
use Rattle.stored_runs.proofs.Cycles.{way_cycles}
use Rattle.stored_runs.proofs.Passage.{goes_taken, goes_untaken, goes_on}
use Rattle.stored_runs.proofs.Steps.{leads_none, leads_first}
use Rattle.stored_runs.proofs.Ways.{stand_left}
use Rattle.stored_runs.specs.Marks.{Shadow, place_at, fragments_of_class, jumps_by, tail_cycles, level_stored, shadow_behind}
use Rattle.stored_runs.specs.Legs.{StoresLevel}
use Rattle.stored_runs.specs.Patched.{IsSafeEdge, HasStub}
use Rattle.stored_runs.proofs.LaidBytes.{laid}
use Rattle.stored_runs.proofs.SameStep.{over, seen, step_alike}
use Rattle.stored_runs.proofs.Frame.{hidden}
use Rattle.stored_runs.proofs.Placed.{IsFrame, word_by, stub_stays}
use Rattle.stored_runs.proofs.Windows.{IsWindow, IsEdge, edge_fits}
use Rattle.stored_runs.proofs.LegSteps.{IsKeyed, IsSilent, way_keyed, way_stores, stores_first}

-- a step that doesn't go on; where it exits, it is one of the text, which stores nothing at the port
abbrev pub IsStop : StepEnd → State → Type 0
IsStop (Went x) s = ⊥
IsStop (Exited x status) s = (x.pc ≡ s.pc) × (x.keyed ≡ false) × (x.port ≡ None)
IsStop (Trapped trap) s = Unit {0}

module _ (image stored : Image) (levels : ℕ) (limits : ℕ → ℕ) (sites : List Site) (start : ℕ) (input : List ℕ) (f : IsFrame image stored levels limits input sites start)
    (few : levels ≤ 8) (small : (k : ℕ) → limits k ≤ 2 ^ 31) where
  abbrev pub one : Setting
  one = setting_of image levels input

  abbrev pub other : Setting
  other = setting_of stored levels input

  -- the state of the stored run, with these words in the window
  abbrev pub up : List ℕ → State → State
  up w s = over (hidden stored) (loaded_byte stored) w s

  -- what is known of the state before a step
  pub record IsState (h : Shadow) (w : List ℕ) (s : State) : Type 0 where
    pub text : (a : ℕ) → list_any (is_in a) image.text ≡ true → s.bytes a ≡ loaded_byte image a
    pub regs : length s.regs ≡ 32
    pub zero : reg s.regs 0 ≡ 0
    pub window : IsWindow levels h.level h.counters w
    pub within : (k : ℕ) → h.counters k ≤ limits k
    pub place : is_word_address image s.pc ≡ true

  -- what a step that goes on is in the stored run: p is the marked instruction at its address
  pub record IsPassed (h : Shadow) (w : List ℕ) (s : State) (p : Option Place) : Type 0 where
    pub x : Stepped
    pub t : State
    pub first : Stepped
    pub others : List Stepped
    pub after : List ℕ
    pub step_is : step one s ≡ goes x t
    pub at_is : x.pc ≡ s.pc
    pub text : first.keyed ≡ false
    pub keyed : All IsKeyed others
    pub cost : (costs : Class → ℕ) → stepped_cycles costs (first ∷ others) ≡ costs x.class + (jumps_by p * costs classes.Jump + sum_by (fragment_cost costs) (fragments_of_class p x.class))
    pub stores : StoresLevel (level_stored (fragments_of_class p x.class) h) (λ costs. tail_cycles costs (fragments_of_class p x.class)) (first ∷ others)
    pub leads : StepsLead other (up w s) (first ∷ others) (up after t)
    pub window : IsWindow levels (shadow_behind (fragments_of_class p x.class) h).level (shadow_behind (fragments_of_class p x.class) h).counters after

  in_word : (pc : ℕ) → is_word_address image pc ≡ true → (pc % 4 ≡ 0) × (list_any (is_in pc) image.text ≡ true)
  in_word pc word = let a = and_parts (pc % 4 == 0) (list_any (is_in pc) image.text) word in (eqb-true (pc % 4) 0 a.0, a.1)

  -- ---- the word at pc

  word_kept : (s : State) → ((a : ℕ) → list_any (is_in a) image.text ≡ true → s.bytes a ≡ loaded_byte image a) → is_word_address image s.pc ≡ true → word_at s.bytes s.pc ≡ word_at (loaded_byte image) s.pc
  word_kept s text word = let w = in_word s.pc word in word_same (text_of image) one f.text s.bytes text s.pc w.1 w.0

  hidden_byte : (pc j : ℕ) → is_word_address image pc ≡ true → j < 4 → hidden stored (pc + j) ≡ true
  hidden_byte pc j word lt =
      let w = in_word pc word in
      or_left (in_text (layout_of stored) (pc + j)) (is_keyed (layout_of stored) (pc + j))
      (ap (λ rs. list_any (is_in (pc + j)) rs) f.same_text ∙ word_within (text_of image) one f.text pc j w.1 w.0 lt)

  laid_byte : (bytes : ℕ → ℕ) (pc j : ℕ) → is_word_address image pc ≡ true → j < 4 → laid (hidden stored) (loaded_byte stored) bytes (pc + j) ≡ loaded_byte stored (pc + j)
  laid_byte bytes pc j word lt = cond-true (hidden stored (pc + j)) (loaded_byte stored (pc + j)) (bytes (pc + j)) (hidden_byte pc j word lt)

  laid_word : (bytes : ℕ → ℕ) (pc : ℕ) → is_word_address image pc ≡ true → word_at (laid (hidden stored) (loaded_byte stored) bytes) pc ≡ word_at (loaded_byte stored) pc
  laid_word bytes pc word = word_by (laid (hidden stored) (loaded_byte stored) bytes) (loaded_byte stored) pc (λ j lt. laid_byte bytes pc j word lt)

  -- ---- an instruction that isn't marked

  plain_step : (h : Shadow) (w : List ℕ) (s : State) → IsState h w s → place_at sites s.pc ≡ None → step other (up w s) ≡ seen (hidden stored) (loaded_byte stored) w (step one s)
  plain_step h w s is none =
      let a = in_word s.pc is.place in
      step_alike (layout_of image) (layout_of stored) levels input w (hidden stored) (loaded_byte stored) s (f.alike s.pc a.1) (f.fetched s.pc is.place) (f.fetched_too s.pc is.place)
      (laid_word s.bytes s.pc is.place
      ∙ (f.plain s.pc is.place none
      ∙ sym (word_kept s is.text is.place)))

  -- how a step ended that doesn't go on: the stored image's ends so too
  pub record IsEnded (w : List ℕ) (s : State) : Type 0 where
    pub end : StepEnd
    pub t : State
    pub ends : step one s ≡ record { end = end; state = t }
    pub ends_too : step other (up w s) ≡ record { end = end; state = up w t }
    pub stops : IsStop end s
    pub unmarked : place_at sites s.pc ≡ None

  none_keyed : (layout_of image).keyed ≡ None → (s : State) → EndsKeyless (step one s).end
  none_keyed none s = step_keyless one none s

  plain_by : (h : Shadow) (w : List ℕ) (s : State) (none : (layout_of image).keyed ≡ None) (e : StepEnd) (t : State) → step one s ≡ record { end = e; state = t } → step other (up w s) ≡ record { end = e; state = up w t } → IsWindow levels h.level h.counters w → place_at sites s.pc ≡ None
      → IsPassed h w s None ⊎ IsEnded w s
  plain_by h w s none (Went x) t is is_too window off =
      let end_is : (step one s).end ≡ Went x = ap (λ (o : Outcome). o.end) is in
      let keyless = subst EndsKeyless end_is (none_keyed none s) in
      inl (record {
        x = x;
        t = t;
        first = x;
        others = [];
        after = w;
        step_is = is;
        at_is = (went_at one s x end_is).0;
        text = keyless.1;
        keyed = All-nil IsKeyed;
        cost = λ costs. omega (arith, sum_by-cons (λ y. costs y.class) x []);
        stores = All-cons IsSilent x [] keyless.0 (All-nil IsSilent);
        leads = leads_first other (up w s) (up w t) (up w t) x [] is_too (leads_none other (up w t));
        window = window;
      })
  plain_by h w s none (Exited x status) t is is_too window off =
      let end_is : (step one s).end ≡ Exited x status = ap (λ (o : Outcome). o.end) is in
      let keyless = subst EndsKeyless end_is (none_keyed none s) in
      inr (record { end = Exited x status; t = t; ends = is; ends_too = is_too; stops = (exited_at one s x status end_is, keyless.1, keyless.0); unmarked = off })
  plain_by h w s none (Trapped trap) t is is_too window off = inr (record { end = Trapped trap; t = t; ends = is; ends_too = is_too; stops = tt; unmarked = off })

  plain_passes : (h : Shadow) (w : List ℕ) (s : State) → (layout_of image).keyed ≡ None → IsState h w s → place_at sites s.pc ≡ None → IsPassed h w s None ⊎ IsEnded w s
  plain_passes h w s none is off = plain_by h w s none (step one s).end (step one s).state refl (plain_step h w s is off) is.window off

  -- ---- the stub in the stored run's memory

  abbrev StubAt : State → Place → Type 0
  StubAt s p = HasStub image other (loaded_byte stored) limits s.pc p

  -- the state is a machine's
  sound : (h : Shadow) (w : List ℕ) (s : State) → IsState h w s → IsSound other (up w s)
  sound h w s is = record {
    regs = is.regs;
    window = is.window.size;
    zero = is.zero;
    level = subst (λ v. v < levels) (sym is.window.port) is.window.is_level;
    levels = few;
  }

  patched : (h : Shadow) (w : List ℕ) (s : State) (p : Place) (b : StubAt s p) → IsState h w s → StandsAtPatch other (up w s) b.stub
  patched h w s p b is =
      let a = in_word s.pc is.place in
      record {
        there = record { keyed = (f.alike s.pc a.1).right; fetched = f.fetched_too s.pc is.place; encodes = (b.patch.0, laid_word s.bytes s.pc is.place ∙ b.patch.1) };
        pc = omega (arith, word_bound (text_of image) one f.text s.pc a.1);
        small = b.small;
        even = b.even;
      }

  -- the stub stands in the stored run's memory
  stands : (w : List ℕ) (s : State) (p : Place) (b : StubAt s p) → StubStands other (up w s).bytes b.stub p
  stands w s p b = stub_stays stored levels input s.bytes b.stub p b.stands

  -- ---- the original's step

  orig_step : (h : Shadow) (w : List ℕ) (s : State) (i : Instr) → IsState h w s → instr_of (word_at (loaded_byte image) s.pc) ≡ Some i → step one s ≡ performs one s i i
  unfolding step
  orig_step h w s i is e =
      cond-true (can_fetch (layout_of image) s.pc) _ _ (f.fetched s.pc is.place)
      ∙ ap (executes one s) (ap instr_of (word_kept s is.text is.place) ∙ e)

  abbrev went_over : State → ℕ → Class → Stepped
  went_over s next class = record { pc = s.pc; next = next; class = class; moved = moves.Local; keyed = false; port = None }

  orig_taken : (h : Shadow) (w : List ℕ) (s : State) (op : BranchOp) (rs1 rs2 to : ℕ) (offset : ℤ) → IsState h w s → instr_of (word_at (loaded_byte image) s.pc) ≡ Some (instr.Branch op rs1 rs2 offset) → to ≡ moved_by s.pc offset → to % 4 ≡ 0 → is_taken op (reg s.regs rs1) (reg s.regs rs2) ≡ true
      → step one s ≡ goes (went_over s to classes.Taken) (record s { pc = to })
  orig_taken h w s op rs1 rs2 to offset is e there even taken =
      let i = instr.Branch op rs1 rs2 offset in
      let a = in_word s.pc is.place in
      orig_step h w s i is e
      ∙ (ap (λ target. branches one s i (is_taken op (reg s.regs rs1) (reg s.regs rs2)) target) (sym there)
      ∙ (ap (λ t. branches one s i t to) taken
      ∙ (cond-true (to % 4 == 0) _ _ (eq-eqb (to % 4) 0 even)
      ∙ ap (λ k. goes (record { pc = s.pc; next = to; class = classes.Taken; moved = moves.Local; keyed = k; port = None }) (record s { pc = to })) (f.alike s.pc a.1).left)))

  orig_untaken : (h : Shadow) (w : List ℕ) (s : State) (op : BranchOp) (rs1 rs2 to : ℕ) (offset : ℤ) → IsState h w s → instr_of (word_at (loaded_byte image) s.pc) ≡ Some (instr.Branch op rs1 rs2 offset) → to ≡ plus s.pc 4 → is_taken op (reg s.regs rs1) (reg s.regs rs2) ≡ false
      → step one s ≡ goes (went_over s to classes.Untaken) (record s { pc = to })
  orig_untaken h w s op rs1 rs2 to offset is e there taken =
      let i = instr.Branch op rs1 rs2 offset in
      let a = in_word s.pc is.place in
      orig_step h w s i is e
      ∙ (ap (λ t. branches one s i t (moved_by s.pc offset)) taken
      ∙ (ap (λ n. goes (record { pc = s.pc; next = n; class = classes.Untaken; moved = moves.Local; keyed = is_keyed (layout_of image) s.pc; port = None }) (record s { pc = n })) (sym there)
      ∙ ap (λ k. goes (record { pc = s.pc; next = to; class = classes.Untaken; moved = moves.Local; keyed = k; port = None }) (record s { pc = to })) (f.alike s.pc a.1).left))

  orig_jump : (h : Shadow) (w : List ℕ) (s : State) (to : ℕ) (offset : ℤ) → IsState h w s → instr_of (word_at (loaded_byte image) s.pc) ≡ Some (instr.Jal 0 offset) → to ≡ moved_by s.pc offset → to % 4 ≡ 0
      → step one s ≡ goes (went_over s to classes.Jump) (record s { pc = to })
  orig_jump h w s to offset is e there even =
      let i = instr.Jal 0 offset in
      let a = in_word s.pc is.place in
      orig_step h w s i is e
      ∙ (ap (λ target. jumps one s i 0 target) (sym there)
      ∙ (cond-true (to % 4 == 0) _ _ (eq-eqb (to % 4) 0 even)
      ∙ ap (λ k. goes (record { pc = s.pc; next = to; class = classes.Jump; moved = moves.Local; keyed = k; port = None }) (record s { pc = to })) (f.alike s.pc a.1).left))

  -- ---- passages

  edge_of : (h : Shadow) (w : List ℕ) (s : State) (at : ℕ) (way : Way) → IsState h w s → IsSafeEdge levels limits way → (v : WayStands other (up w s).bytes at way) → IsEdge other (up w s).bytes s.regs v.table at way.fragments h w
  edge_of h w s at way is good v =
      edge_fits other (up w s).bytes s.regs limits v.table at way.fragments h w good.ordered good.safe good.few is.within small is.window
      (record { code = stand_left other (up w s).bytes at (fragments_code v.table way.fragments) _ v.code; even = v.even; rows = v.rows; high = v.high })

  pass_taken : (h : Shadow) (w : List ℕ) (s : State) (op : BranchOp) (rs1 rs2 : ℕ) (untaken taken : Way) → IsState h w s → StubAt s (Forked op rs1 rs2 untaken taken)
      → is_taken op (reg s.regs rs1) (reg s.regs rs2) ≡ true → IsPassed h w s (Some (Forked op rs1 rs2 untaken taken))
  pass_taken h w s op rs1 rs2 untaken taken is b took =
      let p = Forked op rs1 rs2 untaken taken in
      let stub = stands w s p b in
      let good = b.edges.1 in
      let at = stub.to in
      let rows = stub.taken_way.table in
      let edge = edge_of h w s at taken is good stub.taken_way in
      let u : State = record (up w s) { pc = b.stub } in
      let steps = way_steps u rows at taken in
      let ran = goes_taken other (up w s) b.stub op rs1 rs2 untaken taken (sound h w s is) (patched h w s p b is) stub took (edge.fit, good.small, good.even) in
      record {
        x = went_over s taken.to classes.Taken;
        t = record s { pc = taken.to };
        first = text_turn s.pc b.stub;
        others = turn b.stub at classes.Taken ∷ steps;
        after = windows_behind (up w s).bytes s.regs rows taken.fragments w;
        step_is = orig_taken h w s op rs1 rs2 taken.to b.of_image.0 is b.of_image.1 b.of_image.3 good.even took;
        at_is = refl;
        text = refl;
        keyed = All-cons IsKeyed (turn b.stub at classes.Taken) steps refl (way_keyed u rows at taken);
        cost = λ costs. omega (arith, way_cycles costs u rows at taken, sum_by-cons (λ y. costs y.class) (text_turn s.pc b.stub) (turn b.stub at classes.Taken ∷ steps), sum_by-cons (λ y. costs y.class) (turn b.stub at classes.Taken) steps);
        stores = stores_first (level_stored taken.fragments h) (λ costs. tail_cycles costs taken.fragments) (text_turn s.pc b.stub) (turn b.stub at classes.Taken ∷ steps) refl
            (stores_first (level_stored taken.fragments h) (λ costs. tail_cycles costs taken.fragments) (turn b.stub at classes.Taken) steps refl
            (subst (λ o. StoresLevel o (λ costs. tail_cycles costs taken.fragments) steps) edge.stored (way_stores u rows at taken good.ordered)));
        leads = ran;
        window = edge.window;
      }

  pass_untaken : (h : Shadow) (w : List ℕ) (s : State) (op : BranchOp) (rs1 rs2 : ℕ) (untaken taken : Way) → IsState h w s → StubAt s (Forked op rs1 rs2 untaken taken)
      → is_taken op (reg s.regs rs1) (reg s.regs rs2) ≡ false → IsPassed h w s (Some (Forked op rs1 rs2 untaken taken))
  pass_untaken h w s op rs1 rs2 untaken taken is b went_on =
      let p = Forked op rs1 rs2 untaken taken in
      let stub = stands w s p b in
      let good = b.edges.0 in
      let at = b.stub + 4 in
      let rows = stub.untaken_way.table in
      let edge = edge_of h w s at untaken is good stub.untaken_way in
      let u : State = record (up w s) { pc = b.stub } in
      let steps = way_steps u rows at untaken in
      let ran = goes_untaken other (up w s) b.stub op rs1 rs2 untaken taken (sound h w s is) (patched h w s p b is) stub went_on (edge.fit, good.small, good.even) in
      record {
        x = went_over s untaken.to classes.Untaken;
        t = record s { pc = untaken.to };
        first = text_turn s.pc b.stub;
        others = turn b.stub at classes.Untaken ∷ steps;
        after = windows_behind (up w s).bytes s.regs rows untaken.fragments w;
        step_is = orig_untaken h w s op rs1 rs2 untaken.to b.of_image.0 is b.of_image.1 b.of_image.2 went_on;
        at_is = refl;
        text = refl;
        keyed = All-cons IsKeyed (turn b.stub at classes.Untaken) steps refl (way_keyed u rows at untaken);
        cost = λ costs. omega (arith, way_cycles costs u rows at untaken, sum_by-cons (λ y. costs y.class) (text_turn s.pc b.stub) (turn b.stub at classes.Untaken ∷ steps), sum_by-cons (λ y. costs y.class) (turn b.stub at classes.Untaken) steps);
        stores = stores_first (level_stored untaken.fragments h) (λ costs. tail_cycles costs untaken.fragments) (text_turn s.pc b.stub) (turn b.stub at classes.Untaken ∷ steps) refl
            (stores_first (level_stored untaken.fragments h) (λ costs. tail_cycles costs untaken.fragments) (turn b.stub at classes.Untaken) steps refl
            (subst (λ o. StoresLevel o (λ costs. tail_cycles costs untaken.fragments) steps) edge.stored (way_stores u rows at untaken good.ordered)));
        leads = ran;
        window = edge.window;
      }

  pass_jump : (h : Shadow) (w : List ℕ) (s : State) (way : Way) → IsState h w s → StubAt s (Straight way) → IsPassed h w s (Some (Straight way))
  pass_jump h w s way is b =
      let p = Straight way in
      let stub = stands w s p b in
      let good = b.edges in
      let rows = stub.table in
      let edge = edge_of h w s b.stub way is good stub in
      let u : State = record (up w s) { pc = b.stub } in
      let steps = way_steps u rows b.stub way in
      let ran = goes_on other (up w s) b.stub way (sound h w s is) (patched h w s p b is) stub (edge.fit, good.small, good.even) in
      record {
        x = went_over s way.to classes.Jump;
        t = record s { pc = way.to };
        first = text_turn s.pc b.stub;
        others = steps;
        after = windows_behind (up w s).bytes s.regs rows way.fragments w;
        step_is = orig_jump h w s way.to b.of_image.0 is b.of_image.1 b.of_image.2 good.even;
        at_is = refl;
        text = refl;
        keyed = way_keyed u rows b.stub way;
        cost = λ costs. omega (arith, way_cycles costs u rows b.stub way, sum_by-cons (λ y. costs y.class) (text_turn s.pc b.stub) steps);
        stores = stores_first (level_stored way.fragments h) (λ costs. tail_cycles costs way.fragments) (text_turn s.pc b.stub) steps refl
            (subst (λ o. StoresLevel o (λ costs. tail_cycles costs way.fragments) steps) edge.stored (way_stores u rows b.stub way good.ordered));
        leads = ran;
        window = edge.window;
      }

  marked_passes : (h : Shadow) (w : List ℕ) (s : State) (p : Place) → IsState h w s → StubAt s p → IsPassed h w s (Some p)
  marked_passes h w s (Forked op rs1 rs2 untaken taken) is b = by_way (is_taken op (reg s.regs rs1) (reg s.regs rs2)) refl
    where
      by_way : (t : Bool) → is_taken op (reg s.regs rs1) (reg s.regs rs2) ≡ t → IsPassed h w s (Some (Forked op rs1 rs2 untaken taken))
      by_way true e = pass_taken h w s op rs1 rs2 untaken taken is b e
      by_way false e = pass_untaken h w s op rs1 rs2 untaken taken is b e
  marked_passes h w s (Straight way) is b = pass_jump h w s way is b

  -- a step of the original, whatever stands at its address
  pub passes : (h : Shadow) (w : List ℕ) (s : State) → (layout_of image).keyed ≡ None → IsState h w s → IsPassed h w s (place_at sites s.pc) ⊎ IsEnded w s
  passes h w s none is = by_place (place_at sites s.pc) refl
    where
      by_place : (p : Option Place) → place_at sites s.pc ≡ p → IsPassed h w s (place_at sites s.pc) ⊎ IsEnded w s
      by_place None e = elim (plain_passes h w s none is e) [
        | inl went ↦ inl (subst (IsPassed h w s) (sym e) went)
        | inr ended ↦ inr ended
      ]
      by_place (Some p) e = inl (subst (IsPassed h w s) (sym e) (marked_passes h w s p is (f.stubs s.pc p is.place e)))
