-- The stored image follows the original: by the number of the original's steps.
use Rattle.std.proofs.Common.{◌≡◌, ℕ, zero, suc, ◌+◌, ◌*◌, ◌^◌, ◌<◌, ◌≤◌, Bool, true, false, cond, List, [], ◌∷◌, ◌++◌, length, replicate, refl, arith, sym, ◌∙◌, ap, subst, Option, None, ◌⊎◌, inl, inr, length-set, get_or-set_other, append-nil, length-append}
use Rattle.std.specs.Prelude.{All, slice_set, option_map}
use Rattle.std.specs.List.{sum_by, list_any}
use Rattle.std.proofs.Math.Path.{fun_ext}
use Rattle.std.proofs.lemmas.Bool.{or_from, cond-true, cond-false}
use Rattle.std.proofs.lemmas.List.{map-append, get_or-set_same, get_or-replicate, length-replicate}
use Rattle.std.proofs.lemmas.List.Elements.{All-nil, All-cons}
use Rattle.std.proofs.lemmas.List.Sums.{fold-append, sum_by-cons}
use Rattle.std.proofs.lemmas.Grind.{flat_map-append}
use Rattle.scale_base.specs.declared.stepping.Class.{Class}
use Rattle.scale_base.specs.declared.stepping.Class.TheVariants as classes
use Rattle.scale_base.specs.declared.stepping.Stepped.{Stepped}
use Rattle.scale_base.specs.declared.stepping.StepEnd.{StepEnd}
use Rattle.scale_base.specs.declared.stepping.StepEnd.TheVariants.{Went, Exited, Trapped}
use Rattle.scale_base.specs.Image.{Image, loaded_byte, is_word_address, is_in}
use Rattle.scale_base.specs.Layout.{layout_of, is_keyed, in_text}
use Rattle.scale_base.specs.State.{Setting, State, reg}
use Rattle.scale_base.specs.Step.{Outcome, step, goes}
use Rattle.scale_base.specs.Run.{Run, Standing, GoesOn, HasExited, HasTrapped, begin, ended, one_more_by, one_more, run, run_of, setting_of, start_of, starting_level}
use Rattle.scale_base.specs.Run as runs
use Rattle.scale_base.proofs.Laws.{run_step, step_zero}
use Rattle.machine_laws.proofs.Laws.{step_length}
use Rattle.code_text.specs.Text.{text_of}
use Rattle.graph_runs.proofs.Laws.{not_written, IsTrap, step_done}
use Rattle.elf_patch.specs.Stored.{stored_image}
use Rattle.stub_writer.specs.Stubs.{Site, Place, patches_from, block_bytes}
use Rattle.stored_runs.specs.Meaning.{StepsLead}
use Rattle.stored_runs.specs.Cycles.{stepped_cycles, fragment_cost}
use Rattle.stored_runs.proofs.Steps.{leads_none, leads_on}
use Rattle.stored_runs.specs.Marks.{Shadow, place_at, fragments_of_class, jumps_by, tail_cycles, level_stored, shadow_first, shadow_behind, shadow_more, shadow_after}
use Rattle.stored_runs.specs.Legs.{Leg, StoresLevel, IsLeg, AreLegs, originals, all_steps, Meets, Holds, steps_to}
use Rattle.stored_runs.specs.Stubbed.{IsStubbed, StaysInText, KeepsLimits, IsFollowed}
use Rattle.stored_runs.specs.Laws.{PatchedRunsFollow, StubbedArePatched}
use Rattle.stored_runs.proofs.LaidBytes.{laid, byte_seen}
use Rattle.stored_runs.proofs.SameStep.{over}
use Rattle.stored_runs.proofs.Frame.{hidden, frame}
use Rattle.stored_runs.proofs.Placed.{IsFrame, of_block}
use Rattle.stored_runs.proofs.PatchedFrame.{of_patched}
use Rattle.stored_runs.proofs.Windows.{IsWindow}
use Rattle.stored_runs.proofs.LegSteps.{IsKeyed, IsSilent}
use Rattle.stored_runs.proofs.Passing as passing
use Rattle.stored_runs.proofs.Passing.{IsStop}

-- ---- lists of legs

legs_more : (sites : List Site) (h : Shadow) (legs : List Leg) (l : Leg) → AreLegs sites h legs → IsLeg sites (shadow_after sites h (originals legs)) l → AreLegs sites h (legs ++ l ∷ [])
legs_more sites h [] l are is = (is, tt)
legs_more sites h (k ∷ legs) l are is = (are.0, legs_more sites (shadow_more sites h k.step) legs l are.1 is)

originals_more : (legs : List Leg) (l : Leg) (xs : List Stepped) → originals legs ≡ xs → originals (legs ++ l ∷ []) ≡ xs ++ l.step ∷ []
originals_more legs l xs e = map-append (λ k. k.step) legs (l ∷ []) ∙ ap (λ ys. ys ++ l.step ∷ []) e

steps_more : (legs : List Leg) (l : Leg) → all_steps (legs ++ l ∷ []) ≡ all_steps legs ++ l.steps
steps_more legs l = flat_map-append (λ k. k.steps) legs (l ∷ []) ∙ ap (λ ys. all_steps legs ++ ys) (append-nil l.steps)

shadow_step : (sites : List Site) (h : Shadow) (xs : List Stepped) (x : Stepped) → shadow_after sites h (xs ++ x ∷ []) ≡ shadow_more sites (shadow_after sites h xs) x
shadow_step sites h xs x = fold-append (shadow_more sites) h xs (x ∷ [])

module _ (image stored : Image) (levels : ℕ) (limits : ℕ → ℕ) (sites : List Site) (start : ℕ) (input : List ℕ) (f : IsFrame image stored levels limits input sites start)
    (few : levels ≤ 8) (small : (k : ℕ) → limits k ≤ 2 ^ 31) (none : (layout_of image).keyed ≡ None) where
  abbrev one : Setting
  one = setting_of image levels input

  abbrev other : Setting
  other = setting_of stored levels input

  abbrev up : List ℕ → State → State
  up w s = over (hidden stored) (loaded_byte stored) w s

  abbrev first : Shadow
  first = shadow_first start

  abbrev shadow : List Stepped → Shadow
  shadow xs = shadow_after sites first xs

  -- the stored run up to a step of the original that goes on
  pub record IsGoing (r : Run) : Type 0 where
    pub legs : List Leg
    pub are : AreLegs sites first legs
    pub originals_are : originals legs ≡ r.steps
    pub goes_on : r.standing ≡ GoesOn
    pub w : List ℕ
    pub leads : StepsLead other (start_of stored levels) (all_steps legs) (up w r.state)
    pub text : (a : ℕ) → list_any (is_in a) image.text ≡ true → r.state.bytes a ≡ loaded_byte image a
    pub regs : length r.state.regs ≡ 32
    pub zero : reg r.state.regs 0 ≡ 0
    pub window : IsWindow levels (shadow r.steps).level (shadow r.steps).counters w

  -- and where it has ended
  pub record IsOver (r : Run) : Type 0 where
    pub legs : List Leg
    pub are : AreLegs sites first legs
    pub originals_are : originals legs ≡ r.steps
    pub after : ℕ
    pub after_is : after ≡ length (all_steps legs) + steps_to r.standing
    pub w : List ℕ
    pub ran : run other (start_of stored levels) after ≡ record { steps = all_steps legs; state = up w r.state; standing = r.standing }
    pub window : IsWindow levels (shadow r.steps).level (shadow r.steps).counters w
    pub stays : one_more one r ≡ r

  -- ---- the start

  abbrev w0 : List ℕ
  w0 = slice_set (replicate 512 0) 511 start

  starts_over : start_of stored levels ≡ up w0 (start_of image levels)
  starts_over =
      let bytes : loaded_byte stored ≡ laid (hidden stored) (loaded_byte stored) (loaded_byte image) = fun_ext (λ a. by_hidden a (hidden stored a) refl) in
      ap (λ pc. runs.start (loaded_byte stored) pc (starting_level levels stored.keyed_segment)) f.entry
      ∙ (ap (λ level. runs.start (loaded_byte stored) image.entry level) f.start_is
      ∙ ap (λ b. runs.start b image.entry start) bytes)
    where
      by_hidden : (a : ℕ) (b : Bool) → hidden stored a ≡ b → loaded_byte stored a ≡ cond (hidden stored a) (loaded_byte stored a) (loaded_byte image a)
      by_hidden a true e = sym (cond-true (hidden stored a) (loaded_byte stored a) (loaded_byte image a) e)
      by_hidden a false e = f.outside a e ∙ sym (cond-false (hidden stored a) (loaded_byte stored a) (loaded_byte image a) e)

  first_window : start < levels → IsWindow levels start (λ k. 0) w0
  first_window low =
      let size = length-replicate {A = ℕ} 512 0 in
      record {
        size = length-set (replicate 512 0) 511 start ∙ size;
        port = get_or-set_same (replicate 512 0) 511 start 0 (omega (arith, size));
        is_level = low;
        counters = λ k s. get_or-set_other (replicate 512 0) 511 k start 0 (omega (arith, s.1)) ∙ get_or-replicate 512 k 0 0 (omega (arith, s.1));
      }

  begins : start < levels → IsGoing (begin (start_of image levels))
  begins low = record {
    legs = [];
    are = tt;
    originals_are = refl;
    goes_on = refl;
    w = w0;
    leads = subst (λ s. StepsLead other (start_of stored levels) [] s) starts_over (leads_none other (start_of stored levels));
    text = λ a h. refl;
    regs = refl;
    zero = refl;
    window = first_window low;
  }

  -- ---- one step more

  abbrev Within : Run → Type 0
  Within r = (k : ℕ) → (shadow r.steps).counters k ≤ limits k

  text_kept : (s t : State) (x : Stepped) → step one s ≡ goes x t → ((a : ℕ) → list_any (is_in a) image.text ≡ true → s.bytes a ≡ loaded_byte image a) → (a : ℕ) → list_any (is_in a) image.text ≡ true → t.bytes a ≡ loaded_byte image a
  text_kept s t x is text a on = elim (step_done one s) [
    | inl trap ↦ absurd (subst (λ (o : Outcome). IsTrap o.end) is trap)
    | inr done ↦
        let kept = done.1.bytes a (not_written (text_of image) one f.text a on) in
        sym (ap (λ (o : Outcome). o.state.bytes a) is) ∙ (kept ∙ text a on)
  ]

  -- a leg from what is known of the step at its address
  leg_of : (h : Shadow) (s : State) (x first : Stepped) (others : List Stepped) (p : Option Place) → place_at sites s.pc ≡ p → x.pc ≡ s.pc → first.keyed ≡ false → All IsKeyed others
      → ((costs : Class → ℕ) → stepped_cycles costs (first ∷ others) ≡ costs x.class + (jumps_by p * costs classes.Jump + sum_by (fragment_cost costs) (fragments_of_class p x.class)))
      → StoresLevel (level_stored (fragments_of_class p x.class) h) (λ costs. tail_cycles costs (fragments_of_class p x.class)) (first ∷ others) → IsLeg sites h (record { step = x; steps = first ∷ others })
  leg_of h s x first others p found at_is text keyed cost stores =
      let place : place_at sites x.pc ≡ p = ap (place_at sites) at_is ∙ found in
      record {
        first = first;
        others = others;
        parts = refl;
        text = text;
        keyed = keyed;
        cost = λ costs. cost costs ∙ ap (λ o. costs x.class + (jumps_by o * costs classes.Jump + sum_by (fragment_cost costs) (fragments_of_class o x.class))) (sym place);
        stores = subst (λ o. StoresLevel (level_stored (fragments_of_class o x.class) h) (λ costs. tail_cycles costs (fragments_of_class o x.class)) (first ∷ others)) (sym place) stores;
      }

  -- the shadow behind a step
  shadow_at : (xs : List Stepped) (x : Stepped) (s : State) → x.pc ≡ s.pc → shadow_behind (fragments_of_class (place_at sites s.pc) x.class) (shadow xs) ≡ shadow (xs ++ x ∷ [])
  shadow_at xs x s at_is =
      ap (λ pc. shadow_behind (fragments_of_class (place_at sites pc) x.class) (shadow xs)) (sym at_is) ∙ sym (shadow_step sites first xs x)

  window_more : (xs : List Stepped) (x : Stepped) (h : Shadow) (w : List ℕ) → h ≡ shadow (xs ++ x ∷ []) → IsWindow levels h.level h.counters w → IsWindow levels (shadow (xs ++ x ∷ [])).level (shadow (xs ++ x ∷ [])).counters w
  window_more xs x h w e window = subst (λ g. IsWindow levels g.level g.counters w) e window

  abbrev Passed : Shadow → List ℕ → State → Option Place → Type 0
  Passed h w s p = passing.IsPassed image stored levels limits sites start input f few small h w s p

  abbrev Ended : List ℕ → State → Type 0
  Ended w s = passing.IsEnded image stored levels limits sites start input f few small w s

  went_on : (r : Run) (g : IsGoing r) → Passed (shadow r.steps) g.w r.state (place_at sites r.state.pc) → IsGoing (ended r.steps (step one r.state).end (step one r.state).state)
  went_on r g p =
      let l : Leg = record { step = p.x; steps = p.first ∷ p.others } in
      let leg = leg_of (shadow r.steps) r.state p.x p.first p.others (place_at sites r.state.pc) refl p.at_is p.text p.keyed p.cost p.stores in
      let at = subst (λ xs. IsLeg sites (shadow xs) l) (sym g.originals_are) leg in
      let to : IsGoing (record { steps = r.steps ++ p.x ∷ []; state = p.t; standing = GoesOn }) = record {
        legs = g.legs ++ l ∷ [];
        are = legs_more sites first g.legs l g.are at;
        originals_are = originals_more g.legs l r.steps g.originals_are;
        goes_on = refl;
        w = p.after;
        leads = subst (λ xs. StepsLead other (start_of stored levels) xs (up p.after p.t)) (sym (steps_more g.legs l)) (leads_on other (start_of stored levels) (up g.w r.state) (up p.after p.t) (all_steps g.legs) (p.first ∷ p.others) g.leads p.leads);
        text = text_kept r.state p.t p.x p.step_is g.text;
        regs = sym (ap (λ (o : Outcome). length o.state.regs) p.step_is) ∙ (step_length one r.state ∙ g.regs);
        zero = sym (ap (λ (o : Outcome). reg o.state.regs 0) p.step_is) ∙ step_zero one r.state g.zero;
        window = window_more r.steps p.x (shadow_behind (fragments_of_class (place_at sites r.state.pc) p.x.class) (shadow r.steps)) p.after (shadow_at r.steps p.x r.state p.at_is) p.window;
      } in
      subst IsGoing (sym (ap (λ (o : Outcome). ended r.steps o.end o.state) p.step_is)) to

  came_to_end : (r : Run) (g : IsGoing r) (e : StepEnd) (t : State) → step one r.state ≡ record { end = e; state = t } → step other (up g.w r.state) ≡ record { end = e; state = up g.w t } → IsStop e r.state → place_at sites r.state.pc ≡ None → IsOver (ended r.steps e t)
  came_to_end r g (Went x) t is is_too stop off = absurd stop
  came_to_end r g (Exited x status) t is is_too stop off =
      let l : Leg = record { step = x; steps = x ∷ [] } in
      let leg = leg_of (shadow r.steps) r.state x x [] None off stop.0 stop.1 (All-nil IsKeyed) (λ costs. omega (arith, sum_by-cons (λ y. costs y.class) x [])) (All-cons IsSilent x [] stop.2 (All-nil IsSilent)) in
      let at = subst (λ xs. IsLeg sites (shadow xs) l) (sym g.originals_are) leg in
      let more = steps_more g.legs l in
      let same : shadow r.steps ≡ shadow (r.steps ++ x ∷ []) = ap (λ p. shadow_behind (fragments_of_class p x.class) (shadow r.steps)) (sym off) ∙ shadow_at r.steps x r.state stop.0 in
      record {
        legs = g.legs ++ l ∷ [];
        are = legs_more sites first g.legs l g.are at;
        originals_are = originals_more g.legs l r.steps g.originals_are;
        after = length (all_steps g.legs) + 1;
        after_is = omega (arith, ap (λ (xs : List Stepped). length xs) more, length-append (all_steps g.legs) (x ∷ []));
        w = g.w;
        ran = run_step other (start_of stored levels) (up g.w r.state) (length (all_steps g.legs)) (all_steps g.legs) g.leads
            ∙ (ap (λ (o : Outcome). ended (all_steps g.legs) o.end o.state) is_too ∙ ap (λ xs. record { steps = xs; state = up g.w t; standing = HasExited status }) (sym more));
        window = window_more r.steps x (shadow r.steps) g.w same g.window;
        stays = refl;
      }
  came_to_end r g (Trapped trap) t is is_too stop off = record {
    legs = g.legs;
    are = g.are;
    originals_are = g.originals_are;
    after = length (all_steps g.legs) + 1;
    after_is = refl;
    w = g.w;
    ran = run_step other (start_of stored levels) (up g.w r.state) (length (all_steps g.legs)) (all_steps g.legs) g.leads ∙ ap (λ (o : Outcome). ended (all_steps g.legs) o.end o.state) is_too;
    window = g.window;
    stays = refl;
  }

  ended_now : (r : Run) (g : IsGoing r) → Ended g.w r.state → IsOver (ended r.steps (step one r.state).end (step one r.state).state)
  ended_now r g e =
      subst IsOver (sym (ap (λ (o : Outcome). ended r.steps o.end o.state) e.ends)) (came_to_end r g e.end e.t e.ends e.ends_too e.stops e.unmarked)

  more : (r : Run) (g : IsGoing r) → is_word_address image r.state.pc ≡ true → Within r → IsGoing (one_more one r) ⊎ IsOver (one_more one r)
  more r g place within =
      let next : one_more one r ≡ ended r.steps (step one r.state).end (step one r.state).state = ap (one_more_by one r) g.goes_on in
      let is : passing.IsState image stored levels limits sites start input f few small (shadow r.steps) g.w r.state =
      record { text = g.text; regs = g.regs; zero = g.zero; window = g.window; within = within; place = place } in
      elim (passing.passes image stored levels limits sites start input f few small (shadow r.steps) g.w r.state none is) [
        | inl p ↦ inl (subst IsGoing (sym next) (went_on r g p))
        | inr e ↦ inr (subst IsOver (sym next) (ended_now r g e))
      ]

  -- ---- by the number of steps

  pub follows : start < levels → (n : ℕ) → StaysInText image levels input n → KeepsLimits image levels limits sites start input n → IsGoing (run_of image levels input n) ⊎ IsOver (run_of image levels input n)
  unfolding run_of run
  follows low zero stays keeps = inl (begins low)
  follows low (suc n) stays keeps =
      elim (follows low n (λ m lt. stays m (omega arith)) (λ m lt. keeps m (omega arith))) [
        | inl g ↦ more (run_of image levels input n) g (stays n (omega arith) g.goes_on) (keeps n (omega arith) g.goes_on)
        | inr over ↦ inr (subst IsOver (sym over.stays) over)
      ]

-- ---- the law

holds_of : (levels : ℕ) (h : Shadow) (w : List ℕ) → IsWindow levels h.level h.counters w → Holds h w
holds_of levels h w window = record { level = window.port; counters = window.counters }

-- the states meet
meets_of : (stored : Image) (w : List ℕ) (s u : State) → u ≡ over (hidden stored) (loaded_byte stored) w s → Meets (layout_of stored) s u
meets_of stored w s u e = record {
  pc = ap (λ (v : State). v.pc) e;
  regs = ap (λ (v : State). v.regs) e;
  bytes = λ a text key. ap (λ (v : State). v.bytes a) e ∙ byte_seen (hidden stored) (loaded_byte stored) s.bytes a (or_from (in_text (layout_of stored) a) (is_keyed (layout_of stored) a) text key);
  used = ap (λ (v : State). v.used) e;
  output = ap (λ (v : State). v.output) e;
}

no_key : (image : Image) → image.keyed_segment ≡ None → (layout_of image).keyed ≡ None
unfolding layout_of
no_key image e = ap (option_map (λ k. k.range)) e

-- every run of the original that stays in the text and keeps the limits is followed
pub frames_follow : (image stored : Image) (levels : ℕ) (limits : ℕ → ℕ) (sites : List Site) (start : ℕ) (input : List ℕ) (f : IsFrame image stored levels limits input sites start) → levels ≤ 8 → ((k : ℕ) → limits k ≤ 2 ^ 31) → image.keyed_segment ≡ None → start < levels →
    (n : ℕ) → StaysInText image levels input n → KeepsLimits image levels limits sites start input n → IsFollowed image stored levels sites start input n
unfolding run_of
frames_follow image stored levels limits sites start input f few small keyless low n stays keeps =
    elim (follows image stored levels limits sites start input f few small (no_key image keyless) low n stays keeps) [
      | inl g ↦ record {
        legs = g.legs;
        are = g.are;
        originals_are = g.originals_are;
        after = length (all_steps g.legs);
        after_is = let none : steps_to (run_of image levels input n).standing ≡ 0 = ap steps_to g.goes_on in omega (arith, none);
        steps = ap (λ (r : Run). r.steps) g.leads;
        standing = ap (λ (r : Run). r.standing) g.leads ∙ sym g.goes_on;
        meets = meets_of stored g.w (run_of image levels input n).state (run_of stored levels input (length (all_steps g.legs))).state (ap (λ (r : Run). r.state) g.leads);
        holds = subst (Holds (shadow_after sites (shadow_first start) (run_of image levels input n).steps)) (sym (ap (λ (r : Run). r.state.window) g.leads)) (holds_of levels (shadow_after sites (shadow_first start) (run_of image levels input n).steps) g.w g.window);
      }
      | inr o ↦ record {
        legs = o.legs;
        are = o.are;
        originals_are = o.originals_are;
        after = o.after;
        after_is = o.after_is;
        steps = ap (λ (r : Run). r.steps) o.ran;
        standing = ap (λ (r : Run). r.standing) o.ran;
        meets = meets_of stored o.w (run_of image levels input n).state (run_of stored levels input o.after).state (ap (λ (r : Run). r.state) o.ran);
        holds = subst (Holds (shadow_after sites (shadow_first start) (run_of image levels input n).steps)) (sym (ap (λ (r : Run). r.state.window) o.ran)) (holds_of levels (shadow_after sites (shadow_first start) (run_of image levels input n).steps) o.w o.window);
      }
    ]

pub patched_runs : PatchedRunsFollow
patched_runs = λ image patched levels limits sites start p input n stays keeps.
    frames_follow image patched levels limits sites start input (of_patched image patched levels limits sites start input p) p.few_levels p.small_limits p.no_key p.start_is_level n stays keeps

-- a block of stubs is an instance
pub stubbed_patched : StubbedArePatched
unfolding layout_of
stubbed_patched = λ file image levels limits sites base start stored h.
    let f = λ (input : List ℕ). of_block image stored levels limits sites base start input (frame file image stored sites base start levels input h.read h.storable h.stored_is h.ascending) h.safe h.near in
    let one = f [] in
    record {
      original_file = file;
      original_is = h.read;
      file = stored_image file (patches_from base sites) base (block_bytes base sites) start;
      patched_is = h.stored_is;
      no_key = h.storable.no_key;
      entry = one.entry;
      text = one.same_text;
      segments = one.parts;
      bytes = λ a text key. one.outside a (or_from (in_text (layout_of stored) a) (is_keyed (layout_of stored) a) text key);
      words = one.plain;
      stubs = λ input. (f input).stubs;
      start_is = one.start_is;
      start_is_level = h.start_is_level;
      few_levels = h.few_levels;
      small_limits = h.small_limits;
    }

pub stored_runs : (file : List ℕ) (image : Image) (levels : ℕ) (limits : ℕ → ℕ) (sites : List Site) (base start : ℕ) (stored : Image) → IsStubbed file image levels limits sites base start stored →
    (input : List ℕ) (n : ℕ) → StaysInText image levels input n → KeepsLimits image levels limits sites start input n → IsFollowed image stored levels sites start input n
stored_runs file image levels limits sites base start stored h input n stays keeps =
    patched_runs image stored levels limits sites start (stubbed_patched file image levels limits sites base start stored h) input n stays keeps
