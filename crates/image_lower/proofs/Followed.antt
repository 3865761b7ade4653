-- The lowered image follows the raw one: by the number of the raw run's steps.
use Rattle.std.proofs.Common.{◌≡◌, ℕ, zero, suc, ◌+◌, ◌*◌, ◌≤◌, Bool, true, false, cond, List, [], ◌∷◌, ◌++◌, length, refl, arith, sym, ◌∙◌, ap, subst, Some, ◌⊎◌, inl, inr}
use Rattle.std.specs.Prelude.{All, is_some, ◌||◌}
use Rattle.std.proofs.Math.Path.{fun_ext}
use Rattle.std.proofs.lemmas.Bool.{cond-true, cond-false, both_ways}
use Rattle.std.proofs.lemmas.List.Elements.{All-pop}
use Rattle.std.proofs.lemmas.List.Sums.{sum_by-append}
use Rattle.scale_base.specs.declared.stepping.Class.{Class}
use Rattle.scale_base.specs.declared.stepping.Stepped.{Stepped}
use Rattle.scale_base.specs.declared.stepping.StepEnd.{StepEnd}
use Rattle.scale_base.specs.declared.stepping.StepEnd.TheVariants.{Went, Exited, Trapped}
use Rattle.scale_base.specs.Image.{Image, loaded_byte}
use Rattle.scale_base.specs.Layout.{layout_of, in_text, is_keyed}
use Rattle.scale_base.specs.State.{Setting, State}
use Rattle.scale_base.specs.Step.{Outcome, step}
use Rattle.scale_base.specs.Run.{Run, Standing, GoesOn, HasExited, HasTrapped, begin, ended, one_more_by, one_more, run, run_of, setting_of, start_of, starting_level}
use Rattle.scale_base.specs.Run as runs
use Rattle.scale_base.proofs.Laws.{run_step}
use Rattle.stored_runs.specs.Meaning.{StepsLead}
use Rattle.stored_runs.proofs.Laws.{leads_none, leads_on, laid, byte_seen, hidden}
use Rattle.jump_lists.specs.declared.notes.JumpNote.{JumpNote}
use Rattle.image_lower.specs.FarJumps.{far_jump}
use Rattle.image_lower.specs.Block.{block_len, greatest_depth}
use Rattle.stored_runs.specs.Cycles.{stepped_cycles}
use Rattle.image_lower.specs.Meets.{HoldsTarget, KeepsToLists, AreSameStates, IsSoFar, FollowsLowered, in_block, is_noted_jump, tree_cycles, jumps_taken}
use Rattle.image_lower.proofs.FarParts.{entry_near}
use Rattle.image_lower.proofs.LoweredFrame.{IsFrame}
use Rattle.image_lower.proofs.Legs as legs

-- ---- the steps of a longer run

front_of : (P : Stepped → Type 0) (xs : List Stepped) (e : StepEnd) (u : State) → All P (ended xs e u).steps → All P xs
front_of P xs (Went x) u h = (All-pop P (xs ++ x ∷ []) xs (Some x) refl h).0
front_of P xs (Exited x status) u h = (All-pop P (xs ++ x ∷ []) xs (Some x) refl h).0
front_of P xs (Trapped trap) u h = h

front : (P : Stepped → Type 0) (env : Setting) (r : Run) (standing : Standing) → All P (one_more_by env r standing).steps → All P r.steps
front P env r GoesOn h = front_of P r.steps (step env r.state).end (step env r.state).state h
front P env r (HasExited status) h = h
front P env r (HasTrapped trap) h = h

last : (P : Stepped → Type 0) (xs : List Stepped) (x : Stepped) → All P (xs ++ x ∷ []) → P x
last P xs x h = (All-pop P (xs ++ x ∷ []) xs (Some x) refl h).1

less : (image : Image) (notes : List JumpNote) (base levels : ℕ) (input : List ℕ) (n : ℕ) → KeepsToLists image notes base levels input (suc n) → KeepsToLists image notes base levels input n
unfolding run_of run
less image notes base levels input n h =
    let env = setting_of image levels input in
    let r = run env (start_of image levels) n in
    record {
      pairs = front (λ x. is_some (far_jump image notes x.next) ≡ true → x.pc + 4 ≡ x.next) env r r.standing h.pairs;
      targets = λ m lt. h.targets m (omega (arith, lt));
      outside = front (λ x. in_block base (block_len image notes) x.next ≡ false) env r r.standing h.outside;
    }

-- more steps cost more
spread : (a b c d j k tree : ℕ) → a ≤ b + j * tree → c ≤ d + k * tree → a + c ≤ (b + d) + (j + k) * tree
spread a b c d j k tree h g = let e : (j + k) * tree ≡ j * tree + k * tree = grind arith in omega (arith, h, g, e)

module _ (image lowered : Image) (notes : List JumpNote) (base levels : ℕ) (input : List ℕ) (f : IsFrame image lowered notes base levels input) where
  abbrev one : Setting
  one = setting_of image levels input

  abbrev other : Setting
  other = setting_of lowered levels input

  abbrev up : State → State
  up s = legs.up image lowered notes base levels input f s

  abbrev IsRaw : State → Type 0
  IsRaw s = legs.IsRaw image lowered notes base levels input f s

  abbrev AreWithin : List Stepped → List Stepped → Type 0
  AreWithin low raw = (costs : Class → ℕ) → stepped_cycles costs low ≤ stepped_cycles costs raw + jumps_taken notes raw * tree_cycles costs (greatest_depth notes)

  -- the lowered run up to a step of the raw one that goes on
  record IsGoing (r : Run) : Type 0 where
    steps : List Stepped
    goes_on : r.standing ≡ GoesOn
    leads : StepsLead other (start_of lowered levels) steps (up r.state)
    raw : IsRaw r.state
    within : AreWithin steps r.steps

  -- and where that has ended
  record IsOver (r : Run) : Type 0 where
    stays : one_more one r ≡ r
    after : ℕ
    followed : FollowsLowered image lowered notes base r (run other (start_of lowered levels) after)

  -- ---- the start

  starts_alike : start_of lowered levels ≡ up (start_of image levels)
  starts_alike =
      let bytes : loaded_byte lowered ≡ laid (hidden lowered) (loaded_byte lowered) (loaded_byte image) = fun_ext (λ a. by_hidden a (hidden lowered a) refl) in
      ap (λ pc. runs.start (loaded_byte lowered) pc (starting_level levels lowered.keyed_segment)) f.entry
      ∙ (ap (λ level. runs.start (loaded_byte lowered) image.entry level) f.start_is
      ∙ ap (λ b. runs.start b image.entry (starting_level levels image.keyed_segment)) bytes)
    where
      by_hidden : (a : ℕ) (b : Bool) → hidden lowered a ≡ b → loaded_byte lowered a ≡ cond (hidden lowered a) (loaded_byte lowered a) (loaded_byte image a)
      by_hidden a true e = sym (cond-true (hidden lowered a) (loaded_byte lowered a) (loaded_byte image a) e)
      by_hidden a false e = f.outside a e ∙ sym (cond-false (hidden lowered a) (loaded_byte lowered a) (loaded_byte image a) e)

  begins : IsGoing (begin (start_of image levels))
  begins = record {
    steps = [];
    goes_on = refl;
    leads = subst (λ s. StepsLead other (start_of lowered levels) [] s) starts_alike (leads_none other (start_of lowered levels));
    raw = record {
      text = λ a h. refl;
      regs = refl;
      zero = refl;
      window = refl;
      prepared = λ rx imm far before some. absurd (both_ways (is_some (far_jump image notes image.entry)) (entry_near image notes) far);
    };
    within = λ costs. omega arith;
  }

  -- ---- one step more

  cycles_on : (costs : Class → ℕ) (xs ys : List Stepped) → stepped_cycles costs (xs ++ ys) ≡ stepped_cycles costs xs + stepped_cycles costs ys
  cycles_on costs xs ys = sum_by-append (λ (x : Stepped). costs x.class) xs ys

  taken_on : (xs ys : List Stepped) → jumps_taken notes (xs ++ ys) ≡ jumps_taken notes xs + jumps_taken notes ys
  taken_on xs ys = sum_by-append (λ (x : Stepped). cond (is_noted_jump notes x.pc) 1 0) xs ys

  within_on : (a b c d : List Stepped) → AreWithin a b → AreWithin c d → AreWithin (a ++ c) (b ++ d)
  within_on a b c d h g costs =
      let tree = tree_cycles costs (greatest_depth notes) in
      let most = spread (stepped_cycles costs a) (stepped_cycles costs b) (stepped_cycles costs c) (stepped_cycles costs d) (jumps_taken notes b) (jumps_taken notes d) tree (h costs) (g costs) in
      let e = cycles_on costs a c in
      let k = cycles_on costs b d in
      let j : jumps_taken notes (b ++ d) * tree ≡ (jumps_taken notes b + jumps_taken notes d) * tree = ap (λ n. n * tree) (taken_on b d) in
      omega (arith, most, e, k, j)

  went_on : (r : Run) (g : IsGoing r) (p : legs.IsPassed image lowered notes base levels input f r.state) → (is_some (far_jump image notes p.x.next) ≡ true → p.x.pc + 4 ≡ p.x.next) → IsGoing (ended r.steps (step one r.state).end (step one r.state).state)
  went_on r g p pair =
      let to : IsGoing (record { steps = r.steps ++ p.x ∷ []; state = p.u; standing = GoesOn }) = record {
        steps = g.steps ++ p.steps;
        goes_on = refl;
        leads = leads_on other (start_of lowered levels) (up r.state) (up p.u) g.steps p.steps g.leads p.leads;
        raw = legs.raw_next image lowered notes base levels input f r.state p.u p.x g.raw p.step_is p.fetched pair;
        within = within_on g.steps r.steps p.steps (p.x ∷ []) g.within p.within;
      } in
      subst IsGoing (sym (ap (λ (o : Outcome). ended r.steps o.end o.state) p.step_is)) to

  same_states : (s : State) → IsRaw s → AreSameStates image lowered s (up s)
  same_states s raw = record {
    pc = refl;
    regs = refl;
    bytes = λ a text text_too. byte_seen (hidden lowered) (loaded_byte lowered) s.bytes a (seen_if a text_too);
    window = sym raw.window;
    used = refl;
    output = refl;
  }
    where
      seen_if : (a : ℕ) → in_text (layout_of lowered) a ≡ false → hidden lowered a ≡ false
      seen_if a text = ap (λ b. b || is_keyed (layout_of lowered) a) text ∙ f.keyless_too a

  came_to_end : (r : Run) (g : IsGoing r) (e : StepEnd) (u : State) → step other (up r.state) ≡ record { end = e; state = up u } → legs.IsStop image lowered notes base levels input f e → IsOver (ended r.steps e u)
  came_to_end r g (Went x) u is_too stop = absurd stop
  came_to_end r g (Exited x status) u is_too stop =
      let ran : run other (start_of lowered levels) (length g.steps + 1) ≡ record { steps = g.steps ++ x ∷ []; state = up u; standing = HasExited status } =
      run_step other (start_of lowered levels) (up r.state) (length g.steps) g.steps g.leads ∙ ap (λ (o : Outcome). ended g.steps o.end o.state) is_too in
      let raw : Run = record { steps = r.steps ++ x ∷ []; state = u; standing = HasExited status } in
      record {
        stays = refl;
        after = length g.steps + 1;
        followed = subst (FollowsLowered image lowered notes base raw) (sym ran) (record {
          standing = (refl, refl);
          cycles = within_on g.steps r.steps (x ∷ []) (x ∷ []) g.within (λ costs. omega arith);
        });
      }
  came_to_end r g (Trapped trap) u is_too stop =
      let ran : run other (start_of lowered levels) (length g.steps + 1) ≡ record { steps = g.steps; state = up u; standing = HasTrapped trap } =
      run_step other (start_of lowered levels) (up r.state) (length g.steps) g.steps g.leads ∙ ap (λ (o : Outcome). ended g.steps o.end o.state) is_too in
      let raw : Run = record { steps = r.steps; state = u; standing = HasTrapped trap } in
      record {
        stays = refl;
        after = length g.steps + 1;
        followed = subst (FollowsLowered image lowered notes base raw) (sym ran) (record {
          standing = λ noted outside. (refl, refl);
          cycles = g.within;
        });
      }

  ended_now : (r : Run) (g : IsGoing r) → legs.IsEnded image lowered notes base levels input f r.state → IsOver (ended r.steps (step one r.state).end (step one r.state).state)
  ended_now r g e = subst IsOver (sym (ap (λ (o : Outcome). ended r.steps o.end o.state) e.ends)) (came_to_end r g e.end e.u e.ends_too e.stops)

  lost_now : (r : Run) (g : IsGoing r) → legs.IsLost image lowered notes base levels input f r.state → IsOver (ended r.steps (step one r.state).end (step one r.state).state)
  lost_now r g e =
      let raw : Run = record { steps = r.steps; state = r.state; standing = HasTrapped e.trap } in
      let over : IsOver raw = record {
        stays = refl;
        after = length g.steps;
        followed = subst (FollowsLowered image lowered notes base raw) (sym g.leads) (record {
          standing = λ noted outside. absurd (both_ways (in_block base (block_len image notes) r.state.pc) outside e.inside);
          cycles = g.within;
        });
      } in
      subst IsOver (sym (ap (λ (o : Outcome). ended r.steps o.end o.state) e.ends)) over

  more : (r : Run) (g : IsGoing r) → All (HoldsTarget image notes base r.state) notes → All (λ x. is_some (far_jump image notes x.next) ≡ true → x.pc + 4 ≡ x.next) (one_more one r).steps → IsGoing (one_more one r) ⊎ IsOver (one_more one r)
  more r g holds pairs =
      let next : one_more one r ≡ ended r.steps (step one r.state).end (step one r.state).state = ap (one_more_by one r) g.goes_on in
      let P : Stepped → Type 0 = λ x. is_some (far_jump image notes x.next) ≡ true → x.pc + 4 ≡ x.next in
      elim (legs.passes image lowered notes base levels input f r.state g.raw holds) [
        | inl p ↦
            let all : All P (r.steps ++ p.x ∷ []) = subst (λ (q : Run). All P q.steps) (next ∙ ap (λ (o : Outcome). ended r.steps o.end o.state) p.step_is) pairs in
            inl (subst IsGoing (sym next) (went_on r g p (last P r.steps p.x all)))
        | inr stopped ↦ elim stopped [
          | inl e ↦ inr (subst IsOver (sym next) (ended_now r g e))
          | inr e ↦ inr (subst IsOver (sym next) (lost_now r g e))
        ]
      ]

  -- ---- by the number of steps

  follows : (n : ℕ) → KeepsToLists image notes base levels input n → IsGoing (run_of image levels input n) ⊎ IsOver (run_of image levels input n)
  unfolding run_of run
  follows zero keeps = inl begins
  follows (suc n) keeps = elim (follows n (less image notes base levels input n keeps)) [
    | inl g ↦ more (run one (start_of image levels) n) g (keeps.targets n (omega arith) g.goes_on) keeps.pairs
    | inr over ↦ inr (subst IsOver (sym over.stays) over)
  ]

  going_is_followed : (r : Run) (g : IsGoing r) → FollowsLowered image lowered notes base r (run other (start_of lowered levels) (length g.steps))
  going_is_followed r g =
      let low : Run = record { steps = g.steps; state = up r.state; standing = GoesOn } in
      let so_far : IsSoFar image lowered notes base r low GoesOn = (refl, same_states r.state g.raw) in
      subst (FollowsLowered image lowered notes base r) (sym g.leads) (record {
        standing = subst (IsSoFar image lowered notes base r low) (sym g.goes_on) so_far;
        cycles = g.within;
      })

  -- the run of each image with such a frame is followed
  pub frame_follows : (n : ℕ) → KeepsToLists image notes base levels input n → (m : ℕ) × FollowsLowered image lowered notes base (run_of image levels input n) (run_of lowered levels input m)
  unfolding run_of
  frame_follows n keeps = elim (follows n keeps) [
    | inl g ↦ (length g.steps, going_is_followed (run_of image levels input n) g)
    | inr over ↦ (over.after, over.followed)
  ]
