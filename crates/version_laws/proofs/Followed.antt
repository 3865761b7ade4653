-- The versioned image follows the original: by the number of the original's steps.
use Rattle.std.proofs.Common.{◌≡◌, ℕ, zero, suc, ◌+◌, ◌<◌, Bool, true, false, not, cond, List, [], ◌∷◌, ◌++◌, length, map, filter, replicate, refl, arith, sym, ◌∙◌, ap, subst, Some, ◌⊎◌, inl, inr, append_assoc, append-nil, Option, None}
use Rattle.std.specs.Prelude.{All, slice_set, ◌||◌}
use Rattle.std.proofs.Math.Path.{fun_ext}
use Rattle.std.proofs.lemmas.Bool.{cond-true, cond-false, both_ways}
use Rattle.std.specs.List.{list_any}
use Rattle.std.proofs.lemmas.List.Sums.{fold-append}
use Rattle.std.proofs.lemmas.List.Elements.{All-pop, All-head, All-tail, All-replicate, All-set, filter-append, All-append}
use Rattle.scale_base.specs.declared.stepping.Class.{Class}
use Rattle.scale_base.specs.declared.stepping.Stepped.{Stepped}
use Rattle.scale_base.specs.declared.stepping.StepEnd.{StepEnd}
use Rattle.scale_base.specs.declared.stepping.StepEnd.TheVariants.{Went, Exited, Trapped}
use Rattle.scale_base.specs.Image.{Image, loaded_byte}
use Rattle.scale_base.specs.Layout.{layout_of, in_text, is_keyed}
use Rattle.scale_base.specs.State.{Setting, State}
use Rattle.scale_base.specs.Step.{Outcome, step}
use Rattle.scale_base.specs.Run.{Run, Standing, GoesOn, HasExited, HasTrapped, STACK_POINTER, begin, ended, one_more_by, one_more, run, run_of, setting_of, start_of, starting_level}
use Rattle.scale_base.specs.Run as runs
use Rattle.scale_base.proofs.Laws.{run_step}
use Rattle.graph_runs.proofs.Laws.{went_at}
use Rattle.graph_runs.specs.ReturnAddresses.{returns_after}
use Rattle.graph_runs.specs.RunTransitions.{returns_more, returns_so}
use Rattle.stored_runs.specs.Meaning.{StepsLead}
use Rattle.stored_runs.proofs.Laws.{leads_none, leads_first, leads_on, laid, byte_seen, hidden}
use Rattle.loop_versions.specs.declared.pieces.Piece.{Piece}
use Rattle.loop_versions.specs.declared.pieces.Site.{Site}
use Rattle.loop_versions.specs.Fitting.{origin, begins, calls_at, is_entered, is_returned}
use Rattle.loop_versions.specs.Follows.{in_block, StaysOutside, AreSameStates, IsSoFar, is_extra_step, FollowsVersioned, GoesBack}
use Rattle.loop_versions.proofs.Laws.{begins_on, off_calls}
use Rattle.version_laws.proofs.Words.{IsWord, AreWords}
use Rattle.version_laws.proofs.Frame.{IsFrame}
use Rattle.version_laws.proofs.States as states
use Rattle.version_laws.proofs.Legs as legs
use Rattle.version_laws.proofs.Legs.{EndsAlike}
use Rattle.version_laws.proofs.Pairs.{ArePaired, all_passed, but_last, gone, gone_by}
use Rattle.version_laws.proofs.Pairs.ArePaired.{none, both}

-- ---- the steps of a longer run

front_of : (P : Stepped → Type 0) (xs : List Stepped) (e : StepEnd) (u : State) → All P (ended xs e u).steps → All P xs
front_of P xs (Went x) u h = (All-pop P (xs ++ x ∷ []) xs (Some x) refl h).0
front_of P xs (Exited x status) u h = (All-pop P (xs ++ x ∷ []) xs (Some x) refl h).0
front_of P xs (Trapped trap) u h = h

front : (P : Stepped → Type 0) (env : Setting) (r : Run) (standing : Standing) → All P (one_more_by env r standing).steps → All P r.steps
front P env r GoesOn h = front_of P r.steps (step env r.state).end (step env r.state).state h
front P env r (HasExited status) h = h
front P env r (HasTrapped trap) h = h

last : (P : Stepped → Type 0) (xs : List Stepped) (x : Stepped) → All P (xs ++ x ∷ []) → P x
last P xs x h = (All-pop P (xs ++ x ∷ []) xs (Some x) refl h).1

-- ---- the classes of steps

abbrev classes_of : List Stepped → List Class
classes_of xs = map (λ (x : Stepped). x.class) xs

classes_on : (xs ys : List Stepped) → classes_of (xs ++ ys) ≡ classes_of xs ++ classes_of ys
classes_on [] ys = refl
classes_on (x ∷ xs) ys = ap (λ (zs : List Class). x.class ∷ zs) (classes_on xs ys)

-- steps that are passed over
none_left : (p : Stepped → Bool) (xs : List Stepped) → All (λ x. p x ≡ true) xs → filter (λ x. not (p x)) xs ≡ []
none_left p [] h = refl
none_left p (x ∷ xs) h =
    let one : not (p x) ≡ false = ap not (All-head (λ x. p x ≡ true) x xs h) in
    let rest = none_left p xs (All-tail (λ x. p x ≡ true) x xs h) in
    cond-false (not (p x)) (x ∷ filter (λ x. not (p x)) xs) (filter (λ x. not (p x)) xs) one ∙ rest

one_left : (p : Stepped → Bool) (x : Stepped) → p x ≡ false → filter (λ x. not (p x)) (x ∷ []) ≡ x ∷ []
one_left p x h = cond-true (not (p x)) (x ∷ []) [] (ap not h)

abbrev left_of : (Stepped → Bool) → List Stepped → List Class
left_of p xs = classes_of (filter (λ x. not (p x)) xs)

left_on : (p : Stepped → Bool) (xs ys : List Stepped) → left_of p (xs ++ ys) ≡ left_of p xs ++ left_of p ys
left_on p xs ys = ap classes_of (filter-append (λ x. not (p x)) xs ys) ∙ classes_on (filter (λ x. not (p x)) xs) (filter (λ x. not (p x)) ys)

-- with some more that are passed over, and one that isn't
left_more : (p : Stepped → Bool) (xs es raw : List Stepped) (x y : Stepped) → left_of p xs ≡ classes_of raw → All (λ x. p x ≡ true) es → p y ≡ false → y.class ≡ x.class → left_of p (xs ++ (es ++ y ∷ [])) ≡ classes_of (raw ++ x ∷ [])
left_more p xs es raw x y same extra real class =
    left_on p xs (es ++ y ∷ [])
    ∙ (ap (λ (zs : List Class). left_of p xs ++ zs) (left_on p es (y ∷ []))
    ∙ (ap (λ (zs : List Stepped). left_of p xs ++ (classes_of zs ++ left_of p (y ∷ []))) (none_left p es extra)
    ∙ (ap (λ (zs : List Stepped). left_of p xs ++ classes_of zs) (one_left p y real)
    ∙ (ap (λ (zs : List Class). zs ++ y.class ∷ []) same
    ∙ (ap (λ (c : Class). classes_of raw ++ c ∷ []) class
    ∙ sym (classes_on raw (x ∷ [])))))))

left_extra : (p : Stepped → Bool) (xs es raw : List Stepped) → left_of p xs ≡ classes_of raw → All (λ x. p x ≡ true) es → left_of p (xs ++ es) ≡ classes_of raw
left_extra p xs es raw same extra =
    left_on p xs es
    ∙ (ap (λ (zs : List Stepped). left_of p xs ++ classes_of zs) (none_left p es extra)
    ∙ (append-nil (left_of p xs) ∙ same))

module _ (image versioned : Image) (pieces : List Piece) (sites : List Site) (base levels : ℕ) (input : List ℕ) (f : IsFrame image versioned pieces sites base levels input) (small : All (λ b. b < 256) input) where
  abbrev one : Setting
  one = setting_of image levels input

  abbrev other : Setting
  other = setting_of versioned levels input

  abbrev up : ℕ → State → State
  up v s = states.up image versioned pieces sites base levels input f v s

  abbrev IsRaw : State → Type 0
  IsRaw s = states.IsRaw image versioned pieces sites base levels input f s

  abbrev in_code : ℕ → Bool
  in_code v = in_block image versioned pieces sites base v

  abbrev is_extra : Stepped → Bool
  is_extra x = is_extra_step image versioned pieces sites base x

  abbrev AreOutside : List Stepped → Type 0
  AreOutside xs = All (λ x. in_code x.next ≡ false) xs

  abbrev calls : ℕ → List ℕ
  calls v = calls_at pieces base v

  -- where calls are inlined, the returns have gone back to their calls
  abbrev GoBack : List Stepped → Type 0
  GoBack xs = list_any is_entered pieces ≡ true → (rs : List ℕ) × (returns_so xs ≡ Some rs)

  -- and the inlined calls at an address are the first ones of those that are open
  abbrev AreOpen : ℕ → List Stepped → Type 0
  AreOpen v xs = list_any is_entered pieces ≡ true → (rs : List ℕ) × (returns_so xs ≡ Some rs) × (begins (calls v) rs ≡ true)

  abbrev Follows : Run → Run → Type 0
  Follows raw own = FollowsVersioned image versioned pieces sites base raw own

  abbrev Paired : (xs ys : List Stepped) → Type 0
  Paired xs ys = ArePaired image versioned pieces sites base xs ys

  -- the versioned run up to a step of the original one that goes on
  record IsGoing (r : Run) : Type 0 where
    v : ℕ
    stands : origin pieces base v ≡ r.state.pc
    steps : List Stepped
    goes_on : r.standing ≡ GoesOn
    leads : StepsLead other (start_of versioned levels) steps (up v r.state)
    raw : IsRaw r.state
    outside : in_code r.state.pc ≡ false
    opened : AreOpen v r.steps
    classes : left_of is_extra steps ≡ classes_of r.steps
    paired : Paired r.steps steps

  -- and where that has ended
  record IsOver (r : Run) : Type 0 where
    stays : one_more one r ≡ r
    after : ℕ
    followed : Follows r (run other (start_of versioned levels) after)
    paired : Paired (gone r) (gone (run other (start_of versioned levels) after))

  -- ---- the start

  starts_alike : start_of versioned levels ≡ up image.entry (start_of image levels)
  starts_alike =
      let bytes : loaded_byte versioned ≡ laid (hidden versioned) (loaded_byte versioned) (loaded_byte image) = fun_ext (λ a. by_hidden a (hidden versioned a) refl) in
      ap (λ pc. runs.start (loaded_byte versioned) pc (starting_level levels versioned.keyed_segment)) f.entry
      ∙ (ap (λ level. runs.start (loaded_byte versioned) image.entry level) f.start_is
      ∙ ap (λ b. runs.start b image.entry (starting_level levels image.keyed_segment)) bytes)
    where
      by_hidden : (a : ℕ) (b : Bool) → hidden versioned a ≡ b → loaded_byte versioned a ≡ cond (hidden versioned a) (loaded_byte versioned a) (loaded_byte image a)
      by_hidden a true e = sym (cond-true (hidden versioned a) (loaded_byte versioned a) (loaded_byte image a) e)
      by_hidden a false e = f.outside a e ∙ sym (cond-false (hidden versioned a) (loaded_byte versioned a) (loaded_byte image a) e)

  first_words : AreWords (slice_set (replicate 32 0) 2 STACK_POINTER)
  first_words = All-set IsWord (replicate 32 0) 2 STACK_POINTER (omega arith) (All-replicate IsWord 32 0 (omega arith))

  entry_outside : in_code image.entry ≡ false
  entry_outside = f.off_text image.entry f.entry_in

  starts : IsGoing (begin (start_of image levels))
  starts = record {
    v = image.entry;
    stands = states.origin_none image versioned pieces sites base levels input f image.entry (f.no_piece image.entry entry_outside).0;
    steps = [];
    goes_on = refl;
    leads = subst (λ s. StepsLead other (start_of versioned levels) [] s) starts_alike (leads_none other (start_of versioned levels));
    raw = record {
      text = λ a h. refl;
      regs = refl;
      zero = refl;
      window = refl;
      words = first_words;
      bytes = f.bytes;
    };
    outside = entry_outside;
    opened = λ has. ([], refl, ap (λ (cs : List ℕ). begins cs []) (off_calls pieces base image.entry (f.no_piece image.entry entry_outside).0));
    classes = refl;
    paired = none;
  }

  -- ---- one step more

  -- the calls that are open at an address are open where a way leads from it
  open_on : (xs : List Stepped) (v to : ℕ) → AreOpen v xs → begins (calls to) (calls v) ≡ true → AreOpen to xs
  open_on xs v to opened more has = let o = opened has in (o.0, o.1, begins_on (calls to) (calls v) o.0 more o.2)

  after_one : (xs : List Stepped) (x : Stepped) → returns_so (xs ++ x ∷ []) ≡ returns_more (returns_so xs) x
  after_one xs x = fold-append returns_more (Some []) xs (x ∷ [])

  kept : (xs : List Stepped) (x : Stepped) (to : ℕ) → AreOpen to xs → GoBack (xs ++ x ∷ []) → list_any is_entered pieces ≡ true →
      (rs : List ℕ) × (after : List ℕ) × (begins (calls to) rs ≡ true) × (returns_after rs x ≡ Some after)
  kept xs x to opened back has =
      let o = opened has in
      let b = back has in
      (o.0, b.0, o.2, sym (ap (λ r. returns_more r x) o.1) ∙ (sym (after_one xs x) ∙ b.1))

  before_last : (xs : List Stepped) (x : Stepped) → (rs : List ℕ) × (returns_so (xs ++ x ∷ []) ≡ Some rs) → (rs : List ℕ) × (returns_so xs ≡ Some rs)
  before_last xs x h = by (returns_so xs) refl
    where
      by : (o : Option (List ℕ)) → returns_so xs ≡ o → (rs : List ℕ) × (returns_so xs ≡ Some rs)
      by (Some rs) e = (rs, e)
      by None e =
          let none : None ≡ Some h.0 = sym (ap (λ r. returns_more r x) e) ∙ (sym (after_one xs x) ∙ h.1) in
          let never : ⊥ = cc in absurd never

  went_on : (r : Run) (g : IsGoing r) (l : states.IsLed image versioned pieces sites base levels input f r.state g.v) (p : legs.IsPassed image versioned pieces sites base levels input f r.state l.to) → in_code p.x.next ≡ false → GoBack (r.steps ++ p.x ∷ []) → IsGoing (ended r.steps (step one r.state).end (step one r.state).state)
  unfolding kept
  went_on r g l p outside back =
      let end_is : (step one r.state).end ≡ Went p.x = ap (λ (o : Outcome). o.end) p.step_is in
      let next : p.u.pc ≡ p.x.next = sym (ap (λ (o : Outcome). o.state.pc) p.step_is) ∙ (went_at one r.state p.x end_is).1 in
      let on : StepsLead other p.t (p.y ∷ []) (up p.next p.u) = leads_first other p.t (up p.next p.u) (up p.next p.u) p.y [] p.step_too (leads_none other (up p.next p.u)) in
      let before : StepsLead other (up g.v r.state) (l.steps ++ p.front) p.t = leads_on other (up g.v r.state) (up l.to r.state) p.t l.steps p.front l.leads p.leads in
      let there : StepsLead other (up g.v r.state) ((l.steps ++ p.front) ++ p.y ∷ []) (up p.next p.u) = leads_on other (up g.v r.state) p.t (up p.next p.u) (l.steps ++ p.front) (p.y ∷ []) before on in
      let after = kept r.steps p.x l.to (open_on r.steps g.v l.to g.opened l.open_to) back in
      let next_too : p.next ≡ p.y.next = sym (ap (λ (o : Outcome). o.state.pc) p.step_too) ∙ (went_at other p.t p.y (ap (λ (o : Outcome). o.end) p.step_too)).1 in
      let extra = All-append (λ x. is_extra x ≡ true) l.steps p.front l.extra p.extra in
      let passed = all_passed image versioned pieces sites base r.steps g.steps (l.steps ++ p.front) g.paired extra in
      let stands : origin pieces base p.y.next ≡ p.x.next = ap (origin pieces base) (sym next_too) ∙ (p.stands outside after ∙ next) in
      let to : IsGoing (record { steps = r.steps ++ p.x ∷ []; state = p.u; standing = GoesOn }) = record {
        v = p.next;
        stands = p.stands outside after;
        steps = g.steps ++ ((l.steps ++ p.front) ++ p.y ∷ []);
        goes_on = refl;
        leads = leads_on other (start_of versioned levels) (up g.v r.state) (up p.next p.u) g.steps ((l.steps ++ p.front) ++ p.y ∷ []) g.leads there;
        raw = states.raw_next image versioned pieces sites base levels input f small r.state p.u p.x g.raw p.step_is p.fetched;
        outside = ap in_code next ∙ outside;
        opened = λ has. let k = after has in (k.1, (back has).1, p.opens outside k.0 k.1 k.2 k.3);
        classes = left_more is_extra g.steps (l.steps ++ p.front) r.steps p.x p.y g.classes extra p.real p.class;
        paired = subst (Paired (r.steps ++ p.x ∷ [])) (append_assoc g.steps (l.steps ++ p.front) (p.y ∷ [])) (both p.x p.y passed p.real p.pair outside stands);
      } in
      subst IsGoing (sym (ap (λ (o : Outcome). ended r.steps o.end o.state) p.step_is)) to

  came_to_end : (r : Run) (g : IsGoing r) (l : states.IsLed image versioned pieces sites base levels input f r.state g.v) (e : StepEnd) (u : State) (h : StepEnd) (t : State) → step other (up l.to r.state) ≡ record { end = h; state = t } → t.output ≡ u.output → EndsAlike l.to e h → ((y : Stepped) → y.pc ≡ l.to → is_extra y ≡ false) → IsOver (ended r.steps e u)
  came_to_end r g l (Exited x status) u (Exited y other_status) t is_too output alike real_at =
      let led : StepsLead other (start_of versioned levels) (g.steps ++ l.steps) (up l.to r.state) = leads_on other (start_of versioned levels) (up g.v r.state) (up l.to r.state) g.steps l.steps g.leads l.leads in
      let ran : run other (start_of versioned levels) (length (g.steps ++ l.steps) + 1) ≡ record { steps = (g.steps ++ l.steps) ++ y ∷ []; state = t; standing = HasExited other_status } =
      run_step other (start_of versioned levels) (up l.to r.state) (length (g.steps ++ l.steps)) (g.steps ++ l.steps) led ∙ ap (λ (o : Outcome). ended (g.steps ++ l.steps) o.end o.state) is_too in
      let raw : Run = record { steps = r.steps ++ x ∷ []; state = u; standing = HasExited status } in
      let real = real_at y alike.2 in
      record {
        stays = refl;
        after = length (g.steps ++ l.steps) + 1;
        followed = subst (Follows raw) (sym ran) (record {
          standing = (ap HasExited alike.0, output);
          classes = ap (λ (zs : List Stepped). left_of is_extra zs) (append_assoc g.steps l.steps (y ∷ [])) ∙ left_more is_extra g.steps l.steps r.steps x y g.classes l.extra real alike.1;
        });
        paired = subst (λ (q : Run). Paired (gone raw) (gone q)) (sym ran)
            (subst (λ (zs : List Stepped). Paired (gone raw) zs) (sym (but_last (g.steps ++ l.steps) y))
            (subst (λ (zs : List Stepped). Paired zs (g.steps ++ l.steps)) (sym (but_last r.steps x)) (all_passed image versioned pieces sites base r.steps g.steps l.steps g.paired l.extra)));
      }
  came_to_end r g l (Trapped trap) u (Trapped other_trap) t is_too output alike real_at =
      let led : StepsLead other (start_of versioned levels) (g.steps ++ l.steps) (up l.to r.state) = leads_on other (start_of versioned levels) (up g.v r.state) (up l.to r.state) g.steps l.steps g.leads l.leads in
      let ran : run other (start_of versioned levels) (length (g.steps ++ l.steps) + 1) ≡ record { steps = g.steps ++ l.steps; state = t; standing = HasTrapped other_trap } =
      run_step other (start_of versioned levels) (up l.to r.state) (length (g.steps ++ l.steps)) (g.steps ++ l.steps) led ∙ ap (λ (o : Outcome). ended (g.steps ++ l.steps) o.end o.state) is_too in
      let raw : Run = record { steps = r.steps; state = u; standing = HasTrapped trap } in
      record {
        stays = refl;
        after = length (g.steps ++ l.steps) + 1;
        followed = subst (Follows raw) (sym ran) (record {
          standing = λ off. (alike, output);
          classes = left_extra is_extra g.steps l.steps r.steps g.classes l.extra;
        });
        paired = subst (λ (q : Run). Paired (gone raw) (gone q)) (sym ran) (all_passed image versioned pieces sites base r.steps g.steps l.steps g.paired l.extra);
      }
  came_to_end r g l e u h t is_too output alike real_at = absurd alike

  ended_now : (r : Run) (g : IsGoing r) (l : states.IsLed image versioned pieces sites base levels input f r.state g.v) → legs.IsEnded image versioned pieces sites base levels input f r.state l.to → IsOver (ended r.steps (step one r.state).end (step one r.state).state)
  ended_now r g l e = subst IsOver (sym (ap (λ (o : Outcome). ended r.steps o.end o.state) e.ends)) (came_to_end r g l e.end e.u e.end_too e.u_too e.ends_too e.output e.alike e.real)

  lost_now : (r : Run) (g : IsGoing r) → legs.IsLost image versioned pieces sites base levels input f r.state → IsOver (ended r.steps (step one r.state).end (step one r.state).state)
  lost_now r g e =
      let raw : Run = record { steps = r.steps; state = r.state; standing = HasTrapped e.trap } in
      let over : IsOver raw = record {
        stays = refl;
        after = length g.steps;
        followed = subst (Follows raw) (sym g.leads) (record {
          standing = λ off. absurd (both_ways (list_any (is_returned r.state.pc) pieces) off e.at_return);
          classes = g.classes;
        });
        paired = subst (λ (q : Run). Paired (gone raw) (gone q)) (sym g.leads) g.paired;
      } in
      subst IsOver (sym (ap (λ (o : Outcome). ended r.steps o.end o.state) e.ends)) over

  more : (r : Run) (g : IsGoing r) → AreOutside (one_more one r).steps → GoBack (one_more one r).steps → IsGoing (one_more one r) ⊎ IsOver (one_more one r)
  more r g outside back =
      let next : one_more one r ≡ ended r.steps (step one r.state).end (step one r.state).state = ap (one_more_by one r) g.goes_on in
      let l = states.leads_there image versioned pieces sites base levels input f r.state g.v g.raw g.stands in
      elim (legs.passes image versioned pieces sites base levels input f r.state l.to g.raw g.outside l.stands l.real) [
        | inl p ↦
            let all : AreOutside (r.steps ++ p.x ∷ []) = subst (λ (q : Run). AreOutside q.steps) (next ∙ ap (λ (o : Outcome). ended r.steps o.end o.state) p.step_is) outside in
            let goes : GoBack (r.steps ++ p.x ∷ []) = subst (λ (q : Run). GoBack q.steps) (next ∙ ap (λ (o : Outcome). ended r.steps o.end o.state) p.step_is) back in
            inl (subst IsGoing (sym next) (went_on r g l p (last (λ x. in_code x.next ≡ false) r.steps p.x all) goes))
        | inr stopped ↦ elim stopped [
          | inl e ↦ inr (subst IsOver (sym next) (ended_now r g l e))
          | inr e ↦ inr (subst IsOver (sym next) (lost_now r g e))
        ]
      ]

  -- ---- by the number of steps

  less : (n : ℕ) → StaysOutside image versioned pieces sites base levels input (suc n) → StaysOutside image versioned pieces sites base levels input n
  unfolding run_of run
  less n h = let r = run one (start_of image levels) n in front (λ x. in_code x.next ≡ false) one r r.standing h

  back_of : (xs : List Stepped) (e : StepEnd) (u : State) → GoBack (ended xs e u).steps → GoBack xs
  back_of xs (Went x) u h has = before_last xs x (h has)
  back_of xs (Exited x status) u h has = before_last xs x (h has)
  back_of xs (Trapped trap) u h has = h has

  back_front : (r : Run) (standing : Standing) → GoBack (one_more_by one r standing).steps → GoBack r.steps
  back_front r GoesOn h = back_of r.steps (step one r.state).end (step one r.state).state h
  back_front r (HasExited status) h = h
  back_front r (HasTrapped trap) h = h

  less_back : (n : ℕ) → GoesBack image versioned pieces sites base levels input (suc n) → GoesBack image versioned pieces sites base levels input n
  unfolding run_of run
  less_back n h = let r = run one (start_of image levels) n in back_front r r.standing h

  follows : (n : ℕ) → StaysOutside image versioned pieces sites base levels input n → GoesBack image versioned pieces sites base levels input n → IsGoing (run_of image levels input n) ⊎ IsOver (run_of image levels input n)
  unfolding run_of run
  follows zero keeps back = inl starts
  follows (suc n) keeps back = elim (follows n (less n keeps) (less_back n back)) [
    | inl g ↦ more (run one (start_of image levels) n) g keeps back
    | inr over ↦ inr (subst IsOver (sym over.stays) over)
  ]

  same_states : (s : State) (v : ℕ) → IsRaw s → origin pieces base v ≡ s.pc → AreSameStates image versioned pieces sites base s (up v s)
  same_states s v raw stands = record {
    pc = stands;
    regs = refl;
    bytes = λ a text text_too. byte_seen (hidden versioned) (loaded_byte versioned) s.bytes a (seen_if a text_too);
    window = sym raw.window;
    used = refl;
    output = refl;
  }
    where
      seen_if : (a : ℕ) → in_text (layout_of versioned) a ≡ false → hidden versioned a ≡ false
      seen_if a text = ap (λ b. b || is_keyed (layout_of versioned) a) text ∙ f.keyless_too a

  going_is_followed : (r : Run) (g : IsGoing r) → Follows r (run other (start_of versioned levels) (length g.steps))
  going_is_followed r g =
      let own : Run = record { steps = g.steps; state = up g.v r.state; standing = GoesOn } in
      let so_far : IsSoFar image versioned pieces sites base r own GoesOn = (refl, same_states r.state g.v g.raw g.stands) in
      subst (Follows r) (sym g.leads) (record {
        standing = subst (IsSoFar image versioned pieces sites base r own) (sym g.goes_on) so_far;
        classes = g.classes;
      })

  going_is_paired : (r : Run) (g : IsGoing r) → Paired (gone r) (gone (run other (start_of versioned levels) (length g.steps)))
  going_is_paired r g =
      subst (λ (q : Run). Paired (gone r) (gone q)) (sym g.leads) (subst (λ (q : Standing). Paired (gone_by q r.steps) g.steps) (sym g.goes_on) g.paired)

  -- the run of each image with such a frame is followed, and the steps that go on are paired
  pub frame_pairs : (n : ℕ) → StaysOutside image versioned pieces sites base levels input n → GoesBack image versioned pieces sites base levels input n →
      (m : ℕ) × FollowsVersioned image versioned pieces sites base (run_of image levels input n) (run_of versioned levels input m) × Paired (gone (run_of image levels input n)) (gone (run_of versioned levels input m))
  unfolding run_of
  frame_pairs n keeps back = elim (follows n keeps back) [
    | inl g ↦ (length g.steps, going_is_followed (run_of image levels input n) g, going_is_paired (run_of image levels input n) g)
    | inr over ↦ (over.after, over.followed, over.paired)
  ]
