-- The forward pass: marks rise, and where each word is settled they cover all that is reached.
use Rattle.std.proofs.Common.{◌≡◌, ◌≢◌, ℕ, zero, suc, ◌+◌, ◌*◌, ◌<◌, ◌≤◌, ◌↔◌, Bool, true, false, List, [], ◌∷◌, ◌++◌, length, refl, sym, ap, ◌∙◌, subst, arith, Option, Some, None, ◌⊎◌, inl, inr, ⊎_elim, set, get_or-set_same, get_or-set_other, length-append, length-set, replicate}
use Rattle.std.specs.Prelude.{◌==◌, slice_index, slice_index_or, if◌then◌else◌}
use Rattle.std.proofs.lemmas.Bool.{cases_eq, eqb-true, eqb-false}
use Rattle.std.proofs.lemmas.List.Elements.{All-push}
use Rattle.std.proofs.lemmas.List.{get_or_append_left}
use Rattle.code_graph.specs.declared.reach.step.Step.{Step}
use Rattle.code_graph.specs.declared.reach.marks.Mark.{Mark}
use Rattle.code_graph.specs.declared.reach.marks.Mark.TheVariants.{Unreached, Owner, Shared}
use Rattle.code_graph.specs.Flow.{step_at}
use Rattle.code_graph.specs.Marks.{jumped_word, called_word, goes_on_after, ReachedAt, IsReachedTwice, mark_at, function_number, raised, Covers, Below, IsDue, height, heights, IsMarkPass, IsFrom, MarksGrow, IsMarkSettled, AllWait, next_of}
use Rattle.code_graph.specs.Marks.ReachedAt.{enters, jumps, goes, calls}

-- ---- one mark
pub raised_none : (o m : Mark) → raised o m ≡ None → Below m o
raised_none Unreached Unreached h f c = c
raised_none Unreached (Owner g) h f c = let bad : ⊥ = cc in absurd bad
raised_none Unreached Shared h f c = let bad : ⊥ = cc in absurd bad
raised_none (Owner e) Unreached h f c = ⊎_elim (λ a. (let bad : ⊥ = cc in absurd bad)) (λ a. (let bad : ⊥ = cc in absurd bad)) c
raised_none (Owner e) (Owner g) h f c = go (e == g) refl h
  where
    go : (b : Bool) → (e == g) ≡ b → (if b then None else Some Shared) ≡ None → Covers (Owner e) f
    go true at q = ⊎_elim (λ a. inl (ap Owner (eqb-true e g at) ∙ a)) (λ a. (let bad : ⊥ = cc in absurd bad)) c
    go false at q = let bad : ⊥ = cc in absurd bad
raised_none (Owner e) Shared h f c = let bad : ⊥ = cc in absurd bad
raised_none Shared m h f c = inr refl

pub raised_old : (o m n : Mark) → raised o m ≡ Some n → Below o n
raised_old Unreached m n h f c = ⊎_elim (λ a. (let bad : ⊥ = cc in absurd bad)) (λ a. (let bad : ⊥ = cc in absurd bad)) c
raised_old (Owner e) Unreached n h f c = let bad : ⊥ = cc in absurd bad
raised_old (Owner e) (Owner g) n h f c = go (e == g) h
  where
    go : (b : Bool) → (if b then None else Some Shared) ≡ Some n → Covers n f
    go true q = let bad : ⊥ = cc in absurd bad
    go false q = inr cc
raised_old (Owner e) Shared n h f c = inr cc
raised_old Shared m n h f c = let bad : ⊥ = cc in absurd bad

pub raised_new : (o m n : Mark) → raised o m ≡ Some n → Below m n
raised_new Unreached Unreached n h f c = let bad : ⊥ = cc in absurd bad
raised_new Unreached (Owner g) n h f c = let e : Owner g ≡ n = cc in subst (λ x. Covers x f) e c
raised_new Unreached Shared n h f c = inr cc
raised_new (Owner e) Unreached n h f c = let bad : ⊥ = cc in absurd bad
raised_new (Owner e) (Owner g) n h f c = go (e == g) h
  where
    go : (b : Bool) → (if b then None else Some Shared) ≡ Some n → Covers n f
    go true q = let bad : ⊥ = cc in absurd bad
    go false q = inr cc
raised_new (Owner e) Shared n h f c = inr cc
raised_new Shared m n h f c = let bad : ⊥ = cc in absurd bad

pub raised_height : (o m n : Mark) → raised o m ≡ Some n → height o + 1 ≤ height n
raised_height Unreached Unreached n h = let bad : ⊥ = cc in absurd bad
raised_height Unreached (Owner g) n h = let e : Owner g ≡ n = cc in subst (λ x. 0 + 1 ≤ height x) e (omega arith)
raised_height Unreached Shared n h = let e : Shared ≡ n = cc in subst (λ x. 0 + 1 ≤ height x) e (omega arith)
raised_height (Owner e) Unreached n h = let bad : ⊥ = cc in absurd bad
raised_height (Owner e) (Owner g) n h = go (e == g) h
  where
    go : (b : Bool) → (if b then None else Some Shared) ≡ Some n → 1 + 1 ≤ height n
    go true q = let bad : ⊥ = cc in absurd bad
    go false q = let r : Shared ≡ n = cc in subst (λ x. 1 + 1 ≤ height x) r (omega arith)
raised_height (Owner e) Shared n h = let r : Shared ≡ n = cc in subst (λ x. 1 + 1 ≤ height x) r (omega arith)
raised_height Shared m n h = let bad : ⊥ = cc in absurd bad

module _ (steps : List Step) (returns : List Bool) (first v : ℕ) where
  pub raised_due : (o m n : Mark) → raised o m ≡ Some n → IsDue steps returns first o v → IsDue steps returns first m v → IsDue steps returns first n v
  raised_due Unreached Unreached n h a b = let bad : ⊥ = cc in absurd bad
  raised_due Unreached (Owner g) n h a b = let r : Owner g ≡ n = cc in subst (λ x. IsDue steps returns first x v) r b
  raised_due Unreached Shared n h a b = let r : Shared ≡ n = cc in subst (λ x. IsDue steps returns first x v) r b
  raised_due (Owner e) Unreached n h a b = let bad : ⊥ = cc in absurd bad
  raised_due (Owner e) (Owner g) n h a b = go (e == g) refl h
    where
      go : (c : Bool) → (e == g) ≡ c → (if c then None else Some Shared) ≡ Some n → IsDue steps returns first n v
      go true at q = let bad : ⊥ = cc in absurd bad
      go false at q = let r : Shared ≡ n = cc in subst (λ x. IsDue steps returns first x v) r (record {
        one = λ f s. (let bad : ⊥ = cc in absurd bad);
        two = λ s. (e, g, eqb-false e g at, a.one e refl, b.one g refl);
      })
  raised_due (Owner e) Shared n h a b = let r : Shared ≡ n = cc in subst (λ x. IsDue steps returns first x v) r b
  raised_due Shared m n h a b = let bad : ⊥ = cc in absurd bad

pub high_covers : (n : Mark) → 1 ≤ height n → (f : ℕ) × Covers n f
high_covers Unreached h = let bad : ⊥ = omega arith in absurd bad
high_covers (Owner f) h = (f, inl refl)
high_covers Shared h = (0, inr refl)

-- ---- heights
pub heights_set : (marks : List Mark) (k : ℕ) (n : Mark) → k < length marks → height (mark_at marks k) + 1 ≤ height n → heights marks + 1 ≤ heights (set marks k n)
heights_set [] k n lt h = let bad : ⊥ = omega arith in absurd bad
heights_set (m ∷ ms) zero n lt h = omega arith
heights_set (m ∷ ms) (suc k) n lt h = let ih = heights_set ms k n (omega arith) h in omega arith

height_le : (m : Mark) → height m ≤ 2
height_le Unreached = omega arith
height_le (Owner f) = omega arith
height_le Shared = omega arith

pub heights_le : (marks : List Mark) → heights marks ≤ 2 * length marks
heights_le [] = omega arith
heights_le (m ∷ ms) = let a = height_le m in let ih = heights_le ms in omega arith

-- ---- growth
pub grows_same : (marks : List Mark) (numbers : List (Option ℕ)) (queue : List ℕ) → MarksGrow marks numbers queue marks numbers queue
grows_same marks numbers queue = record { longer = omega arith; front = λ p lt. refl; above = λ v f c. c; fresh = λ v. inl refl; numbered = λ h i e. e }

pub last_of : (queue : List ℕ) (j : ℕ) → slice_index (queue ++ j ∷ []) (length queue) ≡ j
last_of [] j = refl
last_of (x ∷ xs) j = last_of xs j

module _ (ma mb mc : List Mark) (na nb nc : List (Option ℕ)) (qa qb qc : List ℕ) (g : MarksGrow ma na qa mb nb qb) (h : MarksGrow mb nb qb mc nc qc) where
  pub grows_on : MarksGrow ma na qa mc nc qc
  grows_on = record {
    longer = (let x = g.longer in let y = h.longer in omega arith);
    front = λ p lt. h.front p (let x = g.longer in let r : p < length qb = omega arith in r) ∙ g.front p lt;
    above = λ v f c. h.above v f (g.above v f c);
    fresh = λ v. ⊎_elim
        (λ same. ⊎_elim (λ a. inl (same ∙ a))
        (λ (w : IsFrom qb (length qa) v). inr (w.0, w.1, (let x = h.longer in let y = w.2 in let r : w.0 < length qc = omega arith in r), h.front w.0 w.2 ∙ w.3)) (g.fresh v))
        (λ (w : IsFrom qc (length qb) v). inr (w.0, (let x = g.longer in let y = w.1 in let r : length qa ≤ w.0 = omega arith in r), w.2, w.3)) (h.fresh v);
    numbered = λ k i e. h.numbered k i (g.numbered k i e);
  }

module _ (steps : List Step) (returns : List Bool) (first : ℕ) (marks : List Mark) (functions : List ℕ) (numbers : List (Option ℕ)) (queue : List ℕ) (pass : IsMarkPass steps returns first marks functions numbers queue) where
  module _ (k : ℕ) (m n : Mark) (kl : k < length steps) (due : IsDue steps returns first m k) (is : raised (mark_at marks k) m ≡ Some n) where
    here : (v : ℕ) → v ≡ k → mark_at (set marks k n) v ≡ n
    here v e = ap (mark_at (set marks k n)) e ∙ get_or-set_same marks k n Unreached (let z = pass.marks_size in omega arith)

    other : (v : ℕ) → v ≢ k → mark_at (set marks k n) v ≡ mark_at marks v
    other v ne = get_or-set_other marks k v n Unreached ne

    rises : (v : ℕ) → Below (mark_at marks v) (mark_at (set marks k n) v)
    rises v = ⊎_elim
        (λ (e : v ≡ k). λ f c. subst (λ x. Covers x f) (sym (here v e)) (raised_old (mark_at marks k) m n is f (subst (λ x. Covers (mark_at marks x) f) e c)))
        (λ ne. λ f c. subst (λ x. Covers x f) (sym (other v ne)) c) (cases_eq v k)

    pub reach_pass : IsMarkPass steps returns first (set marks k n) functions numbers (queue ++ k ∷ [])
    reach_pass = record {
      marks_size = length-set marks k n ∙ pass.marks_size;
      numbers_size = pass.numbers_size;
      due = λ v. ⊎_elim
          (λ (e : v ≡ k). subst (λ x. IsDue steps returns first x v) (sym (here v e)) (subst (λ x. IsDue steps returns first n x) (sym e) (raised_due steps returns first k (mark_at marks k) m n is (pass.due k) due)))
          (λ ne. subst (λ x. IsDue steps returns first x v) (sym (other v ne)) (pass.due v)) (cases_eq v k);
      listed = pass.listed;
      called = pass.called;
      counted = (let a = heights_set marks k n (let z = pass.marks_size in let r : k < length marks = omega arith in r) (raised_height (mark_at marks k) m n is) in let b = pass.counted in let l = length-append queue (k ∷ []) in omega arith);
      within = All-push (λ x. x < length steps) queue k pass.within kl;
      covered = λ p lt. ⊎_elim
          (λ (e : p ≡ length queue).
          let c = high_covers n (let r = raised_height (mark_at marks k) m n is in let q : 1 ≤ height n = omega arith in q) in
          let v : k ≡ slice_index (queue ++ k ∷ []) p = sym (ap (slice_index (queue ++ k ∷ [])) e ∙ last_of queue k) in
          (c.0, subst (λ x. Covers x c.0) (sym (here (slice_index (queue ++ k ∷ []) p) (sym v))) c.1))
          (λ ne.
          let old : p < length queue = (let l = length-append queue (k ∷ []) in omega (arith, ne)) in
          let c = pass.covered p old in
          (c.0, subst (λ x. Covers (mark_at (set marks k n) x) c.0) (sym (get_or_append_left queue (k ∷ []) 0 p old)) (rises (slice_index queue p) c.0 c.1)))
          (cases_eq p (length queue));
    }

    pub reach_grows : MarksGrow marks numbers queue (set marks k n) numbers (queue ++ k ∷ [])
    reach_grows = record {
      longer = (let l = length-append queue (k ∷ []) in omega arith);
      front = λ p lt. get_or_append_left queue (k ∷ []) 0 p lt;
      above = rises;
      fresh = λ v. ⊎_elim
          (λ (e : v ≡ k). inr (length queue, (let r : length queue ≤ length queue = omega arith in r), (let l = length-append queue (k ∷ []) in let r : length queue < length (queue ++ k ∷ []) = omega arith in r), last_of queue k ∙ sym e))
          (λ ne. inl (other v ne)) (cases_eq v k);
      numbered = λ h i e. e;
    }

    pub reach_reached : Below m (mark_at (set marks k n) k)
    reach_reached f c = subst (λ x. Covers x f) (sym (here k refl)) (raised_new (mark_at marks k) m n is f c)

pub mark_same : (xs : List Mark) (i : ℕ) (d e : Mark) → i < length xs → slice_index_or xs i d ≡ slice_index_or xs i e
mark_same [] i d e lt = let bad : ⊥ = omega arith in absurd bad
mark_same (x ∷ xs) zero d e lt = refl
mark_same (x ∷ xs) (suc i) d e lt = mark_same xs i d e (omega arith)

pub number_same : (xs : List (Option ℕ)) (i : ℕ) (d e : Option ℕ) → i < length xs → slice_index_or xs i d ≡ slice_index_or xs i e
number_same [] i d e lt = let bad : ⊥ = omega arith in absurd bad
number_same (x ∷ xs) zero d e lt = refl
number_same (x ∷ xs) (suc i) d e lt = number_same xs i d e (omega arith)

-- ---- one function more
module _ (steps : List Step) (returns : List Bool) (first : ℕ) (marks : List Mark) (functions : List ℕ) (numbers : List (Option ℕ)) (queue : List ℕ) (pass : IsMarkPass steps returns first marks functions numbers queue) (h : ℕ) (hl : h < length steps) (none : function_number numbers h ≡ None) (reached : ReachedAt steps returns first h h) where
  number_here : (x : ℕ) → x ≡ h → function_number (set numbers h (Some (length functions))) x ≡ Some (length functions)
  number_here x e = ap (function_number (set numbers h (Some (length functions)))) e ∙ get_or-set_same numbers h (Some (length functions)) None (let z = pass.numbers_size in omega arith)

  number_other : (x : ℕ) → x ≢ h → function_number (set numbers h (Some (length functions))) x ≡ function_number numbers x
  number_other x ne = get_or-set_other numbers h x (Some (length functions)) None ne

  number_to : (x i : ℕ) → function_number (set numbers h (Some (length functions))) x ≡ Some i → (i < length (functions ++ h ∷ [])) × (slice_index (functions ++ h ∷ []) i ≡ x)
  number_to x i at = ⊎_elim
      (λ (e : x ≡ h).
      let same : length functions ≡ i = some_at (length functions) i _ (number_here x e) at in
      ((let l = length-append functions (h ∷ []) in let r : i < length (functions ++ h ∷ []) = omega arith in r), ap (slice_index (functions ++ h ∷ [])) (sym same) ∙ last_of functions h ∙ sym e))
      (λ ne.
      let old = (pass.listed x i).0 (sym (number_other x ne) ∙ at) in
      ((let lt = old.0 in let l = length-append functions (h ∷ []) in let r : i < length (functions ++ h ∷ []) = omega arith in r), get_or_append_left functions (h ∷ []) 0 i old.0 ∙ old.1))
      (cases_eq x h)
    where
      some_at : (a b : ℕ) (o : Option ℕ) → o ≡ Some a → o ≡ Some b → a ≡ b
      some_at a b o p q = cc

  number_keeps : (x i : ℕ) → function_number numbers x ≡ Some i → function_number (set numbers h (Some (length functions))) x ≡ Some i
  number_keeps x i at = ⊎_elim
      (λ (e : x ≡ h). absurd (no i (function_number numbers h) none (ap (function_number numbers) (sym e) ∙ at)))
      (λ ne. number_other x ne ∙ at) (cases_eq x h)
    where
      no : (i : ℕ) (o : Option ℕ) → o ≡ None → o ≡ Some i → ⊥
      no i o p q = cc

  number_from : (x i : ℕ) → (i < length (functions ++ h ∷ [])) × (slice_index (functions ++ h ∷ []) i ≡ x) → function_number (set numbers h (Some (length functions))) x ≡ Some i
  number_from x i w = ⊎_elim
      (λ (e : i ≡ length functions).
      let same : x ≡ h = sym w.1 ∙ ap (slice_index (functions ++ h ∷ [])) e ∙ last_of functions h in
      number_here x same ∙ ap Some (sym e))
      (λ ne.
      let lt : i < length functions = (let l = length-append functions (h ∷ []) in let a = w.0 in omega (arith, ne)) in
      number_keeps x i ((pass.listed x i).1 (lt, sym (get_or_append_left functions (h ∷ []) 0 i lt) ∙ w.1)))
      (cases_eq i (length functions))

  pub number_pass : IsMarkPass steps returns first marks (functions ++ h ∷ []) (set numbers h (Some (length functions))) queue
  number_pass = record {
    marks_size = pass.marks_size;
    numbers_size = length-set numbers h (Some (length functions)) ∙ pass.numbers_size;
    due = pass.due;
    listed = λ x i. (number_to x i, number_from x i);
    called = λ x i at. ⊎_elim
        (λ (e : x ≡ h). subst (λ y. ReachedAt steps returns first y y) (sym e) reached)
        (λ ne. pass.called x i (sym (number_other x ne) ∙ at)) (cases_eq x h);
    counted = pass.counted;
    within = pass.within;
    covered = pass.covered;
  }

-- ---- where a word goes on
module _ (steps : List Step) (returns : List Bool) (first u : ℕ) (m : Mark) (due : IsDue steps returns first m u) where
  pub due_jump : (k : ℕ) → jumped_word (step_at steps u) ≡ Some k → k < length steps → IsDue steps returns first m k
  due_jump k at lt = record {
    one = λ f s. jumps u (due.one f s) at lt;
    two = λ s. let w = due.two s in (w.0, w.1, w.2, jumps u w.3 at lt, jumps u w.4 at lt);
  }

  pub due_next : goes_on_after (step_at steps u) returns ≡ true → u + 1 < length steps → IsDue steps returns first m (u + 1)
  due_next at lt = record {
    one = λ f s. goes u (due.one f s) at refl lt;
    two = λ s. let w = due.two s in (w.0, w.1, w.2, goes u w.3 at refl lt, goes u w.4 at refl lt);
  }

  pub reached_call : (f h : ℕ) → Covers m f → called_word (step_at steps u) ≡ Some h → h < length steps → ReachedAt steps returns first h h
  reached_call f h c at lt = ⊎_elim (λ s. calls f u (due.one f s) at refl lt) (λ s. let w = due.two s in calls w.0 u w.3 at refl lt) c

-- ---- the whole pass
module _ (steps : List Step) (returns : List Bool) (marks : List Mark) (numbers : List (Option ℕ)) (queue : List ℕ) (marks_then : List Mark) (numbers_then : List (Option ℕ)) (queue_then : List ℕ) (g : MarksGrow marks numbers queue marks_then numbers_then queue_then) where
  pub settled_stays : (u : ℕ) → mark_at marks_then u ≡ mark_at marks u → IsMarkSettled steps returns marks numbers u → IsMarkSettled steps returns marks_then numbers_then u
  settled_stays u same s = record {
    jump = λ k at lt f c. g.above k f (s.jump k at lt f (subst (λ x. Covers x f) same c));
    next = λ at lt f c. g.above (u + 1) f (s.next at lt f (subst (λ x. Covers x f) same c));
    call = λ f h c at lt. (let w = s.call f h (subst (λ x. Covers x f) same c) at lt in (g.above h h w.0, (w.1.0, g.numbered h w.1.0 w.1.1)));
  }

  -- after the visit of the word at `done`
  pub wait_next : (done u : ℕ) → slice_index queue done ≡ u → done < length queue → IsMarkSettled steps returns marks_then numbers_then u ⊎ IsFrom queue_then (length queue) u →
      AllWait steps returns marks numbers queue done → AllWait steps returns marks_then numbers_then queue_then (done + 1)
  wait_next done u at dl seen waits x xl = ⊎_elim
      (λ settled. ⊎_elim (λ same. inl (settled_stays x same settled)) (λ w. inr (late x w)) (g.fresh x))
      (λ (w : IsFrom queue done x). ⊎_elim
      (λ (e : w.0 ≡ done). subst (λ y. IsMarkSettled steps returns marks_then numbers_then y ⊎ IsFrom queue_then (done + 1) y) (sym at ∙ ap (slice_index queue) (sym e) ∙ w.3) (⊎_elim (λ s. inl s) (λ v. inr (late u v)) seen))
      (λ ne. inr (w.0, (let a = w.1 in let r : done + 1 ≤ w.0 = omega (arith, ne) in r), (let a = w.2 in let b = g.longer in let r : w.0 < length queue_then = omega arith in r), g.front w.0 w.2 ∙ w.3))
      (cases_eq w.0 done))
      (waits x xl)
    where
      late : (y : ℕ) → IsFrom queue_then (length queue) y → IsFrom queue_then (done + 1) y
      late y v = (v.0, (let a = v.1 in let r : done + 1 ≤ v.0 = omega arith in r), v.2, v.3)

module _ (steps : List Step) (returns : List Bool) (first : ℕ) (marks : List Mark) (numbers : List (Option ℕ)) (settled : (u : ℕ) → u < length steps → IsMarkSettled steps returns marks numbers u) (start : Covers (mark_at marks first) first) where
  pub reached_within : (f v : ℕ) → ReachedAt steps returns first f v → v < length steps
  reached_within f v (enters ef ev lt) = subst (λ x. x < length steps) (sym ev) lt
  reached_within f v (jumps u r at lt) = lt
  reached_within f v (goes u r at e lt) = lt
  reached_within f v (calls g u r at e lt) = subst (λ x. x < length steps) (sym e) lt

  pub covered : (f v : ℕ) → ReachedAt steps returns first f v → Covers (mark_at marks v) f
  covered f v (enters ef ev lt) = subst (λ x. Covers (mark_at marks x) f) (sym ev) (subst (λ x. Covers (mark_at marks first) x) (sym ef) start)
  covered f v (jumps u r at lt) = (settled u (reached_within f u r)).jump v at lt f (covered f u r)
  covered f v (goes u r at e lt) = subst (λ x. Covers (mark_at marks x) f) (sym e) ((settled u (reached_within f u r)).next at (subst (λ x. x < length steps) e lt) f (covered f u r))
  covered f v (calls g u r at e lt) = subst (λ x. Covers (mark_at marks x) f) (sym e) ((settled u (reached_within g u r)).call g f (covered g u r) at lt).0

  pub numbered_all : (i0 : ℕ) → function_number numbers first ≡ Some i0 → (f v : ℕ) → ReachedAt steps returns first f v → (i : ℕ) × (function_number numbers f ≡ Some i)
  numbered_all i0 at0 f v (enters ef ev lt) = (i0, ap (function_number numbers) ef ∙ at0)
  numbered_all i0 at0 f v (jumps u r at lt) = numbered_all i0 at0 f u r
  numbered_all i0 at0 f v (goes u r at e lt) = numbered_all i0 at0 f u r
  numbered_all i0 at0 f v (calls g u r at e lt) = ((settled u (reached_within g u r)).call g f (covered g u r) at lt).1

  module _ (due : (v : ℕ) → IsDue steps returns first (mark_at marks v) v) where
    pub owner_exactly : (v f : ℕ) → (mark_at marks v ≡ Owner f) ↔ (ReachedAt steps returns first f v × ((g : ℕ) → ReachedAt steps returns first g v → g ≡ f))
    owner_exactly v f = (λ s. ((due v).one f s, λ g r. one g s (covered g v r)), λ w. back w.0 w.1 (covered f v w.0))
      where
        one : (g : ℕ) → mark_at marks v ≡ Owner f → Covers (mark_at marks v) g → g ≡ f
        one g s c = ⊎_elim (λ a. apart a s) (λ a. (let bad : ⊥ = no (mark_at marks v) a s in absurd bad)) c
          where
            apart : mark_at marks v ≡ Owner g → mark_at marks v ≡ Owner f → g ≡ f
            apart a b = go (mark_at marks v) a b
              where
                go : (m : Mark) → m ≡ Owner g → m ≡ Owner f → g ≡ f
                go m a b = cc

            no : (m : Mark) → m ≡ Shared → m ≡ Owner f → ⊥
            no m a b = cc

        back : ReachedAt steps returns first f v → ((g : ℕ) → ReachedAt steps returns first g v → g ≡ f) → Covers (mark_at marks v) f → mark_at marks v ≡ Owner f
        back r alone c = ⊎_elim (λ a. a) (λ a. let w = (due v).two a in absurd (w.2 (alone w.0 w.3 ∙ sym (alone w.1 w.4)))) c

    pub shared_exactly : (v : ℕ) → (mark_at marks v ≡ Shared) ↔ IsReachedTwice steps returns first v
    shared_exactly v = (λ s. (due v).two s, λ w. ⊎_elim (λ a. ⊎_elim (λ b. absurd (w.2 (same (mark_at marks v) w.0 w.1 a b))) (λ b. b) (covered w.1 v w.4)) (λ a. a) (covered w.0 v w.3))
      where
        same : (m : Mark) (f g : ℕ) → m ≡ Owner f → m ≡ Owner g → f ≡ g
        same m f g a b = cc

    pub unreached_exactly : (v : ℕ) → (mark_at marks v ≡ Unreached) ↔ ((f : ℕ) → ReachedAt steps returns first f v → ⊥)
    unreached_exactly v = (λ s f r. ⊎_elim (λ a. no_owner (mark_at marks v) f s a) (λ a. no_shared (mark_at marks v) s a) (covered f v r), λ none. go (mark_at marks v) refl none)
      where
        no_owner : (m : Mark) (f : ℕ) → m ≡ Unreached → m ≡ Owner f → ⊥
        no_owner m f a b = cc

        no_shared : (m : Mark) → m ≡ Unreached → m ≡ Shared → ⊥
        no_shared m a b = cc

        go : (m : Mark) → mark_at marks v ≡ m → ((f : ℕ) → ReachedAt steps returns first f v → ⊥) → mark_at marks v ≡ Unreached
        go Unreached s none = s
        go (Owner f) s none = absurd (none f ((due v).one f s))
        go Shared s none = let w = (due v).two s in absurd (none w.0 w.3)

next_is : (steps : List Step) (returns : List Bool) (u k : ℕ) → next_of (step_at steps u) returns u ≡ Some k → (goes_on_after (step_at steps u) returns ≡ true) × (k ≡ u + 1)
next_is steps returns u k h = go (goes_on_after (step_at steps u) returns) refl h
  where
    go : (b : Bool) → goes_on_after (step_at steps u) returns ≡ b → (if b then Some (u + 1) else None) ≡ Some k → (goes_on_after (step_at steps u) returns ≡ true) × (k ≡ u + 1)
    go true at e = (at, cc)
    go false at e = let bad : ⊥ = cc in absurd bad

pub is_next : (steps : List Step) (returns : List Bool) (u : ℕ) → goes_on_after (step_at steps u) returns ≡ true → next_of (step_at steps u) returns u ≡ Some (u + 1)
is_next steps returns u h = ap (λ b. if b then Some (u + 1) else None) h

pub due_next_of : (steps : List Step) (returns : List Bool) (first u : ℕ) (m : Mark) → IsDue steps returns first m u → (k : ℕ) → next_of (step_at steps u) returns u ≡ Some k → k < length steps → IsDue steps returns first m k
due_next_of steps returns first u m due k at lt =
    let w = next_is steps returns u k at in
    subst (λ x. IsDue steps returns first m x) (sym w.1) (due_next steps returns first u m due w.0 (subst (λ x. x < length steps) w.1 lt))

-- a word that has been visited: first its call, then its jump, then the next word
module _ (steps : List Step) (returns : List Bool) (u : ℕ) (m : Mark) (ma mb mc md : List Mark) (na nb nc nd : List (Option ℕ)) (qa qb qc qd : List ℕ) (ga : MarksGrow ma na qa mb nb qb) (gb : MarksGrow mb nb qb mc nc qc) (gc : MarksGrow mc nc qc md nd qd) where
  pub go_grows : MarksGrow ma na qa md nd qd
  go_grows = grows_on ma mc md na nc nd qa qc qd (grows_on ma mb mc na nb nc qa qb qc ga gb) gc

  pub go_settled : mark_at ma u ≡ m →
      ((h : ℕ) → called_word (step_at steps u) ≡ Some h → h < length steps → Covers (mark_at mb h) h × ((i : ℕ) × (function_number nb h ≡ Some i))) →
      ((k : ℕ) → jumped_word (step_at steps u) ≡ Some k → k < length steps → Below m (mark_at mc k)) →
      ((k : ℕ) → next_of (step_at steps u) returns u ≡ Some k → k < length steps → Below m (mark_at md k)) →
      IsMarkSettled steps returns md nd u ⊎ IsFrom qd (length qa) u
  go_settled is called jumped next = ⊎_elim
      (λ same. inl (record {
        jump = λ k at lt f c. gc.above k f (jumped k at lt f (subst (λ x. Covers x f) (same ∙ is) c));
        next = λ at lt f c. next (u + 1) (is_next steps returns u at) lt f (subst (λ x. Covers x f) (same ∙ is) c);
        call = λ f h c at lt. (let w = called h at lt in (gc.above h h (gb.above h h w.0), (w.1.0, gc.numbered h w.1.0 (gb.numbered h w.1.0 w.1.1))));
      }))
      (λ w. inr w) (go_grows.fresh u)

-- ---- the start
none_mark : (n v : ℕ) → mark_at (replicate n Unreached) v ≡ Unreached
none_mark zero v = refl
none_mark (suc n) zero = refl
none_mark (suc n) (suc v) = none_mark n v

none_number : (n v : ℕ) → function_number (replicate n None) v ≡ None
none_number zero v = refl
none_number (suc n) zero = refl
none_number (suc n) (suc v) = none_number n v

pub no_number : (n : ℕ) (numbers : List (Option ℕ)) → numbers ≡ replicate n None → (v : ℕ) → function_number numbers v ≡ None
no_number n numbers e v = ap (λ xs. function_number xs v) e ∙ none_number n v

unreached_one : (m : Mark) (f : ℕ) → m ≡ Unreached → m ≡ Owner f → ⊥
unreached_one m f a b = cc

unreached_two : (m : Mark) → m ≡ Unreached → m ≡ Shared → ⊥
unreached_two m a b = cc

module _ (steps : List Step) (returns : List Bool) (first : ℕ) (marks : List Mark) (functions : List ℕ) (numbers : List (Option ℕ)) (queue : List ℕ) (ml : length marks ≡ length steps) (nl : length numbers ≡ length steps) (me : marks ≡ replicate (length steps) Unreached) (fe : functions ≡ []) (ne : numbers ≡ replicate (length steps) None) (qe : queue ≡ []) where
  no_mark : (v : ℕ) → mark_at marks v ≡ Unreached
  no_mark v = ap (λ xs. mark_at xs v) me ∙ none_mark (length steps) v

  start_settled : (u : ℕ) → IsMarkSettled steps returns marks numbers u
  start_settled u = record {
    jump = λ k at lt f c. absurd (no_cover u f c);
    next = λ at lt f c. absurd (no_cover u f c);
    call = λ f h c at lt. absurd (no_cover u f c);
  }
    where
      no_cover : (u f : ℕ) → Covers (mark_at marks u) f → ⊥
      no_cover u f c = ⊎_elim (λ a. unreached_one (mark_at marks u) f (no_mark u) a) (λ a. unreached_two (mark_at marks u) (no_mark u) a) c

  pub start_waits : (marks_then : List Mark) (numbers_then : List (Option ℕ)) (queue_then : List ℕ) → MarksGrow marks numbers queue marks_then numbers_then queue_then → AllWait steps returns marks_then numbers_then queue_then 0
  start_waits marks_then numbers_then queue_then g u ul = ⊎_elim
      (λ same. inl (settled_stays steps returns marks numbers queue marks_then numbers_then queue_then g u same (start_settled u)))
      (λ w. inr (w.0, (let r : 0 ≤ w.0 = omega arith in r), w.2, w.3)) (g.fresh u)

-- ---- the end
pub all_settled : (steps : List Step) (returns : List Bool) (marks : List Mark) (numbers : List (Option ℕ)) (queue : List ℕ) (done : ℕ) → length queue ≤ done → AllWait steps returns marks numbers queue done → (u : ℕ) → u < length steps → IsMarkSettled steps returns marks numbers u
all_settled steps returns marks numbers queue done end waits u ul = ⊎_elim (λ s. s) (λ (w : IsFrom queue done u). absurd (let a = w.1 in let b = w.2 in omega arith)) (waits u ul)

pub queue_below : (steps : List Step) (returns : List Bool) (first : ℕ) (marks : List Mark) (functions : List ℕ) (numbers : List (Option ℕ)) (queue : List ℕ) → IsMarkPass steps returns first marks functions numbers queue → length queue ≤ 2 * length steps
queue_below steps returns first marks functions numbers queue pass = let a = pass.counted in let b = heights_le marks in let c = pass.marks_size in omega arith

pub size_marks : (n : ℕ) → length (replicate n Unreached) ≡ n
size_marks zero = refl
size_marks (suc n) = ap suc (size_marks n)

pub size_numbers : (n : ℕ) (x : Option ℕ) → length (replicate n x) ≡ n
size_numbers zero x = refl
size_numbers (suc n) x = ap suc (size_numbers n x)
