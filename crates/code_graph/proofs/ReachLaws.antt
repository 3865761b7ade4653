-- What is reached by numbers of words is what is reached by addresses.
use Rattle.std.proofs.Common.{◌≡◌, ℕ, ◌+◌, ◌<◌, ◌↔◌, Bool, true, false, List, length, Option, Some, None, refl, sym, ap, ◌∙◌, subst, arith, inl, inr, ⊎_elim}
use Rattle.std.specs.Prelude.{slice_get, slice_index_or}
use Rattle.std.proofs.lemmas.Bool.{and_from}
use Rattle.std.proofs.lemmas.Option.{slice_get_within, slice_get-get_or, get_or_from_slice_get}
use Rattle.cost_theory.specs.declared.flow.Flow.{Flow}
use Rattle.cost_theory.specs.declared.flow.Flow.TheVariants as flow
use Rattle.cost_theory.specs.Reached.{LeadsTo, Reached, DoesReturn}
use Rattle.cost_theory.specs.Reached.Reached.{main, onward, back, called}
use Rattle.code_text.specs.Text.{Text, kind_at}
use Rattle.code_text.specs.Table.{WordTable, word_table}
use Rattle.code_graph.specs.declared.reach.step.Step.{Step}
use Rattle.code_graph.specs.declared.reach.marks.Mark.{Mark}
use Rattle.code_graph.specs.declared.reach.marks.Mark.TheVariants.{Unreached, Owner, Shared}
use Rattle.code_graph.specs.Flow.{step_at, flag, CanReturnAt}
use Rattle.code_graph.specs.Marks.{jumped_word, called_word, goes_on_after, ReachedAt}
use Rattle.code_graph.specs.Marks.ReachedAt.{enters, jumps, goes, calls as calls_at}
use Rattle.code_graph.specs.Reach.{WordStandsAt, IsReachOf}
use Rattle.flow_graph.specs.Refused.{IsReached, IsShared}
use Rattle.code_graph.specs.Steps.{IsWordTableOf, IsWordNumber, AreSteps, ReachedFrom, AreReachMarks}
use Rattle.code_graph.specs.Outside.{IsLowest, IsOutsideOf, has_mark, GoesOnTo, IsComeTo}
use Rattle.code_graph.proofs.ReturnLaws.{returns_from, entry_from, returns_exactly}
use Rattle.code_graph.proofs.ReturnLaws.CanReturn.{here}
use Rattle.code_graph.proofs.NumberedSteps.{jump_leads, callee_is, next_leads, step_leads, step_calls, within, same_word, next_word, step_of, number_of, can_return, can_return_at}

-- ---- one step more from the word where the program begins, if it is one
module _ (steps : List Step) (returns : List Bool) where
  by_jump : (o : Option ℕ) (f u v : ℕ) → ReachedFrom steps returns o f u → jumped_word (step_at steps u) ≡ Some v → v < length steps → ReachedFrom steps returns o f v
  by_jump None f u v r e lt = r
  by_jump (Some first) f u v r e lt = jumps u r e lt

  by_next : (o : Option ℕ) (f u v : ℕ) → ReachedFrom steps returns o f u → goes_on_after (step_at steps u) returns ≡ true → v ≡ u + 1 → v < length steps → ReachedFrom steps returns o f v
  by_next None f u v r e same lt = r
  by_next (Some first) f u v r e same lt = goes u r e same lt

  by_call : (o : Option ℕ) (g u f : ℕ) → ReachedFrom steps returns o g u → called_word (step_at steps u) ≡ Some f → f < length steps → ReachedFrom steps returns o f f
  by_call None g u f r e lt = r
  by_call (Some first) g u f r e lt = calls_at g u r e refl lt

module _ (word : ℕ → Flow) (words : WordTable) (steps : List Step) (table : IsWordTableOf word words) (are : AreSteps words steps) (returns : List Bool) (flags : (s : ℕ) → (flag returns s ≡ true) ↔ CanReturnAt steps s) (entry : ℕ) where
  -- the function of a flagged word returns
  returns_flagged : (h c : ℕ) → WordStandsAt words c h → flag returns c ≡ true → Reached word entry h h → DoesReturn word entry h
  returns_flagged h c at on r = returns_from word entry h (can_return word words steps table are c ((flags c).0 on) h at) h r

  -- the first word of a function with a reached return has a flag
  flagged : (h c r : ℕ) → WordStandsAt words c h → Reached word entry h r → word r ≡ flow.Return → flag returns c ≡ true
  flagged h c r at reached e = (flags c).1 (can_return_at word words steps table are h (entry_from word entry h r reached (here e)) c at)

  -- a pair of numbers stands for a reached pair
  abbrev pub Stands : ℕ → ℕ → Type 0
  Stands f v = (fa : ℕ) × (va : ℕ) × WordStandsAt words f fa × WordStandsAt words v va × Reached word entry fa va

  reached_first : (e : ℕ) → WordStandsAt words e entry → (f v : ℕ) → ReachedAt steps returns e f v → Stands f v
  reached_first e at f v (enters ef ev lt) = (entry, entry, subst (λ k. WordStandsAt words k entry) (sym ef) at, subst (λ k. WordStandsAt words k entry) (sym ev) at, main)
  reached_first e at f v (jumps u r j lt) =
      let q = reached_first e at f u r in
      let l = jump_leads words u q.1 (word q.1) (step_at steps u) v (step_of word words steps table are u q.1 q.3) j in
      (q.0, l.0, q.2, l.1, onward l.0 q.4 l.2)
  reached_first e at f v (goes u r j same lt) =
      let q = reached_first e at f u r in
      let l = next_leads words u q.1 returns (word q.1) (step_at steps u) (step_of word words steps table are u q.1 q.3) j in
      let there = subst (λ k. WordStandsAt words k (q.1 + 4)) (sym same) l.0 in
      ⊎_elim (λ leads. (q.0, q.1 + 4, q.2, there, onward (q.1 + 4) q.4 leads))
      (λ c. let d = returns_flagged c.0 c.1 c.3 c.4 (called c.0 q.4 c.2) in (q.0, q.1 + 4, q.2, there, back c.0 d.0 q.4 c.2 d.1 d.2)) l.1
  reached_first e at f v (calls_at g u r j same lt) =
      let q = reached_first e at g u r in
      let l = callee_is words u q.1 (word q.1) (step_at steps u) f (step_of word words steps table are u q.1 q.3) j in
      (l.0, l.0, l.1, subst (λ k. WordStandsAt words k l.0) (sym same) l.1, called l.0 q.4 l.2)

  module _ (o : Option ℕ) (start : IsWordNumber words entry o) where
    pub reached_of : (f v : ℕ) → ReachedFrom steps returns o f v → Stands f v
    reached_of f v r = go o start r
      where
        go : (p : Option ℕ) → IsWordNumber words entry p → ReachedFrom steps returns p f v → Stands f v
        go None s x = absurd x
        go (Some e) s x = reached_first e ((s e).0 refl) f v x

    enter : (k : ℕ) → WordStandsAt words k entry → ReachedFrom steps returns o k k
    enter k at =
        let lt = within word words steps table are k entry at in
        subst (λ p. ReachedFrom steps returns p k k) (sym ((start k).1 at)) (enters refl refl lt)

    -- a word at an address from which the way goes on
    going : (v u : ℕ) → LeadsTo (word v) v u → (k : ℕ) × WordStandsAt words k v
    going v u leads = number_of word words steps table are v (λ bad. subst (λ w. LeadsTo w v u) bad leads)

    calling : (v h : ℕ) → word v ≡ flow.Call h → (k : ℕ) × WordStandsAt words k v
    calling v h e = number_of word words steps table are v (λ bad. (let clash : flow.Call h ≡ flow.Refused = cc in let r : ⊥ = cc in r))

    returning : (v : ℕ) → word v ≡ flow.Return → (k : ℕ) × WordStandsAt words k v
    returning v e = number_of word words steps table are v (λ bad. (let clash : flow.Return ≡ flow.Refused = cc in let r : ⊥ = cc in r))

    pub reached_at : (f v : ℕ) → Reached word entry f v → (k : ℕ) → WordStandsAt words k v → (i : ℕ) × WordStandsAt words i f × ReachedFrom steps returns o i k
    reached_at f v main k at = (k, at, enter k at)
    reached_at f v (onward {v = w} u r leads) k at =
        let a = going w u leads in
        let q = reached_at f w r a.0 a.1 in
        let lt = within word words steps table are k u at in
        ⊎_elim (λ j. (q.0, q.1, by_jump steps returns o q.0 a.0 k q.2 (ap jumped_word j.1) lt))
        (λ n. (q.0, q.1, by_next steps returns o q.0 a.0 k q.2 (ap (λ s. goes_on_after s returns) n.1.1) n.0 lt))
        (step_leads words a.0 w (word w) (step_at steps a.0) k u (next_word word words steps table are a.0 k w a.1) (step_of word words steps table are a.0 w a.1) leads at)
    reached_at f v (back {v = w} h r0 r calls rr e) k at =
        let a = calling w h calls in
        let q = reached_at f w r a.0 a.1 in
        let b = returning r0 e in
        let p = reached_at h r0 rr b.0 b.1 in
        let s = step_calls words a.0 w (word w) (step_at steps a.0) h p.0 (step_of word words steps table are a.0 w a.1) calls p.1 in
        let place = next_word word words steps table are a.0 k w a.1 at in
        let next = s.2.1 (subst (λ i. WordStandsAt words i (w + 4)) place at) in
        let lt = within word words steps table are k (w + 4) at in
        let goes_on : goes_on_after (step_at steps a.0) returns ≡ true = ap (λ x. goes_on_after x returns) s.1 ∙ and_from s.0 (flag returns p.0) next (flagged h p.0 r0 p.1 rr e) in
        (q.0, q.1, by_next steps returns o q.0 a.0 k q.2 goes_on place lt)
    reached_at f v (called {f = g} {v = w} h r calls) k at =
        let a = calling w h calls in
        let q = reached_at g w r a.0 a.1 in
        let s = step_calls words a.0 w (word w) (step_at steps a.0) h k (step_of word words steps table are a.0 w a.1) calls at in
        (k, at, by_call steps returns o q.0 a.0 k q.2 (ap called_word s.1) (within word words steps table are k h at))

-- ---- marks
module _ (steps : List Step) (returns : List Bool) (o : Option ℕ) (marks : List Mark) (functions : List ℕ) (numbers : List (Option ℕ)) (is : AreReachMarks steps returns o marks functions numbers) where
  -- a word with a mark is reached
  pub marked_reached : (k : ℕ) → k < length marks → has_mark (slice_index_or marks k Unreached) ≡ true → (f : ℕ) × ReachedFrom steps returns o f k
  marked_reached k lt h = go (slice_index_or marks k Unreached) (slice_get-get_or marks k Unreached lt) h
    where
      go : (m : Mark) → slice_get marks k ≡ Some m → has_mark m ≡ true → (f : ℕ) × ReachedFrom steps returns o f k
      go Unreached at q = let r : ⊥ = cc in absurd r
      go (Owner f) at q = (f, (is.owner k f at).0)
      go Shared at q = let s = is.shared k at in (s.0, s.3)

  pub reached_marked : (k f : ℕ) → k < length marks → ReachedFrom steps returns o f k → has_mark (slice_index_or marks k Unreached) ≡ true
  reached_marked k f lt r = go (slice_index_or marks k Unreached) (slice_get-get_or marks k Unreached lt)
    where
      go : (m : Mark) → slice_get marks k ≡ Some m → has_mark m ≡ true
      go Unreached at = absurd (is.unreached k f at r)
      go (Owner g) at = refl
      go Shared at = refl

-- ---- all of it
some_same : {X : Type 0} (x y : X) (o : Option X) → o ≡ Some x → o ≡ Some y → x ≡ y
some_same x y o a b = let e : Some x ≡ Some y = sym a ∙ b in cc

module _ (t : Text) (words : WordTable) (steps : List Step) (returns : List Bool) (o : Option ℕ) (marks : List Mark) (functions : List ℕ) (numbers : List (Option ℕ))
    (table : IsWordTableOf (kind_at t) words) (are : AreSteps words steps) (flags : (s : ℕ) → (flag returns s ≡ true) ↔ CanReturnAt steps s) (start : IsWordNumber words t.entry o)
    (is : AreReachMarks steps returns o marks functions numbers) where
  of_pair : (f k v : ℕ) → WordStandsAt words k v → ReachedFrom steps returns o f k → (fa : ℕ) × WordStandsAt words f fa × Reached (kind_at t) t.entry fa v
  of_pair f k v at r =
      let q = reached_of (kind_at t) words steps table are returns flags t.entry o start f k r in
      (q.0, q.2, subst (λ x. Reached (kind_at t) t.entry q.0 x) (some_same q.1 v (slice_get words.addresses k) q.3 at) q.4)

  to_pair : (f k v : ℕ) → WordStandsAt words k v → Reached (kind_at t) t.entry f v → (i : ℕ) × WordStandsAt words i f × ReachedFrom steps returns o i k
  to_pair f k v at r = reached_at (kind_at t) words steps table are returns flags t.entry o start f v r k at

  of_entry : (k v : ℕ) → WordStandsAt words k v → ReachedFrom steps returns o k k → Reached (kind_at t) t.entry v v
  of_entry k v at r =
      let q = of_pair k k v at r in
      subst (λ x. Reached (kind_at t) t.entry x v) (some_same q.0 v (slice_get words.addresses k) q.1 at) q.2

  to_entry : (k v : ℕ) → WordStandsAt words k v → Reached (kind_at t) t.entry v v → ReachedFrom steps returns o k k
  to_entry k v at r =
      let q = to_pair v k v at r in
      subst (λ i. ReachedFrom steps returns o i k) (same_word (kind_at t) words steps table are q.0 k v q.1 at) q.2

  of_owner : (k v f : ℕ) → WordStandsAt words k v → slice_get marks k ≡ Some (Owner f) → (h : ℕ) × WordStandsAt words f h × Reached (kind_at t) t.entry h v × ((g : ℕ) → Reached (kind_at t) t.entry g v → g ≡ h)
  of_owner k v f at m =
      let own = is.owner k f m in
      let q = of_pair f k v at own.0 in
      (q.0, q.1, q.2, λ g r. let p = to_pair g k v at r in some_same g q.0 (slice_get words.addresses f) (subst (λ i. WordStandsAt words i g) (own.1 p.0 p.2) p.1) q.1)

  of_shared : (k v : ℕ) → WordStandsAt words k v → slice_get marks k ≡ Some Shared → IsShared t v
  of_shared k v at m =
      let s = is.shared k m in
      let a = of_pair s.0 k v at s.3 in
      let b = of_pair s.1 k v at s.4 in
      (a.0, b.0, λ e. s.2 (same_word (kind_at t) words steps table are s.0 s.1 b.0 (subst (λ x. WordStandsAt words s.0 x) e a.1) b.1), a.2, b.2)

  of_returns : (k v : ℕ) → length returns ≡ length steps → WordStandsAt words k v → Reached (kind_at t) t.entry v v → (slice_get returns k ≡ Some true) ↔ DoesReturn (kind_at t) t.entry v
  of_returns k v size at r =
      let exact = returns_exactly (kind_at t) t.entry v r in
      let lt = within (kind_at t) words steps table are k v at in (
        λ e. exact.1 (can_return (kind_at t) words steps table are k ((flags k).0 (get_or_from_slice_get returns k true false e)) v at),
        λ d. slice_get-get_or returns k false (omega (arith, lt, size)) ∙ ap (λ b. Some b) ((flags k).1 (can_return_at (kind_at t) words steps table are v (exact.0 d) k at)),
      )

  -- where no word stands, reached addresses are those where the program begins or to which reached words lead
  come_reached : (u : ℕ) → IsComeTo words returns marks t.entry (length words.addresses) u → IsReached t u
  come_reached u (inl e) = (t.entry, subst (λ x. Reached (kind_at t) t.entry t.entry x) (sym e) main)
  come_reached u (inr (k, lt, m, (v, w, at, kind, leads))) =
      let marks_size = is.marks_size in
      let steps_size = are.size in
      let f = marked_reached steps returns o marks functions numbers is k (omega (arith, lt, marks_size, steps_size)) m in
      let q = of_pair f.0 k v at f.1 in
      let same : w ≡ kind_at t v = some_same w (kind_at t v) (slice_get words.kinds k) kind (table.kinds k v at) in
      go q.0 q.2 (subst (λ x. GoesOnTo words returns x v u) same leads)
    where
      go : (f : ℕ) → Reached (kind_at t) t.entry f v → GoesOnTo words returns (kind_at t v) v u → IsReached t u
      go f r (inl leads) = (f, onward u r leads)
      go f r (inr (inl calls)) = (u, called u r calls)
      go f r (inr (inr (h, c, calls, there, on, e))) =
          let d = returns_flagged (kind_at t) words steps table are returns flags t.entry h c there on (called h r calls) in
          (f, subst (λ x. Reached (kind_at t) t.entry f x) (sym e) (back h d.0 r calls d.1 d.2))

  -- the way goes on to u from a word at v
  leaves : (f v u : ℕ) → Reached (kind_at t) t.entry f v → (k : ℕ) × WordStandsAt words k v → GoesOnTo words returns (kind_at t v) v u → IsComeTo words returns marks t.entry (length words.addresses) u
  leaves f v u r a leads =
      let q = to_pair f a.0 v a.1 r in
      let marks_size = is.marks_size in
      let lt = within (kind_at t) words steps table are a.0 v a.1 in
      inr (a.0, slice_get_within words.addresses a.0 v a.1, reached_marked steps returns o marks functions numbers is a.0 q.0 (omega (arith, lt, marks_size)) q.2, (v, kind_at t v, a.1, table.kinds a.0 v a.1, leads))

  reached_come : (f u : ℕ) → Reached (kind_at t) t.entry f u → IsComeTo words returns marks t.entry (length words.addresses) u
  reached_come f u main = inl refl
  reached_come f u (onward {v = w} x r leads) = leaves f w u r (going (kind_at t) words steps table are returns flags t.entry o start w u leads) (inl leads)
  reached_come f u (back {v = w} h r0 r calls rr e) =
      let b = returning (kind_at t) words steps table are returns flags t.entry o start r0 e in
      let p = to_pair h b.0 r0 b.1 rr in
      leaves f w (w + 4) r (calling (kind_at t) words steps table are returns flags t.entry o start w h calls)
      (inr (inr (h, p.0, calls, p.1, flagged (kind_at t) words steps table are returns flags t.entry h p.0 r0 p.1 rr e, refl)))
  reached_come f u (called {f = g} {v = w} h r calls) = leaves g w u r (calling (kind_at t) words steps table are returns flags t.entry o start w h calls) (inr (inl calls))

  -- the pass finds what it is to find
  pub reach_is : (outside : Option ℕ) → words ≡ word_table t → length returns ≡ length steps →
      IsLowest (λ u. IsComeTo words returns marks t.entry (length words.addresses) u × IsOutsideOf words u) outside →
      IsReachOf t (record { words = words; returning = returns; marks = marks; functions = functions; numbers = numbers; outside = outside })
  reach_is outside same size least =
      let steps_size = are.size in
      let marks_size = is.marks_size in
      let numbers_size = is.numbers_size in
      record {
        words = same;
        returning_size = size ∙ steps_size;
        marks_size = marks_size ∙ steps_size;
        numbers_size = numbers_size ∙ steps_size;
        unreached = λ k v at m r. let q = to_pair r.0 k v at r.1 in is.unreached k q.0 m q.2;
        owner = of_owner;
        shared = of_shared;
        functions = λ k v at. (λ w. of_entry k v at ((is.listed k).0 w), λ r. (is.listed k).1 (to_entry k v at r));
        functions_within = λ i k at. let lt = is.listed_within k i at in (slice_index_or words.addresses k 0, slice_get-get_or words.addresses k 0 (omega (arith, lt, steps_size)));
        first = λ k at. is.first k ((start k).1 at);
        numbers = λ k i. is.placed k i;
        returns = λ k v at r. of_returns k v size at r;
        outside = λ v e. let l = least.holds v e in (come_reached v l.0, l.1);
        outside_least = λ v r none. least.least v (reached_come r.0 v r.1, none);
      }
