-- Counts on the edges are those of the run, move by move.
use Rattle.std.proofs.Common.{◌≡◌, ℕ, ◌+◌, ◌<◌, ◌≤◌, Bool, true, false, cond, not, ◌&&◌, ◌||◌, nat_eq, List, [], ◌∷◌, Option, Some, None, refl, sym, ap, ◌∙◌, subst, arith, eq-eqb, ne_eqb}
use Rattle.std.specs.List.{list_any}
use Rattle.std.proofs.lemmas.Bool.{or_from, false_from_ne_true}
use Rattle.cost_theory.specs.Graph.{Graph, Loops, is_round, is_header, leaves, count_step, AreWithin, next_edge}
use Rattle.cost_theory.specs.Accepted.{AreCalls, IsProgram, AreAccepted}
use Rattle.cost_theory.specs.Steps.{GraphState, Transition, go_back, after_return, after, IsKept, AreKept, after_all, graph_start, state_after}
use Rattle.cost_theory.specs.Steps.Transition.{Along, Call, Return, Exit}
use Rattle.cost_theory.proofs.Laws.{some_value, accepted_entered, side_header, entry_header, header_held, IsChain, Stands, IsSound, next-is, sound_start, sound_after}
use Rattle.paid_runs.specs.Shadows.{count_over, counted_move, counted_moves, AreCountable, is_within_loop, AreShown}

module _ (g : Graph) (l : Loops) (extent : ℕ → ℕ → Bool) (counted : ℕ → Bool) (prog : IsProgram g) (acc : AreAccepted g l extent) (able : AreCountable g l counted) where
  -- a loop round a node of the function that goes on is round no suspended call
  off_calls_by : (k x : ℕ) → k < l.loops → l.inside k x ≡ true → (calls : List ℕ) (f : ℕ) (fs : List ℕ) → IsChain g f calls → AreCalls g f fs (g.owner x) → list_any (l.inside k) calls ≡ false
  off_calls_by k x kl in_x [] f fs chain path = refl
  off_calls_by k x kl in_x (u ∷ calls) f fs chain path =
      or_from (l.inside k u) (list_any (l.inside k) calls)
      (false_from_ne_true (l.inside k u) (λ in_u. apart (((acc.bodies k u kl).0 in_u).0 ∙ sym ((acc.bodies k x kl).0 in_x).0)))
      (off_calls_by k x kl in_x calls (g.owner u) (f ∷ fs) chain.1 ((u, refl, chain.0), path))
    where
      apart : g.owner u ≡ g.owner x → ⊥
      apart e = prog.no_recursion (g.owner u) f fs ((u, refl, chain.0), subst (λ i. AreCalls g f fs i) (sym e) path)

  off_calls : (k x f : ℕ) (calls : List ℕ) → k < l.loops → l.inside k x ≡ true → g.owner x ≡ f → IsChain g f calls → list_any (l.inside k) calls ≡ false
  off_calls k x f calls kl in_x owner chain = off_calls_by k x kl in_x calls f [] chain (sym owner)

  -- no header of a loop is outside it
  not_header : (k v : ℕ) → k < l.loops → l.inside k v ≡ false → nat_eq v (l.header k) ≡ false
  not_header k v kl out = ne_eqb v (l.header k) (λ e. let held = header_held g l extent prog (accepted_entered acc) k kl in cc)

  -- what is so of one loop's count: it is the run's where the loop is open, and else 0
  abbrev Shows : Bool → ℕ → ℕ → Type 0
  Shows true shadow count = shadow ≡ count
  Shows false shadow count = shadow ≡ 0

  -- a step within a function from u to v, in these calls
  along : (k e u v shadow count : ℕ) (in_u in_v in_calls : Bool) → k < l.loops → l.inside k u ≡ in_u → l.inside k v ≡ in_v
      → (in_u ≡ true → in_calls ≡ false) → (in_v ≡ true → in_calls ≡ false) → (in_u ≡ false → in_v ≡ true → v ≡ l.header k)
      → Shows (in_u || in_calls) shadow count
      → Shows (in_v || in_calls) (cond (in_u && nat_eq v (l.header k)) (shadow + 1) (cond (in_u && not in_v) 0 shadow)) (cond (nat_eq v (l.header k)) (cond in_u (count + 1) 0) count)
  along k e u v shadow count true true in_calls kl eu ev cu cv side h = at (nat_eq v (l.header k))
    where
      at : (b : Bool) → cond b (shadow + 1) shadow ≡ cond b (count + 1) count
      at true = ap (λ n. n + 1) h
      at false = h
  along k e u v shadow count true false in_calls kl eu ev cu cv side h =
      let none : in_calls ≡ false = cu refl in
      let far : nat_eq v (l.header k) ≡ false = not_header k v kl ev in
      rw (none, far) refl
  along k e u v shadow count false true in_calls kl eu ev cu cv side h =
      let none : in_calls ≡ false = cv refl in
      let head : nat_eq v (l.header k) ≡ true = eq-eqb v (l.header k) (side refl refl) in
      let zero : shadow ≡ 0 = subst (λ b. Shows b shadow count) none h in
      rw head zero
  along k e u v shadow count false false in_calls kl eu ev cu cv side h =
      let far : nat_eq v (l.header k) ≡ false = not_header k v kl ev in
      rw far h

  show : (k : ℕ) (s : GraphState) (counts : ℕ → ℕ) → k < l.loops → counted k ≡ true → AreShown l counted s counts → Shows (is_within_loop l k s) (counts k) (s.counts k)
  show k s counts kl c h = by_open (is_within_loop l k s) refl
    where
      by_open : (b : Bool) → is_within_loop l k s ≡ b → Shows b (counts k) (s.counts k)
      by_open true e = h.within k kl c e
      by_open false e = h.outside k kl c e

  shown : (s : GraphState) (counts : ℕ → ℕ) → ((k : ℕ) → k < l.loops → counted k ≡ true → Shows (is_within_loop l k s) (counts k) (s.counts k)) → AreShown l counted s counts
  shown s counts h = record {
    within = λ k kl c e. subst (λ b. Shows b (counts k) (s.counts k)) e (h k kl c);
    outside = λ k kl c e. subst (λ b. Shows b (counts k) (s.counts k)) e (h k kl c);
  }

  at_node : (s : GraphState) (u : ℕ) → s.node ≡ Some u → IsSound g l s → IsChain g (g.owner u) s.calls
  at_node s u e sound = (subst (λ p. Stands g p s.calls) e sound.stands).1

  -- ---- move by move

  after_along : (s : GraphState) (e v : ℕ) (counts : ℕ → ℕ) → IsSound g l s → e < g.edges → s.node ≡ Some (g.source e) → g.target e ≡ Some v → AreShown l counted s counts → AreShown l counted (after g l s (Along e)) (counted_move g l counts (Along e))
  after_along s e v counts sound lt from to h = shown (after g l s (Along e)) (counted_move g l counts (Along e)) (λ k kl c. each k kl c)
    where
      each : (k : ℕ) → k < l.loops → counted k ≡ true → Shows (is_round l k (g.target e) || list_any (l.inside k) s.calls) (count_over g l k e (counts k)) (count_step l (Some (g.source e)) (g.target e) s.counts k)
      each k kl c =
          let u = g.source e in
          let chain = at_node s u from sound in
          let before : Shows (l.inside k u || list_any (l.inside k) s.calls) (counts k) (s.counts k) = subst (λ p. Shows (is_round l k p || list_any (l.inside k) s.calls) (counts k) (s.counts k)) from (show k s counts kl c h) in
          subst (λ p. Shows (is_round l k p || list_any (l.inside k) s.calls) (cond (l.inside k u && is_header l k p) (counts k + 1) (cond (leaves l k u p) 0 (counts k))) (count_step l (Some u) p s.counts k)) (sym to)
          (along k e u v (counts k) (s.counts k) (l.inside k u) (l.inside k v) (list_any (l.inside k) s.calls) kl refl refl
          (λ in_u. off_calls k u (g.owner u) s.calls kl in_u refl chain)
          (λ in_v. off_calls k v (g.owner u) s.calls kl in_v (prog.stays e v lt to).1 chain)
          (λ out in_v. side_header g l extent prog (accepted_entered acc) e k v lt kl to in_v out)
          before)

  after_call : (s : GraphState) (e f : ℕ) (counts : ℕ → ℕ) → IsSound g l s → e < g.edges → s.node ≡ Some (g.source e) → g.callee e ≡ Some f → AreShown l counted s counts → AreShown l counted (after g l s (Call e f)) (counted_move g l counts (Call e f))
  after_call s e f counts sound lt from calls_f h = shown (after g l s (Call e f)) (counted_move g l counts (Call e f)) (λ k kl c. each k kl c)
    where
      fl : f < g.functions
      fl = prog.callee_function e f lt calls_f

      each : (k : ℕ) → k < l.loops → counted k ≡ true → Shows (l.inside k (g.entry f) || list_any (l.inside k) (g.source e ∷ s.calls)) (counts k) (count_step l None (Some (g.entry f)) s.counts k)
      each k kl c =
          let u = g.source e in
          let chain : IsChain g f (u ∷ s.calls) = ((e, lt, refl, calls_f), at_node s u from sound) in
          let before : Shows (l.inside k u || list_any (l.inside k) s.calls) (counts k) (s.counts k) = subst (λ p. Shows (is_round l k p || list_any (l.inside k) s.calls) (counts k) (s.counts k)) from (show k s counts kl c h) in
          by_entry (l.inside k (g.entry f)) refl chain before
        where
          by_entry : (b : Bool) → l.inside k (g.entry f) ≡ b → IsChain g f (g.source e ∷ s.calls) → Shows (l.inside k (g.source e) || list_any (l.inside k) s.calls) (counts k) (s.counts k)
              → Shows (b || list_any (l.inside k) (g.source e ∷ s.calls)) (counts k) (cond (nat_eq (g.entry f) (l.header k)) 0 (s.counts k))
          by_entry true is chain before =
              let none : (l.inside k (g.source e) || list_any (l.inside k) s.calls) ≡ false = off_calls k (g.entry f) f (g.source e ∷ s.calls) kl is (prog.entry_owner f fl) chain in
              let zero : counts k ≡ 0 = subst (λ b. Shows b (counts k) (s.counts k)) none before in
              let head : nat_eq (g.entry f) (l.header k) ≡ true = eq-eqb (g.entry f) (l.header k) (entry_header g l extent prog (accepted_entered acc) f k fl kl is) in
              rw head zero
          by_entry false is chain before =
              let far : nat_eq (g.entry f) (l.header k) ≡ false = not_header k (g.entry f) kl is in
              rw far before

  after_back : (s : GraphState) (e u d v : ℕ) (calls : List ℕ) (counts : ℕ → ℕ) → IsSound g l s → e < g.edges → s.node ≡ Some (g.source e) → g.returns e ≡ true → s.calls ≡ u ∷ calls → next_edge g u ≡ Some d → g.target d ≡ Some v → AreShown l counted s counts
      → AreShown l counted (record { node = Some v; calls = calls; counts = count_step l (Some u) (Some v) s.counts }) counts
  after_back s e u d v calls counts sound lt from returns in_calls next to h = shown (record { node = Some v; calls = calls; counts = count_step l (Some u) (Some v) s.counts }) counts (λ k kl c. each k kl c)
    where
      found : (d < g.edges) × (g.source d ≡ u) × ((f : ℕ) × (g.callee d ≡ Some f)) × ((v : ℕ) × (g.target d ≡ Some v))
      found = next-is g u d next

      each : (k : ℕ) → k < l.loops → counted k ≡ true → Shows (l.inside k v || list_any (l.inside k) calls) (counts k) (count_step l (Some u) (Some v) s.counts k)
      each k kl c =
          let chain : IsChain g (g.owner (g.source e)) (u ∷ calls) = subst (λ cs. IsChain g (g.owner (g.source e)) cs) in_calls (at_node s (g.source e) from sound) in
          let out : l.inside k (g.source e) ≡ false = able.returns k e kl c lt returns in
          let before : Shows (l.inside k u || list_any (l.inside k) calls) (counts k) (s.counts k) =
          subst (λ b. Shows (b || (l.inside k u || list_any (l.inside k) calls)) (counts k) (s.counts k)) out
          (subst (λ cs. Shows (l.inside k (g.source e) || list_any (l.inside k) cs) (counts k) (s.counts k)) in_calls
          (subst (λ p. Shows (is_round l k p || list_any (l.inside k) s.calls) (counts k) (s.counts k)) from (show k s counts kl c h))) in
          let stays = able.calls k d found.2.0 v kl c found.0 found.2.1 to in
          let owner : g.owner v ≡ g.owner u = (prog.stays d v found.0 to).1 ∙ ap g.owner found.1 in
          let back : (l.inside k u && nat_eq v (l.header k)) ≡ false =
          sym (ap (λ x. l.inside k x && nat_eq v (l.header k)) found.1) ∙ (sym (ap (λ p. l.inside k (g.source d) && is_header l k p) to) ∙ stays.0) in
          let left : (l.inside k u && not (l.inside k v)) ≡ false = sym (ap (λ x. l.inside k x && not (l.inside k v)) found.1) ∙ stays.1 in
          let moved = along k d u v (counts k) (s.counts k) (l.inside k u) (l.inside k v) (list_any (l.inside k) calls) kl refl refl
          (λ in_u. off_calls k u (g.owner u) calls kl in_u refl chain.1)
          (λ in_v. off_calls k v (g.owner u) calls kl in_v owner chain.1)
          (λ off in_v. side_header g l extent prog (accepted_entered acc) d k v found.0 kl to in_v (ap (l.inside k) found.1 ∙ off))
          before in
          let same : cond (l.inside k u && nat_eq v (l.header k)) (counts k + 1) (cond (l.inside k u && not (l.inside k v)) 0 (counts k)) ≡ counts k = rw (back, left) refl in
          subst (λ n. Shows (l.inside k v || list_any (l.inside k) calls) n (count_step l (Some u) (Some v) s.counts k)) same moved

  after_return_is : (s : GraphState) (e : ℕ) (counts : ℕ → ℕ) → IsSound g l s → e < g.edges → s.node ≡ Some (g.source e) → g.returns e ≡ true → AreShown l counted s counts
      → (w : ℕ) → (after g l s (Return e)).node ≡ Some w → AreShown l counted (after g l s (Return e)) counts
  after_return_is s e counts sound lt from returns h w node = by_calls s.calls refl node
    where
      by_target : (u d : ℕ) (calls : List ℕ) → s.calls ≡ u ∷ calls → next_edge g u ≡ Some d → (o : Option ℕ) → g.target d ≡ o → o ≡ Some w → AreShown l counted (record { node = o; calls = calls; counts = count_step l (Some u) o s.counts }) counts
      by_target u d calls in_calls next None to is = let never : ⊥ = cc in absurd never
      by_target u d calls in_calls next (Some v) to is = after_back s e u d v calls counts sound lt from returns in_calls next to h

      by_next : (u : ℕ) (calls : List ℕ) → s.calls ≡ u ∷ calls → (o : Option ℕ) → next_edge g u ≡ o → (go_back g l u o calls s.counts).node ≡ Some w → AreShown l counted (go_back g l u o calls s.counts) counts
      by_next u calls in_calls None next is = let never : ⊥ = cc in absurd never
      by_next u calls in_calls (Some d) next is = by_target u d calls in_calls next (g.target d) refl is

      by_calls : (calls : List ℕ) → s.calls ≡ calls → (after_return g l calls s.counts).node ≡ Some w → AreShown l counted (after_return g l calls s.counts) counts
      by_calls [] e is = let never : ⊥ = cc in absurd never
      by_calls (u ∷ calls) e is = by_next u calls e (next_edge g u) refl is

  -- what is so before a move that is kept, and then after it, if the run stands at a node
  one_move : (s : GraphState) (m : Transition) (counts : ℕ → ℕ) → IsSound g l s → IsKept g l s m → AreShown l counted s counts → (w : ℕ) → (after g l s m).node ≡ Some w → AreShown l counted (after g l s m) (counted_move g l counts m)
  one_move s (Along e) counts sound kept h w node = let v = some_value (g.target e) kept.move.1 in after_along s e v.0 counts sound kept.edge kept.from v.1 h
  one_move s (Call e f) counts sound kept h w node = after_call s e f counts sound kept.edge kept.from kept.move.0 h
  one_move s (Return e) counts sound kept h w node = after_return_is s e counts sound kept.edge kept.from kept.move.0 h w node
  one_move s (Exit e) counts sound kept h w node = let never : ⊥ = cc in absurd never

  -- the run stands at a node before each of its moves
  all_moves : (ms : List Transition) (s : GraphState) (counts : ℕ → ℕ) → IsSound g l s → AreKept g l s ms → ((v : ℕ) → s.node ≡ Some v → AreShown l counted s counts) → (w : ℕ) → (after_all g l s ms).node ≡ Some w → AreShown l counted (after_all g l s ms) (counted_moves g l counts ms)
  all_moves [] s counts sound kept h w node = h w node
  all_moves (m ∷ ms) s counts sound kept h w node =
      all_moves ms (after g l s m) (counted_move g l counts m) (sound_after g l extent prog s m sound kept.0) kept.1
      (λ v at. one_move s m counts sound kept.0 (h _ kept.0.from) v at) w node

  pub counts_shown : (ms : List Transition) → AreKept g l (graph_start g) ms → (v : ℕ) → (state_after g l ms).node ≡ Some v → AreShown l counted (state_after g l ms) (counted_moves g l (λ k. 0) ms)
  counts_shown ms kept v node =
      all_moves ms (graph_start g) (λ k. 0) (sound_start g l extent prog) kept (λ u at. record { within = λ k kl c e. refl; outside = λ k kl c e. refl }) v node

  within_after : (ms : List Transition) (s : GraphState) → AreWithin l s.counts → AreKept g l s ms → AreWithin l (after_all g l s ms).counts
  within_after [] s h kept = h
  within_after (m ∷ ms) s h kept = within_after ms (after g l s m) kept.0.within kept.1

  pub counts_within : (ms : List Transition) → AreKept g l (graph_start g) ms → (v : ℕ) → (state_after g l ms).node ≡ Some v → (k : ℕ) → k < l.loops → counted k ≡ true → counted_moves g l (λ k. 0) ms k ≤ l.bound k
  counts_within ms kept v node k kl c =
      let h = counts_shown ms kept v node in
      let bound = within_after ms (graph_start g) (λ j jl. omega arith) kept k kl in
      by_open (is_within_loop l k (state_after g l ms)) refl h bound
    where
      by_open : (b : Bool) → is_within_loop l k (state_after g l ms) ≡ b → AreShown l counted (state_after g l ms) (counted_moves g l (λ k. 0) ms) → (state_after g l ms).counts k ≤ l.bound k → counted_moves g l (λ k. 0) ms k ≤ l.bound k
      by_open true e h bound = let same = h.within k kl c e in omega (arith, same, bound)
      by_open false e h bound = let same = h.outside k kl c e in omega (arith, same)
