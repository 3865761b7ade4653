-- Along the moves of a kept run and their legs: level, time and switches.
use Rattle.std.proofs.Common.{◌≡◌, ℕ, ◌+◌, ◌-◌, ◌*◌, ◌<◌, ◌≤◌, Bool, true, List, [], ◌∷◌, ◌++◌, length, refl, sym, ap, ◌∙◌, subst, arith, Option, Some, None, ◌⊎◌, inl, inr}
use Rattle.std.specs.Prelude.{unwrap_or, fold, slice_get, ◌==◌}
use Rattle.std.specs.List.{list_any}
use Rattle.std.proofs.lemmas.Bool.{or_left, eq-eqb}
use Rattle.std.proofs.lemmas.List.Sums.{fold-append}
use Rattle.std.proofs.lemmas.List.Concat.{flat_map-cons}
use Rattle.scale_base.specs.declared.stepping.Stepped.{Stepped}
use Rattle.power_model.specs.Levels.{AreRanked}
use Rattle.power_model.specs.Numbers as model
use Rattle.power_model.specs.Numbers.{PowerModel}
use Rattle.power_model.specs.Price.{metered, switch_time, time_at}
use Rattle.cost_theory.specs.Graph.{Graph, Loops, is_round}
use Rattle.cost_theory.specs.Worst.{Numbers, cost, slack, rest, left_behind, turns_taken}
use Rattle.cost_theory.specs.Laws.{IsAnalyzed}
use Rattle.cost_theory.specs.Reached.{Code, edge_at}
use Rattle.cost_theory.specs.Steps as steps
use Rattle.cost_theory.specs.Steps.Transition.{Along, Call, Return, Exit}
use Rattle.cost_theory.proofs.Laws.{sound_run, sound_after, step_law, along_at, behind-turns, call_order}
use Rattle.cycle_laws.specs.Charged.{Charged, to_end_after}
use Rattle.cycle_laws.specs.LeastLaws.{IsCharged}
use Rattle.cycle_laws.proofs.Laws.{exit_behind}
use Rattle.code_text.specs.Text.{Text}
use Rattle.code_text.specs.TextGraph.{text_graph}
use Rattle.graph_runs.proofs.Laws.{after-append}
use Rattle.stub_writer.specs.Stubs.{Site}
use Rattle.stored_runs.specs.Cycles.{stepped_cycles}
use Rattle.stored_runs.specs.Marks.{Shadow, place_at, fragments_of_class, fragments_over, stored_cycles, tail_cycles, level_stored, shadow_more, shadow_after}
use Rattle.stored_runs.specs.Legs.{Leg, IsLeg, AreLegs, originals, all_steps}
use Rattle.stored_runs.proofs.Laws.{cost_of_legs}
use Rattle.paid_runs.specs.Shadows.{AreCountable, counted_move, counted_moves}
use Rattle.paid_runs.proofs.Shown.{counts_shown}
use Rattle.paid_runs.proofs.Aligned.{AreAligned, IsFirst, first_of_both, stored_at, stored_sum, counted_after}
use Rattle.paid_runs.specs.Counters.{AreCounted}
use Rattle.power_model.specs.Switches.{period, costs_of, NeverRises, switches_from, AllPay}
use Rattle.paid_runs.specs.Paid.{tail_if, IsPaidLeg}
use Rattle.paid_runs.proofs.LegPrice.{leg_paid, no_switch}
use Rattle.paid_runs.proofs.Energies.{period_le}
use Rattle.paid_runs.specs.Timely.{weights_of}
use Rattle.paid_runs.specs.Budgets.{IsChosenWithin, AreTablesWithin}
use Rattle.paid_runs.proofs.Edges.{leg_rise, leg_pays, PaysBehind, one_switch, no_switch_safe, pays_more}

-- ---- one move more

kept_more : (g : Graph) (l : Loops) (s : steps.GraphState) (ms : List steps.Transition) (m : steps.Transition) → steps.AreKept g l s ms → steps.IsKept g l (steps.after_all g l s ms) m → steps.AreKept g l s (ms ++ m ∷ [])
kept_more g l s [] m kept one = (one, tt)
kept_more g l s (k ∷ ks) m kept one = (kept.0, kept_more g l (steps.after g l s k) ks m kept.1 one)

counted_more : (g : Graph) (l : Loops) (counts : ℕ → ℕ) (ms : List steps.Transition) (m : steps.Transition) → counted_moves g l counts (ms ++ m ∷ []) ≡ counted_move g l (counted_moves g l counts ms) m
counted_more g l counts [] m = refl
counted_more g l counts (k ∷ ks) m = counted_more g l (counted_move g l counts k) ks m

module _ (power : PowerModel) (budget : ℕ → ℕ) (t : Text) (code : Code) (l : Loops) (extent : ℕ → ℕ → Bool) (sites : List Site) (is_of : ℕ → ℕ → Bool) (n : Numbers) (least : Charged)
    (ranked : AreRanked power.levels) (loops : (v k : ℕ) → is_of v k ≡ true → k < l.loops) (able : (v k : ℕ) → is_of v k ≡ true → AreCountable (text_graph t code) l (λ j. j == k)) (marked : AreCounted t code l sites is_of)
    (is : IsAnalyzed (text_graph t code) l extent (weights_of power t code sites) n) (are : IsCharged (text_graph t code) l extent (weights_of power t code sites) least)
    (tables : AreTablesWithin power budget t code l sites is_of n least) where
  abbrev g : Graph
  g = text_graph t code

  abbrev w : ℕ → ℕ
  w = weights_of power t code sites

  abbrev at_start : List steps.Transition → steps.GraphState
  at_start pre = steps.state_after g l pre

  -- where a run stands: the moves so far are kept, and the shadow is theirs
  pub record IsAt (pre : List steps.Transition) (h : Shadow) : Type 0 where
    pub kept : steps.AreKept g l (steps.graph_start g) pre
    pub counters : (v k : ℕ) → is_of v k ≡ true → h.counters v ≡ counted_moves g l (λ j. 0) pre k
    pub is_level : h.level < length power.levels

  -- within the budget of the level with what is left
  abbrev pub IsSafe : model.RunPrice → steps.GraphState → Type 0
  IsSafe p s = p.time + steps.cycles_left g l w n s * period power p.level ≤ budget p.level

  -- ---- what the marks of an edge choose

  abbrev Chosen : List steps.Transition → Shadow → steps.Transition → Stepped → ℕ → Type 0
  Chosen pre h m x j = (j ≡ h.level) ⊎ IsChosenWithin power budget g l w n least (at_start pre).counts (steps.edge_of m) (tail_cycles (costs_of power) (fragments_over sites x)) h.level j

  choice : (pre : List steps.Transition) (h : Shadow) (m : steps.Transition) (ms : List steps.Transition) (x : Stepped) (xs : List Stepped) → IsAt pre h → steps.IsKept g l (at_start pre) m → IsFirst t code m ms x xs → (j : ℕ) → level_stored (fragments_over sites x) h ≡ Some j → Chosen pre h m x j
  choice pre h m ms x xs at kept first j stored =
      let e = steps.edge_of m in
      let shown = λ (v k : ℕ) (on : is_of v k ≡ true). counts_shown g l extent (λ j. j == k) is.program is.accepted (able v k on) pre at.kept (g.source e) kept.from in
      let sound = sound_run g l extent is.program pre at.kept in
      let here : level_stored (fragments_of_class (place_at sites (edge_at (slice_get code.edges e))) x.class) h ≡ Some j = ap (λ a. level_stored (fragments_of_class (place_at sites a) x.class) h) first.place ∙ stored in
      let got = tables.chosen e x.class kept.edge first.class h (at_start pre).counts j at.is_level sound.within
      (λ v k on inside. at.counters v k on ∙ (shown v k on).within k (loops v k on) (eq-eqb k k refl) (or_left (is_round l k (at_start pre).node) (list_any (l.inside k) (at_start pre).calls) (ap (is_round l k) kept.from ∙ inside))) here in
      subst (λ a. (j ≡ h.level) ⊎ IsChosenWithin power budget g l w n least (at_start pre).counts e (tail_cycles (costs_of power) (fragments_of_class (place_at sites a) x.class)) h.level j) first.place got

  -- it is no higher level
  not_higher : (pre : List steps.Transition) (h : Shadow) (m : steps.Transition) (x : Stepped) (j : ℕ) → Chosen pre h m x j → j ≤ h.level
  not_higher pre h m x j (inl same) = omega arith
  not_higher pre h m x j (inr c) = omega (arith, c.lower)

  level_below : (pre : List steps.Transition) (h : Shadow) (m : steps.Transition) (x : Stepped) (o : Option ℕ) → ((j : ℕ) → o ≡ Some j → Chosen pre h m x j) → unwrap_or o h.level ≤ h.level
  level_below pre h m x None c = omega arith
  level_below pre h m x (Some j) c = not_higher pre h m x j (c j refl)

  next_at : (pre : List steps.Transition) (h : Shadow) (m : steps.Transition) (ms : List steps.Transition) (x : Stepped) (xs : List Stepped) → IsAt pre h → steps.IsKept g l (at_start pre) m → IsFirst t code m ms x xs → IsAt (pre ++ m ∷ []) (shadow_more sites h x)
  next_at pre h m ms x xs at kept first = record {
    kept = kept_more g l (steps.graph_start g) pre m at.kept kept;
    counters = λ v k on. counted_after t code l sites is_of is.program marked m ms x xs (at_start pre) h (counted_moves g l (λ j. 0) pre) kept first v k on (at.counters v k on) ∙ sym (ap (λ f. f k) (counted_more g l (λ j. 0) pre m));
    is_level = let low = level_below pre h m x (level_stored (fragments_over sites x) h) (choice pre h m ms x xs at kept first) in omega (arith, low, at.is_level);
  }

  -- ---- the time

  -- where the level stays
  stays_safe : (pre : List steps.Transition) (m : steps.Transition) (p q : model.RunPrice) (head tail : ℕ) → steps.AreKept g l (steps.graph_start g) pre → steps.IsKept g l (at_start pre) m → head + tail ≡ w (steps.edge_of m) → q.level ≡ p.level
      → q.time ≡ p.time + time_at power p.level head + switch_time power p.level q.level + time_at power q.level tail → IsSafe p (at_start pre) → IsSafe q (steps.after g l (at_start pre) m)
  stays_safe pre m p q head tail before kept parts level time safe =
      let left = steps.cycles_left g l w n (steps.after g l (at_start pre) m) in
      let sound = sound_run g l extent is.program pre before in
      let falls = step_law g l extent w n is.program is.accepted is.weights is.numbers (at_start pre) m sound kept in
      let none : switch_time power p.level q.level ≡ 0 = ap (switch_time power p.level) level ∙ no_switch power p.level in
      let tail_rate : time_at power q.level tail ≡ tail * period power p.level = ap (λ i. tail * period power i) level in
      let left_rate : left * period power q.level ≡ left * period power p.level = ap (λ i. left * period power i) level in
      let enough = no_switch_safe p.time head tail left (steps.cycles_left g l w n (at_start pre)) (period power p.level) (budget p.level) (omega (arith, parts, falls)) safe in
      let same : budget q.level ≡ budget p.level = ap budget level in
      omega (arith, time, none, tail_rate, left_rate, enough, same)

  -- a move over an edge within a function is a local step
  chosen_safe : (pre : List steps.Transition) (m : steps.Transition) (p q : model.RunPrice) (head tail j : ℕ) → steps.AreKept g l (steps.graph_start g) pre → steps.IsKept g l (at_start pre) m → head + tail ≡ w (steps.edge_of m) → q.level ≡ j → p.level < length power.levels
      → IsChosenWithin power budget g l w n least (at_start pre).counts (steps.edge_of m) tail p.level j
      → q.time ≡ p.time + time_at power p.level head + switch_time power p.level q.level + time_at power q.level tail → IsSafe p (at_start pre) → IsSafe q (steps.after g l (at_start pre) m)
  chosen_safe pre (Along e) p q head tail j before kept parts level low c time safe =
      let s = at_start pre in
      let left = steps.cycles_left g l w n (steps.after g l s (Along e)) in
      let sound = sound_run g l extent is.program pre before in
      let falls = along_at g l extent w n is s e sound kept in
      let order = call_order g is.program in
      let next = sound_after g l extent is.program s (Along e) sound kept in
      let turns = behind-turns g l extent w n is order.0 order.1 (steps.after g l s (Along e)) e c.target next kept.edge c.leads c.leads in
      let taken : c.gone ≤ turns_taken l n (steps.after g l s (Along e)).counts (g.target e) = c.is_gone in
      let most : left ≤ rest g l n e - c.gone = omega (arith, turns, taken) in
      let behind : rest g l n e + tail - c.gone ≡ rest g l n e - c.gone + tail = omega (arith, turns, taken) in
      let slower = period_le power.levels j p.level ranked (omega (arith, c.lower)) low in
      let more = slack g l n (cost g n w) e + left_behind g l n s.counts e in
      let whole : (head + tail + more + left) * period power p.level ≡ steps.cycles_left g l w n s * period power p.level = ap (λ x. x * period power p.level) (omega (arith, parts, falls)) in
      let test = subst (λ x. x * period power j + switch_time power p.level j + budget p.level ≤ (x + more) * period power p.level + budget j) behind c.in_budget in
      let enough = one_switch p.time head tail more (rest g l n e - c.gone) left (period power p.level) (period power j) (switch_time power p.level j) (budget p.level) (budget j) slower most test (omega (arith, whole, safe)) in
      let switch : switch_time power p.level q.level ≡ switch_time power p.level j = ap (switch_time power p.level) level in
      let tail_rate : time_at power q.level tail ≡ tail * period power j = ap (λ i. tail * period power i) level in
      let left_rate : left * period power q.level ≡ left * period power j = ap (λ i. left * period power i) level in
      let same : budget q.level ≡ budget j = ap budget level in
      omega (arith, time, switch, tail_rate, left_rate, enough, same)
  chosen_safe pre (Call e f) p q head tail j before kept parts level low c time safe = let a = kept.move.0 in let b = c.inside in absurd cc
  chosen_safe pre (Return e) p q head tail j before kept parts level low c time safe = let a = (is.program.return_end e kept.edge kept.move.0).0 in let b = c.leads in absurd cc
  chosen_safe pre (Exit e) p q head tail j before kept parts level low c time safe = let a = (is.program.exit_end e kept.edge kept.move).0 in let b = c.leads in absurd cc

  leg_safe : (pre : List steps.Transition) (h : Shadow) (m : steps.Transition) (leg : Leg) (p : model.RunPrice) → IsAt pre h → steps.IsKept g l (at_start pre) m → stored_cycles (costs_of power) sites leg.step ≡ w (steps.edge_of m)
      → ((j : ℕ) → level_stored (fragments_over sites leg.step) h ≡ Some j → Chosen pre h m leg.step j) → IsLeg sites h leg → p.level ≡ h.level → IsSafe p (at_start pre) → IsSafe (fold (metered power) p leg.steps) (steps.after g l (at_start pre) m)
  leg_safe pre h m leg p at kept weight choose is_leg same safe = by_stored (level_stored (fragments_over sites leg.step) h) refl
    where
      paid : IsPaidLeg power sites h leg p (fold (metered power) p leg.steps)
      paid = leg_paid power sites h leg p is_leg same

      by_choice : (j : ℕ) → level_stored (fragments_over sites leg.step) h ≡ Some j → (fold (metered power) p leg.steps).level ≡ j → Chosen pre h m leg.step j → IsSafe (fold (metered power) p leg.steps) (steps.after g l (at_start pre) m)
      by_choice j stored to (inl stays) = stays_safe pre m p (fold (metered power) p leg.steps) paid.head paid.tail at.kept kept (paid.parts ∙ weight) (to ∙ (stays ∙ sym same)) paid.time safe
      by_choice j stored to (inr c) =
          let tail : paid.tail ≡ tail_cycles (costs_of power) (fragments_over sites leg.step) = paid.tail_is ∙ ap (λ o. tail_if o (tail_cycles (costs_of power) (fragments_over sites leg.step))) stored in
          let low : p.level < length power.levels = subst (λ i. i < length power.levels) (sym same) at.is_level in
          let chosen = subst (λ i. IsChosenWithin power budget g l w n least (at_start pre).counts (steps.edge_of m) paid.tail i j) (sym same)
          (subst (λ x. IsChosenWithin power budget g l w n least (at_start pre).counts (steps.edge_of m) x h.level j) (sym tail) c) in
          chosen_safe pre m p (fold (metered power) p leg.steps) paid.head paid.tail j at.kept kept (paid.parts ∙ weight) to low chosen paid.time safe

      by_stored : (o : Option ℕ) → level_stored (fragments_over sites leg.step) h ≡ o → IsSafe (fold (metered power) p leg.steps) (steps.after g l (at_start pre) m)
      by_stored None e =
          let to : (fold (metered power) p leg.steps).level ≡ h.level = paid.level ∙ ap (λ o. unwrap_or o h.level) e in
          stays_safe pre m p (fold (metered power) p leg.steps) paid.head paid.tail at.kept kept (paid.parts ∙ weight) (to ∙ sym same) paid.time safe
      by_stored (Some j) e = by_choice j e (paid.level ∙ ap (λ o. unwrap_or o h.level) e) (choose j e)

  -- ---- what the switch of a leg saves

  leg_saves : (pre : List steps.Transition) (h : Shadow) (m : steps.Transition) (ms : List steps.Transition) (x : Stepped) (rest_cycles : ℕ) → IsAt pre h → steps.IsKept g l (at_start pre) m → steps.AreKept g l (steps.after g l (at_start pre) m) ms → steps.EndsByExit (m ∷ ms)
      → rest_cycles ≡ steps.cycles w ms → (j : ℕ) → Chosen pre h m x j → PaysBehind power h.level j (tail_cycles (costs_of power) (fragments_over sites x) + rest_cycles)
  leg_saves pre h m ms x rest_cycles at kept later exits rest_is j (inl stays) = inl stays
  leg_saves pre h m [] x rest_cycles at kept later exits rest_is j (inr c) = absurd (by_exit exits.0 (subst (λ k. steps.IsKept g l (at_start pre) k) exits.1 kept) (sym (ap (λ k. g.target (steps.edge_of k)) exits.1) ∙ c.leads))
    where
      by_exit : (e : ℕ) → steps.IsKept g l (at_start pre) (Exit e) → g.target e ≡ Some c.target → ⊥
      by_exit e k leads = let a = (is.program.exit_end e k.edge k.move).0 in cc
  leg_saves pre h m (k ∷ ms) x rest_cycles at kept later exits rest_is j (inr c) = inr
      (pays_more power h.level j (c.paying.0 + tail_cycles (costs_of power) (fragments_over sites x)) (tail_cycles (costs_of power) (fragments_over sites x) + rest_cycles) (omega (arith, enough, rest_is)) c.paying.2)
    where
      -- a move over an edge within a function is a local step
      behind : (m : steps.Transition) → steps.IsKept g l (at_start pre) m → steps.AreKept g l (steps.after g l (at_start pre) m) (k ∷ ms) → g.callee (steps.edge_of m) ≡ None → g.target (steps.edge_of m) ≡ Some c.target
          → (z : ℕ) × (to_end_after g l least (steps.edge_of m) ≡ Some z) × (z ≤ steps.cycles w (k ∷ ms))
      behind (Along e) kept2 later2 inside leads = exit_behind g l extent w least are pre (k ∷ ms) e at.kept kept2 later2 exits
      behind (Call e f) kept2 later2 inside leads = let a = kept2.move.0 in absurd cc
      behind (Return e) kept2 later2 inside leads = let a = (is.program.return_end e kept2.edge kept2.move.0).0 in absurd cc
      behind (Exit e) kept2 later2 inside leads = let a = (is.program.exit_end e kept2.edge kept2.move).0 in absurd cc

      up_to : (z : ℕ) × (to_end_after g l least (steps.edge_of m) ≡ Some z) × (z ≤ steps.cycles w (k ∷ ms))
      up_to = behind m kept later c.inside c.leads

      enough : c.paying.0 ≤ steps.cycles w (k ∷ ms)
      enough = let same : c.paying.0 ≡ up_to.0 = (let a = c.paying.1 in let b = up_to.1 in cc) in let more = up_to.2 in omega (arith, same, more)

  -- ---- all legs

  pub record IsWalked (pre ms : List steps.Transition) (legs : List Leg) (h : Shadow) (p : model.RunPrice) : Type 0 where
    pub level : (fold (metered power) p (all_steps legs)).level ≡ (shadow_after sites h (originals legs)).level
    pub is_level : (fold (metered power) p (all_steps legs)).level < length power.levels
    pub falls : NeverRises p.level (all_steps legs)
    pub safe : IsSafe (fold (metered power) p (all_steps legs)) (steps.after_all g l (at_start pre) ms)
    pub pays : steps.EndsByExit ms → AllPay power (switches_from power p.level (all_steps legs))

  pub cycles_later : (ms : List steps.Transition) (legs : List Leg) (h : Shadow) → AreLegs sites h legs → AreAligned t code ms (originals legs) → stepped_cycles (costs_of power) (all_steps legs) ≡ steps.cycles w ms
  cycles_later ms legs h legs_are aligned = cost_of_legs sites h legs legs_are (costs_of power) ∙ sym (stored_sum t code (costs_of power) sites ms (originals legs) aligned)

  pub walk : (pre ms : List steps.Transition) (legs : List Leg) (h : Shadow) (p : model.RunPrice) → IsAt pre h → steps.AreKept g l (at_start pre) ms → AreAligned t code ms (originals legs) → AreLegs sites h legs → p.level ≡ h.level → IsSafe p (at_start pre) → IsWalked pre ms legs h p
  walk pre [] [] h p at kept aligned legs_are same safe = record { level = same; is_level = subst (λ i. i < length power.levels) (sym same) at.is_level; falls = tt; safe = safe; pays = λ e. tt }
  walk pre [] (leg ∷ legs) h p at kept aligned legs_are same safe = let bad = aligned.places in absurd cc
  walk pre (m ∷ ms) [] h p at kept aligned legs_are same safe = let bad = aligned.places in absurd cc
  walk pre (m ∷ ms) (leg ∷ legs) h p at kept aligned legs_are same safe =
      let x = leg.step in
      let first = first_of_both t code m ms x (originals legs) aligned in
      let choose = choice pre h m ms x (originals legs) at kept.0 first in
      let weight : stored_cycles (costs_of power) sites x ≡ w (steps.edge_of m) = sym (stored_at t code (costs_of power) sites m ms x (originals legs) first) in
      let q = fold (metered power) p leg.steps in
      let paid = leg_paid power sites h leg p legs_are.0 same in
      let after_m : at_start (pre ++ m ∷ []) ≡ steps.after g l (at_start pre) m = after-append g l (steps.graph_start g) pre m in
      let safe_next = leg_safe pre h m leg p at kept.0 weight choose legs_are.0 same safe in
      let rest = walk (pre ++ m ∷ []) ms legs (shadow_more sites h x) q (next_at pre h m ms x (originals legs) at kept.0 first) (subst (λ s. steps.AreKept g l s ms) (sym after_m) kept.1) first.rest legs_are.1 paid.level (subst (IsSafe q) (sym after_m) safe_next) in
      let split : all_steps (leg ∷ legs) ≡ leg.steps ++ all_steps legs = flat_map-cons (λ k. k.steps) leg legs in
      let folds : fold (metered power) p (all_steps (leg ∷ legs)) ≡ fold (metered power) q (all_steps legs) = ap (fold (metered power) p) split ∙ fold-append (metered power) p leg.steps (all_steps legs) in
      let stored = level_stored (fragments_over sites x) h in
      let to : q.level ≡ unwrap_or stored p.level = paid.level ∙ ap (unwrap_or stored) (sym same) in
      let low = λ (j : ℕ) (e : stored ≡ Some j). subst (λ i. j ≤ i) (sym same) (not_higher pre h m x j (choose j e)) in
      let later = cycles_later ms legs (shadow_more sites h x) legs_are.1 first.rest in
      record {
        level = ap (λ (r : model.RunPrice). r.level) folds ∙ rest.level;
        is_level = subst (λ (r : model.RunPrice). r.level < length power.levels) (sym folds) rest.is_level;
        falls = subst (NeverRises p.level) (sym split) (leg_rise stored (λ costs. tail_cycles costs (fragments_over sites x)) leg.steps legs_are.0.stores p.level (all_steps legs) low (subst (λ i. NeverRises i (all_steps legs)) to rest.falls));
        safe = subst (λ (r : model.RunPrice). IsSafe r (steps.after_all g l (steps.after g l (at_start pre) m) ms)) (sym folds) (subst (λ s. IsSafe (fold (metered power) q (all_steps legs)) (steps.after_all g l s ms)) after_m rest.safe);
        pays = λ exits. subst (λ ys. AllPay power (switches_from power p.level ys)) (sym split)
            (leg_pays power stored (λ costs. tail_cycles costs (fragments_over sites x)) leg.steps legs_are.0.stores p.level (all_steps legs)
            (λ j e. subst (λ i. PaysBehind power i j (tail_cycles (costs_of power) (fragments_over sites x) + stepped_cycles (costs_of power) (all_steps legs))) (sym same)
            (leg_saves pre h m ms x (stepped_cycles (costs_of power) (all_steps legs)) at kept.0 kept.1 exits later j (choose j e)))
            (subst (λ i. AllPay power (switches_from power i (all_steps legs))) to (later_pays ms legs exits q.level legs_are.1 first.rest (λ e. rest.pays e))));
      }
    where
      -- behind the last move there is no step
      later_pays : (ms : List steps.Transition) (legs : List Leg) → steps.EndsByExit (m ∷ ms) → (i : ℕ) → AreLegs sites (shadow_more sites h leg.step) legs → AreAligned t code ms (originals legs) → (steps.EndsByExit ms → AllPay power (switches_from power i (all_steps legs))) → AllPay power (switches_from power i (all_steps legs))
      later_pays [] [] exits i legs_are2 aligned2 go = tt
      later_pays [] (k ∷ ks) exits i legs_are2 aligned2 go = let bad = aligned2.places in absurd cc
      later_pays (k ∷ ks) legs2 exits i legs_are2 aligned2 go = go exits
