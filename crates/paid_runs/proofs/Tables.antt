-- Entries that meet their tests are levels that may be chosen.
use Rattle.std.proofs.Common.{◌≡◌, ◌⊎◌, inl, inr, ℕ, ◌+◌, ◌-◌, ◌*◌, ◌/◌, ◌^◌, ◌<◌, ◌≤◌, Bool, true, false, nat_le, List, [], ◌∷◌, length, slice_get, slice_index, Option, Some, None, refl, sym, ap, ◌∙◌, subst, arith, mul-le-mul_right}
use Rattle.std.specs.Prelude.{not, cond, ◌&&◌, option_map}
use Rattle.std.proofs.Math.Nat.{div-lt_iff_lt-mul, lt_of_le_of_lt}
use Rattle.std.proofs.lemmas.Nat.{pow_pos}
use Rattle.std.proofs.lemmas.Bool.{and_parts}
use Rattle.std.proofs.lemmas.Bool.Decides.{nat_tests}
use Rattle.scale_base.specs.declared.fragments.Fragment.{Fragment}
use Rattle.scale_base.specs.declared.fragments.Fragment.TheVariants.{Switch, Exit, Reset, Count, Lowest, Tally}
use Rattle.power_model.specs.Numbers.{PowerModel}
use Rattle.power_model.specs.Price.{switch_time, switch_energy}
use Rattle.power_model.specs.Switches.{period, energy, costs_of}
use Rattle.cost_theory.specs.Graph.{Graph, Loops, AreWithin, count_step, is_back, is_header, is_round, leaves, only}
use Rattle.cost_theory.specs.Worst.{Numbers, cost, slack, rest, turns, left_behind}
use Rattle.cost_theory.proofs.Laws.{term-le-sum, only_true, and_left}
use Rattle.cost_theory.specs.Reached.{Code, edge_at}
use Rattle.code_text.specs.Text.{Text}
use Rattle.stub_writer.specs.Stubs.{Site}
use Rattle.cycle_laws.specs.Charged.{Charged, to_end_after}
use Rattle.code_text.specs.TextGraph.{text_graph}
use Rattle.level_tables.specs.Tables.{pays, trips_left, at_row, behind_turns, meets_both}
use Rattle.level_tables.specs.declared.edge_numbers.EdgeNumbers.{EdgeNumbers}
use Rattle.level_tables.specs.Budgets.{is_switch_in_budget, meets_in_budget}
use Rattle.level_tables.proofs.Laws.{both_in_budget, trips_left-le}
use Rattle.stored_runs.specs.Meaning.{four_bits, is_due}
use Rattle.stored_runs.specs.Marks.{Shadow, place_at, fragments_of_class, level_stored, tail_cycles}
use Rattle.paid_runs.specs.Timely.{weights_of, taken_behind}
use Rattle.paid_runs.specs.Budgets.{IsChosenWithin, AreTablesWithin}
use Rattle.paid_runs.specs.Tabled.{told_on, IsEntryBy, AreAllLowest, AreRowsBy, IsTallyBy, IsEdgeTabledBy, AreTabledBy}
use Rattle.paid_runs.specs.Laws.{TablesOfKeepTime, TablesKeepBudgets}
use Rattle.paid_runs.proofs.Constant.{tables_in_time}

le_of : (x y : ℕ) → nat_le x y ≡ true → x ≤ y
le_of x y e = grind (arith, nat_tests)

-- what the test of payment says: the least cycles are there, and pay
record IsPaid (power : PowerModel) (o : Option ℕ) (tail i j : ℕ) : Type 0 where
  z : ℕ
  is : o ≡ Some z
  pays : switch_energy power i j ≤ (z + tail) * (energy power i - energy power j)

paid_by : (power : PowerModel) (o : Option ℕ) (tail i j : ℕ) → pays power (option_map (λ z. z + tail) o) i j ≡ true → IsPaid power o tail i j
paid_by power None tail i j h = let never : ⊥ = cc in absurd never
paid_by power (Some z) tail i j h = record { z = z; is = refl; pays = le_of (switch_energy power i j) ((z + tail) * (energy power i - energy power j)) h }

-- a step from a loop's body to its header counts
counted : (b c : Bool) (x : ℕ) → (b && c) ≡ true → cond c (cond b (x + 1) 0) x ≡ x + 1
counted true true x h = refl
counted true false x h = let never : ⊥ = cc in absurd never
counted false c x h = let never : ⊥ = cc in absurd never

-- The entries meet a test that is at least as strong as that of the budgets.
module _ (power : PowerModel) (budget : ℕ → ℕ) (meets : EdgeNumbers → ℕ → ℕ → Bool) (strong : (told : EdgeNumbers) (i j : ℕ) → meets told i j ≡ true → meets_in_budget power budget told i j ≡ true) (g : Graph) (l : Loops) (w : ℕ → ℕ) (n : Numbers) (least : Charged) (is_of : ℕ → ℕ → Bool) (counts : ℕ → ℕ) (within : AreWithin l counts) (e : ℕ) where
  -- what the edge tells, with so much slack and so much left
  abbrev told_with : (tail spare left : ℕ) → EdgeNumbers
  told_with tail spare left = record { slack = spare; left = left; least = option_map (λ z. z + tail) (to_end_after g l least e) }

  may_choose : (tail target spare left gone i j : ℕ) → g.callee e ≡ None → g.target e ≡ Some target → spare ≤ slack g l n (cost g n w) e + left_behind g l n counts e
      → gone ≤ taken_behind g l n counts e → left ≡ rest g l n e + tail - gone
      → IsEntryBy meets (told_with tail spare left) i j → (j ≡ i) ⊎ IsChosenWithin power budget g l w n least counts e tail i j
  may_choose tail target spare left gone i j inside leads enough taken is (inl same) = inl same
  may_choose tail target spare left gone i j inside leads enough taken is (inr (lower, met)) =
      let both = and_parts (is_switch_in_budget power budget (told_with tail spare left) i j) (pays power (option_map (λ z. z + tail) (to_end_after g l least e)) i j) (strong (told_with tail spare left) i j met) in
      let time = le_of (left * period power j + switch_time power i j + budget i) ((left + spare) * period power i + budget j) both.0 in
      let paid = paid_by power (to_end_after g l least e) tail i j both.1 in
      inr (record {
        lower = lower;
        inside = inside;
        target = target;
        leads = leads;
        gone = gone;
        is_gone = taken;
        in_budget = (let more : (left + spare) * period power i ≤ (left + (slack g l n (cost g n w) e + left_behind g l n counts e)) * period power i = mul-le-mul_right (period power i) (omega (arith, enough)) in
            subst (λ x. x * period power j + switch_time power i j + budget i ≤ (x + (slack g l n (cost g n w) e + left_behind g l n counts e)) * period power i + budget j) is (omega (arith, more, time)));
        paying = (paid.z, paid.is, paid.pays);
      })

  -- the loop that is left has its turns left
  row_spare : (k shift : ℕ) → k < l.loops → leaves l k (g.source e) (g.target e) ≡ true
      → slack g l n (cost g n w) e + trips_left (l.bound k) shift (counts k / 2 ^ shift) * n.iteration k ≤ slack g l n (cost g n w) e + left_behind g l n counts e
  row_spare k shift low left =
      let one : trips_left (l.bound k) shift (counts k / 2 ^ shift) * n.iteration k ≤ turns l n counts k = mul-le-mul_right (n.iteration k) (trips_left-le (l.bound k) shift (counts k)) in
      let term : turns l n counts k ≤ left_behind g l n counts e = subst (λ x. x ≤ left_behind g l n counts e) (only_true (leaves l k (g.source e) (g.target e)) (turns l n counts k) left)
      (term-le-sum l.loops (λ j. only (leaves l j (g.source e) (g.target e)) (turns l n counts j)) k low) in
      omega (arith, one, term)

  -- a turn of a loop that the edge closes is taken, with those before it
  turn_taken : (k : ℕ) → k < l.loops → is_back g l k e ≡ true → is_round l k (g.target e) ≡ true → (counts k + 1) * n.iteration k ≤ taken_behind g l n counts e
  turn_taken k low back held =
      let now : ℕ → ℕ = count_step l (Some (g.source e)) (g.target e) counts in
      let one : now k ≡ counts k + 1 = counted (l.inside k (g.source e)) (is_header l k (g.target e)) (counts k) back in
      let term : now k * n.iteration k ≤ taken_behind g l n counts e = subst (λ x. x ≤ taken_behind g l n counts e) (only_true (is_round l k (g.target e)) (now k * n.iteration k) held)
      (term-le-sum l.loops (λ j. only (is_round l j (g.target e)) (now j * n.iteration j)) k low) in
      subst (λ x. x * n.iteration k ≤ taken_behind g l n counts e) one term

  -- an edge that leaves a loop starts in it
  starts_in : (k u : ℕ) (p : Option ℕ) → leaves l k u p ≡ true → l.inside k u ≡ true
  starts_in k u None left = cc
  starts_in k u (Some v) left = and_left (l.inside k u) (not (l.inside k v)) left

  module _ (h : Shadow) (low : h.level < length power.levels)
      (shown : (v k : ℕ) → is_of v k ≡ true → l.inside k (g.source e) ≡ true → h.counters v ≡ counts k) where
    by_rows : (counter shift : ℕ) (rows : List ℕ) (tail target j : ℕ) → g.callee e ≡ None → g.target e ≡ Some target
        → AreRowsBy power meets g l n (told_on g l w n least e tail) is_of e counter shift rows → four_bits (slice_index rows (h.counters counter / 2 ^ shift)) h.level ≡ j
        → (j ≡ h.level) ⊎ IsChosenWithin power budget g l w n least counts e tail h.level j
    by_rows counter shift rows tail target j inside leads r stored =
        let count : h.counters counter ≡ counts r.loop = shown counter r.loop r.counts (starts_in r.loop (g.source e) (g.target e) r.left) in
        let row : h.counters counter / 2 ^ shift ≡ counts r.loop / 2 ^ shift = ap (λ x. x / 2 ^ shift) count in
        let there : counts r.loop / 2 ^ shift < length rows = (div-lt_iff_lt-mul (pow_pos shift)).1 (lt_of_le_of_lt (within r.loop r.low) ((div-lt_iff_lt-mul (pow_pos shift)).0 r.enough)) in
        may_choose tail target (slack g l n (cost g n w) e + trips_left (l.bound r.loop) shift (counts r.loop / 2 ^ shift) * n.iteration r.loop) (rest g l n e + tail) 0 h.level j inside leads (row_spare r.loop shift r.low r.left) (omega arith) (omega arith)
        (subst (λ x. IsEntryBy meets (at_row (l.bound r.loop) (n.iteration r.loop) shift (told_on g l w n least e tail) (counts r.loop / 2 ^ shift)) h.level x)
        (ap (λ q. four_bits (slice_index rows q) h.level) (sym row) ∙ stored) (r.entries (counts r.loop / 2 ^ shift) h.level there low))

    -- the lowest level behind the turns of a loop that are taken
    by_tally : (counter shift from tail target j : ℕ) → g.callee e ≡ None → g.target e ≡ Some target
        → IsTallyBy power meets g l n (told_on g l w n least e tail) is_of e counter shift from → (b : Bool) → is_due shift from (h.counters counter) ≡ b → cond b (Some 0) None ≡ Some j
        → (j ≡ h.level) ⊎ IsChosenWithin power budget g l w n least counts e tail h.level j
    by_tally counter shift from tail target j inside leads r false due stored = let never : ⊥ = cc in absurd never
    by_tally counter shift from tail target j inside leads r true due stored =
        let inner : l.inside r.loop (g.source e) ≡ true = and_left (l.inside r.loop (g.source e)) (is_header l r.loop (g.target e)) r.back in
        let count : h.counters counter ≡ counts r.loop = shown counter r.loop r.counts inner in
        let now : is_due shift from (counts r.loop) ≡ true = ap (is_due shift from) (sym count) ∙ due in
        let to : 0 ≡ j = cc in
        may_choose tail target (slack g l n (cost g n w) e) (rest g l n e + tail - (counts r.loop + 1) * n.iteration r.loop) ((counts r.loop + 1) * n.iteration r.loop) h.level j inside leads
        (omega arith) (turn_taken r.loop r.low r.back r.held) refl
        (subst (λ x. IsEntryBy meets (behind_turns (counts r.loop + 1) (n.iteration r.loop) (told_on g l w n least e tail)) h.level x) to (r.lowest (counts r.loop) (within r.loop r.low) now h.level low))

    by_lowest : (tail target j : ℕ) → g.callee e ≡ None → g.target e ≡ Some target → (down : Bool) → (down ≡ true → AreAllLowest power meets (told_on g l w n least e tail)) → cond down (Some 0) None ≡ Some j
        → (j ≡ h.level) ⊎ IsChosenWithin power budget g l w n least counts e tail h.level j
    by_lowest tail target j inside leads false lowest stored = let never : ⊥ = cc in absurd never
    by_lowest tail target j inside leads true lowest stored =
        let to : 0 ≡ j = cc in
        may_choose tail target (slack g l n (cost g n w) e) (rest g l n e + tail) 0 h.level j inside leads (omega arith) (omega arith) (omega arith)
        (subst (λ x. IsEntryBy meets (told_on g l w n least e tail) h.level x) to (lowest refl h.level low))

    by_fragments : (fs : List Fragment) (j : ℕ) → IsEdgeTabledBy power meets g l w n least is_of e fs → level_stored fs h ≡ Some j
        → (j ≡ h.level) ⊎ IsChosenWithin power budget g l w n least counts e (tail_cycles (costs_of power) fs) h.level j
    by_fragments [] j tabled stored = cc
    by_fragments (Switch table ∷ fs) j tabled stored =
        let same : four_bits table h.level ≡ j = cc in
        may_choose (tail_cycles (costs_of power) (Switch table ∷ fs)) tabled.target (slack g l n (cost g n w) e) (rest g l n e + tail_cycles (costs_of power) (Switch table ∷ fs)) 0 h.level j tabled.inside tabled.leads (omega arith) (omega arith) (omega arith)
        (subst (λ x. IsEntryBy meets (told_on g l w n least e (tail_cycles (costs_of power) (Switch table ∷ fs))) h.level x) same (tabled.table h.level low))
    by_fragments (Exit counter shift rows ∷ fs) j tabled stored =
        by_rows counter shift rows (tail_cycles (costs_of power) (Exit counter shift rows ∷ fs)) tabled.target j tabled.inside tabled.leads tabled.table (let same : four_bits (slice_index rows (h.counters counter / 2 ^ shift)) h.level ≡ j = cc in same)
    by_fragments (Reset counter ∷ fs) j tabled stored = cc
    by_fragments (Count counter ∷ fs) j tabled stored = cc
    by_fragments (Lowest down ∷ fs) j tabled stored = by_lowest (tail_cycles (costs_of power) (Lowest down ∷ fs)) tabled.target j tabled.inside tabled.leads down tabled.table stored
    by_fragments (Tally counter shift from ∷ fs) j tabled stored =
        by_tally counter shift from (tail_cycles (costs_of power) (Tally counter shift from ∷ fs)) tabled.target j tabled.inside tabled.leads tabled.table (is_due shift from (h.counters counter)) refl stored

tabled_within : (power : PowerModel) (budget : ℕ → ℕ) (meets : EdgeNumbers → ℕ → ℕ → Bool) → ((told : EdgeNumbers) (i j : ℕ) → meets told i j ≡ true → meets_in_budget power budget told i j ≡ true) →
    (t : Text) (code : Code) (l : Loops) (sites : List Site) (is_of : ℕ → ℕ → Bool) (n : Numbers) (least : Charged) → AreTabledBy power meets t code l sites is_of n least → AreTablesWithin power budget t code l sites is_of n least
tabled_within power budget meets strong t code l sites is_of n least tabled = record {
  chosen = λ e class few is h counts j low within shown stored.
      by_fragments power budget meets strong (text_graph t code) l (weights_of power t code sites) n least is_of counts within e h low shown (fragments_of_class (place_at sites (edge_at (slice_get code.edges e))) class) j (tabled e class few is) stored;
}

pub tables_keep_budgets : TablesKeepBudgets
tables_keep_budgets = λ power budget t code l sites is_of n least tabled. tabled_within power budget (meets_in_budget power budget) (λ told i j met. met) t code l sites is_of n least tabled

pub tables_of_keep_time : TablesOfKeepTime
tables_of_keep_time = λ power t code l sites is_of n least tabled.
    tables_in_time power t code l sites is_of n least (tabled_within power (λ i. power.deadline) (meets_both power) (both_in_budget power) t code l sites is_of n least tabled)
