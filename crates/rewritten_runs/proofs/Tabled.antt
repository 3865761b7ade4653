-- The levels in the tables of a program meet the tests of time and of payment.
use Rattle.std.proofs.Common.{◌≡◌, ◌≢◌, ℕ, zero, suc, ◌+◌, ◌-◌, ◌*◌, ◌/◌, ◌^◌, ◌<◌, ◌≤◌, ◌⊎◌, inl, inr, Bool, true, false, nat_le, List, [], ◌∷◌, map, length, slice_get, Option, Some, None, refl, sym, ap, ◌∙◌, subst, arith}
use Rattle.std.specs.Prelude.{All, slice_index, option_map, is_some}
use Rattle.std.proofs.Math.Nat.{mul-le-mul_right}
use Rattle.std.proofs.lemmas.Bool.{and_parts}
use Rattle.scale_base.specs.Image.{Image}
use Rattle.power_model.specs.Numbers.{PowerModel, IsPowerModel}
use Rattle.power_model.specs.Price.{switch_time, switch_energy}
use Rattle.scale_base.specs.declared.edges.EdgeKind.TheVariants as kind
use Rattle.cost_theory.specs.Graph.{Graph, Loops, AreWithin, only, leaves}
use Rattle.cycle_laws.specs.Charged.{Charged, to_end_after}
use Rattle.cost_theory.specs.Worst.{Numbers, cost, slack, rest, turns, left_behind}
use Rattle.cost_theory.specs.Reached.{Code}
use Rattle.cost_theory.proofs.Laws.{term-le-sum}
use Rattle.code_text.specs.TextGraph.{text_graph}
use Rattle.code_text.specs.Text.{Text, text_of}
use Rattle.flow_graph.specs.FlowGraph.{FlowGraph, graph}
use Rattle.loop_file.specs.declared.notes.LoopNote.{LoopNote}
use Rattle.loop_forest.specs.Tree.{LoopView, loops}
use Rattle.worst_cycles.specs.Worst.{rest_at}
use Rattle.scale_base.specs.declared.fragments.Mark.{Mark}
use Rattle.scale_base.specs.declared.fragments.Mark.TheVariants as marks
use Rattle.scale_sites.specs.Counters.{counted_loops, edge_goes_on}
use Rattle.scale_sites.specs.Sites.{is_branch, edge_branches}
use Rattle.scale_sites.specs.Weights.{tail_of}
use Rattle.level_tables.specs.Tables as tables
use Rattle.level_tables.specs.declared.edge_numbers.EdgeNumbers.{EdgeNumbers}
use Rattle.stub_writer.specs.Stubs.{Site}
use Rattle.stored_runs.specs.Marks.{Shadow, tail_cycles, level_stored}
use Rattle.power_model.specs.Switches.{period, energy, costs_of}
use Rattle.paid_runs.specs.Timely.{weights_of}
use Rattle.paid_runs.specs.Budgets.{IsChosenWithin, AreTablesWithin}
use Rattle.paid_runs.specs.Counters.{by_words}
use Rattle.paid_runs.proofs.Laws.{is_word}
use Rattle.level_tables.specs.Budgets.{is_switch_in_budget}
use Rattle.rewritten_runs.specs.Laws.{KeepsBudgets}
use Rattle.rewritten_runs.specs.Stubs.{Rule, IsWeighedBy, AreSitesOf, marks_by, told_at, tail_at, fragment_by, fragments_with, loop_of, is_counted, counter_of, stored_weights}
use Rattle.rewritten_runs.proofs.Edges.{call_goes_on}
use Rattle.rewritten_runs.proofs.Marked.{IsMarkOf, program_is, countable, marked_led, marks_of_edge, counted_is, loop_is}
use Rattle.rewritten_runs.proofs.PlainMarks.{IsPlainMark, rule_marks}
use Rattle.rewritten_runs.proofs.TableLaws.{IsMet, word_met, row_met, row_turns, leb-le}
use Rattle.rewritten_runs.proofs.Weighed.{tail_by, stored_same}

-- the one test on time, with the slack of a row
time_grows : (left slack more p q s from to : ℕ) → nat_le (left * p + s + from) ((left + slack) * q + to) ≡ true → slack ≤ more → left * p + s + from ≤ (left + more) * q + to
time_grows left slack more p q s from to h le =
    let small = leb-le (left * p + s + from) ((left + slack) * q + to) h in
    let big : (left + slack) * q ≤ (left + more) * q = mul-le-mul_right q (omega arith) in
    omega (arith, small, big)

-- what the test of payment says where the least cycles are told
record IsPaid (power : PowerModel) (o : Option ℕ) (tail i j : ℕ) : Type 0 where
  z : ℕ
  is : o ≡ Some z
  pays : switch_energy power i j ≤ (z + tail) * (energy power i - energy power j)

paid_by : (power : PowerModel) (o : Option ℕ) (tail i j : ℕ) → tables.pays power (option_map (λ z. z + tail) o) i j ≡ true → IsPaid power o tail i j
paid_by power None tail i j h = let never : ⊥ = cc in absurd never
paid_by power (Some z) tail i j h = record { z = z; is = refl; pays = leb-le (switch_energy power i j) ((z + tail) * (energy power i - energy power j)) h }

module _ {rule : Rule} (power : PowerModel) (ok : IsPowerModel power) (image : Image) (notes : List LoopNote) (v : FlowGraph) (tree : LoopView) (plain stored : Numbers) (weighed : IsWeighedBy power image notes v tree rule plain stored)
    (least : Charged) (sites : List Site) (are : AreSitesOf image v.code (fragments_with power rule.test image v tree (marks_by v tree rule) stored least) sites)
    (budget : ℕ → ℕ) (strong : KeepsBudgets power budget rule) where
  abbrev t : Text
  t = text_of image

  abbrev code : Code
  code = v.code

  abbrev l : Loops
  l = loops v tree

  abbrev g : Graph
  g = text_graph (text_of image) v.code

  abbrev counted : List ℕ
  counted = counted_loops tree

  abbrev marked : ℕ → List Mark
  marked = marks_by v tree rule

  abbrev w : ℕ → ℕ
  w = weights_of power (text_of image) v.code sites

  abbrev told : ℕ → EdgeNumbers
  told e = told_at power image v tree marked stored least e

  -- an edge with a switch or an exit in front is no call
  inside : (e u : ℕ) (m : Mark) → e < length code.edges → IsMarkOf l counted (is_branch v e) (g.source e) (g.target e) m → (m ≡ marks.Switch) ⊎ ((c : ℕ) × (m ≡ marks.Exit c)) → g.target e ≡ Some u → g.callee e ≡ None
  inside e u m lt is switching to = by (g.callee e) refl m is switching
    where
      by : (o : Option ℕ) → g.callee e ≡ o → (m : Mark) → IsMarkOf l counted (is_branch v e) (g.source e) (g.target e) m → (m ≡ marks.Switch) ⊎ ((c : ℕ) × (m ≡ marks.Exit c)) → g.callee e ≡ None
      by None e2 m is2 sw = e2
      by (Some f) e2 marks.Switch is2 sw =
          let on = call_goes_on t code (program_is power image notes v tree plain stored weighed).reached e f u lt e2 to in
          absurd (both (slice_get code.edges e) is2 on)
        where
          both : (o : Option Rattle.scale_base.specs.declared.edges.Edge.Edge) → edge_branches o ≡ true → edge_goes_on o ≡ true → ⊥
          both None b c = let never : ⊥ = cc in never
          both (Some x) b c = kinds x.kind b c
            where
              kinds : (k : Rattle.scale_base.specs.declared.edges.EdgeKind.EdgeKind) → Rattle.scale_sites.specs.Sites.is_branch_kind k ≡ true → Rattle.scale_sites.specs.Counters.goes_on k ≡ true → ⊥
              kinds kind.Taken b2 c2 = let never : ⊥ = cc in never
              kinds kind.Untaken b2 c2 = let never : ⊥ = cc in never
              kinds kind.Jump b2 c2 = let never : ⊥ = cc in never
              kinds kind.Next b2 c2 = let never : ⊥ = cc in never
              kinds kind.CallNext b2 c2 = let never : ⊥ = cc in never
              kinds kind.End b2 c2 = let never : ⊥ = cc in never
      by (Some f) e2 (marks.Exit c) is2 sw =
          let k = counted_is power image notes v tree plain stored weighed is2.place is2.loop is2.get in
          let off = ((countable power image notes v tree plain stored weighed).calls is2.loop e f u k.loop k.flag lt e2 to).1 in
          let on = subst (λ p. leaves l is2.loop (g.source e) p ≡ true) to is2.holds in
          let never : ⊥ = cc in absurd never
      by (Some f) e2 (marks.Reset c) is2 (inl q) = let never : ⊥ = cc in absurd never
      by (Some f) e2 (marks.Reset c) is2 (inr q) = let r = q.1 in let never : ⊥ = cc in absurd never
      by (Some f) e2 (marks.Count c) is2 (inl q) = let never : ⊥ = cc in absurd never
      by (Some f) e2 (marks.Count c) is2 (inr q) = let r = q.1 in let never : ⊥ = cc in absurd never
      by (Some f) e2 marks.Lowest is2 (inl q) = let never : ⊥ = cc in absurd never
      by (Some f) e2 marks.Lowest is2 (inr q) = let r = q.1 in let never : ⊥ = cc in absurd never
      by (Some f) e2 (marks.Tally c) is2 (inl q) = let never : ⊥ = cc in absurd never
      by (Some f) e2 (marks.Tally c) is2 (inr q) = let r = q.1 in let never : ⊥ = cc in absurd never

  -- the slack that is told, in the graph and under the weights of the laws
  slack_is : (e u : ℕ) → g.target e ≡ Some u → (told e).slack ≡ slack g l stored (cost g stored w) e
  slack_is e u to =
      let on : only (is_some (g.target e)) (slack (graph v) l stored (cost (graph v) stored (stored_weights power image v marked)) e) ≡ slack (graph v) l stored (cost (graph v) stored (stored_weights power image v marked)) e =
      ap (λ o. only (is_some o) (slack (graph v) l stored (cost (graph v) stored (stored_weights power image v marked)) e)) to in
      on ∙ (ap (λ q. slack (graph v) l stored (cost (graph v) stored q) e) (sym (stored_same power image notes v tree plain stored weighed least sites are))
      ∙ ap (λ q. slack q l stored (cost q stored w) e) (sym weighed.code_is.graph_is))

  rest_is : (e u : ℕ) → g.target e ≡ Some u → rest_at (graph v) l stored e ≡ rest g l stored e
  rest_is e u to = ap (λ o. only (is_some o) (rest (graph v) l stored e)) to ∙ ap (λ q. rest q l stored e) (sym weighed.code_is.graph_is)

  -- a level that has met the tests with some of the slack is chosen
  chosen_by : (e u i j more : ℕ) (counts : ℕ → ℕ) (m : Mark) (ms : List Mark) → e < length code.edges → marked e ≡ m ∷ ms → g.callee e ≡ None → g.target e ≡ Some u → more ≤ left_behind g l stored counts e
      → IsMet rule.test (record (told e) { slack = (told e).slack + more }) i j
      → IsChosenWithin power budget g l w stored least counts e (tail_cycles (costs_of power) (fragments_with power rule.test image v tree marked stored least e)) i j
  chosen_by e u i j more counts m ms lt are_m no_call to small met =
      let tail : tail_cycles (costs_of power) (fragments_with power rule.test image v tree marked stored least e) ≡ tail_at power marked e =
      ap (λ q. tail_cycles (costs_of power) (map (fragment_by power rule.test l counted stored (told e)) q)) are_m ∙ (tail_by power rule.test l counted stored (told e) m ms ∙ ap (tail_of power.costs) (sym are_m)) in
      let s = slack_is e u to in
      let r = rest_is e u to in
      let both = and_parts (is_switch_in_budget power budget (record (told e) { slack = (told e).slack + more }) i j) (tables.pays power (told e).least i j) (strong (record (told e) { slack = (told e).slack + more }) i j met.meets) in
      let grown = time_grows (told e).left ((told e).slack + more) (slack g l stored (cost g stored w) e + left_behind g l stored counts e) (period power j) (period power i) (switch_time power i j) (budget i) (budget j) both.0 (omega (arith, s, small)) in
      let left : rest g l stored e + tail_cycles (costs_of power) (fragments_with power rule.test image v tree marked stored least e) - 0 ≡ (told e).left = omega (arith, r, tail) in
      let to_end : to_end_after g l least e ≡ to_end_after (graph v) l least e = ap (λ q. to_end_after q l least e) weighed.code_is.graph_is in
      let paid = paid_by power (to_end_after (graph v) l least e) (tail_at power marked e) i j both.1 in
      record {
        lower = met.lower;
        inside = no_call;
        target = u;
        leads = to;
        gone = 0;
        is_gone = omega arith;
        in_budget = subst (λ x. x * period power j + switch_time power i j + budget i ≤ (x + (slack g l stored (cost g stored w) e + left_behind g l stored counts e)) * period power i + budget j) (sym left) grown;
        paying = (paid.z, to_end ∙ paid.is, subst (λ x. switch_energy power i j ≤ (paid.z + x) * (energy power i - energy power j)) (sym tail) paid.pays);
      }

  no_more : (told : EdgeNumbers) → record told { slack = told.slack + 0 } ≡ told
  no_more told = let z : told.slack + 0 ≡ told.slack = omega arith in ap (λ x. record told { slack = x }) z

  -- what is left of a loop that an edge leaves
  left_of : (e k : ℕ) (counts : ℕ → ℕ) → k < l.loops → leaves l k (g.source e) (g.target e) ≡ true → (l.bound k - counts k) * stored.iteration k ≤ left_behind g l stored counts e
  left_of e k counts kl on =
      let term = term-le-sum l.loops (λ q. only (leaves l q (g.source e) (g.target e)) (turns l stored counts q)) k kl in
      let here : only (leaves l k (g.source e) (g.target e)) (turns l stored counts k) ≡ turns l stored counts k = ap (λ b. only b (turns l stored counts k)) on in
      omega (arith, term, here)

  leaves_inside : (k u : ℕ) (p : Option ℕ) → leaves l k u p ≡ true → l.inside k u ≡ true
  leaves_inside k u None h = let never : ⊥ = cc in absurd never
  leaves_inside k u (Some x) h = (Rattle.std.proofs.lemmas.Bool.and_parts (l.inside k u) _ h).0

  abbrev Chosen : ℕ → Shadow → (ℕ → ℕ) → ℕ → Type 0
  Chosen e h counts j = (j ≡ h.level) ⊎ IsChosenWithin power budget g l w stored least counts e (tail_cycles (costs_of power) (fragments_with power rule.test image v tree marked stored least e)) h.level j

  at_edge : (e : ℕ) (h : Shadow) (counts : ℕ → ℕ) (j : ℕ) → e < length code.edges → h.level < length power.levels → AreWithin l counts
      → ((k : ℕ) → k < l.loops → is_counted tree k ≡ true → l.inside k (g.source e) ≡ true → h.counters (counter_of tree k) ≡ counts k)
      → (ms : List Mark) → marked e ≡ ms → All (IsMarkOf l counted (is_branch v e) (g.source e) (g.target e)) ms → All IsPlainMark ms
      → level_stored (map (fragment_by power rule.test l counted stored (told e)) ms) h ≡ Some j → Chosen e h counts j
  at_edge e h counts j lt low within held [] is all plain_only stores = let never : ⊥ = cc in absurd never
  at_edge e h counts j lt low within held (marks.Switch ∷ ms) is all plain_only stores =
      let m = all 0 marks.Switch (omega arith) in
      let some : marked e ≢ [] = λ q. (let never : ⊥ = cc in never) in
      let to = marked_led power image notes v tree plain stored weighed e lt some in
      let no_call = inside e to.0 marks.Switch lt m (inl refl) to.1 in
      let read_so : tables.nibble (tables.word_by power rule.test (told e)) h.level ≡ j = cc in
      Rattle.std.proofs.Common.⊎_elim (λ same. inl same)
      (λ met. inr (chosen_by e to.0 h.level j 0 counts marks.Switch ms lt is no_call to.1 (omega arith) (subst (λ q. IsMet rule.test q h.level j) (sym (no_more (told e))) met)))
      (word_met power rule.test (told e) h.level j ok.few low read_so)
  at_edge e h counts j lt low within held (marks.Exit c ∷ ms) is all plain_only stores =
      let m = all 0 (marks.Exit c) (omega arith) in
      let some : marked e ≢ [] = λ q. (let never : ⊥ = cc in never) in
      let to = marked_led power image notes v tree plain stored weighed e lt some in
      let no_call = inside e to.0 (marks.Exit c) lt m (inr (c, refl)) to.1 in
      let k = m.loop in
      let kc = counted_is power image notes v tree plain stored weighed m.place k m.get in
      let here : loop_of counted c ≡ k = ap (loop_of counted) m.is ∙ loop_is power image notes v tree plain stored weighed m.place k m.get in
      let word : c ≡ counter_of tree k = (let p = kc.place in let q = m.is in omega (arith, p, q)) in
      let count : h.counters c ≡ counts k = ap h.counters word ∙ held k kc.loop kc.flag (leaves_inside k (g.source e) (g.target e) m.holds) in
      let b = l.bound k in
      let it = stored.iteration k in
      let read_so : tables.nibble (slice_index (tables.all_rows_by power rule.test (l.bound (loop_of counted c)) (stored.iteration (loop_of counted c)) (told e)) (h.counters c / 2 ^ tables.shift_of (l.bound (loop_of counted c)))) h.level ≡ j = cc in
      let read_too : tables.nibble (slice_index (tables.all_rows_by power rule.test b it (told e)) (counts k / 2 ^ tables.shift_of b)) h.level ≡ j =
      subst (λ n. tables.nibble (slice_index (tables.all_rows_by power rule.test b it (told e)) (n / 2 ^ tables.shift_of b)) h.level ≡ j) count
      (subst (λ q. tables.nibble (slice_index (tables.all_rows_by power rule.test (l.bound q) (stored.iteration q) (told e)) (h.counters c / 2 ^ tables.shift_of (l.bound q))) h.level ≡ j) here read_so) in
      let more = tables.trips_left b (tables.shift_of b) (counts k / 2 ^ tables.shift_of b) * it in
      let few = row_turns b it (counts k) in
      let behind = left_of e k counts kc.loop m.holds in
      Rattle.std.proofs.Common.⊎_elim (λ same. inl same)
      (λ met. inr (chosen_by e to.0 h.level j more counts (marks.Exit c) ms lt is no_call to.1 (omega (arith, few, behind)) met))
      (row_met power rule.test b it (told e) (counts k) h.level j (within k kc.loop) ok.few low read_too)
  at_edge e h counts j lt low within held (marks.Reset c ∷ ms) is all plain_only stores = let never : ⊥ = cc in absurd never
  at_edge e h counts j lt low within held (marks.Count c ∷ ms) is all plain_only stores = let never : ⊥ = cc in absurd never
  at_edge e h counts j lt low within held (marks.Lowest ∷ ms) is all plain_only stores = absurd (plain_only 0 marks.Lowest (omega arith))
  at_edge e h counts j lt low within held (marks.Tally c ∷ ms) is all plain_only stores = absurd (plain_only 0 (marks.Tally c) (omega arith))

  pub are_tables : AreTablesWithin power budget t code l sites (by_words l (is_counted tree) (counter_of tree)) stored least
  are_tables = record {
    chosen = λ e class lt is h counts j low within shown stores.
        let held = λ (k : ℕ) (kl : k < l.loops) (ck : is_counted tree k ≡ true) (inside : l.inside k (g.source e) ≡ true). shown (counter_of tree k) k (is_word l (is_counted tree) (counter_of tree) k kl ck) inside in
        let ways = are.ways e class lt is in
        let there : level_stored (fragments_with power rule.test image v tree marked stored least e) h ≡ Some j = ap (λ fs. level_stored fs h) (sym ways) ∙ stores in
        subst (λ fs. (j ≡ h.level) ⊎ IsChosenWithin power budget g l w stored least counts e (tail_cycles (costs_of power) fs) h.level j) (sym ways)
        (at_edge e h counts j lt low within held (marked e) refl (marks_of_edge power image notes v tree plain stored weighed e) (rule_marks v tree rule e) there);
  }
