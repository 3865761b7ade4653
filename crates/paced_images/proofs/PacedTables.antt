-- The levels in the tables of a program meet their test.
use Rattle.std.proofs.Common.{◌≡◌, ℕ, ◌+◌, ◌/◌, ◌^◌, ◌<◌, ◌≤◌, inl, inr, Bool, true, List, [], ◌∷◌, map, length, Option, Some, None, refl, sym, ap, ◌∙◌, subst, arith, eqb-true, ⊎_elim}
use Rattle.std.specs.Prelude.{All, slice_index, option_map, is_some}
use Rattle.std.proofs.lemmas.Bool.{cases_lt, and_parts}
use Rattle.std.proofs.lemmas.List.FromFn.{get_or-map-range_with_len}
use Rattle.scale_base.specs.Image.{Image}
use Rattle.power_model.specs.Numbers.{PowerModel, IsPowerModel}
use Rattle.cost_theory.specs.Graph.{Graph, Loops, only, leaves, goes_back, is_back, is_header, is_round}
use Rattle.cycle_laws.specs.Charged.{Charged, to_end_after}
use Rattle.cost_theory.specs.Worst.{Numbers, cost, slack, rest}
use Rattle.cost_theory.specs.Reached.{Code}
use Rattle.cost_theory.proofs.Laws.{accepted_entered, header_held}
use Rattle.code_text.specs.TextGraph.{text_graph}
use Rattle.code_text.specs.Text.{Text, text_of}
use Rattle.flow_graph.specs.FlowGraph.{FlowGraph, graph}
use Rattle.loop_file.specs.declared.notes.LoopNote.{LoopNote}
use Rattle.loop_file.specs.Kept.{noted_loops}
use Rattle.loop_forest.specs.Tree.{LoopView, loops}
use Rattle.worst_cycles.specs.Worst.{rest_at}
use Rattle.scale_base.specs.declared.fragments.Mark.{Mark}
use Rattle.scale_base.specs.declared.fragments.Mark.TheVariants as marks
use Rattle.scale_sites.specs.Counters.{counted_loops}
use Rattle.scale_sites.specs.Weights.{tail_of}
use Rattle.level_tables.specs.Tables as tables
use Rattle.level_tables.specs.declared.edge_numbers.EdgeNumbers.{EdgeNumbers}
use Rattle.level_tables.specs.Budgets.{meets_in_budget}
use Rattle.level_tables.proofs.Laws.{entry-least, lowest_goes, tallies_safe, word_by-at}
use Rattle.stub_writer.specs.Stubs.{Site}
use Rattle.stored_runs.specs.Meaning.{four_bits}
use Rattle.stored_runs.specs.Marks.{tail_cycles}
use Rattle.power_model.specs.Switches.{costs_of}
use Rattle.paid_runs.specs.Timely.{weights_of}
use Rattle.paid_runs.specs.Tabled.{told_on, IsEntryBy, AreAllLowest, IsEdgeTabledBy, AreTabledBy}
use Rattle.paid_runs.specs.Counters.{by_words}
use Rattle.paid_runs.proofs.Laws.{is_word}
use Rattle.rewritten_runs.specs.Stubs.{IsWeighed, IsWeighedWith, AreSitesOf, told_at, tail_at, fragment_by, fragments_with, loop_of, is_counted, counter_of, stored_weights}
use Rattle.rewritten_runs.proofs.Laws.{IsMarkOf, counted_is, graph_program, loop_is, program_is}
use Rattle.marked_images.specs.Wanted.{ChoosesSites, Wanted, marked_where}
use Rattle.marked_images.proofs.Laws.{calls_unmarked, bound_small, marks_of_edge, marked_led, rows_by_count, slack_plain, slack_stored, slack_weighed}
use Rattle.paced_images.proofs.PacedWeights.{tail_is, stored_same}

-- ---- entries

entry_kept : (test : EdgeNumbers → ℕ → ℕ → Bool) (told : EdgeNumbers) (i : ℕ) → IsEntryBy test told i (tables.entry_by test told i)
entry_kept test told i =
    let e = entry-least test told i in
    ⊎_elim (λ (lt : tables.entry_by test told i < i). inr (lt, e.meets lt)) (λ (ge : i ≤ tables.entry_by test told i). inl (let u = e.up_to in omega (arith, ge, u))) (cases_lt (tables.entry_by test told i) i)

word_kept : (power : PowerModel) (test : EdgeNumbers → ℕ → ℕ → Bool) (told : EdgeNumbers) (i : ℕ) → length power.levels ≤ 8 → i < length power.levels → IsEntryBy test told i (four_bits (tables.word_by power test told) i)
word_kept power test told i few lt = subst (IsEntryBy test told i) (sym (word_by-at power test told i few lt)) (entry_kept test told i)

abbrev numbers_with : ℕ → ℕ → Option ℕ → EdgeNumbers
numbers_with slack left least = record { slack = slack; left = left; least = least }

module _ (power : PowerModel) (ok : IsPowerModel power) (image : Image) (notes : List LoopNote) (v : FlowGraph) (tree : LoopView) (wanted : Wanted) (stored : Numbers) (by_marks : IsWeighedWith power image notes v tree (marked_where v tree wanted) stored) (kinds_are : ChoosesSites v wanted.switch)
    (budget : ℕ → ℕ) (least : Charged) (sites : List Site) (are : AreSitesOf image v.code (fragments_with power (meets_in_budget power budget) image v tree (marked_where v tree wanted) stored least) sites) where
  abbrev test : EdgeNumbers → ℕ → ℕ → Bool
  test = meets_in_budget power budget

  abbrev plain : Numbers
  plain = slack_plain power image notes v tree wanted stored by_marks kinds_are

  abbrev other : Numbers
  other = slack_stored power image notes v tree wanted stored by_marks kinds_are

  abbrev weighed : IsWeighed power image notes v tree plain other
  weighed = slack_weighed power image notes v tree wanted stored by_marks kinds_are

  abbrev t : Text
  t = text_of image

  abbrev code : Code
  code = v.code

  abbrev l : Loops
  l = loops v tree

  abbrev g : Graph
  g = text_graph (text_of image) v.code

  abbrev counted : List ℕ
  counted = counted_loops tree

  abbrev marked : ℕ → List Mark
  marked = marked_where v tree wanted

  abbrev w : ℕ → ℕ
  w = weights_of power (text_of image) v.code sites

  abbrev told : ℕ → EdgeNumbers
  told e = told_at power image v tree marked stored least e

  abbrev pub is_of : ℕ → ℕ → Bool
  is_of = by_words l (is_counted tree) (counter_of tree)

  -- ---- what an edge tells its switch

  slack_is : (e u : ℕ) → g.target e ≡ Some u → (told e).slack ≡ slack g l stored (cost g stored w) e
  slack_is e u to =
      let on : only (is_some (g.target e)) (slack (graph v) l stored (cost (graph v) stored (stored_weights power image v marked)) e) ≡ slack (graph v) l stored (cost (graph v) stored (stored_weights power image v marked)) e =
      ap (λ o. only (is_some o) (slack (graph v) l stored (cost (graph v) stored (stored_weights power image v marked)) e)) to in
      on ∙ (ap (λ q. slack (graph v) l stored (cost (graph v) stored q) e) (sym (stored_same power image notes v tree wanted stored by_marks kinds_are test least sites are))
      ∙ ap (λ q. slack q l stored (cost q stored w) e) (sym by_marks.code_is.graph_is))

  rest_is : (e u : ℕ) → g.target e ≡ Some u → rest_at (graph v) l stored e ≡ rest g l stored e
  rest_is e u to = ap (λ o. only (is_some o) (rest (graph v) l stored e)) to ∙ ap (λ q. rest q l stored e) (sym by_marks.code_is.graph_is)

  told_same : (e u : ℕ) (m : Mark) (ms : List Mark) → marked e ≡ m ∷ ms → g.target e ≡ Some u → told_on g l w stored least e (tail_cycles (costs_of power) (map (fragment_by power test l counted stored (told e)) (m ∷ ms))) ≡ told e
  told_same e u m ms are_m to =
      let tail : tail_cycles (costs_of power) (map (fragment_by power test l counted stored (told e)) (m ∷ ms)) ≡ tail_at power marked e = tail_is power test l counted stored (told e) m ms ∙ ap (tail_of power.costs) (sym are_m) in
      let ends : to_end_after g l least e ≡ to_end_after (graph v) l least e = ap (λ q. to_end_after q l least e) by_marks.code_is.graph_is in
      ap (told_on g l w stored least e) tail
      ∙ (ap (λ x. numbers_with x (rest g l stored e + tail_at power marked e) (option_map (λ z. z + tail_at power marked e) (to_end_after g l least e))) (sym (slack_is e u to))
      ∙ (ap (λ x. numbers_with (told e).slack (x + tail_at power marked e) (option_map (λ z. z + tail_at power marked e) (to_end_after g l least e))) (sym (rest_is e u to))
      ∙ ap (λ o. numbers_with (told e).slack (told e).left (option_map (λ z. z + tail_at power marked e) o)) ends))

  -- an edge with marks is no call
  inside : (e : ℕ) (m : Mark) (ms : List Mark) → e < length code.edges → marked e ≡ m ∷ ms → g.callee e ≡ None
  inside e m ms lt is = by (g.callee e) refl
    where
      by : (o : Option ℕ) → g.callee e ≡ o → g.callee e ≡ None
      by None callee = callee
      by (Some f) callee = let none = calls_unmarked power image notes v tree wanted stored by_marks kinds_are e f lt callee in let never : ⊥ = cc in absurd never

  led : (e : ℕ) (m : Mark) (ms : List Mark) → e < length code.edges → marked e ≡ m ∷ ms → (u : ℕ) × (g.target e ≡ Some u)
  led e m ms lt is = marked_led power image notes v tree wanted stored by_marks kinds_are e lt (λ none. (let never : ⊥ = cc in never))

  -- every level goes to the lowest one where those above it meet the test
  all_lowest : (numbers : EdgeNumbers) → ((i : ℕ) → 0 < i → i < length power.levels → test numbers i 0 ≡ true) → AreAllLowest power test numbers
  all_lowest numbers meets i low = ⊎_elim (λ (pos : 0 < i). inr (pos, meets i pos low)) (λ (none : i ≤ 0). inl (omega (arith, none))) (cases_lt 0 i)

  -- a back edge leads to a place that its loop is round
  header_round : (k u : ℕ) (p : Option ℕ) → k < l.loops → goes_back l k u p ≡ true → is_round l k p ≡ true
  header_round k u None kl on = let both = and_parts (l.inside k u) (is_header l k None) on in let never : ⊥ = (let b = both.1 in cc) in absurd never
  header_round k u (Some w) kl on =
      let head = (and_parts (l.inside k u) (is_header l k (Some w)) on).1 in
      let same : w ≡ l.header k = eqb-true w (l.header k) head in
      ap (l.inside k) same ∙ header_held g l (noted_loops notes).inside (graph_program power image notes v tree plain other weighed) (accepted_entered (program_is power image notes v tree plain other weighed).loops) k kl

  at_edge : (e : ℕ) → e < length code.edges → (ms : List Mark) → marked e ≡ ms → All (IsMarkOf l counted (wanted.switch e) (g.source e) (g.target e)) ms
      → IsEdgeTabledBy power test g l w stored least is_of e (map (fragment_by power test l counted stored (told e)) ms)
  at_edge e lt [] is all = tt
  at_edge e lt (marks.Switch ∷ ms) is all =
      let to = led e marks.Switch ms lt is in
      record {
        inside = inside e marks.Switch ms lt is;
        target = to.0;
        leads = to.1;
        table = λ i low. subst (λ q. IsEntryBy test q i (four_bits (tables.word_by power test (told e)) i)) (sym (told_same e to.0 marks.Switch ms is to.1)) (word_kept power test (told e) i ok.few low);
      }
  at_edge e lt (marks.Exit c ∷ ms) is all =
      let to = led e (marks.Exit c) ms lt is in
      let m = all 0 (marks.Exit c) (omega arith) in
      let kc = counted_is power image notes v tree plain other weighed m.place m.loop m.get in
      let k = loop_of counted c in
      let here : k ≡ m.loop = ap (loop_of counted) m.is ∙ loop_is power image notes v tree plain other weighed m.place m.loop m.get in
      let word : c ≡ counter_of tree m.loop = (let p = kc.place in let q = m.is in omega (arith, p, q)) in
      let count = rows_by_count power test (l.bound k) (stored.iteration k) (told e) in
      record {
        inside = inside e (marks.Exit c) ms lt is;
        target = to.0;
        leads = to.1;
        table = record {
          loop = k;
          low = subst (λ q. q < l.loops) (sym here) kc.loop;
          counts = subst (λ q. is_of c q ≡ true) (sym here) (subst (λ x. is_of x m.loop ≡ true) (sym word) (is_word l (is_counted tree) (counter_of tree) m.loop kc.loop kc.flag));
          left = subst (λ q. leaves l q (g.source e) (g.target e) ≡ true) (sym here) m.holds;
          enough = omega (arith, count);
          entries = λ j i short low.
              let row : slice_index (tables.all_rows_by power test (l.bound k) (stored.iteration k) (told e)) j ≡ tables.row_by power test (l.bound k) (stored.iteration k) (told e) j =
              get_or-map-range_with_len (tables.row_by power test (l.bound k) (stored.iteration k) (told e)) 0 (l.bound k / 2 ^ tables.shift_of (l.bound k) + 1) j j 0 (omega (arith, count, short)) (omega arith) in
              subst (λ q. IsEntryBy test (tables.at_row (l.bound k) (stored.iteration k) (tables.shift_of (l.bound k)) q j) i (four_bits (slice_index (tables.all_rows_by power test (l.bound k) (stored.iteration k) (told e)) j) i)) (sym (told_same e to.0 (marks.Exit c) ms is to.1))
              (subst (λ x. IsEntryBy test (tables.at_row (l.bound k) (stored.iteration k) (tables.shift_of (l.bound k)) (told e) j) i (four_bits x i)) (sym row) (word_kept power test (tables.at_row (l.bound k) (stored.iteration k) (tables.shift_of (l.bound k)) (told e) j) i ok.few low));
        };
      }
  at_edge e lt (marks.Lowest ∷ ms) is all =
      let to = led e marks.Lowest ms lt is in
      record {
        inside = inside e marks.Lowest ms lt is;
        target = to.0;
        leads = to.1;
        table = λ down. subst (AreAllLowest power test) (sym (told_same e to.0 marks.Lowest ms is to.1)) (all_lowest (told e) (λ i pos low. lowest_goes power test (told e) i ok.few down pos low));
      }
  at_edge e lt (marks.Tally c ∷ ms) is all =
      let to = led e (marks.Tally c) ms lt is in
      let m = all 0 (marks.Tally c) (omega arith) in
      let kc = counted_is power image notes v tree plain other weighed m.place m.loop m.get in
      let k = loop_of counted c in
      let here : k ≡ m.loop = ap (loop_of counted) m.is ∙ loop_is power image notes v tree plain other weighed m.place m.loop m.get in
      let word : c ≡ counter_of tree m.loop = (let p = kc.place in let q = m.is in omega (arith, p, q)) in
      let small = bound_small power ok image notes v tree wanted stored by_marks kinds_are test least sites are k in
      record {
        inside = inside e (marks.Tally c) ms lt is;
        target = to.0;
        leads = to.1;
        table = record {
          loop = k;
          low = subst (λ q. q < l.loops) (sym here) kc.loop;
          counts = subst (λ q. is_of c q ≡ true) (sym here) (subst (λ x. is_of x m.loop ≡ true) (sym word) (is_word l (is_counted tree) (counter_of tree) m.loop kc.loop kc.flag));
          back = subst (λ q. is_back g l q e ≡ true) (sym here) m.holds;
          held = subst (λ q. is_round l q (g.target e) ≡ true) (sym here) (header_round m.loop (g.source e) (g.target e) kc.loop m.holds);
          lowest = λ count most due. subst (λ q. AreAllLowest power test (tables.behind_turns (count + 1) (stored.iteration k) q)) (sym (told_same e to.0 (marks.Tally c) ms is to.1))
              (all_lowest (tables.behind_turns (count + 1) (stored.iteration k) (told e)) (λ i pos low. tallies_safe budget power (l.bound k) (stored.iteration k) (told e) count i ok (omega (arith, small)) most due pos low));
        };
      }
  at_edge e lt (marks.Reset c ∷ ms) is all = tt
  at_edge e lt (marks.Count c ∷ ms) is all = tt

  pub tabled : AreTabledBy power test t code l sites is_of stored least
  tabled e class lt is = subst (IsEdgeTabledBy power test g l w stored least is_of e) (sym (are.ways e class lt is)) (at_edge e lt (marked e) refl (marks_of_edge power image notes v tree wanted stored by_marks kinds_are e))
