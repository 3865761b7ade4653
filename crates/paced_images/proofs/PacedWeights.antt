-- The weights of marked edges, by their marks and by the marked instructions.
use Rattle.std.proofs.Common.{◌≡◌, ◌≢◌, ℕ, zero, suc, ◌+◌, ◌*◌, ◌<◌, ◌≤◌, inl, inr, Bool, true, false, cond, ◌&&◌, nat_eq, List, [], ◌∷◌, map, length, slice_get, Option, Some, None, refl, sym, ap, ◌∙◌, subst, arith, eqb-true, eq-eqb, ⊎_elim}
use Rattle.std.specs.Prelude.{nat_lt}
use Rattle.std.specs.List.{sum_by}
use Rattle.std.proofs.Math.Path.{fun_ext}
use Rattle.std.proofs.lemmas.Bool.{cases_lt, and_parts, and_from, both_ways, or_from, or_left, or_right, false_from_ne_true}
use Rattle.std.proofs.lemmas.Bool.Decides.{nat_tests}
use Rattle.std.proofs.lemmas.List.Sums.{sum_by-cons}
use Rattle.scale_base.specs.declared.fragments.Fragment.{Fragment}
use Rattle.scale_base.specs.declared.instruction.Instr.TheVariants as instr
use Rattle.scale_base.specs.declared.stepping.Class.{Class}
use Rattle.scale_base.specs.Image.{Image}
use Rattle.power_model.specs.Numbers.{PowerModel}
use Rattle.power_model.specs.Price.{cycles_of}
use Rattle.cost_theory.specs.Graph.{Graph, Loops, any_below, only}
use Rattle.cycle_laws.specs.Charged.{Charged}
use Rattle.cost_theory.specs.Worst.{Numbers}
use Rattle.cost_theory.specs.Reached.{Code, edge_at}
use Rattle.cost_theory.proofs.Laws.{search_below}
use Rattle.code_text.specs.EdgeCosts.{edge_class, weights}
use Rattle.code_text.specs.TextGraph.{text_graph}
use Rattle.code_text.specs.Text.{Text, text_of, instr_at}
use Rattle.flow_graph.specs.FlowGraph.{FlowGraph, graph}
use Rattle.loop_file.specs.declared.notes.LoopNote.{LoopNote}
use Rattle.loop_forest.specs.Tree.{LoopView, loops}
use Rattle.scale_base.specs.declared.fragments.Mark.{Mark}
use Rattle.scale_base.specs.declared.fragments.Mark.TheVariants as marks
use Rattle.scale_sites.specs.Counters.{counted_loops}
use Rattle.scale_sites.specs.Sites.{is_branch}
use Rattle.scale_sites.specs.Weights.{marks_cost, some_mark, is_patched, jumps_of, extra_of, extra_weight, tail_of}
use Rattle.level_tables.specs.declared.edge_numbers.EdgeNumbers.{EdgeNumbers}
use Rattle.stub_writer.specs.Stubs.{Site, Place, Forked, Straight}
use Rattle.stored_runs.specs.Cycles.{fragment_cost, fragment_tail}
use Rattle.stored_runs.specs.Marks.{place_at, fragments_of_class, jumps_by, tail_cycles}
use Rattle.stored_runs.specs.Stubbed.{IsOfImage}
use Rattle.paid_runs.specs.Marked as marked_specs
use Rattle.power_model.specs.Switches.{costs_of}
use Rattle.paid_runs.specs.Timely.{weights_of}
use Rattle.rewritten_runs.specs.Stubs.{IsWeighed, IsWeighedWith, AreSitesOf, told_at, fragment_by, fragments_with, extra_weights, stored_weights}
use Rattle.rewritten_runs.proofs.Laws.{branch_kind, edge_is, jump_kind, led_class, placed, program_is}
use Rattle.marked_images.specs.Wanted.{ChoosesSites, Wanted, marked_where}
use Rattle.marked_images.proofs.Laws.{marked_led, slack_plain, slack_stored, slack_weighed}

-- ---- fragments cost what their marks do

one_cost : (power : PowerModel) (test : EdgeNumbers → ℕ → ℕ → Bool) (l : Loops) (counted : List ℕ) (n : Numbers) (told : EdgeNumbers) (m : Mark) → fragment_cost (cycles_of power.costs) (fragment_by power test l counted n told m) ≡ Rattle.scale_sites.specs.Weights.mark_cost power.costs m
one_cost power test l counted n told marks.Switch = omega arith
one_cost power test l counted n told (marks.Exit i) = omega arith
one_cost power test l counted n told (marks.Reset i) = omega arith
one_cost power test l counted n told (marks.Count i) = omega arith
one_cost power test l counted n told marks.Lowest = omega arith
one_cost power test l counted n told (marks.Tally i) = omega arith

pub marks_cost_is : (power : PowerModel) (test : EdgeNumbers → ℕ → ℕ → Bool) (l : Loops) (counted : List ℕ) (n : Numbers) (told : EdgeNumbers) (ms : List Mark) → sum_by (fragment_cost (cycles_of power.costs)) (map (fragment_by power test l counted n told) ms) ≡ marks_cost power.costs ms
marks_cost_is power test l counted n told [] = refl
marks_cost_is power test l counted n told (m ∷ ms) =
    let one = one_cost power test l counted n told m in
    let rest = marks_cost_is power test l counted n told ms in
    let sum = sum_by-cons (fragment_cost (cycles_of power.costs)) (fragment_by power test l counted n told m) (map (fragment_by power test l counted n told) ms) in
    omega (arith, one, rest, sum)

-- what of a fragment lies behind its store
one_tail : (power : PowerModel) (test : EdgeNumbers → ℕ → ℕ → Bool) (l : Loops) (counted : List ℕ) (n : Numbers) (told : EdgeNumbers) (m : Mark) → fragment_tail (cycles_of power.costs) (fragment_by power test l counted n told m) ≡ Rattle.scale_sites.specs.Weights.mark_tail power.costs m
one_tail power test l counted n told marks.Switch = refl
one_tail power test l counted n told (marks.Exit i) = refl
one_tail power test l counted n told (marks.Reset i) = refl
one_tail power test l counted n told (marks.Count i) = refl
one_tail power test l counted n told marks.Lowest = refl
one_tail power test l counted n told (marks.Tally i) = refl

-- the cycles behind the store, where there are marks
pub tail_is : (power : PowerModel) (test : EdgeNumbers → ℕ → ℕ → Bool) (l : Loops) (counted : List ℕ) (n : Numbers) (told : EdgeNumbers) (m : Mark) (ms : List Mark) → tail_cycles (cycles_of power.costs) (map (fragment_by power test l counted n told) (m ∷ ms)) ≡ tail_of power.costs (m ∷ ms)
tail_is power test l counted n told m ms =
    let one = one_tail power test l counted n told m in
    let rest = marks_cost_is power test l counted n told ms in omega (arith, one, rest)

none_below : (n : ℕ) (p : ℕ → Bool) → ((k : ℕ) → k < n → p k ≡ false) → any_below n p ≡ false
none_below zero p h = refl
none_below (suc n) p h = or_from (any_below n p) (p n) (none_below n p (λ k lt2. h k (omega arith))) (h n (omega arith))

any_from : (n : ℕ) (q : ℕ → Bool) (k : ℕ) → k < n → q k ≡ true → any_below n q ≡ true
any_from zero q k lt2 h = let bad : ⊥ = omega arith in absurd bad
any_from (suc n) q k lt2 h = ⊎_elim
    (λ (low : k < n). or_left (any_below n q) (q n) (any_from n q k low h))
    (λ (high : n ≤ k). let same : k ≡ n = omega arith in or_right (any_below n q) (q n) (subst (λ j. q j ≡ true) same h))
    (cases_lt k n)

module _ (power : PowerModel) (image : Image) (notes : List LoopNote) (v : FlowGraph) (tree : LoopView) (wanted : Wanted) (stored : Numbers) (by_marks : IsWeighedWith power image notes v tree (marked_where v tree wanted) stored) (kinds_are : ChoosesSites v wanted.switch)
    (test : EdgeNumbers → ℕ → ℕ → Bool) (least : Charged) (sites : List Site) (are : AreSitesOf image v.code (fragments_with power test image v tree (marked_where v tree wanted) stored least) sites) where
  abbrev plain : Numbers
  plain = slack_plain power image notes v tree wanted stored by_marks kinds_are

  abbrev other : Numbers
  other = slack_stored power image notes v tree wanted stored by_marks kinds_are

  abbrev weighed : IsWeighed power image notes v tree plain other
  weighed = slack_weighed power image notes v tree wanted stored by_marks kinds_are

  abbrev t : Text
  t = text_of image

  abbrev code : Code
  code = v.code

  abbrev l : Loops
  l = loops v tree

  abbrev g : Graph
  g = text_graph (text_of image) v.code

  abbrev marked : ℕ → List Mark
  marked = marked_where v tree wanted

  abbrev frags : ℕ → List Fragment
  frags = fragments_with power test image v tree marked stored least

  abbrev at_edge : ℕ → ℕ
  at_edge e = edge_at (slice_get code.edges e)

  no_map : {A B : Type 0} (f : A → B) (xs : List A) → map f xs ≢ [] → xs ≢ []
  no_map f [] h e = h refl
  no_map f (x ∷ xs) h e = let never : ⊥ = cc in never

  map_some : {A B : Type 0} (f : A → B) (xs : List A) → xs ≢ [] → map f xs ≢ []
  map_some f [] h e = h refl
  map_some f (x ∷ xs) h e = let never : ⊥ = cc in never

  is_some_mark : (ms : List Mark) → some_mark ms ≡ true → ms ≢ []
  is_some_mark [] h e = let never : ⊥ = cc in never
  is_some_mark (m ∷ ms) h e = let never : ⊥ = cc in never

  has_some_mark : (ms : List Mark) → ms ≢ [] → some_mark ms ≡ true
  has_some_mark [] h = absurd (h refl)
  has_some_mark (m ∷ ms) h = refl

  abbrev pub HasMark : ℕ → Type 0
  HasMark at = (e : ℕ) × (e < length code.edges) × (at_edge e ≡ at) × (frags e ≢ [])

  -- an edge whose instruction isn't marked has no marks
  place_of_marked : (e : ℕ) → e < length code.edges → marked e ≢ [] → place_at sites (at_edge e) ≢ None
  place_of_marked e lt some none =
      let to = marked_led power image notes v tree wanted stored by_marks kinds_are e lt some in
      let c = led_class t code (program_is power image notes v tree plain other weighed).reached e to.0 lt to.1 in
      let w = are.ways e c.0 lt c.1 in
      let off : frags e ≡ [] = sym w ∙ ap (λ p. fragments_of_class p c.0) none in
      map_some (fragment_by power test l (counted_loops tree) stored (told_at power image v tree marked stored least e)) (marked e) some off

  -- an instruction is patched where it is marked
  patched_by : (e : ℕ) (o : Option Place) → e < length code.edges → place_at sites (at_edge e) ≡ o → jumps_of g (is_branch v) marked e ≡ jumps_by o
  patched_by e None lt none =
      let off : is_patched g marked (at_edge e) ≡ false = false_from_ne_true (is_patched g marked (at_edge e)) (λ on. not_patched on) in
      ap (λ b. cond b (cond (is_branch v e) 2 1) 0) off
    where
      not_patched : is_patched g marked (at_edge e) ≡ true → ⊥
      not_patched on = elim (search_below g.edges (λ d. nat_eq (g.source d) (at_edge e) && some_mark (marked d))) [
        | inl found ↦
            let d = found.0 in
            let parts = and_parts (nat_eq (g.source d) (at_edge e)) (some_mark (marked d)) found.2 in
            let same : at_edge d ≡ at_edge e = eqb-true (g.source d) (at_edge e) parts.0 in
            place_of_marked d found.1 (is_some_mark (marked d) parts.1) (ap (place_at sites) same ∙ none)
        | inr fails ↦ both_ways (is_patched g marked (at_edge e)) (none_below g.edges (λ d. nat_eq (g.source d) (at_edge e) && some_mark (marked d)) fails) on
      ]
  patched_by e (Some p) lt place =
      let is = placed image HasMark sites (at_edge e) p are.words are.some place in
      let d = is.holds.0 in
      let some : marked d ≢ [] = no_map (fragment_by power test l (counted_loops tree) stored (told_at power image v tree marked stored least d)) (marked d) is.holds.3 in
      let on : is_patched g marked (at_edge e) ≡ true = any_from g.edges (λ q. nat_eq (g.source q) (at_edge e) && some_mark (marked q)) d is.holds.1
      (and_from (nat_eq (g.source d) (at_edge e)) (some_mark (marked d)) (eq-eqb (g.source d) (at_edge e) is.holds.2) (has_some_mark (marked d) some)) in
      ap (λ b. cond b (cond (is_branch v e) 2 1) 0) on ∙ by p is.of
    where
      by : (p : Place) → IsOfImage image (at_edge e) p → cond (is_branch v e) 2 1 ≡ jumps_by (Some p)
      by (Forked op rs1 rs2 untaken taken) of = ap (λ b. cond b 2 1) (branch_kind t code (program_is power image notes v tree plain other weighed).reached e op rs1 rs2 of.0 lt of.1)
      by (Straight way) of = ap (λ b. cond b 2 1) (jump_kind t code (program_is power image notes v tree plain other weighed).reached e of.0 lt of.1)

  -- ---- weights

  lt_true : (a b : ℕ) → a < b → nat_lt a b ≡ true
  lt_true a b h = grind (arith, nat_tests)

  lt_false : (a b : ℕ) → b ≤ a → nat_lt a b ≡ false
  lt_false a b h = grind (arith, nat_tests)

  abbrev reached : Rattle.code_text.specs.TextGraph.IsReachedCode (text_of image) v.code
  reached = weighed.code_is.reached

  -- an instruction without a class isn't marked
  unclassed : (e : ℕ) (o : Option Place) → e < length code.edges → edge_class t (slice_get code.edges e) ≡ None → place_at sites (at_edge e) ≡ o → o ≡ None
  unclassed e None lt none at = refl
  unclassed e (Some p) lt none at =
      let is = placed image HasMark sites (at_edge e) p are.words are.some at in
      let x = edge_is t code reached e lt in
      let bare : Rattle.code_text.specs.EdgeCosts.class_by (Some x.instr) x.edge.kind ≡ None =
      ap (λ q. Rattle.code_text.specs.EdgeCosts.class_by q x.edge.kind) (sym (ap (instr_at t) (sym (ap edge_at x.get)) ∙ x.at)) ∙ (sym (ap (edge_class t) x.get) ∙ none) in
      absurd (by p is.of x.instr x.edge.kind x.at bare)
    where
      by : (p : Place) → IsOfImage image (at_edge e) p → (i : Rattle.scale_base.specs.declared.instruction.Instr.Instr) (kind : Rattle.scale_base.specs.declared.edges.EdgeKind.EdgeKind) → instr_at t (at_edge e) ≡ Some i → Rattle.code_text.specs.EdgeCosts.class_by (Some i) kind ≡ None → ⊥
      by (Forked op rs1 rs2 untaken taken) of i kind at2 bare =
          let same : i ≡ instr.Branch op rs1 rs2 of.0 = (let a = of.1 in cc) in
          let there = subst (λ j. Rattle.code_text.specs.EdgeCosts.class_by (Some j) kind ≡ None) same bare in let never : ⊥ = cc in never
      by (Straight way) of i kind at2 bare =
          let same : i ≡ instr.Jal 0 of.0 = (let a = of.1 in cc) in
          let there = subst (λ j. Rattle.code_text.specs.EdgeCosts.class_by (Some j) kind ≡ None) same bare in let never : ⊥ = cc in never

  extra_some : (e : ℕ) (o : Option Class) → e < length code.edges → edge_class t (slice_get code.edges e) ≡ o → marked_specs.extra_by (costs_of power) sites (at_edge e) o ≡ extra_of power.costs (jumps_of g (is_branch v) marked e) (marked e)
  extra_some e (Some class) lt is =
      let jumps = patched_by e (place_at sites (at_edge e)) lt refl in
      let cost = ap (sum_by (fragment_cost (costs_of power))) (are.ways e class lt is) ∙ marks_cost_is power test l (counted_loops tree) stored (told_at power image v tree marked stored least e) (marked e) in
      let first : jumps_by (place_at sites (at_edge e)) * power.costs.jump ≡ jumps_of g (is_branch v) marked e * power.costs.jump = ap (λ n. n * power.costs.jump) (sym jumps) in
      omega (arith, first, cost)
  extra_some e None lt is =
      let jumps = patched_by e (place_at sites (at_edge e)) lt refl in
      let none = unclassed e (place_at sites (at_edge e)) lt is refl in
      let no_jumps : jumps_of g (is_branch v) marked e ≡ 0 = jumps ∙ ap jumps_by none in
      let no_marks : marked e ≡ [] = by (marked e) refl in
      sym (ap (λ n. extra_of power.costs n (marked e)) no_jumps ∙ (ap (extra_of power.costs 0) no_marks ∙ (let z : 0 * power.costs.jump + 0 ≡ 0 = omega arith in z)))
    where
      by : (ms : List Mark) → marked e ≡ ms → marked e ≡ []
      by [] same = same
      by (m ∷ ms) same =
          let some : marked e ≢ [] = λ q. (let never : ⊥ = cc in never) in
          let to = marked_led power image notes v tree wanted stored by_marks kinds_are e lt some in
          let c = led_class t code reached e to.0 lt to.1 in
          let never : ⊥ = cc in absurd never

  no_edge : (xs : List Rattle.scale_base.specs.declared.edges.Edge.Edge) (e : ℕ) → length xs ≤ e → slice_get xs e ≡ None
  no_edge [] e h = refl
  no_edge (x ∷ xs) zero h = let bad : ⊥ = omega arith in absurd bad
  no_edge (x ∷ xs) (suc e) h = no_edge xs e (omega arith)

  pub extra_is : (e : ℕ) → marked_specs.extra_site_weights t code (costs_of power) sites e ≡ extra_weights power v marked e
  extra_is e = ⊎_elim
      (λ (lt : e < length code.edges). extra_some e (edge_class t (slice_get code.edges e)) lt refl ∙ sym (ap (λ b. only b (extra_weight (graph v) power.costs (is_branch v) marked e)) (lt_true e (length code.edges) lt)))
      (λ (ge : length code.edges ≤ e).
      ap (λ o. marked_specs.extra_by (costs_of power) sites (edge_at o) (edge_class t o)) (no_edge code.edges e ge)
      ∙ sym (ap (λ b. only b (extra_weight (graph v) power.costs (is_branch v) marked e)) (lt_false e (length code.edges) ge)))
      (cases_lt e (length code.edges))

  pub extra_same : marked_specs.extra_site_weights t code (costs_of power) sites ≡ extra_weights power v marked
  extra_same = fun_ext extra_is

  pub stored_same : weights_of power t code sites ≡ stored_weights power image v marked
  stored_same = fun_ext (λ e. ap (λ x. weights t code (costs_of power) e + x) (extra_is e))
