-- The marks of a program's edges: what they are, and what their fragments do to the counters.
use Rattle.std.proofs.Common.{◌≡◌, ◌≢◌, ℕ, zero, suc, ◌+◌, ◌-◌, ◌<◌, ◌≤◌, ◌⊎◌, inl, inr, Bool, true, false, cond, not, ◌&&◌, nat_le, List, [], ◌∷◌, ◌++◌, map, length, slice_get, Option, Some, None, refl, sym, ap, ◌∙◌, subst, arith, ⊎_elim}
use Rattle.std.specs.Prelude.{All, slice_index, slice_index_or}
use Rattle.std.proofs.lemmas.Bool.{cases_lt, and_parts}
use Rattle.std.proofs.lemmas.List.{length-map}
use Rattle.std.proofs.lemmas.List.Elements.{All-nil, All-cons, All-append}
use Rattle.std.proofs.lemmas.Option.{slice_get_within, get_or_from_slice_get}
use Rattle.scale_base.specs.declared.stepping.Class.{Class}
use Rattle.scale_base.specs.Image.{Image}
use Rattle.power_model.specs.Numbers.{PowerModel}
use Rattle.cost_theory.specs.Graph.{Graph, Loops, is_back, is_header, leaves, goes_back}
use Rattle.cost_theory.specs.Accepted.{IsProgram}
use Rattle.cycle_laws.specs.Charged.{Charged}
use Rattle.cost_theory.specs.Worst.{Numbers}
use Rattle.cost_theory.specs.Reached.{Code, edge_at}
use Rattle.cost_theory.proofs.Laws.{accepted_entered, header_held, is_program, some_get}
use Rattle.code_text.specs.EdgeCosts.{edge_class}
use Rattle.graph_runs.specs.Laws.{IsProgramOf}
use Rattle.code_text.specs.TextGraph.{text_graph}
use Rattle.code_text.specs.Text.{Text, text_of, kind_at}
use Rattle.flow_graph.specs.FlowGraph.{FlowGraph}
use Rattle.loop_file.specs.declared.notes.LoopNote.{LoopNote}
use Rattle.loop_file.specs.Kept.{noted_loops}
use Rattle.loop_forest.specs.Noted.{node_address}
use Rattle.loop_forest.specs.Tree.{LoopView, loops}
use Rattle.scale_base.specs.declared.fragments.Mark.{Mark}
use Rattle.scale_base.specs.declared.fragments.Mark.TheVariants as marks
use Rattle.scale_sites.specs.Counters.{counted_loops, edge_goes_on, IsUncountable}
use Rattle.scale_sites.specs.Marks.{first_counter, leaves_any, holds_left, is_outermost, mark_if, switch_of, exits_from, resets_from, counts_from, marks_at}
use Rattle.scale_sites.specs.Sites.{is_branch}
use Rattle.level_tables.specs.declared.edge_numbers.EdgeNumbers.{EdgeNumbers}
use Rattle.stub_writer.specs.Fragments.{IsShadow}
use Rattle.stub_writer.specs.Stubs.{Site}
use Rattle.stored_runs.specs.Marks.{place_at, fragments_of_class, counters_after, counters_behind}
use Rattle.paid_runs.specs.Shadows.{AreCountable}
use Rattle.paid_runs.specs.Marked as marked_specs
use Rattle.paid_runs.proofs.Laws.{loops_are_countable}
use Rattle.rewritten_runs.specs.Stubs.{Rule, IsWeighedBy, marks_by, told_at, fragment_by, fragments_with, loop_of, is_counted, counter_of, set_before}
use Rattle.rewritten_runs.proofs.Programs.{program_of}
use Rattle.rewritten_runs.proofs.Edges.{branch_led, call_goes_on}
use Rattle.rewritten_runs.proofs.MarkLists.{set_at, at_set, effect, through, marks_all, exits_are, resets_are, counts_are, counter_through, others_through}

-- ---- fragments act as their marks do

acts : (power : PowerModel) (test : EdgeNumbers → ℕ → ℕ → Bool) (l : Loops) (counted : List ℕ) (n : Numbers) (told : EdgeNumbers) (m : Mark) (c : ℕ → ℕ) (w : ℕ) → counters_after (fragment_by power test l counted n told m) c w ≡ effect m w (c w)
acts power test l counted n told marks.Switch c w = refl
acts power test l counted n told (marks.Exit i) c w = refl
acts power test l counted n told (marks.Reset i) c w = refl
acts power test l counted n told (marks.Count i) c w = refl
acts power test l counted n told marks.Lowest c w = refl
acts power test l counted n told (marks.Tally i) c w = refl

pub all_act : (power : PowerModel) (test : EdgeNumbers → ℕ → ℕ → Bool) (l : Loops) (counted : List ℕ) (n : Numbers) (told : EdgeNumbers) (ms : List Mark) (c : ℕ → ℕ) (w : ℕ) → counters_behind (map (fragment_by power test l counted n told) ms) c w ≡ through w ms (c w)
all_act power test l counted n told [] c w = refl
all_act power test l counted n told (m ∷ ms) c w = all_act power test l counted n told ms (counters_after (fragment_by power test l counted n told m) c) w ∙ ap (through w ms) (acts power test l counted n told m c w)

-- ---- what is so of the marks of a step

-- the counter is that of a counted loop at a place of the list
pub record IsCounter (counted : List ℕ) (c : ℕ) (P : ℕ → Type 0) : Type 0 where
  pub place : ℕ
  pub loop : ℕ
  pub get : slice_get counted place ≡ Some loop
  pub is : c ≡ first_counter + place
  pub holds : P loop

abbrev pub IsMarkOf : Loops → List ℕ → Bool → ℕ → Option ℕ → Mark → Type 0
IsMarkOf l counted branch u p marks.Switch = branch ≡ true
IsMarkOf l counted branch u p (marks.Exit c) = IsCounter counted c (λ k. leaves l k u p ≡ true)
IsMarkOf l counted branch u p (marks.Reset c) = IsCounter counted c (λ k. leaves l k u p ≡ true)
IsMarkOf l counted branch u p (marks.Count c) = IsCounter counted c (λ k. goes_back l k u p ≡ true)
IsMarkOf l counted branch u p marks.Lowest = branch ≡ true
IsMarkOf l counted branch u p (marks.Tally c) = IsCounter counted c (λ k. goes_back l k u p ≡ true)

switch_marks : (P : Mark → Type 0) (b : Bool) → (b ≡ true → P marks.Switch) → All P (mark_if b marks.Switch)
switch_marks P true h = All-cons P marks.Switch [] (h refl) (All-nil P)
switch_marks P false h = All-nil P

pub marks_are : (l : Loops) (counted : List ℕ) (branch : Bool) (slack min_gain u : ℕ) (p : Option ℕ) → All (IsMarkOf l counted branch u p) (marks_at l counted branch slack min_gain u p)
marks_are l counted branch slack min_gain u p =
    let P = IsMarkOf l counted branch u p in
    let s = switch_of l u p counted branch slack min_gain in
    let e = exits_from l u p counted first_counter counted in
    let r = resets_from l u p counted first_counter counted in
    let c = counts_from l u p first_counter counted in
    let one : All P s = switch_marks P (branch && (not (leaves_any l u p counted) && nat_le min_gain slack)) (λ on. (and_parts branch (not (leaves_any l u p counted) && nat_le min_gain slack) on).0) in
    let two : All P e = subst (All P) (sym (exits_are l u p counted first_counter counted)) (marks_all P (λ k. is_outermost l u p k counted) marks.Exit first_counter counted
    (λ j k at on. record { place = j; loop = k; get = at; is = refl; holds = (and_parts (leaves l k u p) (holds_left l u p k counted) on).0 })) in
    let three : All P r = subst (All P) (sym (resets_are l u p counted first_counter counted)) (marks_all P (λ k. leaves l k u p && not (is_outermost l u p k counted)) marks.Reset first_counter counted
    (λ j k at on. record { place = j; loop = k; get = at; is = refl; holds = (and_parts (leaves l k u p) (not (is_outermost l u p k counted)) on).0 })) in
    let four : All P c = subst (All P) (sym (counts_are l u p first_counter counted)) (marks_all P (λ k. goes_back l k u p) marks.Count first_counter counted
    (λ j k at on. record { place = j; loop = k; get = at; is = refl; holds = on })) in
    All-append P s (e ++ (r ++ c)) one (All-append P e (r ++ c) two (All-append P r c three four))

-- ---- a program

flag_set : (flags : List Bool) (k : ℕ) → slice_index_or flags k false ≡ true → slice_get flags k ≡ Some true
flag_set [] k h = let never : ⊥ = cc in absurd never
flag_set (b ∷ flags) zero h = ap Some h
flag_set (b ∷ flags) (suc k) h = flag_set flags k h

flag_is : (flags : List Bool) (k : ℕ) → slice_get flags k ≡ Some true → slice_index_or flags k false ≡ true
flag_is [] k h = let never : ⊥ = cc in absurd never
flag_is (b ∷ flags) zero h = cc
flag_is (b ∷ flags) (suc k) h = flag_is flags k h

goes_apart : (a b : Bool) → (a && b) ≡ true → b ≡ true
goes_apart a b h = (and_parts a b h).1

module _ {rule : Rule} (power : PowerModel) (image : Image) (notes : List LoopNote) (v : FlowGraph) (tree : LoopView) (plain stored : Numbers) (weighed : IsWeighedBy power image notes v tree rule plain stored) where
  abbrev t : Text
  t = text_of image

  abbrev code : Code
  code = v.code

  abbrev l : Loops
  l = loops v tree

  abbrev g : Graph
  g = text_graph (text_of image) v.code

  abbrev counted : List ℕ
  counted = counted_loops tree

  abbrev marked : ℕ → List Mark
  marked = marks_by v tree rule

  pub program_is : IsProgramOf t code l (noted_loops notes).inside
  program_is = program_of t v notes tree weighed.code_is weighed.tree_is

  pub graph_program : IsProgram g
  graph_program = is_program (kind_at t) t.entry code program_is.reached.lists program_is.reached.words program_is.calls

  pub few_counted : length counted ≤ 509
  few_counted = weighed.counters.2

  -- ---- counted loops

  pub loop_count : l.loops ≡ length tree.headers
  loop_count = length-map tree.headers (node_address v)

  pub counted_at : (k : ℕ) → is_counted tree k ≡ true → slice_get counted (set_before tree.counted k) ≡ Some k
  counted_at k ck = let e : 0 + k ≡ k = omega arith in set_at tree.counted 0 k (flag_set tree.counted k ck) ∙ ap Some e

  pub record IsCounted (j k : ℕ) : Type 0 where
    pub flag : is_counted tree k ≡ true
    pub place : set_before tree.counted k ≡ j
    pub loop : k < l.loops

  pub counted_is : (j k : ℕ) → slice_get counted j ≡ Some k → IsCounted j k
  counted_is j k at =
      let r = at_set tree.counted 0 j k at in
      let e : k ≡ r.from = (let q = r.is in omega arith) in
      let lt = slice_get_within tree.counted r.from true r.flag in
      let size = weighed.tree_is.tree.counted_size in
      record {
        flag = ap (λ q. slice_index_or tree.counted q false) e ∙ flag_is tree.counted r.from r.flag;
        place = ap (set_before tree.counted) e ∙ r.place;
        loop = omega (arith, e, lt, size, loop_count);
      }

  pub shadow_of : (j k : ℕ) → slice_get counted j ≡ Some k → IsShadow (first_counter + j)
  shadow_of j k at = let lt = slice_get_within counted j k at in (omega arith, omega (arith, lt, few_counted))

  pub loop_is : (j k : ℕ) → slice_get counted j ≡ Some k → loop_of counted (first_counter + j) ≡ k
  loop_is j k at = let e : first_counter + j - first_counter ≡ j = omega arith in ap (slice_index counted) e ∙ get_or_from_slice_get counted j k 0 at

  pub countable : AreCountable g l (is_counted tree)
  countable = loops_are_countable t code l (noted_loops notes).inside (is_counted tree) program_is
      (λ k e f w kl ck lt callee to. not_back k e kl ck lt (call_goes_on t code program_is.reached e f w lt callee to) (is_back g l k e) refl)
    where
      not_back : (k e : ℕ) → k < l.loops → is_counted tree k ≡ true → e < length code.edges → edge_goes_on (slice_get code.edges e) ≡ true → (b : Bool) → is_back g l k e ≡ b → is_back g l k e ≡ false
      not_back k e kl ck lt on true is =
          let bad : IsUncountable v tree k e = record { edge = lt; within = omega (arith, kl, loop_count); back = is; counted = flag_set tree.counted k ck; on = on } in
          absurd (weighed.counters.0 k e bad)
      not_back k e kl ck lt on false is = is

  -- a step to the header doesn't leave the loop
  back_stays : (k u : ℕ) (p : Option ℕ) → k < l.loops → goes_back l k u p ≡ true → leaves l k u p ≡ false
  back_stays k u None kl on = refl
  back_stays k u (Some w) kl on =
      let head = goes_apart (l.inside k u) (is_header l k (Some w)) on in
      let same : w ≡ l.header k = Rattle.std.proofs.Common.eqb-true w (l.header k) head in
      let held = header_held g l (noted_loops notes).inside graph_program (accepted_entered program_is.loops) k kl in
      let here : l.inside k w ≡ true = ap (l.inside k) same ∙ held in
      ap (λ b. l.inside k u && not b) here ∙ and_false (l.inside k u)
    where
      and_false : (b : Bool) → (b && false) ≡ false
      and_false true = refl
      and_false false = refl

  -- ---- the marks of an edge

  abbrev pub IsMarkAt : ℕ → Mark → Type 0
  IsMarkAt e = IsMarkOf l counted (is_branch v e) (g.source e) (g.target e)

  pub marks_of_edge : (e : ℕ) → All (IsMarkAt e) (marked e)
  marks_of_edge e = marks_are l counted (is_branch v e) _ rule.least_gain (g.source e) (g.target e)

  -- an edge with a mark leads to a node
  pub marked_led : (e : ℕ) → e < length code.edges → marked e ≢ [] → (w : ℕ) × (g.target e ≡ Some w)
  marked_led e lt some = by (marked e) refl (marks_of_edge e)
    where
      left_to : (k u : ℕ) (p : Option ℕ) → leaves l k u p ≡ true → (w : ℕ) × (p ≡ Some w)
      left_to k u None h = let never : ⊥ = cc in absurd never
      left_to k u (Some w) h = (w, refl)

      back_to : (k u : ℕ) (p : Option ℕ) → goes_back l k u p ≡ true → (w : ℕ) × (p ≡ Some w)
      back_to k u None h = let two = goes_apart (l.inside k u) false h in let never : ⊥ = cc in absurd never
      back_to k u (Some w) h = (w, refl)

      by_mark : (m : Mark) → IsMarkAt e m → (w : ℕ) × (g.target e ≡ Some w)
      by_mark marks.Switch is = branch_led t code program_is.reached e lt is
      by_mark (marks.Exit c) is = left_to is.loop (g.source e) (g.target e) is.holds
      by_mark (marks.Reset c) is = left_to is.loop (g.source e) (g.target e) is.holds
      by_mark (marks.Count c) is = back_to is.loop (g.source e) (g.target e) is.holds
      by_mark marks.Lowest is = branch_led t code program_is.reached e lt is
      by_mark (marks.Tally c) is = back_to is.loop (g.source e) (g.target e) is.holds

      by : (ms : List Mark) → marked e ≡ ms → All (IsMarkAt e) ms → (w : ℕ) × (g.target e ≡ Some w)
      by [] is all = absurd (some is)
      by (m ∷ ms) is all = by_mark m (all 0 m (omega arith))

  -- ---- what the fragments do to the counters

  module _ (sites : List Site) (least : Charged) (ways : (e : ℕ) (class : Class) → e < length code.edges → edge_class t (slice_get code.edges e) ≡ Some class → fragments_of_class (place_at sites (edge_at (slice_get code.edges e))) class ≡ fragments_with power rule.test image v tree marked stored least e) where
    behind : (e : ℕ) (class : Class) → e < length code.edges → edge_class t (slice_get code.edges e) ≡ Some class → (c : ℕ → ℕ) (w : ℕ) → counters_behind (fragments_of_class (place_at sites (edge_at (slice_get code.edges e))) class) c w ≡ through w (marked e) (c w)
    behind e class lt is c w = ap (λ fs. counters_behind fs c w) (ways e class lt is) ∙ all_act power rule.test l counted stored (told_at power image v tree marked stored least e) (marked e) c w

    pub are_marked : marked_specs.AreMarked t code l sites (is_counted tree) (counter_of tree)
    are_marked = record {
      loops = λ e class lt is k kl ck c. behind e class lt is c (counter_of tree k)
          ∙ counter_through l counted (is_branch v e) _ rule.least_gain (g.source e) (g.target e) (set_before tree.counted k) k (c (counter_of tree k)) (counted_at k ck) (back_stays k (g.source e) (g.target e) kl);
      others = λ e class lt is w none c. behind e class lt is c w ∙ others_through l counted (is_branch v e) _ rule.least_gain (g.source e) (g.target e) w (c w) (off w none);
    }
      where
        off : (w : ℕ) → ((k : ℕ) → k < l.loops → is_counted tree k ≡ true → counter_of tree k ≡ w → ⊥) → (w < first_counter) ⊎ (first_counter + length counted ≤ w)
        off w none = by (cases_lt w first_counter) (cases_lt w (first_counter + length counted))
          where
            by : (w < first_counter) ⊎ (first_counter ≤ w) → (w < first_counter + length counted) ⊎ (first_counter + length counted ≤ w) → (w < first_counter) ⊎ (first_counter + length counted ≤ w)
            by (inl low) other = inl low
            by (inr high) (inr far) = inr far
            by (inr high) (inl near) =
                let got = some_get counted (w - first_counter) (omega arith) in
                let is = counted_is (w - first_counter) got.0 got.1 in
                let place = is.place in
                absurd (none got.0 is.loop is.flag (omega (arith, place, high)))

  pub limited : marked_specs.AreLimits l (is_counted tree) (counter_of tree) (λ w. l.bound (loop_of counted w))
  limited = λ k kl ck. let e = loop_is (set_before tree.counted k) k (counted_at k ck) in let same : l.bound k ≡ l.bound (loop_of counted (counter_of tree k)) = ap l.bound (sym e) in omega (arith, same)

  pub shadows : (k : ℕ) → k < l.loops → is_counted tree k ≡ true → IsShadow (counter_of tree k)
  shadows k kl ck = shadow_of (set_before tree.counted k) k (counted_at k ck)
