-- The marks of a program's edges: what they are, and what their fragments do to the counters.
use Rattle.std.proofs.Common.{◌≡◌, ℕ, ◌+◌, ◌-◌, ◌<◌, ◌≤◌, ◌⊎◌, inl, inr, Bool, true, false, cond, not, ◌&&◌, List, [], ◌∷◌, map, length, slice_get, Option, Some, None, refl, sym, ap, ◌∙◌, arith, ⊎_elim}
use Rattle.std.proofs.lemmas.Bool.{cases_lt, and_parts}
use Rattle.scale_base.specs.declared.stepping.Class.{Class}
use Rattle.scale_base.specs.Image.{Image}
use Rattle.power_model.specs.Numbers.{PowerModel}
use Rattle.cost_theory.specs.Graph.{Graph, Loops, is_header, leaves, goes_back}
use Rattle.cycle_laws.specs.Charged.{Charged}
use Rattle.cost_theory.specs.Worst.{Numbers}
use Rattle.cost_theory.specs.Reached.{Code, edge_at}
use Rattle.cost_theory.proofs.Laws.{accepted_entered, header_held, some_get}
use Rattle.code_text.specs.EdgeCosts.{edge_class}
use Rattle.code_text.specs.TextGraph.{text_graph}
use Rattle.code_text.specs.Text.{Text, text_of}
use Rattle.flow_graph.specs.FlowGraph.{FlowGraph}
use Rattle.loop_file.specs.declared.notes.LoopNote.{LoopNote}
use Rattle.loop_file.specs.Kept.{noted_loops}
use Rattle.loop_forest.specs.Tree.{LoopView, loops}
use Rattle.scale_base.specs.declared.fragments.Mark.{Mark}
use Rattle.scale_base.specs.declared.fragments.Mark.TheVariants as marks
use Rattle.scale_sites.specs.Counters.{counted_loops}
use Rattle.scale_sites.specs.Forms.{first_tally, counter_after, counter_behind}
use Rattle.scale_sites.specs.Marks.{first_counter}
use Rattle.scale_sites.specs.Sites.{marks_where}
use Rattle.scale_sites.proofs.Laws.{first_tally_from, formed_counts}
use Rattle.level_tables.specs.declared.edge_numbers.EdgeNumbers.{EdgeNumbers}
use Rattle.stub_writer.specs.Stubs.{Site}
use Rattle.stored_runs.specs.Marks.{place_at, fragments_of_class, counters_after, counters_behind}
use Rattle.paid_runs.specs.Marked as marked_specs
use Rattle.rewritten_runs.specs.Stubs.{IsWeighed, IsWeighedWith, AreSitesOf, told_at, fragment_by, fragments_with, is_counted, counter_of, set_before}
use Rattle.rewritten_runs.proofs.Laws.{IsMarkOf, counted_at, counted_is, counter_through, effect, graph_program, marks_are, others_through, program_is, through}
use Rattle.marked_images.specs.Wanted.{ChoosesSites, Wanted, marked_where}
use Rattle.marked_images.proofs.Laws.{slack_plain, slack_stored, slack_weighed}

-- ---- fragments act as their marks do

acts : (power : PowerModel) (test : EdgeNumbers → ℕ → ℕ → Bool) (l : Loops) (counted : List ℕ) (n : Numbers) (told : EdgeNumbers) (m : Mark) (c : ℕ → ℕ) (w : ℕ) → counters_after (fragment_by power test l counted n told m) c w ≡ effect m w (c w)
acts power test l counted n told marks.Switch c w = refl
acts power test l counted n told (marks.Exit i) c w = refl
acts power test l counted n told (marks.Reset i) c w = refl
acts power test l counted n told (marks.Count i) c w = refl
acts power test l counted n told marks.Lowest c w = refl
acts power test l counted n told (marks.Tally i) c w = refl

pub all_act : (power : PowerModel) (test : EdgeNumbers → ℕ → ℕ → Bool) (l : Loops) (counted : List ℕ) (n : Numbers) (told : EdgeNumbers) (ms : List Mark) (c : ℕ → ℕ) (w : ℕ) → counters_behind (map (fragment_by power test l counted n told) ms) c w ≡ through w ms (c w)
all_act power test l counted n told [] c w = refl
all_act power test l counted n told (m ∷ ms) c w = all_act power test l counted n told ms (counters_after (fragment_by power test l counted n told m) c) w ∙ ap (through w ms) (acts power test l counted n told m c w)

-- what marks do to a counter, one by one
one_alike : (m : Mark) (w x : ℕ) → effect m w x ≡ counter_after m w x
one_alike marks.Switch w x = refl
one_alike (marks.Exit i) w x = refl
one_alike (marks.Reset i) w x = refl
one_alike (marks.Count i) w x = refl
one_alike marks.Lowest w x = refl
one_alike (marks.Tally i) w x = refl

all_alike : (w : ℕ) (ms : List Mark) (x : ℕ) → through w ms x ≡ counter_behind w ms x
all_alike w [] x = refl
all_alike w (m ∷ ms) x = all_alike w ms (effect m w x) ∙ ap (counter_behind w ms) (one_alike m w x)

module _ (power : PowerModel) (image : Image) (notes : List LoopNote) (v : FlowGraph) (tree : LoopView) (wanted : Wanted) (stored : Numbers) (by_marks : IsWeighedWith power image notes v tree (marked_where v tree wanted) stored) (kinds_are : ChoosesSites v wanted.switch)
    (test : EdgeNumbers → ℕ → ℕ → Bool) (least : Charged) (sites : List Site) (are : AreSitesOf image v.code (fragments_with power test image v tree (marked_where v tree wanted) stored least) sites) where
  abbrev plain : Numbers
  plain = slack_plain power image notes v tree wanted stored by_marks kinds_are

  abbrev other : Numbers
  other = slack_stored power image notes v tree wanted stored by_marks kinds_are

  abbrev weighed : IsWeighed power image notes v tree plain other
  weighed = slack_weighed power image notes v tree wanted stored by_marks kinds_are

  abbrev t : Text
  t = text_of image

  abbrev code : Code
  code = v.code

  abbrev l : Loops
  l = loops v tree

  abbrev g : Graph
  g = text_graph (text_of image) v.code

  abbrev counted : List ℕ
  counted = counted_loops tree

  abbrev marked : ℕ → List Mark
  marked = marked_where v tree wanted

  goes_apart : (a b : Bool) → (a && b) ≡ true → b ≡ true
  goes_apart a b h = (and_parts a b h).1

  -- a step to the header doesn't leave the loop
  back_stays : (k u : ℕ) (p : Option ℕ) → k < l.loops → goes_back l k u p ≡ true → leaves l k u p ≡ false
  back_stays k u None kl on = refl
  back_stays k u (Some w) kl on =
      let head = goes_apart (l.inside k u) (is_header l k (Some w)) on in
      let same : w ≡ l.header k = Rattle.std.proofs.Common.eqb-true w (l.header k) head in
      let held = header_held g l (noted_loops notes).inside (graph_program power image notes v tree plain other weighed) (accepted_entered (program_is power image notes v tree plain other weighed).loops) k kl in
      let here : l.inside k w ≡ true = ap (l.inside k) same ∙ held in
      ap (λ b. l.inside k u && not b) here ∙ and_false (l.inside k u)
    where
      and_false : (b : Bool) → (b && false) ≡ false
      and_false true = refl
      and_false false = refl

  behind : (e : ℕ) (class : Class) → e < length code.edges → edge_class t (slice_get code.edges e) ≡ Some class → (c : ℕ → ℕ) (w : ℕ) → counters_behind (fragments_of_class (place_at sites (edge_at (slice_get code.edges e))) class) c w ≡ through w (marked e) (c w)
  behind e class lt is c w = ap (λ fs. counters_behind fs c w) (are.ways e class lt is) ∙ all_act power test l counted stored (told_at power image v tree marked stored least e) (marked e) c w

  -- the marks of the counted loops alone
  abbrev bare : ℕ → List Mark
  bare = marks_where v tree counted wanted.switch

  -- a counter that is tallied on an edge counts there
  tally_counts : (e i : ℕ) → first_tally wanted.tallied (bare e) ≡ Some i → (y : ℕ) → counter_behind i (bare e) y ≡ y + 1
  tally_counts e i is y =
      let u = g.source e in
      let p = g.target e in
      let f = (first_tally_from (IsMarkOf l counted (wanted.switch e) u p) wanted.tallied (bare e) i (marks_are l counted (wanted.switch e) 0 0 u p) is).0 in
      let kl = (counted_is power image notes v tree plain other weighed f.place f.loop f.get).loop in
      let here = counter_through l counted (wanted.switch e) 0 0 u p f.place f.loop y f.get (back_stays f.loop u p kl) in
      sym (all_alike i (bare e) y) ∙ (ap (λ w. through w (bare e) y) f.is ∙ (here ∙ ap (λ b. cond b (y + 1) (cond (leaves l f.loop u p) 0 y)) f.holds))

  -- their forms do to each counter what they do
  formed_through : (e w x : ℕ) → through w (marked e) x ≡ through w (bare e) x
  formed_through e w x = all_alike w (marked e) x ∙ (formed_counts (wanted.lowest e) wanted.tallied (bare e) (tally_counts e) w x ∙ sym (all_alike w (bare e) x))

  pub are_marked : marked_specs.AreMarked t code l sites (is_counted tree) (counter_of tree)
  are_marked = record {
    loops = λ e class lt is k kl ck c. behind e class lt is c (counter_of tree k)
        ∙ formed_through e (counter_of tree k) (c (counter_of tree k))
        ∙ counter_through l counted (wanted.switch e) 0 0 (g.source e) (g.target e) (set_before tree.counted k) k (c (counter_of tree k)) (counted_at power image notes v tree plain other weighed k ck) (back_stays k (g.source e) (g.target e) kl);
    others = λ e class lt is w none c. behind e class lt is c w ∙ formed_through e w (c w) ∙ others_through l counted (wanted.switch e) 0 0 (g.source e) (g.target e) w (c w) (off w none);
  }
    where
      off : (w : ℕ) → ((k : ℕ) → k < l.loops → is_counted tree k ≡ true → counter_of tree k ≡ w → ⊥) → (w < first_counter) ⊎ (first_counter + length counted ≤ w)
      off w none = by (cases_lt w first_counter) (cases_lt w (first_counter + length counted))
        where
          by : (w < first_counter) ⊎ (first_counter ≤ w) → (w < first_counter + length counted) ⊎ (first_counter + length counted ≤ w) → (w < first_counter) ⊎ (first_counter + length counted ≤ w)
          by (inl low) other = inl low
          by (inr high) (inr far) = inr far
          by (inr high) (inl near) =
              let got = some_get counted (w - first_counter) (omega arith) in
              let is = counted_is power image notes v tree plain other weighed (w - first_counter) got.0 got.1 in
              let place = is.place in
              absurd (none got.0 is.loop is.flag (omega (arith, place, high)))
