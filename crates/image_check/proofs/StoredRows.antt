-- The rows of a rewritten program's tables, what a scan finds in it, and what its edges cost by that.
use Rattle.std.proofs.Common.{◌≡◌, ◌≢◌, ℕ, zero, suc, ◌+◌, ◌*◌, ◌/◌, ◌^◌, ◌<◌, true, false, List, [], ◌∷◌, map, length, refl, arith, sym, ap, ◌∙◌, slice_get, Option, Some, None}
use Rattle.std.specs.Prelude.{All, ◌==◌}
use Rattle.std.specs.List.{sum_by, list_any}
use Rattle.std.proofs.Math.Path.{fun_ext}
use Rattle.std.proofs.lemmas.Bool.{eq-eqb, cond-true}
use Rattle.std.proofs.lemmas.List.Elements.{All-nil, All-cons}
use Rattle.std.proofs.lemmas.List.Sums.{sum_by-cons}
use Rattle.scale_base.specs.declared.edges.Edge.{Edge}
use Rattle.scale_base.specs.declared.fragments.Fragment.{Fragment}
use Rattle.scale_base.specs.declared.fragments.Mark.{Mark}
use Rattle.scale_base.specs.declared.fragments.Mark.TheVariants as marks
use Rattle.scale_base.specs.declared.stepping.Class.{Class}
use Rattle.scale_base.specs.declared.stepping.Class.TheVariants as classes
use Rattle.scale_base.specs.Image.{Image, is_in, is_word_address}
use Rattle.scale_base.specs.Layout.{layout_of, is_keyed}
use Rattle.power_model.specs.Numbers.{PowerModel}
use Rattle.power_model.specs.Switches.{costs_of}
use Rattle.cost_theory.specs.Graph.{Loops}
use Rattle.cost_theory.specs.Reached.{Code, edge_at}
use Rattle.cost_theory.specs.Worst.{Numbers}
use Rattle.cost_theory.proofs.Laws.{edge_of_word}
use Rattle.cycle_laws.specs.Charged.{Charged}
use Rattle.code_text.specs.Text.{Text, text_of, kind_at}
use Rattle.code_text.specs.EdgeCosts.{edge_class, weights}
use Rattle.graph_runs.specs.Laws.{IsProgramOf}
use Rattle.flow_graph.specs.FlowGraph.{FlowGraph}
use Rattle.loop_file.specs.declared.notes.LoopNote.{LoopNote}
use Rattle.loop_file.specs.Kept.{noted_loops}
use Rattle.loop_forest.specs.Tree.{LoopView, loops}
use Rattle.level_tables.specs.Tables as tables
use Rattle.level_tables.specs.declared.edge_numbers.EdgeNumbers.{EdgeNumbers}
use Rattle.scale_sites.specs.Counters.{counted_loops}
use Rattle.stub_writer.specs.Stubs.{Site, Place}
use Rattle.stored_runs.specs.Cycles.{fragment_cost}
use Rattle.stored_runs.specs.Marks.{place_at, fragments_of_class, jumps_by}
use Rattle.stored_runs.specs.Patched.{IsPatched}
use Rattle.paid_runs.specs.Marked.{extra_by, extra_site_weights}
use Rattle.paid_runs.specs.Timely.{weights_of}
use Rattle.foreign_scan.specs.Scanned.{segment_places, IsScanned, Found}
use Rattle.rewritten_runs.specs.Stubs.{IsWeighed, AreSitesOf, marks_by_slack, told_at, fragment_of, fragments_at, loop_of}
use Rattle.rewritten_runs.proofs.Laws.{program_is, rows_count}
use Rattle.image_check.specs.Safe.{Owner, owner_bound, sites_of}
use Rattle.image_check.proofs.OnEdges.{reached_word}
use Rattle.image_check.proofs.StoredTables.{HasItsRows}
use Rattle.image_check.proofs.StoredStubs.{HasWholeWords}
use Rattle.image_check.proofs.StoredPlaces.{all_on}
use Rattle.image_check.proofs.StoredScan as scan
use Rattle.image_check.proofs.StoredScan.{IsMarkedAt, HaveItsRows}
use Rattle.image_check.proofs.StoredSites.{place_same}
use Rattle.image_check.proofs.StoredCounts.{mark_clears}
use Rattle.image_check.proofs.StoredOwners as owned

exit_clears : (c : ℕ) (ms : List Mark) (i : ℕ) → slice_get ms i ≡ Some (marks.Exit c) → 0 < sum_by (mark_clears c) ms
exit_clears c [] i e = let never : ⊥ = cc in absurd never
exit_clears c (m ∷ ms) zero e =
    let is : m ≡ marks.Exit c = cc in
    let one : mark_clears c m ≡ 1 = ap (mark_clears c) is ∙ cond-true (c == c) 1 0 (eq-eqb c c refl) in
    omega (arith, one, sum_by-cons (mark_clears c) m ms)
exit_clears c (m ∷ ms) (suc i) e = let later = exit_clears c ms i e in omega (arith, later, sum_by-cons (mark_clears c) m ms)

-- each mark's fragment has its rows, where its counter has its loop
rows_of_marks : (power : PowerModel) (l : Loops) (counted : List ℕ) (n : Numbers) (told : EdgeNumbers) (owner : Owner) (ms : List Mark)
    → ((c i : ℕ) → slice_get ms i ≡ Some (marks.Exit c) → owner c ≡ Some (loop_of counted c)) → All (HasItsRows l owner) (map (fragment_of power l counted n told) ms)
rows_of_marks power l counted n told owner [] own = All-nil (HasItsRows l owner)
rows_of_marks power l counted n told owner (m ∷ ms) own =
    All-cons (HasItsRows l owner) (fragment_of power l counted n told m) (map (fragment_of power l counted n told) ms) (by m (λ c e. own c 0 (ap Some e))) (rows_of_marks power l counted n told owner ms (λ c i e. own c (suc i) e))
  where
    by : (m : Mark) → ((c : ℕ) → m ≡ marks.Exit c → owner c ≡ Some (loop_of counted c)) → HasItsRows l owner (fragment_of power l counted n told m)
    by marks.Switch h = tt
    by (marks.Exit c) h =
        let b = l.bound (loop_of counted c) in
        rows_count power b (n.iteration (loop_of counted c)) told ∙ ap (λ o. owner_bound l o / 2 ^ tables.shift_of b + 1) (sym (h c refl))
    by (marks.Reset c) h = tt
    by (marks.Count c) h = tt
    by marks.Lowest h = tt
    by (marks.Tally c) h = tt

module _ (power : PowerModel) (original foreign : Image) (notes : List LoopNote) (v : FlowGraph) (tree : LoopView) (plain stored : Numbers) (weighed : IsWeighed power original notes v tree plain stored) (least : Charged) (sites : List Site)
    (are : AreSitesOf original v.code (fragments_at power original v tree (marks_by_slack power original v tree plain) stored least) sites)
    (limits : ℕ → ℕ) (start : ℕ) (p : IsPatched original foreign (length power.levels) limits sites start)
    (marked_at : (at : ℕ) (q : Place) → place_at sites at ≡ Some q → IsMarkedAt original v.code at q)
    (low : (at : ℕ) → is_word_address original at ≡ true → at < 2 ^ 32)
    (whole : HasWholeWords foreign) (off : (a : ℕ) → list_any (is_in a) original.text ≡ true → is_keyed (layout_of foreign) a ≡ false)
    (keyed : foreign.keyed_segment ≢ None) (places : segment_places foreign ≡ segment_places original) where
  abbrev t : Text
  t = text_of original

  abbrev code : Code
  code = v.code

  abbrev l : Loops
  l = loops v tree

  abbrev marked : ℕ → List Mark
  marked = marks_by_slack power original v tree plain

  abbrev frags : ℕ → List Fragment
  frags = fragments_at power original v tree marked stored least

  abbrev prog : IsProgramOf t code l (noted_loops notes).inside
  prog = program_is power original notes v tree plain stored weighed

  abbrev found : Found
  found = owned.found power original foreign notes v tree plain stored weighed least sites are limits start p marked_at low whole off

  abbrev owner : Owner
  owner = owned.owner power original foreign notes v tree plain stored weighed least sites are limits start p marked_at low whole off

  -- ---- rows

  edge_rows : (e : ℕ) → e < length code.edges → All (HasItsRows l owner) (frags e)
  edge_rows e lt = rows_of_marks power l (counted_loops tree) stored (told_at power original v tree marked stored least e) owner (marked e)
      (λ c i is.
      let sums = owned.sums power original foreign notes v tree plain stored weighed least sites are limits start p marked_at low whole off c e lt in
      let some = exit_clears c (marked e) i is in
      let clears = sums.clears in
      owned.owner_of power original foreign notes v tree plain stored weighed least sites are limits start p marked_at low whole off c e lt (omega (arith, some, clears)))

  its : (at : ℕ) (q : Place) → place_at sites at ≡ Some q → HaveItsRows l owner q
  its at q d =
      let m = marked_at at q d in
      all_on original code prog.reached frags sites are (HasItsRows l owner) edge_rows at m.edge m.low m.starts q d (p.stubs [] at q m.word d).of_image

  -- ---- the scan

  pub scanned : IsScanned original foreign code l found
  scanned = scan.scanned original foreign (length power.levels) limits sites start p code prog.reached marked_at low whole off l owner its
      (owned.first power original foreign notes v tree plain stored weighed least sites are limits start p marked_at low whole off) keyed places

  -- ---- weights

  abbrev its_sites : List Site
  its_sites = sites_of original foreign code l owner found

  place_is : (at : ℕ) → is_word_address original at ≡ true → place_at its_sites at ≡ place_at sites at
  place_is at word = place_same original foreign (length power.levels) limits sites start p code l owner prog.reached marked_at low whole off its scanned at word

  edge_word : (e : ℕ) (x : Edge) → slice_get code.edges e ≡ Some x → is_word_address original x.at ≡ true
  edge_word e x there =
      let s = edge_of_word (kind_at t) t.entry code prog.reached.lists e x there in
      ap (is_word_address original) s.3 ∙ reached_word original foreign code l owner found prog.reached scanned s.1.0 s.0 s.1.1

  -- the place of an edge's instruction is the one that is found
  pub edge_place : (e : ℕ) (x : Edge) → slice_get code.edges e ≡ Some x → place_at its_sites x.at ≡ place_at sites x.at
  edge_place e x there = place_is x.at (edge_word e x there)

  extra_is : (costs : Class → ℕ) (e : ℕ) → extra_site_weights t code costs its_sites e ≡ extra_site_weights t code costs sites e
  extra_is costs e = by (slice_get code.edges e) refl
    where
      by_class : (x : Edge) → place_at its_sites x.at ≡ place_at sites x.at → (o : Option Class) → extra_by costs its_sites x.at o ≡ extra_by costs sites x.at o
      by_class x same None = refl
      by_class x same (Some class) = ap (λ q. jumps_by q * costs classes.Jump + sum_by (fragment_cost costs) (fragments_of_class q class)) same

      by : (o : Option Edge) → slice_get code.edges e ≡ o → extra_by costs its_sites (edge_at o) (edge_class t o) ≡ extra_by costs sites (edge_at o) (edge_class t o)
      by None is = refl
      by (Some x) is = by_class x (edge_place e x is) (edge_class t (Some x))

  pub extra_same : (costs : Class → ℕ) → extra_site_weights t code costs its_sites ≡ extra_site_weights t code costs sites
  extra_same costs = fun_ext (λ e. extra_is costs e)

  pub weights_same : weights_of power t code its_sites ≡ weights_of power t code sites
  weights_same = fun_ext (λ e. ap (λ x. weights t code (costs_of power) e + x) (extra_is (costs_of power) e))
