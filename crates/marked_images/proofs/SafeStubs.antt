-- The marked instructions of a program are safe: their tables hold levels, they have a row for each count, and their ways lead to words of the text.
use Rattle.std.proofs.Common.{◌≡◌, ◌≢◌, ℕ, zero, suc, ◌+◌, ◌%◌, ◌/◌, ◌^◌, Bool, ◌<◌, ◌≤◌, inl, inr, true, List, [], ◌∷◌, length, slice_get, Option, Some, None, refl, sym, ap, ◌∙◌, subst, arith, eqb-true}
use Rattle.std.specs.Prelude.{All, ◌==◌, slice_index}
use Rattle.std.proofs.lemmas.Bool.{and_parts}
use Rattle.std.proofs.lemmas.List.Elements.{All-map}
use Rattle.std.proofs.lemmas.Option.{get_or_from_slice_get}
use Rattle.scale_base.specs.declared.fragments.Fragment.{Fragment}
use Rattle.scale_base.specs.declared.instruction.Instr.{Instr}
use Rattle.scale_base.specs.declared.instruction.Instr.TheVariants as instr
use Rattle.scale_base.specs.declared.stepping.Class.{Class}
use Rattle.scale_base.specs.declared.stepping.Class.TheVariants as classes
use Rattle.scale_base.specs.Arith.{moved_by}
use Rattle.scale_base.specs.Image.{Image, is_word_address}
use Rattle.power_model.specs.Numbers.{PowerModel, IsPowerModel}
use Rattle.scale_base.specs.declared.edges.Edge.{Edge}
use Rattle.scale_base.specs.declared.edges.EdgeKind.TheVariants.{Taken, Untaken, Jump}
use Rattle.cost_theory.specs.Graph.{Graph, Loops}
use Rattle.cycle_laws.specs.Charged.{Charged}
use Rattle.cost_theory.specs.Worst.{Numbers}
use Rattle.cost_theory.specs.Reached.{Code, Reached, LeadsTo, edges_of, call_returns, edge_at}
use Rattle.cost_theory.proofs.Laws.{source_reached, Within, word_edge}
use Rattle.code_text.specs.EdgeCosts.{edge_class}
use Rattle.code_text.specs.TextGraph.{text_graph}
use Rattle.code_text.specs.Text.{Text, text_of, instr_at, instr_kind, kind_at}
use Rattle.flow_graph.specs.FlowGraph.{FlowGraph}
use Rattle.loop_file.specs.declared.notes.LoopNote.{LoopNote}
use Rattle.loop_file.specs.Kept.{noted_loops}
use Rattle.loop_forest.specs.Tree.{LoopView, loops}
use Rattle.scale_base.specs.declared.fragments.Mark.{Mark}
use Rattle.scale_base.specs.declared.fragments.Mark.TheVariants as marks
use Rattle.scale_sites.specs.Counters.{counted_loops}
use Rattle.stub_writer.specs.Fragments.{IsShadow}
use Rattle.stub_writer.specs.Stubs.{Site, Way, Place, Forked, Straight}
use Rattle.stored_runs.specs.Marks.{place_at, fragments_of_class}
use Rattle.stored_runs.specs.Stubbed.{IsSafe, IsSafeWay, IsOfImage, AreSafeWays, IsSafeSite, AreOrdered, IsTable}
use Rattle.paid_runs.proofs.Laws.{targets_are_words}
use Rattle.rewritten_runs.specs.Stubs.{IsWeighed, IsWeighedWith, AreSitesOf, told_at, fragment_by, fragments_with, loop_of}
use Rattle.rewritten_runs.proofs.Laws.{IsMarkOf, branch_fits, counted_is, edge_is, graph_program, in_get, place_of_site, program_is, set_distinct, shadow_of, shift_fits, tally_fits}
use Rattle.std.specs.List.{range_with_len}
use Rattle.level_tables.specs.Tables as tables
use Rattle.level_tables.specs.declared.edge_numbers.EdgeNumbers.{EdgeNumbers}
use Rattle.level_tables.proofs.Laws.{nibbles-fit, entries-low, entry-least, word_by-at}
use Rattle.marked_images.specs.Wanted.{ChoosesSites, Wanted, marked_where}
use Rattle.marked_images.proofs.Ordered.{marks_ordered}
use Rattle.marked_images.proofs.WantedKinds.{rows_by_count, marks_of_edge, good_fragments}
use Rattle.marked_images.proofs.WantedKinds as Kinds

-- ---- words and rows are tables of levels

word_by_table : (power : PowerModel) (test : EdgeNumbers → ℕ → ℕ → Bool) (site : EdgeNumbers) → length power.levels ≤ 8 → IsTable (length power.levels) (tables.word_by power test site)
word_by_table power test site few = (
  nibbles-fit (tables.entry_by test site) 0 (length power.levels) few (λ k h. entries-low test site k (length power.levels) few (omega arith)),
  λ i h. let e = word_by-at power test site i few h in let up = (entry-least test site i).up_to in omega (arith, e, up, h),
)

rows_by_tables : (power : PowerModel) (test : EdgeNumbers → ℕ → ℕ → Bool) (bound iteration : ℕ) (site : EdgeNumbers) → length power.levels ≤ 8 → All (IsTable (length power.levels)) (tables.all_rows_by power test bound iteration site)
rows_by_tables power test bound iteration site few =
    All-map (IsTable (length power.levels)) (tables.row_by power test bound iteration site) (range_with_len 0 (bound / 2 ^ tables.shift_of bound + 1)) (λ k d lt. word_by_table power test _ few)

module _ (power : PowerModel) (ok : IsPowerModel power) (image : Image) (notes : List LoopNote) (v : FlowGraph) (tree : LoopView) (wanted : Wanted) (stored : Numbers) (by_marks : IsWeighedWith power image notes v tree (marked_where v tree wanted) stored) (kinds_are : ChoosesSites v wanted.switch)
    (test : EdgeNumbers → ℕ → ℕ → Bool) (least : Charged) (sites : List Site) (are : AreSitesOf image v.code (fragments_with power test image v tree (marked_where v tree wanted) stored least) sites) where
  abbrev plain : Numbers
  plain = Kinds.plain power image notes v tree wanted stored by_marks kinds_are

  abbrev other : Numbers
  other = Kinds.other power image notes v tree wanted stored by_marks kinds_are

  abbrev weighed : IsWeighed power image notes v tree plain other
  weighed = Kinds.weighed power image notes v tree wanted stored by_marks kinds_are

  abbrev t : Text
  t = text_of image

  abbrev code : Code
  code = v.code

  abbrev l : Loops
  l = loops v tree

  abbrev g : Graph
  g = text_graph (text_of image) v.code

  abbrev counted : List ℕ
  counted = counted_loops tree

  abbrev marked : ℕ → List Mark
  marked = marked_where v tree wanted

  abbrev frags : ℕ → List Fragment
  frags = fragments_with power test image v tree marked stored least

  abbrev levels : ℕ
  levels = length power.levels

  abbrev limits : ℕ → ℕ
  limits w = l.bound (loop_of counted w)

  prog : Rattle.graph_runs.specs.Laws.IsProgramOf t code l (noted_loops notes).inside
  prog = program_is power image notes v tree plain other weighed

  pub bound_small : (k : ℕ) → l.bound k ≤ 1000000000
  bound_small k = by (slice_get tree.bounds k) refl
    where
      by : (o : Option ℕ) → slice_get tree.bounds k ≡ o → l.bound k ≤ 1000000000
      by None e = let z : slice_index tree.bounds k ≡ 0 = none_index tree.bounds k e in omega (arith, z)
        where
          none_index : (xs : List ℕ) (i : ℕ) → slice_get xs i ≡ None → slice_index xs i ≡ 0
          none_index [] i q = refl
          none_index (x ∷ xs) zero q = let never : ⊥ = cc in absurd never
          none_index (x ∷ xs) (suc i) q = none_index xs i q
      by (Some n) e = let z = get_or_from_slice_get tree.bounds k n 0 e in let small = weighed.tree_is.tree.bound k n e in omega (arith, z, small)

  -- ---- the fragments of an edge

  safe_mark : (e : ℕ) (m : Mark) → IsMarkOf l counted (wanted.switch e) (g.source e) (g.target e) m → IsSafe levels limits (fragment_by power test l counted stored (told_at power image v tree marked stored least e) m)
  safe_mark e marks.Switch is = word_by_table power test (told_at power image v tree marked stored least e) ok.few
  safe_mark e (marks.Exit c) is =
      let k = loop_of counted c in
      let small = bound_small k in
      let fits = shift_fits (l.bound k) (omega (arith, small)) in
      let rows = rows_by_count power test (l.bound k) (stored.iteration k) (told_at power image v tree marked stored least e) in (
        subst IsShadow (sym is.is) (shadow_of power image notes v tree plain other weighed is.place is.loop is.get),
        fits.0,
        omega (arith, rows, fits.1),
        omega (arith, rows),
        rows_by_tables power test (l.bound k) (stored.iteration k) (told_at power image v tree marked stored least e) ok.few,
      )
  safe_mark e (marks.Reset c) is = subst IsShadow (sym is.is) (shadow_of power image notes v tree plain other weighed is.place is.loop is.get)
  safe_mark e (marks.Count c) is = subst IsShadow (sym is.is) (shadow_of power image notes v tree plain other weighed is.place is.loop is.get)
  safe_mark e marks.Lowest is = tt
  safe_mark e (marks.Tally c) is =
      let k = loop_of counted c in
      let small = bound_small k in
      let fits = tally_fits power test (l.bound k) (stored.iteration k) (told_at power image v tree marked stored least e) (omega (arith, small)) in (
        subst IsShadow (sym is.is) (shadow_of power image notes v tree plain other weighed is.place is.loop is.get),
        fits.0,
        fits.2,
        fits.3,
        omega (arith, small),
      )

  safe_fragments : (e : ℕ) → All (IsSafe levels limits) (frags e)
  safe_fragments e = All-map (IsSafe levels limits) (fragment_by power test l counted stored (told_at power image v tree marked stored least e)) (marked e)
      (λ k d lt. safe_mark e _ (marks_of_edge power image notes v tree wanted stored by_marks kinds_are e k d lt))

  few_fragments : (e : ℕ) → e < length code.edges → length (frags e) ≤ 17
  few_fragments e lt = (good_fragments power image notes v tree wanted stored by_marks kinds_are test least e lt).0

  ordered_fragments : (e : ℕ) → e < length code.edges → AreOrdered (frags e)
  ordered_fragments e lt =
      marks_ordered power test g l (noted_loops notes).inside counted stored (told_at power image v tree marked stored least e) (graph_program power image notes v tree plain other weighed) prog.loops
      (λ k h. let at = in_get k counted h in (counted_is power image notes v tree plain other weighed at.0 k at.1).loop) (set_distinct 0 tree.counted) e (wanted.switch e) (wanted.lowest e) wanted.tallied 0 0 lt

  -- ---- ways

  safe_way : (e : ℕ) (w : Way) → e < length code.edges → w.fragments ≡ frags e → w.to < 2 ^ 32 → w.to % 4 ≡ 0 → IsSafeWay levels limits w
  safe_way e w lt same small even = record {
    few = (let n = ap length same in let few = few_fragments e lt in omega (arith, n, few));
    safe = subst (All (IsSafe levels limits)) (sym same) (safe_fragments e);
    ordered = subst AreOrdered (sym same) (ordered_fragments e lt);
    small = small;
    even = even;
  }

  -- the edge of a reached instruction
  edge_of : (f u : ℕ) (x : Edge) → Reached (kind_at t) t.entry f u → Within x (edges_of (kind_at t u) u (call_returns code (kind_at t u))) → (e : ℕ) × (e < length code.edges) × (slice_get code.edges e ≡ Some x)
  edge_of f u x reached within = word_edge (kind_at t) t.entry code prog.reached.lists f u x reached within

  record IsWordAt (u : ℕ) (i : Instr) : Type 0 where
    function : ℕ
    reached : Reached (kind_at t) t.entry function u
    kind : kind_at t u ≡ instr_kind t u i

  word_of_mark : (u : ℕ) (i : Instr) → instr_at t u ≡ Some i → ((e : ℕ) × (e < length code.edges) × (edge_at (slice_get code.edges e) ≡ u) × (frags e ≢ [])) → IsWordAt u i
  word_of_mark u i at h =
      let r = source_reached (kind_at t) t.entry code prog.reached.lists prog.reached.words h.0 h.1 in
      let x = edge_is t code prog.reached h.0 h.1 in
      let same : x.instr ≡ i = (let a = x.at in let b = ap (instr_at t) h.2 ∙ at in cc) in
      record {
        function = r.0;
        reached = subst (Reached (kind_at t) t.entry r.0) h.2 r.1;
        kind = ap (kind_at t) (sym h.2) ∙ (x.kind ∙ (ap (λ q. instr_kind t q x.instr) h.2 ∙ ap (instr_kind t u) same));
      }

  frags_at : (u : ℕ) (x : Edge) (class : Class) (e : ℕ) → e < length code.edges → slice_get code.edges e ≡ Some x → x.at ≡ u → edge_class t (Some x) ≡ Some class → fragments_of_class (place_at sites u) class ≡ frags e
  frags_at u x class e lt get at is = ap (λ a. fragments_of_class (place_at sites a) class) (sym (ap edge_at get ∙ at)) ∙ are.ways e class lt (ap (edge_class t) get ∙ is)

  target_even : (u to f : ℕ) → Reached (kind_at t) t.entry f u → LeadsTo (kind_at t u) u to → to % 4 ≡ 0
  target_even u to f reached leads = (targets_are_words t code l (noted_loops notes).inside prog f u to reached leads).0

  safe_ways : (u : ℕ) (p : Place) → is_word_address image u ≡ true → IsOfImage image u p → ((e : ℕ) × (e < length code.edges) × (edge_at (slice_get code.edges e) ≡ u) × (frags e ≢ [])) → place_at sites u ≡ Some p → AreSafeWays levels limits p
  safe_ways u (Forked op rs1 rs2 untaken taken) word of some place =
      let offset = of.0 in
      let w = word_of_mark u (instr.Branch op rs1 rs2 offset) of.1 some in
      let fits = branch_fits _ op rs1 rs2 offset of.1 in
      let to = moved_by u offset in
      let x : Edge = record { at = u; kind = Taken; to = moved_by u offset } in
      let y : Edge = record { at = u; kind = Untaken; to = u + 4 } in
      let e = edge_of w.function u x w.reached (subst (λ q. Within x (edges_of q u (call_returns code (kind_at t u)))) (sym w.kind) (inl refl)) in
      let d = edge_of w.function u y w.reached (subst (λ q. Within y (edges_of q u (call_returns code (kind_at t u)))) (sym w.kind) (inr (inl refl))) in
      let class_x : edge_class t (Some x) ≡ Some classes.Taken = ap (λ o. Rattle.code_text.specs.EdgeCosts.class_by o Taken) of.1 in
      let class_y : edge_class t (Some y) ≡ Some classes.Untaken = ap (λ o. Rattle.code_text.specs.EdgeCosts.class_by o Untaken) of.1 in
      let one : taken.fragments ≡ frags e.0 = sym (ap (λ o. fragments_of_class o classes.Taken) place) ∙ frags_at u x classes.Taken e.0 e.1 e.2 refl class_x in
      let two : untaken.fragments ≡ frags d.0 = sym (ap (λ o. fragments_of_class o classes.Untaken) place) ∙ frags_at u y classes.Untaken d.0 d.1 d.2 refl class_y in
      let aligned = eqb-true (u % 4) 0 (and_parts (u % 4 == 0) _ word).0 in
      let even = target_even u to w.function w.reached (subst (λ q. LeadsTo q u to) (sym w.kind) (inl refl)) in
      let un = of.2 in
      let ta = of.3 in
      (fits.0, fits.1, safe_way d.0 untaken d.1 two (omega (arith, un)) (omega (arith, un, aligned)), safe_way e.0 taken e.1 one (omega (arith, ta)) (omega (arith, ta, even)))
  safe_ways u (Straight way) word of some place =
      let offset = of.0 in
      let w = word_of_mark u (instr.Jal 0 offset) of.1 some in
      let to = moved_by u offset in
      let x : Edge = record { at = u; kind = Jump; to = moved_by u offset } in
      let e = edge_of w.function u x w.reached (subst (λ q. Within x (edges_of q u (call_returns code (kind_at t u)))) (sym w.kind) (inl refl)) in
      let class_x : edge_class t (Some x) ≡ Some classes.Jump = ap (λ o. Rattle.code_text.specs.EdgeCosts.class_by o Jump) of.1 in
      let one : way.fragments ≡ frags e.0 = sym (ap (λ o. fragments_of_class o classes.Jump) place) ∙ frags_at u x classes.Jump e.0 e.1 e.2 refl class_x in
      let even = target_even u to w.function w.reached (subst (λ q. LeadsTo q u to) (sym w.kind) refl) in
      let ta = of.2 in
      safe_way e.0 way e.1 one (omega (arith, ta)) (omega (arith, ta, even))

  pub safe_sites : All (IsSafeSite image levels limits) sites
  safe_sites = λ k d lt.
      let site = Rattle.std.specs.Prelude.slice_index_or sites k d in
      let w = are.words k d lt in
      let some = are.some k d lt in
      record { word = w.0; place = w.1; ways = safe_ways site.at site.place w.0 w.1 some (place_of_site sites are.ascending k d lt) }
