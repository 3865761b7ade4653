-- The counters of a rewritten program count their loops on the edges on which a scan finds them.
use Rattle.std.proofs.Common.{◌≡◌, inl, inr, ℕ, ◌+◌, ◌-◌, ◌*◌, ◌^◌, ◌<◌, ◌≤◌, ◌⊎◌, Bool, true, false, List, [], ◌∷◌, map, length, refl, arith, sym, ap, ◌∙◌, slice_get, Option, Some, None}
use Rattle.std.specs.Prelude.{nat_lt}
use Rattle.std.specs.List.{sum_by, list_any}
use Rattle.std.proofs.lemmas.Bool.{both_ways, ltb-true, lt-ltb, cases_lt}
use Rattle.std.proofs.lemmas.List.Sums.{sum_by-cons}
use Rattle.std.proofs.lemmas.Option.{slice_get_within}
use Rattle.scale_base.specs.declared.edges.Edge.{Edge}
use Rattle.scale_base.specs.declared.fragments.Fragment.{Fragment}
use Rattle.scale_base.specs.declared.fragments.Mark.{Mark}
use Rattle.scale_base.specs.declared.fragments.Mark.TheVariants as marks
use Rattle.scale_base.specs.declared.instruction.Instr.TheVariants as instr
use Rattle.scale_base.specs.declared.stepping.Class.{Class}
use Rattle.scale_base.specs.Image.{Image, is_in, is_word_address}
use Rattle.scale_base.specs.Layout.{layout_of, is_keyed}
use Rattle.power_model.specs.Numbers.{PowerModel}
use Rattle.cost_theory.specs.Graph.{Graph, Loops, any_below, is_back}
use Rattle.cost_theory.specs.Reached.{Code, edge_at}
use Rattle.cost_theory.specs.Worst.{Numbers}
use Rattle.cost_theory.proofs.Laws.{any-some, search_below, some_get, none-any}
use Rattle.cycle_laws.specs.Charged.{Charged}
use Rattle.code_text.specs.Text.{Text, text_of}
use Rattle.code_text.specs.EdgeCosts.{class_by, edge_class}
use Rattle.code_text.specs.TextGraph.{text_graph}
use Rattle.graph_runs.specs.Laws.{IsProgramOf}
use Rattle.flow_graph.specs.FlowGraph.{FlowGraph, graph}
use Rattle.loop_file.specs.declared.notes.LoopNote.{LoopNote}
use Rattle.loop_file.specs.Kept.{noted_loops}
use Rattle.loop_forest.specs.Tree.{LoopView, loops}
use Rattle.worst_cycles.specs.Worst.{slack_at}
use Rattle.level_tables.specs.declared.edge_numbers.EdgeNumbers.{EdgeNumbers}
use Rattle.scale_sites.specs.Counters.{counted_loops}
use Rattle.scale_sites.specs.Marks.{first_counter}
use Rattle.scale_sites.specs.Sites.{is_branch}
use Rattle.stub_writer.specs.Fragments.{rows_len}
use Rattle.stub_writer.specs.Stubs.{Site, Place, Forked, Straight}
use Rattle.stored_runs.specs.Marks.{place_at, fragments_of_class}
use Rattle.stored_runs.specs.Stubbed.{IsOfImage}
use Rattle.stored_runs.specs.Patched.{IsPatched}
use Rattle.foreign_scan.specs.Scanned.{Found, IsFirstCounted}
use Rattle.rewritten_runs.specs.Stubs.{IsWeighed, AreSitesOf, plain_weights, marks_by_slack, told_at, fragment_of, fragments_at, loop_of}
use Rattle.rewritten_runs.proofs.Laws.{led_class, marked_led, program_is, graph_program, counted_is, loop_is}
use Rattle.image_check.specs.Safe.{Owner, counts_it, clears_it, counts_on, clears_on, IsCounterOf, IsUsed, AreOwners}
use Rattle.image_check.proofs.AgreeOwners.{one_back}
use Rattle.image_check.proofs.Rows.{on_counts, some_if}
use Rattle.image_check.proofs.StoredTables.{found_one, found_with}
use Rattle.image_check.proofs.StoredStubs.{HasWholeWords}
use Rattle.image_check.proofs.StoredScan as scan
use Rattle.image_check.proofs.StoredScan.{IsMarkedAt}
use Rattle.image_check.proofs.StoredCounts.{mark_counts, mark_clears, counts_at, clears_at, none_at}

-- ---- fragments count as their marks do

module _ (power : PowerModel) (l : Loops) (counted : List ℕ) (n : Numbers) (told : EdgeNumbers) (c : ℕ) where
  one_counts : (table : ℕ) (m : Mark) → counts_it c (found_one table (fragment_of power l counted n told m)) ≡ mark_counts c m
  one_counts table marks.Switch = refl
  one_counts table (marks.Exit i) = refl
  one_counts table (marks.Reset i) = refl
  one_counts table (marks.Count i) = refl
  one_counts table marks.Lowest = refl
  one_counts table (marks.Tally i) = refl

  one_clears : (table : ℕ) (m : Mark) → clears_it c (found_one table (fragment_of power l counted n told m)) ≡ mark_clears c m
  one_clears table marks.Switch = refl
  one_clears table (marks.Exit i) = refl
  one_clears table (marks.Reset i) = refl
  one_clears table (marks.Count i) = refl
  one_clears table marks.Lowest = refl
  one_clears table (marks.Tally i) = refl

  all_counts : (table : ℕ) (ms : List Mark) → sum_by (counts_it c) (found_with table (map (fragment_of power l counted n told) ms)) ≡ sum_by (mark_counts c) ms
  all_counts table [] = refl
  all_counts table (m ∷ ms) =
      let f = fragment_of power l counted n told m in
      let later = table + 4 * rows_len f in
      let one = one_counts table m in
      let rest = all_counts later ms in
      omega (arith, one, rest, sum_by-cons (counts_it c) (found_one table f) (found_with later (map (fragment_of power l counted n told) ms)), sum_by-cons (mark_counts c) m ms)

  all_clears : (table : ℕ) (ms : List Mark) → sum_by (clears_it c) (found_with table (map (fragment_of power l counted n told) ms)) ≡ sum_by (mark_clears c) ms
  all_clears table [] = refl
  all_clears table (m ∷ ms) =
      let f = fragment_of power l counted n told m in
      let later = table + 4 * rows_len f in
      let one = one_clears table m in
      let rest = all_clears later ms in
      omega (arith, one, rest, sum_by-cons (clears_it c) (found_one table f) (found_with later (map (fragment_of power l counted n told) ms)), sum_by-cons (mark_clears c) m ms)

clash : (o : Option Class) → o ≡ None → (c : Class) → o ≡ Some c → ⊥
clash o none c some = let never : ⊥ = cc in never

module _ (power : PowerModel) (original foreign : Image) (notes : List LoopNote) (v : FlowGraph) (tree : LoopView) (plain stored : Numbers) (weighed : IsWeighed power original notes v tree plain stored) (least : Charged) (sites : List Site)
    (are : AreSitesOf original v.code (fragments_at power original v tree (marks_by_slack power original v tree plain) stored least) sites)
    (limits : ℕ → ℕ) (start : ℕ) (p : IsPatched original foreign (length power.levels) limits sites start)
    (marked_at : (at : ℕ) (q : Place) → place_at sites at ≡ Some q → IsMarkedAt original v.code at q)
    (low : (at : ℕ) → is_word_address original at ≡ true → at < 2 ^ 32)
    (whole : HasWholeWords foreign) (off : (a : ℕ) → list_any (is_in a) original.text ≡ true → is_keyed (layout_of foreign) a ≡ false) where
  abbrev t : Text
  t = text_of original

  abbrev code : Code
  code = v.code

  abbrev l : Loops
  l = loops v tree

  abbrev g : Graph
  g = text_graph t code

  abbrev counted : List ℕ
  counted = counted_loops tree

  abbrev marked : ℕ → List Mark
  marked = marks_by_slack power original v tree plain

  abbrev frags : ℕ → List Fragment
  frags = fragments_at power original v tree marked stored least

  abbrev prog : IsProgramOf t code l (noted_loops notes).inside
  prog = program_is power original notes v tree plain stored weighed

  abbrev pub found : Found
  found = scan.found original foreign (length power.levels) limits sites start p code prog.reached marked_at low whole off

  -- ---- by edge

  -- the fragments on an edge with a class are those of its marks
  pub found_of_edge : (e : ℕ) (x : Edge) (class : Class) → slice_get code.edges e ≡ Some x → edge_class t (Some x) ≡ Some class → (table : ℕ) × (found x.at x.kind ≡ found_with table (frags e))
  found_of_edge e x class there is_class =
      let f = scan.found_on original foreign (length power.levels) limits sites start p code prog.reached marked_at low whole off e x class there is_class in
      let lt = slice_get_within code.edges e x there in
      let way = are.ways e class lt (ap (edge_class t) there ∙ is_class) in
      let here : fragments_of_class (place_at sites x.at) class ≡ frags e = ap (λ o. fragments_of_class (place_at sites (edge_at o)) class) (sym there) ∙ way in
      (f.table, f.is ∙ ap (found_with f.table) here)

  -- on one without a class nothing stands
  none_of_edge : (x : Edge) → edge_class t (Some x) ≡ None → found x.at x.kind ≡ []
  none_of_edge x none = scan.by_place original foreign (length power.levels) limits sites start p code prog.reached marked_at low whole off x.at (λ fs. fs x.kind ≡ []) (λ e. refl)
      (λ q e. absurd (by q (p.stubs [] x.at q (marked_at x.at q e).word e).of_image))
    where
      by : (q : Place) → IsOfImage original x.at q → ⊥
      by (Forked op rs1 rs2 untaken taken) of = let here : class_by (Some (instr.Branch op rs1 rs2 of.0)) x.kind ≡ None = ap (λ o. class_by o x.kind) (sym of.1) ∙ none in let never : ⊥ = cc in never
      by (Straight w) of = let here : class_by (Some (instr.Jal 0 of.0)) x.kind ≡ None = ap (λ o. class_by o x.kind) (sym of.1) ∙ none in let never : ⊥ = cc in never

  no_marks : (e : ℕ) → e < length code.edges → edge_class t (slice_get code.edges e) ≡ None → marked e ≡ []
  no_marks e lt none = by (marked e) refl
    where
      by : (ms : List Mark) → marked e ≡ ms → marked e ≡ []
      by [] is = is
      by (m ∷ ms) is =
          let to = marked_led power original notes v tree plain stored weighed e lt (λ q. (let both : [] ≡ m ∷ ms = sym q ∙ is in let never : ⊥ = cc in never)) in
          let c = led_class t code prog.reached e to.0 lt to.1 in
          absurd (clash (edge_class t (slice_get code.edges e)) none c.0 c.1)

  pub record HasSums (c e : ℕ) : Type 0 where
    pub counts : counts_on found (slice_get code.edges e) c ≡ sum_by (mark_counts c) (marked e)
    pub clears : clears_on found (slice_get code.edges e) c ≡ sum_by (mark_clears c) (marked e)

  pub sums : (c e : ℕ) → e < length code.edges → HasSums c e
  sums c e lt =
      let x = some_get code.edges e lt in
      by x.0 x.1 (edge_class t (Some x.0)) refl
    where
      by : (x : Edge) → slice_get code.edges e ≡ Some x → (o : Option Class) → edge_class t (Some x) ≡ o → HasSums c e
      by x there (Some class) is =
          let f = found_of_edge e x class there is in
          let told = told_at power original v tree marked stored least e in
          record {
            counts = ap (λ o. counts_on found o c) there ∙ (ap (sum_by (counts_it c)) f.1 ∙ all_counts power l counted stored told c f.0 (marked e));
            clears = ap (λ o. clears_on found o c) there ∙ (ap (sum_by (clears_it c)) f.1 ∙ all_clears power l counted stored told c f.0 (marked e));
          }
      by x there None is =
          let f = none_of_edge x is in
          let none = no_marks e lt (ap (edge_class t) there ∙ is) in
          record {
            counts = ap (λ o. counts_on found o c) there ∙ (ap (sum_by (counts_it c)) f ∙ sym (ap (sum_by (mark_counts c)) none));
            clears = ap (λ o. clears_on found o c) there ∙ (ap (sum_by (clears_it c)) f ∙ sym (ap (sum_by (mark_clears c)) none));
          }

  -- ---- the loop of a counter

  -- a counter that stands on an edge is that of a counted loop
  record IsOfLoop (c : ℕ) : Type 0 where
    place : ℕ
    loop : ℕ
    get : slice_get counted place ≡ Some loop
    is : c ≡ first_counter + place

  used_loop : (c e : ℕ) → e < length code.edges → 0 < counts_on found (slice_get code.edges e) c + clears_on found (slice_get code.edges e) c → IsOfLoop c
  used_loop c e lt some = by (cases_lt c first_counter) (cases_lt c (first_counter + length counted))
    where
      outside : (c < first_counter) ⊎ (first_counter + length counted ≤ c) → ⊥
      outside out =
          let none = none_at l counted (is_branch v e) (slack_at (graph v) l (plain_weights power original v) plain e) power.min_gain (g.source e) (g.target e) c out in
          let s = sums c e lt in
          let a = s.counts in
          let b = s.clears in
          omega (arith, none, a, b, some)

      by : (c < first_counter) ⊎ (first_counter ≤ c) → (c < first_counter + length counted) ⊎ (first_counter + length counted ≤ c) → IsOfLoop c
      by (inl below) other = absurd (outside (inl below))
      by (inr from) (inr far) = absurd (outside (inr far))
      by (inr from) (inl near) =
          let got = some_get counted (c - first_counter) (omega (arith, from, near)) in
          record { place = c - first_counter; loop = got.0; get = got.1; is = omega (arith, from) }

  counter_is : (c : ℕ) (o : IsOfLoop c) → IsCounterOf g code l found c o.loop
  counter_is c o = record {
    low = (counted_is power original notes v tree plain stored weighed o.place o.loop o.get).loop;
    counts = λ e lt. (sums c e lt).counts ∙ (ap (λ x. sum_by (mark_counts x) (marked e)) o.is ∙ counts_at l counted (is_branch v e) _ power.min_gain (g.source e) (g.target e) o.place o.loop o.get);
    clears = λ e lt. (sums c e lt).clears ∙ (ap (λ x. sum_by (mark_clears x) (marked e)) o.is ∙ clears_at l counted (is_branch v e) _ power.min_gain (g.source e) (g.target e) o.place o.loop o.get);
  }

  -- ---- owners

  abbrev pub stands_on : ℕ → ℕ → Bool
  stands_on c e = nat_lt 0 (counts_on found (slice_get code.edges e) c + clears_on found (slice_get code.edges e) c)

  abbrev pub owner_if : Bool → ℕ → Option ℕ
  owner_if true c = Some (loop_of counted c)
  owner_if false c = None

  -- the loop of a counter that stands on some edge
  abbrev pub owner : Owner
  owner c = owner_if (any_below (length code.edges) (stands_on c)) c

  pub owner_of : (c e : ℕ) → e < length code.edges → 0 < counts_on found (slice_get code.edges e) c + clears_on found (slice_get code.edges e) c → owner c ≡ Some (loop_of counted c)
  owner_of c e lt some = ap (λ b. owner_if b c) (any-some (length code.edges) (stands_on c) e lt (lt-ltb 0 _ some))

  own_loop : (c e : ℕ) → e < length code.edges → 0 < counts_on found (slice_get code.edges e) c + clears_on found (slice_get code.edges e) c → (o : IsOfLoop c) → owner c ≡ Some o.loop
  own_loop c e lt some o =
      owner_of c e lt some ∙ ap (λ x. Some x) (ap (loop_of counted) o.is ∙ loop_is power original notes v tree plain stored weighed o.place o.loop o.get)

  pub owners : AreOwners g code l found owner
  owners = record {
    used = λ c u. let o = used_loop c u.edge u.low u.uses in (o.loop, own_loop c u.edge u.low u.uses o, counter_is c o);
    unused = λ c none. by c none (any_below (length code.edges) (stands_on c)) refl (search_below (length code.edges) (stands_on c));
  }
    where
      by : (c : ℕ) → (IsUsed g code found c → ⊥) → (b : Bool) → any_below (length code.edges) (stands_on c) ≡ b → ((k : ℕ) × (k < length code.edges) × (stands_on c k ≡ true)) ⊎ ((k : ℕ) → k < length code.edges → stands_on c k ≡ false) → owner c ≡ None
      by c none b is (inl some) = absurd (none (record { edge = some.0; low = some.1; uses = ltb-true 0 _ some.2 }))
      by c none false is (inr all) = ap (λ x. owner_if x c) is
      by c none true is (inr all) = absurd (let f = none-any (length code.edges) (stands_on c) all in both_ways (any_below (length code.edges) (stands_on c)) f is)

  -- the loop that a counter counts first is its own
  pub first : (c k : ℕ) → IsFirstCounted original foreign code l found c k → owner c ≡ Some k
  first c k f =
      let r = f.counted in
      let lt = slice_get_within code.edges f.e f.edge r.there in
      let more = on_counts c (found f.edge.at f.edge.kind) r.counts.0 r.counts.1 in
      let there = ap (λ o. counts_on found o c) r.there in
      let some : 0 < counts_on found (slice_get code.edges f.e) c + clears_on found (slice_get code.edges f.e) c = omega (arith, more, there) in
      let o = used_loop c f.e lt some in
      let is = counter_is c o in
      let count = is.counts f.e lt in
      let back = some_if (is_back g l o.loop f.e) (omega (arith, count, there, more)) in
      let gp = graph_program power original notes v tree plain stored weighed in
      let one : o.loop ≡ k = one_back g l (noted_loops notes).inside gp prog.loops o.loop k f.e is.low r.low back r.back in
      own_loop c f.e lt some o ∙ ap (λ x. Some x) one
