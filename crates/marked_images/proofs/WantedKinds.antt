-- Marks stand on the edges of branches and of jumps alone, whatever is wanted of these.
use Rattle.std.proofs.Common.{◌≡◌, ◌≢◌, ℕ, zero, suc, ◌≤◌, ◌+◌, ◌<◌, ◌⊎◌, inl, inr, Bool, true, false, not, ◌&&◌, List, [], ◌∷◌, length, slice_get, Option, Some, None, refl, sym, ap, ◌∙◌, subst, arith, ⊎_elim}
use Rattle.std.specs.Prelude.{All, slice_index, ◌/◌, ◌^◌}
use Rattle.std.proofs.lemmas.List.{length-map}
use Rattle.std.proofs.lemmas.List.Elements.{All-map}
use Rattle.std.proofs.lemmas.Option.{slice_get_within, get_or_from_slice_get}
use Rattle.scale_base.specs.declared.fragments.Fragment.{Fragment}
use Rattle.cycle_laws.specs.Charged.{Charged}
use Rattle.loop_forest.specs.Noted.{node_address}
use Rattle.stub_writer.specs.Fragments.{IsFragment, IsShadow}
use Rattle.rewritten_runs.proofs.Laws.{IsCounter, IsMarkOf, counted_is, depth, edge_is, few_marks, graph_program, in_get, loop_count, marks_are, program_is, set_distinct, shadow_of, shift_fits, tally_fits}
use Rattle.marked_images.proofs.Markable.{IsMarkable, markable}
use Rattle.marked_images.proofs.EdgeBlocks.{map_none}
use Rattle.marked_images.proofs.Numbered.{numbers_of, weighed_by}
use Rattle.scale_base.specs.declared.instruction.Instr.{Instr}
use Rattle.scale_base.specs.Image.{Image}
use Rattle.power_model.specs.Numbers.{PowerModel}
use Rattle.cost_theory.specs.Graph.{Graph, Loops, IsWalk, end_of, leaves, goes_back}
use Rattle.cost_theory.specs.Accepted.{IsInBody, StaysWithin}
use Rattle.cost_theory.specs.Worst.{Numbers}
use Rattle.scale_base.specs.declared.edges.Edge.{Edge}
use Rattle.scale_base.specs.declared.edges.EdgeKind.{EdgeKind}
use Rattle.scale_base.specs.declared.edges.EdgeKind.TheVariants.{Taken, Untaken, Jump, Next, CallNext, End}
use Rattle.cost_theory.specs.declared.flow.Flow.{Flow}
use Rattle.cost_theory.specs.declared.flow.Flow.TheVariants as flow
use Rattle.cost_theory.specs.Reached.{Code, place_after, edge_at, edge_to, edges_of, call_returns}
use Rattle.cost_theory.proofs.Laws.{edge_word, source_reached, some_get, Within, accepted_entered, header_held}
use Rattle.code_text.specs.Text.{Text, text_of, instr_at, kind_at}
use Rattle.code_text.specs.TextGraph.{text_graph}
use Rattle.flow_graph.specs.FlowGraph.{FlowGraph}
use Rattle.loop_file.specs.declared.notes.LoopNote.{LoopNote}
use Rattle.loop_file.specs.Kept.{noted_loops}
use Rattle.loop_forest.specs.Tree.{LoopView, loops, IsInnermost}
use Rattle.scale_base.specs.declared.fragments.Mark.{Mark}
use Rattle.scale_base.specs.declared.fragments.Mark.TheVariants as marks
use Rattle.scale_sites.specs.Counters.{counted_loops, goes_on, edge_goes_on, IsUncountable}
use Rattle.scale_sites.specs.Marks.{AreLoopsOnce}
use Rattle.scale_sites.specs.Sites.{marks_where}
use Rattle.scale_sites.proofs.Laws.{formed_few}
use Rattle.rewritten_runs.specs.Stubs.{IsWeighed, IsWeighedWith, marks_by_slack, plain_weights, stored_weights, told_at, fragment_by, fragments_with, loop_of}
use Rattle.level_tables.specs.Tables.{shift_of, row_by, all_rows_by}
use Rattle.level_tables.specs.declared.edge_numbers.EdgeNumbers.{EdgeNumbers}
use Rattle.std.proofs.lemmas.List.FromFn.{length-map-range_with_len}
use Rattle.marked_images.specs.Wanted.{Wanted, marked_where, ChoosesSites, IsSitesKind}
use Rattle.marked_images.proofs.FormedMarks.{forms_are}

-- a word with an edge that goes on leads to the next word alone
one_way : (w : Flow) (u : ℕ) (r : Bool) (x y : Edge) (b : ℕ) → Within x (edges_of w u r) → goes_on x.kind ≡ true → Within y (edges_of w u r) → place_after y.kind y.to ≡ Some b → b ≡ u + 4
one_way (flow.Branch to) u r x y b h on k e = ⊎_elim (λ q. let f : false ≡ true = ap (λ (z : Edge). goes_on z.kind) q ∙ on in let bad : ⊥ = cc in absurd bad)
    (λ m. ⊎_elim (λ q. let f : false ≡ true = ap (λ (z : Edge). goes_on z.kind) q ∙ on in let bad : ⊥ = cc in absurd bad) (λ n. absurd n) m) h
one_way (flow.Jump to) u r x y b h on k e = ⊎_elim (λ q. let f : false ≡ true = ap (λ (z : Edge). goes_on z.kind) q ∙ on in let bad : ⊥ = cc in absurd bad) (λ n. absurd n) h
one_way (flow.Call to) u true x y b h on k e = ⊎_elim (λ q. let f : Some (u + 4) ≡ Some b = ap (λ (z : Edge). place_after z.kind z.to) q ∙ e in cc)
    (λ m. ⊎_elim (λ q. let f : None ≡ Some b = ap (λ (z : Edge). place_after z.kind z.to) q ∙ e in let bad : ⊥ = cc in absurd bad) (λ n. absurd n) m) k
one_way (flow.Call to) u false x y b h on k e = ⊎_elim (λ q. let f : false ≡ true = ap (λ (z : Edge). goes_on z.kind) q ∙ on in let bad : ⊥ = cc in absurd bad) (λ n. absurd n) h
one_way flow.Return u r x y b h on k e = ⊎_elim (λ q. let f : false ≡ true = ap (λ (z : Edge). goes_on z.kind) q ∙ on in let bad : ⊥ = cc in absurd bad) (λ n. absurd n) h
one_way flow.Exit u r x y b h on k e = ⊎_elim (λ q. let f : false ≡ true = ap (λ (z : Edge). goes_on z.kind) q ∙ on in let bad : ⊥ = cc in absurd bad) (λ n. absurd n) h
one_way flow.MayExit u r x y b h on k e = ⊎_elim (λ q. let f : Some (u + 4) ≡ Some b = ap (λ (z : Edge). place_after z.kind z.to) q ∙ e in cc)
    (λ m. ⊎_elim (λ q. let f : None ≡ Some b = ap (λ (z : Edge). place_after z.kind z.to) q ∙ e in let bad : ⊥ = cc in absurd bad) (λ n. absurd n) m) k
one_way flow.Breakpoint u r x y b h on k e = ⊎_elim (λ q. let f : false ≡ true = ap (λ (z : Edge). goes_on z.kind) q ∙ on in let bad : ⊥ = cc in absurd bad) (λ n. absurd n) h
one_way flow.Next u r x y b h on k e = ⊎_elim (λ q. let f : Some (u + 4) ≡ Some b = ap (λ (z : Edge). place_after z.kind z.to) q ∙ e in cc) (λ n. absurd n) k
one_way flow.Refused u r x y b h on k e = absurd h

pub rows_by_count : (power : PowerModel) (test : EdgeNumbers → ℕ → ℕ → Bool) (bound iteration : ℕ) (site : EdgeNumbers) → length (all_rows_by power test bound iteration site) ≡ bound / 2 ^ shift_of bound + 1
rows_by_count power test bound iteration site = length-map-range_with_len (row_by power test bound iteration site) 0 (bound / 2 ^ shift_of bound + 1)

-- no walk starts behind an end
no_way : (g : Graph) (es : List ℕ) (v : ℕ) → IsWalk g None es → end_of g None es ≡ Some v → ⊥
no_way g [] v walk ends = cc
no_way g (e ∷ es) v walk ends = let bad = walk.1 in cc

some_same : (a b : ℕ) → Some a ≡ Some b → a ≡ b
some_same a b e = cc

module _ (power : PowerModel) (image : Image) (notes : List LoopNote) (v : FlowGraph) (tree : LoopView) (wanted : Wanted) (stored : Numbers) (by_marks : IsWeighedWith power image notes v tree (marked_where v tree wanted) stored) (kinds_are : ChoosesSites v wanted.switch) where
  -- the program with the marks that its slacks would give it: what is known of its graph and its loops is known
  abbrev pub plain : Numbers
  plain = (numbers_of power image notes v tree by_marks.code_is by_marks.tree_is by_marks.counters (plain_weights power image v)).0

  abbrev pub other : Numbers
  other = (numbers_of power image notes v tree by_marks.code_is by_marks.tree_is by_marks.counters (stored_weights power image v (marks_by_slack power image v tree plain))).0

  pub weighed : IsWeighed power image notes v tree plain other
  weighed = weighed_by power image notes v tree by_marks.code_is by_marks.tree_is by_marks.counters plain other (numbers_of power image notes v tree by_marks.code_is by_marks.tree_is by_marks.counters (plain_weights power image v)).1
      (numbers_of power image notes v tree by_marks.code_is by_marks.tree_is by_marks.counters (stored_weights power image v (marks_by_slack power image v tree plain))).1

  abbrev t : Text
  t = text_of image

  abbrev code : Code
  code = v.code

  abbrev l : Loops
  l = loops v tree

  abbrev g : Graph
  g = text_graph (text_of image) v.code

  abbrev extent : ℕ → ℕ → Bool
  extent = (noted_loops notes).inside

  prog : Rattle.graph_runs.specs.Laws.IsProgramOf t code l extent
  prog = program_is power image notes v tree plain other weighed

  program : Rattle.cost_theory.specs.Accepted.IsProgram g
  program = graph_program power image notes v tree plain other weighed

  -- ---- the marks of an edge

  pub marks_of_edge : (e : ℕ) → All (IsMarkOf l (counted_loops tree) (wanted.switch e) (g.source e) (g.target e)) (marked_where v tree wanted e)
  marks_of_edge e = forms_are l (counted_loops tree) (wanted.switch e) (g.source e) (g.target e) (wanted.lowest e) wanted.tallied (marks_where v tree (counted_loops tree) wanted.switch e) (marks_are l (counted_loops tree) (wanted.switch e) 0 0 (g.source e) (g.target e))

  -- an edge with a mark leads to a node
  pub marked_led : (e : ℕ) → e < length code.edges → marked_where v tree wanted e ≢ [] → (w : ℕ) × (g.target e ≡ Some w)
  marked_led e lt some = by (marked_where v tree wanted e) refl (marks_of_edge e)
    where
      goes_apart : (a b : Bool) → (a && b) ≡ true → b ≡ true
      goes_apart true b h = h
      goes_apart false b h = cc

      left_to : (k u : ℕ) (p : Option ℕ) → leaves l k u p ≡ true → (w : ℕ) × (p ≡ Some w)
      left_to k u None h = let never : ⊥ = cc in absurd never
      left_to k u (Some w) h = (w, refl)

      back_to : (k u : ℕ) (p : Option ℕ) → goes_back l k u p ≡ true → (w : ℕ) × (p ≡ Some w)
      back_to k u None h = let two = goes_apart (l.inside k u) false h in let never : ⊥ = cc in absurd never
      back_to k u (Some w) h = (w, refl)

      kind_to : (k : EdgeKind) (to : ℕ) → IsSitesKind k → (w : ℕ) × (place_after k to ≡ Some w)
      kind_to Taken to h = (to, refl)
      kind_to Untaken to h = (to, refl)
      kind_to Jump to h = (to, refl)
      kind_to Next to h = absurd h
      kind_to CallNext to h = absurd h
      kind_to End to h = absurd h

      site_to : wanted.switch e ≡ true → (w : ℕ) × (g.target e ≡ Some w)
      site_to on = let x = kinds_are e on in let r = kind_to x.0.kind x.0.to x.2 in (r.0, ap edge_to x.1 ∙ r.1)

      by_mark : (m : Mark) → IsMarkOf l (counted_loops tree) (wanted.switch e) (g.source e) (g.target e) m → (w : ℕ) × (g.target e ≡ Some w)
      by_mark marks.Switch is = site_to is
      by_mark (marks.Exit c) is = left_to is.loop (g.source e) (g.target e) is.holds
      by_mark (marks.Reset c) is = left_to is.loop (g.source e) (g.target e) is.holds
      by_mark (marks.Count c) is = back_to is.loop (g.source e) (g.target e) is.holds
      by_mark marks.Lowest is = site_to is
      by_mark (marks.Tally c) is = back_to is.loop (g.source e) (g.target e) is.holds

      by : (ms : List Mark) → marked_where v tree wanted e ≡ ms → All (IsMarkOf l (counted_loops tree) (wanted.switch e) (g.source e) (g.target e)) ms → (w : ℕ) × (g.target e ≡ Some w)
      by [] is all = absurd (some is)
      by (m ∷ ms) is all = by_mark m (all 0 m (omega arith))

  leads_on : (e a : ℕ) → e < length code.edges → edge_goes_on (slice_get code.edges e) ≡ true → (d b : ℕ) → d < length code.edges → g.source e ≡ g.source d → g.target d ≡ Some b → b ≡ g.source e + 4
  leads_on e a lt on d b dl same to =
      let x = edge_word (kind_at t) t.entry code prog.reached.lists prog.reached.words e lt in
      let y = edge_word (kind_at t) t.entry code prog.reached.lists prog.reached.words d dl in
      let r = call_returns code (kind_at t (g.source e)) in
      one_way (kind_at t (g.source e)) (g.source e) r x.0 y.0 b x.2 (sym (ap edge_goes_on x.1) ∙ on)
      (subst (λ u. Within y.0 (edges_of (kind_at t u) u (call_returns code (kind_at t u)))) (sym same) y.2) (sym (ap edge_to y.1) ∙ to)

  -- a way on stays within the loops round it
  stays_on : (k e a : ℕ) → k < l.loops → e < length code.edges → edge_goes_on (slice_get code.edges e) ≡ true → g.target e ≡ Some a → l.inside k (g.source e) ≡ true → l.inside k a ≡ true
  stays_on k e a kl lt on to in_u = by_walk ((prog.loops.bodies k (g.source e) kl).0 in_u)
    where
      held : l.inside k (l.header k) ≡ true
      held = header_held g l extent program (accepted_entered prog.loops) k kl

      by_rest : IsInBody g (l.header k) (extent k) (g.source e) → (es : List ℕ) → IsWalk g (Some a) es → end_of g (Some a) es ≡ Some (l.header k) → StaysWithin g (extent k) es → l.inside k a ≡ true
      by_rest body [] walk ends within = ap (l.inside k) (some_same a (l.header k) ends) ∙ held
      by_rest body (c ∷ cs) walk ends within = (prog.loops.bodies k a kl).1 ((program.stays e a lt to).1 ∙ body.0, body.1, (c, cs, walk, ends, within))

      by_target : IsInBody g (l.header k) (extent k) (g.source e) → (d : ℕ) (es : List ℕ) → d < g.edges → g.source e ≡ g.source d → (o : Option ℕ) → g.target d ≡ o → IsWalk g o es → end_of g o es ≡ Some (l.header k) → StaysWithin g (extent k) es → l.inside k a ≡ true
      by_target body d es dl same None to2 walk ends within = absurd (no_way g es (l.header k) walk ends)
      by_target body d es dl same (Some x) to2 walk ends within =
          let there : x ≡ a = leads_on e a lt on d x dl same to2 ∙ sym (leads_on e a lt on e a lt refl to) in
          by_rest body es (subst (λ y. IsWalk g (Some y) es) there walk) (subst (λ y. end_of g (Some y) es ≡ Some (l.header k)) there ends) within

      by_walk : IsInBody g (l.header k) (extent k) (g.source e) → l.inside k a ≡ true
      by_walk body = by_target body body.2.0 body.2.1 body.2.2.0 (some_same (g.source e) (g.source body.2.0) body.2.2.1) (g.target body.2.0) refl body.2.2.2 body.2.3 body.2.4.1

  -- a way on isn't marked
  way_on_bare : (e : ℕ) → e < length code.edges → edge_goes_on (slice_get code.edges e) ≡ true → marked_where v tree wanted e ≢ [] → ⊥
  way_on_bare e lt on some =
      let led = marked_led e lt some in
      by led.0 led.1 (marked_where v tree wanted e) some (marks_of_edge e)
    where
      off : (k : EdgeKind) → goes_on k ≡ true → IsSitesKind k → ⊥
      off Taken a b = cc
      off Untaken a b = cc
      off Jump a b = cc
      off Next a b = b
      off CallNext a b = b
      off End a b = b

      not_left : (a : ℕ) → g.target e ≡ Some a → (k : ℕ) → k < l.loops → leaves l k (g.source e) (g.target e) ≡ true → ⊥
      not_left a to k kl h = by_in (l.inside k (g.source e)) refl (l.inside k a) refl (sym (ap (leaves l k (g.source e)) to) ∙ h)
        where
          by_in : (p : Bool) → l.inside k (g.source e) ≡ p → (q : Bool) → l.inside k a ≡ q → (l.inside k (g.source e) && not (l.inside k a)) ≡ true → ⊥
          by_in true is q iq both = let there = stays_on k e a kl lt on to is in let bad : (true && not true) ≡ true = sym (ap (λ b. b && not (l.inside k a)) is ∙ ap (λ b. true && not b) there) ∙ both in cc
          by_in false is q iq both = let bad : (false && not (l.inside k a)) ≡ true = sym (ap (λ b. b && not (l.inside k a)) is) ∙ both in cc

      no_site : wanted.switch e ≡ true → ⊥
      no_site is = let x = kinds_are e is in off x.0.kind (sym (ap edge_goes_on x.1) ∙ on) x.2

      flag_set : (flags : List Bool) (k : ℕ) → Rattle.std.specs.Prelude.slice_index_or flags k false ≡ true → slice_get flags k ≡ Some true
      flag_set [] k h = let never : ⊥ = cc in absurd never
      flag_set (b ∷ flags) zero h = ap Some h
      flag_set (b ∷ flags) (suc k) h = flag_set flags k h

      no_count : (c : ℕ) → IsCounter (counted_loops tree) c (λ k. goes_back l k (g.source e) (g.target e) ≡ true) → ⊥
      no_count c is =
          let k = counted_is power image notes v tree plain other weighed is.place is.loop is.get in
          let size = loop_count power image notes v tree plain other weighed in
          let kl = k.loop in
          let bad : IsUncountable v tree is.loop e = record { edge = lt; within = omega (arith, kl, size); back = is.holds; counted = flag_set tree.counted is.loop k.flag; on = on } in
          weighed.counters.0 is.loop e bad

      by_mark : (a : ℕ) → g.target e ≡ Some a → (m : Mark) → IsMarkOf l (counted_loops tree) (wanted.switch e) (g.source e) (g.target e) m → ⊥
      by_mark a to marks.Switch is = no_site is
      by_mark a to (marks.Exit c) is = not_left a to is.loop (counted_is power image notes v tree plain other weighed is.place is.loop is.get).loop is.holds
      by_mark a to (marks.Reset c) is = not_left a to is.loop (counted_is power image notes v tree plain other weighed is.place is.loop is.get).loop is.holds
      by_mark a to (marks.Count c) is = no_count c is
      by_mark a to marks.Lowest is = no_site is
      by_mark a to (marks.Tally c) is = no_count c is

      by : (a : ℕ) → g.target e ≡ Some a → (ms : List Mark) → ms ≢ [] → All (IsMarkOf l (counted_loops tree) (wanted.switch e) (g.source e) (g.target e)) ms → ⊥
      by a to [] ne all = ne refl
      by a to (m ∷ ms) ne all = by_mark a to m (all 0 m (omega arith))

  -- a marked edge is of a branch or of a jump
  pub marked_kind : (e : ℕ) (x : Edge) → slice_get code.edges e ≡ Some x → marked_where v tree wanted e ≢ [] → IsSitesKind x.kind
  marked_kind e x get some = by x.kind refl
    where
      lt : e < length code.edges
      lt = Rattle.std.proofs.lemmas.Option.slice_get_within code.edges e x get

      by : (k : EdgeKind) → x.kind ≡ k → IsSitesKind k
      by Taken is = tt
      by Untaken is = tt
      by Jump is = tt
      by Next is = way_on_bare e lt (ap edge_goes_on get ∙ ap goes_on is) some
      by CallNext is = way_on_bare e lt (ap edge_goes_on get ∙ ap goes_on is) some
      by End is =
          let led = marked_led e lt some in
          let none : g.target e ≡ None = ap edge_to get ∙ ap (λ k. place_after k x.to) is in let bad : ⊥ = (let to = led.1 in cc) in bad

  pub marked_instr : (e : ℕ) (x : Edge) (i : Instr) → slice_get code.edges e ≡ Some x → marked_where v tree wanted e ≢ [] → instr_at t x.at ≡ Some i → IsMarkable i
  marked_instr e x i get some at =
      let lt = Rattle.std.proofs.lemmas.Option.slice_get_within code.edges e x get in
      let here = edge_is t code prog.reached e lt in
      let u = edge_at (slice_get code.edges e) in
      let eq : here.edge ≡ x = (let a = here.get in cc) in
      let same : here.instr ≡ i = (let a = here.at in let b = ap (instr_at t) (ap edge_at get) ∙ at in cc) in
      subst IsMarkable same (markable t u here.instr (call_returns code (kind_at t u)) here.edge here.within (subst (λ (z : Edge). IsSitesKind z.kind) (sym eq) (marked_kind e x get some)))

  -- ---- fragments

  module _ (test : EdgeNumbers → ℕ → ℕ → Bool) where
    abbrev frags : Charged → ℕ → List Fragment
    frags least = fragments_with power test image v tree (marked_where v tree wanted) stored least

    bound_small : (k : ℕ) → l.bound k ≤ 1000000000
    bound_small k = by (slice_get tree.bounds k) refl
      where
        none_index : (xs : List ℕ) (i : ℕ) → slice_get xs i ≡ None → slice_index xs i ≡ 0
        none_index [] i q = refl
        none_index (x ∷ xs) zero q = let never : ⊥ = cc in absurd never
        none_index (x ∷ xs) (suc i) q = none_index xs i q

        by : (o : Option ℕ) → slice_get tree.bounds k ≡ o → l.bound k ≤ 1000000000
        by None e = let z : slice_index tree.bounds k ≡ 0 = none_index tree.bounds k e in omega (arith, z)
        by (Some n) e = let z = get_or_from_slice_get tree.bounds k n 0 e in let small = weighed.tree_is.tree.bound k n e in omega (arith, z, small)

    fragment_is : (least : Charged) (e : ℕ) (m : Mark) → IsMarkOf l (counted_loops tree) (wanted.switch e) (g.source e) (g.target e) m → IsFragment (fragment_by power test l (counted_loops tree) stored (told_at power image v tree (marked_where v tree wanted) stored least e) m)
    fragment_is least e marks.Switch is = tt
    fragment_is least e (marks.Exit c) is =
        let k = loop_of (counted_loops tree) c in
        let small = bound_small k in
        let fits = shift_fits (l.bound k) (omega (arith, small)) in
        let rows = rows_by_count power test (l.bound k) (stored.iteration k) (told_at power image v tree (marked_where v tree wanted) stored least e) in
        (subst IsShadow (sym is.is) (shadow_of power image notes v tree plain other weighed is.place is.loop is.get), fits.0, omega (arith, rows, fits.1))
    fragment_is least e (marks.Reset c) is = subst IsShadow (sym is.is) (shadow_of power image notes v tree plain other weighed is.place is.loop is.get)
    fragment_is least e (marks.Count c) is = subst IsShadow (sym is.is) (shadow_of power image notes v tree plain other weighed is.place is.loop is.get)
    fragment_is least e marks.Lowest is = tt
    fragment_is least e (marks.Tally c) is =
        let k = loop_of (counted_loops tree) c in
        let small = bound_small k in
        let fits = tally_fits power test (l.bound k) (stored.iteration k) (told_at power image v tree (marked_where v tree wanted) stored least e) (omega (arith, small)) in
        (subst IsShadow (sym is.is) (shadow_of power image notes v tree plain other weighed is.place is.loop is.get), fits.0, fits.2, fits.3)

    innermost_of : (u : ℕ) (o : Option ℕ) → IsInnermost l u o → ((o ≡ None) × ((k : ℕ) → k < l.loops → l.inside k u ≡ true → ⊥)) ⊎ ((j : ℕ) × (j < l.loops) × (l.inside j u ≡ true) × ((k w : ℕ) → k < l.loops → l.inside k u ≡ true → l.inside j w ≡ true → l.inside k w ≡ true))
    innermost_of u None h = inl (refl, h)
    innermost_of u (Some j) h = inr (j, h.0, h.1, λ k w kl on there. h.2 k w kl on there)

    are_loops : AreLoopsOnce l (counted_loops tree)
    are_loops k h = let at = in_get k (counted_loops tree) h in (counted_is power image notes v tree plain other weighed at.0 k at.1).loop

    few : (e : ℕ) → e < length v.code.edges → length (marked_where v tree wanted e) ≤ 17
    few e lt =
        let flag_count : length tree.counted ≡ l.loops = (let a = weighed.tree_is.tree.counted_size in let b = loop_count power image notes v tree plain other weighed in omega (arith, a, b)) in
        let r = source_reached (kind_at (text_of image)) image.entry v.code prog.reached.lists prog.reached.words e lt in
        let node = (prog.reached.lists.nodes (edge_at (slice_get v.code.edges e))).1 r in
        let size = weighed.tree_is.tree.innermost_size in
        let within = slice_get_within v.code.nodes node.0 (edge_at (slice_get v.code.edges e)) node.1 in
        let o = some_get tree.innermost node.0 (omega (arith, size, within)) in
        let address : node_address v node.0 ≡ edge_at (slice_get v.code.edges e) = get_or_from_slice_get v.code.nodes node.0 (edge_at (slice_get v.code.edges e)) 0 node.1 in
        let is = weighed.tree_is.tree.innermost node.0 o.0 o.1 in
        let d = depth g l extent program prog.loops tree.counted flag_count are_loops (set_distinct 0 tree.counted) (edge_at (slice_get v.code.edges e)) o.0 (innermost_of (edge_at (slice_get v.code.edges e)) o.0 (subst (λ a. IsInnermost l a o.0) address is)) in
        let all = few_marks g l extent program prog.loops tree.counted flag_count are_loops (set_distinct 0 tree.counted) e (wanted.switch e) 0 0 lt d in
        let some = formed_few (wanted.lowest e) wanted.tallied (marks_where v tree (counted_loops tree) wanted.switch e) in
        omega (arith, all, some)

    pub good_fragments : (least : Charged) (e : ℕ) → e < length v.code.edges → (length (frags least e) ≤ 17) × All IsFragment (frags least e)
    good_fragments least e lt =
        let f = fragment_by power test l (counted_loops tree) stored (told_at power image v tree (marked_where v tree wanted) stored least e) in
        let same = length-map (marked_where v tree wanted e) f in
        let small = few e lt in
        (omega (arith, same, small), All-map IsFragment f (marked_where v tree wanted e) (λ k d q. fragment_is least e _ (marks_of_edge e k d q)))

    pub fragments_mark : (least : Charged) (e : ℕ) (x : Edge) (i : Instr) → slice_get code.edges e ≡ Some x → frags least e ≢ [] → instr_at t x.at ≡ Some i → IsMarkable i
    fragments_mark least e x i get some at = marked_instr e x i get (λ none. some (map_none _ _ none)) at
