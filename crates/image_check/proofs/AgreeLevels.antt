-- The first entry that isn't safe is one.
use Rattle.std.proofs.Common.{◌≡◌, ◌⊎◌, inl, inr, ℕ, ◌+◌, ◌*◌, ◌<◌, ◌≤◌, Bool, true, false, List, [], ◌∷◌, refl, arith, sym, ap, ◌∙◌, subst, slice_get, Some}
use Rattle.std.proofs.lemmas.Bool.{both_ways, cases_lt}
use Rattle.scale_base.specs.declared.edges.Edge.{Edge}
use Rattle.scale_base.specs.declared.verdict.Verdict.{Verdict}
use Rattle.scale_base.specs.declared.verdict.Verdict.TheVariants.{No}
use Rattle.scale_base.specs.declared.verdict.Why.TheVariants as why
use Rattle.scale_base.specs.Image.{Image, loaded_byte}
use Rattle.scale_base.specs.State.{word_at}
use Rattle.power_model.specs.Numbers.{PowerModel}
use Rattle.power_model.specs.Switches.{costs_of}
use Rattle.cost_theory.specs.Graph.{Loops}
use Rattle.cost_theory.specs.Reached.{Reached, edge_to, edges_of, call_returns}
use Rattle.cost_theory.specs.Worst.{Numbers}
use Rattle.cost_theory.proofs.Laws.{Within, edge_of_word}
use Rattle.cycle_laws.specs.Charged.{Charged}
use Rattle.code_text.specs.Text.{Text, text_of, kind_at}
use Rattle.flow_graph.specs.FlowGraph.{FlowGraph}
use Rattle.loop_file.specs.declared.notes.LoopNote.{LoopNote}
use Rattle.loop_file.specs.Kept.{noted_loops}
use Rattle.loop_forest.specs.Tree.{LoopView, loops}
use Rattle.level_tables.specs.Tables.{at_row}
use Rattle.level_tables.specs.declared.edge_numbers.EdgeNumbers.{EdgeNumbers}
use Rattle.stored_runs.specs.Marks.{tail_cycles}
use Rattle.paid_runs.specs.Tabled.{told_on}
use Rattle.foreign_scan.specs.declared.fragment.ForeignFragment.{ForeignFragment}
use Rattle.foreign_scan.specs.declared.fragment.ForeignFragment.TheVariants.{Switch, Exit, Reset, Count}
use Rattle.foreign_scan.specs.Agree.{FoundAgree}
use Rattle.foreign_scan.specs.Scanned.{Found, is_changed, kind_place, IsScanned}
use Rattle.rewritten_runs.proofs.Laws.{program_of}
use Rattle.image_check.specs.Safe.{Owner, all_with_rows}
use Rattle.image_check.specs.Causes.{IsBadEntry, HasBadEntry, IsBadLevel}
use Rattle.image_check.specs.Checked.{graph_by, weights_with, IsMisled}
use Rattle.image_check.proofs.Owning.{counter_for}
use Rattle.image_check.proofs.AgreeCounted as counted
use Rattle.image_check.proofs.AgreeCounted.{IsListed}
use Rattle.image_check.proofs.AgreeEdges.{one_edge, same_edge, patched_at}
use Rattle.image_check.proofs.CallEdges.{stored_are_weights}
use Rattle.image_check.proofs.AgreeStages as stages
use Rattle.image_check.proofs.AgreeYes.{told_alike}

-- a bad entry is one under the same numbers
entry_to : (power : PowerModel) (image : Image) (l : Loops) (owner : Owner) (n n' : Numbers) (told told' : EdgeNumbers) → told ≡ told' → ((c k : ℕ) → owner c ≡ Some k → n.iteration k ≡ n'.iteration k)
    → (fs : List ForeignFragment) (i : ℕ) → HasBadEntry power image l owner n told fs i → HasBadEntry power image l owner n' told' fs i
entry_to power image l owner n n' told told' same iterations [] i bad = bad
entry_to power image l owner n n' told told' same iterations (Switch word ∷ fs) i bad = subst (λ x. IsBadEntry power x word i) same bad
entry_to power image l owner n n' told told' same iterations (Exit counter shift table ∷ fs) i bad =
    let k = bad.0 in
    let j = bad.2.0 in
    let row : at_row (l.bound k) (n.iteration k) shift told j ≡ at_row (l.bound k) (n'.iteration k) shift told' j =
    ap (λ x. at_row (l.bound k) x shift told j) (iterations counter k bad.1) ∙ ap (λ x. at_row (l.bound k) (n'.iteration k) shift x j) same in
    (k, bad.1, (j, bad.2.1, subst (λ x. IsBadEntry power x (word_at (loaded_byte image) (table + 4 * j)) i) row bad.2.2))
entry_to power image l owner n n' told told' same iterations (Reset counter ∷ fs) i bad = bad
entry_to power image l owner n n' told told' same iterations (Count counter ∷ fs) i bad = bad

no_bad : (power : PowerModel) (image : Image) (l : Loops) (owner : Owner) (n : Numbers) (told : EdgeNumbers) (fs : List ForeignFragment) (i : ℕ) → fs ≡ [] → HasBadEntry power image l owner n told fs i → ⊥
no_bad power image l owner n told fs i none bad = subst (λ xs. HasBadEntry power image l owner n told xs i) none bad

module _ (power : PowerModel) (original foreign : Image) (notes : List LoopNote) (found_agree : FoundAgree) where
  abbrev t : Text
  t = text_of original

  -- a bad entry of the one graph's edge is one of the other's
  module _ (v v' : FlowGraph) (tree tree' : LoopView) (one : IsListed original notes v tree) (other : IsListed original notes v' tree') (at at' from from' : ℕ) (m : IsMisled power original foreign v tree at from) (m' : IsMisled power original foreign v' tree' at' from') where
    abbrev l : Loops
    l = loops v tree

    abbrev l' : Loops
    l' = loops v' tree'

    abbrev w : ℕ → ℕ
    w = weights_with power original foreign v tree m.owner m.found

    abbrev w' : ℕ → ℕ
    w' = weights_with power original foreign v' tree' m'.owner m'.found

    bad_to : (e : ℕ) (edge : Edge) (i : ℕ) → slice_get v.code.edges e ≡ Some edge → slice_get v'.code.edges e ≡ Some edge → IsBadLevel power foreign (graph_by original v) l m.owner w m.n m.least m.found e edge i
        → IsBadLevel power foreign (graph_by original v') l' m'.owner w' m'.n m'.least m'.found e edge i
    bad_to e edge i there there' bad =
        let a = counted.counted_alike power original foreign notes v v' tree tree' one other found_agree m.found m'.found m.owner m'.owner m.n m'.n m.level.counted m'.level.counted in
        let are = stored_are_weights original foreign v.code l m.owner m.found one.code_is.reached m.level.counted.scanned (costs_of power) in
        let charged = counted.charged_are power original foreign notes v v' tree tree' one other w w' m.least m'.least a.weights_are are m.least_is m'.least_is in
        let leads : (graph_by original v').target e ≡ Some bad.0 = ap edge_to there' ∙ (sym (ap edge_to there) ∙ bad.1) in
        let fs' = m'.found edge.at edge.kind in
        let told : ℕ → EdgeNumbers = λ x. told_on (graph_by original v) l w m.n m.least e x in
        let tail = tail_cycles (costs_of power) (all_with_rows foreign l' m'.owner fs') in
        let same = told_alike power original foreign notes found_agree v v' tree tree' one other w w' m.n m'.n m.least m'.least a.weights_are a.alike charged e bad.0 tail bad.1 leads in
        let first = subst (λ (f : Found). HasBadEntry power foreign l m.owner m.n (told (tail_cycles (costs_of power) (all_with_rows foreign l m.owner (f edge.at edge.kind)))) (f edge.at edge.kind) i) a.found_is_same bad.2 in
        let second = subst (λ (o : Owner). HasBadEntry power foreign l o m.n (told (tail_cycles (costs_of power) (all_with_rows foreign l o fs'))) fs' i) a.owner_is_same first in
        let third = subst (λ (ls : Loops). HasBadEntry power foreign ls m'.owner m.n (told (tail_cycles (costs_of power) (all_with_rows foreign ls m'.owner fs'))) fs' i) (counted.loops_same power original foreign notes v v' tree tree' one other) second in
        (bad.0, leads, entry_to power foreign l' m'.owner m.n m'.n (told tail) (told_on (graph_by original v') l' w' m'.n m'.least e tail) same (λ c k owns. a.alike.iteration k (low c k (ap (λ (o : Owner). o c) a.owner_is_same ∙ owns))) fs' i third)
      where
        low : (c k : ℕ) → m.owner c ≡ Some k → k < l.loops
        low c k owns = (counter_for original foreign v.code l (noted_loops notes).inside m.owner m.found (program_of t v notes tree one.code_is one.tree_is) m.level.counted.scanned m.level.counted.owners c k owns).low

  -- ---- one image, and one graph

  module _ (v : FlowGraph) (tree : LoopView) (one : IsListed original notes v tree) (owner : Owner) (found : Found) (scanned : IsScanned original foreign v.code (loops v tree) found) where
    -- an edge with a bad entry is one of a changed word
    changed_of : (w : ℕ → ℕ) (n : Numbers) (least : Charged) (e : ℕ) (edge : Edge) (i : ℕ) → IsBadLevel power foreign (graph_by original v) (loops v tree) owner w n least found e edge i → is_changed original foreign edge.at ≡ true
    changed_of w n least e edge i bad = by (is_changed original foreign edge.at) refl
      where
        by : (b : Bool) → is_changed original foreign edge.at ≡ b → is_changed original foreign edge.at ≡ true
        by true is = is
        by false is = absurd (no_bad power foreign (loops v tree) owner n _ (found edge.at edge.kind) i (scanned.found_are.plain edge.at edge.kind (λ c. both_ways (is_changed original foreign edge.at) is c.1)) bad.2)

    -- two such edges at one place are one
    edges_one : (e e' : ℕ) (x y : Edge) → slice_get v.code.edges e ≡ Some x → slice_get v.code.edges e' ≡ Some y → is_changed original foreign x.at ≡ true → x.at ≡ y.at → kind_place x.kind ≡ kind_place y.kind → x ≡ y
    edges_one e e' x y there there' changed at_same kinds =
        let a = edge_of_word (kind_at t) t.entry v.code one.code_is.reached.lists e x there in
        let b = edge_of_word (kind_at t) t.entry v.code one.code_is.reached.lists e' y there' in
        let r = subst (λ u. Reached (kind_at t) t.entry a.1.0 u) (sym a.3) a.1.1 in
        let p = patched_at original foreign v.code (loops v tree) owner found one.code_is.reached scanned x.at a.1.0 r changed in
        let rt = call_returns v.code (kind_at t x.at) in
        let wx : Within x (edges_of (kind_at t x.at) x.at rt) = subst (λ u. Within x (edges_of (kind_at t u) u (call_returns v.code (kind_at t u)))) (sym a.3) a.2 in
        let there_y : Within y (edges_of (kind_at t y.at) y.at (call_returns v.code (kind_at t y.at))) = subst (λ u. Within y (edges_of (kind_at t u) u (call_returns v.code (kind_at t u)))) (sym b.3) b.2 in
        let wy : Within y (edges_of (kind_at t x.at) x.at rt) = subst (λ u. Within y (edges_of (kind_at t u) u (call_returns v.code (kind_at t u)))) (sym at_same) there_y in
        same_edge t x.at p.instr rt x y p.can_be (subst (λ k. Within x (edges_of k x.at rt)) p.kind wx) (subst (λ k. Within y (edges_of k x.at rt)) p.kind wy) kinds

  -- ---- the first bad entries are one

  module _ (v v' : FlowGraph) (tree tree' : LoopView) (one : IsListed original notes v tree) (other : IsListed original notes v' tree') where
    pub levels_same : (a b : Verdict) → stages.IsLevelFailed power original foreign notes v tree a → stages.IsLevelFailed power original foreign notes v' tree' b → a ≡ b
    levels_same a b x y =
        let m = x.misled in
        let m' = y.misled in
        let xb = m.bad in
        let yb = m'.bad in
        let lists = counted.lists power original foreign notes v v' tree tree' one other in
        let x_there : slice_get v'.code.edges xb.number ≡ Some xb.edge = ap (λ (es : List Edge). slice_get es xb.number) (sym lists.edges) ∙ xb.there in
        let y_there : slice_get v.code.edges yb.number ≡ Some yb.edge = ap (λ (es : List Edge). slice_get es yb.number) lists.edges ∙ yb.there in
        let x_bad = bad_to v v' tree tree' one other x.at y.at x.from y.from m m' xb.number xb.edge x.from xb.there x_there xb.bad in
        let y_bad = bad_to v' v tree' tree other one y.at x.at y.from x.from m' m yb.number yb.edge y.from yb.there y_there yb.bad in
        let not_later = xb.first yb.number y.from yb.edge y_there y_bad in
        let not_sooner = yb.first xb.number x.from xb.edge x_there x_bad in
        let at_same : xb.edge.at ≡ yb.edge.at = equal_by xb.edge.at yb.edge.at (λ lt. not_sooner (inl lt)) (λ lt. not_later (inl lt)) in
        let kinds : kind_place xb.edge.kind ≡ kind_place yb.edge.kind = equal_by (kind_place xb.edge.kind) (kind_place yb.edge.kind) (λ lt. not_sooner (inr (at_same, lt))) (λ lt. not_later (inr (sym at_same, lt))) in
        let changed = changed_of v tree one m.owner m.found m.level.counted.scanned (weights_with power original foreign v tree m.owner m.found) m.n m.least xb.number xb.edge x.from xb.bad in
        let edge : xb.edge ≡ yb.edge = edges_one v tree one m.owner m.found m.level.counted.scanned xb.number yb.number xb.edge yb.edge xb.there y_there changed at_same kinds in
        let number : xb.number ≡ yb.number = one_edge (kind_at t) t.entry v.code one.code_is.reached.lists xb.number yb.number xb.edge xb.there (y_there ∙ ap (λ z. Some z) (sym edge)) in
        let y_here = subst (λ n. IsBadLevel power foreign (graph_by original v) (loops v tree) m.owner (weights_with power original foreign v tree m.owner m.found) m.n m.least m.found n xb.edge y.from) (sym number)
        (subst (λ z. IsBadLevel power foreign (graph_by original v) (loops v tree) m.owner (weights_with power original foreign v tree m.owner m.found) m.n m.least m.found yb.number z y.from) (sym edge) y_bad) in
        let x_here = subst (λ n. IsBadLevel power foreign (graph_by original v') (loops v' tree') m'.owner (weights_with power original foreign v' tree' m'.owner m'.found) m'.n m'.least m'.found n yb.edge x.from) number
        (subst (λ z. IsBadLevel power foreign (graph_by original v') (loops v' tree') m'.owner (weights_with power original foreign v' tree' m'.owner m'.found) m'.n m'.least m'.found xb.number z x.from) edge x_bad) in
        let from : x.from ≡ y.from = equal_by x.from y.from (λ lt. yb.lowest x.from lt x_here) (λ lt. xb.lowest y.from lt y_here) in
        let place : x.at ≡ y.at = sym xb.starts ∙ (at_same ∙ yb.starts) in
        x.is ∙ (ap (λ n. No (why.Level n x.from)) place ∙ (ap (λ n. No (why.Level y.at n)) from ∙ sym y.is))
      where
        equal_by : (p q : ℕ) → (p < q → ⊥) → (q < p → ⊥) → p ≡ q
        equal_by p q below above = go (cases_lt p q) (cases_lt q p)
          where
            go : (p < q) ⊎ (q ≤ p) → (q < p) ⊎ (p ≤ q) → p ≡ q
            go (inl lt) other2 = absurd (below lt)
            go (inr ge) (inl lt) = absurd (above lt)
            go (inr ge) (inr le) = omega (arith, ge, le)
