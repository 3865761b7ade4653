-- Over two graphs of a program the fragments of each edge are the same, and what the stubs add.
use Rattle.std.proofs.Common.{◌≡◌, ℕ, suc, ◌+◌, List, [], ◌∷◌, map, Option, option_map, refl, sym, ap, ◌∙◌, subst, arith}
use Rattle.std.specs.Prelude.{All}
use Rattle.std.proofs.Math.Path.{fun_ext}
use Rattle.scale_base.specs.declared.fragments.Fragment.TheVariants as fragments
use Rattle.scale_base.specs.declared.fragments.Mark.{Mark}
use Rattle.scale_base.specs.declared.fragments.Mark.TheVariants as marks
use Rattle.scale_base.specs.Image.{Image}
use Rattle.power_model.specs.Numbers.{PowerModel}
use Rattle.cost_theory.specs.Accepted.{AreWeights}
use Rattle.cost_theory.specs.Graph.{Graph, Loops}
use Rattle.cost_theory.specs.Worst.{Numbers, AreNumbers}
use Rattle.cycle_laws.specs.Charged.{Charged, AreCharged, to_end_after}
use Rattle.code_text.specs.Text.{text_of}
use Rattle.flow_graph.specs.FlowGraph.{FlowGraph, graph}
use Rattle.loop_file.specs.declared.notes.LoopNote.{LoopNote}
use Rattle.loop_forest.specs.Tree.{LoopView, loops}
use Rattle.worst_cycles.specs.Worst.{slack_at, rest_at}
use Rattle.level_tables.specs.Tables as tables
use Rattle.level_tables.specs.declared.edge_numbers.EdgeNumbers.{EdgeNumbers}
use Rattle.scale_sites.specs.Counters.{counted_loops}
use Rattle.scale_sites.specs.Sites.{is_branch}
use Rattle.rewritten_runs.specs.Stubs.{IsWeighed, marks_by_slack, extra_weights, stored_weights, tail_at, told_at, loop_of, fragment_of, fragments_at}
use Rattle.rewritten_runs.proofs.Laws.{stored_are_weights, IsMarkOf, counted_is, loop_is, marks_of_edge}
use Rattle.answer_laws.specs.Alike.{AreAlikeCharged}
use Rattle.answer_laws.proofs.Laws.{charged_alike}
use Rattle.scaler.proofs.agree.SameMarks.{same, trees, counted_same, alike_under, slack_under, marks_same, extra_same, stored_same, stored_alike}

-- functions that are the same where a fact holds
map_same : {A B : Type 0} (P : A → Type 0) (f g : A → B) (xs : List A) → All P xs → ((x : A) → P x → f x ≡ g x) → map f xs ≡ map g xs
map_same P f g [] all each = refl
map_same P f g (x ∷ xs) all each =
    ap (λ y. y ∷ map f xs) (each x (all 0 x (omega arith))) ∙
    ap (λ ys. g x ∷ ys) (map_same P f g xs (λ k d lt. all (suc k) d (omega arith)) each)

abbrev told : ℕ → ℕ → Option ℕ → EdgeNumbers
told slack left least = record { slack = slack; left = left; least = least }

module _ (power : PowerModel) (image : Image) (notes : List LoopNote) (v v' : FlowGraph) (t t' : LoopView) (plain plain' stored stored' : Numbers)
    (one : IsWeighed power image notes v t plain stored) (other : IsWeighed power image notes v' t' plain' stored') where
  abbrev marked : ℕ → List Mark
  marked = marks_by_slack power image v t plain

  abbrev marked' : ℕ → List Mark
  marked' = marks_by_slack power image v' t' plain'

  abbrev w : ℕ → ℕ
  w = stored_weights power image v (marks_by_slack power image v t plain)

  abbrev w' : ℕ → ℕ
  w' = stored_weights power image v' (marks_by_slack power image v' t' plain')

  same_marks : marks_by_slack power image v t plain ≡ marks_by_slack power image v' t' plain'
  same_marks = marks_same power image notes v v' t t' plain plain' stored stored' one other

  -- ---- what the stubs add

  pub extra_worst : (extra extra' : Numbers) → AreNumbers (graph v) (loops v t) (extra_weights power v marked) extra → AreNumbers (graph v') (loops v' t') (extra_weights power v' marked') extra' → extra.worst 0 ≡ extra'.worst 0
  extra_worst extra extra' are are' = (alike_under power image notes v v' t t' plain plain' stored stored' one other (extra_weights power v marked) (extra_weights power v' marked') extra extra'
      (extra_same power image notes v v' t t' plain plain' stored stored' one other) are are').whole

  -- ---- fragments

  module _ (least least' : Charged) (are : AreCharged (graph v) (loops v t) w least) (are' : AreCharged (graph v') (loops v' t') w' least') where
    charged : AreAlikeCharged v v' t t' least least'
    charged = charged_alike (text_of image) v v' notes t t' w least least' one.code_is (same power image notes v v' t t' plain plain' stored stored' one other) one.tree_is other.tree_is
        (subst (λ (g : Graph). AreWeights g w) one.code_is.graph_is (stored_are_weights power image notes v t plain stored one))
        are (subst (λ (x : ℕ → ℕ). AreCharged (graph v') (loops v' t') x least') (sym (stored_same power image notes v v' t t' plain plain' stored stored' one other)) are')

    told_same : (e : ℕ) → told_at power image v t marked stored least e ≡ told_at power image v' t' marked' stored' least' e
    told_same e =
        let alike = stored_alike power image notes v v' t t' plain plain' stored stored' one other in
        let s = slack_at (graph v) (loops v t) w stored e in
        let s' = slack_at (graph v') (loops v' t') w' stored' e in
        let r = rest_at (graph v) (loops v t) stored e in
        let r' = rest_at (graph v') (loops v' t') stored' e in
        let z = to_end_after (graph v) (loops v t) least e in
        let z' = to_end_after (graph v') (loops v' t') least' e in
        ap (λ (x : ℕ). told x (r + tail_at power marked e) (option_map (λ y. y + tail_at power marked e) z))
        (slack_under power image notes v v' t t' plain plain' stored stored' one other w w' stored stored' (stored_same power image notes v v' t t' plain plain' stored stored' one other) alike e) ∙
        ap (λ (x : ℕ). told s' (x + tail_at power marked e) (option_map (λ y. y + tail_at power marked e) z)) (alike.rest e) ∙
        ap (λ (x : Option ℕ). told s' (r' + tail_at power marked e) (option_map (λ y. y + tail_at power marked e) x)) (charged.after e) ∙
        ap (λ (m : ℕ → List Mark). told s' (r' + tail_at power m e) (option_map (λ y. y + tail_at power m e) z')) same_marks

    -- the counter of an exit, or of a tally, is that of a counted loop
    fragment_same : (e : ℕ) (x : EdgeNumbers) (m : Mark) → IsMarkOf (loops v t) (counted_loops t) (is_branch v e) ((graph v).source e) ((graph v).target e) m →
        fragment_of power (loops v t) (counted_loops t) stored x m ≡ fragment_of power (loops v t) (counted_loops t) stored' x m
    fragment_same e x marks.Switch is = refl
    fragment_same e x (marks.Exit c) is =
        let k = loop_of (counted_loops t) c in
        let at : k ≡ is.loop = ap (loop_of (counted_loops t)) is.is ∙ loop_is power image notes v t plain stored one is.place is.loop is.get in
        let turn : stored.iteration is.loop ≡ stored'.iteration is.loop =
        (stored_alike power image notes v v' t t' plain plain' stored stored' one other).iteration is.loop (counted_is power image notes v t plain stored one is.place is.loop is.get).loop in
        let turns : stored.iteration k ≡ stored'.iteration k = ap stored.iteration at ∙ (turn ∙ sym (ap stored'.iteration at)) in
        ap (λ (n : ℕ). fragments.Exit c (tables.shift_of ((loops v t).bound k)) (tables.rows_of power ((loops v t).bound k) n x)) turns
    fragment_same e x (marks.Reset c) is = refl
    fragment_same e x (marks.Count c) is = refl
    fragment_same e x marks.Lowest is = refl
    fragment_same e x (marks.Tally c) is =
        let k = loop_of (counted_loops t) c in
        let at : k ≡ is.loop = ap (loop_of (counted_loops t)) is.is ∙ loop_is power image notes v t plain stored one is.place is.loop is.get in
        let turn : stored.iteration is.loop ≡ stored'.iteration is.loop =
        (stored_alike power image notes v v' t t' plain plain' stored stored' one other).iteration is.loop (counted_is power image notes v t plain stored one is.place is.loop is.get).loop in
        let turns : stored.iteration k ≡ stored'.iteration k = ap stored.iteration at ∙ (turn ∙ sym (ap stored'.iteration at)) in
        ap (λ (n : ℕ). fragments.Tally c (tables.tally_shift ((loops v t).bound k)) (tables.tally_from power (tables.meets_both power) ((loops v t).bound k) n x)) turns

    fragments_at_same : (e : ℕ) → fragments_at power image v t marked stored least e ≡ fragments_at power image v' t' marked' stored' least' e
    fragments_at_same e =
        let x = told_at power image v t marked stored least e in
        let x' = told_at power image v' t' marked' stored' least' e in
        map_same (IsMarkOf (loops v t) (counted_loops t) (is_branch v e) ((graph v).source e) ((graph v).target e)) (fragment_of power (loops v t) (counted_loops t) stored x) (fragment_of power (loops v t) (counted_loops t) stored' x)
        (marked e) (marks_of_edge power image notes v t plain stored one e) (fragment_same e x) ∙
        ap (λ (l : Loops). map (fragment_of power l (counted_loops t) stored' x) (marked e)) (trees power image notes v v' t t' plain plain' stored stored' one other).loops ∙
        ap (λ (c : List ℕ). map (fragment_of power (loops v' t') c stored' x) (marked e)) (counted_same power image notes v v' t t' plain plain' stored stored' one other) ∙
        ap (λ (y : EdgeNumbers). map (fragment_of power (loops v' t') (counted_loops t') stored' y) (marked e)) (told_same e) ∙
        ap (λ (m : ℕ → List Mark). map (fragment_of power (loops v' t') (counted_loops t') stored' x') (m e)) same_marks

    pub fragments_same : fragments_at power image v t marked stored least ≡ fragments_at power image v' t' marked' stored' least'
    fragments_same = fun_ext fragments_at_same
