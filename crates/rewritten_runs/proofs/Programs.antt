-- The weights of a program as a list and as costs of its edges, and the numbers that they give.
use Rattle.std.proofs.Common.{◌≡◌, ℕ, zero, suc, ◌<◌, ◌≤◌, ◌⊎◌, ⊎_elim, arith, List, [], ◌∷◌, length, map, slice_get, Some, refl, sym, ap, ◌∙◌, subst}
use Rattle.std.specs.Prelude.{slice_index, slice_index_or}
use Rattle.std.proofs.Math.Path.{fun_ext}
use Rattle.scale_base.specs.declared.stepping.Class.{Class}
use Rattle.scale_base.specs.declared.edges.Edge.{Edge}
use Rattle.cost_theory.specs.Graph.{Graph, Loops, with_trips}
use Rattle.cost_theory.specs.Accepted.{AreWeights, AreAccepted, HasNoRecursion, HaveWholeExtents}
use Rattle.cost_theory.specs.Worst.{Numbers, AreNumbers}
use Rattle.code_text.specs.Text.{Text}
use Rattle.code_text.specs.EdgeCosts.{edge_class, cost_of, weights}
use Rattle.code_text.specs.TextGraph.{text_graph}
use Rattle.scale_base.specs.Image.{Image}
use Rattle.scale_base.specs.Run.{setting_of, start_of}
use Rattle.graph_runs.specs.KeptSteps.{Carried, by_extents}
use Rattle.graph_runs.specs.KeptRuns.{kept_of}
use Rattle.graph_runs.proofs.Laws.{kept_by_less}
use Rattle.code_text.proofs.Laws.{weights_are}
use Rattle.graph_runs.specs.Laws.{IsProgramOf}
use Rattle.loop_file.specs.declared.notes.LoopNote.{LoopNote}
use Rattle.loop_file.specs.Kept.{noted_loops, note_at}
use Rattle.flow_graph.specs.FlowGraph.{FlowGraph, graph, IsGraphOf}
use Rattle.loop_forest.specs.Noted.{node_address}
use Rattle.loop_forest.specs.Tree.{LoopView, loops, IsTreeOf}
use Rattle.worst_cycles.specs.Worst.{by_edge}

-- ---- weights

-- the weights as a list
abbrev pub listed_weights : FlowGraph → (Class → ℕ) → List ℕ
listed_weights v costs = map (cost_of costs) v.classes

at_edge : (t : Text) (costs : Class → ℕ) (edges : List Edge) (e : ℕ) →
    slice_index_or (map (cost_of costs) (map (λ x. edge_class t (Some x)) edges)) e 0 ≡ cost_of costs (edge_class t (slice_get edges e))
at_edge t costs [] e = refl
at_edge t costs (x ∷ xs) zero = refl
at_edge t costs (x ∷ xs) (suc e) = at_edge t costs xs e

-- are those of the text
pub weights_listed : (t : Text) (v : FlowGraph) (costs : Class → ℕ) → IsGraphOf t v → by_edge (listed_weights v costs) ≡ weights t v.code costs
weights_listed t v costs is = fun_ext (λ e. ap (λ cs. slice_index_or (map (cost_of costs) cs) e 0) is.classes ∙ at_edge t costs v.code.edges e)

pub weights_hold : (t : Text) (v : FlowGraph) (costs : Class → ℕ) → IsGraphOf t v → AreWeights (graph v) (by_edge (listed_weights v costs))
weights_hold t v costs is =
    subst (λ (g : Graph). AreWeights g (by_edge (listed_weights v costs))) is.graph_is
    (subst (λ (w : ℕ → ℕ). AreWeights (text_graph t v.code) w) (sym (weights_listed t v costs is)) (weights_are t v.code costs))

pub weights_count : (t : Text) (v : FlowGraph) (costs : Class → ℕ) → IsGraphOf t v → length (listed_weights v costs) ≡ length v.code.edges
weights_count t v costs is = ap (λ cs. length (map (cost_of costs) cs)) is.classes ∙ go v.code.edges
  where
    go : (edges : List Edge) → length (map (cost_of costs) (map (λ x. edge_class t (Some x)) edges)) ≡ length edges
    go [] = refl
    go (x ∷ xs) = ap suc (go xs)

-- the numbers under the list are those under the costs
pub numbers_listed : (t : Text) (v : FlowGraph) (costs : Class → ℕ) (l : Loops) (n : Numbers) → IsGraphOf t v →
    AreNumbers (graph v) l (by_edge (listed_weights v costs)) n → AreNumbers (text_graph t v.code) l (weights t v.code costs) n
numbers_listed t v costs l n is h =
    subst (λ (g : Graph). AreNumbers g l (weights t v.code costs) n) (sym is.graph_is)
    (subst (λ (w : ℕ → ℕ). AreNumbers (graph v) l w n) (weights_listed t v costs is) h)

-- ---- loops

-- the loops of the notes, in both forms
count_noted : (notes : List LoopNote) → length (map (λ n. n.header) notes) ≡ length notes
count_noted [] = refl
count_noted (n ∷ ns) = ap suc (count_noted ns)

header_noted : (notes : List LoopNote) (k : ℕ) → slice_index (map (λ n. n.header) notes) k ≡ (note_at notes k).header
header_noted [] k = refl
header_noted (n ∷ ns) zero = refl
header_noted (n ∷ ns) (suc k) = header_noted ns k

bound_noted : (notes : List LoopNote) (k : ℕ) → slice_index (map (λ n. n.bound) notes) k ≡ (note_at notes k).bound
bound_noted [] k = refl
bound_noted (n ∷ ns) zero = refl
bound_noted (n ∷ ns) (suc k) = bound_noted ns k

abbrev noted : List LoopNote → (ℕ → ℕ) → ℕ → (ℕ → ℕ) → (ℕ → ℕ) → Loops
noted notes trips count header bound = record { loops = count; header = header; bound = bound; least_trips = trips; inside = (noted_loops notes).inside }

loops_noted : (v : FlowGraph) (notes : List LoopNote) (t : LoopView) → IsTreeOf v notes t → by_extents (loops v t) (noted_loops notes).inside ≡ with_trips (noted_loops notes) (λ k. slice_index t.least_trips k)
loops_noted v notes t is =
    let trips : ℕ → ℕ = λ k. slice_index t.least_trips k in
    ap (λ n. noted notes trips n (λ k. slice_index (map (node_address v) t.headers) k) (λ k. slice_index t.bounds k)) (ap length is.headers ∙ count_noted notes)
    ∙ (ap (λ f. noted notes trips (length notes) f (λ k. slice_index t.bounds k)) (fun_ext (λ k. ap (λ hs. slice_index hs k) is.headers ∙ header_noted notes k))
    ∙ ap (λ f. noted notes trips (length notes) (noted_loops notes).header f) (fun_ext (λ k. ap (λ bs. slice_index bs k) is.bounds ∙ bound_noted notes k)))

-- a loop of the tree has to turn no more often than its note says
few_trips : (v : FlowGraph) (notes : List LoopNote) (t : LoopView) → IsTreeOf v notes t → (k : ℕ) → k < length notes → slice_index t.least_trips k ≤ (note_at notes k).at_least
few_trips v notes t is k kl = ⊎_elim
    (λ (none : slice_index t.least_trips k ≡ 0). let r : slice_index t.least_trips k ≤ (note_at notes k).at_least = omega arith in r)
    (λ (some : 0 < slice_index t.least_trips k).
    let here = is.trips k kl in
    let e : slice_index t.least_trips k ≡ (note_at notes k).at_least = here.whole (here.turns some) in
    let r : slice_index t.least_trips k ≤ (note_at notes k).at_least = omega arith in r)
    (some_or_none (slice_index t.least_trips k))
  where
    some_or_none : (n : ℕ) → (n ≡ 0) ⊎ (0 < n)
    some_or_none n = grind arith

-- so a run that is kept by the notes is kept by the tree
pub kept_by_tree : (v : FlowGraph) (notes : List LoopNote) (t : LoopView) → IsTreeOf v notes t → (image : Image) (levels : ℕ) (input : List ℕ) (n : ℕ) (c : Carried) →
    kept_of image levels input (noted_loops notes) n ≡ Some c → kept_of image levels input (by_extents (loops v t) (noted_loops notes).inside) n ≡ Some c
kept_by_tree v notes t is image levels input n c kept =
    ap (λ l. kept_of image levels input l n) (loops_noted v notes t is)
    ∙ kept_by_less (setting_of image levels input) (start_of image levels) (noted_loops notes) (λ k. slice_index t.least_trips k) (few_trips v notes t is) n c kept

-- the program that the laws of runs speak of
pub program_of : (t : Text) (v : FlowGraph) (notes : List LoopNote) (tree : LoopView) → IsGraphOf t v → IsTreeOf v notes tree → IsProgramOf t v.code (loops v tree) (noted_loops notes).inside
program_of t v notes tree is built = record {
  reached = is.reached;
  calls = subst (λ (g : Graph). HasNoRecursion g) (sym is.graph_is) is.flow.program.no_recursion;
  loops = subst (λ (g : Graph). AreAccepted g (loops v tree) (noted_loops notes).inside) (sym is.graph_is) built.tree.accepted;
  whole = subst (λ (g : Graph). HaveWholeExtents g (loops v tree) (noted_loops notes).inside) (sym is.graph_is) built.tree.whole;
}
