-- The numbers of a program with its loops agree, over two graphs.
use Rattle.std.proofs.Common.{◌≡◌, ℕ, ◌<◌, ◌≤◌, Bool, None, length, sym, ap, ◌∙◌, subst, ⊎_elim, ◌⊎◌, inl, inr}
use Rattle.std.proofs.lemmas.Bool.{cases_lt}
use Rattle.std.proofs.lemmas.Option.{slice_get_past}
use Rattle.cost_theory.specs.Graph.{Graph, Loops}
use Rattle.cost_theory.specs.Worst.{Numbers, AreNumbers}
use Rattle.cost_theory.specs.Accepted.{IsProgram, AreAccepted}
use Rattle.cost_theory.specs.Laws.{AreSameNumbers}
use Rattle.cost_theory.specs.Reached.{edge_to}
use Rattle.cost_theory.proofs.Laws as theory
use Rattle.cost_theory.proofs.Laws.{same_numbers}
use Rattle.worst_cycles.specs.Worst.{slack_at, rest_at}
use Rattle.flow_graph.specs.FlowGraph.{FlowGraph, graph}
use Rattle.loop_file.specs.Kept.{noted_loops}
use Rattle.loop_forest.specs.Tree.{loops}
use Rattle.answer_laws.specs.Renumbered.{IsRenumberedGraph}
use Rattle.answer_laws.specs.Laws.{NumbersAreAlike}
use Rattle.answer_laws.proofs.SameEdges.{with_edges, by_edges}
use Rattle.answer_laws.proofs.SameNumbers.{renamed, numbers_from, slack_from, rest_from, slack_is, rest_is}
use Rattle.answer_laws.proofs.Trees.{trees_agree}

-- what is no edge of a graph leads nowhere
abbrev pub EndsThere : Graph → Type 0
EndsThere g = (e : ℕ) → (e < g.edges) ⊎ (g.target e ≡ None)

pub ends_there : (v : FlowGraph) → EndsThere (graph v)
ends_there v e = ⊎_elim
    (λ (lt : e < length v.code.edges). inl lt)
    (λ (ge : length v.code.edges ≤ e). inr (ap edge_to (slice_get_past v.code.edges e ge)))
    (cases_lt e (length v.code.edges))

-- over two graphs, with the same loops
record AreAlikeOver (g g' : Graph) (l : Loops) (number : ℕ → ℕ) (w : ℕ → ℕ) (n n' : Numbers) : Type 0 where
  pub whole : n.worst 0 ≡ n'.worst 0
  pub worst : (f : ℕ) → f < g'.functions → n.worst (number f) ≡ n'.worst f
  pub context : (f : ℕ) → f < g'.functions → n.context (number f) ≡ n'.context f
  pub iteration : (k : ℕ) → k < l.loops → n.iteration k ≡ n'.iteration k
  pub left : (at : ℕ) → n.left at ≡ n'.left at
  pub slack : (e : ℕ) → slack_at g l w n e ≡ slack_at g' l w n' e
  pub rest : (e : ℕ) → rest_at g l n e ≡ rest_at g' l n' e

module _ (g : Graph) (l : Loops) (extent : ℕ → ℕ → Bool) (prog : IsProgram g) (acc : AreAccepted g l extent) (end : EndsThere g) (w : ℕ → ℕ) (n n' : Numbers) (nums : AreNumbers g l w n) where
  alike_from : (h : Graph) (r : IsRenumberedGraph g (with_edges g h)) → AreNumbers (with_edges g h) l w n' → AreAlikeOver g (with_edges g h) l r.number w n n'
  alike_from h r nums' =
      let order = theory.call_order g prog in
      let same : AreSameNumbers g l n (renamed r.back n') = same_numbers g l extent prog acc w order.0 order.1 n (renamed r.back n') nums (numbers_from g h r l w n' nums') in
      record {
        whole = same.worst 0 prog.main ∙ ap n'.worst r.again.first;
        worst = λ f fl. same.worst (r.number f) (r.numbered.within f fl) ∙ ap n'.worst (r.here f fl);
        context = λ f fl. same.context (r.number f) (r.numbered.within f fl) ∙ ap n'.context (r.here f fl);
        iteration = same.iteration;
        left = same.left;
        slack = λ e. slack_is g l extent prog acc w n (renamed r.back n') same end e ∙ slack_from g h r l w n' e;
        rest = λ e. rest_is g l extent prog acc w n (renamed r.back n') same end e ∙ rest_from g h r l w n' e;
      }

  alike_over : (g' : Graph) (r : IsRenumberedGraph g g') → AreNumbers g' l w n' → AreAlikeOver g g' l r.number w n n'
  alike_over g' r = by_edges g g' (λ y. (s : IsRenumberedGraph g y) → AreNumbers y l w n' → AreAlikeOver g y l s.number w n n') (λ h first s nums'. alike_from h s nums') r r

pub numbers_alike : NumbersAreAlike
numbers_alike v v' notes t t' w n n' same flow tree tree' nums nums' =
    let l = loops v t in
    let e = (trees_agree v v' notes t t' same flow tree tree').loops in
    let over : AreAlikeOver (graph v) (graph v') l same.graphs.number w n n' = alike_over (graph v) l (noted_loops notes).inside flow.program tree.tree.accepted (ends_there v) w n n' nums (graph v') same.graphs
    (subst (λ x. AreNumbers (graph v') x w n') (sym e) nums') in
    record {
      whole = over.whole;
      worst = over.worst;
      context = over.context;
      iteration = over.iteration;
      left = over.left;
      slack = λ i. over.slack i ∙ ap (λ x. slack_at (graph v') x w n' i) e;
      rest = λ i. over.rest i ∙ ap (λ x. rest_at (graph v') x n' i) e;
    }
