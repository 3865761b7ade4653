-- The answers that `hold` may give agree.
use Rattle.std.proofs.Common.{◌≡◌, ℕ, List, sym, ap, subst, ◌∙◌, ◌⊎◌, inl, inr}
use Rattle.scale_base.specs.Image.{Image}
use Rattle.power_model.specs.Numbers.{PowerModel}
use Rattle.power_model.specs.Price.{cycles_of}
use Rattle.loop_file.specs.declared.notes.LoopNote.{LoopNote}
use Rattle.cost_theory.specs.Graph.{Graph}
use Rattle.cost_theory.specs.Worst.{AreNumbers}
use Rattle.code_text.specs.Text.{text_of}
use Rattle.code_text.specs.EdgeCosts.{weights}
use Rattle.flow_graph.specs.FlowGraph.{graph}
use Rattle.loop_forest.specs.Tree.{loops}
use Rattle.answer_laws.proofs.Laws.{weights_same, numbers_alike}
use Rattle.program_sources.specs.Sources.{sources_of}
use Rattle.marked_images.specs.Refused.{IsLoopRefused}
use Rattle.scaler.specs.Held.{IsProgramHeld, IsHeldProgram, IsHeld, held_within}
use Rattle.scaler.specs.Agree.{AreAlikeAnswers, HeldAnswersAgree}
use Rattle.scaler.proofs.agree.Pairs.{Answer, HasGraph, HasTree, alike_same, then_alike, codes_alike, code_not_refused, renumbered, loops_alike, loops_not_refused}

module _ (power : PowerModel) (image : Image) (notes : List LoopNote) where
  tree_of : (one : Answer) → IsProgramHeld power image notes one → HasTree image notes
  tree_of one h = record { code = h.code; tree = h.tree; code_is = h.code_is; tree_is = h.tree_is }

  graph_of : (one : Answer) → IsLoopRefused image notes one ⊎ IsProgramHeld power image notes one → HasGraph image
  graph_of one (inl r) = record { code = r.code; code_is = r.code_is }
  graph_of one (inr h) = record { code = h.code; code_is = h.code_is }

  -- the numbers under the costs of the instructions, over the graph of the lists
  over_lists : (one : Answer) (h : IsProgramHeld power image notes one) → AreNumbers (graph h.code) (loops h.code h.tree) (weights (text_of image) h.code.code (cycles_of power.costs)) h.numbers
  over_lists one h = subst (λ (g : Graph). AreNumbers g (loops h.code h.tree) (weights (text_of image) h.code.code (cycles_of power.costs)) h.numbers) h.code_is.graph_is h.numbers_are

  same_worst : (one other : Answer) (h : IsProgramHeld power image notes one) (h' : IsProgramHeld power image notes other) → h.numbers.worst 0 ≡ h'.numbers.worst 0
  same_worst one other h h' =
      let same = renumbered image h.code h'.code h.code_is h'.code_is in
      let w = weights (text_of image) h.code.code (cycles_of power.costs) in
      let there : AreNumbers (graph h'.code) (loops h'.code h'.tree) w h'.numbers =
      subst (λ (x : ℕ → ℕ). AreNumbers (graph h'.code) (loops h'.code h'.tree) x h'.numbers) (sym (weights_same (text_of image) h.code h'.code (cycles_of power.costs) same)) (over_lists other h') in
      (numbers_alike h.code h'.code notes h.tree h'.tree w h.numbers h'.numbers same h.code_is.flow h.tree_is h'.tree_is (over_lists one h) there).whole

  by_loops : (one other : Answer) → IsLoopRefused image notes one ⊎ IsProgramHeld power image notes one → IsLoopRefused image notes other ⊎ IsProgramHeld power image notes other → AreAlikeAnswers one other
  by_loops one other (inl r) (inl r') = loops_alike image notes one other r r'
  by_loops one other (inl r) (inr h') = absurd (loops_not_refused image notes one (tree_of other h') r)
  by_loops one other (inr h) (inl r') = absurd (loops_not_refused image notes other (tree_of one h) r')
  by_loops one other (inr h) (inr h') = alike_same one other (h.answer_is ∙ (ap (held_within power image) (same_worst one other h h') ∙ sym h'.answer_is))

  pub programs_held_alike : (one other : Answer) → IsHeldProgram power image notes one → IsHeldProgram power image notes other → AreAlikeAnswers one other
  programs_held_alike one other (inl r) (inl r') = codes_alike image one other r r'
  programs_held_alike one other (inl r) (inr h') = absurd (code_not_refused image one (graph_of other h') r)
  programs_held_alike one other (inr h) (inl r') = absurd (code_not_refused image other (graph_of one h) r')
  programs_held_alike one other (inr h) (inr h') = by_loops one other h h'

pub held_answers : HeldAnswersAgree
unfolding IsHeld
held_answers file machine notes_file =
    then_alike (sources_of file machine notes_file) _ (λ s. programs_held_alike s.power s.view s.notes)
