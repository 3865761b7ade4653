-- Two answers that a check may give of the same files agree.
use Rattle.std.proofs.Common.{◌≡◌, inl, inr, ℕ, List, Result, Ok, Err, refl, sym, ◌∙◌, subst}
use Rattle.scale_base.specs.declared.refusal.Refusal.{Refusal}
use Rattle.scale_base.specs.declared.verdict.Verdict.{Verdict}
use Rattle.scale_base.specs.Image.{Image, image_of}
use Rattle.power_model.specs.Numbers.{PowerModel}
use Rattle.loop_file.specs.declared.notes.LoopNote.{LoopNote}
use Rattle.flow_graph.specs.FlowGraph.{FlowGraph}
use Rattle.code_text.specs.Text.{text_of}
use Rattle.loop_forest.specs.Tree.{LoopView}
use Rattle.answer_laws.specs.Alike.{AreAlikeRefusals}
use Rattle.answer_laws.proofs.Laws.{code_refusals_agree, graphs_renumbered, graph_is_not_refused, loop_refusals_agree, tree_is_not_refused}
use Rattle.foreign_scan.specs.Agree.{ScanIsNotRefused, CausesAgree, FoundAgree}
use Rattle.answer_parts.specs.Parts.{Then}
use Rattle.program_sources.specs.Sources.{sources_of}
use Rattle.image_check.specs.Agreeing.{AreAlikeVerdicts, CheckedAnswersAgree}
use Rattle.image_check.specs.Checked.{IsFileVerdict, IsProgramRefusal, IsProgramChecked, IsChecked}
use Rattle.image_check.proofs.AgreeCounted.{IsListed}
use Rattle.image_check.proofs.AgreeLevels.{levels_same}
use Rattle.image_check.proofs.AgreeStages.{stage_of}
use Rattle.image_check.proofs.AgreeVerdicts.{verdicts_same}

abbrev Answer : Type 0
Answer = Result Verdict Refusal

alike_self : (one : Answer) → AreAlikeVerdicts one one
alike_self (Ok verdict) = refl
alike_self (Err refusal) = inl refl

alike_same : (one other : Answer) → one ≡ other → AreAlikeVerdicts one other
alike_same one other e = subst (λ y. AreAlikeVerdicts one y) e (alike_self one)

-- what follows a part that may refuse
then_alike : {A : Type 0} (part : Result A Refusal) (next : A → Answer → Type 0) → ((a : A) (one other : Answer) → next a one → next a other → AreAlikeVerdicts one other) → (one other : Answer) → Then part next one → Then part next other → AreAlikeVerdicts one other
then_alike (Err refusal) next alike one other e e' = alike_same one other (e ∙ sym e')
then_alike (Ok a) next alike one other is is' = alike a one other is is'

module _ (found_agree : FoundAgree) (causes : CausesAgree) (not_both : ScanIsNotRefused) (power : PowerModel) (original : Image) (foreign : List ℕ) (notes : List LoopNote) where
  by_image : (v v' : FlowGraph) (tree tree' : LoopView) → IsListed original notes v tree → IsListed original notes v' tree' → (r : Result Image Refusal) (one other : Verdict) → IsFileVerdict power original r notes v tree one → IsFileVerdict power original r notes v' tree' other → one ≡ other
  by_image v v' tree tree' listed listed' (Err refusal) one other h h' = h ∙ sym h'
  by_image v v' tree tree' listed listed' (Ok image) one other h h' =
      verdicts_same power original image notes found_agree causes not_both v v' tree tree' listed listed' (levels_same power original image notes found_agree v v' tree tree' listed listed') one other
      (stage_of power original image notes v tree one h) (stage_of power original image notes v' tree' other h')

  refusals : (one other : Refusal) → IsProgramRefusal original notes one → IsProgramRefusal original notes other → AreAlikeRefusals one other
  refusals one other (inl code) (inl code') = code_refusals_agree (text_of original) one other code code'
  refusals one other (inl code) (inr (v', is', why')) = absurd (graph_is_not_refused (text_of original) v' one is' code)
  refusals one other (inr (v, is, why)) (inl code') = absurd (graph_is_not_refused (text_of original) v other is code')
  refusals one other (inr (v, is, why)) (inr (v', is', why')) = loop_refusals_agree v v' notes one other (graphs_renumbered (text_of original) v v' is is') why why'

  not_refused : (v : FlowGraph) (tree : LoopView) → IsListed original notes v tree → (refusal : Refusal) → IsProgramRefusal original notes refusal → ⊥
  not_refused v tree listed refusal (inl code) = graph_is_not_refused (text_of original) v refusal listed.code_is code
  not_refused v tree listed refusal (inr (v', is', why)) = tree_is_not_refused v v' notes tree refusal (graphs_renumbered (text_of original) v v' listed.code_is is') listed.code_is.flow listed.tree_is why

  by_program : (one other : Answer) → IsProgramChecked power original foreign notes one → IsProgramChecked power original foreign notes other → AreAlikeVerdicts one other
  by_program (Err one) (Err other) h h' = refusals one other h h'
  by_program (Err one) (Ok other) h h' = not_refused h'.0 h'.1 (record { code_is = h'.2; tree_is = h'.3 }) one h
  by_program (Ok one) (Err other) h h' = not_refused h.0 h.1 (record { code_is = h.2; tree_is = h.3 }) other h'
  by_program (Ok one) (Ok other) h h' = by_image h.0 h'.0 h.1 h'.1 (record { code_is = h.2; tree_is = h.3 }) (record { code_is = h'.2; tree_is = h'.3 }) (image_of foreign) one other h.4 h'.4

pub answers_agree : FoundAgree → CausesAgree → ScanIsNotRefused → CheckedAnswersAgree
unfolding IsChecked
answers_agree found_agree causes not_both image foreign machine loop_file =
    then_alike (sources_of image machine loop_file) _ (λ s. by_program found_agree causes not_both s.power s.view foreign s.notes)
