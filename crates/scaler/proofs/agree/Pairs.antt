-- Pairs of answers that are alike.
use Rattle.std.proofs.Common.{◌≡◌, ℕ, List, Result, Ok, Err, refl, sym, subst, ◌∙◌, inl}
use Rattle.scale_base.specs.declared.refusal.Refusal.{Refusal}
use Rattle.scale_base.specs.declared.summary.Summary.{Summary}
use Rattle.scale_base.specs.Image.{Image}
use Rattle.code_text.specs.Text.{text_of}
use Rattle.flow_graph.specs.FlowGraph.{FlowGraph, IsGraphOf}
use Rattle.loop_file.specs.declared.notes.LoopNote.{LoopNote}
use Rattle.loop_forest.specs.Tree.{LoopView, IsTreeOf}
use Rattle.answer_laws.specs.Renumbered.{IsRenumbered}
use Rattle.answer_laws.specs.Alike.{AreAlikeRefusals}
use Rattle.answer_laws.proofs.Laws.{graphs_renumbered, graph_is_not_refused, code_refusals_agree, tree_is_not_refused, loop_refusals_agree}
use Rattle.answer_parts.specs.Parts.{Then}
use Rattle.marked_images.specs.Refused.{IsCodeRefused, IsLoopRefused}
use Rattle.scaler.specs.Agree.{AreAlikeAnswers}

abbrev pub Answer : Type 0
Answer = Result (List ℕ × Summary) Refusal

alike_self : (one : Answer) → AreAlikeAnswers one one
alike_self (Ok given) = refl
alike_self (Err refusal) = inl refl

-- the same answer
pub alike_same : (one other : Answer) → one ≡ other → AreAlikeAnswers one other
alike_same one other e = subst (λ y. AreAlikeAnswers one y) e (alike_self one)

-- two refusals
pub alike_refusals : (one other : Answer) (refusal refusal' : Refusal) → one ≡ Err refusal → other ≡ Err refusal' → AreAlikeRefusals refusal refusal' → AreAlikeAnswers one other
alike_refusals one other refusal refusal' e e' alike = subst (λ y. AreAlikeAnswers one y) (sym e') (subst (λ y. AreAlikeAnswers y (Err refusal')) (sym e) alike)

-- what follows a part that may refuse
pub then_alike : {A : Type 0} (part : Result A Refusal) (next : A → Answer → Type 0) → ((a : A) (one other : Answer) → next a one → next a other → AreAlikeAnswers one other) →
    (one other : Answer) → Then part next one → Then part next other → AreAlikeAnswers one other
then_alike (Err refusal) next alike one other e e' = alike_same one other (e ∙ sym e')
then_alike (Ok a) next alike one other is is' = alike a one other is is'

-- ---- refused code, and refused loops

pub record HasGraph (image : Image) : Type 0 where
  pub code : FlowGraph
  pub code_is : IsGraphOf (text_of image) code

pub record HasTree (image : Image) (notes : List LoopNote) : Type 0 where
  pub code : FlowGraph
  pub tree : LoopView
  pub code_is : IsGraphOf (text_of image) code
  pub tree_is : IsTreeOf code notes tree

pub codes_alike : (image : Image) (one other : Answer) → IsCodeRefused image one → IsCodeRefused image other → AreAlikeAnswers one other
codes_alike image one other r r' = alike_refusals one other r.refusal r'.refusal r.answer_is r'.answer_is (code_refusals_agree (text_of image) r.refusal r'.refusal r.why r'.why)

pub code_not_refused : (image : Image) (one : Answer) → HasGraph image → IsCodeRefused image one → ⊥
code_not_refused image one h r = graph_is_not_refused (text_of image) h.code r.refusal h.code_is r.why

pub renumbered : (image : Image) (v v' : FlowGraph) → IsGraphOf (text_of image) v → IsGraphOf (text_of image) v' → IsRenumbered v v'
renumbered image v v' is is' = graphs_renumbered (text_of image) v v' is is'

pub loops_alike : (image : Image) (notes : List LoopNote) (one other : Answer) → IsLoopRefused image notes one → IsLoopRefused image notes other → AreAlikeAnswers one other
loops_alike image notes one other r r' = alike_refusals one other r.refusal r'.refusal r.answer_is r'.answer_is
    (loop_refusals_agree r.code r'.code notes r.refusal r'.refusal (renumbered image r.code r'.code r.code_is r'.code_is) r.why r'.why)

pub loops_not_refused : (image : Image) (notes : List LoopNote) (one : Answer) → HasTree image notes → IsLoopRefused image notes one → ⊥
loops_not_refused image notes one h r = tree_is_not_refused h.code r.code notes h.tree r.refusal (renumbered image h.code r.code h.code_is r.code_is) h.code_is.flow h.tree_is r.why
