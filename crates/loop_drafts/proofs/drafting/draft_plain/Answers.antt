use Rattle.std.proofs.Common.{inl, inr}
use Rattle.std.proofs.lemmas.Result.{err_from_is_err_and}
use Rattle.code_text.specs.Text.{text_of}
use Rattle.flow_graph.specs.FlowGraph.{FlowGraph}
use Rattle.code_graph.specs.Building.{IsBuilt}
use Rattle.loop_drafts.specs.declared.drafted.LoopDraft.{LoopDraft}
use Rattle.loop_drafts.specs.Drafted.{IsGraphDrafted, IsDraftedImage}
use Rattle.loop_drafts.proofs.Stopping.{stops_by, answers_by}
use Rattle.loop_drafts.proofs.drafting.draft_plain.Goals as goal

pub returns-in_err-graph-clause-drafted : goal.returns-in_err-graph-clause-drafted
returns-in_err-graph-clause-drafted g c =
    let p = err_from_is_err_and c.from_residual.result c.from_residual.ensures.1 in
    rw (p.1, p.2) (stops_by (λ (draft : LoopDraft). draft) (λ (graph : FlowGraph). graph) c.in_err-graph.field-0.0 (IsDraftedImage c.args.view.now c.args.inputs.now.most) (IsBuilt (text_of c.args.view.now)) c.in_err-graph.ensures
    (λ r h. inr (c.requires, inl h)))

pub returns-clause-drafted : goal.returns-clause-drafted
returns-clause-drafted g c =
    answers_by (λ (draft : LoopDraft). draft) c.draft_graph.result (IsDraftedImage c.args.view.now c.args.inputs.now.most) (IsGraphDrafted c.args.view.now c.args.inputs.now.most c.in_ok-graph.graph) c.draft_graph.ensures.drafted (λ x h. (c.requires, h))
    (λ r h. inr (c.requires, inr (c.in_ok-graph.graph, c.in_ok-graph.ensures, h)))
