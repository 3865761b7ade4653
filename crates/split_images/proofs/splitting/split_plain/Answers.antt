use Rattle.std.proofs.Common.{inr}
use Rattle.std.proofs.lemmas.Result.{err_from_is_err_and}
use Rattle.code_text.specs.Text.{text_of}
use Rattle.flow_graph.specs.FlowGraph.{FlowGraph}
use Rattle.code_graph.specs.Building.{IsBuilt}
use Rattle.split_images.specs.Splits.{IsImageSplit, split_view}
use Rattle.split_images.proofs.Stopping.{stops_by}
use Rattle.split_images.proofs.splitting.split_plain.Goals as goal

pub returns-in_err-graph : goal.returns-in_err-graph
returns-in_err-graph c =
    let p = err_from_is_err_and c.from_residual.result c.from_residual.ensures.1 in
    rw (p.1, p.2) (stops_by split_view (λ (graph : FlowGraph). graph) c.in_err-graph.field-0.0 (IsImageSplit c.args.view.now) (IsBuilt (text_of c.args.view.now)) c.in_err-graph.ensures
    (λ r h. inr (c.requires, h)))
