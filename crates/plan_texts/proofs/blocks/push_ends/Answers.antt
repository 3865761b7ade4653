use Rattle.std.proofs.Common.{List, ℕ, ◌++◌, ap, take_all, string_bytes, append-nil, sym, ◌∙◌}
use Rattle.std.specs.List.{flat_map}
use Rattle.plan_graphs.specs.declared.plan.DrawnEdge.{DrawnEdge}
use Rattle.plan_texts.specs.Words.{end_line}
use Rattle.plan_texts.proofs.Lines.{lines-more}
use Rattle.plan_texts.proofs.blocks.push_ends.Goals as goal

pub loop-edge-init : goal.loop-edge-init
loop-edge-init c = sym (append-nil (string_bytes c.args.text.now))

pub loop-edge-preserved : goal.loop-edge-preserved
loop-edge-preserved c =
    lines-more (λ (e : DrawnEdge). end_line e.leads) (string_bytes c.args.text.now) (string_bytes c.loop-edge.text) (string_bytes c.push_str.new.self) c.args.edges.now c.loop-edge.edge-index c.edge-item.result c.loop-edge-test.true c.edge-item.is (c.in_ok-push_str.ensures.bytes ∙ ap (λ (more : List ℕ). string_bytes c.loop-edge.text ++ more) c.end_line.ensures) c.loop-edge.invariant

pub returns : goal.returns
returns c =
    c.loop-edge.invariant
    ∙ ap (λ (xs : List DrawnEdge). string_bytes c.args.text.now ++ flat_map (λ (e : DrawnEdge). end_line e.leads) xs) (take_all c.loop-edge.edge-index c.args.edges.now c.loop-edge-test.false)
