use Rattle.std.proofs.Common.{◌≡◌, ◌+◌, [], ◌∷◌, ◌++◌, Vec, Global, sym, ap, ◌∙◌, subst}
use Rattle.std.specs.List.{filter, range_with_len}
use Rattle.level_reasons.specs.declared.shown.EdgeLine.{EdgeLine}
use Rattle.level_reasons.specs.Reasons.{IsEdgeLine, AreLinesOf, has_line}
use Rattle.level_reasons.proofs.EdgeFacts.{line_test, line_is}
use Rattle.level_reasons.proofs.Lines.{passed_more, failed_more}
use Rattle.level_reasons.proofs.edges.edge_lines.Goals as goal
use Rattle.level_reasons.proofs.edges.edge_lines.Goals.{then-has_line+in_ok-push, else-has_line}

pub loop-e-preserved : goal.loop-e-preserved
loop-e-preserved c = λ n holds.
    let power = c.args.program.now.power.now in
    let v = c.args.program.now.graph.now in
    let start = c.args.program.now.start in
    let told : c.told_at-told.result ≡ n.told c.loop-e.e = c.told_at-told.ensures.told n holds in
    let test : has_line v n.told c.loop-e.e ≡ c.has_line.result = line_test v n.told c.loop-e.e c.edge-edge.result c.told_at-told.result c.has_line.result c.edge-edge.ensures told c.has_line.ensures in
    elim c.if-has_line.branch [
      | then-has_line+in_ok-push w ↦
          let line : EdgeLine = record { edge = c.edge-edge.result; slack = c.told_at-told.result.slack; reason = w.edge_reason-reason.result } in
          let items : c.if-has_line.lines.items ≡ c.loop-e.lines.items ++ line ∷ [] = ap (λ (x : Vec EdgeLine Global). x.items) w.lines-is ∙ w.in_ok-push.ensures.items in
          passed_more (IsEdgeLine power v n start) (has_line v n.told) c.loop-e.e c.loop-e.lines.items c.if-has_line.lines.items line items (test ∙ w.if-has_line.true) (c.loop-e.invariant n holds)
          (line_is power v n start c.loop-e.e c.edge-edge.result c.told_at-told.result w.edge_reason-reason.result c.edge-edge.ensures told w.edge_reason-reason.ensures)
      | else-has_line w ↦
          subst (AreLinesOf (IsEdgeLine power v n start) (filter (has_line v n.told) (range_with_len 0 (c.loop-e.e + 1)))) (sym (ap (λ (x : Vec EdgeLine Global). x.items) w.lines-is))
          (failed_more (IsEdgeLine power v n start) (has_line v n.told) c.loop-e.e c.loop-e.lines.items (test ∙ w.if-has_line.false) (c.loop-e.invariant n holds))
    ]
