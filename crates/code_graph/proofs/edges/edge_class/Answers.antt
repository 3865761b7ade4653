use Rattle.std.proofs.Common.{ap, sym, ◌∙◌}
use Rattle.code_text.specs.EdgeCosts.{class_by}
use Rattle.flow_graph.proofs.Laws.{instr_stored}
use Rattle.code_graph.proofs.edges.edge_class.Goals as goal

pub returns-in-Some : goal.returns-in-Some
returns-in-Some c =
    c.class_by.ensures ∙ ap (λ o. class_by o c.args.edge.now.kind)
    (sym (instr_stored c.args.view.now c.args.edge.now.at c.in-Some.word c.decode.result c.requires.image (sym c.word_at.ensures.value ∙ c.in-Some.is) c.decode.ensures.read))
