use Rattle.std.proofs.Common.{List, map, sym, ap, ◌∙◌}
use Rattle.scale_base.specs.declared.fragments.Mark.{Mark}
use Rattle.scale_sites.specs.Counters.{counted_loops}
use Rattle.plan_graphs.specs.Drawn.{drawn_mark}
use Rattle.plan_graphs.proofs.edges.draw_edge.Goals as goal

pub returns : goal.returns
returns c = λ told holds. record {
  edge = c.edge.ensures;
  leads = c.leads_of.ensures;
  left = c.left_of.ensures told holds;
  marks = c.in_ok-marks.ensures ∙ ap (λ (ms : List Mark). map (drawn_mark (counted_loops c.args.sketch.now.tree.now)) ms) (sym (holds.marks c.args.e));
  taken = c.taken_of.ensures ∙ sym (holds.taken c.args.e);
}
