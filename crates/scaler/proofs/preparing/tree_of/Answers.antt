use Rattle.std.proofs.Common.{List, subst}
use Rattle.loop_file.specs.declared.notes.LoopNote.{LoopNote}
use Rattle.loop_forest.specs.Tree.{IsTreeRefusal}
use Rattle.scaler.proofs.Uncounted.{not_refused}
use Rattle.scaler.proofs.preparing.tree_of.Goals as goal

pub unreachable-requires : goal.unreachable-requires
unreachable-requires c =
    let t = c.requires.tree in
    let refusal = c.in-Err-Refused.field-0-0 in
    not_refused c.args.graph.now t.0 t.1 t.2 c.requires.flow.0 c.requires.flow.1 refusal
    (subst (λ (notes : List LoopNote). IsTreeRefusal c.args.graph.now notes refusal) t.3 (rw c.in-Err-Refused.field-0-is at c.in-Err-Refused.ensures))
