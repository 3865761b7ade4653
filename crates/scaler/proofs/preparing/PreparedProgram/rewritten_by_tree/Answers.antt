use Rattle.std.proofs.Common.{List, sym, subst}
use Rattle.loop_file.specs.declared.notes.LoopNote.{LoopNote}
use Rattle.power_model.specs.Numbers.{PowerModel, IsPowerModel}
use Rattle.marked_images.proofs.Laws.{HoldAnswers}
use Rattle.scaler.specs.Prepared.{IsReady}
use Rattle.scaler.specs.Rewritten.{IsRewrittenProgram}
use Rattle.scaler.proofs.Gains.{model_with}
use Rattle.scaler.proofs.preparing.PreparedProgram.rewritten_by_tree.Goals as goal

pub rewrite_looped-looped-requires-clause-power : goal.rewrite_looped-looped-requires-clause-power
rewrite_looped-looped-requires-clause-power c = subst IsPowerModel (sym c.with_gain-power.ensures) (model_with c.args.self.power c.args.min_gain c.requires.power)

pub rewrite_looped-looped-requires-clause-ready : goal.rewrite_looped-looped-requires-clause-ready
rewrite_looped-looped-requires-clause-ready c =
    let p = c.args.self in
    (c.requires.ready.0, subst (λ (q : PowerModel). IsReady q p.view c.requires.ready.0 (record { graph = p.program.graph; tree = p.program.tree }) p.program.worst) (sym c.with_gain-power.ensures) c.requires.ready.1)

pub returns-clause-given : goal.returns-clause-given
returns-clause-given c = λ notes h.
    let p = c.args.self in
    subst (λ (q : PowerModel). HoldAnswers c.rewrite_looped-looped.result.1 (IsRewrittenProgram q p.view notes)) c.with_gain-power.ensures
    (c.rewrite_looped-looped.ensures.given notes (subst (λ (q : PowerModel). IsReady q p.view notes (record { graph = p.program.graph; tree = p.program.tree }) p.program.worst) (sym c.with_gain-power.ensures) h))
