use Rattle.std.proofs.Common.{ℕ, ap, ◌∙◌}
use Rattle.std.specs.Prelude.{Vec}
use Rattle.std.specs.declared.alloc.Global.{Global}
use Rattle.std.proofs.lemmas.Result.{err_from_is_err_and}
use Rattle.plan_graphs.specs.declared.plan.PlanGraph.{PlanGraph}
use Rattle.plan_graphs.specs.Program.{IsPlanDrawn}
use Rattle.plan_texts.specs.Counts.{plan_text}
use Rattle.pace_tool.specs.Drawn.{DrawsPlan}
use Rattle.pace_tool.specs.Told.{FileOf, written_view}
use Rattle.pace_tool.proofs.Told.{stopped}
use Rattle.pace_tool.proofs.draw_plan.drawn.Goals as goal

pub returns-in_err-plan : goal.returns-in_err-plan
returns-in_err-plan c =
    let p = err_from_is_err_and c.from_residual.result c.from_residual.ensures.1 in
    rw (p.1, p.2) (stopped (λ (x : PlanGraph). x) written_view c.in_err-plan.field-0.0 (IsPlanDrawn c.args.files.now.image.now c.args.files.now.machine.now c.args.files.now.loops.now)
    (FileOf (DrawsPlan c.args.files.now.image.now c.args.files.now.machine.now c.args.files.now.loops.now) plan_text) c.in_err-plan.ensures (λ r h. h))

pub returns : goal.returns
returns c = (c.in_ok-plan.plan, (c.in_ok-plan.ensures, ap (λ (v : Vec ℕ Global). v.items) c.into_bytes.ensures.value ∙ c.in_ok-file.ensures), c.in_ok-text.ensures)
