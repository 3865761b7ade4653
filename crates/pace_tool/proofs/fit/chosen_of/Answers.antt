use Rattle.std.proofs.Common.{ap, ◌∙◌, List, length, arith}
use Rattle.pace_fit.specs.declared.endings.Ending.{Ending}
use Rattle.pace_tool.specs.Texts.{fitted_text}
use Rattle.host_runs.specs.Views.{files_view}
use Rattle.pace_tool.proofs.Given.{endings_count, fit_told}
use Rattle.pace_tool.proofs.fit.chosen_of.Goals as goal

pub fitted_text-requires : goal.fitted_text-requires
fitted_text-requires g c =
    let files = c.args.order.now.files in
    let count = ap length c.deref.ensures.value ∙ endings_count files.image.now files.machine.now files.loops.now c.args.order.now.inputs.items.now c.args.prepared.now.endings.items c.requires.prepared.endings in
    let few = c.args.order.now.inputs.few in omega (arith, count, few)

pub returns : goal.returns
returns g c =
    let files = c.args.order.now.files in
    fit_told files.image.now files.machine.now files.loops.now (files_view c.args.order.now.inputs.items.now) c.args.order.now.out.now c.args.proposals.now c.args.prepared.now.endings.items c.in_ok-given.given.0.items _ c.in_ok-given.given.1 c.of_file.result
    c.in_ok-given.ensures.fitted c.in_ok-given.ensures.saves c.in_ok-given.ensures.safe c.requires.prepared.endings (c.in_ok-text.ensures ∙ ap (λ (endings : List Ending). fitted_text endings c.args.proposals.now c.in_ok-given.given.1) c.deref.ensures.value) c.of_file.ensures
