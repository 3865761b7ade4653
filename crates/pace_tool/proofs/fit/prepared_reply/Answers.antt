use Rattle.std.proofs.Common.{◌≤◌, List, length, subst, sym, ap, ◌∙◌, arith}
use Rattle.paced_images.specs.declared.proposal.Proposal.{Proposal}
use Rattle.host_runs.specs.Views.{files_view}
use Rattle.pace_tool.proofs.Given.{endings_count, of_some}
use Rattle.pace_tool.proofs.fit.prepared_reply.Goals as goal

pub proposals_of-requires-clause-endings : goal.proposals_of-requires-clause-endings
proposals_of-requires-clause-endings g c =
    let files = c.args.order.now.files in
    ap length c.deref.ensures.value ∙ endings_count files.image.now files.machine.now files.loops.now c.args.order.now.inputs.items.now c.args.prepared.now.endings.items c.requires.endings

pub returns : goal.returns
returns g c =
    let files = c.args.order.now.files in
    let ten : length c.deref-2.result.now ≤ 10 = subst (λ (proposals : List Proposal). length proposals ≤ 10) (sym c.deref-2.ensures.value) c.in_ok-proposals.ensures in
    of_some files.image.now files.machine.now files.loops.now (files_view c.args.order.now.inputs.items.now) c.args.order.now.out.now _ c.chosen_of.result (omega (arith, ten)) c.chosen_of.ensures
