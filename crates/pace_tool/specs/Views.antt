-- What the program's values stand for.
use Rattle.std.specs.Prelude.{ℕ, List, map}
use Rattle.std.specs.Borrow.{Bor}
use Rattle.host_runs.specs.declared.loading.Want.{Want}
use Rattle.loop_drafts.specs.declared.drafted.LoopDraft.{LoopDraft}
use Rattle.loop_drafts.specs.Pieces.{printed}
use Rattle.pace_tool.specs.declared.command.Fit.{Fit as ParsedFit}
use Rattle.pace_tool.specs.declared.command.InOne.{InOne as ParsedInOne}
use Rattle.pace_tool.specs.declared.command.Job.{Job}
use Rattle.pace_tool.specs.declared.command.Job.TheVariants as job
use Rattle.pace_tool.specs.Command.{Command, Fit, FitVersions, Show, Loops, Explain, DrawRun, DrawPlan, Jumps, Split, InOne}

-- words as texts
abbrev pub texts : List (Bor (List ℕ)) → List (List ℕ)
texts words = map (λ word. word.now) words

abbrev pub want_view : Want → List ℕ × ℕ
want_view want = (want.name.now, want.limit)

abbrev pub fit_view : ParsedFit → Command
fit_view fit = Fit fit.program.image.now fit.program.machine.now fit.program.loops.now fit.out.now (texts fit.inputs.names.now)

abbrev pub versions_view : ParsedFit → Command
versions_view fit = FitVersions fit.program.image.now fit.program.machine.now fit.program.loops.now fit.out.now (texts fit.inputs.names.now)

abbrev pub in_one_view : ParsedInOne → Command
in_one_view command =
    InOne command.image.now command.machine.now command.out.now command.versions command.limit.most (texts command.inputs.names.now)

abbrev pub command_view : Job → Command
command_view (job.Fit fit) = fit_view fit
command_view (job.FitVersions fit) = versions_view fit
command_view (job.Show program) = Show program.image.now program.machine.now program.loops.now
command_view (job.Loops loops) = Loops loops.image.now loops.out.now loops.limit.most loops.trusts (texts loops.inputs.names.now)
command_view (job.Explain program) = Explain program.image.now program.machine.now program.loops.now
command_view (job.DrawRun draw) = DrawRun draw.machine.now draw.out.now (texts draw.names.now)
command_view (job.DrawPlan draw) = DrawPlan draw.program.image.now draw.program.machine.now draw.program.loops.now draw.out.now
command_view (job.Jumps jumps) = Jumps jumps.image.now jumps.out.now
command_view (job.Split split) = Split split.image.now split.out.now
command_view (job.InOne command) = in_one_view command

-- the file of a draft as it is printed, and the draft
abbrev pub draft_view : LoopDraft → List ℕ × LoopDraft
draft_view draft = (printed draft.pieces.items, draft)
