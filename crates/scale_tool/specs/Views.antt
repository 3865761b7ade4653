-- Scaffold: what the program's values stand for.
use Rattle.std.specs.Prelude.{List, option_map}
use Rattle.scale_base.specs.declared.plan.ScalePlan.{ScalePlan}
use Rattle.scale_base.specs.declared.plan.SiteLine.{SiteLine}
use Rattle.scale_base.specs.declared.summary.Summary.{Summary}
use Rattle.image_maker.specs.declared.maker.Made.{Made}
use Rattle.scale_tool.specs.declared.command.Command.{Command as Parsed}
use Rattle.scale_tool.specs.declared.command.Command.TheVariants.{Help as ParsedHelp, Work as ParsedWork}
use Rattle.scale_tool.specs.declared.command.Work.{Work}
use Rattle.scale_tool.specs.declared.command.Work.TheVariants.{Hold as ParsedHold, Rewrite as ParsedRewrite, Report as ParsedReport, Simulate as ParsedSimulate, Make as ParsedMake, Lower as ParsedLower, Check as ParsedCheck, Survey as ParsedSurvey, Tune as ParsedTune}
use Rattle.scale_tool.specs.Answer.{MadeFiles}
use Rattle.scale_tool.specs.Command.{Command, Help, Hold, Rewrite, Report, Simulate, Make, Lower, Check, Survey, Tune, texts}

abbrev pub work_view : Work → Command
work_view (ParsedHold image machine loops out) = Hold image.now machine.now loops.now out.now
work_view (ParsedRewrite image machine loops out) = Rewrite image.now machine.now loops.now out.now
work_view (ParsedReport image machine loops) = Report image.now machine.now loops.now
work_view (ParsedSimulate image machine input out loops) = Simulate image.now machine.now input.now out.now (option_map (λ l. l.now) loops)
work_view (ParsedMake number size prefix) = Make number size.blocks prefix.now
work_view (ParsedLower image jumps out) = Lower image.now jumps.now out.now
work_view (ParsedCheck image foreign machine loops) = Check image.now foreign.now machine.now loops.now
work_view (ParsedSurvey image scaled machine loops inputs) = Survey image.now scaled.now machine.now loops.now (texts inputs.names.now)
work_view (ParsedTune image machine loops out inputs) = Tune image.now machine.now loops.now out.now (texts inputs.names.now)

abbrev pub command_view : Parsed → Command
command_view ParsedHelp = Help
command_view (ParsedWork work) = work_view work

-- a summary and its lines
abbrev pub plan_view : ScalePlan → Summary × List SiteLine
plan_view plan = (plan.summary, plan.lines.items)

abbrev pub made_view : Made → MadeFiles
made_view made = record { image = made.image.items; machine = made.machine.items; loops = made.loops.items; input = made.input.items }
