use Rattle.std.proofs.Common.{Option, subst}
use Rattle.scale_tool.specs.Command.{Command}
use Rattle.scale_tool.specs.Tool.{Ends}
use Rattle.scale_tool.proofs.tool.run.Goals as goal

pub returns-in-Some-Work-clause-ends : goal.returns-in-Some-Work-clause-ends
returns-in-Some-Work-clause-ends g c =
    subst (λ (asked : Option Command). Ends asked c.run_command.result (g.H.Host.state c.args.host.now) (g.H.Host.state c.run_command.new.host)) (rw c.in-Some-Work.field-0-is at c.in-Some-Work.ensures) c.run_command.ensures.ends
