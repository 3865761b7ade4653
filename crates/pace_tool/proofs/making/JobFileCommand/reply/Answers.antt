use Rattle.host_runs.specs.Views.{files_view}
use Rattle.pace_tool.specs.Views.{command_view}
use Rattle.pace_tool.proofs.OneStatus.{may_give_status}
use Rattle.pace_tool.proofs.making.JobFileCommand.reply.Goals as goal

pub returns-clause-status : goal.returns-clause-status
returns-clause-status g c = may_give_status (command_view c.args.self.now) (files_view c.args.files.now) c.made_of.result c.made_of.ensures
