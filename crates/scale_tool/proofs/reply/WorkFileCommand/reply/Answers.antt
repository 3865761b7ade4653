use Rattle.host_runs.specs.Views.{files_view}
use Rattle.scale_tool.specs.Answer.{Makes}
use Rattle.scale_tool.specs.Views.{work_view}
use Rattle.scale_tool.proofs.Replies.{reply_may, told_as_given}
use Rattle.scale_tool.proofs.reply.WorkFileCommand.reply.Goals as goal

pub returns-clause-answer : goal.returns-clause-answer
returns-clause-answer g c =
    told_as_given (Makes (work_view c.args.self.now) (files_view c.args.files.now)) c.work_reply-given.result c.reply_of_given.result c.work_reply-given.ensures c.reply_of_given.ensures

pub returns-clause-status : goal.returns-clause-status
returns-clause-status g c =
    reply_may (work_view c.args.self.now) (files_view c.args.files.now) c.reply_of_given.result
    (told_as_given (Makes (work_view c.args.self.now) (files_view c.args.files.now)) c.work_reply-given.result c.reply_of_given.result c.work_reply-given.ensures c.reply_of_given.ensures)
