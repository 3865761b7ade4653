use Rattle.scale_tool.proofs.Promises.{answered_keep_promise, stored_keep_promise}
use Rattle.scale_tool.proofs.Statuses.{given_not_four}
use Rattle.scale_tool.specs.Command.{command_of, texts}
use Rattle.scale_tool.proofs.tool.run_tool_with_progress.Goals as goal

pub returns-in-Ok-clause-promise : goal.returns-in-Ok-clause-promise
returns-in-Ok-clause-promise g c = λ done three four. answered_keep_promise c.args.words.now c.in-Ok.status (g.H.Host.state c.args.host.now) (g.H.Host.state c.run.new.host) c.in-Ok.ensures.ends done

pub returns-in-Ok-clause-promise_behind_a_fault : goal.returns-in-Ok-clause-promise_behind_a_fault
returns-in-Ok-clause-promise_behind_a_fault g c = stored_keep_promise c.args.words.now (g.H.Host.state c.args.host.now) (g.H.Host.state c.run.new.host)

pub returns-in-Err-Failed-clause-promise_behind_a_fault : goal.returns-in-Err-Failed-clause-promise_behind_a_fault
returns-in-Err-Failed-clause-promise_behind_a_fault g c = stored_keep_promise c.args.words.now (g.H.Host.state c.args.host.now) (g.H.Host.state c.run.new.host)

pub returns-in-Err-OutOfMemory-clause-promise_behind_a_fault : goal.returns-in-Err-OutOfMemory-clause-promise_behind_a_fault
returns-in-Err-OutOfMemory-clause-promise_behind_a_fault g c = stored_keep_promise c.args.words.now (g.H.Host.state c.args.host.now) (g.H.Host.state c.run.new.host)

pub returns-in-Ok-clause-memory : goal.returns-in-Ok-clause-memory
returns-in-Ok-clause-memory g c = λ four. absurd (given_not_four (command_of (texts c.args.words.now)) c.in-Ok.status c.in-Ok.ensures.may four)
