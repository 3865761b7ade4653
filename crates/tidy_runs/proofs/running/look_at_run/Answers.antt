use Rattle.stack_tables.specs.Tables.{claim_stacks, claim_values}
use Rattle.tidy_runs.proofs.Levels.{tidy_from, broken_from}
use Rattle.tidy_runs.proofs.running.look_at_run.Goals as goal

pub returns-clause-tidy : goal.returns-clause-tidy
returns-clause-tidy c levels =
    tidy_from c.args.claim.now.view.now c.requires.plain levels c.args.input.now _ _ c.in_ok-machine.ensures.setting c.in_ok-machine.ensures.state
    (claim_values c.args.claim.now) (claim_stacks c.args.claim.now) c.look_along.result.steps c.look_along.ensures.tidy

pub returns-clause-ended : goal.returns-clause-ended
returns-clause-ended c levels n ended =
    tidy_from c.args.claim.now.view.now c.requires.plain levels c.args.input.now _ _ c.in_ok-machine.ensures.setting c.in_ok-machine.ensures.state
    (claim_values c.args.claim.now) (claim_stacks c.args.claim.now) n (c.look_along.ensures.ended ended n)

pub returns-clause-broken : goal.returns-clause-broken
returns-clause-broken c levels =
    broken_from c.args.claim.now.view.now c.requires.plain levels c.args.input.now _ _ c.in_ok-machine.ensures.setting c.in_ok-machine.ensures.state
    (claim_stacks c.args.claim.now) c.look_along.result.steps c.look_along.result.broken c.look_along.ensures.broken
