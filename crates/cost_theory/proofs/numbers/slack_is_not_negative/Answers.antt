use Rattle.cost_theory.specs.Worst.{cost}
use Rattle.cost_theory.proofs.Slack.{slack-le}
use Rattle.cost_theory.proofs.Nesting.{entered_at_headers, accepted_entered}
use Rattle.cost_theory.proofs.numbers.slack_is_not_negative.Goals as goal

pub returns : goal.returns
returns c = λ g l extent w n is e lt. slack-le g l (cost g n w) n is.numbers.loops (entered_at_headers g l extent is.program (accepted_entered is.accepted)) e lt
