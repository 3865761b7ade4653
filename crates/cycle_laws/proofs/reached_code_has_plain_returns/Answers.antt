use Rattle.cycle_laws.proofs.PlainReturns.{plain_returns}
use Rattle.cycle_laws.proofs.reached_code_has_plain_returns.Goals as goal

pub returns : goal.returns
returns c = plain_returns
