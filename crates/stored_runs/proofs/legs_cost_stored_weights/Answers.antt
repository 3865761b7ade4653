use Rattle.stored_runs.proofs.LegLaws.{cost_of_legs, text_of_legs, short_legs, long_legs}
use Rattle.stored_runs.proofs.legs_cost_stored_weights.Goals as goal

pub returns-clause-cost : goal.returns-clause-cost
returns-clause-cost c = cost_of_legs

pub returns-clause-text : goal.returns-clause-text
returns-clause-text c = text_of_legs

pub returns-clause-short : goal.returns-clause-short
returns-clause-short c = short_legs

pub returns-clause-long : goal.returns-clause-long
returns-clause-long c = long_legs
