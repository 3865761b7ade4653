use Rattle.power_model.proofs.PairTables.{pairs-hold, one-taken}
use Rattle.power_model.proofs.pair_law.Goals as goal

pub returns-clause-pairs : goal.returns-clause-pairs
returns-clause-pairs c = λ f i l row column. pairs-hold f i l row column

pub returns-clause-one : goal.returns-clause-one
returns-clause-one c = λ power n i l is row column apart. one-taken power n i l is row column apart
