use Rattle.run_pictures.proofs.PlaceFacts.{widths}
use Rattle.run_pictures.proofs.RunFacts.{runs_simulated, refusals_simulated}
use Rattle.run_pictures.proofs.pictures_are_of_runs.Goals as goal

pub returns : goal.returns
returns c = record { reports = runs_simulated; refusals = refusals_simulated; widths = widths }
