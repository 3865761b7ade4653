use Rattle.stored_runs.proofs.Ways.{patch_does}
use Rattle.stored_runs.proofs.BlockLaws.{block_stands}
use Rattle.stored_runs.proofs.stub_steps.block_in_place.Goals as goal

pub returns-clause-block : goal.returns-clause-block
returns-clause-block c = block_stands

pub returns-clause-patch : goal.returns-clause-patch
returns-clause-patch c = patch_does
