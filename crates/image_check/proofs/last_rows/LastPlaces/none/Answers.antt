use Rattle.std.proofs.Common.{refl}
use Rattle.image_check.proofs.LastLaws.{none_before}
use Rattle.image_check.proofs.last_rows.LastPlaces.none.Goals as goal

pub returns : goal.returns
returns c = λ words. none_before words _ refl
