use Rattle.machine_laws.proofs.Ranges.{text_ranges_kept}
use Rattle.machine_laws.proofs.texts.text_ranges_are_aligned.Goals as goal

pub returns-clause-first : goal.returns-clause-first
returns-clause-first c = λ file image e k d h. (text_ranges_kept file image e k d h).first

pub returns-clause-last : goal.returns-clause-last
returns-clause-last c = λ file image e k d h. (text_ranges_kept file image e k d h).last

pub returns-clause-nonempty : goal.returns-clause-nonempty
returns-clause-nonempty c = λ file image e k d h. (text_ranges_kept file image e k d h).nonempty

pub returns-clause-below : goal.returns-clause-below
returns-clause-below c = λ file image e k d h. (text_ranges_kept file image e k d h).below
