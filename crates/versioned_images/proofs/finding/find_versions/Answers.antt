use Rattle.std.proofs.Common.{List, ℕ, All, subst, IfOk}
use Rattle.versioned_images.specs.Versions.{IsVersionOf}
use Rattle.versioned_images.proofs.Parts.{file_of_image}
use Rattle.versioned_images.proofs.finding.find_versions.Goals as goal

pub returns-in-Ok-clause-found : goal.returns-in-Ok-clause-found
returns-in-Ok-clause-found c =
    let same = file_of_image c.args.image.now c.in-Ok.view c.in-Ok.ensures in
    subst (λ (file : List ℕ). IfOk c.versions_in.result (λ found. All (IsVersionOf file) found.items)) same c.versions_in.ensures.found
