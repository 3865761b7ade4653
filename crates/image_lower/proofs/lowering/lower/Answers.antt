use Rattle.std.proofs.Common.{◌<◌, ◌^◌, List, ℕ, arith}
use Rattle.std.specs.Prelude.{All}
use Rattle.std.proofs.lemmas.List.{get_or_default}
use Rattle.image_lower.proofs.SafeLowered.{safe_given}
use Rattle.image_lower.proofs.lowering.lower.Goals as goal

pub returns-clause-safe : goal.returns-clause-safe
returns-clause-safe c =
    let image : List ℕ = c.args.image.now in
    let bytes : All (λ b. b < 2 ^ 8) image = λ k d lt. let fit = c.type_inv.image k in let same = get_or_default image k d 0 lt in omega (arith, fit, same) in
    safe_given image c.args.jumps.now c.lower_files.result c.requires bytes c.lower_files.ensures
