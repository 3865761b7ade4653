use Rattle.std.proofs.Common.{◌≡◌, Some, Ok}
use Rattle.pace_fit.proofs.Numbers.{image_made, proposal_tried}
use Rattle.pace_fit.proofs.trials.trial_of.Goals as goal

pub returns-in-Ok-Some : goal.returns-in-Ok-Some
returns-in-Ok-Some g c =
    let made = c.in-Ok-Some.made in
    let is : c.pace_useful.result ≡ Ok (Some c.in-Ok-Some.made) = (let a = c.in-Ok-Some.is in let b = c.in-Ok-Some.field-0-is in cc) in
    proposal_tried c.args.files.now c.args.proposal.now c.args.candidate c.trial_from.result made (image_made c.args.files.now c.args.proposal.now c.pace_useful.result made is c.pace_useful.ensures.given) c.trial_from.ensures
