use Rattle.std.proofs.lemmas.Result.{IfOk-weaker}
use Rattle.split_images.proofs.Made.{made_by}
use Rattle.split_images.proofs.splitting.made_of.Goals as goal

pub returns-in-Some : goal.returns-in-Some
returns-in-Some c = IfOk-weaker c.versioned.result _ _ (λ given h. made_by c.args.view.now _ _ given h) c.versioned.ensures.made
