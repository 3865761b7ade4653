use Rattle.std.proofs.Common.{◌*◌, ◌/◌, ap, ℕ, ◌^◌}
use Rattle.std.proofs.Math.Nat.{mod-add-mod}
use Rattle.image_maker.specs.Drawing.{next, drawn}
use Rattle.image_maker.proofs.draws.Draws.draw.Goals as goal

pub returns-clause-number : goal.returns-clause-number
unfolding next drawn
returns-clause-number c = ap (λ (x : ℕ). x / 2 ^ 33) (mod-add-mod (c.args.self.now.state * 6364136223846793005) (2 ^ 64) 1442695040888963407)

pub returns-clause-state : goal.returns-clause-state
unfolding next
returns-clause-state c = mod-add-mod (c.args.self.now.state * 6364136223846793005) (2 ^ 64) 1442695040888963407
