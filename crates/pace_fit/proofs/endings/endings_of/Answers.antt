use Rattle.std.proofs.Common.{List, map, sym, ap, ◌∙◌}
use Rattle.std.specs.Prelude.{Vec, ℕ}
use Rattle.std.specs.declared.alloc.Global.{Global}
use Rattle.std.proofs.lemmas.List.{take_all}
use Rattle.pace_fit.specs.Endings.{ending_on}
use Rattle.pace_fit.proofs.Runs.{flags_over}
use Rattle.pace_fit.proofs.endings.endings_of.Goals as goal

pub returns-clause-endings : goal.returns-clause-endings
returns-clause-endings g c =
    c.loop-input.invariant.are
    ∙ (ap (λ (vs : List (Vec ℕ Global)). map (λ v. ending_on c.args.given.now.image.now c.args.given.now.machine.now c.args.given.now.loops.now v.items) vs) (take_all c.loop-input.input-index c.args.given.now.inputs.now c.loop-input-test.false)
    ∙ sym (flags_over (ending_on c.args.given.now.image.now c.args.given.now.machine.now c.args.given.now.loops.now) c.args.given.now.inputs.now))
