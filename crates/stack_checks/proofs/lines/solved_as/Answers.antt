use Rattle.std.proofs.Common.{◌∙◌, ap, sym, Option, Some}
use Rattle.bound_laws.specs.Registers.{Measure}
use Rattle.bound_laws.specs.Values.{Arc, solved, sum_with}
use Rattle.stack_checks.specs.Checked.{from, values_along}
use Rattle.stack_checks.proofs.lines.solved_as.Goals as goal

pub returns-clause-solved : goal.returns-clause-solved
returns-clause-solved c =
    let f : Measure = (values_along c.args.way.now).forms c.args.j in
    let line : Option Arc = sum_with ((values_along c.args.way.now).lines (from c.args.way.now) c.args.j) c.args.adds in
    c.solved.ensures.solved
    ∙ (ap (λ (x : Measure). solved x c.line_more-sum.result (Some c.args.other)) c.form.ensures.form
    ∙ (ap (λ (x : Option Arc). solved f x (Some c.args.other)) c.line_more-sum.ensures.sum
    ∙ ap (λ (x : Option Arc). solved f line x) (sym c.requires.other)))
