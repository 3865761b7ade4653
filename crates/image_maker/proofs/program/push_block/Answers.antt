use Rattle.std.proofs.Common.{◌≡◌, ℕ, ◌++◌, ◌%◌, ap, sym, ◌∙◌}
use Rattle.image_maker.specs.Drawing.{drawn, next}
use Rattle.image_maker.specs.Making.{made_block, kind}
use Rattle.image_maker.proofs.program.push_block.Goals as goal

pub returns-then-kind-eq2-clause-lines : goal.returns-then-kind-eq2-clause-lines
unfolding made_block
returns-then-kind-eq2-clause-lines c =
    let x = c.args.draws.now.state in
    let two : kind x ≡ 2 = ap (λ (n : ℕ). n % 4) (sym c.draw-kind.ensures.number) ∙ c.if-kind-eq2.true in
    c.in_ok-push_loop.ensures ∙ ap (λ (s : ℕ). c.args.lines.now.items ++ made_block c.args.k s (drawn (next x))) (sym two)
