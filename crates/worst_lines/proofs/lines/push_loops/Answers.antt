use Rattle.std.proofs.Common.{◌≡◌, ℕ, length, arith, subst}
use Rattle.worst_lines.specs.Kept.{AreLinesOf}
use Rattle.worst_lines.proofs.lines.push_loops.Goals as goal

pub loop-l-init : goal.loop-l-init
loop-l-init c = λ n are. are

pub loop-l-preserved : goal.loop-l-preserved
loop-l-preserved c = λ n are. c.in_ok-push_loop.ensures n (c.loop-l.invariant n are)

pub returns : goal.returns
returns c = λ n are.
    let all : c.loop-l.l ≡ length c.args.walked.now.tree.now.headers = omega arith in
    subst (λ (k : ℕ). AreLinesOf c.args.walked.now n k c.loop-l.lines.items) all (c.loop-l.invariant n are)
