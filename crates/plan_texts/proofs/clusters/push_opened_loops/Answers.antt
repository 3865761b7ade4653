use Rattle.std.proofs.Common.{List, ℕ, ◌++◌, ap, take_all, string_bytes, append-nil, sym, ◌∙◌}
use Rattle.std.specs.List.{flat_map}
use Rattle.plan_texts.specs.Words.{opened_loop}
use Rattle.plan_texts.proofs.Lines.{copies-more}
use Rattle.plan_texts.proofs.clusters.push_opened_loops.Goals as goal

pub loop-l-init : goal.loop-l-init
loop-l-init c = sym (append-nil (string_bytes c.args.text.now))

pub loop-l-preserved : goal.loop-l-preserved
loop-l-preserved c =
    copies-more opened_loop (string_bytes c.args.text.now) (string_bytes c.loop-l.text) (string_bytes c.push_opened_loop.new.text) c.args.around.now c.loop-l.l-index _ c.loop-l-test.true c.in_ok-push_opened_loop.ensures c.loop-l.invariant

pub returns : goal.returns
returns c =
    c.loop-l.invariant
    ∙ ap (λ (xs : List ℕ). string_bytes c.args.text.now ++ flat_map opened_loop xs) (take_all c.loop-l.l-index c.args.around.now c.loop-l-test.false)
