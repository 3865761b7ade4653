use Rattle.std.proofs.Common.{List, ◌++◌, ap, take_all, string_bytes, append-nil, sym, ◌∙◌}
use Rattle.std.specs.List.{flat_map}
use Rattle.plan_graphs.specs.declared.plan.DrawnBlock.{DrawnBlock}
use Rattle.plan_texts.specs.Dot.{calling_lines}
use Rattle.plan_texts.proofs.Lines.{lines-more}
use Rattle.plan_texts.proofs.dot.push_calling_blocks.Goals as goal

pub loop-block-init : goal.loop-block-init
loop-block-init c = sym (append-nil (string_bytes c.args.text.now))

pub loop-block-preserved : goal.loop-block-preserved
loop-block-preserved c =
    lines-more (calling_lines c.args.functions.now) (string_bytes c.args.text.now) (string_bytes c.loop-block.text) (string_bytes c.push_calling_lines.new.text) c.args.blocks.now c.loop-block.block-index c.block-item.result c.loop-block-test.true c.block-item.is c.in_ok-push_calling_lines.ensures c.loop-block.invariant

pub returns : goal.returns
returns c =
    c.loop-block.invariant
    ∙ ap (λ (xs : List DrawnBlock). string_bytes c.args.text.now ++ flat_map (calling_lines c.args.functions.now) xs) (take_all c.loop-block.block-index c.args.blocks.now c.loop-block-test.false)
