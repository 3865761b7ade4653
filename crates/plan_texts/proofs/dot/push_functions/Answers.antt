use Rattle.std.proofs.Common.{List, ◌++◌, ap, take_all, string_bytes, append-nil, sym, ◌∙◌}
use Rattle.std.specs.List.{flat_map}
use Rattle.plan_graphs.specs.declared.plan.DrawnFunction.{DrawnFunction}
use Rattle.plan_texts.specs.Dot.{function_line}
use Rattle.plan_texts.proofs.Lines.{lines-more}
use Rattle.plan_texts.proofs.dot.push_functions.Goals as goal

pub loop-function-init : goal.loop-function-init
loop-function-init c = sym (append-nil (string_bytes c.args.text.now))

pub loop-function-preserved : goal.loop-function-preserved
loop-function-preserved c =
    lines-more function_line (string_bytes c.args.text.now) (string_bytes c.loop-function.text) (string_bytes c.push_function.new.text) c.args.functions.now c.loop-function.function-index c.function-item.result c.loop-function-test.true c.function-item.is c.in_ok-push_function.ensures c.loop-function.invariant

pub returns : goal.returns
returns c =
    c.loop-function.invariant
    ∙ ap (λ (xs : List DrawnFunction). string_bytes c.args.text.now ++ flat_map function_line xs) (take_all c.loop-function.function-index c.args.functions.now c.loop-function-test.false)
