use Rattle.std.proofs.Common.{◌≡◌, ◌+◌, ◌∙◌, Bool, true, false, Some, sym, ap, arith, subst}
use Rattle.std.specs.Prelude.{◌&&◌, ◌||◌, nat_lt, nat_le}
use Rattle.scale_base.specs.Layout.{in_stack, in_text}
use Rattle.std.specs.List.{list_any}
use Rattle.scale_base.specs.Image.{is_in}
use Rattle.flat_memory.specs.Lists.{list_layout}
use Rattle.flat_memory.specs.Wholes.{BlocksAllow}
use Rattle.flat_memory.proofs.WholeLaws.{use_stack, use_text, use_blocks, all_in_stack, none_in_stack}
use Rattle.flat_memory.proofs.page_loading.whole_use.Goals as goal

pub returns-in-Some-false : goal.returns-in-Some-false
returns-in-Some-false c = λ k lt.
    let at = c.args.from + k in
    let says : c.text_whole-text.result ≡ Some false = c.in-Some-false.is ∙ ap (λ b. Some b) c.in-Some-false.field-0-test in
    let within : (in_stack c.args.from && in_stack (c.args.from + 4095)) ≡ true = sym c.is_within_stack.ensures ∙ c.if-is_within_stack.true in
    use_stack (list_layout c.args.list.now) at (all_in_stack c.args.from (c.args.from + 4095) at within (omega arith) (omega arith)) (ap (λ xs. list_any (is_in at) xs) (sym c.deref.ensures.value) ∙ c.text_whole-text.ensures at false says (omega arith) (omega arith))

pub returns-in-Some-true : goal.returns-in-Some-true
returns-in-Some-true c = λ k lt.
    let at = c.args.from + k in
    let says : c.text_whole-text.result ≡ Some true = c.in-Some-true.is ∙ ap (λ b. Some b) c.in-Some-true.field-0-test in
    let off : (nat_lt (c.args.from + 4095) 0x7FFC0000 || nat_le 0x80000000 c.args.from) ≡ true = cc in
    use_text (list_layout c.args.list.now) at (none_in_stack c.args.from (c.args.from + 4095) at off (omega arith) (omega arith)) (ap (λ xs. list_any (is_in at) xs) (sym c.deref.ensures.value) ∙ c.text_whole-text.ensures at true says (omega arith) (omega arith))

pub returns-in-Some-false-text : goal.returns-in-Some-false-text
returns-in-Some-false-text c = λ k lt.
    let at = c.args.from + k in
    let says : c.text_whole-text.result ≡ Some false = c.in-Some-false-text.is ∙ ap (λ b. Some b) c.in-Some-false-text.field-0-test in
    let off : (nat_lt (c.args.from + 4095) 0x7FFC0000 || nat_le 0x80000000 c.args.from) ≡ true = cc in
    use_blocks c.args.list.now at c.block_use.result (none_in_stack c.args.from (c.args.from + 4095) at off (omega arith) (omega arith)) (ap (λ xs. list_any (is_in at) xs) (sym c.deref.ensures.value) ∙ c.text_whole-text.ensures at false says (omega arith) (omega arith))
    (subst (λ bs. BlocksAllow bs at c.block_use.result) c.deref-in-Some-false-text.ensures.value (c.block_use.ensures at (omega arith) (omega arith)))
