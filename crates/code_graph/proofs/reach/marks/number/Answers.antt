use Rattle.std.proofs.Common.{◌≡◌, ◌<◌, length, sym, ◌∙◌, subst, arith, slice_set, Some, None, ◌++◌, ◌∷◌, []}
use Rattle.code_graph.specs.Marks.{function_number, IsMarkPass}
use Rattle.code_graph.proofs.MarkLaws.{number_pass, number_same}
use Rattle.code_graph.proofs.reach.marks.number.Goals as goal

pub returns-clause-pass : goal.returns-clause-pass
returns-clause-pass c =
    let m = c.args.marking.now in
    let lt : c.args.h < length c.args.marking.now.numbers.items = omega (arith, c.requires.pass.numbers_size, c.requires.within) in
    let none : function_number c.args.marking.now.numbers.items c.args.h ≡ None = sym (number_same c.args.marking.now.numbers.items c.args.h c.index-old.result.now None lt) ∙ sym c.index-old.ensures ∙ c.in_default.is in
    let len : c.len.result ≡ length c.args.marking.now.functions.items = omega (arith, c.len.ensures, c.args.marking.now.functions.ok.0) in
    subst (λ q. IsMarkPass c.args.program.now.steps.now c.args.program.now.returning.now c.args.program.now.entry m.marks.items q (slice_set m.numbers.items c.args.h (Some c.len.result)) m.queue.items) (sym c.in_ok-push.ensures.items)
    (subst (λ n. IsMarkPass c.args.program.now.steps.now c.args.program.now.returning.now c.args.program.now.entry m.marks.items (m.functions.items ++ c.args.h ∷ []) (slice_set m.numbers.items c.args.h (Some n)) m.queue.items) (sym len)
    (number_pass c.args.program.now.steps.now c.args.program.now.returning.now c.args.program.now.entry m.marks.items m.functions.items m.numbers.items m.queue.items c.requires.pass c.args.h c.requires.within none c.requires.reached))
