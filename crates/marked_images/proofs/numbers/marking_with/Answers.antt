use Rattle.std.proofs.Common.{◌≤◌, ◌∙◌, ℕ, List, length, refl, ap, subst}
use Rattle.std.proofs.lemmas.Result.{err_from_is_err_and}
use Rattle.power_model.specs.Numbers.{PowerModel}
use Rattle.marked_images.specs.Stored.{by_deadline}
use Rattle.marked_images.proofs.MarkingFacts.{stored_calls, worst_stopped, late, least_in_range, marking_found}
use Rattle.marked_images.proofs.numbers.marking_with.Goals as goal

pub worst-requires-clause-calls : goal.worst-requires-clause-calls
worst-requires-clause-calls c = stored_calls c.args.power.now c.requires.program.0 c.requires.program.1 c.args.graph.now c.args.tree.now c.requires.program.2 c.requires.program.3 (c.requires.counters.0, refl, subst (λ (l : List ℕ). length l ≤ 509) c.requires.counters.1 c.requires.counters.2) (by_deadline c.args.power.now) c.args.marks.sites c.requires.marks.0 c.requires.marks.1 c.in_ok-weights.weights c.in_ok-weights.ensures.size c.power.inside.costs (ap (λ (p : PowerModel). p.costs) c.power.view_is) c.in_ok-weights.ensures.each c.in_ok-weights.ensures.small

pub returns-in_err-worst : goal.returns-in_err-worst
returns-in_err-worst c = λ image wanted is has.
    let p = err_from_is_err_and c.from_residual-in_err-worst.result c.from_residual-in_err-worst.ensures.1 in
    rw (p.1, p.2) (worst_stopped c.args.power.now image c.requires.program.1 c.args.graph.now c.args.tree.now is c.requires.program.3 (c.requires.counters.0, refl, subst (λ (l : List ℕ). length l ≤ 509) c.requires.counters.1 c.requires.counters.2) (by_deadline c.args.power.now) c.args.marks.sites wanted has c.in_ok-weights.weights c.in_ok-weights.ensures.size c.power.inside.costs (ap (λ (p : PowerModel). p.costs) c.power.view_is) c.in_ok-weights.ensures.each c.in_ok-weights.ensures.small c.in_err-worst.field-0.0 c.in_err-worst.ensures.found)

pub returns-in_err-start : goal.returns-in_err-start
returns-in_err-start c = λ image wanted is has.
    let p = err_from_is_err_and c.from_residual-in_err-start.result c.from_residual-in_err-start.ensures.1 in
    rw (p.1, p.2) (late c.args.power.now image c.requires.program.1 c.args.graph.now c.args.tree.now is c.requires.program.3 (c.requires.counters.0, refl, subst (λ (l : List ℕ). length l ≤ 509) c.requires.counters.1 c.requires.counters.2) (by_deadline c.args.power.now) c.args.marks.sites wanted has c.in_ok-weights.weights c.in_ok-weights.ensures.size c.power.inside.costs (ap (λ (p : PowerModel). p.costs) c.power.view_is) c.in_ok-weights.ensures.each c.in_ok-weights.ensures.small c.in_ok-worst.worst c.total.result c.in_ok-worst.ensures.found c.total.ensures c.in_err-start.field-0.0 c.in_err-start.ensures)

pub least-requires-clause-calls : goal.least-requires-clause-calls
least-requires-clause-calls c = stored_calls c.args.power.now c.requires.program.0 c.requires.program.1 c.args.graph.now c.args.tree.now c.requires.program.2 c.requires.program.3 (c.requires.counters.0, refl, subst (λ (l : List ℕ). length l ≤ 509) c.requires.counters.1 c.requires.counters.2) (by_deadline c.args.power.now) c.args.marks.sites c.requires.marks.0 c.requires.marks.1 c.in_ok-weights.weights c.in_ok-weights.ensures.size c.power.inside.costs (ap (λ (p : PowerModel). p.costs) c.power.view_is) c.in_ok-weights.ensures.each c.in_ok-weights.ensures.small

pub least-requires-clause-worst : goal.least-requires-clause-worst
least-requires-clause-worst c = least_in_range c.args.power.now c.requires.program.0 c.requires.program.1 c.args.graph.now c.args.tree.now c.requires.program.2 c.requires.program.3 (c.requires.counters.0, refl, subst (λ (l : List ℕ). length l ≤ 509) c.requires.counters.1 c.requires.counters.2) (by_deadline c.args.power.now) c.args.marks.sites c.requires.marks.0 c.requires.marks.1 c.in_ok-weights.weights c.in_ok-weights.ensures.size c.power.inside.costs (ap (λ (p : PowerModel). p.costs) c.power.view_is) c.in_ok-weights.ensures.each c.in_ok-weights.ensures.small c.in_ok-worst.worst c.total.result c.in_ok-worst.ensures.found c.total.ensures

pub returns : goal.returns
returns c = λ image wanted is has.
    marking_found c.args.power.now image c.requires.program.1 c.args.graph.now c.args.tree.now is c.requires.program.3 (c.requires.counters.0, refl, subst (λ (l : List ℕ). length l ≤ 509) c.requires.counters.1 c.requires.counters.2) (by_deadline c.args.power.now) c.args.marks.sites wanted has c.in_ok-weights.weights c.in_ok-weights.ensures.size c.power.inside.costs (ap (λ (p : PowerModel). p.costs) c.power.view_is) c.in_ok-weights.ensures.each c.in_ok-weights.ensures.small c.in_ok-worst.worst c.total.result c.in_ok-worst.ensures.found c.total.ensures c.in_ok-start.start c.in_ok-start.ensures c.in_ok-worst.ensures.sizes c.in_ok-worst.ensures.left c.args.marks.counters c.requires.counters.1 c.in_ok-least.least c.in_ok-least.ensures.least c.in_ok-least.ensures.small c.alike.result (λ i. c.alike.ensures i ∙ ap (λ (p : PowerModel). p.deadline) c.power.view_is) _ refl
