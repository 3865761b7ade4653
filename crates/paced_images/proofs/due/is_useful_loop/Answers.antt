use Rattle.std.proofs.Common.{ℕ, ◌<◌, Bool, length, sym, ◌∙◌, arith}
use Rattle.cost_theory.proofs.Laws.{any-some, none-any}
use Rattle.cost_theory.specs.Worst.{Numbers}
use Rattle.cycle_laws.specs.Charged.{Charged}
use Rattle.power_model.specs.Numbers.{PowerModel}
use Rattle.scale_base.specs.Image.{Image}
use Rattle.marked_images.specs.declared.stubs.Marked.{Marked}
use Rattle.marked_images.specs.Markings.{test_of}
use Rattle.paced_images.specs.Useful.{is_due_at}
use Rattle.marked_images.specs.Wanted.{Wanted, marked_where}
use Rattle.paced_images.proofs.UsefulFacts.{next_none}
use Rattle.paced_images.proofs.due.is_useful_loop.Goals as goal

abbrev due : PowerModel → Marked → Image → Wanted → Numbers → Charged → (header : ℕ) → ℕ → Bool
due power m image wanted stored least header e = is_due_at power (test_of power m.marking) m.start image m.graph m.tree (marked_where m.graph m.tree wanted) stored least header e

pub returns-then-is_due_at : goal.returns-then-is_due_at
returns-then-is_due_at c = λ image wanted stored least is.
    let lt : c.loop-e.e < length c.args.marked.now.graph.code.edges = (let count = c.edge_count-e-end.ensures in let test = c.loop-e-test.true in omega (arith, count, test)) in
    sym (any-some (length c.args.marked.now.graph.code.edges) (due c.args.power.now c.args.marked.now image wanted stored least c.args.header) c.loop-e.e lt
    (sym (c.is_due_at.ensures image wanted stored least is) ∙ c.if-is_due_at.true))

pub loop-e-preserved : goal.loop-e-preserved
loop-e-preserved c = λ image wanted stored least is.
    next_none c.loop-e.e (due c.args.power.now c.args.marked.now image wanted stored least c.args.header) (c.loop-e.invariant image wanted stored least is)
    (sym (c.is_due_at.ensures image wanted stored least is) ∙ c.if-is_due_at.false)

pub returns : goal.returns
returns c = λ image wanted stored least is.
    sym (none-any (length c.args.marked.now.graph.code.edges) (due c.args.power.now c.args.marked.now image wanted stored least c.args.header)
    (λ e lt. c.loop-e.invariant image wanted stored least is e (let count = c.edge_count-e-end.ensures in let test = c.loop-e-test.false in omega (arith, count, test, lt))))
