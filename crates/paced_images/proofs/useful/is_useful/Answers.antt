use Rattle.std.proofs.Common.{ℕ, ◌<◌, ◌≤◌, Bool, length, slice_get, sym, ◌∙◌, arith, ⊎_elim}
use Rattle.std.proofs.lemmas.Bool.{cases_lt}
use Rattle.cost_theory.proofs.Laws.{any-some, none-any}
use Rattle.cost_theory.specs.Worst.{Numbers}
use Rattle.cycle_laws.specs.Charged.{Charged}
use Rattle.power_model.specs.Numbers.{PowerModel}
use Rattle.scale_base.specs.Image.{Image}
use Rattle.marked_images.specs.declared.stubs.Marked.{Marked}
use Rattle.paced_images.specs.declared.wanted.SwitchSite.{SwitchSite}
use Rattle.marked_images.specs.Markings.{test_of}
use Rattle.paced_images.specs.Useful.{is_lowered, names_lowered}
use Rattle.marked_images.specs.Wanted.{Wanted, marked_where}
use Rattle.paced_images.proofs.FlagLists.{named_at}
use Rattle.paced_images.proofs.UsefulFacts.{next_none, unnamed}
use Rattle.paced_images.proofs.useful.is_useful.Goals as goal

abbrev lowered : PowerModel → Marked → Image → Wanted → Numbers → Charged → ℕ → Bool
lowered power m image wanted stored least e = is_lowered power (test_of power m.marking) m.start image m.graph m.tree (marked_where m.graph m.tree wanted) stored least e

abbrev named : PowerModel → Marked → Image → Wanted → Numbers → Charged → SwitchSite → ℕ → Bool
named power m image wanted stored least site e = names_lowered power (test_of power m.marking) m.start image m.graph m.tree (marked_where m.graph m.tree wanted) stored least site e

pub returns-then-names_lowered : goal.returns-then-names_lowered
returns-then-names_lowered c = λ image wanted stored least is.
    let lt : c.loop-e.e < length c.args.marked.now.graph.code.edges = (let row = c.edges_at-first.ensures.within in let test = c.loop-e-test.true in omega (arith, row, test)) in
    sym (any-some (length c.args.marked.now.graph.code.edges) (named c.args.power.now c.args.marked.now image wanted stored least c.args.site) c.loop-e.e lt
    (sym (c.names_lowered.ensures image wanted stored least is) ∙ c.if-names_lowered.true))

pub loop-e-preserved : goal.loop-e-preserved
loop-e-preserved c = λ image wanted stored least is.
    next_none c.loop-e.e (named c.args.power.now c.args.marked.now image wanted stored least c.args.site) (c.loop-e.invariant image wanted stored least is)
    (sym (c.names_lowered.ensures image wanted stored least is) ∙ c.if-names_lowered.false)

pub returns : goal.returns
returns c = λ image wanted stored least is.
    sym (none-any (length c.args.marked.now.graph.code.edges) (named c.args.power.now c.args.marked.now image wanted stored least c.args.site) (λ e lt. ⊎_elim
    (λ (low : e < c.loop-e.e). c.loop-e.invariant image wanted stored least is e low)
    (λ (high : c.loop-e.e ≤ e). unnamed c.args.site (slice_get c.args.marked.now.graph.code.edges e) (lowered c.args.power.now c.args.marked.now image wanted stored least e) (λ on.
    let in_row = (c.edges_at-first.ensures.edges e lt).0 (named_at c.args.site (slice_get c.args.marked.now.graph.code.edges e) on) in
    let below = in_row.1 in let test = c.loop-e-test.false in omega (arith, below, test, high)))
    (cases_lt e c.loop-e.e)))
