use Rattle.std.proofs.Common.{ℕ, Bool, true, false, sym, ap, ◌∙◌}
use Rattle.std.specs.List.{filter}
use Rattle.std.proofs.lemmas.List.{append-nil, take_all}
use Rattle.cost_theory.specs.Worst.{Numbers}
use Rattle.cycle_laws.specs.Charged.{Charged}
use Rattle.power_model.specs.Numbers.{PowerModel}
use Rattle.scale_base.specs.Image.{Image}
use Rattle.marked_images.specs.declared.stubs.Marked.{Marked}
use Rattle.marked_images.specs.Markings.{test_of}
use Rattle.paced_images.specs.Useful.{is_useful_loop}
use Rattle.marked_images.specs.Wanted.{Wanted, marked_where}
use Rattle.paced_images.proofs.UsefulFacts.{kept_more}
use Rattle.paced_images.proofs.due.kept_loops.Goals as goal
use Rattle.paced_images.proofs.due.kept_loops.Goals.{then-is_useful_loop+in_ok-push, else-is_useful_loop}

abbrev useful : PowerModel → Marked → Image → Wanted → Numbers → Charged → (header : ℕ) → Bool
useful power m image wanted stored least header = is_useful_loop power (test_of power m.marking) m.start image m.graph m.tree (marked_where m.graph m.tree wanted) stored least header

pub loop-header-preserved : goal.loop-header-preserved
loop-header-preserved c = λ image wanted stored least is.
    let p = useful c.args.power.now c.args.marked.now image wanted stored least in
    elim c.if-is_useful_loop.branch [
      | then-is_useful_loop+in_ok-push w ↦
          kept_more p c.args.tallied.now c.loop-header.header-index _ c.loop-header.kept.items c.if-is_useful_loop.kept.items true c.loop-header-test.true (c.loop-header.invariant image wanted stored least is)
          (sym w.if-is_useful_loop.true ∙ c.is_useful_loop.ensures image wanted stored least is) (ap (λ (ks : _). ks.items) w.kept-is ∙ w.in_ok-push.ensures.items)
      | else-is_useful_loop w ↦
          kept_more p c.args.tallied.now c.loop-header.header-index _ c.loop-header.kept.items c.if-is_useful_loop.kept.items false c.loop-header-test.true (c.loop-header.invariant image wanted stored least is)
          (sym w.if-is_useful_loop.false ∙ c.is_useful_loop.ensures image wanted stored least is) (ap (λ (ks : _). ks.items) w.kept-is ∙ sym (append-nil c.loop-header.kept.items))
    ]

pub returns : goal.returns
returns c = λ image wanted stored least is.
    c.loop-header.invariant image wanted stored least is ∙ ap (filter (useful c.args.power.now c.args.marked.now image wanted stored least)) (take_all c.loop-header.header-index c.args.tallied.now c.loop-header-test.false)
