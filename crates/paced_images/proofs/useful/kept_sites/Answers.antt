use Rattle.std.proofs.Common.{Bool, true, false, sym, ap, ◌∙◌}
use Rattle.std.specs.List.{filter}
use Rattle.std.proofs.lemmas.List.{append-nil, take_all}
use Rattle.cost_theory.specs.Worst.{Numbers}
use Rattle.cycle_laws.specs.Charged.{Charged}
use Rattle.power_model.specs.Numbers.{PowerModel}
use Rattle.scale_base.specs.Image.{Image}
use Rattle.marked_images.specs.declared.stubs.Marked.{Marked}
use Rattle.paced_images.specs.declared.wanted.SwitchSite.{SwitchSite}
use Rattle.marked_images.specs.Markings.{test_of}
use Rattle.paced_images.specs.Useful.{is_useful}
use Rattle.marked_images.specs.Wanted.{Wanted, marked_where}
use Rattle.paced_images.proofs.UsefulFacts.{kept_more}
use Rattle.paced_images.proofs.useful.kept_sites.Goals as goal
use Rattle.paced_images.proofs.useful.kept_sites.Goals.{then-is_useful+in_ok-push, else-is_useful}

abbrev useful : PowerModel → Marked → Image → Wanted → Numbers → Charged → SwitchSite → Bool
useful power m image wanted stored least site = is_useful power (test_of power m.marking) m.start image m.graph m.tree (marked_where m.graph m.tree wanted) stored least site

pub loop-site-preserved : goal.loop-site-preserved
loop-site-preserved c = λ image wanted stored least is.
    let p = useful c.args.power.now c.args.marked.now image wanted stored least in
    elim c.if-is_useful.branch [
      | then-is_useful+in_ok-push w ↦
          kept_more p c.args.sites.now c.loop-site.site-index _ c.loop-site.kept.items c.if-is_useful.kept.items true c.loop-site-test.true (c.loop-site.invariant image wanted stored least is)
          (sym w.if-is_useful.true ∙ c.is_useful.ensures image wanted stored least is) (ap (λ (ks : _). ks.items) w.kept-is ∙ w.in_ok-push.ensures.items)
      | else-is_useful w ↦
          kept_more p c.args.sites.now c.loop-site.site-index _ c.loop-site.kept.items c.if-is_useful.kept.items false c.loop-site-test.true (c.loop-site.invariant image wanted stored least is)
          (sym w.if-is_useful.false ∙ c.is_useful.ensures image wanted stored least is) (ap (λ (ks : _). ks.items) w.kept-is ∙ sym (append-nil c.loop-site.kept.items))
    ]

pub returns : goal.returns
returns c = λ image wanted stored least is.
    c.loop-site.invariant image wanted stored least is ∙ ap (filter (useful c.args.power.now c.args.marked.now image wanted stored least)) (take_all c.loop-site.site-index c.args.sites.now c.loop-site-test.false)
