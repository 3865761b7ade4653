use Rattle.std.proofs.Common.{ap, sym, ◌∙◌}
use Rattle.std.specs.Prelude.{find}
use Rattle.versioned_images.specs.Versions.{is_choice}
use Rattle.versioned_images.proofs.Found.{told_version}
use Rattle.versioned_images.proofs.finding.version_of.Goals as goal

pub returns-in_ok-sites-in-Some-2 : goal.returns-in_ok-sites-in-Some-2
returns-in_ok-sites-in-Some-2 c =
    let own = c.in_ok-pieces-in-Some-2.ensures.items_if_clones_equal (λ x y same. same) ∙ (c.deref-in-Some-2.ensures.value ∙ sym c.deref-2.ensures.value) in
    let its = c.in_ok-sites-in-Some-2.ensures.items_if_clones_equal (λ x y same. same) ∙ (c.deref-in-Some-2-2.ensures.value ∙ sym c.deref-3.ensures.value) in
    told_version c.args.view.now c.deref-2.result.now c.deref-3.result.now c.in_ok-pieces-in-Some-2.pieces c.in_ok-sites-in-Some-2.sites c.in-Some-2.made.file.items c.in-Some-2.made.base c.in-Some-2.made.words c.in-Some.choice c.told.result
    own its c.file-file.ensures.image (rw c.in-Some-2.is at c.in_ok-made.ensures.made) (ap (find is_choice) (c.deref-2.ensures.value ∙ sym c.deref.ensures.value) ∙ (sym c.first_choice.ensures ∙ c.in-Some.is)) c.told.ensures.told c.told.ensures.made
    c.told.ensures.code
