use Rattle.std.proofs.Common.{◌≡◌, ◌/◌, true, false, ap, sym, arith, ◌<◌, ◌∙◌}
use Rattle.std.proofs.lemmas.Bool.{both_ways}
use Rattle.std.proofs.lemmas.List.Elements.{All-same}
use Rattle.scale_base.specs.Image.{image_of}
use Rattle.loop_versions.specs.Fitting.{are_fit}
use Rattle.versioned_images.proofs.Fit.{len_is}
use Rattle.versioned_images.proofs.Parts.{unfit, no_image, made_of}
use Rattle.versioned_images.proofs.making.versioned_at.Goals as goal

pub returns-then-not-fits-clause-none : goal.returns-then-not-fits-clause-none
returns-then-not-fits-clause-none c =
    let image = c.args.view.now in
    let place = c.requires.place in
    let not : are_fit image c.args.pieces.now c.args.sites.now c.args.base ≡ false = sym c.in_ok-fits.ensures ∙ c.if-not-fits.true in
    unfit image c.args.pieces.now c.args.sites.now c.args.base place not

pub returns-then-not-branch-clause-none : goal.returns-then-not-branch-clause-none
returns-then-not-branch-clause-none c =
    let image = c.args.view.now in
    let place = c.requires.place in
    no_image image c.args.pieces.now c.args.sites.now c.args.base place c.in_ok-file.file.items c.in_ok-file.ensures
    (λ i e. both_ways _ c.if-not-branch.true (c.in_ok-is_image.ensures.each i (ap image_of c.deref.ensures.value ∙ e)))

pub returns-clause-made : goal.returns-clause-made
returns-clause-made c =
    let image = c.args.view.now in
    let place = c.requires.place in
    let fit : are_fit image c.args.pieces.now c.args.sites.now c.args.base ≡ true = sym c.in_ok-fits.ensures ∙ c.if-not-fits.false in
    let again = c.in_ok-is_image.ensures.one c.if-not-branch.false in
    let long = len_is image c.args.pieces.now c.args.sites.now c.args.base fit in
    let len = c.pieces_len-words.ensures.len in
    made_of image c.args.pieces.now c.args.sites.now c.args.base place c.in_ok-file.file.items (c.pieces_len-words.result / 4) c.file.ensures.image (All-same (λ b. b < 256) _ _ (sym c.file.ensures.bytes) c.are_bytes.ensures) c.requires.open
    c.requires.few fit c.in_ok-file.ensures (omega (arith, long, len)) again.0 (ap image_of (let v = c.deref.ensures.value in cc) ∙ again.1)
