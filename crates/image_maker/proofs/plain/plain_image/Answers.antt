use Rattle.std.proofs.Common.{◌≡◌, ◌<◌, ℕ, List, ◌++◌, ◌*◌, ◌^◌, length, ap, ◌∙◌, arith}
use Rattle.std.specs.Prelude.{All}
use Rattle.std.proofs.lemmas.List.{get_or_default}
use Rattle.image_maker.specs.PlainImage.{made_program_header, words}
use Rattle.image_maker.specs.PlainImage as plain
use Rattle.image_maker.proofs.PlainLaw.{plain-law}
use Rattle.image_maker.proofs.plain.plain_image.Goals as goal

pub returns-clause-image : goal.returns-clause-image
returns-clause-image c = λ some.
    let text = c.args.words.now in
    let fits : All (λ word. word < 2 ^ 32) text = λ k d lt. let fit = c.type_inv.words k in let same = get_or_default text k d 0 lt in omega arith in
    let is : c.push_words.new.out.items ≡ plain.plain_image text =
    c.in_ok-push_words.ensures ∙ ap (λ (out : List ℕ). out ++ words text) (c.in_ok-push_program_header.ensures ∙ ap (λ (out : List ℕ). out ++ made_program_header (4 * length text)) c.in_ok-file.ensures.items) in
    rw is (plain-law text some c.requires fits)
