use Rattle.std.proofs.Common.{◌≡◌, ◌++◌, ◌∙◌, append_assoc, string_bytes, subst}
use Rattle.std.proofs.lemmas.Result.{on_ok_weaker}
use Rattle.power_model.specs.Numbers.{RunPrice}
use Rattle.run_pictures.specs.PictureTexts.{numbers_line}
use Rattle.run_pictures.proofs.rows.push_numbers.Goals as goal

pub returns : goal.returns
unfolding numbers_line
returns c = on_ok_weaker c.write.result (λ e.
    subst (λ (paid : RunPrice). string_bytes c.write.new.self ≡ string_bytes c.args.text.now ++ numbers_line c.args.y c.args.end paid) c.paid.view_is (e ∙ simp append_assoc)) c.write.ensures.bytes
