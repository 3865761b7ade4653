use Rattle.std.proofs.Common.{◌≡◌, ◌∙◌, ap, sym, true, false}
use Rattle.std.specs.Prelude.{is_some, Option, ℕ}
use Rattle.scale_base.specs.Image.{contents, is_word_address}
use Rattle.elf_image.proofs.Stored.{text_word-out, text_word-in, place_within}
use Rattle.elf_image.proofs.view.ImageView.word_at.Goals as goal

pub returns-then-not-is_word_in : goal.returns-then-not-is_word_in
unfolding contents
returns-then-not-is_word_in c =
    let text = c.deref.ensures.value ∙ c.self.invariant.text_is in
    let out : is_word_address (contents c.self.inside.bytes.now) c.args.at ≡ false = sym (rw text at c.is_word_in.ensures) ∙ c.if-not-is_word_in.true in
    let value = text_word-out (contents c.self.inside.bytes.now) c.args.at out in
    rw (← c.self.view_is) (record { value = value; present = ap (λ (o : Option ℕ). is_some o) value ∙ c.self.invariant.words c.args.at })

pub word_of-requires : goal.word_of-requires
word_of-requires c =
    rw (c.place_in.ensures, c.deref-2.ensures.value) (place_within c.self.inside.bytes.now c.self.inside.segments.items c.args.at c.self.invariant.in_file)

pub returns : goal.returns
unfolding contents
returns c =
    let text = c.deref.ensures.value ∙ c.self.invariant.text_is in
    let segments = c.deref-2.ensures.value ∙ c.self.invariant.segments_are in
    let in_text : is_word_address (contents c.self.inside.bytes.now) c.args.at ≡ true = sym (rw text at c.is_word_in.ensures) ∙ c.if-not-is_word_in.false in
    let value = text_word-in (contents c.self.inside.bytes.now) c.args.at c.word_of.result in_text (rw (c.place_in.ensures, segments) at c.word_of.ensures) in
    rw (← c.self.view_is) (record { value = value; present = ap (λ (o : Option ℕ). is_some o) value ∙ c.self.invariant.words c.args.at })
