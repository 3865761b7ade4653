use Rattle.std.proofs.Common.{◌∙◌, sym, refl}
use Rattle.scale_base.specs.Image.{loaded_byte}
use Rattle.scale_base.specs.Reading.{instr_of}
use Rattle.scale_base.specs.State.{word_at}
use Rattle.foreign_scan.proofs.KeyLaws.{instr_there, word_of_instr}
use Rattle.foreign_scan.proofs.reading.holds_at.Goals as goal

pub returns-in-Some : goal.returns-in-Some
returns-in-Some c =
    let there = instr_there c.args.key.now c.args.at c.in-Some.word (instr_of c.in-Some.word) ((c.word.ensures c.in-Some.word).0 c.in-Some.is) refl c.args.wanted.now in
    (λ t. there.0 (c.is_word_of.ensures.0 t), λ h. c.is_word_of.ensures.1 (there.1 h))

pub returns-in-None : goal.returns-in-None
returns-in-None c =
    (λ no. absurd cc, λ h. absurd (let e = sym c.in-None.is ∙ (c.word.ensures (word_at (loaded_byte c.args.key.now) c.args.at)).1 (word_of_instr c.args.key.now c.args.at c.args.wanted.now h) in cc))
