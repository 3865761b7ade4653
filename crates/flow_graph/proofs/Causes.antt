-- A word that is not refused has no cause.
use Rattle.std.proofs.Common.{◌≡◌, ◌≢◌, ℕ, ◌%◌, Bool, true, false, not, ◌&&◌, Option, Some, None, refl, sym, ap, ◌∙◌, arith, eq-eqb, eqb-true}
use Rattle.std.specs.Prelude.{pos, ◌==◌, nat_lt, Ok}
use Rattle.std.specs.Ordering.{int_eq}
use Rattle.std.proofs.lemmas.Bool.{ltb-false, cond-true, cond-false}
use Rattle.scale_base.specs.declared.instruction.Instr.{Instr}
use Rattle.scale_base.specs.declared.instruction.Instr.TheVariants as instr
use Rattle.cost_theory.specs.declared.flow.Flow.TheVariants as flow
use Rattle.cost_theory.proofs.Laws.{and_both}
use Rattle.code_text.specs.Text.{Text, text_of, is_text_address, instr_at, kind_at, word_kind, jal_kind}
use Rattle.scale_base.specs.Image.{Image, image_of, text_word}
use Rattle.scale_base.specs.Reading.{instr_of}
use Rattle.code_text.proofs.Laws.{kind_facts, instruction_stored}
use Rattle.flow_graph.specs.Refused.{cause_at, instr_cause}

jal_refused : (rd to : ℕ) → nat_lt rd 2 ≡ false → jal_kind rd to ≡ flow.Refused
jal_refused rd to big =
    let high = ltb-false rd 2 big in
    let other : (rd == 0) ≡ false = go (rd == 0) refl (λ e. let r : rd ≡ 0 = eqb-true rd 0 e in let bad : ⊥ = omega arith in bad) in
    let more : (rd == 1) ≡ false = go (rd == 1) refl (λ e. let r : rd ≡ 1 = eqb-true rd 1 e in let bad : ⊥ = omega arith in bad) in
    rw (other, more) refl
  where
    go : (b : Bool) → b ≡ b → (b ≡ true → ⊥) → b ≡ false
    go true e none = absurd (none refl)
    go false e none = refl

no_cause : (t : Text) (v : ℕ) (o : Option Instr) → word_kind t v o ≢ flow.Refused → instr_cause v o ≡ None
no_cause t v None fine = absurd (fine refl)
no_cause t v (Some (instr.Jal rd offset)) fine = go (nat_lt rd 2) refl
  where
    go : (b : Bool) → nat_lt rd 2 ≡ b → instr_cause v (Some (instr.Jal rd offset)) ≡ None
    go true e = cond-true _ _ _ e
    go false e = absurd (fine (jal_refused rd _ e))
no_cause t v (Some (instr.Jalr rd rs1 offset)) fine = go ((rd == 0) && (rs1 == 1) && int_eq offset (pos 0)) refl
  where
    go : (b : Bool) → ((rd == 0) && (rs1 == 1) && int_eq offset (pos 0)) ≡ b → instr_cause v (Some (instr.Jalr rd rs1 offset)) ≡ None
    go true e = cond-true _ _ _ e
    go false e = absurd (fine (cond-false _ _ _ e))
no_cause t v (Some i) fine = refl

pub cause_of_word : (t : Text) (v : ℕ) → v % 4 ≡ 0 → is_text_address t v ≡ true → cause_at t v ≡ instr_cause v (instr_at t v)
unfolding cause_at
cause_of_word t v four here = cond-false _ _ _ (ap not (eq-eqb (v % 4) 0 four)) ∙ cond-false _ _ _ (ap not here)

pub kind_of_word : (t : Text) (v : ℕ) → v % 4 ≡ 0 → is_text_address t v ≡ true → kind_at t v ≡ word_kind t v (instr_at t v)
unfolding kind_at
kind_of_word t v four here = cond-true _ _ _ (and_both (v % 4 == 0) (is_text_address t v) (eq-eqb (v % 4) 0 four) here)

-- what isn't refused has no cause
pub fine_cause : (t : Text) (v : ℕ) → kind_at t v ≢ flow.Refused → cause_at t v ≡ None
fine_cause t v fine =
    let is = kind_facts t v fine in
    cause_of_word t v is.0 is.1 ∙ no_cause t v (instr_at t v) (λ bad. fine (kind_of_word t v is.0 is.1 ∙ bad))

-- ---- of an image

pub instr_stored : (image : Image) (at w : ℕ) (o : Option Instr) → image_of image.file ≡ Ok image → text_word image at ≡ Some w → o ≡ instr_of w → instr_at (text_of image) at ≡ o
instr_stored image at w o whole stored read = instruction_stored image.file image at w whole stored ∙ sym read
