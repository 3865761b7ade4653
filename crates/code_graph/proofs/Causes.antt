-- A word is refused exactly where there is a cause.
use Rattle.std.proofs.Common.{◌≡◌, ◌≢◌, ℕ, ◌<◌, ◌%◌, Bool, true, false, not, ◌&&◌, Option, Some, None, refl, sym, ap, ◌∙◌, subst, arith, ◌⊎◌, ⊎_elim, eq-eqb, eqb-true}
use Rattle.std.specs.Prelude.{pos, ◌==◌, ◌||◌, nat_lt, Ok}
use Rattle.std.specs.List.{list_any}
use Rattle.std.specs.Ordering.{int_eq}
use Rattle.std.proofs.lemmas.Bool.{ltb-true, cond-true, cond-false, ne_eqb, and_parts}
use Rattle.scale_base.specs.declared.instruction.Instr.{Instr}
use Rattle.scale_base.specs.declared.instruction.Instr.TheVariants as instr
use Rattle.scale_base.specs.declared.refusal.Refusal.TheVariants.{MisalignedTarget, OutsideText}
use Rattle.cost_theory.specs.declared.flow.Flow.TheVariants as flow
use Rattle.cost_theory.proofs.Laws.{and_both}
use Rattle.code_text.specs.Text.{Text, text_of, is_text_address, kind_at, word_kind, jal_kind, ecall_kind, known}
use Rattle.scale_base.specs.Image.{Image, image_of, is_in, is_word_address, text_word}
use Rattle.scale_base.specs.Reading.{instr_of}
use Rattle.flow_graph.specs.Refused.{cause_at, instr_cause}
use Rattle.flow_graph.proofs.Laws.{cause_of_word, kind_of_word, instr_stored}

below_two : (n : ℕ) → n < 2 → (n ≡ 0) ⊎ (n ≡ 1)
below_two n lt = grind arith

-- the link register of a JAL
jal_taken : (rd to : ℕ) → nat_lt rd 2 ≡ true → jal_kind rd to ≢ flow.Refused
jal_taken rd to small = ⊎_elim
    (λ (e : rd ≡ 0). subst (λ r. jal_kind r to ≢ flow.Refused) (sym e) (λ bad. let no_way : ⊥ = cc in no_way))
    (λ (e : rd ≡ 1). subst (λ r. jal_kind r to ≢ flow.Refused) (sym e) (λ bad. let no_way : ⊥ = cc in no_way))
    (below_two rd (ltb-true rd 2 small))

-- where the word is refused its instruction has a cause, and else none
pub bad_cause : (t : Text) (v : ℕ) (o : Option Instr) → word_kind t v o ≡ flow.Refused → instr_cause v o ≢ None
bad_cause t v None bad none = let no_way : ⊥ = cc in no_way
bad_cause t v (Some (instr.Jal rd offset)) bad none = go (nat_lt rd 2) refl none
  where
    go : (b : Bool) → nat_lt rd 2 ≡ b → instr_cause v (Some (instr.Jal rd offset)) ≡ None → ⊥
    go true e none = jal_taken rd _ e bad
    go false e none = let cause = sym (cond-false (nat_lt rd 2) _ _ e) ∙ none in let no_way : ⊥ = cc in no_way
bad_cause t v (Some (instr.Jalr rd rs1 offset)) bad none = go ((rd == 0) && (rs1 == 1) && int_eq offset (pos 0)) refl
  where
    go : (b : Bool) → ((rd == 0) && (rs1 == 1) && int_eq offset (pos 0)) ≡ b → ⊥
    go true e = let back = sym (cond-true _ _ _ e) ∙ bad in let no_way : ⊥ = cc in no_way
    go false e = let cause = sym (cond-false _ _ _ e) ∙ none in let no_way : ⊥ = cc in no_way
bad_cause t v (Some (instr.Branch op rs1 rs2 offset)) bad none = let no_way : ⊥ = cc in no_way
bad_cause t v (Some instr.Ecall) bad none = ecall (known t v) bad
  where
    ecall : (o : Option ℕ) → ecall_kind o ≡ flow.Refused → ⊥
    ecall None e = let no_way : ⊥ = cc in no_way
    ecall (Some k) e = go ((k == 93) || (k == 94)) refl
      where
        go : (b : Bool) → ((k == 93) || (k == 94)) ≡ b → ⊥
        go true is = let ends = sym (cond-true _ _ _ is) ∙ e in let no_way : ⊥ = cc in no_way
        go false is = let on = sym (cond-false _ _ _ is) ∙ e in let no_way : ⊥ = cc in no_way
bad_cause t v (Some i) bad none = let no_way : ⊥ = cc in no_way

pub cause_misaligned : (t : Text) (v : ℕ) → v % 4 ≢ 0 → cause_at t v ≡ Some (MisalignedTarget v)
unfolding cause_at
cause_misaligned t v off = cond-true _ _ _ (ap not (ne_eqb (v % 4) 0 off))

pub cause_outside : (t : Text) (v : ℕ) → v % 4 ≡ 0 → is_text_address t v ≡ false → cause_at t v ≡ Some (OutsideText v)
unfolding cause_at
cause_outside t v four out = cond-false _ _ _ (ap not (eq-eqb (v % 4) 0 four)) ∙ cond-true _ _ _ (ap not out)

-- ---- of an image

-- where a word is read, it is one of the text
stored_in : (image : Image) (at w : ℕ) → text_word image at ≡ Some w → (at % 4 ≡ 0) × (is_text_address (text_of image) at ≡ true)
unfolding text_word
stored_in image at w stored = go (is_word_address image at) refl
  where
    go : (b : Bool) → is_word_address image at ≡ b → (at % 4 ≡ 0) × (is_text_address (text_of image) at ≡ true)
    go true e = let p = and_parts (at % 4 == 0) (list_any (is_in at) image.text) e in (eqb-true (at % 4) 0 p.0, p.1)
    go false e = let none = sym (cond-false (is_word_address image at) _ _ e) ∙ stored in let bad : ⊥ = cc in absurd bad

pub cause_stored : (image : Image) (at w : ℕ) (o : Option Instr) → image_of image.file ≡ Ok image → text_word image at ≡ Some w → o ≡ instr_of w → cause_at (text_of image) at ≡ instr_cause at o
cause_stored image at w o whole stored read =
    let here = stored_in image at w stored in
    cause_of_word (text_of image) at here.0 here.1 ∙ ap (instr_cause at) (instr_stored image at w o whole stored read)

pub bad_stored : (image : Image) (at w : ℕ) (o : Option Instr) → image_of image.file ≡ Ok image → text_word image at ≡ Some w → o ≡ instr_of w → kind_at (text_of image) at ≡ flow.Refused → instr_cause at o ≢ None
bad_stored image at w o whole stored read bad =
    let here = stored_in image at w stored in
    bad_cause (text_of image) at o (ap (word_kind (text_of image) at) (sym (instr_stored image at w o whole stored read)) ∙ sym (kind_of_word (text_of image) at here.0 here.1) ∙ bad)

pub cause_none_stored : (image : Image) (at : ℕ) → at % 4 ≡ 0 → is_word_address image at ≡ false → cause_at (text_of image) at ≡ Some (OutsideText at)
cause_none_stored image at four none = cause_outside (text_of image) at four (go (is_text_address (text_of image) at) refl)
  where
    go : (b : Bool) → is_text_address (text_of image) at ≡ b → b ≡ false
    go true e = let word : is_word_address image at ≡ true = and_both (at % 4 == 0) (list_any (is_in at) image.text) (eq-eqb (at % 4) 0 four) e in let bad : ⊥ = cc in absurd bad
    go false e = refl
