-- What is known of a word that is not refused.
use Rattle.std.proofs.Common.{◌≡◌, ◌≢◌, ℕ, ◌%◌, Bool, true, false, refl, ap, ◌∙◌, Option, Some, None}
use Rattle.std.specs.Prelude.{◌==◌, ◌&&◌}
use Rattle.std.proofs.lemmas.Bool.{and_parts, eqb-true, cond-true, cond-false}
use Rattle.scale_base.specs.declared.instruction.Instr.{Instr}
use Rattle.cost_theory.specs.declared.flow.Flow.TheVariants as flow
use Rattle.code_text.specs.Text.{Text, is_text_address, instr_at, instr_kind, word_kind, kind_at}

-- a word that is not refused is one of the text
pub kind_facts : (t : Text) (v : ℕ) → kind_at t v ≢ flow.Refused → (v % 4 ≡ 0) × (is_text_address t v ≡ true) × ((i : Instr) × (instr_at t v ≡ Some i) × (kind_at t v ≡ instr_kind t v i))
unfolding kind_at
kind_facts t v ne = go ((v % 4 == 0) && is_text_address t v) refl
  where
    by_word : (v % 4 ≡ 0) → (is_text_address t v ≡ true) → kind_at t v ≡ word_kind t v (instr_at t v) → (o : Option Instr) → instr_at t v ≡ o → (v % 4 ≡ 0) × (is_text_address t v ≡ true) × ((i : Instr) × (instr_at t v ≡ Some i) × (kind_at t v ≡ instr_kind t v i))
    by_word al h e None at = absurd (ne (e ∙ ap (word_kind t v) at))
    by_word al h e (Some i) at = (al, h, (i, at, e ∙ ap (word_kind t v) at))

    go : (b : Bool) → ((v % 4 == 0) && is_text_address t v) ≡ b → (v % 4 ≡ 0) × (is_text_address t v ≡ true) × ((i : Instr) × (instr_at t v ≡ Some i) × (kind_at t v ≡ instr_kind t v i))
    go false e = absurd (ne (cond-false _ _ _ e))
    go true e = let p = and_parts (v % 4 == 0) (is_text_address t v) e in by_word (eqb-true (v % 4) 0 p.0) p.1 (cond-true _ _ _ e) (instr_at t v) refl
