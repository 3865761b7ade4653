-- A rule of bytes that takes one rule where a test holds, and another elsewhere.
use Rattle.std.proofs.Common.{◌≡◌, ℕ, Bool, true, false, refl, ap, sym, ◌∙◌, inl, inr}
use Rattle.std.specs.Prelude.{◌==◌, if◌then◌else◌}
use Rattle.std.proofs.lemmas.Bool.{cond-true, cond-false, cond_both, cases_eq, eq-eqb, ne_eqb}
use Rattle.scale_base.specs.State.{with_byte}

abbrev pub chosen : (ℕ → Bool) → (ℕ → ℕ) → (ℕ → ℕ) → ℕ → ℕ
chosen test f rest a = if test a then f a else rest a

-- the byte that was written is read
pub written_same : (bytes : ℕ → ℕ) (at value a : ℕ) → a ≡ at → with_byte bytes at value a ≡ value
unfolding with_byte
written_same bytes at value a e = cond-true (a == at) value (bytes a) (eq-eqb a at e)

-- every other byte is as before
pub written_other : (bytes : ℕ → ℕ) (at value a : ℕ) → (a ≡ at → ⊥) → with_byte bytes at value a ≡ bytes a
unfolding with_byte
written_other bytes at value a ne = cond-false (a == at) value (bytes a) (ne_eqb a at ne)

-- a byte that is written where the test holds
pub put_here : (test : ℕ → Bool) (f g rest : ℕ → ℕ) (at value : ℕ) → test at ≡ true → g at ≡ value → ((a : ℕ) → test a ≡ true → (a ≡ at → ⊥) → g a ≡ f a) → (a : ℕ) → chosen test g rest a ≡ with_byte (chosen test f rest) at value a
put_here test f g rest at value here same other a =
    elim (cases_eq a at) [
      | inl e ↦ ap (chosen test g rest) e ∙ (cond-true (test at) (g at) (rest at) here ∙ (same ∙ sym (written_same (chosen test f rest) at value a e)))
      | inr ne ↦
          cond_both (test a) (g a) (rest a) (λ n. n ≡ chosen test f rest a)
          (λ there. other a there ne ∙ sym (cond-true (test a) (f a) (rest a) there))
          (λ away. sym (cond-false (test a) (f a) (rest a) away))
          ∙ sym (written_other (chosen test f rest) at value a ne)
    ]

-- a byte that is written where the test fails
pub put_behind : (test : ℕ → Bool) (f rest rest' : ℕ → ℕ) (at value : ℕ) → test at ≡ false → ((a : ℕ) → rest' a ≡ with_byte rest at value a) → (a : ℕ) → chosen test f rest' a ≡ with_byte (chosen test f rest) at value a
put_behind test f rest rest' at value away h a =
    elim (cases_eq a at) [
      | inl e ↦ ap (chosen test f rest') e ∙ (cond-false (test at) (f at) (rest' at) away ∙ (h at ∙ (written_same rest at value at refl ∙ sym (written_same (chosen test f rest) at value a e))))
      | inr ne ↦
          ap (λ n. if test a then f a else n) (h a ∙ written_other rest at value a ne)
          ∙ sym (written_other (chosen test f rest) at value a ne)
    ]
