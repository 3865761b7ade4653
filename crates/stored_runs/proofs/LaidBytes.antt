-- Bytes that are laid over others where they are hidden: no access to bytes that aren't hidden tells the two apart.
use Rattle.std.proofs.Common.{◌≡◌, ℕ, zero, suc, ◌+◌, ◌*◌, ◌/◌, ◌%◌, ◌^◌, ◌<◌, Bool, true, false, cond, List, [], ◌∷◌, ◌++◌, length, refl, arith, sym, ap, ◌∙◌, add-zero}
use Rattle.std.specs.Prelude.{◌==◌}
use Rattle.std.proofs.Math.Path.{fun_ext}
use Rattle.std.proofs.lemmas.Bool.{cond-false, eqb-true}
use Rattle.scale_base.specs.declared.instruction.LoadOp.{LoadOp}
use Rattle.scale_base.specs.declared.instruction.LoadOp.TheVariants.{Lb, Lh, Lw, Lbu, Lhu}
use Rattle.scale_base.specs.declared.instruction.StoreOp.{StoreOp}
use Rattle.scale_base.specs.declared.instruction.StoreOp.TheVariants.{Sb, Sh, Sw}
use Rattle.scale_base.specs.Arith.{unsigned, load_width, store_width, loaded, stored}
use Rattle.scale_base.specs.State.{half_at, word_at, with_byte, with_half, with_word, with_list, list_at}
use Rattle.std.specs.Int.{w8, w16, cast_signed}

abbrev pub laid : (ℕ → Bool) → (ℕ → ℕ) → (ℕ → ℕ) → ℕ → ℕ
laid hidden b bytes = λ a. cond (hidden a) (b a) (bytes a)

-- none of the n addresses from `at` on is hidden
abbrev pub AreSeen : (ℕ → Bool) → ℕ → ℕ → Type 0
AreSeen hidden at n = (j : ℕ) → j < n → hidden (at + j) ≡ false

module _ (hidden : ℕ → Bool) (b : ℕ → ℕ) where
  pub byte_seen : (bytes : ℕ → ℕ) (a : ℕ) → hidden a ≡ false → laid hidden b bytes a ≡ bytes a
  byte_seen bytes a h = cond-false (hidden a) (b a) (bytes a) h

  first_seen : (at n : ℕ) → 0 < n → AreSeen hidden at n → hidden at ≡ false
  first_seen at n lt h = ap hidden (sym (add-zero at)) ∙ h 0 lt

  half_seen : (bytes : ℕ → ℕ) (at : ℕ) → AreSeen hidden at 2 → half_at (laid hidden b bytes) at ≡ half_at bytes at
  half_seen bytes at h =
      let x = byte_seen bytes at (first_seen at 2 (omega arith) h) in
      let y = byte_seen bytes (at + 1) (h 1 (omega arith)) in
      ap (λ v. v + laid hidden b bytes (at + 1) * 2 ^ 8) x ∙ ap (λ v. bytes at + v * 2 ^ 8) y

  pub word_seen : (bytes : ℕ → ℕ) (at : ℕ) → AreSeen hidden at 4 → word_at (laid hidden b bytes) at ≡ word_at bytes at
  word_seen bytes at h =
      let x = byte_seen bytes at (first_seen at 4 (omega arith) h) in
      let y = byte_seen bytes (at + 1) (h 1 (omega arith)) in
      let z = byte_seen bytes (at + 2) (h 2 (omega arith)) in
      let t = byte_seen bytes (at + 3) (h 3 (omega arith)) in
      ap (λ v. v + laid hidden b bytes (at + 1) * 2 ^ 8 + laid hidden b bytes (at + 2) * 2 ^ 16 + laid hidden b bytes (at + 3) * 2 ^ 24) x
      ∙ (ap (λ v. bytes at + v * 2 ^ 8 + laid hidden b bytes (at + 2) * 2 ^ 16 + laid hidden b bytes (at + 3) * 2 ^ 24) y
      ∙ (ap (λ v. bytes at + bytes (at + 1) * 2 ^ 8 + v * 2 ^ 16 + laid hidden b bytes (at + 3) * 2 ^ 24) z
      ∙ ap (λ v. bytes at + bytes (at + 1) * 2 ^ 8 + bytes (at + 2) * 2 ^ 16 + v * 2 ^ 24) t))

  pub loaded_seen : (op : LoadOp) (bytes : ℕ → ℕ) (at : ℕ) → AreSeen hidden at (load_width op) → loaded op (laid hidden b bytes) at ≡ loaded op bytes at
  loaded_seen Lb bytes at h = ap (λ v. unsigned (cast_signed w8 v)) (byte_seen bytes at (first_seen at 1 (omega arith) h))
  loaded_seen Lh bytes at h = ap (λ v. unsigned (cast_signed w16 v)) (half_seen bytes at h)
  loaded_seen Lw bytes at h = word_seen bytes at h
  loaded_seen Lbu bytes at h = byte_seen bytes at (first_seen at 1 (omega arith) h)
  loaded_seen Lhu bytes at h = half_seen bytes at h

  -- ---- stores

  put_seen : (bytes : ℕ → ℕ) (at v : ℕ) → hidden at ≡ false → with_byte (laid hidden b bytes) at v ≡ laid hidden b (with_byte bytes at v)
  unfolding with_byte
  put_seen bytes at v h = fun_ext (λ a. by_same a (a == at) refl (hidden a) refl)
    where
      by_same : (a : ℕ) (e : Bool) → (a == at) ≡ e → (d : Bool) → hidden a ≡ d → cond e v (cond d (b a) (bytes a)) ≡ cond d (b a) (cond e v (bytes a))
      by_same a true e true d = let same : a ≡ at = eqb-true a at e in let no : true ≡ false = sym d ∙ (ap hidden same ∙ h) in let never : ⊥ = cc in absurd never
      by_same a true e false d = refl
      by_same a false e true d = refl
      by_same a false e false d = refl

  put_half_seen : (bytes : ℕ → ℕ) (at v : ℕ) → AreSeen hidden at 2 → with_half (laid hidden b bytes) at v ≡ laid hidden b (with_half bytes at v)
  put_half_seen bytes at v h =
      ap (λ f. with_byte f (at + 1) (v / 2 ^ 8 % 256)) (put_seen bytes at (v % 256) (first_seen at 2 (omega arith) h))
      ∙ put_seen (with_byte bytes at (v % 256)) (at + 1) (v / 2 ^ 8 % 256) (h 1 (omega arith))

  put_word_seen : (bytes : ℕ → ℕ) (at v : ℕ) → AreSeen hidden at 4 → with_word (laid hidden b bytes) at v ≡ laid hidden b (with_word bytes at v)
  put_word_seen bytes at v h =
      let half = put_half_seen bytes at v (λ j lt. h j (omega arith)) in
      let third = put_seen (with_half bytes at v) (at + 2) (v / 2 ^ 16 % 256) (h 2 (omega arith)) in
      let fourth = put_seen (with_byte (with_half bytes at v) (at + 2) (v / 2 ^ 16 % 256)) (at + 3) (v / 2 ^ 24 % 256) (h 3 (omega arith)) in
      ap (λ f. with_byte (with_byte f (at + 2) (v / 2 ^ 16 % 256)) (at + 3) (v / 2 ^ 24 % 256)) half
      ∙ (ap (λ f. with_byte f (at + 3) (v / 2 ^ 24 % 256)) third ∙ fourth)

  pub stored_seen : (op : StoreOp) (bytes : ℕ → ℕ) (at v : ℕ) → AreSeen hidden at (store_width op) → stored op (laid hidden b bytes) at v ≡ laid hidden b (stored op bytes at v)
  stored_seen Sb bytes at v h = put_seen bytes at (v % 256) (first_seen at 1 (omega arith) h)
  stored_seen Sh bytes at v h = put_half_seen bytes at v h
  stored_seen Sw bytes at v h = put_word_seen bytes at v h

  -- ---- lists of bytes

  pub list_put_seen : (bytes : ℕ → ℕ) (at : ℕ) (xs : List ℕ) → AreSeen hidden at (length xs) → with_list (laid hidden b bytes) at xs ≡ laid hidden b (with_list bytes at xs)
  unfolding with_list
  list_put_seen bytes at [] h = refl
  list_put_seen bytes at (x ∷ xs) h =
      ap (λ f. with_list f (at + 1) xs) (put_seen bytes at x (first_seen at (length (x ∷ xs)) (omega arith) h))
      ∙ list_put_seen (with_byte bytes at x) (at + 1) xs (λ j lt. let e : at + 1 + j ≡ at + (1 + j) = omega arith in ap hidden e ∙ h (1 + j) (omega arith))

  pub list_taken_seen : (bytes : ℕ → ℕ) (at n : ℕ) → AreSeen hidden at n → list_at (laid hidden b bytes) at n ≡ list_at bytes at n
  unfolding list_at
  list_taken_seen bytes at zero h = refl
  list_taken_seen bytes at (suc n) h =
      ap (λ l. l ++ laid hidden b bytes (at + n) ∷ []) (list_taken_seen bytes at n (λ j lt. h j (omega arith)))
      ∙ ap (λ v. list_at bytes at n ++ v ∷ []) (byte_seen bytes (at + n) (h n (omega arith)))
