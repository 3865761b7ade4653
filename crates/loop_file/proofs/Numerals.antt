-- What parsing a number gives.
use Rattle.std.proofs.Common.{◌≡◌, ◌≢◌, ◌==◌, ◌&&◌, Bool, nat_lt, subst, ℕ, ◌^◌, ◌<◌, List, [], ◌∷◌, Some, None, Result, Ok, Err, length, cond, true, false, refl, ap, arith, option_and_then}
use Rattle.std.specs.Result.{OkIff, result_ok}
use Rattle.std.specs.Char.{digit_value}
use Rattle.std.specs.Str.Parse.{AllDigits, IsNumeral, digits_value, without_leading_plus, ParsesUnsigned}
use Rattle.std.proofs.lemmas.Bool.{lt-ltb, ltb-true, false≢true}
use Rattle.std.proofs.lemmas.Bool.Decides.{nat_tests}
use Rattle.loop_file.specs.Addresses.{HasNoPlus, all_digits, numeral, address_within}

and_parts : (a b : Bool) → (a && b) ≡ true → (a ≡ true) × (b ≡ true)
and_parts true b h = (refl, h)
and_parts false b h = absurd (false≢true h)

all_digits-from : (base : ℕ) (text : List ℕ) → AllDigits base text → all_digits base text ≡ true
all_digits-from base [] h = refl
all_digits-from base (c ∷ cs) h = rw (lt-ltb (digit_value c) base h.0) (all_digits-from base cs h.1)

AllDigits-from : (base : ℕ) (text : List ℕ) → all_digits base text ≡ true → AllDigits base text
AllDigits-from base [] h = tt
AllDigits-from base (c ∷ cs) h = let parts = and_parts _ _ h in (ltb-true _ _ parts.0, AllDigits-from base cs parts.1)

plain : (text : List ℕ) → HasNoPlus text → without_leading_plus text ≡ text
plain [] none = refl
plain (c ∷ cs) none = let other : (c == 43) ≡ false = (let h : c ≢ 43 = none 0 (omega arith) in grind (arith, nat_tests)) in rw other

unread : (base : ℕ) (text : List ℕ) → (IsNumeral base text × (digits_value base text < 2 ^ 32) → ⊥) → None ≡ option_and_then address_within (numeral base text)
unread base text h =
    elim (nat_lt 0 (length text)) as (λ b. nat_lt 0 (length text) ≡ b → None ≡ option_and_then address_within (cond (b && all_digits base text) (Some (digits_value base text)) None)) [
      | false ↦ λ _. refl
      | true ↦ λ some.
          elim (all_digits base text) as (λ d. all_digits base text ≡ d → None ≡ option_and_then address_within (cond d (Some (digits_value base text)) None)) [
            | false ↦ λ _. refl
            | true ↦ λ digits.
                elim (nat_lt (digits_value base text) (2 ^ 32)) as (λ e. nat_lt (digits_value base text) (2 ^ 32) ≡ e → None ≡ cond e (Some (digits_value base text)) None) [
                  | false ↦ λ _. refl
                  | true ↦ λ small. absurd (h ((ltb-true _ _ some, AllDigits-from base text digits), ltb-true _ _ small))
                ] refl
          ] refl
    ] refl

parsed : {E : Type 0} (base : ℕ) (text : List ℕ) (r : Result ℕ E) → OkIff r (IsNumeral base text × (digits_value base text < 2 ^ 32)) (digits_value base text)
    → result_ok r ≡ option_and_then address_within (numeral base text)
parsed base text (Ok v) h =
    rw (lt-ltb 0 (length text) h.0.0.0, all_digits-from base text h.0.0.1, lt-ltb (digits_value base text) (2 ^ 32) h.0.1) (ap Some h.1)
parsed base text (Err e) h = unread base text h

pub parsed_plain : {E : Type 0} (base : ℕ) (text : List ℕ) (r : Result ℕ E) → HasNoPlus text → ParsesUnsigned 32 base text r
    → result_ok r ≡ option_and_then address_within (numeral base text)
parsed_plain base text r none h =
    let P : List ℕ → Type 0 = λ t. OkIff r (IsNumeral base t × (digits_value base t < 2 ^ 32)) (digits_value base t) in
    parsed base text r (subst P (plain text none) h)
