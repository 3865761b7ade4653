-- The last `+` of a text.
use Rattle.std.proofs.Common.{◌≡◌, ◌≢◌, ◌==◌, ℕ, suc, List, [], ◌∷◌, ◌++◌, Some, None, take, drop, refl, sym, ◌∙◌, arith, false, lit<}
use Rattle.std.proofs.lemmas.List.{take-append-drop}
use Rattle.std.proofs.lemmas.Str.Pattern.{NoCharPasses-char, drop_at_char}
use Rattle.std.specs.Str.{NoCharPasses}
use Rattle.std.specs.Str.Pattern.{HasCharAt}
use Rattle.std.proofs.lemmas.Bool.Decides.{nat_tests}
use Rattle.loop_file.specs.Addresses.{HasNoPlus, split_last}

pub split_last-none : (text : List ℕ) → HasNoPlus text → split_last text ≡ None
split_last-none [] none = refl
split_last-none (c ∷ cs) none =
    let rest : HasNoPlus cs = λ k h. none (suc k) (omega arith) in
    let other : c ≢ 43 = none 0 (omega arith) in
    let test : (c == 43) ≡ false = grind (arith, nat_tests) in
    rw (split_last-none cs rest, test)

split_last-at : (front back : List ℕ) → split_last back ≡ None → split_last (front ++ 43 ∷ back) ≡ Some (front, back)
split_last-at [] back none = rw none
split_last-at (c ∷ cs) back none = rw (split_last-at cs back none)

split_last-found : (text front back : List ℕ) (i : ℕ) → front ≡ take i text → drop i text ≡ 43 ∷ back → HasNoPlus back → split_last text ≡ Some (front, back)
split_last-found text front back i before after none =
    let whole : text ≡ front ++ 43 ∷ back = sym (take-append-drop i text) ∙ rw (← before, after) refl in
    rw whole (split_last-at front back (split_last-none back none))

pub no_plus : (text : List ℕ) → NoCharPasses (λ d. d == 43) text → HasNoPlus text
no_plus text none = λ k h. NoCharPasses-char 43 text k none (lit< tt) h

pub split_found : (text front back : List ℕ) (i j : ℕ) → NoCharPasses (λ d. d == 43) (drop j text) → HasCharAt 43 text i j → front ≡ take i text → back ≡ drop j text
    → (split_last text ≡ Some (front, back)) × HasNoPlus back
split_found text front back i j none here before after =
    let behind : HasNoPlus back = rw after (no_plus (drop j text) none) in
    (split_last-found text front back i before (rw after (drop_at_char 43 text i j here (lit< tt))) behind, behind)
