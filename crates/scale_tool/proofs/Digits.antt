-- What a word of decimal digits is parsed to.
use Rattle.std.proofs.Common.{◌≡◌, ℕ, ◌+◌, ◌-◌, ◌*◌, ◌^◌, ◌<◌, ◌≤◌, true, List, length, sym, ap, ◌∙◌, arith, rules}
use Rattle.std.specs.Prelude.{Some, Result, fold}
use Rattle.std.specs.List.{list_all}
use Rattle.std.specs.Result.{result_ok}
use Rattle.std.specs.Str.Parse.{ParsesUnsigned}
use Rattle.std.proofs.lemmas.Str.Parse.{IsNumeralModel, numerals_by_fold, parse_gives, digits_value_short}
use Rattle.std.proofs.lemmas.Bool.Decides.{nat_tests}
use Rattle.scale_tool.specs.Numbers.{is_digit, digits_value, digits_number}

abbrev value_after : ℕ → List ℕ → ℕ
value_after value digits = fold (λ v digit. v * 10 + (digit - 48)) value digits

own : IsNumeralModel (λ ds. list_all is_digit ds ≡ true) (value_after 0)
own = numerals_by_fold _ (search rules) value_after (search rules)

-- 38 digits have less than 128 bits
fits : (word : List ℕ) → list_all is_digit word ≡ true → length word ≤ 38 → digits_value word < 2 ^ 128
fits word digits short =
    let small : digits_value word < 10 ^ 38 = digits_value_short own word 38 digits short in
    omega arith

number_here : (most : ℕ) (word : List ℕ) → 0 < length word → length word ≤ most → list_all is_digit word ≡ true → digits_number most word ≡ Some (digits_value word)
number_here most word some short digits = rw digits (grind (arith, nat_tests))

pub parsed : {E : Type 0} (most : ℕ) (word : List ℕ) (r : Result ℕ E) → ParsesUnsigned 128 10 word r → most ≤ 38 → 0 < length word → length word ≤ most → list_all is_digit word ≡ true →
    result_ok r ≡ digits_number most word
parsed most word r parses few some short digits =
    ap result_ok (parse_gives own 128 word r parses digits some (fits word digits (omega arith))) ∙ sym (number_here most word some short digits)
