use Rattle.std.proofs.Common.{◌≡◌, ◌<◌, length, true, arith, sym, ◌∙◌}
use Rattle.std.specs.List.{list_all}
use Rattle.std.proofs.lemmas.Bool.Decides.{nat_tests}
use Rattle.scale_tool.specs.Numbers.{is_digit}
use Rattle.scale_tool.proofs.Digits.{parsed}
use Rattle.scale_tool.proofs.numbers.number_of.Goals as goal

pub returns : goal.returns
returns c =
    let word = c.args.word.now in
    let digits : list_all is_digit word ≡ true = sym c.are_digits.ensures ∙ c.if-not-are_digits.false in
    let some : 0 < length word = grind (arith, nat_tests) in
    c.ok.ensures.value ∙ parsed c.args.most word c.parse.result c.parse.ensures.value.0 c.requires some (omega arith) digits
