use Rattle.std.proofs.Common.{◌≡◌, ◌↔◌, ◌<◌, ◌≤◌, ◌/◌, ◌%◌, ◌-◌, length, Some, subst, arith}
use Rattle.std.proofs.lemmas.List.{get_or_read}
use Rattle.foreign_scan.specs.KeyWords.{IsWordAt}
use Rattle.foreign_scan.proofs.KeyLaws.{word_there}
use Rattle.foreign_scan.proofs.key.KeyCode.word.Goals as goal

pub returns : goal.returns
returns c =
    λ word. let f = c.self.inside in
    let even : c.args.at % 4 ≡ 0 = omega arith in
    let low : f.first ≤ c.args.at / 4 = omega arith in
    let within : c.args.at / 4 - c.from-2.result < length f.words.items = omega (arith, f.words.ok.0) in
    subst (λ image. (Some c.index.result.now ≡ Some word) ↔ IsWordAt image c.args.at word) c.self.view_is
    (word_there f.view.now f.first f.words.items c.args.at (c.args.at / 4 - c.from-2.result) c.index.result.now c.self.invariant even low (omega arith)
    within (get_or_read f.words.items _ _ within c.index.ensures 0) word)
