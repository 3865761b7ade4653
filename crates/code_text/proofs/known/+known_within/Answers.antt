use Rattle.std.proofs.Common.{◌≡◌, ◌-◌, sym, ap, ◌∙◌, arith, Some, None}
use Rattle.code_text.specs.Text.{text_of, known_within, known_behind, instr_at}
use Rattle.code_text.proofs.KnownRows.{known_none, known_shut, known_open, before, is_word}
use Rattle.code_text.proofs.known.+known_within.Goals as goal

pub returns-then-words-eq0 : goal.returns-then-words-eq0
returns-then-words-eq0 n c = sym (ap (λ n. known_within (text_of c.args.view.now) n c.args.at) c.if-words-eq0.true ∙ known_none (text_of c.args.view.now) c.args.at)

pub returns-then-is_shut : goal.returns-then-is_shut
returns-then-is_shut n c =
    sym (known_shut c.args.view.now c.args.range c.args.targets.now c.args.words c.args.at c.requires.range c.requires.targets c.requires.inside (sym c.is_shut.ensures ∙ c.if-is_shut.true))

pub returns-in-Some : goal.returns-in-Some
returns-in-Some n c =
    let image = c.args.view.now in
    let open_here = sym c.is_shut.ensures ∙ c.if-is_shut.false in
    let some = c.if-words-eq0.false in
    let aligned = c.requires.aligned in
    let k = known_open image c.args.range c.args.targets.now c.args.words c.args.at c.requires.range c.requires.targets c.requires.inside open_here (omega (arith, some)) in
    let word = is_word image c.args.range (c.args.at - 4) c.requires.range (omega (arith, aligned)) (before c.args.range c.args.targets.now c.args.at c.requires.inside open_here) in
    let read : Some c.in-Some.instr ≡ instr_at (text_of image) (c.args.at - 4) = c.in-Some.ensures.text word in
    c.behind.ensures ∙ ap (λ b. known_behind (Some c.in-Some.instr) b) c.known_within.ensures ∙ ap (λ o. known_behind o (known_within (text_of image) (c.args.words - 1) (c.args.at - 4))) read ∙ sym k

pub returns-in-None : goal.returns-in-None
returns-in-None n c =
    let image = c.args.view.now in
    let open_here = sym c.is_shut.ensures ∙ c.if-is_shut.false in
    let some = c.if-words-eq0.false in
    let aligned = c.requires.aligned in
    let k = known_open image c.args.range c.args.targets.now c.args.words c.args.at c.requires.range c.requires.targets c.requires.inside open_here (omega (arith, some)) in
    let word = is_word image c.args.range (c.args.at - 4) c.requires.range (omega (arith, aligned)) (before c.args.range c.args.targets.now c.args.at c.requires.inside open_here) in
    let read : None ≡ instr_at (text_of image) (c.args.at - 4) = c.in-None.ensures.text word in
    ap (λ o. known_behind o (known_within (text_of image) (c.args.words - 1) (c.args.at - 4))) read ∙ sym k
