use Rattle.std.proofs.Common.{◌≡◌, ◌+◌, ◌*◌, get_or, refl, sym, arith}
use Rattle.std.proofs.lemmas.Option.{slice_get-get_or}
use Rattle.image_maker.specs.declared.line.Line.TheVariants.{Label}
use Rattle.image_maker.specs.Assembling.{line_address}
use Rattle.image_maker.proofs.LabelLaws.{item}
use Rattle.image_maker.proofs.WordLaws.{line_means, label_passed, word_pushed, first_unfit}
use Rattle.image_maker.proofs.words.push_line.Goals as goal

pub returns-in_default-clause-words : goal.returns-in_default-clause-words
returns-in_default-clause-words c =
    let lines = c.args.lines.now in
    let x = get_or lines c.args.k (Label 0) in
    label_passed lines c.args.table.now c.args.k (65536 + 4 * c.len.result) x c.args.words.now.items c.requires.within (item lines c.args.k (Label 0) x c.requires.within refl) (slice_get-get_or lines c.args.k (Label 0) c.requires.within)
    c.requires.labels c.requires.table (sym c.in_default.ensures) c.requires.words

pub returns-in_default-encode-clause-refused : goal.returns-in_default-encode-clause-refused
returns-in_default-encode-clause-refused c =
    let lines = c.args.lines.now in
    let at : 65536 + 4 * c.len.result ≡ line_address lines c.args.k = omega (arith, c.len.ensures, c.args.words.now.ok.0, c.requires.words.count) in
    let meant = line_means lines c.args.table.now c.args.k (65536 + 4 * c.len.result) (get_or lines c.args.k (Label 0)) c.in-Some.instr c.requires.labels c.requires.table (slice_get-get_or lines c.args.k (Label 0) c.requires.within) at (sym c.in-Some.ensures) in
    (c.requires.labels, first_unfit lines c.args.k c.in-Some.instr c.args.words.now.items meant c.in_default-encode.ensures.none c.requires.words)

pub returns-clause-words : goal.returns-clause-words
returns-clause-words c =
    let lines = c.args.lines.now in
    let x = get_or lines c.args.k (Label 0) in
    let at : 65536 + 4 * c.len.result ≡ line_address lines c.args.k = omega (arith, c.len.ensures, c.args.words.now.ok.0, c.requires.words.count) in
    let meant = line_means lines c.args.table.now c.args.k (65536 + 4 * c.len.result) x c.in-Some.instr c.requires.labels c.requires.table (slice_get-get_or lines c.args.k (Label 0) c.requires.within) at (sym c.in-Some.ensures) in
    rw c.in_ok-push.ensures.items (word_pushed lines c.args.k c.in-Some-encode.word x c.in-Some.instr c.args.words.now.items c.requires.within (item lines c.args.k (Label 0) x c.requires.within refl) meant c.in-Some-encode.ensures.found c.requires.words)
