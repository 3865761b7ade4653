use Rattle.std.proofs.Common.{List, ℕ, ◌++◌, ap, take_all, sym, ◌∙◌, string_bytes}
use Rattle.std.proofs.lemmas.List.{append-nil}
use Rattle.pace_tool.specs.Texts.{tally_lines}
use Rattle.pace_tool.proofs.SwitchLines.{tallies-more}
use Rattle.pace_tool.proofs.texts.push_tallies.Goals as goal

pub loop-header-init : goal.loop-header-init
loop-header-init c = sym (append-nil (string_bytes c.args.text.now))

pub loop-header-preserved : goal.loop-header-preserved
loop-header-preserved c =
    c.in_ok-push_tally.ensures
    ∙ tallies-more (string_bytes c.args.text.now) (string_bytes c.loop-header.text) c.args.headers.now c.loop-header.header-index _ c.loop-header-test.true c.loop-header.invariant

pub returns : goal.returns
returns c =
    c.loop-header.invariant
    ∙ ap (λ (headers : List ℕ). string_bytes c.args.text.now ++ tally_lines headers)
    (take_all c.loop-header.header-index c.args.headers.now c.loop-header-test.false)
