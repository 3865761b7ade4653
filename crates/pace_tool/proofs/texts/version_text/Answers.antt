use Rattle.std.proofs.Common.{◌≡◌, ◌∙◌, ◌++◌, ℕ, List, ap, string_bytes}
use Rattle.std.specs.Prelude.{codes}
use Rattle.scale_report.specs.Texts.{number_line}
use Rattle.pace_tool.specs.Texts.{guard_words, limit_line}
use Rattle.pace_tool.proofs.texts.version_text.Goals as goal

pub returns : goal.returns
returns c =
    let chosen = c.args.chosen.now in
    let guard : List ℕ = guard_words chosen.version in
    let limit : List ℕ = limit_line chosen.version in
    let energy : List ℕ = number_line (codes "plain energy ") chosen.without.energy in
    let held : List ℕ = number_line (codes "plain hold energy ") chosen.without.hold_energy in
    let first : string_bytes c.push_guard.new.text ≡ guard = c.in_ok-push_guard.ensures ∙ ap (λ (text : List ℕ). text ++ guard) c.new-text.ensures.bytes in
    let second : string_bytes c.push_limit.new.text ≡ guard ++ limit = c.in_ok-push_limit.ensures ∙ ap (λ (text : List ℕ). text ++ limit) first in
    let third : string_bytes c.push_number.new.text ≡ (guard ++ limit) ++ energy = c.in_ok-push_number.ensures ∙ ap (λ (text : List ℕ). text ++ energy) second in
    c.in_ok-push_number-2.ensures ∙ ap (λ (text : List ℕ). text ++ held) third
