-- One more line of a list of switches, and the parts of the whole text.
use Rattle.std.proofs.Common.{◌≡◌, ℕ, ◌+◌, ◌<◌, List, ◌++◌, length, get_or, take, sym, ap, ◌∙◌}
use Rattle.std.specs.List.{flat_map}
use Rattle.std.proofs.lemmas.List.{take_more, flat_map_more}
use Rattle.paced_images.specs.declared.wanted.SwitchSite.{SwitchSite}
use Rattle.pace_tool.specs.Texts.{switch_line, switch_lines, tally_line, tally_lines}

pub lines-more : (text now : List ℕ) (sites : List SwitchSite) (k : ℕ) (d : SwitchSite) → k < length sites → now ≡ text ++ switch_lines (take k sites)
    → now ++ switch_line (get_or sites k d) ≡ text ++ switch_lines (take (k + 1) sites)
lines-more text now sites k d h so_far =
    ap (λ (t : List ℕ). t ++ switch_line (get_or sites k d)) so_far
    ∙ flat_map_more switch_line text (take k sites) (get_or sites k d)
    ∙ ap (λ (xs : List SwitchSite). text ++ flat_map switch_line xs) (sym (take_more sites k d h))

pub tallies-more : (text now : List ℕ) (headers : List ℕ) (k d : ℕ) → k < length headers → now ≡ text ++ tally_lines (take k headers)
    → now ++ tally_line (get_or headers k d) ≡ text ++ tally_lines (take (k + 1) headers)
tallies-more text now headers k d h so_far =
    ap (λ (t : List ℕ). t ++ tally_line (get_or headers k d)) so_far
    ∙ flat_map_more tally_line text (take k headers) (get_or headers k d)
    ∙ ap (λ (xs : List ℕ). text ++ flat_map tally_line xs) (sym (take_more headers k d h))

-- ---- the parts of a text

-- a text to which eight parts are added, one after another
pub glued : (s a b c d e f g h t t1 t2 t3 t4 t5 t6 t7 t8 : List ℕ) → t ≡ s → t1 ≡ t ++ a → t2 ≡ t1 ++ b → t3 ≡ t2 ++ c → t4 ≡ t3 ++ d → t5 ≡ t4 ++ e → t6 ≡ t5 ++ f → t7 ≡ t6 ++ g → t8 ≡ t7 ++ h
    → t8 ≡ (((((((s ++ a) ++ b) ++ c) ++ d) ++ e) ++ f) ++ g) ++ h
glued s a b c d e f g h t t1 t2 t3 t4 t5 t6 t7 t8 h0 h1 h2 h3 h4 h5 h6 h7 h8 =
    let i1 : t1 ≡ s ++ a = h1 ∙ ap (λ (x : List ℕ). x ++ a) h0 in
    let i2 : t2 ≡ (s ++ a) ++ b = h2 ∙ ap (λ (x : List ℕ). x ++ b) i1 in
    let i3 : t3 ≡ ((s ++ a) ++ b) ++ c = h3 ∙ ap (λ (x : List ℕ). x ++ c) i2 in
    let i4 : t4 ≡ (((s ++ a) ++ b) ++ c) ++ d = h4 ∙ ap (λ (x : List ℕ). x ++ d) i3 in
    let i5 : t5 ≡ ((((s ++ a) ++ b) ++ c) ++ d) ++ e = h5 ∙ ap (λ (x : List ℕ). x ++ e) i4 in
    let i6 : t6 ≡ (((((s ++ a) ++ b) ++ c) ++ d) ++ e) ++ f = h6 ∙ ap (λ (x : List ℕ). x ++ f) i5 in
    let i7 : t7 ≡ ((((((s ++ a) ++ b) ++ c) ++ d) ++ e) ++ f) ++ g = h7 ∙ ap (λ (x : List ℕ). x ++ g) i6 in
    h8 ∙ ap (λ (x : List ℕ). x ++ h) i7
