-- Loops over the bars of a run: what is written or counted, and what is to come.
use Rattle.std.proofs.Common.{◌≡◌, ℕ, suc, ◌+◌, ◌*◌, ◌^◌, ◌<◌, ◌≤◌, cond, List, [], ◌∷◌, ◌++◌, length, get_or, drop, append_assoc, append-nil, refl, sym, ap, ◌∙◌, subst, arith, add-one, drop-cons}
use Rattle.std.proofs.lemmas.List.{drop_all}
use Rattle.std.specs.Prelude.{Option, Some, None, option_map, unwrap_or, ◌-◌}
use Rattle.std.specs.List.{last_or, slice_get}
use Rattle.power_model.specs.declared.power.Level.{Level}
use Rattle.run_stretches.specs.declared.bars.BarEnd.{BarEnd}
use Rattle.run_pictures.specs.declared.axes.Axis.{Axis}
use Rattle.run_pictures.specs.PictureTexts.{all_stretches, bar_rect, bar_rects, merged_in, hatched_in, merged_from, hatched_from}

next : (ends : List BarEnd) (i : ℕ) (d : BarEnd) → i < length ends → drop i ends ≡ get_or ends i d ∷ drop (i + 1) ends
next ends i d lt = rw add-one (drop-cons ends i d lt)

module _ (axis : Axis) (levels : List Level) (base : ℕ) where
  one_rect : (begin bar : BarEnd) (bars : List BarEnd) → bar_rects axis levels base begin (bar ∷ bars) ≡ bar_rect axis levels base begin bar ++ bar_rects axis levels base bar bars
  unfolding bar_rects
  one_rect begin bar bars = refl

  no_rect : (begin : BarEnd) → bar_rects axis levels base begin [] ≡ []
  unfolding bar_rects
  no_rect begin = refl

  pub rects-more : (begin : BarEnd) (ends : List BarEnd) (i : ℕ) (d : BarEnd) (old text new : List ℕ) → i < length ends → new ≡ text ++ bar_rect axis levels base begin (get_or ends i d)
      → text ++ bar_rects axis levels base begin (drop i ends) ≡ old → new ++ bar_rects axis levels base (get_or ends i d) (drop (i + 1) ends) ≡ old
  rects-more begin ends i d old text new lt h e =
      let bar : BarEnd = get_or ends i d in
      ap (λ (t : List ℕ). t ++ bar_rects axis levels base bar (drop (i + 1) ends)) h
      ∙ append_assoc text (bar_rect axis levels base begin bar) (bar_rects axis levels base bar (drop (i + 1) ends))
      ∙ ap (λ (t : List ℕ). text ++ t) (sym (one_rect begin bar (drop (i + 1) ends)) ∙ ap (bar_rects axis levels base begin) (sym (next ends i d lt))) ∙ e

  pub rects-all : (begin : BarEnd) (ends : List BarEnd) (i : ℕ) (old text : List ℕ) → length ends ≤ i → text ++ bar_rects axis levels base begin (drop i ends) ≡ old → text ≡ old
  rects-all begin ends i old text le e =
      sym (append-nil text) ∙ ap (λ (t : List ℕ). text ++ t) (sym (no_rect begin) ∙ ap (bar_rects axis levels base begin) (sym (drop_all i ends le))) ∙ e

-- ---- merged

merged-next : (begin : BarEnd) (ends : List BarEnd) (i : ℕ) (d : BarEnd) → i < length ends → merged_from begin (drop i ends) ≡ merged_in begin (get_or ends i d) + merged_from (get_or ends i d) (drop (i + 1) ends)
unfolding merged_from
merged-next begin ends i d lt = ap (merged_from begin) (next ends i d lt)

pub merged-more : (begin : BarEnd) (ends : List BarEnd) (i : ℕ) (d : BarEnd) (sum more all : ℕ) → i < length ends → more ≡ merged_in begin (get_or ends i d) → sum + merged_from begin (drop i ends) ≡ all
    → (sum + more) + merged_from (get_or ends i d) (drop (i + 1) ends) ≡ all
merged-more begin ends i d sum more all lt is e =
    let step = merged-next begin ends i d lt in
    omega (arith, step, is, e)

pub merged-all : (begin : BarEnd) (ends : List BarEnd) (i sum all : ℕ) → length ends ≤ i → sum + merged_from begin (drop i ends) ≡ all → sum ≡ all
unfolding merged_from
merged-all begin ends i sum all le e =
    let none : merged_from begin (drop i ends) ≡ 0 = ap (merged_from begin) (drop_all i ends le) in
    omega (arith, none, e)

-- ---- hatched

hatched-next : (begin : BarEnd) (ends : List BarEnd) (i : ℕ) (d : BarEnd) → i < length ends → hatched_from begin (drop i ends) ≡ hatched_in begin (get_or ends i d) + hatched_from (get_or ends i d) (drop (i + 1) ends)
unfolding hatched_from
hatched-next begin ends i d lt = ap (hatched_from begin) (next ends i d lt)

pub hatched-more : (begin : BarEnd) (ends : List BarEnd) (i : ℕ) (d : BarEnd) (sum more all : ℕ) → i < length ends → more ≡ hatched_in begin (get_or ends i d) → sum + hatched_from begin (drop i ends) ≡ all
    → (sum + more) + hatched_from (get_or ends i d) (drop (i + 1) ends) ≡ all
hatched-more begin ends i d sum more all lt is e =
    let step = hatched-next begin ends i d lt in
    omega (arith, step, is, e)

pub hatched-all : (begin : BarEnd) (ends : List BarEnd) (i sum all : ℕ) → length ends ≤ i → sum + hatched_from begin (drop i ends) ≡ all → sum ≡ all
unfolding hatched_from
hatched-all begin ends i sum all le e =
    let none : hatched_from begin (drop i ends) ≡ 0 = ap (hatched_from begin) (drop_all i ends le) in
    omega (arith, none, e)

-- ---- the last bar

last_at : (bar : BarEnd) (bars : List BarEnd) → slice_get (bar ∷ bars) (length bars) ≡ last_or (Some bar) bars
last_at bar [] = refl
last_at bar (more ∷ bars) = last_at more bars

pub all_of_last : (ends : List BarEnd) (last : BarEnd) → Some last ≡ slice_get ends (length ends - 1) → last.stretches ≡ all_stretches ends
all_of_last [] last e = absurd cc
all_of_last (bar ∷ bars) last e = ap (λ (o : Option BarEnd). unwrap_or (option_map (λ bar. bar.stretches) o) 0) (e ∙ ap (slice_get (bar ∷ bars)) (let n : length (bar ∷ bars) - 1 ≡ length bars = omega arith in n) ∙ last_at bar bars)
