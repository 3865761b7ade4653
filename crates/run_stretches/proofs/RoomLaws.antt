-- There are at most 512 bars, and each of up to 512 stretches has its own.
use Rattle.std.proofs.Common.{◌≡◌, ℕ, ◌+◌, ◌<◌, ◌≤◌, Bool, true, false, cond, List, [], ◌∷◌, ◌++◌, length, Option, Some, None, ◌⊎◌, ⊎_elim, inl, inr, refl, sym, ap, ◌∙◌, subst, arith, append-nil, length-append}
use Rattle.std.specs.Prelude.{◌-◌, ◌||◌, not, nat_lt, option_to_list}
use Rattle.std.specs.List.{fold}
use Rattle.std.proofs.lemmas.Bool.{cond_both, ltb-true, ltb-false, le-ltb}
use Rattle.scale_base.specs.declared.stepping.Stepped.{Stepped}
use Rattle.power_model.specs.Numbers.{PowerModel, RunPrice}
use Rattle.run_stretches.specs.declared.bars.BarEnd.{BarEnd}
use Rattle.run_stretches.specs.Recorded.{BarList, no_bars, all_bars, longer, has_room, is_short, put_behind, put, squeezed, grain_at, added}
use Rattle.run_stretches.proofs.BarLaws.{HoldsLast, Holds}

abbrev pub AreFew : BarList → Type 0
AreFew b = length b.done ≤ 511

-- each stretch has a bar of its own, or there are more than 512 of them
abbrev pub IsFine : List (List Stepped) → BarList → Type 0
IsFine ss b = ((b.grain ≡ 0) × (length (all_bars b) ≡ length ss)) ⊎ (512 < length ss)

open_room : (room : Bool) → not room ≡ false → room ≡ true
open_room true e = refl
open_room false e = absurd cc

put_few_behind : (b : BarList) (last : Option BarEnd) (end : BarEnd) → AreFew b → AreFew (put_behind b last end)
put_few_behind b None end few = few
put_few_behind b (Some bar) end few =
    elim (is_short b end) as (λ t. AreFew (cond (t || not (has_room b)) (record b { last = Some (longer bar end) }) (record { done = b.done ++ bar ∷ []; last = Some end; begin = bar.time; grain = b.grain }))) [
      | true ↦ few
      | false ↦ cond_both (not (has_room b)) _ _ AreFew (λ _. few)
          (λ full. let room : length b.done < 511 = ltb-true (length b.done) 511 (open_room (has_room b) full) in
          let long : length (b.done ++ bar ∷ []) ≡ length b.done + 1 = length-append b.done (bar ∷ []) in
          let r : length (b.done ++ bar ∷ []) ≤ 511 = omega (arith, long, room) in r)
    ]

pub put_few : (b : BarList) (end : BarEnd) → AreFew b → AreFew (put b end)
unfolding put
put_few b end few = put_few_behind b b.last end few

all_few : (bars : List BarEnd) (b : BarList) → AreFew b → AreFew (fold put b bars)
all_few [] b few = few
all_few (x ∷ xs) b few = all_few xs (put b x) (put_few b x few)

squeezed_few : (b : BarList) (grain : ℕ) → AreFew (squeezed b grain)
unfolding squeezed
squeezed_few b grain = all_few (all_bars b) (no_bars grain) (let r : 0 ≤ 511 = omega arith in r)

pub added_few : (b : BarList) (end : BarEnd) → AreFew b → AreFew (added b end)
unfolding added
added_few b end few = put_few _ end (cond_both (has_room b) b (squeezed b (grain_at end.time)) AreFew (λ _. few) (λ _. squeezed_few b (grain_at end.time)))

-- ---- a bar more

-- with no grain no bar is short
abbrev IsOneMore : BarList → BarList → Type 0
IsOneMore b c = (c.grain ≡ 0) × (length (all_bars c) ≡ length (all_bars b) + 1)

grows_behind : (b : BarList) (last : Option BarEnd) (end : BarEnd) → b.grain ≡ 0 → has_room b ≡ true → last ≡ b.last → IsOneMore b (put_behind b last end)
grows_behind b None end none room same =
    let empty : all_bars b ≡ b.done = ap (λ (o : Option BarEnd). b.done ++ option_to_list o) (sym same) ∙ append-nil b.done in
    let long : length (b.done ++ end ∷ []) ≡ length b.done + 1 = length-append b.done (end ∷ []) in
    (none, long ∙ ap (λ (l : List BarEnd). length l + 1) (sym empty))
grows_behind b (Some bar) end none room same =
    let all : all_bars b ≡ b.done ++ bar ∷ [] = ap (λ (o : Option BarEnd). b.done ++ option_to_list o) (sym same) in
    let long : length ((b.done ++ bar ∷ []) ++ end ∷ []) ≡ length (b.done ++ bar ∷ []) + 1 = length-append (b.done ++ bar ∷ []) (end ∷ []) in
    let own : IsOneMore b (record { done = b.done ++ bar ∷ []; last = Some end; begin = bar.time; grain = b.grain }) = (none, long ∙ ap (λ (l : List BarEnd). length l + 1) (sym all)) in
    let short : is_short b end ≡ false = ap (nat_lt (end.time - b.begin)) none ∙ le-ltb (end.time - b.begin) 0 (let r : 0 ≤ end.time - b.begin = omega arith in r) in
    let test : (is_short b end || not (has_room b)) ≡ false = ap (λ t. t || not (has_room b)) short ∙ ap not room in
    subst (λ t. IsOneMore b (cond t (record b { last = Some (longer bar end) }) (record { done = b.done ++ bar ∷ []; last = Some end; begin = bar.time; grain = b.grain }))) (sym test) own

grows : (b : BarList) (end : BarEnd) → b.grain ≡ 0 → has_room b ≡ true → IsOneMore b (put b end)
unfolding put
grows b end none room = grows_behind b b.last end none room refl

more_than : (ss g : List (List Stepped)) → 512 < length ss → 512 < length (ss ++ g)
more_than ss g h = let long : length (ss ++ g) ≡ length ss + length g = length-append ss g in omega (arith, long, h)

-- full of bars that are one stretch each: so many stretches there are
full : (power : PowerModel) (first : RunPrice) (ss : List (List Stepped)) (b : BarList) (last : Option BarEnd) → last ≡ b.last → HoldsLast power first ss b.done last → has_room b ≡ false
    → length (all_bars b) ≡ length ss → 512 ≤ length ss
full power first ss b None same h room count =
    let least : 511 ≤ length b.done = ltb-false (length b.done) 511 room in
    let none : length b.done ≡ 0 = ap length h.1 in
    absurd (let r : ⊥ = omega (arith, least, none) in r)
full power first ss b (Some bar) same h room count =
    let least : 511 ≤ length b.done = ltb-false (length b.done) 511 room in
    let all : all_bars b ≡ b.done ++ bar ∷ [] = ap (λ (o : Option BarEnd). b.done ++ option_to_list o) (sym same) in
    let long : length (b.done ++ bar ∷ []) ≡ length b.done + 1 = length-append b.done (bar ∷ []) in
    let size : length ss ≡ length (b.done ++ bar ∷ []) = sym count ∙ ap length all in
    omega (arith, least, long, size)

pub added_fine : (power : PowerModel) (first : RunPrice) (ss : List (List Stepped)) (s : List Stepped) (b : BarList) (end : BarEnd) → Holds power first ss b → IsFine ss b → IsFine (ss ++ s ∷ []) (added b end)
unfolding added
added_fine power first ss s b end h fine =
    let long : length (ss ++ s ∷ []) ≡ length ss + 1 = length-append ss (s ∷ []) in
    cond_both (has_room b) b (squeezed b (grain_at end.time)) (λ c. IsFine (ss ++ s ∷ []) (put c end))
    (λ room. ⊎_elim
    (λ (own : (b.grain ≡ 0) × (length (all_bars b) ≡ length ss)). let g = grows b end own.0 room in inl (g.0, g.1 ∙ ap (λ n. n + 1) own.1 ∙ sym long))
    (λ (many : 512 < length ss). inr (more_than ss (s ∷ []) many))
    fine)
    (λ room. ⊎_elim
    (λ (own : (b.grain ≡ 0) × (length (all_bars b) ≡ length ss)). let most : 512 ≤ length ss = full power first ss b b.last refl h room own.1 in inr (let r : 512 < length (ss ++ s ∷ []) = omega (arith, long, most) in r))
    (λ (many : 512 < length ss). inr (more_than ss (s ∷ []) many))
    fine)
