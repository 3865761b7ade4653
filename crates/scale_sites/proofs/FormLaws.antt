-- The marks that stand in place of others: what they are, that they are no more, and what they do to the counters.
use Rattle.std.proofs.Common.{◌≡◌, ◌≢◌, ℕ, suc, ◌+◌, ◌≤◌, Bool, true, false, cond, List, [], ◌∷◌, ◌++◌, map, length, length-append, Option, Some, None, refl, sym, ap, ◌∙◌, subst, arith, eqb-true, eq-eqb, ne_eqb}
use Rattle.std.specs.Prelude.{All, nat_eq, ◌==◌, ◌&&◌, ◌||◌, if◌then◌else◌}
use Rattle.std.specs.List.{flat_map}
use Rattle.std.proofs.lemmas.List.Elements.{All-nil, All-cons, All-append, All-tail}
use Rattle.cost_theory.specs.Graph.{Graph, any_below}
use Rattle.scale_base.specs.declared.fragments.Mark.{Mark}
use Rattle.scale_base.specs.declared.fragments.Mark.TheVariants.{Switch, Exit, Reset, Count, Lowest, Tally}
use Rattle.scale_sites.specs.Forms.{either_counter, first_tally, behind_tally, plain_form, formed_by, formed, IsQuietMark, IsFirstAlone, FormedStoresFirst, FormedIsNoLonger, counter_after, counter_behind, FormedCountsAlike}
use Rattle.scale_sites.specs.Weights.{some_mark, is_patched, jumps_of}

all_head : (P : Mark → Type 0) (m : Mark) (ms : List Mark) → All P (m ∷ ms) → P m
all_head P m ms all = all 0 m (omega arith)

-- ---- where a tally comes from

-- a counter that is tallied first has a Count
pub first_tally_from : (P : Mark → Type 0) (tallied : ℕ → Bool) (ms : List Mark) (i : ℕ) → All P ms → first_tally tallied ms ≡ Some i → P (Count i) × (tallied i ≡ true)
first_tally_from P tallied [] i all is = let bad : ⊥ = cc in absurd bad
first_tally_from P tallied (Switch ∷ ms) i all is = first_tally_from P tallied ms i (All-tail P Switch ms all) is
first_tally_from P tallied (Exit j ∷ ms) i all is = first_tally_from P tallied ms i (All-tail P (Exit j) ms all) is
first_tally_from P tallied (Reset j ∷ ms) i all is = first_tally_from P tallied ms i (All-tail P (Reset j) ms all) is
first_tally_from P tallied (Lowest ∷ ms) i all is = first_tally_from P tallied ms i (All-tail P Lowest ms all) is
first_tally_from P tallied (Tally j ∷ ms) i all is = first_tally_from P tallied ms i (All-tail P (Tally j) ms all) is
first_tally_from P tallied (Count j ∷ ms) i all is = by (tallied j) refl (λ later. first_tally_from P tallied ms i (All-tail P (Count j) ms all) later) is
  where
    by : (b : Bool) → tallied j ≡ b → (first_tally tallied ms ≡ Some i → P (Count i) × (tallied i ≡ true)) → either_counter (cond b (Some j) None) (first_tally tallied ms) ≡ Some i → P (Count i) × (tallied i ≡ true)
    by true on rest is =
        let same : j ≡ i = cc in
        (subst (λ k. P (Count k)) same (all_head P (Count j) ms all), sym (ap tallied same) ∙ on)
    by false off rest is = rest is

-- ---- what the marks are

all_map : (P Q : Mark → Type 0) (f : Mark → Mark) (ms : List Mark) → ((m : Mark) → P m → Q (f m)) → All P ms → All Q (map f ms)
all_map P Q f [] forms all = All-nil Q
all_map P Q f (m ∷ ms) forms all = All-cons Q (f m) (map f ms) (forms m (all_head P m ms all)) (all_map P Q f ms forms (All-tail P m ms all))

all_flat : (P Q : Mark → Type 0) (f : Mark → List Mark) (ms : List Mark) → ((m : Mark) → P m → All Q (f m)) → All P ms → All Q (flat_map f ms)
all_flat P Q f [] forms all = All-nil Q
all_flat P Q f (m ∷ ms) forms all = All-append Q (f m) (flat_map f ms) (forms m (all_head P m ms all)) (all_flat P Q f ms forms (All-tail P m ms all))

-- What is so of each mark, by that of which it stands in place: a mark without a tally, one behind a tally, and a tally, which stands for a Count.
pub formed_all : (P Q : Mark → Type 0) (lowest : Bool) (tallied : ℕ → Bool) (ms : List Mark) → ((m : Mark) → P m → Q (plain_form lowest tallied m)) → ((i : ℕ) (m : Mark) → tallied i ≡ true → P m → All Q (behind_tally i m))
    → ((i : ℕ) → tallied i ≡ true → P (Count i) → Q (Tally i)) → All P ms → All Q (formed lowest tallied ms)
formed_all P Q lowest tallied ms plain behind tally all = by (first_tally tallied ms) refl
  where
    by : (o : Option ℕ) → first_tally tallied ms ≡ o → All Q (formed_by lowest tallied o ms)
    by None is = all_map P Q (plain_form lowest tallied) ms plain all
    by (Some i) is =
        let from = first_tally_from P tallied ms i all is in
        All-cons Q (Tally i) (flat_map (behind_tally i) ms) (tally i from.1 from.0) (all_flat P Q (behind_tally i) ms (λ m p. behind i m from.1 p) all)

-- ---- at most the first mark stores at the port

if_all : (P : Mark → Type 0) (b : Bool) (m : Mark) → P m → All P (if b then [] else m ∷ [])
if_all P true m p = All-nil P
if_all P false m p = All-cons P m [] p (All-nil P)

pub behind_quiet : (i : ℕ) (m : Mark) → All IsQuietMark (behind_tally i m)
behind_quiet i Switch = All-nil IsQuietMark
behind_quiet i (Exit j) = All-cons IsQuietMark (Reset j) [] tt (All-nil IsQuietMark)
behind_quiet i (Reset j) = All-cons IsQuietMark (Reset j) [] tt (All-nil IsQuietMark)
behind_quiet i (Count j) = if_all IsQuietMark (j == i) (Count j) tt
behind_quiet i Lowest = All-nil IsQuietMark
behind_quiet i (Tally j) = if_all IsQuietMark (j == i) (Count j) tt

pub plain_quiet : (lowest : Bool) (tallied : ℕ → Bool) (m : Mark) → IsQuietMark m → IsQuietMark (plain_form lowest tallied m)
plain_quiet lowest tallied Switch h = absurd h
plain_quiet lowest tallied (Exit i) h = absurd h
plain_quiet lowest tallied (Reset i) h = tt
plain_quiet lowest tallied (Count i) h = tt
plain_quiet lowest tallied Lowest h = absurd h
plain_quiet lowest tallied (Tally i) h = absurd h

pub formed_stores_first : FormedStoresFirst
formed_stores_first = λ lowest tallied ms alone. by lowest tallied ms alone (first_tally tallied ms)
  where
    plain : (lowest : Bool) (tallied : ℕ → Bool) (ms : List Mark) → IsFirstAlone ms → IsFirstAlone (map (plain_form lowest tallied) ms)
    plain lowest tallied [] alone = All-nil IsQuietMark
    plain lowest tallied (m ∷ ms) alone = all_map IsQuietMark IsQuietMark (plain_form lowest tallied) ms (plain_quiet lowest tallied) alone

    by : (lowest : Bool) (tallied : ℕ → Bool) (ms : List Mark) → IsFirstAlone ms → (o : Option ℕ) → IsFirstAlone (formed_by lowest tallied o ms)
    by lowest tallied ms alone None = plain lowest tallied ms alone
    by lowest tallied ms alone (Some i) = all_flat (λ m. Unit {0}) IsQuietMark (behind_tally i) ms (λ m u. behind_quiet i m) (λ k d lt. tt)

-- ---- they are no more

if_few : (b : Bool) (m : Mark) → length (if b then [] else m ∷ []) ≤ 1
if_few true m = omega arith
if_few false m = omega arith

behind_few : (i : ℕ) (m : Mark) → length (behind_tally i m) ≤ 1
behind_few i Switch = omega arith
behind_few i (Exit j) = omega arith
behind_few i (Reset j) = omega arith
behind_few i (Count j) = if_few (j == i) (Count j)
behind_few i Lowest = omega arith
behind_few i (Tally j) = if_few (j == i) (Count j)

flat_few : (i : ℕ) (ms : List Mark) → length (flat_map (behind_tally i) ms) ≤ length ms
flat_few i [] = omega arith
flat_few i (m ∷ ms) =
    let here = behind_few i m in
    let rest = flat_few i ms in
    let both : length (behind_tally i m ++ flat_map (behind_tally i) ms) ≡ length (behind_tally i m) + length (flat_map (behind_tally i) ms) = length-append (behind_tally i m) (flat_map (behind_tally i) ms) in
    omega (arith, here, rest, both)

-- the Count that the tally stands for leaves nothing
flat_fewer : (tallied : ℕ → Bool) (i : ℕ) (ms : List Mark) → first_tally tallied ms ≡ Some i → length (flat_map (behind_tally i) ms) + 1 ≤ length ms
flat_fewer tallied i [] is = let bad : ⊥ = cc in absurd bad
flat_fewer tallied i (Switch ∷ ms) is = let rest = flat_fewer tallied i ms is in omega (arith, rest)
flat_fewer tallied i (Exit j ∷ ms) is = let rest = flat_fewer tallied i ms is in omega (arith, rest)
flat_fewer tallied i (Reset j ∷ ms) is = let rest = flat_fewer tallied i ms is in omega (arith, rest)
flat_fewer tallied i (Lowest ∷ ms) is = let rest = flat_fewer tallied i ms is in omega (arith, rest)
flat_fewer tallied i (Tally j ∷ ms) is =
    let rest = flat_fewer tallied i ms is in
    let here = behind_few i (Tally j) in
    let both : length (behind_tally i (Tally j) ++ flat_map (behind_tally i) ms) ≡ length (behind_tally i (Tally j)) + length (flat_map (behind_tally i) ms) = length-append (behind_tally i (Tally j)) (flat_map (behind_tally i) ms) in
    omega (arith, here, rest, both)
flat_fewer tallied i (Count j ∷ ms) is = by (tallied j) (λ later. flat_fewer tallied i ms later) is
  where
    by : (b : Bool) → (first_tally tallied ms ≡ Some i → length (flat_map (behind_tally i) ms) + 1 ≤ length ms) → either_counter (cond b (Some j) None) (first_tally tallied ms) ≡ Some i → length (flat_map (behind_tally i) (Count j ∷ ms)) + 1 ≤ length (Count j ∷ ms)
    by true later is =
        let same : j ≡ i = cc in
        let on : (j == i) ≡ true = eq-eqb j i same in
        let none : behind_tally i (Count j) ≡ [] = ap (λ (b : Bool). if b then [] else Count j ∷ []) on in
        let all : flat_map (behind_tally i) (Count j ∷ ms) ≡ flat_map (behind_tally i) ms = ap (λ (xs : List Mark). xs ++ flat_map (behind_tally i) ms) none in
        let size : length (flat_map (behind_tally i) (Count j ∷ ms)) ≡ length (flat_map (behind_tally i) ms) = ap length all in
        let rest = flat_few i ms in
        omega (arith, size, rest)
    by false later is =
        let rest = later is in
        let here = behind_few i (Count j) in
        let both : length (behind_tally i (Count j) ++ flat_map (behind_tally i) ms) ≡ length (behind_tally i (Count j)) + length (flat_map (behind_tally i) ms) = length-append (behind_tally i (Count j)) (flat_map (behind_tally i) ms) in
        omega (arith, here, rest, both)

map_size : (f : Mark → Mark) (ms : List Mark) → length (map f ms) ≡ length ms
map_size f [] = refl
map_size f (m ∷ ms) = ap suc (map_size f ms)

pub formed_few : (lowest : Bool) (tallied : ℕ → Bool) (ms : List Mark) → length (formed lowest tallied ms) ≤ length ms
formed_few lowest tallied ms = by (first_tally tallied ms) refl
  where
    by : (o : Option ℕ) → first_tally tallied ms ≡ o → length (formed_by lowest tallied o ms) ≤ length ms
    by None is = let size = map_size (plain_form lowest tallied) ms in omega (arith, size)
    by (Some i) is = let size = flat_fewer tallied i ms is in omega (arith, size)

pub formed_short : (lowest : Bool) (tallied : ℕ → Bool) (ms : List Mark) (most : ℕ) → length ms ≤ most → length (formed lowest tallied ms) ≤ most
formed_short lowest tallied ms most short = let few = formed_few lowest tallied ms in omega (arith, few, short)

-- some stand just where some stood
pub formed_some : (lowest : Bool) (tallied : ℕ → Bool) (ms : List Mark) → some_mark (formed lowest tallied ms) ≡ some_mark ms
formed_some lowest tallied [] = refl
formed_some lowest tallied (m ∷ ms) = by (first_tally tallied (m ∷ ms))
  where
    by : (o : Option ℕ) → some_mark (formed_by lowest tallied o (m ∷ ms)) ≡ true
    by None = refl
    by (Some i) = refl

pub formed_no_longer : FormedIsNoLonger
formed_no_longer = λ lowest tallied ms. record { few = formed_few lowest tallied ms; some = formed_some lowest tallied ms }

-- so the same instructions are patched, and have the same jumps
pub formed_patched : (g : Graph) (lowest : ℕ → Bool) (tallied : ℕ → Bool) (marks : ℕ → List Mark) (u : ℕ) → is_patched g (λ e. formed (lowest e) tallied (marks e)) u ≡ is_patched g marks u
formed_patched g lowest tallied marks u =
    let same : (λ (e : ℕ). some_mark (formed (lowest e) tallied (marks e))) ≡ (λ e. some_mark (marks e)) = λ i e. formed_some (lowest e) tallied (marks e) i in
    ap (λ (some : ℕ → Bool). any_below g.edges (λ e. nat_eq (g.source e) u && some e)) same

pub formed_jumps : (g : Graph) (branch : ℕ → Bool) (lowest : ℕ → Bool) (tallied : ℕ → Bool) (marks : ℕ → List Mark) (e : ℕ) → jumps_of g branch (λ d. formed (lowest d) tallied (marks d)) e ≡ jumps_of g branch marks e
formed_jumps g branch lowest tallied marks e = ap (λ b. cond b (cond (branch e) 2 1) 0) (formed_patched g lowest tallied marks (g.source e))

-- ---- the counters

pub counter_behind_append : (w : ℕ) (xs ys : List Mark) (x : ℕ) → counter_behind w (xs ++ ys) x ≡ counter_behind w ys (counter_behind w xs x)
counter_behind_append w [] ys x = refl
counter_behind_append w (m ∷ xs) ys x = counter_behind_append w xs ys (counter_after m w x)

-- without a tally each mark does what it did
plain_after : (lowest : Bool) (tallied : ℕ → Bool) (m : Mark) (w x : ℕ) → counter_after (plain_form lowest tallied m) w x ≡ counter_after m w x
plain_after lowest tallied Switch w x = by lowest
  where
    by : (b : Bool) → counter_after (cond b Lowest Switch) w x ≡ x
    by true = refl
    by false = refl
plain_after lowest tallied (Exit i) w x = by (tallied i)
  where
    by : (b : Bool) → counter_after (cond b (Reset i) (Exit i)) w x ≡ counter_after (Exit i) w x
    by true = refl
    by false = refl
plain_after lowest tallied (Reset i) w x = refl
plain_after lowest tallied (Count i) w x = refl
plain_after lowest tallied Lowest w x = refl
plain_after lowest tallied (Tally i) w x = refl

plain_counts : (lowest : Bool) (tallied : ℕ → Bool) (ms : List Mark) (w x : ℕ) → counter_behind w (map (plain_form lowest tallied) ms) x ≡ counter_behind w ms x
plain_counts lowest tallied [] w x = refl
plain_counts lowest tallied (m ∷ ms) w x = ap (counter_behind w (map (plain_form lowest tallied) ms)) (plain_after lowest tallied m w x) ∙ plain_counts lowest tallied ms w (counter_after m w x)

-- a count behind a tally, in another counter than the tally's
count_after : (i j w x : ℕ) → w ≢ i → counter_behind w (if j == i then [] else Count j ∷ []) x ≡ counter_after (Count j) w x
count_after i j w x other = by (j == i) refl
  where
    by : (b : Bool) → (j == i) ≡ b → counter_behind w (if b then [] else Count j ∷ []) x ≡ counter_after (Count j) w x
    by false is = refl
    by true is =
        let same : j ≡ i = eqb-true j i is in
        let apart : (w == j) ≡ false = ne_eqb w j (λ e. other (e ∙ same)) in
        sym (ap (λ (b : Bool). if b then x + 1 else x) apart)

behind_after : (i : ℕ) (m : Mark) (w x : ℕ) → w ≢ i → counter_behind w (behind_tally i m) x ≡ counter_after m w x
behind_after i Switch w x other = refl
behind_after i (Exit j) w x other = refl
behind_after i (Reset j) w x other = refl
behind_after i (Count j) w x other = count_after i j w x other
behind_after i Lowest w x other = refl
behind_after i (Tally j) w x other = count_after i j w x other

behind_counts : (i : ℕ) (ms : List Mark) (w x : ℕ) → w ≢ i → counter_behind w (flat_map (behind_tally i) ms) x ≡ counter_behind w ms x
behind_counts i [] w x other = refl
behind_counts i (m ∷ ms) w x other =
    counter_behind_append w (behind_tally i m) (flat_map (behind_tally i) ms) x
    ∙ (ap (counter_behind w (flat_map (behind_tally i) ms)) (behind_after i m w x other) ∙ behind_counts i ms w (counter_after m w x) other)

-- whether a mark sets a counter to 0
clears : ℕ → Mark → Bool
clears i Switch = false
clears i (Exit j) = i == j
clears i (Reset j) = i == j
clears i (Count j) = false
clears i Lowest = false
clears i (Tally j) = false

any_clears : ℕ → List Mark → Bool
any_clears i [] = false
any_clears i (m ∷ ms) = clears i m || any_clears i ms

-- where one does, what was in it doesn't matter
cleared_after : (i : ℕ) (m : Mark) (x y : ℕ) → clears i m ≡ true → counter_after m i x ≡ counter_after m i y
unfolding clears
cleared_after i Switch x y on = let bad : ⊥ = cc in absurd bad
cleared_after i (Exit j) x y on = ap (λ (b : Bool). if b then 0 else x) on ∙ sym (ap (λ (b : Bool). if b then 0 else y) on)
cleared_after i (Reset j) x y on = ap (λ (b : Bool). if b then 0 else x) on ∙ sym (ap (λ (b : Bool). if b then 0 else y) on)
cleared_after i (Count j) x y on = let bad : ⊥ = cc in absurd bad
cleared_after i Lowest x y on = let bad : ⊥ = cc in absurd bad
cleared_after i (Tally j) x y on = let bad : ⊥ = cc in absurd bad

cleared : (i : ℕ) (ms : List Mark) (x y : ℕ) → any_clears i ms ≡ true → counter_behind i ms x ≡ counter_behind i ms y
unfolding any_clears
cleared i [] x y on = let bad : ⊥ = cc in absurd bad
cleared i (m ∷ ms) x y on = by (clears i m) refl (λ later. cleared i ms (counter_after m i x) (counter_after m i y) later) on
  where
    by : (b : Bool) → clears i m ≡ b → (any_clears i ms ≡ true → counter_behind i (m ∷ ms) x ≡ counter_behind i (m ∷ ms) y) → (b || any_clears i ms) ≡ true → counter_behind i (m ∷ ms) x ≡ counter_behind i (m ∷ ms) y
    by true is rest on = ap (counter_behind i ms) (cleared_after i m x y is)
    by false is rest on = rest on

-- where none does, nothing behind the tally changes its counter
kept_if : (i j x : ℕ) → counter_behind i (if j == i then [] else Count j ∷ []) x ≡ x
kept_if i j x = by (j == i) refl
  where
    by : (b : Bool) → (j == i) ≡ b → counter_behind i (if b then [] else Count j ∷ []) x ≡ x
    by true is = refl
    by false is =
        let apart : (i == j) ≡ false = ne_eqb i j (λ e. (let on : (j == i) ≡ true = eq-eqb j i (sym e) in let bad : true ≡ false = sym on ∙ is in let never : ⊥ = cc in never)) in
        ap (λ (b : Bool). if b then x + 1 else x) apart

kept_after : (i : ℕ) (m : Mark) (x : ℕ) → clears i m ≡ false → counter_behind i (behind_tally i m) x ≡ x
unfolding clears
kept_after i Switch x off = refl
kept_after i (Exit j) x off = ap (λ (b : Bool). if b then 0 else x) off
kept_after i (Reset j) x off = ap (λ (b : Bool). if b then 0 else x) off
kept_after i (Count j) x off = kept_if i j x
kept_after i Lowest x off = refl
kept_after i (Tally j) x off = kept_if i j x

kept : (i : ℕ) (ms : List Mark) (x : ℕ) → any_clears i ms ≡ false → counter_behind i (flat_map (behind_tally i) ms) x ≡ x
unfolding any_clears
kept i [] x off = refl
kept i (m ∷ ms) x off = by (clears i m) refl (λ later. kept i ms x later) off
  where
    by : (b : Bool) → clears i m ≡ b → (any_clears i ms ≡ false → counter_behind i (flat_map (behind_tally i) ms) x ≡ x) → (b || any_clears i ms) ≡ false → counter_behind i (flat_map (behind_tally i) (m ∷ ms)) x ≡ x
    by true is rest off = let bad : ⊥ = cc in absurd bad
    by false is rest off =
        counter_behind_append i (behind_tally i m) (flat_map (behind_tally i) ms) x
        ∙ (ap (counter_behind i (flat_map (behind_tally i) ms)) (kept_after i m x is) ∙ rest off)

-- so the tally alone counts
tally_counts : (i : ℕ) (ms : List Mark) (x : ℕ) → ((y : ℕ) → counter_behind i ms y ≡ y + 1) → counter_behind i (Tally i ∷ flat_map (behind_tally i) ms) x ≡ x + 1
tally_counts i ms x one = by (any_clears i ms) refl
  where
    here : counter_after (Tally i) i x ≡ x + 1
    here = ap (λ (b : Bool). if b then x + 1 else x) (eq-eqb i i refl)

    by : (b : Bool) → any_clears i ms ≡ b → counter_behind i (Tally i ∷ flat_map (behind_tally i) ms) x ≡ x + 1
    by true on =
        let same = cleared i ms 0 1 on in
        let zero_is = one 0 in
        let one_is = one 1 in
        absurd (omega (arith, same, zero_is, one_is))
    by false off = ap (counter_behind i (flat_map (behind_tally i) ms)) here ∙ kept i ms (x + 1) off

pub formed_counts : FormedCountsAlike
formed_counts = λ lowest tallied ms one w x. by lowest tallied ms one w x (first_tally tallied ms) refl
  where
    same_or_not : (i : ℕ) (ms : List Mark) (w x : ℕ) → ((y : ℕ) → counter_behind i ms y ≡ y + 1) → (b : Bool) → (w == i) ≡ b → counter_behind w (Tally i ∷ flat_map (behind_tally i) ms) x ≡ counter_behind w ms x
    same_or_not i ms w x one true is =
        let same : w ≡ i = eqb-true w i is in
        ap (λ k. counter_behind k (Tally i ∷ flat_map (behind_tally i) ms) x) same ∙ (tally_counts i ms x one ∙ (sym (one x) ∙ ap (λ k. counter_behind k ms x) (sym same)))
    same_or_not i ms w x one false is =
        let apart : w ≢ i = λ e. (let on : (w == i) ≡ true = eq-eqb w i e in let bad : true ≡ false = sym on ∙ is in let never : ⊥ = cc in never) in
        ap (counter_behind w (flat_map (behind_tally i) ms)) (ap (λ (b : Bool). if b then x + 1 else x) is) ∙ behind_counts i ms w x apart

    by : (lowest : Bool) (tallied : ℕ → Bool) (ms : List Mark) → ((i : ℕ) → first_tally tallied ms ≡ Some i → (y : ℕ) → counter_behind i ms y ≡ y + 1) → (w x : ℕ) → (o : Option ℕ) → first_tally tallied ms ≡ o → counter_behind w (formed_by lowest tallied o ms) x ≡ counter_behind w ms x
    by lowest tallied ms one w x None is = plain_counts lowest tallied ms w x
    by lowest tallied ms one w x (Some i) is = same_or_not i ms w x (one i is) (w == i) refl
