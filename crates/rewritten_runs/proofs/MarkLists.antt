-- What the marks of an edge do to the shadow counters, one counter at a time.
use Rattle.std.proofs.Common.{◌≡◌, ◌≢◌, ℕ, zero, suc, ◌+◌, ◌<◌, ◌≤◌, ◌⊎◌, inl, inr, Bool, true, false, cond, not, ◌&&◌, List, [], ◌∷◌, ◌++◌, length, slice_get, Option, Some, refl, sym, ap, ◌∙◌, subst, arith, eq-eqb, ne_eqb}
use Rattle.std.specs.Prelude.{All, ◌==◌, if◌then◌else◌}
use Rattle.std.proofs.lemmas.List.Elements.{All-nil, All-cons, All-append}
use Rattle.cost_theory.specs.Graph.{Loops, leaves, goes_back}
use Rattle.scale_base.specs.declared.fragments.Mark.{Mark}
use Rattle.scale_base.specs.declared.fragments.Mark.TheVariants as marks
use Rattle.scale_sites.specs.Counters.{set_from}
use Rattle.scale_sites.specs.Marks.{mark_if, is_outermost, exits_from, resets_from, counts_from, switch_of, marks_at, first_counter}
use Rattle.rewritten_runs.specs.Stubs.{set_before}

-- ---- flags that are set

-- a loop whose flag is set stands in the list of these loops, behind as many as are set before it
pub set_at : (flags : List Bool) (i k : ℕ) → slice_get flags k ≡ Some true → slice_get (set_from i flags) (set_before flags k) ≡ Some (i + k)
set_at [] i k h = let never : ⊥ = cc in absurd never
set_at (true ∷ flags) i zero h = ap Some (omega arith)
set_at (false ∷ flags) i zero h = let never : ⊥ = cc in absurd never
set_at (true ∷ flags) i (suc k) h = set_at flags (i + 1) k h ∙ ap Some (omega arith)
set_at (false ∷ flags) i (suc k) h = set_at flags (i + 1) k h ∙ ap Some (omega arith)

pub record IsSet (flags : List Bool) (i j k : ℕ) : Type 0 where
  pub from : ℕ
  pub is : k ≡ i + from
  pub flag : slice_get flags from ≡ Some true
  pub place : set_before flags from ≡ j

-- and the other way
pub at_set : (flags : List Bool) (i j k : ℕ) → slice_get (set_from i flags) j ≡ Some k → IsSet flags i j k
at_set [] i j k h = let never : ⊥ = cc in absurd never
at_set (true ∷ flags) i zero k h = let e : i ≡ k = cc in record { from = 0; is = omega arith; flag = refl; place = refl }
at_set (true ∷ flags) i (suc j) k h = let r = at_set flags (i + 1) j k h in record { from = suc r.from; is = (let e = r.is in omega arith); flag = r.flag; place = ap suc r.place }
at_set (false ∷ flags) i j k h = let r = at_set flags (i + 1) j k h in record { from = suc r.from; is = (let e = r.is in omega arith); flag = r.flag; place = r.place }

-- ---- one counter

-- what a mark does to the counter in word w
abbrev pub effect : Mark → ℕ → ℕ → ℕ
effect marks.Switch w x = x
effect (marks.Exit i) w x = if w == i then 0 else x
effect (marks.Reset i) w x = if w == i then 0 else x
effect (marks.Count i) w x = if w == i then x + 1 else x
effect marks.Lowest w x = x
effect (marks.Tally i) w x = if w == i then x + 1 else x

abbrev pub through : ℕ → List Mark → ℕ → ℕ
through w [] x = x
through w (m ∷ ms) x = through w ms (effect m w x)

pub through_append : (w : ℕ) (xs ys : List Mark) (x : ℕ) → through w (xs ++ ys) x ≡ through w ys (through w xs x)
through_append w [] ys x = refl
through_append w (m ∷ xs) ys x = through_append w xs ys (effect m w x)

-- ---- marks for the loops of a list, one counter each

-- a mark for each loop that passes the test
abbrev pub marks_from : (ℕ → Bool) → (ℕ → Mark) → ℕ → List ℕ → List Mark
marks_from test make i [] = []
marks_from test make i (k ∷ ks) = mark_if (test k) (make i) ++ marks_from test make (i + 1) ks

abbrev pub ActsAlone : (ℕ → Mark) → Type 0
ActsAlone make = (i w x : ℕ) → (w == i) ≡ false → effect (make i) w x ≡ x

if_off : (make : ℕ → Mark) → ActsAlone make → (b : Bool) (i w x : ℕ) → (w == i) ≡ false → through w (mark_if b (make i)) x ≡ x
if_off make alone true i w x off = alone i w x off
if_off make alone false i w x off = refl

if_on : (make : ℕ → Mark) (b : Bool) (i x : ℕ) → through i (mark_if b (make i)) x ≡ cond b (effect (make i) i x) x
if_on make true i x = refl
if_on make false i x = refl

-- a word that is no counter of these
pub marks_off : (test : ℕ → Bool) (make : ℕ → Mark) → ActsAlone make → (i w x : ℕ) (ks : List ℕ) → (w < i) ⊎ (i + length ks ≤ w) → through w (marks_from test make i ks) x ≡ x
marks_off test make alone i w x [] h = refl
marks_off test make alone i w x (k ∷ ks) h =
    let ne : w ≢ i = elim h [ inl lt ↦ (λ e. omega (arith, lt, e)) | inr ge ↦ (λ e. omega (arith, ge, e)) ] in
    let next : (w < i + 1) ⊎ (i + 1 + length ks ≤ w) = elim h [ inl lt ↦ inl (omega (arith, lt)) | inr ge ↦ inr (omega (arith, ge)) ] in
    through_append w (mark_if (test k) (make i)) (marks_from test make (i + 1) ks) x
    ∙ (ap (through w (marks_from test make (i + 1) ks)) (if_off make alone (test k) i w x (ne_eqb w i ne)) ∙ marks_off test make alone (i + 1) w x ks next)

-- the counter of the loop at a place of the list
pub marks_on : (test : ℕ → Bool) (make : ℕ → Mark) → ActsAlone make → (i j k x : ℕ) (ks : List ℕ) → slice_get ks j ≡ Some k → through (i + j) (marks_from test make i ks) x ≡ cond (test k) (effect (make (i + j)) (i + j) x) x
marks_on test make alone i j k x [] h = let never : ⊥ = cc in absurd never
marks_on test make alone i zero k x (k0 ∷ ks) h =
    let e : k0 ≡ k = cc in
    let z : i + zero ≡ i = omega arith in
    ap (λ w. through w (mark_if (test k0) (make i) ++ marks_from test make (i + 1) ks) x) z
    ∙ (through_append i (mark_if (test k0) (make i)) (marks_from test make (i + 1) ks) x
    ∙ (marks_off test make alone (i + 1) i (through i (mark_if (test k0) (make i)) x) ks (inl (omega arith))
    ∙ (if_on make (test k0) i x
    ∙ (ap (λ q. cond (test q) (effect (make i) i x) x) e ∙ ap (λ w. cond (test k) (effect (make w) w x) x) (sym z)))))
marks_on test make alone i (suc j) k x (k0 ∷ ks) h =
    let e : i + suc j ≡ i + 1 + j = omega arith in
    let ne : i + suc j ≢ i = λ q. omega (arith, q) in
    through_append (i + suc j) (mark_if (test k0) (make i)) (marks_from test make (i + 1) ks) x
    ∙ (ap (through (i + suc j) (marks_from test make (i + 1) ks)) (if_off make alone (test k0) i (i + suc j) x (ne_eqb (i + suc j) i ne))
    ∙ (ap (λ w. through w (marks_from test make (i + 1) ks) x) e
    ∙ (marks_on test make alone (i + 1) j k x ks h ∙ ap (λ w. cond (test k) (effect (make w) w x) x) (sym e))))

-- what is so of each mark
pub marks_all : (P : Mark → Type 0) (test : ℕ → Bool) (make : ℕ → Mark) (i : ℕ) (ks : List ℕ) → ((j k : ℕ) → slice_get ks j ≡ Some k → test k ≡ true → P (make (i + j))) → All P (marks_from test make i ks)
marks_all P test make i [] h = All-nil P
marks_all P test make i (k ∷ ks) h = All-append P (mark_if (test k) (make i)) (marks_from test make (i + 1) ks) (here (test k) refl) (marks_all P test make (i + 1) ks (λ j q at on. subst (λ w. P (make w)) (omega arith) (h (suc j) q at on)))
  where
    here : (b : Bool) → test k ≡ b → All P (mark_if b (make i))
    here true on = All-cons P (make i) [] (subst (λ w. P (make w)) (omega arith) (h 0 k refl on)) (All-nil P)
    here false on = All-nil P

-- ---- the three kinds

pub exits_are : (l : Loops) (u : ℕ) (p : Option ℕ) (counted : List ℕ) (i : ℕ) (ks : List ℕ) → exits_from l u p counted i ks ≡ marks_from (λ k. is_outermost l u p k counted) marks.Exit i ks
exits_are l u p counted i [] = refl
exits_are l u p counted i (k ∷ ks) = ap (λ ms. mark_if (is_outermost l u p k counted) (marks.Exit i) ++ ms) (exits_are l u p counted (i + 1) ks)

pub resets_are : (l : Loops) (u : ℕ) (p : Option ℕ) (counted : List ℕ) (i : ℕ) (ks : List ℕ) → resets_from l u p counted i ks ≡ marks_from (λ k. leaves l k u p && not (is_outermost l u p k counted)) marks.Reset i ks
resets_are l u p counted i [] = refl
resets_are l u p counted i (k ∷ ks) = ap (λ ms. mark_if (leaves l k u p && not (is_outermost l u p k counted)) (marks.Reset i) ++ ms) (resets_are l u p counted (i + 1) ks)

pub counts_are : (l : Loops) (u : ℕ) (p : Option ℕ) (i : ℕ) (ks : List ℕ) → counts_from l u p i ks ≡ marks_from (λ k. goes_back l k u p) marks.Count i ks
counts_are l u p i [] = refl
counts_are l u p i (k ∷ ks) = ap (λ ms. mark_if (goes_back l k u p) (marks.Count i) ++ ms) (counts_are l u p (i + 1) ks)

off_if : (a b : ℕ) (t : Bool) → t ≡ false → cond t a b ≡ b
off_if a b t e = ap (λ q. cond q a b) e

pub exit_alone : ActsAlone marks.Exit
exit_alone i w x off = off_if 0 x (w == i) off

pub reset_alone : ActsAlone marks.Reset
reset_alone i w x off = off_if 0 x (w == i) off

pub count_alone : ActsAlone marks.Count
count_alone i w x off = off_if (x + 1) x (w == i) off

on_if : (a b i : ℕ) → cond (i == i) a b ≡ a
on_if a b i = ap (λ q. cond q a b) (eq-eqb i i refl)

switch_through : (w x : ℕ) (b : Bool) → through w (mark_if b marks.Switch) x ≡ x
switch_through w x true = refl
switch_through w x false = refl

-- through all marks of a step, in their four parts
parts_through : (w : ℕ) (l : Loops) (counted : List ℕ) (branch : Bool) (slack min_gain u : ℕ) (p : Option ℕ) (x : ℕ) → through w (marks_at l counted branch slack min_gain u p) x
    ≡ through w (counts_from l u p first_counter counted) (through w (resets_from l u p counted first_counter counted) (through w (exits_from l u p counted first_counter counted) x))
parts_through w l counted branch slack min_gain u p x =
    let s = switch_of l u p counted branch slack min_gain in
    let e = exits_from l u p counted first_counter counted in
    let r = resets_from l u p counted first_counter counted in
    let c = counts_from l u p first_counter counted in
    through_append w s (e ++ (r ++ c)) x ∙ (ap (through w (e ++ (r ++ c))) (switch_through w x (branch && (not (Rattle.scale_sites.specs.Marks.leaves_any l u p counted) && Rattle.std.specs.Prelude.nat_le min_gain slack)))
    ∙ (through_append w e (r ++ c) x ∙ through_append w r c (through w e x)))

-- the counter of the counted loop at a place: it counts where the step goes back, and is 0 where the step leaves the loop
pub counter_through : (l : Loops) (counted : List ℕ) (branch : Bool) (slack min_gain u : ℕ) (p : Option ℕ) (j k x : ℕ) → slice_get counted j ≡ Some k → (goes_back l k u p ≡ true → leaves l k u p ≡ false)
    → through (first_counter + j) (marks_at l counted branch slack min_gain u p) x ≡ cond (goes_back l k u p) (x + 1) (cond (leaves l k u p) 0 x)
counter_through l counted branch slack min_gain u p j k x at apart =
    let w = first_counter + j in
    let one : through w (exits_from l u p counted first_counter counted) x ≡ cond (is_outermost l u p k counted) 0 x =
    ap (λ ms. through w ms x) (exits_are l u p counted first_counter counted) ∙ (marks_on (λ q. is_outermost l u p q counted) marks.Exit exit_alone first_counter j k x counted at ∙ ap (λ y. cond (is_outermost l u p k counted) y x) (on_if 0 x w)) in
    let two : (y : ℕ) → through w (resets_from l u p counted first_counter counted) y ≡ cond (leaves l k u p && not (is_outermost l u p k counted)) 0 y = λ y.
    ap (λ ms. through w ms y) (resets_are l u p counted first_counter counted) ∙ (marks_on (λ q. leaves l q u p && not (is_outermost l u p q counted)) marks.Reset reset_alone first_counter j k y counted at ∙ ap (λ z. cond (leaves l k u p && not (is_outermost l u p k counted)) z y) (on_if 0 y w)) in
    let three : (y : ℕ) → through w (counts_from l u p first_counter counted) y ≡ cond (goes_back l k u p) (y + 1) y = λ y.
    ap (λ ms. through w ms y) (counts_are l u p first_counter counted) ∙ (marks_on (λ q. goes_back l q u p) marks.Count count_alone first_counter j k y counted at ∙ ap (λ z. cond (goes_back l k u p) z y) (on_if (y + 1) y w)) in
    parts_through w l counted branch slack min_gain u p x
    ∙ (ap (λ y. through w (counts_from l u p first_counter counted) (through w (resets_from l u p counted first_counter counted) y)) one
    ∙ (ap (through w (counts_from l u p first_counter counted)) (two (cond (is_outermost l u p k counted) 0 x))
    ∙ (three (cond (leaves l k u p && not (is_outermost l u p k counted)) 0 (cond (is_outermost l u p k counted) 0 x))
    ∙ whole (leaves l k u p) (Rattle.scale_sites.specs.Marks.holds_left l u p k counted) (goes_back l k u p) apart)))
  where
    whole : (lv hd gb : Bool) → (gb ≡ true → lv ≡ false) → cond gb (cond (lv && not (lv && hd)) 0 (cond (lv && hd) 0 x) + 1) (cond (lv && not (lv && hd)) 0 (cond (lv && hd) 0 x)) ≡ cond gb (x + 1) (cond lv 0 x)
    whole true true true h = let never : true ≡ false = h refl in let bad : ⊥ = cc in absurd bad
    whole true false true h = let never : true ≡ false = h refl in let bad : ⊥ = cc in absurd bad
    whole false hd true h = refl
    whole true true false h = refl
    whole true false false h = refl
    whole false hd false h = refl

-- a word that is no counted loop's is left
pub others_through : (l : Loops) (counted : List ℕ) (branch : Bool) (slack min_gain u : ℕ) (p : Option ℕ) (w x : ℕ) → (w < first_counter) ⊎ (first_counter + length counted ≤ w)
    → through w (marks_at l counted branch slack min_gain u p) x ≡ x
others_through l counted branch slack min_gain u p w x off =
    let one : through w (exits_from l u p counted first_counter counted) x ≡ x = ap (λ ms. through w ms x) (exits_are l u p counted first_counter counted) ∙ marks_off (λ q. is_outermost l u p q counted) marks.Exit exit_alone first_counter w x counted off in
    let two : through w (resets_from l u p counted first_counter counted) x ≡ x = ap (λ ms. through w ms x) (resets_are l u p counted first_counter counted) ∙ marks_off (λ q. leaves l q u p && not (is_outermost l u p q counted)) marks.Reset reset_alone first_counter w x counted off in
    let three : through w (counts_from l u p first_counter counted) x ≡ x = ap (λ ms. through w ms x) (counts_are l u p first_counter counted) ∙ marks_off (λ q. goes_back l q u p) marks.Count count_alone first_counter w x counted off in
    parts_through w l counted branch slack min_gain u p x ∙ (ap (λ y. through w (counts_from l u p first_counter counted) (through w (resets_from l u p counted first_counter counted) y)) one ∙ (ap (through w (counts_from l u p first_counter counted)) two ∙ three))
