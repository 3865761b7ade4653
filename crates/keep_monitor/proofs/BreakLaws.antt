-- The least loop whose bounds a step breaks is the lesser of that whose count is above its bound and that which is left early.
use Rattle.std.proofs.Common.{◌≡◌, ℕ, zero, suc, ◌+◌, ◌<◌, ◌≤◌, ◌==◌, Bool, true, false, not, ◌&&◌, ◌||◌, nat_lt, cond, ◌⊎◌, ⊎_elim, List, length, get_or, Option, Some, None, is_some, option_map, refl, sym, ap, ◌∙◌, subst, arith, eq-eqb}
use Rattle.std.proofs.lemmas.Bool.{cond-true, cond-false, ne_eqb, lt-ltb, le-ltb, or_parts, ltb-false, cases_lt, cases_eq, cases_Bool}
use Rattle.scale_base.specs.declared.endings.Kept.TheVariants.{BrokeBound}
use Rattle.scale_base.specs.declared.stepping.Move.{Move}
use Rattle.scale_base.specs.declared.stepping.Move.TheVariants.{Local, Call, Return}
use Rattle.scale_base.specs.declared.stepping.Stepped.{Stepped}
use Rattle.cost_theory.specs.Graph.{find_below, or_else}
use Rattle.cost_theory.proofs.Laws.{and_right, and_false, not_true, find-holds, find-some}
use Rattle.graph_runs.specs.KeptSteps.{leaves_by, breaks}
use Rattle.loop_file.specs.declared.notes.LoopNote.{LoopNote}
use Rattle.loop_file.specs.Kept.{note_at, in_extent, noted_loops}
use Rattle.keep_monitor.specs.Watch.{loop_broken}
use Rattle.keep_monitor.specs.Steps.{counts_after_step, loop_over, count_then, leaves_note, is_left_early, loop_left, lesser_loop, broken_loop, AreTurning}
use Rattle.keep_monitor.proofs.CountLaws.{find_none, find_first, stepped_here, stepped_else}

pub at_end : (j n : ℕ) → j < n + 1 → (j < n) ⊎ (j ≡ n)
at_end j n h = grind arith

-- ---- the least of two searches

-- where nothing is found each number fails the test
pub not_found : (n : ℕ) (p : ℕ → Bool) → find_below n p ≡ None → (k : ℕ) → k < n → p k ≡ false
not_found n p none k kl = ⊎_elim
    (λ (h : p k ≡ true). let some : is_some (find_below n p) ≡ true = find-some n p k kl h in
    let bad : false ≡ true = subst (λ (o : Option ℕ). is_some o ≡ true) none some in let no : ⊥ = cc in absurd no)
    (λ (h : p k ≡ false). h)
    (cases_Bool (p k))

find_same : (n : ℕ) (p q : ℕ → Bool) → ((k : ℕ) → k < n → p k ≡ q k) → find_below n p ≡ find_below n q
find_same zero p q h = refl
find_same (suc n) p q h =
    ap (λ o. or_else o (cond (p n) (Some n) None)) (find_same n p q (λ k kl. h k (omega arith)))
    ∙ ap (λ b. or_else (find_below n q) (cond b (Some n) None)) (h n (omega arith))

last : (n : ℕ) (o r : Option ℕ) (a b : Bool) → ((k : ℕ) → o ≡ Some k → k < n) → ((k : ℕ) → r ≡ Some k → k < n) →
    or_else (lesser_loop o r) (cond (a || b) (Some n) None) ≡ lesser_loop (or_else o (cond a (Some n) None)) (or_else r (cond b (Some n) None))
last n None None false false lo lr = refl
last n None None true false lo lr = refl
last n None None false true lo lr = refl
last n None None true true lo lr = ap Some (sym (cond-false _ _ _ (le-ltb n n (omega arith))))
last n (Some x) None a false lo lr = refl
last n (Some x) None a true lo lr = ap Some (sym (cond-true _ _ _ (lt-ltb x n (lo x refl))))
last n None (Some y) false b lo lr = refl
last n None (Some y) true b lo lr = ap Some (sym (cond-false _ _ _ (le-ltb n y (let l : y < n = lr y refl in omega arith))))
last n (Some x) (Some y) a b lo lr = refl

find_either : (n : ℕ) (p q : ℕ → Bool) → find_below n (λ k. p k || q k) ≡ lesser_loop (find_below n p) (find_below n q)
find_either zero p q = refl
find_either (suc n) p q =
    ap (λ o. or_else o (cond (p n || q n) (Some n) None)) (find_either n p q)
    ∙ last n (find_below n p) (find_below n q) (p n) (q n) (λ k e. (find-holds n p k e).0) (λ k e. (find-holds n q k e).0)

-- ---- loops that are left early

-- a step that leaves an extent does not go to the header, so the count stays
early_is : (notes : List LoopNote) (counts : List ℕ) (source : Option ℕ) (x : Stepped) (k : ℕ) →
    (leaves_by x.moved (noted_loops notes) x.pc x.next k && nat_lt (counts_after_step notes counts source x.next k) (note_at notes k).at_least) ≡ is_left_early (note_at notes k) x (get_or counts k 0)
early_is notes counts source x k = by_move x.moved
  where
    note : LoopNote
    note = note_at notes k

    local : (b : Bool) → (in_extent note x.pc && not (in_extent note x.next)) ≡ b →
        ((in_extent note x.pc && not (in_extent note x.next)) && nat_lt (counts_after_step notes counts source x.next k) note.at_least)
        ≡ (nat_lt (get_or counts k 0) note.at_least && (in_extent note x.pc && not (in_extent note x.next)))
    local false e = ap (λ b. b && nat_lt (counts_after_step notes counts source x.next k) note.at_least) e ∙ sym (ap (λ b. nat_lt (get_or counts k 0) note.at_least && b) e ∙ and_false (nat_lt (get_or counts k 0) note.at_least))
    local true e =
        let out : in_extent note x.next ≡ false = not_true (in_extent note x.next) (and_right (in_extent note x.pc) (not (in_extent note x.next)) e) in
        let away : (x.next == note.header) ≡ false = (or_parts _ _ out).0 in
        let count : counts_after_step notes counts source x.next k ≡ get_or counts k 0 = cond-false _ _ _ away in
        ap (λ b. b && nat_lt (counts_after_step notes counts source x.next k) note.at_least) e
        ∙ ap (λ c. nat_lt c note.at_least) count
        ∙ sym (ap (λ b. nat_lt (get_or counts k 0) note.at_least && b) e ∙ and_true (nat_lt (get_or counts k 0) note.at_least))
      where
        and_true : (b : Bool) → (b && true) ≡ b
        and_true true = refl
        and_true false = refl

    by_move : (m : Move) → (leaves_by m (noted_loops notes) x.pc x.next k && nat_lt (counts_after_step notes counts source x.next k) note.at_least)
        ≡ (nat_lt (get_or counts k 0) note.at_least && leaves_note m note x.pc x.next)
    by_move Local = local (in_extent note x.pc && not (in_extent note x.next)) refl
    by_move Call = sym (and_false (nat_lt (get_or counts k 0) note.at_least))
    by_move Return = sym (and_false (nat_lt (get_or counts k 0) note.at_least))

pub broken_is : (notes : List LoopNote) (counts : List ℕ) (source : Option ℕ) (x : Stepped) →
    loop_broken notes (counts_after_step notes counts source x.next) x ≡ lesser_loop (loop_over notes counts source x.next) (loop_left notes counts x)
broken_is notes counts source x =
    find_same (length notes) (breaks (noted_loops notes) (counts_after_step notes counts source x.next) x)
    (λ k. nat_lt (note_at notes k).bound (counts_after_step notes counts source x.next k) || is_left_early (note_at notes k) x (get_or counts k 0))
    (λ k kl. ap (λ b. nat_lt (note_at notes k).bound (counts_after_step notes counts source x.next k) || b) (early_is notes counts source x k))
    ∙ find_either (length notes) (λ k. nat_lt (note_at notes k).bound (counts_after_step notes counts source x.next k)) (λ k. is_left_early (note_at notes k) x (get_or counts k 0))

-- where no bounds are broken, no count is above its bound
pub counts_stay : (notes : List LoopNote) (counts : List ℕ) (source : Option ℕ) (x : Stepped) → broken_loop notes counts source x ≡ None →
    (k : ℕ) → k < length notes → counts_after_step notes counts source x.next k ≤ (note_at notes k).bound
counts_stay notes counts source x none k kl =
    let found : loop_broken notes (counts_after_step notes counts source x.next) x ≡ None = none_of (loop_broken notes (counts_after_step notes counts source x.next) x) none in
    let test : breaks (noted_loops notes) (counts_after_step notes counts source x.next) x k ≡ false = not_found (length notes) (breaks (noted_loops notes) (counts_after_step notes counts source x.next) x) found k kl in
    ltb-false _ _ (or_parts _ _ test).0
  where
    none_of : (f : Option ℕ) → option_map (λ k. BrokeBound (k + 1) (counts_after_step notes counts source x.next k)) f ≡ None → f ≡ None
    none_of None e = refl
    none_of (Some k) e = let bad : ⊥ = cc in absurd bad

-- whether the loop at a place of a list is left early
abbrev pub is_early_at : List LoopNote → List ℕ → List ℕ → Stepped → ℕ → Bool
is_early_at notes numbers counts x j = is_left_early (note_at notes (get_or numbers j 0)) x (get_or counts (get_or numbers j 0) 0)

-- a loop that need not turn is never left early
idle : (note : LoopNote) (x : Stepped) (count : ℕ) → (0 < note.at_least → ⊥) → is_left_early note x count ≡ false
idle note x count none =
    let test : nat_lt count note.at_least ≡ false = le-ltb count note.at_least (let z : note.at_least ≤ count = few note.at_least none in z) in
    ap (λ b. b && leaves_note x.moved note x.pc x.next) test
  where
    few : (n : ℕ) → (0 < n → ⊥) → n ≤ count
    few zero h = omega arith
    few (suc n) h = absurd (h (omega arith))

below : (notes : List LoopNote) (numbers counts : List ℕ) (x : Stepped) → AreTurning notes (length notes) numbers → (n : ℕ) →
    ((j : ℕ) → j < length numbers → get_or numbers j 0 < n → is_early_at notes numbers counts x j ≡ false) → (k : ℕ) → k < length notes → k < n → is_left_early (note_at notes k) x (get_or counts k 0) ≡ false
below notes numbers counts x are n none k kl kn = ⊎_elim
    (λ (turns : 0 < (note_at notes k).at_least).
    let spot = are.whole k kl turns in
    subst (λ i. is_left_early (note_at notes i) x (get_or counts i 0) ≡ false) spot.2 (none spot.0 spot.1 (subst (λ i. i < n) (sym spot.2) kn)))
    (λ (few : (note_at notes k).at_least ≤ 0). idle (note_at notes k) x (get_or counts k 0) (λ some. let bad : ⊥ = omega arith in bad))
    (cases_lt 0 (note_at notes k).at_least)

pub none_left : (notes : List LoopNote) (numbers counts : List ℕ) (x : Stepped) → AreTurning notes (length notes) numbers →
    ((j : ℕ) → j < length numbers → is_early_at notes numbers counts x j ≡ false) → loop_left notes counts x ≡ None
none_left notes numbers counts x are none =
    find_none (length notes) (λ k. is_left_early (note_at notes k) x (get_or counts k 0)) (λ k kl. below notes numbers counts x are (length notes) (λ j jl low. none j jl) k kl kl)

pub first_left : (notes : List LoopNote) (numbers counts : List ℕ) (x : Stepped) → AreTurning notes (length notes) numbers →
    (p : ℕ) → p < length numbers → is_early_at notes numbers counts x p ≡ true → ((j : ℕ) → j < p → is_early_at notes numbers counts x j ≡ false) → loop_left notes counts x ≡ Some (get_or numbers p 0)
first_left notes numbers counts x are p pl left before =
    let top : get_or numbers p 0 < length notes = are.within p pl in
    find_first (length notes) (λ k. is_left_early (note_at notes k) x (get_or counts k 0)) (get_or numbers p 0) top left
    (λ k kp. below notes numbers counts x are (get_or numbers p 0) (λ j jl low. before j (early j jl low)) k (omega arith) kp)
  where
    early : (j : ℕ) → j < length numbers → get_or numbers j 0 < get_or numbers p 0 → j < p
    early j jl low = ⊎_elim (λ (l : j < p). l)
        (λ (ge : p ≤ j). absurd (⊎_elim
        (λ (e : p ≡ j). let same : get_or numbers p 0 ≡ get_or numbers j 0 = ap (λ i. get_or numbers i 0) e in let no : ⊥ = omega arith in no)
        (λ (ne : p ≡ j → ⊥). let l : p < j = omega arith in let r : get_or numbers p 0 < get_or numbers j 0 = are.rise p j l jl in let no : ⊥ = omega arith in no)
        (cases_eq p j)))
        (cases_lt j p)

-- the count of a loop after a step
pub count_is : (notes : List LoopNote) (counts : List ℕ) (source : Option ℕ) (next k : ℕ) →
    counts_after_step notes counts source next k ≡ cond (next == (note_at notes k).header) (count_then (note_at notes k) source (get_or counts k 0)) (get_or counts k 0)
count_is notes counts source next k = ⊎_elim
    (λ (e : (note_at notes k).header ≡ next). stepped_here notes counts source next k e ∙ sym (cond-true _ _ _ (eq-eqb _ _ (sym e))))
    (λ (ne : (note_at notes k).header ≡ next → ⊥). stepped_else notes counts source next k ne ∙ sym (cond-false _ _ _ (ne_eqb _ _ (λ e. ne (sym e)))))
    (cases_eq (note_at notes k).header next)
