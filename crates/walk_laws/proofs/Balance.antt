-- Counts that fit are those of the walk.
use Rattle.std.proofs.Common.{◌≡◌, ℕ, ◌+◌, ◌*◌, ◌<◌, Bool, true, false, nat_eq, List, refl, sym, ap, ap₂, ◌∙◌, arith}
use Rattle.cost_theory.specs.Graph.{Graph, Loops, total, sum_below, only, enters}
use Rattle.cost_theory.specs.Worst.{at_some, IsBoundedWalk}
use Rattle.cost_theory.specs.Accepted.{IsProgram, IsCallOrder}
use Rattle.cost_theory.proofs.Laws.{sum-same, sum-one, nested, entry_header, accepted_entered, AreNested, call_order}
use Rattle.walk_laws.proofs.Joined.{sum-add}
use Rattle.walk_laws.specs.Walks.{AreCounts, CountsAreOfWalks, taken_total, is_number, with_calls}
use Rattle.walk_laws.proofs.Filled.{filled, turns_exist, turn_cost, entry_walk, entry_cost, from_entry}
use Rattle.walk_laws.proofs.Functions.{called_cost, calls_cost, wholes_exist}
use Rattle.walk_laws.proofs.Sums.{mul-add, sum-mul, sum-swap, only-mul, at-some-sum}

-- sums over taken edges
pub taken-add : (g : Graph) (x c d : ℕ → ℕ) → taken_total g x (λ e. c e + d e) ≡ taken_total g x c + taken_total g x d
taken-add g x c d =
    sum-same g.edges (λ e. x e * (c e + d e)) (λ e. x e * c e + x e * d e) (λ e lt. mul-add (x e) (c e) (d e)) ∙ sum-add g.edges (λ e. x e * c e) (λ e. x e * d e)

taken-sum : (g : Graph) (x : ℕ → ℕ) (n : ℕ) (t : ℕ → ℕ) (b : ℕ → ℕ → ℕ) →
    taken_total g x (λ e. sum_below n (λ k. t k * b k e)) ≡ sum_below n (λ k. t k * taken_total g x (b k))
taken-sum g x n t b =
    sum-same g.edges (λ e. x e * sum_below n (λ k. t k * b k e)) (λ e. sum_below n (λ k. t k * (x e * b k e)))
    (λ e lt. sym (sum-mul n (x e) (λ k. t k * b k e)) ∙ sum-same n (λ k. x e * (t k * b k e)) (λ k. t k * (x e * b k e)) (λ k kl. turn (x e) (t k) (b k e))) ∙
    sum-swap g.edges n (λ e k. t k * (x e * b k e)) ∙
    sum-same n (λ k. sum_below g.edges (λ e. t k * (x e * b k e))) (λ k. t k * taken_total g x (b k)) (λ k kl. sum-mul g.edges (t k) (λ e. x e * b k e))
  where
    turn : (a b c : ℕ) → a * (b * c) ≡ b * (a * c)
    turn a b c = grind arith

module _ (g : Graph) (l : Loops) (path turn : ℕ → List ℕ) (x calls entries : ℕ → ℕ) (prog : IsProgram g) (counts : AreCounts g l path turn x calls entries)
    -- a cost c; what one turn of a loop and one call of a function cost of it
    (c : ℕ → ℕ) (round whole : ℕ → ℕ)
  where
    -- an edge with the function that it calls, and with all turns of the loop that it enters
    abbrev pub with_call : ℕ → ℕ
    with_call e = c e + at_some (g.callee e) whole

    abbrev pub with_turns : ℕ → ℕ
    with_turns e = with_call e + sum_below l.loops (λ k. only (enters l k (g.source e) (g.target e)) (l.bound k * round k))

    abbrev at_entry : ℕ → ℕ
    at_entry f = sum_below l.loops (λ k. only (l.inside k (g.entry f)) (l.bound k * round k))

    -- what all called functions cost
    pub called_sum : taken_total g x (λ e. at_some (g.callee e) whole) + whole 0 ≡ sum_below g.functions (λ f. calls f * whole f)
    called_sum =
        let a : taken_total g x (λ e. at_some (g.callee e) whole) ≡ sum_below g.functions (λ f. whole f * taken_total g x (λ e. only (is_number f (g.callee e)) 1)) =
        sum-same g.edges (λ e. x e * at_some (g.callee e) whole) (λ e. x e * sum_below g.functions (λ f. whole f * only (is_number f (g.callee e)) 1))
        (λ e lt. ap (λ y. x e * y) (at-some-sum g.functions (g.callee e) whole (λ h is. prog.callee_function e h lt is))) ∙
        taken-sum g x g.functions whole (λ f e. only (is_number f (g.callee e)) 1) in
        let b : sum_below g.functions (λ f. whole f * only (nat_eq f 0) 1) ≡ whole 0 =
        sum-one g.functions (λ f. whole f * only (nat_eq f 0) 1) 0 prog.main (λ f fl ne. none f (nat_eq f 0) ne refl) ∙ (omega arith) in
        let d : sum_below g.functions (λ f. whole f * taken_total g x (λ e. only (is_number f (g.callee e)) 1) + whole f * only (nat_eq f 0) 1) ≡ sum_below g.functions (λ f. calls f * whole f) =
        sum-same g.functions (λ f. whole f * taken_total g x (λ e. only (is_number f (g.callee e)) 1) + whole f * only (nat_eq f 0) 1) (λ f. calls f * whole f)
        (λ f fl. sym (mul-add (whole f) (taken_total g x (λ e. only (is_number f (g.callee e)) 1)) (only (nat_eq f 0) 1)) ∙ ap (λ y. whole f * y) (sym (counts.called f fl)) ∙ swap (whole f) (calls f)) in
        let s : sum_below g.functions (λ f. whole f * taken_total g x (λ e. only (is_number f (g.callee e)) 1) + whole f * only (nat_eq f 0) 1) ≡
        sum_below g.functions (λ f. whole f * taken_total g x (λ e. only (is_number f (g.callee e)) 1)) + sum_below g.functions (λ f. whole f * only (nat_eq f 0) 1) =
        sum-add g.functions (λ f. whole f * taken_total g x (λ e. only (is_number f (g.callee e)) 1)) (λ f. whole f * only (nat_eq f 0) 1) in
        omega arith
      where
        swap : (a b : ℕ) → a * b ≡ b * a
        swap a b = grind arith

        none : (f : ℕ) (b : Bool) → (f ≡ 0 → ⊥) → nat_eq f 0 ≡ b → whole f * only b 1 ≡ 0
        none f false ne is = omega arith
        none f true ne is = absurd (ne (eqb-zero f is))
          where
            eqb-zero : (f : ℕ) → nat_eq f 0 ≡ true → f ≡ 0
            eqb-zero f is = grind arith

    -- what all turns of entered loops cost
    entered_sum : taken_total g x (λ e. sum_below l.loops (λ k. only (enters l k (g.source e) (g.target e)) (l.bound k * round k))) + sum_below g.functions (λ f. calls f * at_entry f) ≡
        sum_below l.loops (λ k. entries k * (l.bound k * round k))
    entered_sum =
        let a : taken_total g x (λ e. sum_below l.loops (λ k. only (enters l k (g.source e) (g.target e)) (l.bound k * round k))) ≡
        sum_below l.loops (λ k. (l.bound k * round k) * taken_total g x (λ e. only (enters l k (g.source e) (g.target e)) 1)) =
        sum-same g.edges (λ e. x e * sum_below l.loops (λ k. only (enters l k (g.source e) (g.target e)) (l.bound k * round k)))
        (λ e. x e * sum_below l.loops (λ k. (l.bound k * round k) * only (enters l k (g.source e) (g.target e)) 1))
        (λ e lt. ap (λ y. x e * y) (sum-same l.loops (λ k. only (enters l k (g.source e) (g.target e)) (l.bound k * round k)) (λ k. (l.bound k * round k) * only (enters l k (g.source e) (g.target e)) 1)
        (λ k kl. only-mul (enters l k (g.source e) (g.target e)) (l.bound k * round k)))) ∙
        taken-sum g x l.loops (λ k. l.bound k * round k) (λ k e. only (enters l k (g.source e) (g.target e)) 1) in
        let b : sum_below g.functions (λ f. calls f * at_entry f) ≡ sum_below l.loops (λ k. (l.bound k * round k) * sum_below g.functions (λ f. calls f * only (l.inside k (g.entry f)) 1)) =
        sum-same g.functions (λ f. calls f * at_entry f) (λ f. sum_below l.loops (λ k. (l.bound k * round k) * (calls f * only (l.inside k (g.entry f)) 1)))
        (λ f fl. sym (sum-mul l.loops (calls f) (λ k. only (l.inside k (g.entry f)) (l.bound k * round k))) ∙
        sum-same l.loops (λ k. calls f * only (l.inside k (g.entry f)) (l.bound k * round k)) (λ k. (l.bound k * round k) * (calls f * only (l.inside k (g.entry f)) 1))
        (λ k kl. ap (λ y. calls f * y) (only-mul (l.inside k (g.entry f)) (l.bound k * round k)) ∙ across (calls f) (l.bound k * round k) (only (l.inside k (g.entry f)) 1))) ∙
        sum-swap g.functions l.loops (λ f k. (l.bound k * round k) * (calls f * only (l.inside k (g.entry f)) 1)) ∙
        sum-same l.loops (λ k. sum_below g.functions (λ f. (l.bound k * round k) * (calls f * only (l.inside k (g.entry f)) 1)))
        (λ k. (l.bound k * round k) * sum_below g.functions (λ f. calls f * only (l.inside k (g.entry f)) 1))
        (λ k kl. sum-mul g.functions (l.bound k * round k) (λ f. calls f * only (l.inside k (g.entry f)) 1)) in
        ap₂ (λ p q. p + q) a b ∙
        sym (sum-add l.loops (λ k. (l.bound k * round k) * taken_total g x (λ e. only (enters l k (g.source e) (g.target e)) 1))
        (λ k. (l.bound k * round k) * sum_below g.functions (λ f. calls f * only (l.inside k (g.entry f)) 1))) ∙
        sum-same l.loops (λ k. (l.bound k * round k) * taken_total g x (λ e. only (enters l k (g.source e) (g.target e)) 1) + (l.bound k * round k) * sum_below g.functions (λ f. calls f * only (l.inside k (g.entry f)) 1))
        (λ k. entries k * (l.bound k * round k))
        (λ k kl. sym (mul-add (l.bound k * round k) (taken_total g x (λ e. only (enters l k (g.source e) (g.target e)) 1)) (sum_below g.functions (λ f. calls f * only (l.inside k (g.entry f)) 1))) ∙
        ap (λ y. (l.bound k * round k) * y) (sym (counts.entered k kl)) ∙ swap (l.bound k * round k) (entries k))
      where
        swap : (a b : ℕ) → a * b ≡ b * a
        swap a b = grind arith

        across : (a b c : ℕ) → a * (b * c) ≡ b * (a * c)
        across a b c = grind arith

    -- where each turn and each call cost what their edges do with what is behind these, a call of the first function costs the taken edges
    pub balance : ((k : ℕ) → k < l.loops → round k ≡ total with_turns (turn k)) → ((f : ℕ) → f < g.functions → whole f ≡ at_entry f + total with_turns (path f)) →
        whole 0 ≡ taken_total g x c
    balance rounds wholes =
        let one : taken_total g x with_turns ≡ sum_below g.functions (λ f. calls f * total with_turns (path f)) + sum_below l.loops (λ k. entries k * (l.bound k * total with_turns (turn k))) =
        counts.taken with_turns in
        let two : taken_total g x with_turns ≡ taken_total g x with_call + taken_total g x (λ e. sum_below l.loops (λ k. only (enters l k (g.source e) (g.target e)) (l.bound k * round k))) =
        taken-add g x with_call (λ e. sum_below l.loops (λ k. only (enters l k (g.source e) (g.target e)) (l.bound k * round k))) in
        let three : taken_total g x with_call ≡ taken_total g x c + taken_total g x (λ e. at_some (g.callee e) whole) = taken-add g x c (λ e. at_some (g.callee e) whole) in
        let four : sum_below l.loops (λ k. entries k * (l.bound k * total with_turns (turn k))) ≡ sum_below l.loops (λ k. entries k * (l.bound k * round k)) =
        sum-same l.loops (λ k. entries k * (l.bound k * total with_turns (turn k))) (λ k. entries k * (l.bound k * round k)) (λ k kl. ap (λ y. entries k * (l.bound k * y)) (sym (rounds k kl))) in
        let five : sum_below g.functions (λ f. calls f * whole f) ≡ sum_below g.functions (λ f. calls f * at_entry f) + sum_below g.functions (λ f. calls f * total with_turns (path f)) =
        sum-same g.functions (λ f. calls f * whole f) (λ f. calls f * at_entry f + calls f * total with_turns (path f))
        (λ f fl. ap (λ y. calls f * y) (wholes f fl) ∙ mul-add (calls f) (at_entry f) (total with_turns (path f))) ∙
        sum-add g.functions (λ f. calls f * at_entry f) (λ f. calls f * total with_turns (path f)) in
        let six : taken_total g x (λ e. at_some (g.callee e) whole) + whole 0 ≡ sum_below g.functions (λ f. calls f * whole f) = called_sum in
        let seven : taken_total g x (λ e. sum_below l.loops (λ k. only (enters l k (g.source e) (g.target e)) (l.bound k * round k))) + sum_below g.functions (λ f. calls f * at_entry f) ≡
        sum_below l.loops (λ k. entries k * (l.bound k * round k)) = entered_sum in
        omega arith

-- the law
pub counts_are : CountsAreOfWalks
counts_are g l extent path turn x calls entries prog acc parts counts = (
  record { own = own; whole = found.0 },
  record { bounded = walked; whole = found.1 },
  λ c. balance g l path turn x calls entries prog counts c (λ k. total (called_cost g found.0 c) (turns.0 k)) (λ f. total c (found.0 f))
      (λ k kl. turn_cost g l nest turn parts.turns turns.0 turns.1 (called_cost g found.0 c) k kl)
      (λ f fl. ap (total c) (found.1 f fl) ∙ calls_cost g found.0 c (own f) ∙
      entry_cost g l nest turn parts.turns turns.0 turns.1 (g.entry f) (at_headers f fl) (path f) (parts.paths f fl) (called_cost g found.0 c)),
)
  where
    nest : AreNested g l
    nest = nested g l extent prog (accepted_entered acc)

    turns : (t : ℕ → List ℕ) × ((k : ℕ) → k < l.loops → t k ≡ filled g l t (turn k))
    turns = turns_exist g l nest turn parts.turns

    own : ℕ → List ℕ
    own f = from_entry g l nest turn parts.turns turns.0 turns.1 (g.entry f) (path f)

    at_headers : (f : ℕ) → f < g.functions → (k : ℕ) → k < l.loops → l.inside k (g.entry f) ≡ true → g.entry f ≡ l.header k
    at_headers f fl k kl in_k = entry_header g l extent prog (accepted_entered acc) f k fl kl in_k

    walked : (f : ℕ) → f < g.functions → IsBoundedWalk g l (g.entry f) (own f)
    walked f fl = entry_walk g l nest turn parts.turns turns.0 turns.1 (g.entry f) (at_headers f fl) (path f) (parts.paths f fl)

    order : (o : ℕ → ℕ) × IsCallOrder g o
    order = call_order g prog

    found : (whole : ℕ → List ℕ) × ((f : ℕ) → f < g.functions → whole f ≡ with_calls g whole (own f))
    found = wholes_exist g prog order.0 order.1 own (λ f fl. (walked f fl).0)
