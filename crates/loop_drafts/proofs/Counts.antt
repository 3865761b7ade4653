-- How many items of a list pass a test: none, or all of them.
use Rattle.std.proofs.Common.{◌≡◌, ℕ, ◌+◌, ◌≤◌, Bool, true, false, cond, if◌then◌else◌, List, [], ◌∷◌, ◌++◌, length, All, refl, sym, ap, ◌∙◌, arith}
use Rattle.std.specs.Prelude.{count_by}
use Rattle.std.proofs.lemmas.List.{append-nil}
use Rattle.std.proofs.lemmas.List.Sums.{sum_by-cons, count_by-le-length}
use Rattle.std.proofs.lemmas.List.Elements.{All-nil, All-cons}
use Rattle.loop_drafts.specs.declared.drafted.Piece.{Piece}
use Rattle.loop_drafts.specs.Pieces.{bound_line, printed_piece, printed, filled_piece, filled}

count_cons : {A : Type 0} (p : A → Bool) (x : A) (xs : List A) → count_by p (x ∷ xs) ≡ cond (p x) 1 0 + count_by p xs
count_cons p x xs = sum_by-cons (λ y. cond (p y) 1 0) x xs

pub all_counted : {A : Type 0} (p : A → Bool) (xs : List A) → count_by p xs ≡ length xs → All (λ x. p x ≡ true) xs
all_counted p [] e = All-nil (λ x. p x ≡ true)
all_counted p (x ∷ xs) e = by_test (p x) refl (λ rest. all_counted p xs rest)
  where
    by_test : (b : Bool) → p x ≡ b → (count_by p xs ≡ length xs → All (λ y. p y ≡ true) xs) → All (λ y. p y ≡ true) (x ∷ xs)
    by_test true q others =
        let one : count_by p (x ∷ xs) ≡ 1 + count_by p xs = count_cons p x xs ∙ ap (λ b. cond b 1 0 + count_by p xs) q in
        let rest : count_by p xs ≡ length xs = omega (arith, one, e) in
        All-cons (λ y. p y ≡ true) x xs q (others rest)
    by_test false q others =
        let none : count_by p (x ∷ xs) ≡ 0 + count_by p xs = count_cons p x xs ∙ ap (λ b. cond b 1 0 + count_by p xs) q in
        let few : count_by p xs ≤ length xs = count_by-le-length p xs in
        absurd (omega (arith, none, few, e))

-- without open pieces nothing is filled in
pub none_open : (bound : ℕ) (pieces : List Piece) → count_by (λ piece. piece.is_open) pieces ≡ 0 → printed pieces ≡ filled bound pieces
none_open bound [] e = refl
none_open bound (piece ∷ pieces) e = by_open piece.is_open refl (λ rest. none_open bound pieces rest)
  where
    by_open : (b : Bool) → piece.is_open ≡ b → (count_by (λ (p : Piece). p.is_open) pieces ≡ 0 → printed pieces ≡ filled bound pieces) → printed (piece ∷ pieces) ≡ filled bound (piece ∷ pieces)
    by_open true q others =
        let one : count_by (λ (p : Piece). p.is_open) (piece ∷ pieces) ≡ 1 + count_by (λ (p : Piece). p.is_open) pieces = count_cons (λ (p : Piece). p.is_open) piece pieces ∙ ap (λ b. cond b 1 0 + count_by (λ (p : Piece). p.is_open) pieces) q in
        absurd (omega (arith, one, e))
    by_open false q others =
        let none : count_by (λ (p : Piece). p.is_open) (piece ∷ pieces) ≡ 0 + count_by (λ (p : Piece). p.is_open) pieces = count_cons (λ (p : Piece). p.is_open) piece pieces ∙ ap (λ b. cond b 1 0 + count_by (λ (p : Piece). p.is_open) pieces) q in
        let rest : count_by (λ (p : Piece). p.is_open) pieces ≡ 0 = omega (arith, none, e) in
        let here : printed_piece piece ≡ filled_piece bound piece = sym (ap (λ b. printed_piece piece ++ (if b then bound_line bound else [])) q ∙ append-nil (printed_piece piece)) in
        ap (λ xs. printed_piece piece ++ xs) (others rest) ∙ ap (λ xs. xs ++ filled bound pieces) here
