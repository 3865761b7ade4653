-- Notes in ascending order are the same notes.
use Rattle.std.proofs.Common.{◌≡◌, ◌+◌, Bool, true, false, List, [], ◌∷◌, length, map, fold, arith, ap, sym, subst, Bor}
use Rattle.std.specs.Prelude.{nat_lt, if◌then◌else◌}
use Rattle.std.specs.List.{All}
use Rattle.std.proofs.lemmas.List.{length-map}
use Rattle.std.proofs.lemmas.List.Elements.{All-nil, All-cons, All-head, All-tail}
use Rattle.std.proofs.Math.ListN.{get_or-map}
use Rattle.jump_lists.specs.declared.notes.JumpNote.{JumpNote}
use Rattle.jump_lists.specs.Notes.{IsJumpNote}
use Rattle.image_lower.specs.Block.{insert_note, ascending_notes}

all_step : (P : JumpNote → Type 0) (b : Bool) (n x : JumpNote) (xs ys : List JumpNote) → P n → All P (x ∷ xs) → All P ys → All P (if b then n ∷ x ∷ xs else x ∷ ys)
all_step P true n x xs ys p h g = All-cons P n (x ∷ xs) p h
all_step P false n x xs ys p h g = All-cons P x ys (All-head P x xs h) g

all_insert : (P : JumpNote → Type 0) (xs : List JumpNote) (n : JumpNote) → P n → All P xs → All P (insert_note xs n)
all_insert P [] n p h = All-cons P n [] p (All-nil P)
all_insert P (x ∷ xs) n p h = all_step P (nat_lt n.at x.at) n x xs (insert_note xs n) p h (all_insert P xs n p (All-tail P x xs h))

pub all_fold : (P : JumpNote → Type 0) (acc notes : List JumpNote) → All P acc → All P notes → All P (fold insert_note acc notes)
all_fold P acc [] h g = h
all_fold P acc (n ∷ ns) h g = all_fold P (insert_note acc n) ns (all_insert P acc n (All-head P n ns g) h) (All-tail P n ns g)

len_step : (b : Bool) (n x : JumpNote) (xs ys : List JumpNote) → length ys ≡ length xs + 1 → length (if b then n ∷ x ∷ xs else x ∷ ys) ≡ length (x ∷ xs) + 1
len_step true n x xs ys h = omega arith
len_step false n x xs ys h = omega (arith, h)

len_insert : (xs : List JumpNote) (n : JumpNote) → length (insert_note xs n) ≡ length xs + 1
len_insert [] n = omega arith
len_insert (x ∷ xs) n = len_step (nat_lt n.at x.at) n x xs (insert_note xs n) (len_insert xs n)

pub len_fold : (acc notes : List JumpNote) → length (fold insert_note acc notes) ≡ length acc + length notes
len_fold acc [] = omega arith
len_fold acc (n ∷ ns) = let h = len_fold (insert_note acc n) ns in let g = len_insert acc n in omega (arith, h, g)

pub ascending_len : (notes : List JumpNote) (sorted : List (Bor JumpNote)) → map (λ n. n.now) sorted ≡ ascending_notes notes → length sorted ≡ length notes
unfolding ascending_notes
ascending_len notes sorted is =
    let f : Bor JumpNote → JumpNote = λ n. n.now in
    let a : length (map f sorted) ≡ length (fold insert_note [] notes) = ap (λ (xs : List JumpNote). length xs) is in
    let b = len_fold [] notes in
    let l = length-map sorted f in
    omega (arith, a, b, l)

pub ascending_kept : (notes : List JumpNote) (sorted : List (Bor JumpNote)) → map (λ n. n.now) sorted ≡ ascending_notes notes → All IsJumpNote notes → All (λ n. IsJumpNote n.now) sorted
unfolding ascending_notes
ascending_kept notes sorted is each =
    let f : Bor JumpNote → JumpNote = λ n. n.now in
    let all : All IsJumpNote (map f sorted) = subst (All IsJumpNote) (sym is) (all_fold IsJumpNote [] notes (All-nil IsJumpNote) each) in
    let l = length-map sorted f in
    λ k d lt. subst IsJumpNote (get_or-map f sorted k d) (all k (f d) (omega (arith, lt, l)))
