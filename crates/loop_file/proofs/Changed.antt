-- Notes that are made of others are notes again.
use Rattle.std.proofs.Common.{arith, refl, ◌∙◌, ◌≡◌, ◌≤◌, ◌<◌, ◌++◌, ◌+◌, ℕ, zero, suc, List, [], ◌∷◌, map, length, take, drop, slice_set, slice_index_or, All, sym, subst, ap}
use Rattle.std.proofs.Math.Nat.{le_refl}
use Rattle.std.proofs.lemmas.List.{length-map}
use Rattle.std.proofs.lemmas.List.Elements.{All-map, All-weaker}
use Rattle.loop_file.specs.declared.notes.LoopNote.{LoopNote}
use Rattle.loop_file.specs.Notes.{IsLoopNote, AreLoopNotes, relaxed_note, uncounted_note}

changed : (f : LoopNote → LoopNote) → ((note : LoopNote) → IsLoopNote note → IsLoopNote (f note)) → (notes : List LoopNote) → AreLoopNotes notes → AreLoopNotes (map f notes)
changed f keeps notes are = record { few = subst (λ n. n ≤ 4096) (sym (length-map notes f)) are.few; each = All-map IsLoopNote f notes (All-weaker IsLoopNote (λ note. IsLoopNote (f note)) keeps notes are.each) }

pub relaxed_notes : (notes : List LoopNote) → AreLoopNotes notes → AreLoopNotes (map relaxed_note notes)
relaxed_notes = changed relaxed_note (λ note is. record { some = is.some; few = is.few; bound = le_refl 1000000000; least = omega arith })

pub uncounted_notes : (notes : List LoopNote) → AreLoopNotes notes → AreLoopNotes (map uncounted_note notes)
uncounted_notes = changed uncounted_note (λ note is. record { some = is.some; few = is.few; bound = is.bound; least = is.least })

-- the first notes changed, and the others as they were
abbrev pub changed_upto : (LoopNote → LoopNote) → ℕ → List LoopNote → List LoopNote
changed_upto f i notes = map f (take i notes) ++ drop i notes

pub set_next : (f : LoopNote → LoopNote) (i : ℕ) (notes : List LoopNote) (d : LoopNote) → i < length notes →
    slice_set (changed_upto f i notes) i (f (slice_index_or (changed_upto f i notes) i d)) ≡ changed_upto f (suc i) notes
set_next f i [] d lt = absurd (omega (arith, lt))
set_next f zero (note ∷ notes) d lt = refl
set_next f (suc i) (note ∷ notes) d lt = ap (λ ns. f note ∷ ns) (set_next f i notes d (omega (arith, lt)))

pub length_upto : (f : LoopNote → LoopNote) (i : ℕ) (notes : List LoopNote) → length (changed_upto f i notes) ≡ length notes
length_upto f zero notes = refl
length_upto f (suc i) [] = refl
length_upto f (suc i) (note ∷ notes) = ap suc (length_upto f i notes)

pub all_changed : (f : LoopNote → LoopNote) (notes : List LoopNote) → changed_upto f (length notes) notes ≡ map f notes
all_changed f [] = refl
all_changed f (note ∷ notes) = ap (λ ns. f note ∷ ns) (all_changed f notes)

pub whole : (xs : List LoopNote) (n : ℕ) (ys : List LoopNote) → n ≡ length xs → length xs ≡ length ys → take n (xs ++ drop (length xs) ys) ≡ xs
whole [] n [] at same = ap (λ k. take k []) at
whole [] n (y ∷ ys) at same = absurd (omega (arith, same))
whole (x ∷ xs) zero ys at same = absurd (omega (arith, at))
whole (x ∷ xs) (suc n) [] at same = absurd (omega (arith, same))
whole (x ∷ xs) (suc n) (y ∷ ys) at same = ap (λ ns. x ∷ ns) (whole xs n ys (omega (arith, at)) (omega (arith, same)))

take_all : (notes : List LoopNote) (n : ℕ) → length notes ≤ n → take n notes ≡ notes
take_all [] zero le = refl
take_all [] (suc n) le = refl
take_all (note ∷ notes) zero le = absurd (omega (arith, le))
take_all (note ∷ notes) (suc n) le = ap (λ ns. note ∷ ns) (take_all notes n (omega (arith, le)))

pub relaxed_upto : (notes items : List LoopNote) (n : ℕ) → items ≡ map relaxed_note (take n notes) → length notes ≤ n → AreLoopNotes notes → AreLoopNotes items
relaxed_upto notes items n same le are = subst AreLoopNotes (sym (same ∙ ap (map relaxed_note) (take_all notes n le))) (relaxed_notes notes are)

pub uncounted_upto : (notes items : List LoopNote) (n k : ℕ) → items ≡ changed_upto uncounted_note n notes → length items ≤ n → n ≤ length items → k ≡ length notes → take k (items ++ drop (length items) notes) ≡ map uncounted_note notes
uncounted_upto notes items n k same le ge len =
    let size : length items ≡ length notes = ap length same ∙ length_upto uncounted_note n notes in
    whole items k notes (len ∙ sym size) size
    ∙ same ∙ ap (λ i. changed_upto uncounted_note i notes) (omega (arith, le, ge, size)) ∙ all_changed uncounted_note notes

pub next_note : (notes items : List LoopNote) (n : ℕ) (d : LoopNote) → items ≡ changed_upto uncounted_note n notes → n < length notes → slice_set items n (uncounted_note (slice_index_or items n d)) ≡ changed_upto uncounted_note (n + 1) notes
next_note notes items n d same lt =
    let next : suc n ≡ n + 1 = omega arith in
    ap (λ xs. slice_set xs n (uncounted_note (slice_index_or xs n d))) same ∙ set_next uncounted_note n notes d lt ∙ ap (λ i. changed_upto uncounted_note i notes) next
