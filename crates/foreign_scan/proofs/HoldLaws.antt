-- Code that stands in the keyed segment.
use Rattle.std.proofs.Common.{◌≡◌, ℕ, zero, suc, ◌+◌, ◌*◌, ◌<◌, ◌≤◌, List, [], ◌∷◌, ◌++◌, length, get_or, take, Some, sym, subst, ◌∙◌, arith, add-one}
use Rattle.std.proofs.lemmas.List.{take_all}
use Rattle.scale_base.specs.declared.instruction.Instr.{Instr}
use Rattle.scale_base.specs.Image.{Image}
use Rattle.foreign_scan.specs.Form.{HoldsAt, Hold}

-- one address holds one instruction
pub one_instr : (image : Image) (at : ℕ) (i j : Instr) → HoldsAt image at i → HoldsAt image at j → i ≡ j
one_instr image at i j a b = let e : Some i ≡ Some j = sym a.reads ∙ b.reads in cc

pub moved : (image : Image) (at to : ℕ) (i : Instr) → at ≡ to → HoldsAt image at i → HoldsAt image to i
moved image at to i e h = subst (λ a. HoldsAt image a i) e h

pub moved_all : (image : Image) (at to : ℕ) (xs : List Instr) → at ≡ to → Hold image at xs → Hold image to xs
moved_all image at to xs e h = subst (λ a. Hold image a xs) e h

pub hold_at : (image : Image) (at : ℕ) (xs : List Instr) (k : ℕ) (d : Instr) → k < length xs → Hold image at xs → HoldsAt image (at + 4 * k) (get_or xs k d)
hold_at image at [] k d lt h = absurd (omega (arith, lt))
hold_at image at (x ∷ xs) zero d lt h = moved image at (at + 4 * 0) x (omega arith) h.0
hold_at image at (x ∷ xs) (suc k) d lt h = moved image (at + 4 + 4 * k) (at + 4 * suc k) (get_or xs k d) (omega arith) (hold_at image (at + 4) xs k d (omega (arith, lt)) h.1)

hold_suc : (image : Image) (at : ℕ) (xs : List Instr) (k : ℕ) (d : Instr) → k < length xs → Hold image at (take k xs) → HoldsAt image (at + 4 * k) (get_or xs k d) → Hold image at (take (suc k) xs)
hold_suc image at [] k d lt h one = absurd (omega (arith, lt))
hold_suc image at (x ∷ xs) zero d lt h one = (moved image (at + 4 * 0) at x (omega arith) one, tt)
hold_suc image at (x ∷ xs) (suc k) d lt h one =
    (h.0, hold_suc image (at + 4) xs k d (omega (arith, lt)) h.1 (moved image (at + 4 * suc k) (at + 4 + 4 * k) (get_or xs k d) (omega arith) one))

pub hold_more : (image : Image) (at : ℕ) (xs : List Instr) (k : ℕ) (d : Instr) → k < length xs → Hold image at (take k xs) → HoldsAt image (at + 4 * k) (get_or xs k d) → Hold image at (take (k + 1) xs)
hold_more image at xs k d lt h one = rw add-one (hold_suc image at xs k d lt h one)

pub hold_all : (image : Image) (at : ℕ) (xs : List Instr) (k : ℕ) → length xs ≤ k → Hold image at (take k xs) → Hold image at xs
hold_all image at xs k le h = subst (Hold image at) (take_all k xs le) h

pub hold_split : (image : Image) (at : ℕ) (xs ys : List Instr) → Hold image at (xs ++ ys) → Hold image at xs × Hold image (at + 4 * length xs) ys
hold_split image at [] ys h = (tt, moved_all image at (at + 4 * 0) ys (omega arith) h)
hold_split image at (x ∷ xs) ys h =
    let r = hold_split image (at + 4) xs ys h.1 in
    ((h.0, r.0), moved_all image (at + 4 + 4 * length xs) (at + 4 * suc (length xs)) ys (omega arith) r.1)

pub hold_join : (image : Image) (at : ℕ) (xs ys : List Instr) → Hold image at xs → Hold image (at + 4 * length xs) ys → Hold image at (xs ++ ys)
hold_join image at [] ys a b = moved_all image (at + 4 * 0) at ys (omega arith) b
hold_join image at (x ∷ xs) ys a b = (a.0, hold_join image (at + 4) xs ys a.1 (moved_all image (at + 4 * suc (length xs)) (at + 4 + 4 * length xs) ys (omega arith) b))
