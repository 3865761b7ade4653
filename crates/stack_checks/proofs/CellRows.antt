-- What holds of each cell of a list holds by number, and the byte at an address by the first segment that has it.
use Rattle.std.proofs.Common.{◌≡◌, ◌<◌, ◌+◌, ◌⊎◌, ⊎_elim, get_or, ℕ, zero, suc, Bool, cond, List, [], ◌∷◌, length, drop, refl, sym, ap, ◌∙◌, subst, arith, Option, Some, None}
use Rattle.std.specs.List.{All, find}
use Rattle.std.specs.Prelude.{slice_get, option_map}
use Rattle.std.proofs.lemmas.List.{get_or_default}
use Rattle.scale_base.specs.Image.{Image, LoadSegment, covers, byte_in, loaded_byte}
use Rattle.flow_graph.proofs.Laws.{less_same_more}
use Rattle.scale_base.specs.declared.instruction.Instr.{Instr}
use Rattle.bound_laws.specs.Values.{Values}
use Rattle.stack_laws.specs.Cells as cells
use Rattle.stack_laws.specs.Cells.{IsCellHeld}
use Rattle.stack_laws.specs.Stacks.{IsCellKept}
use Rattle.stack_tables.specs.declared.tables.Cell.{Cell}
use Rattle.stack_tables.specs.declared.memory.Storing.{Storing}
use Rattle.stack_tables.specs.Tables.{IsKeptBy, IsStoredBy, cell_view}

-- of each one of a list, or of none where the list ends
pub of_each : {A B : Type 0} (f : A → B) (P : Option B → Type 0) → P None → (xs : List A) → All (λ (x : A). P (Some (f x))) xs → (j : ℕ) → P (option_map f (slice_get xs j))
of_each f P none [] all j = none
of_each f P none (x ∷ xs) all zero = all 0 x (omega arith)
of_each f P none (x ∷ xs) all (suc j) = of_each f P none xs (λ k d lt. all (suc k) d (omega (arith, lt))) j

pub kept_by_all : (v : Values) (a : ℕ) (i : Instr) (s : Storing) (xs : List Cell) → IsStoredBy v a i (Some s) → All (λ (c : Cell). IsKeptBy (Some s) (cell_view c)) xs → (j : ℕ) → IsCellKept v a i (option_map cell_view (slice_get xs j))
kept_by_all v a i s xs stored all = of_each cell_view (IsCellKept v a i) tt xs (λ k d lt. stored _ (all k d lt))

pub kept_by_none : (v : Values) (a : ℕ) (i : Instr) → IsStoredBy v a i None → (o : Option cells.Cell) → IsCellKept v a i o
kept_by_none v a i stored None = tt
kept_by_none v a i stored (Some c) = stored c tt

pub held_by_all : (bytes : ℕ → ℕ) (xs : List Cell) → All (λ (c : Cell). IsCellHeld (Some (cell_view c)) bytes) xs → (j : ℕ) → IsCellHeld (option_map cell_view (slice_get xs j)) bytes
held_by_all bytes xs all = of_each cell_view (λ o. IsCellHeld o bytes) tt xs all

-- ---- what a test finds in a list from a place on

pub found_from : {A : Type 0} (p : A → Bool) (xs : List A) (k : ℕ) (x : A) → slice_get xs k ≡ Some x → find p (drop k xs) ≡ cond (p x) (Some x) (find p (drop (k + 1) xs))
found_from p [] k x at = let bad : ⊥ = cc in absurd bad
found_from p (y ∷ xs) zero x at = let same : y ≡ x = cc in ap (λ z. cond (p z) (Some z) (find p xs)) same
found_from p (y ∷ xs) (suc k) x at = subst (λ n. find p (drop k xs) ≡ cond (p x) (Some x) (find p (drop n (y ∷ xs)))) (let e : suc (k + 1) ≡ suc k + 1 = omega arith in e) (found_from p xs k x at)

pub none_from : {A : Type 0} (p : A → Bool) (xs : List A) → find p (drop (length xs) xs) ≡ None
none_from p [] = refl
none_from p (x ∷ xs) = none_from p xs

-- the byte at an address by the segment that is found
pub byte_found : (image : Image) (at : ℕ) (o : Option LoadSegment) → o ≡ find (covers at) image.segments → byte_in at o ≡ loaded_byte image at
unfolding loaded_byte
byte_found image at o e = ap (byte_in at) e

-- of each one up to a place, and of the one there
pub one_so_far : {A : Type 0} (P : A → Type 0) (xs : List A) (n : ℕ) (x : A) → n < length xs → x ≡ get_or xs n x → P x → ((i : ℕ) (other : A) → i < n → P (get_or xs i other)) → (i : ℕ) (other : A) → i < n + 1 → P (get_or xs i other)
one_so_far P xs n x within is here before i other lt = ⊎_elim
    (λ (less : i < n). before i other less)
    (λ (rest : (i ≡ n) ⊎ (n < i)). ⊎_elim
    (λ (same : i ≡ n). subst (λ (k : ℕ). P (get_or xs k other)) (sym same) (subst P (is ∙ get_or_default xs n x other within) here))
    (λ (after : n < i). let bad : ⊥ = omega (arith, lt, after) in absurd bad)
    rest)
    (less_same_more i n)
