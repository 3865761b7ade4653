-- Lists made from a function of the index.
use Rattle.std.proofs.Common.{◌≡◌, ℕ, zero, suc, ◌+◌, ◌<◌, ◌≤◌, Bool, true, false, List, length, map, get_or, refl, arith}
use Rattle.std.specs.List.{range_with_len, list_any}
use Rattle.std.proofs.lemmas.List.Folds.{list_any_at}
use Rattle.std.proofs.lemmas.List.FromFn.{length-map-range_with_len, get_or-map-range_with_len}
use Rattle.scale_base.specs.declared.headers.ProgramHeader.{ProgramHeader}
use Rattle.scale_base.specs.Elf.{e_phnum, program_header, program_headers}

none_from : {A : Type 0} (p : A → Bool) (f : ℕ → A) (a n : ℕ) → ((k : ℕ) → a ≤ k → k < a + n → p (f k) ≡ false) → list_any p (map f (range_with_len a n)) ≡ false
none_from p f a zero h = refl
none_from p f a (suc n) h = rw (h a (omega arith) (omega arith)) (none_from p f (a + 1) n (λ k low high. h k (omega arith) (omega arith)))

pub length-headers : (file : List ℕ) → length (program_headers file) ≡ e_phnum file
unfolding program_headers
length-headers file = length-map-range_with_len (program_header file) 0 (e_phnum file)

pub header_at : (file : List ℕ) (k : ℕ) (d : ProgramHeader) → k < e_phnum file → get_or (program_headers file) k d ≡ program_header file k
unfolding program_headers
header_at file k d lt = get_or-map-range_with_len (program_header file) 0 (e_phnum file) k k d lt (omega arith)

-- no program header passes the test, and one does
pub no_header : (file : List ℕ) (p : ProgramHeader → Bool) → ((k : ℕ) → k < e_phnum file → p (program_header file k) ≡ false) → list_any p (program_headers file) ≡ false
unfolding program_headers
no_header file p h = none_from p (program_header file) 0 (e_phnum file) (λ k low high. h k (omega arith))

pub some_header : (file : List ℕ) (p : ProgramHeader → Bool) (k : ℕ) → k < e_phnum file → p (program_header file k) ≡ true → list_any p (program_headers file) ≡ true
some_header file p k lt e =
    list_any_at p (program_headers file) k (program_header file k) (omega (arith, length-headers file)) (rw (header_at file k (program_header file k) lt) e)
