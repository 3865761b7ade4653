-- The bytes that an image loads are bytes.
use Rattle.std.proofs.Common.{ℕ, zero, suc, ◌+◌, ◌-◌, ◌<◌, Bool, true, false, cond, ◌&&◌, not, List, [], ◌∷◌, take, drop, get_or, length, Option, Some, None, Ok, ◌≡◌, arith, sym, subst}
use Rattle.std.specs.Prelude.{All, find, option_map, nat_lt, slice_range}
use Rattle.std.proofs.lemmas.List.{get_or-drop}
use Rattle.scale_base.specs.declared.headers.ProgramHeader.{ProgramHeader}
use Rattle.scale_base.specs.Image.{contents, loaded_byte, byte_in, covers, segment_of, loaded_headers, is_zeroed}
use Rattle.scale_base.proofs.Laws.{contents-are}
use Rattle.machine_laws.proofs.Laws.{find-map}
use Rattle.scale_base.specs.Image.{Image, image_of}

abbrev AreSmall : List ℕ → Type 0
AreSmall xs = (i : ℕ) → get_or xs i 0 < 256

small_of : (xs : List ℕ) → All (λ b. b < 256) xs → AreSmall xs
small_of [] h i = omega arith
small_of (x ∷ xs) h zero = h 0 x (omega arith)
small_of (x ∷ xs) h (suc i) = small_of xs (λ k d lt. h (suc k) d (omega (arith, lt))) i

small_take : (n : ℕ) (xs : List ℕ) → AreSmall xs → AreSmall (take n xs)
small_take zero xs h i = omega arith
small_take (suc n) [] h i = omega arith
small_take (suc n) (x ∷ xs) h zero = h 0
small_take (suc n) (x ∷ xs) h (suc i) = small_take n xs (λ j. h (suc j)) i

small_slice : (xs : List ℕ) (from to : ℕ) → AreSmall xs → AreSmall (slice_range xs from to)
small_slice xs from to h = small_take (to - from) (drop from xs) (λ i. subst (λ b. b < 256) (sym (get_or-drop from xs i 0)) (h (from + i)))

either : (b : Bool) (x : ℕ) → x < 256 → cond b x 0 < 256
either true x h = h
either false x h = omega arith

by_found : (file : List ℕ) → AreSmall file → (a : ℕ) (o : Option ProgramHeader) → byte_in a (option_map (segment_of file) o) < 256
by_found file h a None = omega arith
by_found file h a (Some g) =
    let bytes = slice_range file g.p_offset (g.p_offset + g.p_filesz) in
    either (nat_lt (a - g.p_vaddr) (length bytes) && not (is_zeroed (g.p_offset + (a - g.p_vaddr)))) (get_or bytes (a - g.p_vaddr) 0) (small_slice file g.p_offset (g.p_offset + g.p_filesz) h (a - g.p_vaddr))

loaded : (file : List ℕ) → AreSmall file → (a : ℕ) → loaded_byte (contents file) a < 256
unfolding loaded_byte contents
loaded file h a = subst (λ o. byte_in a o < 256) (sym (find-map (covers a) (segment_of file) (loaded_headers file))) (by_found file h a (find (λ g. covers a (segment_of file g)) (loaded_headers file)))

pub loaded_small : (file : List ℕ) (image : Image) → image_of file ≡ Ok image → All (λ b. b < 256) file → (a : ℕ) → loaded_byte image a < 256
loaded_small = λ file image is all a. subst (λ i. loaded_byte i a < 256) (contents-are file image is) (loaded file (small_of file all) a)
