-- A stored file has the bytes of the original up to its block, the block, and a table of at most 65 program headers.
use Rattle.std.proofs.Common.{◌≡◌, ℕ, zero, suc, ◌+◌, ◌-◌, ◌*◌, ◌≤◌, Bool, true, false, cond, List, ◌∷◌, ◌++◌, length, drop, get_or, Ok, refl, sym, subst, arith}
use Rattle.std.specs.Prelude.{All, IsTrue, not, nat_le, ◌&&◌, ◌==◌}
use Rattle.std.proofs.lemmas.List.{length-append, length-drop, length-take}
use Rattle.std.proofs.lemmas.List.Sums.{prefix_len-le-length}
use Rattle.scale_base.specs.declared.ranges.Patch.{Patch}
use Rattle.scale_base.specs.Elf.{e_phoff, e_phnum, program_header, program_headers}
use Rattle.scale_base.specs.Image.{Image, image_of, is_load, is_word_address}
use Rattle.scale_base.proofs.Laws.{contents-are, rules_kept}
use Rattle.elf_view.proofs.Laws.{length-headers}
use Rattle.elf_patch.specs.Stored.{block_entry, block_start, entries, entry_bytes, kept_entry, keyed_number, stored_image, stored_table}
use Rattle.stored_laws.proofs.Laws.{Places, known, stored-is, text_place}

-- ---- the table

entry_short : (file : List ℕ) (k : ℕ) → length (kept_entry file k) ≤ 32
entry_short file k =
    let at = e_phoff file + 32 * k in
    let few : length (entry_bytes file k) ≤ 32 = omega (arith, length-take (at + 32 - at) (drop at file)) in
    step ((program_header file k).p_type == 6) few
  where
    step : (b : Bool) → length (entry_bytes file k) ≤ 32 → length (cond b (0 ∷ 0 ∷ 0 ∷ 0 ∷ drop 4 (entry_bytes file k)) (entry_bytes file k)) ≤ 32
    step true few = omega (arith, few, length-drop 4 (entry_bytes file k))
    step false few = few

entries_short : (file : List ℕ) (a n : ℕ) → length (entries file a n) ≤ 32 * n
entries_short file a zero = omega arith
entries_short file a (suc n) =
    let one = entry_short file a in
    let rest = entries_short file (a + 1) n in
    let e : length (entries file a (suc n)) ≡ length (kept_entry file a ++ entries file (a + 1) n) = refl in
    omega (arith, one, rest, e, length-append (kept_entry file a) (entries file (a + 1) n))

table_short : (file : List ℕ) (place base start len : ℕ) → length (stored_table file place base start len) ≤ 32 * (e_phnum file + 1)
unfolding stored_table
table_short file place base start len =
    let k = keyed_number file base in
    let low : k ≤ e_phnum file = omega (arith, prefix_len-le-length (λ h. not (is_load h && nat_le base h.p_vaddr)) (program_headers file), length-headers file) in
    let key = block_entry place base start len in
    let one : length key ≡ 32 = refl in
    let before = entries file 0 k in
    let after = entries file k (e_phnum file - k) in
    omega (arith, low, one, entries_short file 0 k, entries_short file k (e_phnum file - k), length-append before key, length-append (before ++ key) after)

-- ---- the file

places_of : (file : List ℕ) (image : Image) (patches : List Patch) → image_of file ≡ Ok image → All (λ p. IsTrue (is_word_address image p.at)) patches → Places file patches
places_of file image patches e words = λ k d lt q at.
    let here = subst (λ (i : Image). is_word_address i (get_or patches k d).at ≡ true) (sym (contents-are file image e)) (words k d lt) in
    text_place file (get_or patches k d).at q (rules_kept file image e) here at

pub file_short : (file : List ℕ) (image : Image) (patches : List Patch) (base : ℕ) (block : List ℕ) (start : ℕ) → image_of file ≡ Ok image → length file ≤ 4194304
    → All (λ p. IsTrue (is_word_address image p.at)) patches → length block ≤ 2101528 → length (stored_image file patches base block start) ≤ 8388608
file_short file image patches base block start e short words small =
    let k = known file (rules_kept file image e) in
    let few = k.few in
    let s = stored-is file patches base start block k.long short few (omega (arith, small)) (places_of file image patches e words) in
    let size = s.size in
    let table = table_short file (block_start file) base start (length block) in
    omega (arith, size, table, few, short, small)
