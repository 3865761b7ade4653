-- A text has fewer words than addresses, so few are replaced.
use Rattle.std.proofs.Common.{◌≡◌, ℕ, ◌+◌, ◌-◌, ◌*◌, ◌/◌, ◌^◌, ◌<◌, ◌≤◌, List, [], ◌∷◌, length, take, Option, Some, None, Ok, ap, ◌∙◌, arith}
use Rattle.std.specs.Prelude.{All, filter_map}
use Rattle.std.specs.List.{cons_option}
use Rattle.std.proofs.lemmas.List.{length-append, take_all}
use Rattle.std.proofs.lemmas.List.Concat.{flat_map-cons}
use Rattle.std.proofs.lemmas.List.Elements.{All-head, All-tail}
use Rattle.std.proofs.lemmas.List.FromFn.{length-map-range_with_len}
use Rattle.scale_base.specs.declared.ranges.Patch.{Patch}
use Rattle.scale_base.specs.declared.ranges.Range.{Range}
use Rattle.scale_base.specs.Image.{Image, image_of}
use Rattle.elf_image.specs.Ascending.{AscendFrom}
use Rattle.machine_laws.proofs.Laws.{IsTextRange, text_ranges_kept}
use Rattle.code_text.specs.Table.{word_addresses, all_addresses}
use Rattle.jump_lists.specs.declared.notes.JumpNote.{JumpNote}
use Rattle.image_lower.specs.FarJumps.{far_patch}

few_from : (low : ℕ) (ranges : List Range) → AscendFrom low ranges → All IsTextRange ranges → low ≤ 0xFF000000 → low + length (all_addresses ranges) ≤ 0xFF000000
few_from low [] h each le = omega (arith, le)
few_from low (r ∷ ranges) (first, some, rest) each le =
    let one = All-head IsTextRange r ranges each in
    let below = one.below in
    let go = few_from r.to ranges rest (All-tail IsTextRange r ranges each) (omega (arith, below)) in
    let size : length (word_addresses r) ≡ (r.to - r.from) / 4 = length-map-range_with_len (λ i. r.from + 4 * i) 0 ((r.to - r.from) / 4) in
    let whole : length (all_addresses (r ∷ ranges)) ≡ length (word_addresses r) + length (all_addresses ranges) = ap (λ (xs : List ℕ). length xs) (flat_map-cons word_addresses r ranges) ∙ length-append (word_addresses r) (all_addresses ranges) in
    omega (arith, go, size, whole, first, some)

few_kept : (f : ℕ → Option Patch) (xs : List ℕ) → length (filter_map f xs) ≤ length xs
few_kept f [] = omega arith
few_kept f (x ∷ xs) = by (f x) (few_kept f xs)
  where
    by : (o : Option Patch) → length (filter_map f xs) ≤ length xs → length (cons_option o (filter_map f xs)) ≤ length (x ∷ xs)
    by None go = omega (arith, go)
    by (Some p) go = omega (arith, go)

-- the words replaced in a whole walk over the ranges
pub few_patches : (image : Image) (notes : List JumpNote) (text : List Range) (patches : List Patch) (i : ℕ) → image_of image.file ≡ Ok image → AscendFrom 0 image.text → text ≡ image.text
    → length text ≤ i → patches ≡ filter_map (far_patch image notes) (all_addresses (take i text)) → length patches < 2 ^ 32
few_patches image notes text patches i read rises same all is =
    let few = few_from 0 image.text rises (text_ranges_kept image.file image read) (omega arith) in
    let kept = few_kept (far_patch image notes) (all_addresses image.text) in
    let whole : patches ≡ filter_map (far_patch image notes) (all_addresses image.text) = is ∙ ap (λ (rs : List Range). filter_map (far_patch image notes) (all_addresses rs)) (take_all i text all ∙ same) in
    let size : length patches ≡ length (filter_map (far_patch image notes) (all_addresses image.text)) = ap (λ (ps : List Patch). length ps) whole in
    omega (arith, few, kept, size)
