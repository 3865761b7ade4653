-- The run of an image starts over its text: the text is that of the layout, and no address of it lies in the stack.
use Rattle.std.proofs.Common.{◌≡◌, ℕ, ◌+◌, true, false, cond, not, ◌&&◌, List, [], ◌∷◌, map, Ok, refl, sym, subst, ◌∙◌, arith, ⊎_elim}
use Rattle.std.specs.Prelude.{nat_lt, nat_le}
use Rattle.std.specs.List.{list_any, list_all, All}
use Rattle.std.proofs.lemmas.Bool.{and_parts, and_from, not-true, both_ways, or_cases, lt-ltb, leb-true, ltb-true, cond-false, false_from_ne_true}
use Rattle.std.proofs.lemmas.List.Elements.{All-nil, All-cons, All-head, All-tail, All-weaker}
use Rattle.scale_base.specs.declared.ranges.Range.{Range}
use Rattle.scale_base.specs.declared.ranges.Span.{Span}
use Rattle.scale_base.specs.declared.ranges.TextPart.{TextPart}
use Rattle.scale_base.specs.declared.headers.ProgramHeader.{ProgramHeader}
use Rattle.scale_base.specs.Spans.{in_span, overlap, ends_by}
use Rattle.scale_base.specs.Elf.{has}
use Rattle.scale_base.specs.Image.{Image, image_of, contents, loaded_byte, text_ranges, text_parts, loaded_headers, range_of, is_in, holds_part, is_text_place, is_fit, is_plain, is_keyed_place, is_plain_place, has_key, memory_range, stack, PF_X}
use Rattle.scale_base.specs.Layout.{layout_of, in_stack}
use Rattle.scale_base.specs.Run.{setting_of, start_of, starting_level}
use Rattle.scale_base.proofs.Laws.{rules_kept, contents-are, rules_of}
use Rattle.machine_laws.proofs.Laws.{found_from_any, found_passes, found_keeps, segments_of, IsPlaced, part_placed, part_held, part_covered, parts_placed, All-ranges_of, text_ranges_kept, share_address}
use Rattle.machine_laws.proofs.Laws as texts
use Rattle.code_text.specs.Text.{text_of}
use Rattle.graph_runs.specs.TextStates.{IsTextRange, IsTextOf}
use Rattle.graph_runs.specs.Laws.{IsStartOver}
use Rattle.graph_runs.proofs.StartLaws.{start_over}

-- a code segment shares no address with the stack
code_off_stack : (h : ProgramHeader) (a : ℕ) → is_fit h ≡ true → is_plain h ≡ true → in_span (memory_range h) a ≡ true → in_stack a ≡ false
code_off_stack h a fit plain covered =
    let fits = and_parts (nat_le h.p_filesz h.p_memsz) (cond (has_key h) (is_keyed_place h) (is_plain_place h)) fit in
    let place : is_plain_place h ≡ true = sym (cond-false (has_key h) (is_keyed_place h) (is_plain_place h) (not-true (has_key h) plain)) ∙ fits.1 in
    let apart = not-true (overlap (memory_range h) stack) (and_parts (ends_by 0xFF000000 (memory_range h)) (not (overlap (memory_range h) stack)) place).1 in
    false_from_ne_true (in_stack a) (λ here. both_ways (overlap (memory_range h) stack) apart (share_address (memory_range h) stack a covered here))

abbrev IsOffStack : Range → Type 0
IsOffStack r = (a : ℕ) → is_in a r ≡ true → in_stack a ≡ false

part_off_stack : (hs : List ProgramHeader) (part : TextPart) → list_all is_fit hs ≡ true → IsPlaced hs part → IsOffStack (range_of part)
part_off_stack hs part fit is a inside =
    let found = found_from_any (holds_part part) hs is.held in
    let holds = found_passes (holds_part part) hs found.0 found.1 in
    let fits = found_keeps (holds_part part) is_fit hs found.0 found.1 fit in
    let plain = and_parts (is_plain found.0) (has found.0.p_flags PF_X) (part_held part found.0 holds).code in
    code_off_stack found.0 a fits plain.0 (part_covered part a found.0 inside holds fits)

each_off_stack : (file : List ℕ) (hs : List ProgramHeader) (parts : List TextPart) → list_all is_fit hs ≡ true → list_all (is_text_place file hs) parts ≡ true → All IsOffStack (map range_of parts)
each_off_stack file hs [] fit placed = All-nil IsOffStack
each_off_stack file hs (part ∷ parts) fit placed =
    let p = and_parts (is_text_place file hs part) (list_all (is_text_place file hs) parts) placed in
    All-cons IsOffStack (range_of part) (map range_of parts) (part_off_stack hs part fit (part_placed file hs part p.0)) (each_off_stack file hs parts fit p.1)

contents_off_stack : (file : List ℕ) (image : Image) → image_of file ≡ Ok image → All IsOffStack (contents file).text
unfolding contents text_ranges
contents_off_stack file image e =
    let hs = loaded_headers file in
    let parts = text_parts file hs in
    let rules = rules_of file (rules_kept file image e) in
    All-ranges_of IsOffStack parts (each_off_stack file hs parts (segments_of file image e).fit (parts_placed file rules.text))

any_off_stack : (ranges : List Range) → All IsOffStack ranges → (a : ℕ) → list_any (is_in a) ranges ≡ true → in_stack a ≡ false
any_off_stack [] all a h = absurd cc
any_off_stack (r ∷ ranges) all a h = ⊎_elim (λ here. All-head IsOffStack r ranges all a here) (λ there. any_off_stack ranges (All-tail IsOffStack r ranges all) a there) (or_cases (is_in a r) (list_any (is_in a) ranges) h)

-- no address of the text of an image lies in the stack
pub text_off_stack : (file : List ℕ) (image : Image) → image_of file ≡ Ok image → (a : ℕ) → list_any (is_in a) image.text ≡ true → in_stack a ≡ false
text_off_stack file image e =
    let P : Image → Type 0 = λ i. All IsOffStack i.text in
    any_off_stack image.text (subst P (contents-are file image e) (contents_off_stack file image e))

-- the text of an image is that of its layout
pub text_of_layout : (file : List ℕ) (image : Image) (levels : ℕ) (input : List ℕ) → image_of file ≡ Ok image → IsTextOf (text_of image) (setting_of image levels input)
unfolding layout_of
text_of_layout file image levels input e = record {
  ranges = refl;
  each = All-weaker texts.IsTextRange IsTextRange (λ r h. (h.first, h.last, h.below)) image.text (text_ranges_kept file image e);
  no_stack = text_off_stack file image e;
}

pub image_starts : (file : List ℕ) (image : Image) (levels : ℕ) (input : List ℕ) → image_of file ≡ Ok image → IsStartOver (text_of image) (setting_of image levels input) (start_of image levels)
image_starts file image levels input e =
    let ok = text_of_layout file image levels input e in
    record {
      text = ok;
      state = start_over (text_of image) (setting_of image levels input) ok (loaded_byte image) (starting_level levels image.keyed_segment) (λ a h. refl);
      entry = refl;
    }
