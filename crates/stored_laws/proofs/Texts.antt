-- The text of a stored file is the original's.
use Rattle.std.proofs.Common.{◌≡◌, ℕ, ◌+◌, Bool, true, false, cond, ◌&&◌, List, [], ◌∷◌, ◌++◌, length, take, refl, sym, ap, ◌∙◌, arith}
use Rattle.std.specs.Prelude.{nat_lt, nat_le, slice_get}
use Rattle.std.specs.List.{list_any, list_all, filter_map, sum_by}
use Rattle.std.proofs.lemmas.List.Folds.{list_any-append}
use Rattle.std.proofs.lemmas.List.Elements.{filter_map-append}
use Rattle.scale_base.specs.declared.headers.ProgramHeader.{ProgramHeader}
use Rattle.scale_base.specs.declared.ranges.Range.{Range}
use Rattle.scale_base.specs.declared.ranges.TextPart.{TextPart}
use Rattle.scale_base.specs.declared.refusal.Refusal.TheVariants.{BadText}
use Rattle.scale_base.specs.Rules.{rule, AllHold}
use Rattle.scale_base.specs.Spans.{each_pair}
use Rattle.scale_base.specs.Elf.{has_sections, section_headers}
use Rattle.scale_base.specs.Image.{text_of_section, text_of_segment, text_parts, holds_part, is_text_place, are_apart, keeps_text_rules, part_rules, text_rules, text_start, ranges_of, is_writable_at, write_rules, all_text_rules}
use Rattle.scale_base.proofs.Laws.{rule_kept, kept-append, kept-split, below_kept}
use Rattle.elf_view.proofs.Laws.{none_broken}
use Rattle.stored_laws.proofs.Table.{keyed_header}
use Rattle.stored_laws.proofs.Fields.{SameHeader}

-- a test that the block's segment fails finds what it found without it
pub any_with : (p : ProgramHeader → Bool) (before after : List ProgramHeader) (key : ProgramHeader) → p key ≡ false → list_any p (before ++ key ∷ after) ≡ list_any p (before ++ after)
any_with p before after key off = list_any-append p before (key ∷ after) ∙ rw off (sym (list_any-append p before after))

pub parts_with : (before after : List ProgramHeader) (place base start len : ℕ) → filter_map text_of_segment (before ++ keyed_header place base start len ∷ after) ≡ filter_map text_of_segment (before ++ after)
parts_with before after place base start len =
    filter_map-append text_of_segment before (keyed_header place base start len ∷ after) ∙ sym (filter_map-append text_of_segment before after)

-- a part has its place in both
place_with : (file stored : List ℕ) (before after : List ProgramHeader) (place base start len : ℕ) → SameHeader file stored → (part : TextPart) → is_text_place stored (before ++ keyed_header place base start len ∷ after) part ≡ is_text_place file (before ++ after) part
place_with file stored before after place base start len h part =
    rw (any_with (holds_part part) before after (keyed_header place base start len) refl, h.shoff, h.shnum) refl

all-same : {A : Type 0} (p q : A → Bool) (xs : List A) → ((x : A) → p x ≡ q x) → list_all p xs ≡ list_all q xs
all-same p q [] h = refl
all-same p q (x ∷ xs) h = rw (h x, all-same p q xs h) refl

keeps_with : (file stored : List ℕ) (hs new : List ProgramHeader) → ((part : TextPart) → is_text_place stored new part ≡ is_text_place file hs part) → (parts : List TextPart) → keeps_text_rules stored new parts ≡ keeps_text_rules file hs parts
unfolding keeps_text_rules
keeps_with file stored hs new same parts =
    ap (λ (b : Bool). b && each_pair are_apart parts && nat_le (sum_by (λ part. part.span.len) parts) 524288) (all-same (is_text_place stored new) (is_text_place file hs) parts same)

part_rules_with : (file stored : List ℕ) (hs new : List ProgramHeader) → ((part : TextPart) → is_text_place stored new part ≡ is_text_place file hs part) → (parts : List TextPart) → AllHold (part_rules file hs parts) → AllHold (part_rules stored new parts)
unfolding part_rules
part_rules_with file stored hs new same parts h =
    none_broken (λ k. rule (keeps_text_rules stored new (take (k + 1) parts)) (BadText (text_start (slice_get parts k)))) (length parts) (λ j lt. keeps_with file stored hs new same (take (j + 1) parts) ∙ below_kept (λ k. rule (keeps_text_rules file hs (take (k + 1) parts)) (BadText (text_start (slice_get parts k)))) 0 (length parts) j h (omega arith) (omega arith))

text_rules_with : (file stored : List ℕ) (hs new : List ProgramHeader) → ((part : TextPart) → is_text_place stored new part ≡ is_text_place file hs part) → (parts : List TextPart) → AllHold (text_rules file hs parts) → AllHold (text_rules stored new parts)
text_rules_with file stored hs new same parts h =
    let a = rule_kept (nat_lt 0 (length parts)) (BadText 0) (part_rules file hs parts) h in
    rw a.0 (part_rules_with file stored hs new same parts a.1)

write_with : (before after : List ProgramHeader) (place base start len : ℕ) (ranges : List Range) → write_rules (before ++ keyed_header place base start len ∷ after) ranges ≡ write_rules (before ++ after) ranges
unfolding write_rules
write_with before after place base start len [] = refl
write_with before after place base start len (r ∷ ranges) =
    rw (any_with (is_writable_at r) before after (keyed_header place base start len) refl, write_with before after place base start len ranges) refl

-- the parts of the text of both
pub record SameParts (file stored : List ℕ) (hs new : List ProgramHeader) : Type 0 where
  pub parts : text_parts stored new ≡ text_parts file hs

pub same_parts : (file stored : List ℕ) (before after : List ProgramHeader) (place base start len : ℕ) → has_sections stored ≡ has_sections file → (has_sections file ≡ true → section_headers stored ≡ section_headers file)
    → text_parts stored (before ++ keyed_header place base start len ∷ after) ≡ text_parts file (before ++ after)
unfolding text_parts
same_parts file stored before after place base start len has same =
    rw has (step (has_sections file) same)
  where
    step : (b : Bool) → (b ≡ true → section_headers stored ≡ section_headers file)
        → cond b (filter_map text_of_section (section_headers stored)) (filter_map text_of_segment (before ++ keyed_header place base start len ∷ after)) ≡ cond b (filter_map text_of_section (section_headers file)) (filter_map text_of_segment (before ++ after))
    step true same = ap (filter_map text_of_section) (same refl)
    step false same = parts_with before after place base start len

pub text_holds : (file stored : List ℕ) (before after : List ProgramHeader) (place base start len : ℕ) → SameHeader file stored → text_parts stored (before ++ keyed_header place base start len ∷ after) ≡ text_parts file (before ++ after)
    → AllHold (all_text_rules file (before ++ after)) → AllHold (all_text_rules stored (before ++ keyed_header place base start len ∷ after))
unfolding all_text_rules
text_holds file stored before after place base start len h parts kept =
    let hs = before ++ after in
    let new = before ++ keyed_header place base start len ∷ after in
    let old = text_parts file hs in
    let a = kept-split (text_rules file hs old) (write_rules hs (ranges_of old)) kept in
    rw (parts, write_with before after place base start len (ranges_of old)) (kept-append (text_rules stored new old) (write_rules hs (ranges_of old)) (text_rules_with file stored hs new (place_with file stored before after place base start len h) old a.0) a.1)
