-- Two small files, and prefixes and changes of them, read by the definition.
use Rattle.std.proofs.Common.{map, ◌≡◌, ℕ, List, [], ◌∷◌, take, set, Some, None, refl}
use Rattle.scale_base.specs.declared.refusal.Field.TheVariants.{Flags}
use Rattle.scale_base.specs.declared.refusal.Refusal.TheVariants.{NotElf, UnsupportedElf, TruncatedElf, BadSegment, WritableText}
use Rattle.scale_base.specs.Bytes.{list_word_at, list_half_at}
use Rattle.scale_base.specs.Rules.{first_broken}
use Rattle.scale_base.specs.Symbols.{symbol_table, symbol_value}
use Rattle.scale_base.specs.Elf.{program_header, program_headers, section_header, section_headers}
use Rattle.scale_base.specs.Image.{contents, loaded_byte, header_rules, table_rules, keeps_load_rules, segment_rules, text_parts, keeps_text_rules, part_rules, ascending, all_text_rules, text_ranges, write_rules, image_rules}

abbrev plain_image : List ℕ
plain_image = 127 ∷ 69 ∷ 76 ∷ 70 ∷ 1 ∷ 1 ∷ 1 ∷ 0 ∷ 0 ∷ 0 ∷ 0 ∷ 0 ∷ 0 ∷ 0 ∷ 0 ∷ 0 ∷ 2 ∷ 0 ∷ 243 ∷ 0 ∷ 1 ∷ 0 ∷ 0 ∷ 0 ∷ 0 ∷ 0 ∷ 1 ∷ 0 ∷ 52 ∷ 0 ∷ 0 ∷ 0 ∷ 0 ∷ 0 ∷ 0 ∷ 0 ∷ 0 ∷ 0 ∷ 0 ∷ 0 ∷ 52 ∷ 0 ∷ 32 ∷ 0 ∷ 1 ∷ 0 ∷ 0 ∷ 0 ∷ 0 ∷ 0 ∷ 0 ∷ 0 ∷ 1 ∷ 0 ∷ 0 ∷ 0 ∷ 84 ∷ 0 ∷ 0 ∷ 0 ∷ 0 ∷ 0 ∷ 1 ∷ 0 ∷ 0 ∷ 0 ∷ 1 ∷ 0 ∷ 12 ∷ 0 ∷ 0 ∷ 0 ∷ 12 ∷ 0 ∷ 0 ∷ 0 ∷ 5 ∷ 0 ∷ 0 ∷ 0 ∷ 4 ∷ 0 ∷ 0 ∷ 0 ∷ 19 ∷ 5 ∷ 112 ∷ 0 ∷ 147 ∷ 8 ∷ 208 ∷ 5 ∷ 115 ∷ 0 ∷ 0 ∷ 0 ∷ []

abbrev sections_image : List ℕ
sections_image = 127 ∷ 69 ∷ 76 ∷ 70 ∷ 1 ∷ 1 ∷ 1 ∷ 0 ∷ 0 ∷ 0 ∷ 0 ∷ 0 ∷ 0 ∷ 0 ∷ 0 ∷ 0 ∷ 2 ∷ 0 ∷ 243 ∷ 0 ∷ 1 ∷ 0 ∷ 0 ∷ 0 ∷ 180 ∷ 0 ∷ 1 ∷ 0 ∷ 52 ∷ 0 ∷ 0 ∷ 0 ∷ 200 ∷ 0 ∷ 0 ∷ 0 ∷ 0 ∷ 0 ∷ 0 ∷ 0 ∷ 52 ∷ 0 ∷ 32 ∷ 0 ∷ 4 ∷ 0 ∷ 40 ∷ 0 ∷ 5 ∷ 0 ∷ 0 ∷ 0 ∷ 81 ∷ 229 ∷ 116 ∷ 100 ∷ 0 ∷ 0 ∷ 0 ∷ 0 ∷ 0 ∷ 0 ∷ 0 ∷ 0 ∷ 0 ∷ 0 ∷ 0 ∷ 0 ∷ 0 ∷ 0 ∷ 0 ∷ 0 ∷ 0 ∷ 0 ∷ 0 ∷ 0 ∷ 6 ∷ 0 ∷ 0 ∷ 0 ∷ 0 ∷ 0 ∷ 0 ∷ 0 ∷ 1 ∷ 0 ∷ 0 ∷ 0 ∷ 0 ∷ 0 ∷ 0 ∷ 0 ∷ 0 ∷ 0 ∷ 1 ∷ 0 ∷ 0 ∷ 0 ∷ 0 ∷ 0 ∷ 200 ∷ 0 ∷ 0 ∷ 0 ∷ 200 ∷ 0 ∷ 0 ∷ 0 ∷ 5 ∷ 0 ∷ 0 ∷ 0 ∷ 0 ∷ 0 ∷ 0 ∷ 0 ∷ 1 ∷ 0 ∷ 0 ∷ 0 ∷ 200 ∷ 0 ∷ 0 ∷ 0 ∷ 200 ∷ 16 ∷ 1 ∷ 0 ∷ 0 ∷ 0 ∷ 0 ∷ 0 ∷ 0 ∷ 0 ∷ 0 ∷ 0 ∷ 16 ∷ 0 ∷ 0 ∷ 0 ∷ 6 ∷ 0 ∷ 0 ∷ 0 ∷ 0 ∷ 0 ∷ 0 ∷ 0 ∷ 0 ∷ 0 ∷ 0 ∷ 0 ∷ 0 ∷ 0 ∷ 0 ∷ 0 ∷ 0 ∷ 0 ∷ 0 ∷ 0 ∷ 0 ∷ 0 ∷ 0 ∷ 0 ∷ 0 ∷ 0 ∷ 0 ∷ 0 ∷ 0 ∷ 0 ∷ 0 ∷ 0 ∷ 0 ∷ 0 ∷ 0 ∷ 0 ∷ 0 ∷ 0 ∷ 0 ∷ 0 ∷ 183 ∷ 2 ∷ 1 ∷ 0 ∷ 3 ∷ 197 ∷ 66 ∷ 12 ∷ 147 ∷ 8 ∷ 208 ∷ 5 ∷ 115 ∷ 0 ∷ 0 ∷ 0 ∷ 42 ∷ 0 ∷ 0 ∷ 0 ∷ 0 ∷ 0 ∷ 0 ∷ 0 ∷ 0 ∷ 0 ∷ 0 ∷ 0 ∷ 0 ∷ 0 ∷ 0 ∷ 0 ∷ 0 ∷ 0 ∷ 0 ∷ 0 ∷ 0 ∷ 0 ∷ 0 ∷ 0 ∷ 0 ∷ 0 ∷ 0 ∷ 0 ∷ 0 ∷ 0 ∷ 0 ∷ 0 ∷ 0 ∷ 0 ∷ 0 ∷ 0 ∷ 0 ∷ 0 ∷ 0 ∷ 0 ∷ 0 ∷ 0 ∷ 0 ∷ 0 ∷ 0 ∷ 0 ∷ 0 ∷ 0 ∷ 1 ∷ 0 ∷ 0 ∷ 0 ∷ 6 ∷ 0 ∷ 0 ∷ 0 ∷ 180 ∷ 0 ∷ 1 ∷ 0 ∷ 180 ∷ 0 ∷ 0 ∷ 0 ∷ 16 ∷ 0 ∷ 0 ∷ 0 ∷ 0 ∷ 0 ∷ 0 ∷ 0 ∷ 0 ∷ 0 ∷ 0 ∷ 0 ∷ 0 ∷ 0 ∷ 0 ∷ 0 ∷ 0 ∷ 0 ∷ 0 ∷ 0 ∷ 0 ∷ 0 ∷ 0 ∷ 0 ∷ 1 ∷ 0 ∷ 0 ∷ 0 ∷ 2 ∷ 0 ∷ 0 ∷ 0 ∷ 196 ∷ 0 ∷ 1 ∷ 0 ∷ 196 ∷ 0 ∷ 0 ∷ 0 ∷ 4 ∷ 0 ∷ 0 ∷ 0 ∷ 0 ∷ 0 ∷ 0 ∷ 0 ∷ 0 ∷ 0 ∷ 0 ∷ 0 ∷ 0 ∷ 0 ∷ 0 ∷ 0 ∷ 0 ∷ 0 ∷ 0 ∷ 0 ∷ 0 ∷ 0 ∷ 0 ∷ 0 ∷ 2 ∷ 0 ∷ 0 ∷ 0 ∷ 0 ∷ 0 ∷ 0 ∷ 0 ∷ 0 ∷ 0 ∷ 0 ∷ 0 ∷ 144 ∷ 1 ∷ 0 ∷ 0 ∷ 32 ∷ 0 ∷ 0 ∷ 0 ∷ 4 ∷ 0 ∷ 0 ∷ 0 ∷ 0 ∷ 0 ∷ 0 ∷ 0 ∷ 0 ∷ 0 ∷ 0 ∷ 0 ∷ 16 ∷ 0 ∷ 0 ∷ 0 ∷ 0 ∷ 0 ∷ 0 ∷ 0 ∷ 3 ∷ 0 ∷ 0 ∷ 0 ∷ 0 ∷ 0 ∷ 0 ∷ 0 ∷ 0 ∷ 0 ∷ 0 ∷ 0 ∷ 176 ∷ 1 ∷ 0 ∷ 0 ∷ 8 ∷ 0 ∷ 0 ∷ 0 ∷ 0 ∷ 0 ∷ 0 ∷ 0 ∷ 0 ∷ 0 ∷ 0 ∷ 0 ∷ 0 ∷ 0 ∷ 0 ∷ 0 ∷ 0 ∷ 0 ∷ 0 ∷ 0 ∷ 0 ∷ 0 ∷ 0 ∷ 0 ∷ 0 ∷ 0 ∷ 0 ∷ 0 ∷ 0 ∷ 0 ∷ 0 ∷ 0 ∷ 0 ∷ 0 ∷ 0 ∷ 0 ∷ 1 ∷ 0 ∷ 0 ∷ 0 ∷ 180 ∷ 0 ∷ 1 ∷ 0 ∷ 0 ∷ 0 ∷ 0 ∷ 0 ∷ 0 ∷ 0 ∷ 1 ∷ 0 ∷ 0 ∷ 95 ∷ 115 ∷ 116 ∷ 97 ∷ 114 ∷ 116 ∷ 0 ∷ []

plain_is_read : first_broken (image_rules plain_image) ≡ None
unfolding list_word_at list_half_at program_header program_headers section_header section_headers header_rules table_rules keeps_load_rules segment_rules text_parts keeps_text_rules part_rules ascending text_ranges write_rules all_text_rules image_rules
plain_is_read = refl

short : first_broken (image_rules (take 80 plain_image)) ≡ Some TruncatedElf
unfolding list_word_at list_half_at program_header program_headers section_header section_headers header_rules table_rules keeps_load_rules segment_rules text_parts keeps_text_rules part_rules ascending text_ranges write_rules all_text_rules image_rules
short = refl

flagged : first_broken (image_rules (set plain_image 36 1)) ≡ Some (UnsupportedElf Flags)
unfolding list_word_at list_half_at program_header program_headers section_header section_headers header_rules table_rules keeps_load_rules segment_rules text_parts keeps_text_rules part_rules ascending text_ranges write_rules all_text_rules image_rules
flagged = refl

writable : first_broken (image_rules (set plain_image 76 7)) ≡ Some (WritableText 0x10000)
unfolding list_word_at list_half_at program_header program_headers section_header section_headers header_rules table_rules keeps_load_rules segment_rules text_parts keeps_text_rules part_rules ascending text_ranges write_rules all_text_rules image_rules
writable = refl

memsize : first_broken (image_rules (set (set (set (set plain_image 72 255) 73 255) 74 255) 75 255)) ≡ Some (BadSegment 0)
unfolding list_word_at list_half_at program_header program_headers section_header section_headers header_rules table_rules keeps_load_rules segment_rules text_parts keeps_text_rules part_rules ascending text_ranges write_rules all_text_rules image_rules
memsize = refl

offset : first_broken (image_rules (set (set (set (set plain_image 56 255) 57 255) 58 255) 59 255)) ≡ Some TruncatedElf
unfolding list_word_at list_half_at program_header program_headers section_header section_headers header_rules table_rules keeps_load_rules segment_rules text_parts keeps_text_rules part_rules ascending text_ranges write_rules all_text_rules image_rules
offset = refl

unaligned : first_broken (image_rules (set plain_image 60 2)) ≡ None
unfolding list_word_at list_half_at program_header program_headers section_header section_headers header_rules table_rules keeps_load_rules segment_rules text_parts keeps_text_rules part_rules ascending text_ranges write_rules all_text_rules image_rules
unaligned = refl

ranges : text_ranges (set plain_image 60 2) ≡ record { from = 0x10004; to = 0x1000C } ∷ []
unfolding list_word_at list_half_at program_header program_headers section_header section_headers header_rules table_rules keeps_load_rules segment_rules text_parts keeps_text_rules part_rules ascending text_ranges write_rules all_text_rules image_rules
ranges = refl

sections_is_read : first_broken (image_rules sections_image) ≡ None
unfolding list_word_at list_half_at program_header program_headers section_header section_headers header_rules table_rules keeps_load_rules segment_rules text_parts keeps_text_rules part_rules ascending text_ranges write_rules all_text_rules image_rules
sections_is_read = refl

sections_400 : first_broken (image_rules (take 400 sections_image)) ≡ None
unfolding list_word_at list_half_at program_header program_headers section_header section_headers header_rules table_rules keeps_load_rules segment_rules text_parts keeps_text_rules part_rules ascending text_ranges write_rules all_text_rules image_rules
sections_400 = refl

sections_399 : first_broken (image_rules (take 399 sections_image)) ≡ Some TruncatedElf
unfolding list_word_at list_half_at program_header program_headers section_header section_headers header_rules table_rules keeps_load_rules segment_rules text_parts keeps_text_rules part_rules ascending text_ranges write_rules all_text_rules image_rules
sections_399 = refl

sections_4 : first_broken (image_rules (take 4 sections_image)) ≡ Some TruncatedElf
unfolding list_word_at list_half_at program_header program_headers section_header section_headers header_rules table_rules keeps_load_rules segment_rules text_parts keeps_text_rules part_rules ascending text_ranges write_rules all_text_rules image_rules
sections_4 = refl

sections_3 : first_broken (image_rules (take 3 sections_image)) ≡ Some NotElf
unfolding list_word_at list_half_at program_header program_headers section_header section_headers header_rules table_rules keeps_load_rules segment_rules text_parts keeps_text_rules part_rules ascending text_ranges write_rules all_text_rules image_rules
sections_3 = refl

sections_ranges : text_ranges sections_image ≡ record { from = 0x100b4; to = 0x100c4 } ∷ []
unfolding list_word_at list_half_at program_header program_headers section_header section_headers header_rules table_rules keeps_load_rules segment_rules text_parts keeps_text_rules part_rules ascending text_ranges write_rules all_text_rules image_rules
sections_ranges = refl

symbol : symbol_value sections_image (95 ∷ 115 ∷ 116 ∷ 97 ∷ 114 ∷ 116 ∷ []) ≡ Some 0x100B4
unfolding list_word_at list_half_at section_header section_headers symbol_table symbol_value
symbol = refl

other_symbol : symbol_value sections_image (115 ∷ 116 ∷ 97 ∷ 114 ∷ 116 ∷ []) ≡ None
unfolding list_word_at list_half_at section_header section_headers symbol_table symbol_value
other_symbol = refl

cut_symbol : symbol_value (take 400 sections_image) (95 ∷ 115 ∷ 116 ∷ 97 ∷ 114 ∷ 116 ∷ []) ≡ None
unfolding list_word_at list_half_at section_header section_headers symbol_table symbol_value
cut_symbol = refl

-- The header is loaded with the segment at 0x10000: e_entry and e_phentsize as they stand, e_phoff and e_phnum as zeros.
loaded : map (loaded_byte (contents sections_image)) (0x10018 ∷ 0x1002A ∷ 0x1001C ∷ 0x1002C ∷ 0x100C4 ∷ 0x110C8 ∷ []) ≡ 0xB4 ∷ 32 ∷ 0 ∷ 0 ∷ 0x2A ∷ 0 ∷ []
unfolding list_word_at list_half_at program_header program_headers section_header section_headers text_parts ascending text_ranges contents loaded_byte
loaded = refl
