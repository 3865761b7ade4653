-- The answers of the parts of the reader make up its answer.
use Rattle.std.proofs.Common.{◌≡◌, ℕ, List, ◌++◌, length, Option, Some, refl, ◌∙◌}
use Rattle.std.specs.Prelude.{option_map, find}
use Rattle.std.proofs.lemmas.List.Sums.{AllPass-from_list_all}
use Rattle.scale_base.specs.declared.refusal.Refusal.{Refusal}
use Rattle.scale_base.specs.declared.headers.ProgramHeader.{ProgramHeader}
use Rattle.scale_base.specs.declared.ranges.Keyed.{Keyed}
use Rattle.scale_base.specs.declared.ranges.Range.{Range}
use Rattle.scale_base.specs.declared.refusal.Stop.{Stop}
use Rattle.scale_base.specs.declared.refusal.Stop.TheVariants.{Refused}
use Rattle.scale_base.specs.Rules.{first_broken, AllHold, IsStop}
use Rattle.scale_base.specs.Spans.{ends_by}
use Rattle.scale_base.specs.Image.{file_part, has_key, keyed_of, header_rules, table_rules, segment_rules, all_text_rules, loaded_headers, text_parts, text_ranges, ranges_of, image_rules, image_of, contents}
use Rattle.scale_base.specs.Answer.{Stops}
use Rattle.scale_base.proofs.Laws.{stop_first, stop_later, kept-append, stopped, long, parts_in_file}
use Rattle.elf_image.proofs.Laws.{le_of}
use Rattle.elf_image.specs.Ascending.{AscendFrom}
use Rattle.elf_image.specs.Table.{AreSymbolBytes}
use Rattle.elf_image.specs.View.{IsViewOf}
use Rattle.elf_view.proofs.TextWords.{contents_word}

pub header_stop : (file : List ℕ) (refusal : Refusal) → first_broken (header_rules file) ≡ Some refusal → Stops (Refused refusal) (image_of file)
unfolding image_rules
header_stop file refusal h =
    stopped file (Refused refusal) (stop_first (header_rules file) (table_rules file ++ (segment_rules file ++ all_text_rules file (loaded_headers file))) (Refused refusal) h)

pub tables_stop : (file : List ℕ) (refusal : Refusal) → AllHold (header_rules file) → first_broken (table_rules file) ≡ Some refusal → Stops (Refused refusal) (image_of file)
unfolding image_rules
tables_stop file refusal header h =
    let rest = segment_rules file ++ all_text_rules file (loaded_headers file) in
    stopped file (Refused refusal) (stop_later (header_rules file) (table_rules file ++ rest) (Refused refusal) header (stop_first (table_rules file) rest (Refused refusal) h))

pub segments_stop : (file : List ℕ) (stop : Stop) → AllHold (header_rules file) → AllHold (table_rules file) → IsStop (segment_rules file) stop → Stops stop (image_of file)
unfolding image_rules
segments_stop file stop header tables h =
    let last = all_text_rules file (loaded_headers file) in
    stopped file stop (stop_later (header_rules file) (table_rules file ++ (segment_rules file ++ last)) stop header
    (stop_later (table_rules file) (segment_rules file ++ last) stop tables (stop_first (segment_rules file) last stop h)))

pub text_stop : (file : List ℕ) (stop : Stop) → AllHold (header_rules file) → AllHold (table_rules file) → AllHold (segment_rules file) → IsStop (all_text_rules file (loaded_headers file)) stop → Stops stop (image_of file)
unfolding image_rules
text_stop file stop header tables segments h =
    let last = all_text_rules file (loaded_headers file) in
    stopped file stop (stop_later (header_rules file) (table_rules file ++ (segment_rules file ++ last)) stop header
    (stop_later (table_rules file) (segment_rules file ++ last) stop tables (stop_later (segment_rules file) last stop segments h)))

pub whole : (file : List ℕ) → AllHold (header_rules file) → AllHold (table_rules file) → AllHold (segment_rules file) → AllHold (all_text_rules file (loaded_headers file)) → AllHold (image_rules file)
unfolding image_rules
whole file header tables segments text =
    let last = all_text_rules file (loaded_headers file) in
    kept-append (header_rules file) (table_rules file ++ (segment_rules file ++ last)) header
    (kept-append (table_rules file) (segment_rules file ++ last) tables (kept-append (segment_rules file) last segments text))

pub is_view : (file : List ℕ) (segments : List ProgramHeader) (keyed : Option Keyed) (text : List Range) (strings table : List ℕ) → AllHold (header_rules file) → AllHold (table_rules file)
    → AllHold (all_text_rules file (loaded_headers file)) → AllHold (image_rules file) → segments ≡ loaded_headers file → keyed ≡ option_map keyed_of (find has_key segments) → text ≡ ranges_of (text_parts file segments) → AscendFrom 0 text
    → AreSymbolBytes file strings table → IsViewOf file segments keyed text strings table
unfolding contents text_ranges
is_view file segments keyed text strings table header tables texts rules are key is ascending symbols = record {
  accepted = rules;
  long = long file header;
  segments_are = are;
  in_file = λ k d lt. le_of _ _ (AllPass-from_list_all (λ h. ends_by (length file) (file_part h)) segments (rw are (parts_in_file file tables)) k d lt);
  keyed_is = key ∙ rw are refl;
  text_is = is ∙ rw are refl;
  ascending = ascending;
  words = λ at. contents_word file at texts;
  symbols_are = symbols;
}
