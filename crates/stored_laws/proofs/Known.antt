-- What is so of a file that is accepted.
use Rattle.std.proofs.Common.{◌≡◌, ℕ, ◌+◌, ◌*◌, ◌≤◌, true, ◌&&◌, List, length, refl, arith}
use Rattle.std.specs.Prelude.{nat_le}
use Rattle.std.specs.List.{list_all}
use Rattle.scale_base.specs.declared.refusal.Refusal.TheVariants.{BadSegment, UnsupportedElf}
use Rattle.scale_base.specs.declared.refusal.Field.TheVariants.{PhNum}
use Rattle.scale_base.specs.Rules.{rule, AllHold}
use Rattle.scale_base.specs.Spans.{ends_by, each_pair}
use Rattle.scale_base.specs.Elf.{e_phoff, e_phnum, program_headers}
use Rattle.scale_base.specs.Image.{is_fit, may_follow, are_placed, are_few, leave_room, keeps_load_rules, keeps_segment_rules, file_part, loaded_headers, text_parts, is_text_place, text_rules, write_rules, ranges_of, all_text_rules, header_rules, table_rules, segment_rules, image_rules}
use Rattle.scale_base.proofs.Laws.{nth_kept, kept-split, long, parts_in_file, table_in_file, tables-kept, few_entries, whole_kept, parts_kept, rules_of}
use Rattle.elf_view.proofs.Laws.{both_true, le_of, length-headers}

pub record Known (file : List ℕ) : Type 0 where
  pub header : AllHold (header_rules file)
  pub tables : AllHold (table_rules file)
  pub text : AllHold (all_text_rules file (loaded_headers file))
  pub long : 52 ≤ length file
  pub some : 1 ≤ e_phnum file
  pub few : e_phnum file ≤ 64
  pub table : e_phoff file + 32 * e_phnum file ≤ length file
  pub fit : list_all is_fit (loaded_headers file) ≡ true
  pub ordered : each_pair may_follow (loaded_headers file) ≡ true
  pub counts : are_few (loaded_headers file) ≡ true
  pub room : leave_room (e_phnum file) (loaded_headers file) ≡ true
  pub in_file : list_all (λ h. ends_by (length file) (file_part h)) (loaded_headers file) ≡ true
  pub placed : list_all (is_text_place file (loaded_headers file)) (text_parts file (loaded_headers file)) ≡ true

some_entry : (file : List ℕ) → AllHold (header_rules file) → 1 ≤ e_phnum file
unfolding header_rules
some_entry file h =
    let both = nth_kept (header_rules file) 9 (rule (nat_le 1 (e_phnum file) && nat_le (e_phnum file) 64) (UnsupportedElf PhNum)) h refl in
    le_of _ _ (both_true (nat_le 1 (e_phnum file)) (nat_le (e_phnum file) 64) both).0

segments_kept : (file : List ℕ) → 1 ≤ e_phnum file → AllHold (segment_rules file) → keeps_load_rules (e_phnum file) (loaded_headers file) ≡ true
unfolding segment_rules
segments_kept file some h = rw length-headers at (whole_kept keeps_segment_rules BadSegment (program_headers file) (e_phnum file) (length-headers file) (omega arith) h)

pub known : (file : List ℕ) → AllHold (image_rules file) → Known file
unfolding keeps_load_rules all_text_rules
known file h =
    let r = rules_of file h in
    let tables = tables-kept file h in
    let some = some_entry file r.header in
    let hs = loaded_headers file in
    let a = both_true (are_placed hs && are_few hs) (leave_room (e_phnum file) hs) (segments_kept file some r.segments) in
    let b = both_true (are_placed hs) (are_few hs) a.0 in
    let c = both_true (list_all is_fit hs) (each_pair may_follow hs) b.0 in
    let parts = text_parts file hs in
    record {
      header = r.header;
      tables = tables;
      text = r.text;
      long = long file r.header;
      some = some;
      few = few_entries file r.header;
      table = table_in_file file tables;
      fit = c.0;
      ordered = c.1;
      counts = b.1;
      room = a.1;
      in_file = parts_in_file file tables;
      placed = parts_kept file hs parts (kept-split (text_rules file hs parts) (write_rules hs (ranges_of parts)) r.text).0;
    }
