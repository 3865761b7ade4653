-- The hypotheses of the laws are met together: a file of three words, which is an image, and its program.
use Rattle.std.proofs.Common.{◌≡◌, ℕ, true, is_some, List, [], ◌∷◌, None, Ok, refl, ap}
use Rattle.scale_base.specs.declared.stepping.Class.{Class}
use Rattle.scale_base.specs.Bytes.{list_word_at, list_half_at}
use Rattle.scale_base.specs.Rules.{first_broken}
use Rattle.scale_base.specs.Elf.{program_header, program_headers, section_header, section_headers}
use Rattle.scale_base.specs.Image.{image_of, contents, refused_or, loaded_byte, header_rules, table_rules, keeps_load_rules, segment_rules, text_parts, keeps_text_rules, part_rules, ascending, all_text_rules, text_ranges, write_rules, image_rules}
use Rattle.scale_base.specs.Layout.{layout_of, may_fetch, each_byte}
use Rattle.scale_base.specs.Step.{step}
use Rattle.scale_base.specs.Run.{HasExited, run, run_of}
use Rattle.scale_base.specs.Reading.{instr_of}
use Rattle.cost_theory.specs.declared.flow.Flow.TheVariants as flow
use Rattle.cost_theory.specs.Worst.{Numbers, AreNumbers}
use Rattle.cost_theory.proofs.Laws.{is_program, numbers_exist}
use Rattle.code_text.specs.Text.{Text, text_of, is_target, known_within, kind_at}
use Rattle.code_text.specs.EdgeCosts.{weights}
use Rattle.code_text.specs.TextGraph.{text_graph}
use Rattle.graph_runs.specs.KeptSteps.{by_extents}
use Rattle.graph_runs.specs.KeptRuns.{kept_at, kept_of}
use Rattle.graph_runs.specs.Laws.{IsProgramOf}
use Rattle.graph_runs.specs.Met.{RunHypothesesAreMet}
use Rattle.graph_runs.proofs.Example.{small_code, small_loop, small_extent, small_lists, small_words, small_calls, small_call_order, small_order, small_accepted}

-- an ELF header, a program header, and `bne x10,x0,0`, `addi x17,x0,93`, `ecall` at 0x10000
abbrev pub small_file : List ℕ
small_file = 127 ∷ 69 ∷ 76 ∷ 70 ∷ 1 ∷ 1 ∷ 1 ∷ 0 ∷ 0 ∷ 0 ∷ 0 ∷ 0 ∷ 0 ∷ 0 ∷ 0 ∷ 0 ∷ 2 ∷ 0 ∷ 243 ∷ 0 ∷ 1 ∷ 0 ∷ 0 ∷ 0 ∷ 0 ∷ 0 ∷ 1 ∷ 0 ∷ 52 ∷ 0 ∷ 0 ∷ 0 ∷ 0 ∷ 0 ∷ 0 ∷ 0 ∷ 0 ∷ 0 ∷ 0 ∷ 0 ∷ 52 ∷ 0 ∷ 32 ∷ 0 ∷ 1 ∷ 0 ∷ 0 ∷ 0 ∷ 0 ∷ 0 ∷ 0 ∷ 0 ∷ 1 ∷ 0 ∷ 0 ∷ 0 ∷ 84 ∷ 0 ∷ 0 ∷ 0 ∷ 0 ∷ 0 ∷ 1 ∷ 0 ∷ 0 ∷ 0 ∷ 1 ∷ 0 ∷ 12 ∷ 0 ∷ 0 ∷ 0 ∷ 12 ∷ 0 ∷ 0 ∷ 0 ∷ 5 ∷ 0 ∷ 0 ∷ 0 ∷ 4 ∷ 0 ∷ 0 ∷ 0 ∷ 99 ∷ 16 ∷ 5 ∷ 0 ∷ 147 ∷ 8 ∷ 208 ∷ 5 ∷ 115 ∷ 0 ∷ 0 ∷ 0 ∷ []

no_rule_broken : first_broken (image_rules small_file) ≡ None
unfolding list_word_at list_half_at program_header program_headers section_header section_headers header_rules table_rules keeps_load_rules segment_rules text_parts keeps_text_rules part_rules ascending text_ranges write_rules all_text_rules image_rules
no_rule_broken = refl

pub small_image : image_of small_file ≡ Ok (contents small_file)
unfolding image_of
small_image = ap (λ o. refused_or o (contents small_file)) no_rule_broken

abbrev small_text : Text
small_text = text_of (contents small_file)

branch : kind_at small_text 0x10000 ≡ flow.Branch 0x10000
unfolding kind_at is_target known_within instr_of loaded_byte contents list_word_at list_half_at program_header program_headers section_header section_headers text_parts ascending text_ranges
branch = refl

addi : kind_at small_text 0x10004 ≡ flow.Next
unfolding kind_at is_target known_within instr_of loaded_byte contents list_word_at list_half_at program_header program_headers section_header section_headers text_parts ascending text_ranges
addi = refl

exit : kind_at small_text 0x10008 ≡ flow.Exit
unfolding kind_at is_target known_within instr_of loaded_byte contents list_word_at list_half_at program_header program_headers section_header section_headers text_parts ascending text_ranges
exit = refl

pub small_program : IsProgramOf small_text small_code small_loop small_extent
unfolding contents list_word_at list_half_at
small_program = record {
  reached = record { lists = small_lists (kind_at small_text) branch addi exit; words = small_words (kind_at small_text) branch addi exit };
  calls = small_calls (kind_at small_text) branch addi exit;
  loops = small_accepted (kind_at small_text) branch addi exit;
  whole = λ k v kl turns node held. held;
}

small_numbers : (costs : Class → ℕ) → (nums : Numbers) × AreNumbers (text_graph small_text small_code) small_loop (weights small_text small_code costs) nums
small_numbers costs = numbers_exist (text_graph small_text small_code) small_loop small_extent (weights small_text small_code costs)
    (is_program (kind_at small_text) 0x10000 small_code (small_lists (kind_at small_text) branch addi exit) (small_words (kind_at small_text) branch addi exit) (small_calls (kind_at small_text) branch addi exit))
    (small_accepted (kind_at small_text) branch addi exit) 0x1000C (λ v. v) (small_order (kind_at small_text) branch addi exit) (λ f. 0) (small_call_order (kind_at small_text) branch addi exit)

small_kept : (levels : ℕ) (input : List ℕ) → is_some (kept_of (contents small_file) levels input (by_extents small_loop small_extent) 3) ≡ true
unfolding kept_at run step may_fetch each_byte layout_of instr_of loaded_byte contents list_word_at list_half_at program_header program_headers section_header section_headers text_parts ascending text_ranges
small_kept levels input = refl

small_exits : (levels : ℕ) (input : List ℕ) → (run_of (contents small_file) levels input 3).standing ≡ HasExited 0
unfolding run_of run step may_fetch each_byte layout_of instr_of loaded_byte contents list_word_at list_half_at program_header program_headers section_header section_headers text_parts ascending text_ranges
small_exits levels input = refl

pub hypotheses_are_met : RunHypothesesAreMet
hypotheses_are_met = record {
  file = small_file;
  image = contents small_file;
  code = small_code;
  loops = small_loop;
  extent = small_extent;
  read = small_image;
  program = small_program;
  looped = refl;
  numbers = small_numbers;
  kept = small_kept;
  exits = small_exits;
}
