-- The section headers of an image lie in its file.
use Rattle.std.proofs.Common.{◌≡◌, ℕ, ◌+◌, ◌*◌, ◌≤◌, Bool, true, false, not, ◌||◌, List, length, Some, Ok, refl, arith}
use Rattle.std.specs.Prelude.{nat_le, slice_get}
use Rattle.std.proofs.lemmas.Bool.Decides.{nat_tests}
use Rattle.scale_base.specs.declared.refusal.Refusal.TheVariants.{TruncatedElf}
use Rattle.scale_base.specs.Rules.{rule}
use Rattle.scale_base.specs.Elf.{e_shoff, e_shnum, has_sections}
use Rattle.scale_base.specs.Image.{Image, image_of, table_rules}
use Rattle.scale_base.proofs.Laws.{nth_kept, rules_kept, tables-kept}

second : (b c : Bool) → b ≡ true → (not b || c) ≡ true → c ≡ true
second true c e h = h
second false c e h = absurd cc

pub sections_in_file : (file : List ℕ) (image : Image) → image_of file ≡ Ok image → has_sections file ≡ true → e_shoff file + 40 * e_shnum file ≤ length file
unfolding table_rules
sections_in_file file image e some =
    let kept = nth_kept (table_rules file) 1 (rule (not (has_sections file) || nat_le (e_shoff file + 40 * e_shnum file) (length file)) TruncatedElf) (tables-kept file (rules_kept file image e)) refl in
    let within : nat_le (e_shoff file + 40 * e_shnum file) (length file) ≡ true = second (has_sections file) _ some kept in
    grind (arith, nat_tests)
