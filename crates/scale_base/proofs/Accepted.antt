-- What is so of a file that breaks no rule, and how the rules of the parts make up the rules of the whole.
use Rattle.std.proofs.Common.{◌≡◌, ℕ, zero, suc, ◌+◌, ◌*◌, ◌≤◌, Bool, true, false, not, cond, ◌&&◌, ◌||◌, List, [], ◌∷◌, ◌++◌, length, Option, Some, None, Ok, refl, ap, arith}
use Rattle.std.specs.Prelude.{nat_le, nat_eq, slice_get}
use Rattle.std.specs.List.{list_any, list_all, filter, starts_with}
use Rattle.std.proofs.lemmas.Bool.Decides.{nat_tests}
use Rattle.scale_base.specs.declared.refusal.Refusal.{Refusal}
use Rattle.scale_base.specs.declared.refusal.Refusal.TheVariants.{NotElf, TruncatedElf, DynamicImage, UnsupportedElf}
use Rattle.scale_base.specs.declared.refusal.Field.TheVariants.{PhNum}
use Rattle.scale_base.specs.declared.refusal.Stop.{Stop}
use Rattle.scale_base.specs.declared.refusal.Stop.TheVariants.{Refused, Memory}
use Rattle.scale_base.specs.Rules.{Rule, rule, first_broken, AllHold, IsStop}
use Rattle.scale_base.specs.Answer.{Stops}
use Rattle.scale_base.specs.Spans.{ends_by}
use Rattle.scale_base.specs.Elf.{e_phoff, e_phnum, e_shoff, e_shnum, has_sections, program_headers}
use Rattle.scale_base.specs.Image.{Image, is_load, is_dynamic, file_part, reaches_past, loaded_headers, header_rules, field_rules, table_rules, segment_rules, all_text_rules, image_rules, image_of, refused_or, contents}

-- ---- lists of rules

pub rule_kept : (b : Bool) (refusal : Refusal) (rules : List Rule) → first_broken (rule b refusal ∷ rules) ≡ None → (b ≡ true) × (first_broken rules ≡ None)
rule_kept true refusal rules e = (refl, e)
rule_kept false refusal rules e = absurd cc

pub kept-append : (a b : List Rule) → AllHold a → AllHold b → AllHold (a ++ b)
kept-append [] b h k = k
kept-append (r ∷ rules) b h k = let g = rule_kept r.holds r.refusal rules h in rw g.0 (kept-append rules b g.1 k)

pub kept-split : (a b : List Rule) → AllHold (a ++ b) → AllHold a × AllHold b
kept-split [] b h = (refl, h)
kept-split (r ∷ rules) b h =
    let g = rule_kept r.holds r.refusal (rules ++ b) h in
    let k = kept-split rules b g.1 in
    (rw g.0 k.0, k.1)

broken_first : (a b : List Rule) (refusal : Refusal) → first_broken a ≡ Some refusal → first_broken (a ++ b) ≡ Some refusal
broken_first [] b refusal e = absurd cc
broken_first (r ∷ rules) b refusal e = broken_step r.holds r.refusal rules b refusal e (broken_first rules b refusal)
  where
    broken_step : (holds : Bool) (one : Refusal) (rules b : List Rule) (refusal : Refusal) → cond holds (first_broken rules) (Some one) ≡ Some refusal → (first_broken rules ≡ Some refusal → first_broken (rules ++ b) ≡ Some refusal)
        → cond holds (first_broken (rules ++ b)) (Some one) ≡ Some refusal
    broken_step true one rules b refusal e go = go e
    broken_step false one rules b refusal e go = e

broken_later : (a b : List Rule) (refusal : Refusal) → AllHold a → first_broken b ≡ Some refusal → first_broken (a ++ b) ≡ Some refusal
broken_later [] b refusal h e = e
broken_later (r ∷ rules) b refusal h e = let g = rule_kept r.holds r.refusal rules h in rw g.0 (broken_later rules b refusal g.1 e)

pub stop_first : (a b : List Rule) (stop : Stop) → IsStop a stop → IsStop (a ++ b) stop
stop_first a b (Refused refusal) h = broken_first a b refusal h
stop_first a b Memory h = tt

pub stop_later : (a b : List Rule) (stop : Stop) → AllHold a → IsStop b stop → IsStop (a ++ b) stop
stop_later a b (Refused refusal) kept h = broken_later a b refusal kept h
stop_later a b Memory kept h = tt

-- ---- the answer of a reader

pub stopped : (file : List ℕ) (stop : Stop) → IsStop (image_rules file) stop → Stops stop (image_of file)
unfolding image_of
stopped file (Refused refusal) h = ap (λ (o : Option Refusal). refused_or o (contents file)) h
stopped file Memory h = tt

pub accepted : (file : List ℕ) → AllHold (image_rules file) → image_of file ≡ Ok (contents file)
unfolding image_of
accepted file h = ap (λ (o : Option Refusal). refused_or o (contents file)) h

-- ---- what an accepted file has

pub header-kept : (file : List ℕ) → AllHold (image_rules file) → AllHold (header_rules file)
unfolding image_rules
header-kept file h = (kept-split (header_rules file) _ h).0

le_of : (x y : ℕ) → nat_le x y ≡ true → x ≤ y
le_of x y e = grind (arith, nat_tests)

pub long : (file : List ℕ) → AllHold (header_rules file) → 52 ≤ length file
unfolding header_rules
long file h =
    let a = rule_kept (starts_with nat_eq file (0x7F ∷ 0x45 ∷ 0x4C ∷ 0x46 ∷ [])) NotElf (rule (nat_le 52 (length file)) TruncatedElf ∷ field_rules file) h in
    le_of 52 (length file) (rule_kept (nat_le 52 (length file)) TruncatedElf (field_rules file) a.1).0

kept_step : {A : Type 0} (a b rest : Bool) (q : A → Bool) (x : A) (ys : List A) → q x ≡ b → ((a && not b) || rest) ≡ false → (rest ≡ false → list_all q ys ≡ true) → list_all q (cond a (x ∷ ys) ys) ≡ true
kept_step true true rest q x ys e h go = rw e (go h)
kept_step true false rest q x ys e h go = absurd cc
kept_step false b rest q x ys e h go = go h

-- none is taken that fails
pub all_kept : {A : Type 0} (p q : A → Bool) (xs : List A) → list_any (λ x. p x && not (q x)) xs ≡ false → list_all q (filter p xs) ≡ true
all_kept p q [] e = refl
all_kept p q (x ∷ xs) e = kept_step (p x) (q x) (list_any (λ x. p x && not (q x)) xs) q x (filter p xs) refl e (all_kept p q xs)

not_true : (b : Bool) → not b ≡ true → b ≡ false
not_true true e = absurd cc
not_true false e = refl

pub parts_in_file : (file : List ℕ) → AllHold (table_rules file) → list_all (λ h. ends_by (length file) (file_part h)) (loaded_headers file) ≡ true
unfolding table_rules
parts_in_file file h =
    let l3 : List Rule = rule (not (list_any (reaches_past (length file)) (program_headers file))) TruncatedElf ∷ [] in
    let l2 : List Rule = rule (not (list_any is_dynamic (program_headers file))) DynamicImage ∷ l3 in
    let l1 : List Rule = rule (not (has_sections file) || nat_le (e_shoff file + 40 * e_shnum file) (length file)) TruncatedElf ∷ l2 in
    let a = rule_kept (nat_le (e_phoff file + 32 * e_phnum file) (length file)) TruncatedElf l1 h in
    let b = rule_kept (not (has_sections file) || nat_le (e_shoff file + 40 * e_shnum file) (length file)) TruncatedElf l2 a.1 in
    let c = rule_kept (not (list_any is_dynamic (program_headers file))) DynamicImage l3 b.1 in
    let d = rule_kept (not (list_any (reaches_past (length file)) (program_headers file))) TruncatedElf [] c.1 in
    all_kept is_load (λ h. ends_by (length file) (file_part h)) (program_headers file) (not_true (list_any (reaches_past (length file)) (program_headers file)) d.0)

-- each rule of a list that is kept
pub nth_kept : (rules : List Rule) (n : ℕ) (r : Rule) → AllHold rules → slice_get rules n ≡ Some r → r.holds ≡ true
nth_kept [] n r h e = absurd cc
nth_kept (x ∷ rules) zero r h e = let g = rule_kept x.holds x.refusal rules h in let same : x ≡ r = cc in rw (← same) g.0
nth_kept (x ∷ rules) (suc n) r h e = nth_kept rules n r (rule_kept x.holds x.refusal rules h).1 e

pub few_entries : (file : List ℕ) → AllHold (header_rules file) → e_phnum file ≤ 64
unfolding header_rules
few_entries file h =
    let both = nth_kept (header_rules file) 9 (rule (nat_le 1 (e_phnum file) && nat_le (e_phnum file) 64) (UnsupportedElf PhNum)) h refl in
    le_of _ _ (second_true (nat_le 1 (e_phnum file)) (nat_le (e_phnum file) 64) both)
  where
    second_true : (a b : Bool) → (a && b) ≡ true → b ≡ true
    second_true true b e = e
    second_true false b e = absurd cc

-- ---- what follows for the file of an image

kept_from : (o : Option Refusal) (image whole : Image) → refused_or o whole ≡ Ok image → o ≡ None
kept_from None image whole e = refl
kept_from (Some refusal) image whole e = absurd cc

is_contents : (o : Option Refusal) (image whole : Image) → refused_or o whole ≡ Ok image → whole ≡ image
is_contents None image whole e = cc
is_contents (Some refusal) image whole e = absurd cc

-- the image of a file is what stands in it, and no rule is broken
pub rules_kept : (file : List ℕ) (image : Image) → image_of file ≡ Ok image → AllHold (image_rules file)
unfolding image_of
rules_kept file image e = kept_from (first_broken (image_rules file)) image (contents file) e

pub contents-are : (file : List ℕ) (image : Image) → image_of file ≡ Ok image → contents file ≡ image
unfolding image_of
contents-are file image e = is_contents (first_broken (image_rules file)) image (contents file) e

pub tables-kept : (file : List ℕ) → AllHold (image_rules file) → AllHold (table_rules file)
unfolding image_rules
tables-kept file h =
    let rest = segment_rules file ++ all_text_rules file (loaded_headers file) in
    (kept-split (table_rules file) rest (kept-split (header_rules file) (table_rules file ++ rest) h).1).0

pub table_in_file : (file : List ℕ) → AllHold (table_rules file) → e_phoff file + 32 * e_phnum file ≤ length file
unfolding table_rules
table_in_file file h =
    let l3 : List Rule = rule (not (list_any (reaches_past (length file)) (program_headers file))) TruncatedElf ∷ [] in
    let l2 : List Rule = rule (not (list_any is_dynamic (program_headers file))) DynamicImage ∷ l3 in
    let l1 : List Rule = rule (not (has_sections file) || nat_le (e_shoff file + 40 * e_shnum file) (length file)) TruncatedElf ∷ l2 in
    le_of _ _ (rule_kept (nat_le (e_phoff file + 32 * e_phnum file) (length file)) TruncatedElf l1 h).0

-- what a writer knows of the file of an image
pub record HasTable (file : List ℕ) : Type 0 where
  pub long : 52 ≤ length file
  pub table : e_phoff file + 32 * e_phnum file ≤ length file
  pub few : e_phnum file ≤ 64

pub has_table : (file : List ℕ) (image : Image) → image_of file ≡ Ok image → HasTable file
has_table file image e =
    let rules = rules_kept file image e in
    record { long = long file (header-kept file rules); table = table_in_file file (tables-kept file rules); few = few_entries file (header-kept file rules) }
