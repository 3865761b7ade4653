-- Lists of which each two pass a test, and the loaded segments among the first entries of the table.
use Rattle.std.proofs.Common.{◌≡◌, ℕ, ◌+◌, ◌-◌, ◌%◌, ◌^◌, ◌<◌, ◌≤◌, Bool, true, false, not, ◌&&◌, cond, List, [], ◌∷◌, ◌++◌, length, get_or, take, take_all, Some, None, refl, sym, ap, ◌∙◌, arith, inl, inr}
use Rattle.std.specs.List.{list_all}
use Rattle.std.proofs.lemmas.List.{length-take}
use Rattle.std.proofs.lemmas.List.Elements.{filter_more}
use Rattle.std.proofs.lemmas.List.Filters.{length-filter_both}
use Rattle.scale_base.specs.declared.headers.ProgramHeader.{ProgramHeader}
use Rattle.scale_base.specs.declared.refusal.Refusal.TheVariants.{BadSegment}
use Rattle.scale_base.specs.Spans.{overlap, ends_by, each_pair}
use Rattle.scale_base.specs.Rules.{rule, first_broken}
use Rattle.scale_base.specs.Elf.{e_phnum, program_header, program_headers}
use Rattle.scale_base.specs.Image.{is_load, has_key, memory_range, stack, is_plain_place, is_keyed_place, is_fit, may_follow, are_placed, are_few, leave_room, load_headers, keeps_load_rules, keeps_segment_rules, segment_rules}
use Rattle.elf_view.proofs.Below.{length-headers, header_at}
use Rattle.std.specs.Prelude.{nat_le, ◌==◌, All}
use Rattle.std.proofs.lemmas.List.Sums.{AllPass-from_list_all}
use Rattle.elf_image.proofs.Laws.{both_true, one_true, le_of}
use Rattle.elf_view.proofs.First.{first_at, none_broken}

pub each_pair-rest : {A : Type 0} (test : A → A → Bool) (x : A) (xs rest : List A) → rest ≡ x ∷ xs → list_all (test x) xs ≡ true → each_pair test xs ≡ each_pair test rest
each_pair-rest test x xs rest parts all = rw (parts, all) refl

pub length-prefix : (file : List ℕ) (k : ℕ) → k ≤ e_phnum file → length (take k (program_headers file)) ≡ k
length-prefix file k le = omega (arith, length-take k (program_headers file), length-headers file)

-- one more entry
pub loads-more : (file : List ℕ) (k : ℕ) (old new : List ProgramHeader) (header : ProgramHeader) → k < e_phnum file → old ≡ load_headers (take k (program_headers file)) → new ≡ old ++ load_headers (header ∷ []) → header ≡ program_header file k
    → new ≡ load_headers (take (k + 1) (program_headers file))
loads-more file k old new header lt before added is =
    let more = filter_more is_load (program_headers file) k (program_header file k) (omega (arith, length-headers file)) in
    let at : get_or (program_headers file) k (program_header file k) ≡ program_header file k = header_at file k (program_header file k) lt in
    added ∙ rw (before, is) refl ∙ sym (rw at at more)

pub length-loads : (headers : List ProgramHeader) → length (load_headers headers) ≤ length headers
length-loads headers = omega (arith, length-filter_both is_load (λ h. not (is_load h)) (λ h. refl) headers)

pub few-loads : (file : List ℕ) (k : ℕ) (segments : List ProgramHeader) → k < e_phnum file → e_phnum file ≤ 64 → segments ≡ load_headers (take (k + 1) (program_headers file)) → length segments ≤ 64
few-loads file k segments lt few e = rw e (omega (arith, length-loads (take (k + 1) (program_headers file)), length-prefix file (k + 1) (omega arith)))

-- the rule of entry k
pub rule_at : (file : List ℕ) (k : ℕ) (segments : List ProgramHeader) (b : Bool) → k < e_phnum file → segments ≡ load_headers (take (k + 1) (program_headers file)) → keeps_load_rules (k + 1) segments ≡ b
    → keeps_segment_rules (take (k + 1) (program_headers file)) ≡ b
rule_at file k segments b lt e h = rw (length-prefix file (k + 1) (omega arith), ← e) h

pub broken_at : (file : List ℕ) (k : ℕ) → k < e_phnum file → ((j : ℕ) → j < k → keeps_segment_rules (take (j + 1) (program_headers file)) ≡ true)
    → keeps_segment_rules (take (k + 1) (program_headers file)) ≡ false → first_broken (segment_rules file) ≡ Some (BadSegment k)
unfolding segment_rules
broken_at file k lt before here = first_at (λ k. rule (keeps_segment_rules (take (k + 1) (program_headers file))) (BadSegment k)) (e_phnum file) k lt before here

pub all_kept : (file : List ℕ) → ((j : ℕ) → j < e_phnum file → keeps_segment_rules (take (j + 1) (program_headers file)) ≡ true) → first_broken (segment_rules file) ≡ None
unfolding segment_rules
all_kept file h = none_broken (λ k. rule (keeps_segment_rules (take (k + 1) (program_headers file))) (BadSegment k)) (e_phnum file) h

pub loads-all : (file : List ℕ) (k : ℕ) (segments : List ProgramHeader) → e_phnum file ≤ k → segments ≡ load_headers (take k (program_headers file)) → segments ≡ load_headers (program_headers file)
loads-all file k segments le e = e ∙ ap load_headers (take_all k (program_headers file) (omega (arith, length-headers file)))

plain-low : (h : ProgramHeader) → is_plain_place h ≡ true → h.p_vaddr + h.p_memsz ≤ 0xFF000000
plain-low h e = le_of _ _ (both_true (ends_by 0xFF000000 (memory_range h)) (not (overlap (memory_range h) stack)) e).0

keyed-low : (h : ProgramHeader) → is_keyed_place h ≡ true → h.p_vaddr + h.p_memsz ≤ 0xFFFFF800
keyed-low h e =
    let a = both_true ((h.p_flags == 0x00100005) && (h.p_vaddr % 4096 == 0) && (h.p_filesz == h.p_memsz) && nat_le h.p_memsz 4194304 && ends_by 0xFFFFF800 (memory_range h)) (not (overlap (memory_range h) stack)) e in
    le_of _ _ (both_true ((h.p_flags == 0x00100005) && (h.p_vaddr % 4096 == 0) && (h.p_filesz == h.p_memsz) && nat_le h.p_memsz 4194304) (ends_by 0xFFFFF800 (memory_range h)) a.0).1

-- a loaded segment and its file part end at addresses
record IsLow (h : ProgramHeader) : Type 0 where
  memory : h.p_vaddr + h.p_memsz < 2 ^ 32
  file : h.p_vaddr + h.p_filesz < 2 ^ 32

fit-low : (h : ProgramHeader) → is_fit h ≡ true → IsLow h
fit-low h e =
    let a = both_true (nat_le h.p_filesz h.p_memsz) (cond (has_key h) (is_keyed_place h) (is_plain_place h)) e in
    let small = le_of h.p_filesz h.p_memsz a.0 in
    elim (one_true (has_key h) (is_keyed_place h) (is_plain_place h) a.1) [
      | inl k ↦ record { memory = omega (arith, keyed-low h k); file = omega (arith, keyed-low h k, small) }
      | inr p ↦ record { memory = omega (arith, plain-low h p); file = omega (arith, plain-low h p, small) }
    ]

all-low : (entries : ℕ) (segments : List ProgramHeader) → keeps_load_rules entries segments ≡ true → All IsLow segments
unfolding keeps_load_rules
all-low entries segments e k d lt =
    let a = both_true (are_placed segments && are_few segments) (leave_room entries segments) e in
    let b = both_true (are_placed segments) (are_few segments) a.0 in
    let c = both_true (list_all is_fit segments) (each_pair may_follow segments) b.0 in
    fit-low (get_or segments k d) (AllPass-from_list_all is_fit segments c.0 k d lt)

loads-low : (file : List ℕ) (segments : List ProgramHeader) → 1 ≤ e_phnum file → segments ≡ load_headers (program_headers file) → keeps_segment_rules (take (e_phnum file - 1 + 1) (program_headers file)) ≡ true → All IsLow segments
loads-low file segments some e last =
    let n : e_phnum file - 1 + 1 ≡ e_phnum file = omega arith in
    let whole : take (e_phnum file) (program_headers file) ≡ program_headers file = take_all (e_phnum file) (program_headers file) (omega (arith, length-headers file)) in
    let kept : keeps_segment_rules (program_headers file) ≡ true = rw (← whole) (rw n at last) in
    rw e (all-low (length (program_headers file)) (load_headers (program_headers file)) kept)

pub loads-in_memory : (file : List ℕ) (segments : List ProgramHeader) → 1 ≤ e_phnum file → segments ≡ load_headers (program_headers file) → keeps_segment_rules (take (e_phnum file - 1 + 1) (program_headers file)) ≡ true
    → All (λ h. h.p_vaddr + h.p_memsz < 2 ^ 32) segments
loads-in_memory file segments some e last k d lt = (loads-low file segments some e last k d lt).memory

pub loads-files_low : (file : List ℕ) (segments : List ProgramHeader) → 1 ≤ e_phnum file → segments ≡ load_headers (program_headers file) → keeps_segment_rules (take (e_phnum file - 1 + 1) (program_headers file)) ≡ true
    → All (λ h. h.p_vaddr + h.p_filesz < 2 ^ 32) segments
loads-files_low file segments some e last k d lt = (loads-low file segments some e last k d lt).file
