-- What `lower` gives is safe, and two answers that it may give are the same.
use Rattle.std.proofs.Common.{◌≡◌, ℕ, ◌^◌, ◌<◌, ◌≤◌, List, [], length, get_or, Option, Some, None, Result, Ok, Err, refl, sym, ap, subst, ◌∙◌, arith}
use Rattle.std.specs.Prelude.{All, IfOk, Vec}
use Rattle.std.specs.declared.alloc.Global.{Global}
use Rattle.scale_base.specs.declared.ranges.Keyed.{Keyed}
use Rattle.scale_base.specs.declared.refusal.Refusal.{Refusal}
use Rattle.scale_base.specs.declared.refusal.Stop.{Stop}
use Rattle.scale_base.specs.Answer.{AnswersBy}
use Rattle.scale_base.specs.Image.{Image, image_of}
use Rattle.elf_patch.specs.Stored.{IsStubBase}
use Rattle.jump_lists.specs.declared.notes.JumpNote.{JumpNote}
use Rattle.jump_lists.specs.Notes.{AreJumpNotes}
use Rattle.jump_lists.specs.Jumps.{read_jumps}
use Rattle.scale_base.specs.declared.summary.Lowered.{Lowered}
use Rattle.image_lower.specs.Block.{block_len}
use Rattle.image_lower.specs.Lowered.{AfterPart, IsLoweredImage, IsLowered, lowered_at, no_bad_jump, not_scaled}
use Rattle.image_lower.specs.Meets.{IsLoweredTo}
use Rattle.image_lower.specs.Promise.{IsLoweredSafely, LoweredAnswersAgree}
use Rattle.image_lower.proofs.JumpFiles.{read_kept}
use Rattle.image_lower.proofs.LoweringLaws.{file_is}
use Rattle.image_lower.proofs.LoweredLaw.{made_of, runs_follow}

-- ---- what `lower` went through

record Passed {A B : Type 0} (part : Result A Refusal) (next : A → Result B Refusal → Type 0) (y : B) : Type 0 where
  value : A
  was : part ≡ Ok value
  on : next value (Ok y)

passed : {A B : Type 0} (part : Result A Refusal) (next : A → Result B Refusal → Type 0) (y : B) → AfterPart part next (Ok y) → Passed part next y
passed (Ok x) next y h = record { value = x; was = refl; on = h }
passed (Err refusal) next y h = let never : ⊥ = cc in absurd never

unscaled : (keyed : Option Keyed) → not_scaled keyed ≡ Ok tt → keyed ≡ None
unscaled None e = refl
unscaled (Some keyed) e = let never : ⊥ = cc in absurd never

record WentThrough (image jumps : List ℕ) (given : List ℕ × Lowered) : Type 0 where
  original : Image
  notes : List JumpNote
  base : ℕ
  notes_are : read_jumps jumps ≡ Ok notes
  original_is : image_of image ≡ Ok original
  no_key : original.keyed_segment ≡ None
  noted : AreJumpNotes notes
  good : no_bad_jump original notes ≡ Ok tt
  base_is : IsStubBase original (block_len original notes) base
  made : lowered_at original base notes ≡ Ok given

went_through : (image jumps : List ℕ) (given : List ℕ × Lowered) → IsLowered image jumps (Ok given) → WentThrough image jumps given
unfolding IsLowered
went_through image jumps given h =
    let a = passed (read_jumps jumps) _ given h in
    let b = passed (image_of image) _ given a.on in
    let c = passed (not_scaled b.value.keyed_segment) _ given b.on in
    let d = passed (no_bad_jump b.value a.value) _ given c.on in
    let is = d.on in
    record {
      original = b.value;
      notes = a.value;
      base = is.base;
      notes_are = a.was;
      original_is = b.was;
      no_key = unscaled b.value.keyed_segment c.was;
      noted = read_kept jumps a.value a.was;
      good = d.was;
      base_is = is.base_is;
      made = sym is.answer_is;
    }

-- ---- the law

pub safe : (image jumps stored : List ℕ) (counts : Lowered) → length image ≤ 4194304 → All (λ b. b < 2 ^ 8) image → IsLowered image jumps (Ok ((stored, counts))) → IsLoweredSafely image jumps stored counts
safe image jumps stored counts short bytes h =
    let went = went_through image jumps (stored, counts) h in
    let same : went.original.file ≡ image = file_is image went.original went.original_is in
    let made = made_of went.original went.notes went.base stored counts went.made in
    let lowered = made.again.0 in
    let lowered_is : image_of stored ≡ Ok lowered = made.again.1 in
    let kept : lowered.file ≡ stored = file_is stored lowered lowered_is in
    let to : IsLoweredTo went.original went.notes went.base lowered = record {
      read = ap image_of same ∙ went.original_is;
      short = subst (λ (f : List ℕ). length f ≤ 4194304) (sym same) short;
      bytes = subst (λ (f : List ℕ). All (λ b. b < 2 ^ 8) f) (sym same) bytes;
      no_key = went.no_key;
      noted = went.noted;
      good = went.good;
      place = went.base_is;
      counts = counts;
      made = subst (λ (f : List ℕ). lowered_at went.original went.base went.notes ≡ Ok ((f, counts))) (sym kept) went.made;
      lowered_read = ap image_of kept ∙ lowered_is;
    } in
    record {
      original = went.original;
      lowered = lowered;
      notes = went.notes;
      base = went.base;
      original_is = went.original_is;
      lowered_is = lowered_is;
      notes_are = went.notes_are;
      base_is = went.base_is;
      file_is = sym made.file_is;
      printed = made.told;
      runs = λ levels input n keeps. runs_follow went.original lowered went.notes went.base levels input n to keeps;
    }

-- what a call of `lower` gives
pub safe_given : (image jumps : List ℕ) (result : Result (Vec ℕ Global × Lowered) Stop) → length image ≤ 4194304 → All (λ b. b < 2 ^ 8) image → AnswersBy (λ p. (p.0.items, p.1)) result (IsLowered image jumps)
    → IfOk result (λ p. IsLoweredSafely image jumps p.0.items p.1)
safe_given image jumps (Ok p) short bytes h = safe image jumps p.0.items p.1 short bytes h
safe_given image jumps (Err stop) short bytes h = tt

-- ---- two answers

-- both refuse as the part does, or both are what follows it
both_after : {A B : Type 0} (part : Result A Refusal) (next : A → Result B Refusal → Type 0) (one other : Result B Refusal) → AfterPart part next one → AfterPart part next other → ((x : A) → part ≡ Ok x → next x one → next x other → one ≡ other) → one ≡ other
both_after (Ok x) next one other h g go = go x refl h g
both_after (Err refusal) next one other h g go = h ∙ sym g

-- there is one stub base
same_answer : (image : Image) (notes : List JumpNote) (one other : Result (List ℕ × Lowered) Refusal) → IsLoweredImage image notes one → IsLoweredImage image notes other → one ≡ other
same_answer image notes one other h g =
    let low = h.base_is.least g.base g.base_is.place in
    let high = g.base_is.least h.base h.base_is.place in
    let same : h.base ≡ g.base = omega (arith, low, high) in
    h.answer_is ∙ (ap (λ (b : ℕ). lowered_at image b notes) same ∙ sym g.answer_is)

pub answers : LoweredAnswersAgree
unfolding IsLowered
answers = λ image jumps one other h g.
    both_after (read_jumps jumps) _ one other h g (λ notes listed h1 g1.
    both_after (image_of image) _ one other h1 g1 (λ original read h2 g2.
    both_after (not_scaled original.keyed_segment) _ one other h2 g2 (λ plain scaled h3 g3.
    both_after (no_bad_jump original notes) _ one other h3 g3 (λ fine good a b. same_answer original notes one other a b))))
