-- What notes give, case by case.
use Rattle.std.proofs.Common.{◌≡◌, ℕ, ◌≤◌, Bool, true, false, List, [], ◌∷◌, ◌++◌, length, Option, Some, None, Result, Ok, Err, refl, arith, ap, sym, subst, ◌∙◌}
use Rattle.std.specs.Prelude.{if◌then◌else◌, is_some}
use Rattle.scale_base.specs.declared.ranges.Keyed.{Keyed}
use Rattle.scale_base.proofs.Laws.{contents-are}
use Rattle.jump_lists.specs.Jumps.{read_jumps}
use Rattle.std.specs.List.{flat_map}
use Rattle.scale_base.specs.declared.refusal.Refusal.{Refusal}
use Rattle.scale_base.specs.declared.refusal.Refusal.TheVariants.{NoRoom, LowerOutOfReach, BadJump}
use Rattle.scale_base.specs.declared.ranges.Patch.{Patch}
use Rattle.scale_base.specs.Image.{Image, image_of, contents}
use Rattle.scale_base.specs.Word.{word_of}
use Rattle.elf_patch.specs.Stored.{little, IsStubBase}
use Rattle.scale_base.specs.declared.refusal.Stop.{Stop}
use Rattle.scale_base.specs.declared.refusal.Stop.TheVariants.{Refused, Memory}
use Rattle.scale_base.specs.Answer.{Answers, AnswersBy}
use Rattle.elf_patch.specs.Added.{added_file}
use Rattle.table_keys.specs.Keys.{◌>>=◌}
use Rattle.jump_lists.specs.declared.notes.JumpNote.{JumpNote}
use Rattle.scale_base.specs.declared.summary.Lowered.{Lowered}
use Rattle.image_lower.specs.FarJumps.{far_patches}
use Rattle.image_lower.specs.Block.{ascending_notes, tree_out_of_reach, tree_patches, trees_code, block_len, greatest_depth, least_address, is_bad}
use Rattle.image_lower.proofs.Bases.{some_base}
use Rattle.image_lower.specs.Lowered.{refuse_at, is_full, not_full, lowered_file, summary, finished, lowered_at, IsLoweredImage, IsLowered, AfterPart, no_bad_jump, not_scaled}

by : Bool → Result (Unit {0}) Refusal
by b = if b then Err (NoRoom 2) else Ok tt

full_first : (file : List ℕ) → is_full file ≡ true → not_full file ≡ Err (NoRoom 2)
unfolding by
full_first file h = ap by h

full_not : (file : List ℕ) → is_full file ≡ false → not_full file ≡ Ok tt
unfolding by
full_not file h = ap by h

pub too_far : (image : Image) (base : ℕ) (notes sorted : List JumpNote) (at : ℕ) → 1 ≤ length notes → sorted ≡ ascending_notes notes → Some at ≡ tree_out_of_reach image base sorted → lowered_at image base notes ≡ Err (LowerOutOfReach at)
unfolding lowered_at
too_far image base [] sorted at some is far = absurd (omega (arith, some))
too_far image base (n ∷ ns) sorted at some is far =
    ap (λ (o : Option ℕ). (refuse_at LowerOutOfReach o >>= λ _. not_full image.file) >>= λ _. finished (lowered_file image base (n ∷ ns)) (summary image (n ∷ ns)))
    (ap (tree_out_of_reach image base) (sym is) ∙ sym far)

pub too_full : (image : Image) (base : ℕ) (notes sorted : List JumpNote) → 1 ≤ length notes → sorted ≡ ascending_notes notes → None ≡ tree_out_of_reach image base sorted → is_full image.file ≡ true → lowered_at image base notes ≡ Err (NoRoom 2)
unfolding lowered_at
too_full image base [] sorted some is far full = absurd (omega (arith, some))
too_full image base (n ∷ ns) sorted some is far full =
    ap (λ (o : Option ℕ). (refuse_at LowerOutOfReach o >>= λ _. not_full image.file) >>= λ _. finished (lowered_file image base (n ∷ ns)) (summary image (n ∷ ns)))
    (ap (tree_out_of_reach image base) (sym is) ∙ sym far)
    ∙ ap (λ (r : Result (Unit {0}) Refusal). r >>= λ _. finished (lowered_file image base (n ∷ ns)) (summary image (n ∷ ns))) (full_first image.file full)

pub made : (image : Image) (base : ℕ) (notes sorted : List JumpNote) (near : List Patch) (file : List ℕ) (counts : Lowered) → 1 ≤ length notes → sorted ≡ ascending_notes notes → None ≡ tree_out_of_reach image base sorted → is_full image.file ≡ false →
    near ≡ far_patches image notes → file ≡ added_file image.file (near ++ tree_patches image base sorted) base (flat_map (λ i. little 4 (word_of i)) (trees_code image base sorted)) → counts ≡ summary image notes →
    lowered_at image base notes ≡ finished file counts
unfolding lowered_at
made image base [] sorted near file counts some is far full patches stored told = absurd (omega (arith, some))
made image base (n ∷ ns) sorted near file counts some is far full patches stored told =
    ap (λ (o : Option ℕ). (refuse_at LowerOutOfReach o >>= λ _. not_full image.file) >>= λ _. finished (lowered_file image base (n ∷ ns)) (summary image (n ∷ ns)))
    (ap (tree_out_of_reach image base) (sym is) ∙ sym far)
    ∙ ap (λ (r : Result (Unit {0}) Refusal). r >>= λ _. finished (lowered_file image base (n ∷ ns)) (summary image (n ∷ ns))) (full_not image.file full)
    ∙ (ap (λ (c : Lowered). finished (lowered_file image base (n ∷ ns)) c) (sym told)
    ∙ ap (λ (f : List ℕ). finished f counts)
    (ap (λ (ps : List Patch). added_file image.file (ps ++ tree_patches image base (ascending_notes (n ∷ ns))) base (flat_map (λ i. little 4 (word_of i)) (trees_code image base (ascending_notes (n ∷ ns))))) (sym patches)
    ∙ (ap (λ (ss : List JumpNote). added_file image.file (near ++ tree_patches image base ss) base (flat_map (λ i. little 4 (word_of i)) (trees_code image base ss))) (sym is) ∙ sym stored)))

counted : (pairs jumps block depth : ℕ) → Lowered
counted pairs jumps block depth = record { pairs = pairs; jumps = jumps; block = block; depth = depth }

pub told : (image : Image) (notes : List JumpNote) (near : List Patch) (len depth : ℕ) (counts : Lowered) → counts ≡ record { pairs = length near; jumps = length notes; block = len; depth = depth } →
    near ≡ far_patches image notes → len ≡ block_len image notes → depth ≡ greatest_depth notes → counts ≡ summary image notes
unfolding counted
told image notes near len depth counts is patches long deep =
    is ∙ (ap (λ (ps : List Patch). counted (length ps) (length notes) len depth) patches
    ∙ (ap (λ (l : ℕ). counted (length (far_patches image notes)) (length notes) l depth) long
    ∙ ap (λ (d : ℕ). counted (length (far_patches image notes)) (length notes) (block_len image notes) d) deep))

-- ---- at the stub base

pub by_base : {X : Type 0} (view : X → List ℕ × Lowered) (r : Result X Stop) (image : Image) (notes : List JumpNote) (len base : ℕ) → len ≡ block_len image notes → IsStubBase image len base → Answers view r (lowered_at image base notes) →
    AnswersBy view r (IsLoweredImage image notes)
by_base view (Ok x) image notes len base e place h = record { base = base; base_is = subst (λ n. IsStubBase image n base) e place; answer_is = sym h }
by_base view (Err (Refused refusal)) image notes len base e place h = record { base = base; base_is = subst (λ n. IsStubBase image n base) e place; answer_is = sym h }
by_base view (Err Memory) image notes len base e place h = tt

-- without noted jumps it does not matter which it is
no_block : (image : Image) → block_len image [] ≤ 4194304
unfolding ascending_notes
no_block image = omega arith

without_notes : (image : Image) (notes : List JumpNote) (base : ℕ) → length notes ≡ 0 → lowered_at image base notes ≡ finished (lowered_file image 0 []) (summary image [])
unfolding lowered_at
without_notes image [] base none = refl
without_notes image (n ∷ ns) base none = absurd (omega (arith, none))

base_without : (image : Image) (notes : List JumpNote) → image_of image.file ≡ Ok image → length notes ≡ 0 → (base : ℕ) × IsStubBase image (block_len image notes) base
base_without image [] read none = some_base image.file image (block_len image []) read (no_block image)
base_without image (n ∷ ns) read none = absurd (omega (arith, none))

pub by_none : {X : Type 0} (view : X → List ℕ × Lowered) (r : Result X Stop) (image : Image) (notes : List JumpNote) → image_of image.file ≡ Ok image → length notes ≡ 0 → Answers view r (finished (lowered_file image 0 []) (summary image [])) →
    AnswersBy view r (IsLoweredImage image notes)
by_none view (Ok x) image notes read none h = let base = base_without image notes read none in record { base = base.0; base_is = base.1; answer_is = sym h ∙ sym (without_notes image notes base.0 none) }
by_none view (Err (Refused refusal)) image notes read none h = let base = base_without image notes read none in record { base = base.0; base_is = base.1; answer_is = sym h ∙ sym (without_notes image notes base.0 none) }
by_none view (Err Memory) image notes read none h = tt

-- ---- the parts before

pub past_bad : {X : Type 0} (view : X → List ℕ × Lowered) (r : Result X Stop) (image : Image) (notes : List JumpNote) → None ≡ least_address (is_bad image notes) notes → AnswersBy view r (IsLoweredImage image notes) →
    AnswersBy view r (AfterPart (no_bad_jump image notes) (λ _. IsLoweredImage image notes))
past_bad view r image notes none h = subst (λ (o : Option ℕ). AnswersBy view r (AfterPart (refuse_at BadJump o) (λ _. IsLoweredImage image notes))) none h

pub file_is : (file : List ℕ) (image : Image) → image_of file ≡ Ok image → image.file ≡ file
unfolding contents
file_is file image e = sym (ap (λ (i : Image). i.file) (contents-are file image e))

pub none_of : (o : Option Keyed) → is_some o ≡ false → o ≡ None
none_of None e = refl
none_of (Some k) e = absurd cc

pub passed : {X : Type 0} (view : X → List ℕ × Lowered) (r : Result X Stop) (image jumps : List ℕ) (notes : List JumpNote) (original : Image) → read_jumps jumps ≡ Ok notes → image_of image ≡ Ok original → original.keyed_segment ≡ None →
    AnswersBy view r (AfterPart (no_bad_jump original notes) (λ _. IsLoweredImage original notes)) → AnswersBy view r (IsLowered image jumps)
unfolding IsLowered
passed view r image jumps notes original listed read plain h =
    let next : List JumpNote → Image → Result (List ℕ × Lowered) Refusal → Type 0 = λ ns i. AfterPart (no_bad_jump i ns) (λ _. IsLoweredImage i ns) in
    let k : AnswersBy view r (AfterPart (not_scaled original.keyed_segment) (λ _. next notes original)) = subst (λ (o : Option Keyed). AnswersBy view r (AfterPart (not_scaled o) (λ _. next notes original))) (sym plain) h in
    let i : AnswersBy view r (AfterPart (image_of image) (λ o. AfterPart (not_scaled o.keyed_segment) (λ _. next notes o))) =
    subst (λ (x : Result Image Refusal). AnswersBy view r (AfterPart x (λ o. AfterPart (not_scaled o.keyed_segment) (λ _. next notes o)))) (sym read) k in
    subst (λ (x : Result (List JumpNote) Refusal). AnswersBy view r (AfterPart x (λ ns. AfterPart (image_of image) (λ o. AfterPart (not_scaled o.keyed_segment) (λ _. next ns o))))) (sym listed) i
