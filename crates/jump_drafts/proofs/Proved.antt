-- What is proved of the image that is lowered by a file is so whatever `lower` may answer.
use Rattle.std.proofs.Common.{◌≡◌, ℕ, false, List, [], Result, Ok, ap, subst}
use Rattle.scale_base.specs.declared.refusal.Refusal.{Refusal}
use Rattle.scale_base.specs.declared.summary.Lowered.{Lowered}
use Rattle.scale_base.specs.Image.{Image, image_of}
use Rattle.jump_lists.specs.declared.notes.JumpNote.{JumpNote}
use Rattle.image_lower.specs.Lowered.{IsLowered}
use Rattle.image_lower.proofs.Laws.{lowered_answers}
use Rattle.jump_proofs.specs.declared.proof.JumpProof.{JumpProof}
use Rattle.jump_proofs.specs.Proved.{IsProofOf}
use Rattle.jump_proofs.proofs.Laws.{none_proved}
use Rattle.jump_drafts.specs.Drafted.{IsFileProved, IsImageProved}

same_image : (one other : Image) (bytes : List ℕ) → image_of bytes ≡ Ok one → image_of bytes ≡ Ok other → one ≡ other
same_image one other bytes e f = let r : one ≡ other = cc in r

pub image_proved : (original : Image) (bytes : List ℕ) (lowered : Image) (notes : List JumpNote) (proof : JumpProof) → image_of bytes ≡ Ok lowered → IsProofOf original lowered notes proof → IsImageProved original bytes notes proof
image_proved original bytes lowered notes proof read is other read_other = subst (λ (i : Image). IsProofOf original i notes proof) (same_image lowered other bytes read read_other) is

same_bytes : (one other : List ℕ × Lowered) → ◌≡◌ {A = Result (List ℕ × Lowered) Refusal} (Ok one) (Ok other) → one.0 ≡ other.0
same_bytes one other e = let p : one ≡ other = cc in ap (λ (x : List ℕ × Lowered). x.0) p

pub file_proved : (original : Image) (file bytes : List ℕ) (counts : Lowered) (notes : List JumpNote) (proof : JumpProof) → IsLowered original.file file (Ok ((bytes, counts))) → IsImageProved original bytes notes proof → IsFileProved original file notes proof
file_proved original file bytes counts notes proof is proved stored other is_stored =
    let same : bytes ≡ stored = same_bytes (bytes, counts) (stored, other) (lowered_answers original.file file (Ok ((bytes, counts))) (Ok ((stored, other))) is is_stored) in
    subst (λ (b : List ℕ). IsImageProved original b notes proof) same proved

pub image_unproved : (original : Image) (bytes : List ℕ) (notes : List JumpNote) (proof : JumpProof) → proof.jumps.items ≡ [] → proof.returns ≡ false → IsImageProved original bytes notes proof
image_unproved original bytes notes proof jumps returns lowered read = none_proved original lowered notes proof jumps returns

pub file_unproved : (original : Image) (file : List ℕ) (notes : List JumpNote) (proof : JumpProof) → proof.jumps.items ≡ [] → proof.returns ≡ false → IsFileProved original file notes proof
file_unproved original file notes proof jumps returns stored counts is lowered read = none_proved original lowered notes proof jumps returns
