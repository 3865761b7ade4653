-- What the code shows of a note is so along the lowered image's runs.
use Rattle.std.proofs.Common.{◌≡◌, ℕ, zero, suc, ◌+◌, ◌*◌, ◌<◌, ◌%◌, ◌^◌, ◌⊎◌, inl, inr, ⊎_elim, Bool, true, false, List, [], ◌∷◌, ◌++◌, length, Option, Some, None, Ok, refl, sym, ap, ◌∙◌, subst, arith}
use Rattle.std.specs.Prelude.{All, slice_get, slice_index, unwrap_or}
use Rattle.std.specs.List.{Contains}
use Rattle.std.proofs.lemmas.List.Elements.{Contains-get_or}
use Rattle.scale_base.specs.Image.{Image, image_of, loaded_byte}
use Rattle.scale_base.specs.Layout.{layout_of}
use Rattle.scale_base.specs.State.{reg, word_at}
use Rattle.scale_base.specs.Run.{GoesOn, run_of, setting_of, start_of}
use Rattle.code_text.specs.Text.{text_of}
use Rattle.code_text.specs.TextGraph.{text_graph}
use Rattle.graph_runs.specs.RunTransitions.{returns_so}
use Rattle.graph_runs.proofs.Laws.{image_starts}
use Rattle.bound_laws.proofs.Laws.{loaded_small}
use Rattle.stack_laws.specs.Laws.{IsStackAnalysed}
use Rattle.stack_laws.specs.Returning.{ComesBack}
use Rattle.stack_laws.specs.Tidy.{IsCertain}
use Rattle.stack_laws.proofs.Laws.{certain_tidy, image_laid, image_told, runs_come_back}
use Rattle.stack_tables.proofs.Laws.{address_is}
use Rattle.stack_tables.specs.Tables.{address, claim_stacks, claim_text, claim_values}
use Rattle.jump_lists.specs.declared.notes.JumpNote.{JumpNote}
use Rattle.image_lower.specs.Block.{register, register_at}
use Rattle.fixed_tables.specs.declared.table.Table.{Table}
use Rattle.fixed_tables.specs.Tables.{IsEntry, IsTableOf}
use Rattle.jump_laws.specs.declared.reads.TableRead.{TableRead}
use Rattle.jump_laws.specs.Reads.{AreReads, IsEntryOf, IsRead, entry_of}
use Rattle.jump_laws.specs.Laws.{AreUnwritten, ImageWordsHold}
use Rattle.jump_laws.proofs.Laws.{fixed_stay}
use Rattle.jump_checks.specs.declared.claims.ReadClaim.{ReadClaim}
use Rattle.jump_checks.specs.Claimed.{IsReadClaim, known_beside, known_in}
use Rattle.jump_proofs.specs.declared.proof.JumpProof.{JumpProof}
use Rattle.jump_proofs.specs.Shown.{AreShownBy, IsShownBy}
use Rattle.jump_proofs.specs.Proved.{AreBytes, AreJumpsProved, IsJumpProved, IsProofOf, RunsGoBack}

-- a word of the table is one of the targets
entry_listed : (image : Image) (table : Table) (targets : List ℕ) (value : ℕ) → image_of image.file ≡ Ok image → IsTableOf image table targets → IsEntryOf (loaded_byte image) table value → Contains targets value
entry_listed image table targets value read is (k, lt, same) =
    let t = is.all k lt in
    let entry : IsEntry image table k (slice_index targets t.i) = t.entry in
    let loaded : word_at (loaded_byte image) (table.at + table.step * k) ≡ entry.word = (fixed_stay image.file image (table.at + table.step * k) entry.word read entry.fixed).0 in
    let e : value ≡ slice_index targets t.i = same ∙ (ap (λ (w : ℕ). (table.base + w) % 2 ^ 32) loaded ∙ sym entry.target_is) in
    subst (Contains targets) (sym e) (Contains-get_or targets t.i 0 t.within)

some_is : (x y : JumpNote) → Some x ≡ Some y → x ≡ y
some_is x y e = let r : x ≡ y = cc in r

-- a flag of a longer list
flag_of : (flags : List Bool) (b : Bool) (j : ℕ) → slice_get (flags ++ b ∷ []) j ≡ Some true → (slice_get flags j ≡ Some true) ⊎ ((j ≡ length flags) × (b ≡ true))
flag_of [] b zero e = inr (refl, (let r : b ≡ true = cc in r))
flag_of [] b (suc j) e = let bad : ⊥ = cc in absurd bad
flag_of (x ∷ flags) b zero e = inl e
flag_of (x ∷ flags) b (suc j) e = ⊎_elim
    (λ (before : slice_get flags j ≡ Some true). inl before)
    (λ (here : (j ≡ length flags) × (b ≡ true)). inr (ap suc here.0, here.1)) (flag_of flags b j e)

pub shown_more : (original : Image) (c : ReadClaim) (notes : List JumpNote) (flags : List Bool) (k : ℕ) (note : JumpNote) (b : Bool) → slice_get notes k ≡ Some note → length flags ≡ k → AreShownBy original c notes flags →
    (b ≡ true → IsShownBy original c note) → AreShownBy original c notes (flags ++ b ∷ [])
shown_more original c notes flags k note b at size all here j other there on = ⊎_elim
    (λ (before : slice_get flags j ≡ Some true). all j other there before)
    (λ (last : (j ≡ length flags) × (b ≡ true)).
    let same : slice_get notes j ≡ Some note = ap (slice_get notes) (last.0 ∙ size) ∙ at in
    subst (IsShownBy original c) (some_is note other (sym same ∙ there)) (here last.1)) (flag_of flags b j on)

pub none_shown : (original : Image) (c : ReadClaim) (notes : List JumpNote) → AreShownBy original c notes []
none_shown original c notes k note at on = let bad : ⊥ = cc in absurd bad

-- what is known where a jump stood
pub known_there : (c : ReadClaim) (k a : ℕ) (x : TableRead) → slice_get c.claim.now.graph.now.code.nodes k ≡ Some a → Some x ≡ known_in c (address c.claim.now k) → known_beside c.claim.now.graph.now.code.nodes c.reads.now a ≡ Some x
unfolding known_in
known_there c k a x at e = ap (known_in c) (address_is c.claim.now k a at) ∙ sym e

pub register_there : (original : Image) (note : JumpNote) (r x : ℕ) → Some r ≡ register_at original note.at → r ≡ x → register original note ≡ x
register_there original note r x e same = ap (λ (o : Option ℕ). unwrap_or o 0) (sym e) ∙ same

-- ---- along runs

pub shown_proved : ImageWordsHold → (original : Image) (c : ReadClaim) → IsReadClaim c → IsStackAnalysed c.claim.now.view.now c.claim.now.graph.now.code (claim_values c.claim.now) (claim_stacks c.claim.now) → IsCertain (claim_stacks c.claim.now) →
    AreReads (text_of c.claim.now.view.now) (text_graph (text_of c.claim.now.view.now) c.claim.now.graph.now.code) (claim_values c.claim.now) (known_beside c.claim.now.graph.now.code.nodes c.reads.now) →
    AreUnwritten (layout_of c.claim.now.view.now) (known_beside c.claim.now.graph.now.code.nodes c.reads.now) → (notes : List JumpNote) (flags : List Bool) → AreShownBy original c notes flags → AreBytes c.claim.now.view.now.file →
    AreJumpsProved original c.claim.now.view.now notes flags
shown_proved words original c is ana certain reads fixed notes flags shown small k note at on levels input n rs small_input returns goes there =
    let lowered : Image = c.claim.now.view.now in
    let known : ℕ → Option TableRead = known_beside c.claim.now.graph.now.code.nodes c.reads.now in
    let regs : List ℕ = (run_of lowered levels input n).state.regs in
    let s : IsShownBy original c note = shown k note at on in
    let held : IsRead (loaded_byte lowered) (known (run_of lowered levels input n).state.pc) regs =
    words lowered.file lowered levels input c.claim.now.graph.now.code (claim_values c.claim.now) (claim_stacks c.claim.now) known is.claim.image small small_input ana reads fixed n
    (certain_tidy (claim_values c.claim.now) (claim_stacks c.claim.now) (setting_of lowered levels input) (start_of lowered levels) certain n) rs returns goes in
    let entry : IsEntryOf (loaded_byte lowered) s.read.table (reg regs s.read.register) = subst (λ (o : Option TableRead). IsRead (loaded_byte lowered) o regs) (ap known there ∙ s.known) held in
    subst (λ (r : ℕ). Contains note.targets (reg regs r)) (sym s.register_is) (entry_listed lowered s.read.table note.targets (reg regs s.read.register) is.claim.image s.table entry)

pub runs_back : (c : ReadClaim) → IsReadClaim c → IsStackAnalysed c.claim.now.view.now c.claim.now.graph.now.code (claim_values c.claim.now) (claim_stacks c.claim.now) → IsCertain (claim_stacks c.claim.now) →
    ComesBack (claim_text c.claim.now) (text_graph (claim_text c.claim.now) c.claim.now.graph.now.code) (claim_values c.claim.now) (claim_stacks c.claim.now) → AreBytes c.claim.now.view.now.file → RunsGoBack c.claim.now.view.now
unfolding run_of
runs_back c is ana certain comes small levels input n small_input =
    let image : Image = c.claim.now.view.now in
    runs_come_back (text_of image) (setting_of image levels input) (start_of image levels) c.claim.now.graph.now.code (claim_values c.claim.now) (claim_stacks c.claim.now) (image_starts image.file image levels input is.claim.image) ana.reached ana.invariant comes
    (image_laid image c.claim.now.graph.now.code (claim_values c.claim.now) (claim_stacks c.claim.now) ana) (image_told image levels c.claim.now.graph.now.code (claim_values c.claim.now) (claim_stacks c.claim.now) ana) (loaded_small image.file image is.claim.image small) small_input n
    (certain_tidy (claim_values c.claim.now) (claim_stacks c.claim.now) (setting_of image levels input) (start_of image levels) certain n)

-- nothing is proved of notes without a flag
pub none_proved : (original lowered : Image) (notes : List JumpNote) (proof : JumpProof) → proof.jumps.items ≡ [] → proof.returns ≡ false → IsProofOf original lowered notes proof
none_proved original lowered notes proof jumps returns = record {
  jumps = λ small. subst (AreJumpsProved original lowered notes) (sym jumps) (λ k note at on. let bad : ⊥ = cc in absurd bad);
  returns = λ small back. let no : true ≡ false = sym back ∙ returns in let bad : ⊥ = cc in absurd bad;
}
