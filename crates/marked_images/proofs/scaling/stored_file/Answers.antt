use Rattle.std.proofs.Common.{◌≡◌, ◌≤◌, ◌%◌, ℕ, List, length, map, IsTrue, sym, subst, ◌∙◌}
use Rattle.std.specs.Prelude.{All, IfOk}
use Rattle.std.specs.List.Sorted.{IsStrictlyIncreasing}
use Rattle.scale_base.specs.declared.ranges.Patch.{Patch}
use Rattle.scale_base.specs.Image.{is_word_address}
use Rattle.elf_patch.specs.Stored.{IsStubBase, stored_image}
use Rattle.stub_writer.specs.Stubs.{block_bytes}
use Rattle.stub_writer.specs.Sites.{site_of}
use Rattle.marked_images.proofs.Storing.{made_of, can_store, ascending, whole_words}
use Rattle.marked_images.proofs.scaling.stored_file.Goals as goal

pub write_image-requires-clause-ascending : goal.write_image-requires-clause-ascending
write_image-requires-clause-ascending c =
    let h = c.requires.scaled in
    subst (λ (l : List Patch). IsStrictlyIncreasing (map (λ (p : Patch). p.at) l)) (sym (c.deref.ensures.value ∙ h.7.patches))
    (ascending h.0 h.6 c.args.view.now h.1 h.2 h.3 h.4 h.5 (map site_of c.args.scaling.now.stubs.items) c.args.scaling.now.base c.args.scaling.now.summary.start c.requires.read c.requires.no_key c.requires.file (made_of h.0 c.args.view.now h.1 h.2 h.3 h.4 h.5 c.args.scaling.now h.7))

pub write_image-requires-clause-words : goal.write_image-requires-clause-words
write_image-requires-clause-words c =
    let h = c.requires.scaled in
    let store = can_store h.0 h.6 c.args.view.now h.1 h.2 h.3 h.4 h.5 (map site_of c.args.scaling.now.stubs.items) c.args.scaling.now.base c.args.scaling.now.summary.start c.requires.read c.requires.no_key c.requires.file (made_of h.0 c.args.view.now h.1 h.2 h.3 h.4 h.5 c.args.scaling.now h.7) in
    subst (λ (l : List Patch). All (λ p. IsTrue (is_word_address c.args.view.now p.at)) l) (sym (c.deref.ensures.value ∙ h.7.patches)) store.words

pub write_image-requires-clause-place : goal.write_image-requires-clause-place
write_image-requires-clause-place c =
    let h = c.requires.scaled in
    let store = can_store h.0 h.6 c.args.view.now h.1 h.2 h.3 h.4 h.5 (map site_of c.args.scaling.now.stubs.items) c.args.scaling.now.base c.args.scaling.now.summary.start c.requires.read c.requires.no_key c.requires.file (made_of h.0 c.args.view.now h.1 h.2 h.3 h.4 h.5 c.args.scaling.now h.7) in
    subst (λ (l : List ℕ). IsStubBase c.args.view.now (length l) c.args.scaling.now.base) (sym (c.deref-2.ensures.value ∙ h.7.bytes)) store.place

pub write_image-requires-clause-whole : goal.write_image-requires-clause-whole
write_image-requires-clause-whole c =
    let h = c.requires.scaled in
    subst (λ (l : List ℕ). length l % 4 ≡ 0) (sym (c.deref-2.ensures.value ∙ h.7.bytes))
    (whole_words h.0 h.6 c.args.view.now h.1 h.2 h.3 h.4 h.5 (map site_of c.args.scaling.now.stubs.items) c.args.scaling.now.base c.args.scaling.now.summary.start c.requires.read c.requires.no_key c.requires.file (made_of h.0 c.args.view.now h.1 h.2 h.3 h.4 h.5 c.args.scaling.now h.7))

pub write_image-requires-clause-block : goal.write_image-requires-clause-block
write_image-requires-clause-block c =
    let h = c.requires.scaled in
    let store = can_store h.0 h.6 c.args.view.now h.1 h.2 h.3 h.4 h.5 (map site_of c.args.scaling.now.stubs.items) c.args.scaling.now.base c.args.scaling.now.summary.start c.requires.read c.requires.no_key c.requires.file (made_of h.0 c.args.view.now h.1 h.2 h.3 h.4 h.5 c.args.scaling.now h.7) in
    subst (λ (l : List ℕ). length l ≤ 4194304) (sym (c.deref-2.ensures.value ∙ h.7.bytes)) store.block_short

pub returns : goal.returns
returns c =
    let h = c.requires.scaled in
    let file = c.args.view.now.file in
    let s = c.args.scaling.now in
    subst (λ (ps : List Patch). IfOk c.write_image.result (λ out. out.items ≡ stored_image file ps s.base (block_bytes s.base (map site_of s.stubs.items)) s.summary.start)) (c.deref.ensures.value ∙ h.7.patches)
    (subst (λ (l : List ℕ). IfOk c.write_image.result (λ out. out.items ≡ stored_image file c.deref.result.now s.base l s.summary.start)) (c.deref-2.ensures.value ∙ h.7.bytes) c.write_image.ensures)
