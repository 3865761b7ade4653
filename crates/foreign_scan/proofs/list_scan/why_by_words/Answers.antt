use Rattle.std.proofs.Common.{sym, ◌∙◌, rules, ◌≡◌, true}
use Rattle.foreign_scan.proofs.WhyLaws.{patch_why, patched_well}
use Rattle.foreign_scan.proofs.list_scan.why_by_words.Goals as goal

pub returns-in-Some-bad_patch-clause-why : goal.returns-in-Some-bad_patch-clause-why
returns-in-Some-bad_patch-clause-why c =
    let t : c.in_ok-alike.alike ≡ true = search rules in
    patch_why c.args.original.now c.args.foreign.now c.args.nodes.now c.in-Some-bad_patch.at (λ e. let bad = sym c.in-Some.is ∙ (c.keyed.ensures ∙ e) in cc) (c.in_ok-alike.ensures.0 t)
    (rw c.in_default-2.is at c.in_ok-at.ensures.none) c.in-Some-bad_patch.ensures

pub returns-in-None-clause-none : goal.returns-in-None-clause-none
returns-in-None-clause-none c =
    let t : c.in_ok-alike.alike ≡ true = search rules in
    patched_well c.args.original.now c.args.foreign.now c.args.nodes.now (λ e. let bad = sym c.in-Some.is ∙ (c.keyed.ensures ∙ e) in cc) (c.in_ok-alike.ensures.0 t)
    (rw c.in_default-2.is at c.in_ok-at.ensures.none) c.in-None.ensures
