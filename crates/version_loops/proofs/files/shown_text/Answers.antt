use Rattle.std.proofs.Common.{List, sym, subst}
use Rattle.loop_versions.specs.declared.pieces.Piece.{Piece}
use Rattle.loop_versions.specs.declared.pieces.Site.{Site}
use Rattle.copy_bounds.specs.Meanings.{meaning}
use Rattle.copy_checks.specs.declared.tables.Meant.{Meant}
use Rattle.copy_checks.specs.Checked.{AreMeant}
use Rattle.version_loops.proofs.files.shown_text.Goals as goal

pub meant_text-requires-clause-meant : goal.meant_text-requires-clause-meant
meant_text-requires-clause-meant c =
    let version = c.args.case.now.version.now in
    let nodes = c.args.case.now.graph.now.code.nodes in
    let made = c.in_ok-meant.meant.items in
    subst (λ (meant : List Meant). AreMeant (meaning version.pieces.items version.sites.items version.base) nodes meant) (sym c.deref-3.ensures.value)
    (subst (λ (sites : List Site). AreMeant (meaning version.pieces.items sites version.base) nodes made) c.deref-2.ensures.value
    (subst (λ (pieces : List Piece). AreMeant (meaning pieces c.deref-2.result.now version.base) nodes made) c.deref.ensures.value c.in_ok-meant.ensures))
