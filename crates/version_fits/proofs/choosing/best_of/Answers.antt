use Rattle.std.proofs.Common.{List, subst}
use Rattle.std.specs.List.{All}
use Rattle.std.proofs.lemmas.List.Elements.{All-tail}
use Rattle.versioned_images.specs.declared.versions.Version.{Version}
use Rattle.versioned_images.specs.Versions.{IsVersionOf}
use Rattle.version_fits.proofs.choosing.best_of.Goals as goal

pub loop-version-preserved : goal.loop-version-preserved
loop-version-preserved g c =
    let plain = c.args.plain.now.image.now in
    let others = c.next.new.self.rest.items in (
      c.in_ok-best.ensures,
      All-tail (IsVersionOf plain) c.in-Some.version others
          (subst (λ (items : List Version). All (IsVersionOf plain) items) c.in-Some.ensures.steps.0 c.loop-version.invariant.1),
      tt,
      tt,
    )
