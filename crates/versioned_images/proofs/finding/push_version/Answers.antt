use Rattle.std.proofs.Common.{[], ◌∷◌}
use Rattle.std.proofs.lemmas.List.Elements.{All-nil, All-cons, All-append, All-same}
use Rattle.versioned_images.specs.declared.versions.Version.{Version}
use Rattle.versioned_images.specs.Versions.{IsVersionOf}
use Rattle.versioned_images.proofs.finding.push_version.Goals as goal

pub returns-in_ok-push-clause-found : goal.returns-in_ok-push-clause-found
returns-in_ok-push-clause-found c =
    let P : Version → Type 0 = IsVersionOf c.args.view.now.file in
    let version = c.in-Some-2.version in
    let own : IsVersionOf c.args.view.now.file version = rw c.in-Some-2.is at c.in_ok-version.ensures in
    All-same P _ _ c.in_ok-push.ensures.items (All-append P c.args.found.now.items (version ∷ []) c.requires (All-cons P version [] own (All-nil P)))
