-- What is made with pieces and sites has instructions by some.
use Rattle.std.proofs.Common.{List, Option, Some, None}
use Rattle.std.specs.Prelude.{IfSome}
use Rattle.scale_base.specs.Image.{Image}
use Rattle.loop_versions.specs.declared.pieces.Piece.{Piece}
use Rattle.loop_versions.specs.declared.pieces.Site.{Site}
use Rattle.versioned_images.specs.declared.versions.Made.{Made}
use Rattle.versioned_images.specs.Versioned.{IsVersionedBy}
use Rattle.split_images.specs.Splits.{HasInstructions}

pub made_by : (image : Image) (pieces : List Piece) (sites : List Site) (given : Option Made) →
    IfSome given (λ made. IsVersionedBy image pieces sites made.file.items made.base made.words) →
    IfSome given (λ made. HasInstructions image made.file.items made.words)
made_by image pieces sites (Some made) is = (pieces, sites, made.base, is)
made_by image pieces sites None is = tt
