-- What `split` stores keeps its promise.
use Rattle.std.proofs.Common.{◌≡◌, ◌∙◌, ℕ, List, inl, inr, sym}
use Rattle.std.specs.Prelude.{Ok}
use Rattle.split_images.specs.declared.split.SplitImage.{SplitImage}
use Rattle.pace_tool.specs.Answer.{SplitsImage}
use Rattle.pace_tool.specs.Promise.{IsSplitSafely}
use Rattle.pace_tool.proofs.VersionedSafely.{read_file, versioned_safely}
use Rattle.scale_base.specs.Image.{Image, image_of}
use Rattle.split_images.specs.Splits.{IsSplitOf}

safe : (image stored : List ℕ) (split : SplitImage) (original : Image) → image_of image ≡ Ok original → stored ≡ split.file.items → IsSplitOf original split → IsSplitSafely image stored split
safe image stored split original read same (inl plain) = inl (same ∙ plain.0 ∙ read_file image original read)
safe image stored split original read same (inr made) =
    let by = made.3 in
    inr (versioned_safely image stored original by.versioned made.0 made.1 made.2 read by.is_versioned (by.file ∙ sym same))

pub split_safely : (image stored : List ℕ) (split : SplitImage) → SplitsImage image (Ok ((stored, split))) → IsSplitSafely image stored split
split_safely image stored split is = safe image stored split is.0.0 is.0.1 is.1 is.0.2.2
