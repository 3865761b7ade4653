-- What splitting the code of an image answers that turns and is entered at several places.
use Rattle.std.specs.Prelude.{◌≡◌, ◌⊎◌, ℕ, List, Some, None, Result, Ok, Err}
use Rattle.scale_base.specs.declared.ranges.Keyed.{Keyed}
use Rattle.scale_base.specs.declared.refusal.Refusal.{Refusal}
use Rattle.scale_base.specs.declared.refusal.Refusal.TheVariants.{AlreadyScaled}
use Rattle.scale_base.specs.Image.{Image, image_of}
use Rattle.code_text.specs.Text.{text_of}
use Rattle.flow_graph.specs.FlowGraph.{FlowGraph, IsGraphOf}
use Rattle.code_graph.specs.Building.{IsBuilt}
use Rattle.loop_versions.specs.declared.pieces.Piece.{Piece}
use Rattle.loop_versions.specs.declared.pieces.Site.{Site}
use Rattle.versioned_images.specs.Versioned.{IsVersionedBy}
use Rattle.split_images.specs.declared.split.SplitImage.{SplitImage}

-- a file is a versioned image of an image, whose pieces have so many instructions
abbrev pub HasInstructions : Image → (file : List ℕ) → (instructions : ℕ) → Type 0
HasInstructions original file instructions =
    (pieces : List Piece) × (sites : List Site) × (base : ℕ) × IsVersionedBy original pieces sites file base instructions

-- that, or it is the file of the image, without instructions more
abbrev pub IsSplitOf : Image → SplitImage → Type 0
IsSplitOf original split =
    ((split.file.items ≡ original.file) × (split.instructions ≡ 0)) ⊎ HasInstructions original split.file.items split.instructions

-- what is told of it as it is
abbrev pub split_view : SplitImage → SplitImage
split_view split = split

-- for the image of a file: what is made of it where its code has a graph, or the refusal of its keyed segment or of its code
abbrev pub IsImageSplit : Image → Result SplitImage Refusal → Type 0
IsImageSplit original (Ok split) =
    (original.keyed_segment ≡ None) × ((v : FlowGraph) × IsGraphOf (text_of original) v) × IsSplitOf original split
IsImageSplit original (Err refusal) =
    ((keyed : Keyed) × (original.keyed_segment ≡ Some keyed) × (refusal ≡ AlreadyScaled))
    ⊎ ((original.keyed_segment ≡ None) × IsBuilt (text_of original) (Err refusal))

-- what is made, or the first refusal: of the file, or of its image
abbrev pub Splits : List ℕ → Result SplitImage Refusal → Type 0
Splits image (Ok split) = (original : Image) × (image_of image ≡ Ok original) × IsImageSplit original (Ok split)
Splits image (Err refusal) = (image_of image ≡ Err refusal) ⊎ ((original : Image) × (image_of image ≡ Ok original) ×
    IsImageSplit original (Err refusal))
