-- The image of lines of assembly.
use Rattle.std.specs.Prelude.{◌≡◌, ℕ, List}
use Rattle.image_maker.specs.declared.line.Line.{Line}
use Rattle.image_maker.specs.Assembling.{IsAssembled}
use Rattle.image_maker.specs.PlainImage.{plain_image}

-- the file is the plain image of the words of the lines
pub record IsImageOf (lines : List Line) (file : List ℕ) : Type 0 where
  pub words : List ℕ
  pub assembled : IsAssembled lines words
  pub plain : file ≡ plain_image words
