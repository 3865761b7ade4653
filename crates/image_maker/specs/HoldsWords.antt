-- Scaffold: what a plain image is an image of.
use Rattle.std.specs.Prelude.{◌≡◌, ◌<◌, ℕ, ◌+◌, ◌*◌, List, [], ◌∷◌, length, slice_index, Ok, Some, None}
use Rattle.scale_base.specs.Image.{image_of, contents, text_word}
use Rattle.image_maker.specs.PlainImage.{START}

-- the file is an image that begins at 0x10000, where its text stands: these words
pub record HoldsWords (words file : List ℕ) : Type 0 where
  pub image : image_of file ≡ Ok (contents file)
  pub entry : (contents file).entry ≡ START
  pub text : (contents file).text ≡ record { from = START; to = START + 4 * length words } ∷ []
  pub keyed : (contents file).keyed_segment ≡ None
  pub each : (k : ℕ) → k < length words → text_word (contents file) (START + 4 * k) ≡ Some (slice_index words k)
