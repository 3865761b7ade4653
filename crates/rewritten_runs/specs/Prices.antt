-- What a run of an image costs.
use Rattle.std.specs.Prelude.{ℕ, List, length}
use Rattle.scale_base.specs.Image.{Image}
use Rattle.scale_base.specs.Run.{run_of, starting_level}
use Rattle.power_model.specs.Numbers.{PowerModel, RunPrice}
use Rattle.power_model.specs.Price.{price}

-- what the first n steps of an image cost
abbrev pub price_of : PowerModel → Image → List ℕ → ℕ → RunPrice
price_of power image input n = price power (starting_level (length power.levels) image.keyed_segment)
    (run_of image (length power.levels) input n).steps
