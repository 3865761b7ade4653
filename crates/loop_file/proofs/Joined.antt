-- Two parts of a list of ranges.
use Rattle.std.proofs.Common.{List, ◌++◌, Option, Some, None, Result, Ok, Err}
use Rattle.scale_base.specs.declared.ranges.Range.{Range}
use Rattle.loop_file.specs.declared.address.Fault.{Fault}
use Rattle.loop_file.specs.Addresses.{worse}

abbrev pub so_far : Option Fault → List Range → Result (List Range) Fault
so_far None rs = Ok rs
so_far (Some f) rs = Err f

abbrev pub joined : Result (List Range) Fault → Result (List Range) Fault → Result (List Range) Fault
joined (Ok xs) (Ok ys) = Ok (xs ++ ys)
joined (Ok xs) (Err g) = Err g
joined (Err f) (Ok ys) = Err f
joined (Err f) (Err g) = Err (worse f g)
