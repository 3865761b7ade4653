-- The files that go with a made program, byte for byte.
use Rattle.std.specs.Prelude.{codes, ℕ, zero, suc, ◌+◌, ◌*◌, ◌%◌, nat_lt, slice_index, List, [], ◌∷◌, ◌++◌, length, if◌then◌else◌}
use Rattle.std.specs.Fmt.{decimal}
use Rattle.image_maker.specs.Drawing.{drawn, after_draws}

-- ---- the machine file

-- its costs and levels
abbrev pub machine_rest : List ℕ
machine_rest =
    codes "steps = 10000000\nmin_gain = 20\nswitch_time = 10\nswitch_energy = 20\n\n[cost]\nalu = 1\nload = 2\nstore = 1\ntaken = 2\nuntaken = 1\njump = 2\nmul = 3\ndiv = 10\necall = 5\nfence = 1\n\n"
    ++ codes "[[level]]\nperiod = 4\nenergy = 1\n[[level]]\nperiod = 2\nenergy = 3\n[[level]]\nperiod = 1\nenergy = 8\n"

abbrev pub machine_text : ℕ → List ℕ
machine_text size = codes "version = 1\ndeadline = " ++ decimal (500 * size + 200) ++ 10 ∷ machine_rest

-- ---- the loop file

unfoldable pub header_line : ℕ → List ℕ
header_line header = codes "header = " ++ decimal header ++ codes "\n"

-- the loop has three instructions
unfoldable pub ranges_line : ℕ → List ℕ
ranges_line header = codes "ranges = [[" ++ decimal header ++ codes ", " ++ decimal (header + 12) ++ codes "]]\n"

-- the first 509 loops are counted
unfoldable pub counted_line : ℕ → List ℕ
counted_line c = codes "counted = " ++ (if nat_lt c 509 then codes "true" else codes "false") ++ codes "\n"

-- the table of loop c, from 0, with this header
abbrev pub loop_table : ℕ → ℕ → List ℕ
loop_table c header = codes "[[loop]]\n" ++ header_line header ++ ranges_line header ++ codes "bound = 14\n" ++ counted_line c

-- the tables of the first n loops
abbrev pub made_loop_tables : List ℕ → ℕ → List ℕ
made_loop_tables headers zero = []
made_loop_tables headers (suc n) = made_loop_tables headers n ++ loop_table n (slice_index headers n)

abbrev pub loops_text : List ℕ → List ℕ
loops_text headers = codes "version = 1\n" ++ made_loop_tables headers (length headers)

-- ---- the input

-- the bytes of so many draws from a state on
unfoldable pub drawn_bytes : ℕ → ℕ → List ℕ
drawn_bytes x zero = []
drawn_bytes x (suc n) = drawn_bytes x n ++ drawn (after_draws x n) % 256 ∷ []
