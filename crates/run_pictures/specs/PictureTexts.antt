-- The picture of runs as an SVG image (W3C, Scalable Vector Graphics 1.1), byte for byte, and the lines that are printed. Lengths are tenths of a pixel, numbers are
-- decimal.
use Rattle.std.specs.Prelude.{codes, ℕ, ◌+◌, ◌-◌, ◌*◌, ◌/◌, ◌==◌, ◌&&◌, not, nat_lt, nat_le, Bool, cond, List, [], ◌∷◌, ◌++◌, length, flat_map, string_bytes, Option, Some, None, option_map, unwrap_or}
use Rattle.std.specs.List.{range_with_len, last_or, list_all}
use Rattle.std.specs.Fmt.{decimal}
use Rattle.scale_base.specs.declared.endings.End.{End}
use Rattle.scale_base.specs.declared.endings.End.TheVariants.{Exited, Trapped, OutOfSteps}
use Rattle.power_model.specs.declared.power.Level.{Level}
use Rattle.power_model.specs.Levels.{level}
use Rattle.power_model.specs.Numbers.{RunPrice}
use Rattle.power_model.specs.declared.report.RunReport.{RunReport}
use Rattle.scale_report.specs.Texts.{end_words, numbered_lines}
use Rattle.run_stretches.specs.declared.bars.BarEnd.{BarEnd}
use Rattle.run_stretches.specs.Stretches.{no_end}
use Rattle.run_pictures.specs.declared.axes.Axis.{Axis}
use Rattle.run_pictures.specs.declared.picture.PictureRun.{PictureRun}
use Rattle.run_pictures.specs.declared.picture.RunPicture.{RunPicture}
use Rattle.run_pictures.specs.Places.{place, tick_step, tick_number, unit_exponent, axis_of, height_of, level_height, top_level, shade_of, row_top, row_base}

-- ---- names and endings

-- A name as the text of an XML element (W3C, Extensible Markup Language 1.0, 2.2 and 2.4). What stands for markup is escaped, and a control character, which no such
-- text may have, is a question mark. In a name with any of these a byte that isn't one of ASCII is a question mark, too; others stand as they are.
abbrev pub is_plain : ℕ → Bool
is_plain b = not (b == 38) && not (b == 60) && not (b == 62) && nat_le 32 b

abbrev pub escaped_byte : ℕ → List ℕ
escaped_byte b =
    cond (b == 38) (codes "&amp;") (cond (b == 60) (codes "&lt;") (cond (b == 62) (codes "&gt;") (cond (nat_le 32 b
    && nat_lt b 127) (b ∷ []) (codes "?"))))

unfoldable pub escaped : List ℕ → List ℕ
escaped name = cond (list_all is_plain name) name (flat_map escaped_byte name)

abbrev pub end_phrase : End → List ℕ
end_phrase (Exited status) = end_words (Exited status)
end_phrase (Trapped trap) = end_words (Trapped trap)
end_phrase OutOfSteps = codes "out of steps"

-- what is drawn at the end of a run: a line, with a cross on it where it trapped, and an arrow where it would go on
abbrev pub mark_path : End → List ℕ
mark_path (Exited status) = codes "M0 0V-500"
mark_path (Trapped trap) = codes "M0 0V-500M-60 -310L60 -190M60 -310L-60 -190"
mark_path OutOfSteps = codes "M0 0V-500M0 -250H130M70 -310L130 -250L70 -190"

-- the colours of shades, from light to dark
abbrev pub colour : ℕ → List ℕ
colour shade =
    cond (shade == 0) (codes "#abcbe5")
    (cond (shade == 1) (codes "#8fbadc")
    (cond (shade == 2) (codes "#73a8d1")
    (cond (shade == 3) (codes "#5895c5")
    (cond (shade == 4) (codes "#3f81b5") (cond (shade == 5) (codes "#2a6ca3") (cond (shade == 6) (codes "#18568d") (codes "#0a4072")))))))

-- ---- bars

-- how many stretches a bar stands for that begins where another ends, and what it takes
abbrev pub stretches_in : (begin bar : BarEnd) → ℕ
stretches_in begin bar = bar.stretches - begin.stretches

abbrev pub time_in : (begin bar : BarEnd) → ℕ
time_in begin bar = bar.time - begin.time

abbrev pub energy_in : (begin bar : BarEnd) → ℕ
energy_in begin bar = bar.energy - begin.energy

-- A bar is merged exactly where it stands for several stretches.
abbrev pub is_merged : (begin bar : BarEnd) → Bool
is_merged begin bar = nat_lt 1 (stretches_in begin bar)

abbrev pub bar_words : (begin bar : BarEnd) → List ℕ
bar_words begin bar =
    cond (is_merged begin bar) (decimal (stretches_in begin bar) ++ codes " stretches") (codes "level " ++ decimal bar.level)

-- A bar of one stretch is as high as its level, in its shade. A merged one is as high as its energy per time, and hatched.
abbrev pub bar_height : List Level → (begin bar : BarEnd) → ℕ
bar_height levels begin bar =
    cond (is_merged begin bar) (height_of (top_level levels) (energy_in begin bar) (time_in begin bar)) (level_height levels bar.level)

abbrev pub bar_fill : List Level → (begin bar : BarEnd) → List ℕ
bar_fill levels begin bar = cond (is_merged begin bar) (codes "url(#merged)") (colour (shade_of (length levels) bar.level))

-- a rectangle that tells what it stands for
unfoldable pub rectangle_place : (x y width height : ℕ) → List ℕ
rectangle_place x y width height =
    codes "<rect x='" ++ decimal x ++ codes "' y='" ++ decimal y ++ codes "' width='" ++ decimal width ++ codes "' height='"
    ++ decimal height ++ codes "'"

unfoldable pub rectangle_words : (fill words : List ℕ) → List ℕ
rectangle_words fill words = codes " fill='" ++ fill ++ codes "'><title>" ++ words ++ codes "</title></rect>\n"

unfoldable pub rectangle : (x y width height : ℕ) (fill words : List ℕ) → List ℕ
rectangle x y width height fill words = rectangle_place x y width height ++ rectangle_words fill words

unfoldable pub told : (begin bar : BarEnd) → List ℕ
told begin bar = bar_words begin bar ++ codes ", time " ++ decimal (time_in begin bar) ++ codes ", energy " ++ decimal (energy_in begin bar)

-- A bar from the place of its begin to that of its end, on a base.
unfoldable pub bar_rect : Axis → List Level → ℕ → (begin bar : BarEnd) → List ℕ
bar_rect axis levels base begin bar =
    let x = place axis.end begin.time in
    let height = bar_height levels begin bar in
    rectangle x (base - height) (place axis.end bar.time - x) height (bar_fill levels begin bar) (told begin bar)

-- the bars of a run, each from where the one before it ends
unfoldable pub bar_rects : Axis → List Level → ℕ → BarEnd → List BarEnd → List ℕ
bar_rects axis levels base begin [] = []
bar_rects axis levels base begin (bar ∷ bars) = bar_rect axis levels base begin bar ++ bar_rects axis levels base bar bars

-- how many stretches are merged, and into how many bars
abbrev pub merged_in : (begin bar : BarEnd) → ℕ
merged_in begin bar = cond (is_merged begin bar) (stretches_in begin bar) 0

abbrev pub hatched_in : (begin bar : BarEnd) → ℕ
hatched_in begin bar = cond (is_merged begin bar) 1 0

unfoldable pub merged_from : BarEnd → List BarEnd → ℕ
merged_from begin [] = 0
merged_from begin (bar ∷ bars) = merged_in begin bar + merged_from bar bars

unfoldable pub hatched_from : BarEnd → List BarEnd → ℕ
hatched_from begin [] = 0
hatched_from begin (bar ∷ bars) = hatched_in begin bar + hatched_from bar bars

abbrev pub merged_stretches : List BarEnd → ℕ
merged_stretches bars = merged_from no_end bars

abbrev pub hatched_bars : List BarEnd → ℕ
hatched_bars bars = hatched_from no_end bars

abbrev pub all_stretches : List BarEnd → ℕ
all_stretches bars = unwrap_or (option_map (λ bar. bar.stretches) (last_or None bars)) 0

-- ---- the row of a run

-- the number of a run, from 1 on, and the names of its files
unfoldable pub name_head : (y number : ℕ) → List ℕ
name_head y number =
    codes "<svg x='240' y='" ++ decimal y ++ codes "' width='7700' height='190'><text y='140'><tspan font-weight='bold'>run "
    ++ decimal number ++ codes "</tspan>  "

abbrev pub name_text : ℕ → PictureRun → List ℕ
name_text k run =
    name_head (row_top k - 20) (k + 1) ++ escaped (string_bytes run.image_name) ++ codes " with input "
    ++ escaped (string_bytes run.input_name) ++ codes "</text></svg>\n"

-- by how much a run is late
unfoldable pub late_line : ℕ → ℕ → List ℕ
late_line y by =
    codes "<text x='9360' y='" ++ decimal y ++ codes "' text-anchor='end' font-weight='bold' fill='#a84300'>late by " ++ decimal by
    ++ codes "</text>\n"

abbrev pub late_text : (k deadline time : ℕ) → List ℕ
late_text k deadline time = cond (nat_lt deadline time) (late_line (row_top k + 120) (time - deadline)) []

-- a band with a line at each tick
unfoldable pub grid_line : (x y : ℕ) → List ℕ
grid_line x y = codes "<path d='M" ++ decimal x ++ codes " " ++ decimal y ++ codes "v500' stroke='#d3dae3' stroke-width='8'/>\n"

unfoldable pub band : ℕ → List ℕ
band y = codes "<rect x='240' y='" ++ decimal y ++ codes "' width='9120' height='500' fill='#f5f7fa'/>\n"

-- the place of a tick, and how many there are
abbrev pub tick_place : Axis → ℕ → ℕ
tick_place axis j = place axis.end (j * tick_step axis.tick)

abbrev pub ticks : Axis → ℕ
ticks axis = axis.end / tick_step axis.tick + 1

abbrev pub grid_text : Axis → ℕ → List ℕ
grid_text axis y = flat_map (λ j. grid_line (tick_place axis j) y) (range_with_len 0 (ticks axis))

abbrev pub band_text : Axis → ℕ → List ℕ
band_text axis y = band y ++ grid_text axis y

abbrev pub bars_text : Axis → List Level → ℕ → List BarEnd → List ℕ
bars_text axis levels base bars = codes "<g shape-rendering='crispEdges'>\n" ++ bar_rects axis levels base no_end bars ++ codes "</g>\n"

-- the base, the line of the deadline, and the end of the run
unfoldable pub base_line : ℕ → List ℕ
base_line y = codes "<path d='M240 " ++ decimal y ++ codes "H9360' stroke='#52606d' stroke-width='12'/>\n"

unfoldable pub deadline_line : (x top bottom : ℕ) → List ℕ
deadline_line x top bottom =
    codes "<path d='M" ++ decimal x ++ codes " " ++ decimal top ++ codes "V" ++ decimal bottom
    ++ codes "' stroke='#d55e00' stroke-width='24'/>\n"

unfoldable pub end_mark : (x y : ℕ) (mark : List ℕ) → List ℕ
end_mark x y mark =
    codes "<path transform='translate(" ++ decimal x ++ codes " " ++ decimal y ++ codes ")' d='" ++ mark
    ++ codes "' fill='none' stroke='#1f2933' stroke-width='20'/>\n"

abbrev pub frame_text : Axis → ℕ → RunReport → List ℕ
frame_text axis base report =
    base_line base
    ++ deadline_line (place axis.end axis.deadline) (base - 540) (base + 40)
    ++ end_mark (place axis.end report.meter.time) base (mark_path report.end)

-- how a run ended, and its numbers
unfoldable pub numbers_line : ℕ → End → RunPrice → List ℕ
numbers_line y end paid =
    codes "<text y='" ++ decimal y ++ codes "'><tspan x='240'>" ++ end_phrase end ++ codes "</tspan><tspan x='2800'>cycles "
    ++ decimal paid.cycles
    ++ codes "</tspan><tspan x='4500'>time " ++ decimal paid.time ++ codes "</tspan><tspan x='6200'>energy " ++ decimal paid.energy
    ++ codes "</tspan><tspan x='8000'>switches " ++ decimal paid.switches ++ codes "</tspan></text>\n"

-- which stretches are merged, if any are
unfoldable pub note_line : (y merged all hatched : ℕ) → List ℕ
note_line y merged all hatched =
    codes "<text x='240' y='" ++ decimal y ++ codes "' fill='#52606d'>hatched: " ++ decimal merged ++ codes " of " ++ decimal all
    ++ codes " stretches, merged into "
    ++ decimal hatched ++ codes " bars</text>\n"

abbrev pub note_text : ℕ → List BarEnd → List ℕ
note_text y bars = cond (merged_stretches bars == 0) [] (note_line y (merged_stretches bars) (all_stretches bars) (hatched_bars bars))

-- the row of a run: its name, and by how much it is late; its band, its bars, the line of the deadline and its end; and its numbers
unfoldable pub row_head : Axis → ℕ → PictureRun → List ℕ
row_head axis k run = name_text k run ++ late_text k axis.deadline run.report.meter.time

unfoldable pub row_chart : Axis → List Level → ℕ → PictureRun → List ℕ
row_chart axis levels k run =
    band_text axis (row_top k + 190) ++ bars_text axis levels (row_base k) run.bars.items ++ frame_text axis (row_base k) run.report

unfoldable pub row_numbers : ℕ → PictureRun → List ℕ
row_numbers k run = numbers_line (row_base k + 170) run.report.end run.report.meter ++ note_text (row_base k + 320) run.bars.items

unfoldable pub row_text : Axis → List Level → ℕ → PictureRun → List ℕ
row_text axis levels k run = row_head axis k run ++ row_chart axis levels k run ++ row_numbers k run

-- ---- the whole

unfoldable pub head_line : (pixels height : ℕ) → List ℕ
head_line pixels height =
    codes "<svg xmlns='http://www.w3.org/2000/svg' width='960' height='" ++ decimal pixels ++ codes "' viewBox='0 0 9600 " ++ decimal height
    ++ codes "' font-family='Helvetica, Arial, sans-serif' font-size='120' fill='#1f2933'>\n"

-- the title, and the pattern of merged bars
unfoldable pub pattern_text : List ℕ
pattern_text =
    codes "<title>Runs by level over time</title>\n<defs><pattern id='merged' width='36' height='36' patternUnits='userSpaceOnUse' patternTransform='rotate(45)'><rect width='36' height='36' fill='#dfe5ec'/><rect width='14' height='36' fill='#5f6c7b'/></pattern></defs>\n"

-- a ground of its own, so that it reads on any page
unfoldable pub ground : ℕ → List ℕ
ground height = codes "<rect width='9600' height='" ++ decimal height ++ codes "' fill='#ffffff'/>\n"

-- what stands over the line of the deadline, on the side where there is more room
abbrev pub anchor_at : ℕ → List ℕ
anchor_at x = cond (nat_lt x 4800) (codes "start") (codes "end")

unfoldable pub deadline_label : (x deadline : ℕ) → List ℕ
deadline_label x deadline =
    codes "<text x='" ++ decimal x ++ codes "' y='260' text-anchor='" ++ anchor_at x ++ codes "' fill='#a84300'>deadline "
    ++ decimal deadline ++ codes "</text>\n"

abbrev pub head_text : Axis → ℕ → List ℕ
head_text axis height = head_line (height / 10) height ++ pattern_text ++ ground height ++ deadline_label (place axis.end axis.deadline)
    axis.deadline

-- a tick with its number
unfoldable pub tick_mark : (x y : ℕ) → List ℕ
tick_mark x y = codes "<path d='M" ++ decimal x ++ codes " " ++ decimal y ++ codes "v60' stroke='#52606d' stroke-width='12'/>\n"

unfoldable pub tick_label : (x y number : ℕ) → List ℕ
tick_label x y number =
    codes "<text x='" ++ decimal x ++ codes "' y='" ++ decimal y ++ codes "' text-anchor='middle'>" ++ decimal number ++ codes "</text>\n"

abbrev pub tick_text : Axis → ℕ → ℕ → List ℕ
tick_text axis y j = tick_mark (tick_place axis j) y ++ tick_label (tick_place axis j) (y + 190) (tick_number axis.tick j)

-- the unit of the axis
unfoldable pub plain_unit : ℕ → List ℕ
plain_unit y = codes "<text x='4800' y='" ++ decimal y ++ codes "' text-anchor='middle'>time in time units</text>\n"

unfoldable pub power_unit : (y exponent : ℕ) → List ℕ
power_unit y exponent =
    codes "<text x='4800' y='" ++ decimal y ++ codes "' text-anchor='middle'>time in 10<tspan dy='-50' font-size='90'>" ++ decimal exponent
    ++ codes "</tspan><tspan dx='40' dy='50'>time units</tspan></text>\n"

abbrev pub unit_text : (y exponent : ℕ) → List ℕ
unit_text y exponent = cond (exponent == 0) (plain_unit y) (power_unit y exponent)

abbrev pub ticks_text : Axis → ℕ → List ℕ
ticks_text axis y = flat_map (tick_text axis y) (range_with_len 0 (ticks axis))

abbrev pub axis_text : Axis → ℕ → List ℕ
axis_text axis y = base_line y ++ ticks_text axis y ++ unit_text (y + 370) (unit_exponent axis.tick)

-- a level: its shade and its height, and the time and the energy of its cycle
unfoldable pub level_bar : (x y height : ℕ) (fill : List ℕ) → List ℕ
level_bar x y height fill =
    codes "<rect x='" ++ decimal x ++ codes "' y='" ++ decimal (y - height) ++ codes "' width='200' height='" ++ decimal height
    ++ codes "' fill='" ++ fill ++ codes "'/>\n"

unfoldable pub level_words : (x y i period energy : ℕ) → List ℕ
level_words x y i period energy =
    codes "<text y='" ++ decimal (y - 280) ++ codes "'><tspan x='" ++ decimal x ++ codes "' font-weight='bold'>level " ++ decimal i
    ++ codes "</tspan><tspan x='" ++ decimal x ++ codes "' dy='140'>time " ++ decimal period ++ codes "</tspan><tspan x='" ++ decimal x
    ++ codes "' dy='140'>energy "
    ++ decimal energy ++ codes "</tspan></text>\n"

abbrev pub level_x : ℕ → ℕ
level_x i = 240 + 1140 * i

abbrev pub level_text : List Level → ℕ → ℕ → List ℕ
level_text levels y i =
    level_bar (level_x i) y (level_height levels i) (colour (shade_of (length levels) i)) ++ level_words (level_x i + 260) y i
    (level levels i).period (level levels i).energy

unfoldable pub legend_head : ℕ → List ℕ
legend_head y =
    codes "<text x='240' y='" ++ decimal y
    ++ codes "' fill='#52606d'>Levels with the time and the energy of a cycle, in time units and energy units. Height is energy per time, so area is energy.</text>\n"

abbrev pub levels_text : List Level → ℕ → List ℕ
levels_text levels y = flat_map (level_text levels y) (range_with_len 0 (length levels))

abbrev pub legend_text : List Level → ℕ → List ℕ
legend_text levels y = legend_head y ++ levels_text levels (y + 700)

-- the picture: a row for each run, the axis of time under them, and the levels
unfoldable pub svg_on : Axis → RunPicture → List ℕ
svg_on axis picture =
    let levels = picture.power.levels in
    let bottom = row_top (length picture.runs.items) in
    head_text axis (bottom + 1500)
    ++ numbered_lines (row_text axis levels) 0 picture.runs.items
    ++ axis_text axis bottom
    ++ legend_text levels (bottom + 640)
    ++ codes "</svg>\n"

abbrev pub picture_svg : RunPicture → List ℕ
picture_svg picture = svg_on (axis_of picture) picture

-- ---- the lines of standard output

-- a run: its number, how it ended, its numbers, and how many of its stretches are drawn merged
unfoldable pub run_line_head : ℕ → End → RunPrice → List ℕ
run_line_head number end paid =
    codes "run " ++ decimal number ++ codes " " ++ end_words end ++ codes " cycles " ++ decimal paid.cycles ++ codes " time "
    ++ decimal paid.time

unfoldable pub run_line_rest : RunPrice → ℕ → List ℕ
run_line_rest paid merged =
    codes " energy " ++ decimal paid.energy ++ codes " switches " ++ decimal paid.switches ++ codes " merged " ++ decimal merged
    ++ codes "\n"

unfoldable pub run_line : ℕ → PictureRun → List ℕ
run_line number run =
    run_line_head number run.report.end run.report.meter ++ run_line_rest run.report.meter (merged_stretches run.bars.items)

abbrev pub picture_text : RunPicture → List ℕ
picture_text picture = numbered_lines run_line 1 picture.runs.items
