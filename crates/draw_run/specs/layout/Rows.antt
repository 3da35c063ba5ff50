-- A row: its name, its base line and its bars, under a title that says all its stretches.
use Rattle.std.specs.Prelude.{◌++◌, ◌-◌, ℕ, List, [], ◌∷◌, codes}
use Rattle.std.specs.Prelude.{decimal, if◌then◌else◌}
use Rattle.std.specs.List.{flat_map}
use Rattle.model_line.specs.Channels.{from_of, to_of}
use Rattle.model_line.specs.declared.line.Line.{Line}
use Rattle.model_line.specs.NamesByNumber.{terminal_name, element_text}
use Rattle.run_signal.specs.declared.tern.Tern.{Tern}
use Rattle.run_signal.specs.declared.tern.Tern.TheVariants as tern
use Rattle.draw_run.specs.declared.diagram.{rows.Row.Row, stretch.Stretch.Stretch, trace.Trace.Trace}
use Rattle.draw_run.specs.declared.diagram.trace.Trace.TheVariants.{Seen, Lost, Logic, Key, Trip}
use Rattle.draw_run.specs.diagram.Drawn.{is_off}
use Rattle.draw_run.specs.declared.layout.scale.Scale.{Scale}
use Rattle.draw_run.specs.declared.layout.bar.Bar.{Bar}
use Rattle.draw_run.specs.declared.layout.bar.Bar.TheVariants as look
use Rattle.draw_shapes.specs.declared.class.Class.{Class}
use Rattle.draw_shapes.specs.declared.class.Class.TheVariants as class
use Rattle.draw_shapes.specs.Seen.{SeenFigure, SeenShape}
use Rattle.draw_shapes.specs.Seen as seen
use Rattle.model_plain.specs.declared.role.Role.{Role}
use Rattle.model_plain.specs.declared.role.Role.TheVariants as role
use Rattle.model_plain.specs.Roles.{receiver, sender}
use Rattle.draw_run.specs.layout.Scale.{place_of}

-- ---- its words

-- the name of a gate's row within its terminal
abbrev pub role_name : Line → Role → List ℕ
role_name of (role.Seen place) = codes "sees " ++ element_text place.element
role_name of (role.Timed place) = codes "timed " ++ element_text place.element
role_name of (role.Lost c) = codes "lost from " ++ terminal_name of (sender of c)
role_name of (role.Raw c) = codes "arrives from " ++ terminal_name of (sender of c)
role_name of (role.Received c) = codes "receives from " ++ terminal_name of (sender of c)
role_name of (role.Window c) = codes "window from " ++ terminal_name of (sender of c)
role_name of (role.Lockout c) = codes "lockout from " ++ terminal_name of (sender of c)
role_name of (role.Guard k) = codes "guard"
role_name of (role.Coordination k) = codes "coordination"
role_name of (role.Echo k) = codes "echo"
role_name of (role.Permission k) = codes "permission"
role_name of (role.AnyReceived k) = codes "receives"

-- the terminal of a role; a channel is one of the terminal that it leads to
abbrev pub role_home : Line → Role → ℕ
role_home of (role.Seen place) = place.terminal
role_home of (role.Timed place) = place.terminal
role_home of (role.Lost c) = receiver of c
role_home of (role.Raw c) = receiver of c
role_home of (role.Received c) = receiver of c
role_home of (role.Window c) = receiver of c
role_home of (role.Lockout c) = receiver of c
role_home of (role.Guard k) = k
role_home of (role.Coordination k) = k
role_home of (role.Echo k) = k
role_home of (role.Permission k) = k
role_home of (role.AnyReceived k) = k

-- the name of a row within its terminal
abbrev pub row_name : Line → Trace → List ℕ
row_name of (Seen place) = codes "sees " ++ element_text place.element
row_name of (Lost c) = codes "lost from " ++ terminal_name of (from_of of.channels.items c)
row_name of (Logic what gate) = role_name of what
row_name of (Key k) = codes "key"
row_name of (Trip k) = codes "trip"

-- the terminal of a row; a lost channel is one of the terminal that it leads to
abbrev pub terminal_of : Line → Trace → ℕ
terminal_of of (Seen place) = place.terminal
terminal_of of (Lost c) = to_of of.channels.items c
terminal_of of (Logic what gate) = role_home of what
terminal_of of (Key k) = k
terminal_of of (Trip k) = k

abbrev pub value_word : Tern → List ℕ
value_word tern.Zero = codes "off "
value_word tern.One = codes "on "
value_word tern.Unknown = codes "open "

-- `off 0 to 14`
abbrev pub stretch_said : Stretch → List ℕ
stretch_said s = value_word s.value ++ decimal s.from ++ codes " to " ++ decimal (s.to - 1)

-- all stretches, the first behind a colon, each other behind a comma
abbrev pub others_said : List Stretch → List ℕ
others_said rest = flat_map (λ s. codes ", " ++ stretch_said s) rest

abbrev pub stretches_said : List Stretch → List ℕ
stretches_said [] = []
stretches_said (s ∷ rest) = codes ": " ++ stretch_said s ++ others_said rest

-- the steps of its channel's delay, if there are any
abbrev pub other_marks_said : List ℕ → List ℕ
other_marks_said rest = flat_map (λ t. codes ", " ++ decimal t) rest

unfoldable pub first_mark_said : ℕ → List ℕ
first_mark_said t = codes "; channel delay changes at " ++ decimal t

abbrev pub marks_said : List ℕ → List ℕ
marks_said [] = []
marks_said (t ∷ rest) = first_mark_said t ++ other_marks_said rest

-- `A trip: off 0 to 14, open 15 to 18, on 19 to 119`
abbrev pub row_title : Line → Row → List ℕ
row_title of shown =
    terminal_name of (terminal_of of shown.trace) ++ codes " " ++ row_name of shown.trace
    ++ stretches_said shown.stretches.items ++ marks_said shown.marks.items

-- ---- its bars

-- how high the bars are
abbrev pub bar_height : Trace → ℕ
bar_height (Seen place) = 90
bar_height (Lost c) = 90
bar_height (Logic what gate) = 110
bar_height (Key k) = 160
bar_height (Trip k) = 160

-- how far a row goes above its base, with its marks
abbrev pub row_height : Trace → ℕ
row_height (Seen place) = 90
row_height (Lost c) = 90
row_height (Logic what gate) = 150
row_height (Key k) = 160
row_height (Trip k) = 160

-- how a bar looks: on is full, open is hatched
abbrev pub open_or : Bar → Bar → Tern → Bar
open_or hatched full tern.Zero = full
open_or hatched full tern.One = full
open_or hatched full tern.Unknown = hatched

abbrev pub bar_of : Trace → Tern → Bar
bar_of (Seen place) value = look.Seen
bar_of (Lost c) value = look.Seen
bar_of (Logic what gate) value = open_or look.LogicOpen look.LogicOn value
bar_of (Key k) value = open_or look.KeyOpen look.KeyOn value
bar_of (Trip k) value = open_or look.TripOpen look.TripOn value

abbrev pub class_of : Bar → Class
class_of look.Seen = class.Seen
class_of look.LogicOn = class.LogicOn
class_of look.LogicOpen = class.LogicOpen
class_of look.KeyOn = class.KeyOn
class_of look.KeyOpen = class.KeyOpen
class_of look.TripOn = class.TripOn
class_of look.TripOpen = class.TripOpen

abbrev pub bar_class : Trace → Tern → Class
bar_class trace value = class_of (bar_of trace value)

-- the bar of a stretch: from where its first tick begins to where its last one ends, its lower
-- edge on the base
abbrev pub bar : Scale → Trace → ℕ → Stretch → SeenFigure
bar scale trace base s =
    seen.rectangle (bar_class trace s.value) (place_of scale s.from) (base - bar_height trace)
    (place_of scale s.to - place_of scale s.from) (bar_height trace)

-- a bar for each stretch that is not off
abbrev pub bar_if_any : Scale → Trace → ℕ → Stretch → List SeenFigure
bar_if_any scale trace base s = if is_off s.value then [] else bar scale trace base s ∷ []

abbrev pub bars : Scale → Trace → ℕ → List Stretch → List SeenFigure
bars scale trace base stretches = flat_map (bar_if_any scale trace base) stretches

-- ---- its marks

-- the mark of a tick: a stroke through the bar where the tick begins
abbrev pub step_mark : Scale → ℕ → ℕ → List SeenFigure
step_mark scale base t =
    seen.rectangle class.Step (place_of scale t - 10) (base - 150) 20 150 ∷ []

abbrev pub step_marks : Scale → ℕ → List ℕ → List SeenFigure
step_marks scale base marks = flat_map (step_mark scale base) marks

-- ---- the whole row

-- its name, its base line, its bars, its marks
abbrev pub row_figures : Line → Scale → ℕ → Row → List SeenFigure
row_figures of scale base shown =
    seen.text class.End (scale.left - 100) (base - 10) (row_name of shown.trace)
    ∷ (seen.line class.Base scale.left base 7500 base
    ∷ bars scale shown.trace base shown.stretches.items
    ++ step_marks scale base shown.marks.items)

unfoldable pub row_shape : Line → Scale → ℕ → Row → SeenShape
row_shape of scale base shown =
    seen.titled (row_title of shown) (row_figures of scale base shown)
