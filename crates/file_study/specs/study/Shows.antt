-- What a stage of a fault shows.
use Rattle.std.specs.Prelude.{◌+◌, ◌++◌, ◌==◌, ℕ, Bool, List, [], ◌∷◌, Option, None, Some, Result}
use Rattle.std.specs.Prelude.{Ok, Err, codes, nat_lt, if◌then◌else◌}
use Rattle.std.specs.Str.{bytes_eq}
use Rattle.std.specs.List.{before_first, after_first, position_from, list_any}
use Rattle.base_text.specs.lines.Lines.{is_space}
use Rattle.toml.specs.Data.{Data, Items, no_items, item, Members, get_member}
use Rattle.model_line.specs.declared.script.Element.TheVariants.{Z1, Z2, Rv, Uv, Cur}
use Rattle.model_line.specs.{declared.script.Element.Element}
use Rattle.model_line.specs.declared.script.What.TheVariants as what
use Rattle.model_line.specs.declared.line.Terminal.{Terminal}
use Rattle.model_names.specs.NumbersByName.{has_name}
use Rattle.base_memory.specs.Gives.{◌>>=◌}
use Rattle.file_line.specs.Lines.{LineValues}
use Rattle.file_document.specs.declared.fault.DocumentFault.{DocumentFault}
use Rattle.file_document.specs.declared.fault.DocumentFault.TheVariants as fault
use Rattle.file_study.specs.declared.study.units.Units.{Units}
use Rattle.file_study.specs.declared.study.stage.Shown.{Shown}
use Rattle.file_document.specs.{Paths.under, Paths.numbered, Keys.text_in, Keys.array_or_none}
use Rattle.file_study.specs.{study.Moments.instant_of}

abbrev pub element_of : List ℕ → Option Element
element_of text =
    if bytes_eq text (codes "z1") then Some Z1
    else if bytes_eq text (codes "z2") then Some Z2
    else if bytes_eq text (codes "rv") then Some Rv
    else if bytes_eq text (codes "uv") then Some Uv
    else if bytes_eq text (codes "cur") then Some Cur
    else None

abbrev pub element_in : List ℕ → Option Element → Result Element DocumentFault
element_in path None = Err (fault.BadName path)
element_in path (Some element) = Ok element

-- behind an element: nothing, or `+` and how far into the stage it comes
abbrev pub shift_in : Bool → Units → List ℕ → List ℕ → Result ℕ DocumentFault
shift_in upward units path [] = Ok 0
shift_in upward units path (b ∷ text) =
    if b == 43 then instant_of upward units path text else Err (fault.BadName path)

-- how far into a stage an element comes is less than the stage lasts, with some value of its sweep;
-- else no place of the sweep shows it
abbrev pub within_stage : List ℕ → List ℕ → ℕ → Result ℕ DocumentFault
within_stage path lasts after =
    if list_any (λ ticks. nat_lt after ticks) lasts then Ok after else Err (fault.Range path)

-- an element at terminal k, as `z1` or `z1 +12 ms`, in a stage that lasts so long
unfoldable pub shown_in : Bool → Units → List ℕ → ℕ → List ℕ → Data → Result Shown DocumentFault
shown_in upward units lasts k path d = do
  text ← text_in path d
  element ← element_in path (element_of (before_first is_space text))
  shift ← shift_in upward units path (after_first is_space text)
  after ← within_stage path lasts shift
  Ok (record {
    what = what.Element (record { element = element; terminal = k });
    after = after;
  })

-- those of an array, from item i on, behind those that are there
unfoldable pub all_shown : Bool → Units → List ℕ → ℕ → List ℕ → ℕ → Items → List Shown
    → Result (List Shown) DocumentFault
all_shown upward units lasts k path i no_items done = Ok done
all_shown upward units lasts k path i (item d ds) done = do
  shown ← shown_in upward units lasts k (numbered path i) d
  all_shown upward units lasts k path (i + 1) ds (done ++ shown ∷ [])

-- what terminal k sees, under its name
unfoldable pub terminal_shows : Bool → Units → List ℕ → List ℕ → Members → ℕ → Terminal
    → List Shown → Result (List Shown) DocumentFault
terminal_shows upward units lasts path ms k t done = do
  ds ← array_or_none (under path t.name) (get_member t.name ms)
  all_shown upward units lasts k (under path t.name) 0 ds done

-- what the terminals from number k on see
unfoldable pub terminals_show : Bool → Units → List ℕ → List ℕ → Members → ℕ → List Terminal
    → List Shown → Result (List Shown) DocumentFault
terminals_show upward units lasts path ms k [] done = Ok done
terminals_show upward units lasts path ms k (t ∷ ts) done = do
  more ← terminal_shows upward units lasts path ms k t done
  terminals_show upward units lasts path ms (k + 1) ts more

-- the channel of this name, as `A>B`
abbrev pub channel_called : LineValues → List ℕ → Option ℕ
channel_called line name = position_from (has_name line.terminals name) 0 line.channels

-- a channel that is lost
abbrev pub channel_in : List ℕ → Option ℕ → Result Shown DocumentFault
channel_in path None = Err (fault.BadName path)
channel_in path (Some c) = Ok (record { what = what.Loss c; after = 0 })

unfoldable pub lost_in : LineValues → List ℕ → Data → Result Shown DocumentFault
lost_in line path d = do
  text ← text_in path d
  channel_in path (channel_called line text)

-- those of an array, from item i on, behind what is there
unfoldable pub all_lost : LineValues → List ℕ → ℕ → Items → List Shown
    → Result (List Shown) DocumentFault
all_lost line path i no_items done = Ok done
all_lost line path i (item d ds) done = do
  lost ← lost_in line (numbered path i) d
  all_lost line path (i + 1) ds (done ++ lost ∷ [])

-- what a stage that lasts so long shows: what the terminals see, in the order of the line, and the
-- channels that are lost
unfoldable pub shows_of : Bool → Units → LineValues → List ℕ → List ℕ → Members
    → Result (List Shown) DocumentFault
shows_of upward units line lasts path ms = do
  seen ← terminals_show upward units lasts path ms 0 line.terminals []
  ds ← array_or_none (under path (codes "lost")) (get_member (codes "lost") ms)
  all_lost line (under path (codes "lost")) 0 ds seen
