-- What a map says.
use Rattle.std.specs.Prelude.{◌-◌, ℕ, List, [], ◌∷◌, Result, Ok, codes, map}
use Rattle.base_memory.specs.Gives.{◌>>=◌}
use Rattle.toml.specs.Data.{Members}
use Rattle.model_line.specs.declared.line.Line.{Line}
use Rattle.model_line.specs.declared.script.Kind.TheVariants.{Internal, External}
use Rattle.model_line.specs.declared.script.Kind.{Kind}
use Rattle.file_document.specs.Keys.{document_of}
use Rattle.file_document.specs.declared.fault.DocumentFault.{DocumentFault}
use Rattle.file_records.specs.declared.map.map.Map.{Map}
use Rattle.file_document.specs.Keys.{opened, all_known, number_at, text_at, array_at, counted}
use Rattle.file_records.specs.{map.Instants.instant_of, map.Instants.instant_in}
use Rattle.file_document.specs.Paths.{under}
use Rattle.file_document.specs.Words.{kind_of, plain_name}
use Rattle.file_records.specs.map.Recorders.{RecorderValues, recorder_values, recorders_in}

-- A map: the script that the records come to, and the recorders.
pub record MapValues : Type 0 where
  pub script : List ℕ
  pub kind : Kind
  pub deadline : ℕ
  pub recorders : List RecorderValues

abbrev pub map_values : Map → MapValues
map_values m = record {
  script = m.script;
  kind = m.kind;
  deadline = m.deadline;
  recorders = map recorder_values m.recorders.items;
}

unfoldable pub kind_at : Members → Result Kind DocumentFault
kind_at top = do
  text ← text_at [] (codes "kind") top
  kind_of (under [] (codes "kind")) text

-- the keys at the top; an external fault has no deadline
abbrev pub top_keys : Kind → List (List ℕ)
top_keys Internal =
    codes "version" ∷ codes "script" ∷ codes "kind" ∷ codes "deadline" ∷ codes "start"
    ∷ codes "recorder" ∷ []
top_keys External =
    codes "version" ∷ codes "script" ∷ codes "kind" ∷ codes "start" ∷ codes "recorder" ∷ []

unfoldable pub script_at : Members → Result (List ℕ) DocumentFault
script_at top = do
  text ← text_at [] (codes "script") top
  plain_name (under [] (codes "script")) text

-- a tick below the horizon
abbrev pub deadline_at : Line → Kind → Members → Result ℕ DocumentFault
deadline_at line Internal top = number_at [] (codes "deadline") 0 (line.horizon - 1) top
deadline_at line External top = Ok 0

-- the instant of tick 0
unfoldable pub start_at : Members → Result ℕ DocumentFault
start_at top = do
  text ← text_at [] (codes "start") top
  instant_in (under [] (codes "start")) (instant_of text)

-- 1 to 8 recorders
unfoldable pub recorders_of : Line → ℕ → Members → Result (List RecorderValues) DocumentFault
recorders_of line start top = do
  all ← array_at [] (codes "recorder") top
  ds ← counted (under [] (codes "recorder")) 1 8 all
  recorders_in line start (under [] (codes "recorder")) 0 ds []

-- the map that a document's table says
unfoldable pub map_in : Line → Members → Result MapValues DocumentFault
map_in line top = do
  _ ← number_at [] (codes "version") 1 1 top
  kind ← kind_at top
  _ ← all_known [] (top_keys kind) top
  script ← script_at top
  deadline ← deadline_at line kind top
  start ← start_at top
  recorders ← recorders_of line start top
  Ok (record { script = script; kind = kind; deadline = deadline; recorders = recorders })

-- what these bytes say
unfoldable pub map_of : Line → List ℕ → Result MapValues DocumentFault
map_of line bytes = do
  top ← opened (document_of bytes)
  map_in line top
