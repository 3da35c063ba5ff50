-- What a call answers when nothing fails, and what it has then asked of the engine.
use Rattle.std.specs.Prelude.{◌≡◌, ⊤, ℕ, List, [], Option, None, Some}
use Rattle.call_engine.specs.Calls.{Calls}
use Rattle.call_pilot.specs.commands.Asked.{Asks}
use Rattle.call_pilot.specs.top.CallAnswers.{CallAnswers, done_with, refuses}
use Rattle.call_pilot.specs.top.Commands.{answer, asks}
use Rattle.call_files.specs.{Files.AllTold, Files.contents, Messages.message_of}
use Rattle.call_pilot.specs.top.Reading.{Reading}
use Rattle.call_pilot.specs.{top.Reading.over_files, top.Words.Command, top.Words.files_of, top.Words.files_named}
use Rattle.call_files.specs.declared.stop.Status.TheVariants as status
use Rattle.call_files.specs.declared.stop.Stop.TheVariants as stop

-- the answer of a command over what its files say, or the refusal of one
abbrev pub answer_by : Reading → CallAnswers
answer_by read s text message =
    read (λ why. refuses why s text message) (λ w. done_with (answer w) s text message)

-- what a command asks over what its files say
abbrev pub asks_by : Reading → Asks
asks_by read old new = read (λ why. ⊤) (λ w. asks w old new)

-- the answer to the command that the words are, over files that are all told
abbrev pub answers : Option Command → (List ℕ → Option (List ℕ)) → CallAnswers
answers None files s text message =
    (s ≡ status.Usage) × (text ≡ []) × (message ≡ message_of stop.Usage)
answers (Some command) files s text message =
    answer_by (over_files command (contents files (files_of command))) s text message

-- the store tells the bytes of each file that the words name
abbrev pub Told : Option Command → (List ℕ → Option (List ℕ)) → Type 0
Told command files = AllTold files (files_named command)

-- what has been asked once the command is done, over files that are all told
abbrev pub Asked : Option Command → (List ℕ → Option (List ℕ)) → Calls → Calls → Type 0
Asked None files old new = ⊤
Asked (Some command) files old new = AllTold files (files_of command)
    → asks_by (over_files command (contents files (files_of command))) old new
