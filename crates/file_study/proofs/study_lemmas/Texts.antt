-- Names of channels are texts.
use Rattle.std.proofs.Common.{◌≡◌, ◌<◌, ℕ, zero, suc, true, List, [], ◌∷◌, length, get_or, arith}
use Rattle.std.proofs.lemmas.Str.{IsUtf8-append, IsUtf8-from_ascii}
use Rattle.std.proofs.lemmas.List.{get_or-map}
use Rattle.std.specs.Str.{IsAscii, IsUtf8}
use Rattle.std.proofs.Common.{subst, sym}
use Rattle.model_line.specs.{declared.line.Terminal.Terminal, declared.line.Channel.Channel}
use Rattle.model_line.specs.{Terminals.are_plain_names, ParamNames.name_at, ParamNames.pair_name}
use Rattle.model_line.specs.PlainNames.{is_plain_name}
use Rattle.model_line.specs.PlainTextLaws.{plain_text, passes}

arrow : IsUtf8 (62 ∷ [])
arrow = IsUtf8-from_ascii (62 ∷ []) ascii
  where
    ascii : IsAscii (62 ∷ [])
    ascii zero = omega arith
    ascii (suc i) = omega arith

-- the name of a terminal by its number
name_text : (ts : List Terminal) (k : ℕ) (d : Terminal) → k < length ts
    → are_plain_names ts ≡ true → IsUtf8 (name_at ts k)
name_text ts k d below plain =
    subst IsUtf8 (sym (get_or-map (λ (t : Terminal). t.name) ts k d [] below))
    (plain_text (get_or ts k d).name (passes (λ t. is_plain_name t.name) ts k d below plain))

pub channel_text : (ts : List Terminal) (c : Channel) (d : Terminal) → c.from < length ts
    → c.to < length ts → are_plain_names ts ≡ true → IsUtf8 (pair_name ts c)
channel_text ts c d from to plain =
    IsUtf8-append (name_at ts c.from) (62 ∷ name_at ts c.to) (name_text ts c.from d from plain)
    (IsUtf8-append (62 ∷ []) (name_at ts c.to) arrow (name_text ts c.to d to plain))
