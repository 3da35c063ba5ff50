-- The words of what a gate is called.
use Rattle.std.specs.Prelude.{◌++◌, ℕ, List, codes}
use Rattle.model_line.specs.declared.line.{Line.Line, Scheme.Scheme}
use Rattle.model_line.specs.declared.line.Scheme.TheVariants.{Pott, Putt, Dcb, Dcub, Dtt}
use Rattle.model_line.specs.declared.script.Element.{Element}
use Rattle.model_line.specs.declared.script.Element.TheVariants.{Z1, Z2, Rv, Uv, Cur}
use Rattle.model_line.specs.NamesByNumber.{terminal_name}
use Rattle.model_plain.specs.{declared.role.Role.Role, Roles.receiver, Roles.sender}
use Rattle.model_plain.specs.declared.role.Role.TheVariants.{Seen, Timed, Lost, Raw, Received}
use Rattle.model_plain.specs.declared.role.Role.TheVariants.{Window, Lockout, Guard, Coordination}
use Rattle.model_plain.specs.declared.role.Role.TheVariants.{Echo, Permission, AnyReceived}
use Rattle.call_why.specs.declared.part.Part.{Part}
use Rattle.call_why.specs.declared.part.Part.TheVariants.{Is, Trip, Key}

abbrev pub element_word : Element → List ℕ
element_word Z1 = codes "zone 1 of "
element_word Z2 = codes "zone 2 of "
element_word Rv = codes "the reverse element of "
element_word Uv = codes "the undervoltage element of "
element_word Cur = codes "the current of "

-- what a scheme calls what is sent, what of it is received, and of any other terminal
abbrev pub sent_word : Scheme → List ℕ
sent_word Pott = codes "the permission sent by "
sent_word Putt = codes "the permission sent by "
sent_word Dcb = codes "the block sent by "
sent_word Dcub = codes "the permission sent by "
sent_word Dtt = codes "the transfer trip sent by "

abbrev pub received_word : Scheme → List ℕ
received_word Pott = codes "the permission from "
received_word Putt = codes "the permission from "
received_word Dcb = codes "the block from "
received_word Dcub = codes "the permission from "
received_word Dtt = codes "the transfer trip from "

abbrev pub any_word : Scheme → List ℕ
any_word Pott = codes "a permission at "
any_word Putt = codes "a permission at "
any_word Dcb = codes "a block at "
any_word Dcub = codes "a permission at "
any_word Dtt = codes "a transfer trip at "

-- words and a terminal; words and the ends of a channel
abbrev pub of_one : Line → List ℕ → ℕ → List ℕ
of_one line words k = words ++ terminal_name line k

abbrev pub of_two : Line → List ℕ → ℕ → List ℕ → List ℕ
of_two line words c between =
    of_one line words (sender line c) ++ of_one line between (receiver line c)

unfoldable pub role_words : Line → Role → List ℕ
role_words line (Seen p) = of_one line (element_word p.element) p.terminal
role_words line (Timed p) = of_one line (element_word p.element) p.terminal
role_words line (Lost c) = of_two line (codes "the loss of the channel from ") c (codes " to ")
role_words line (Raw c) = of_two line (received_word line.scheme) c (codes " at ")
role_words line (Received c) = of_two line (received_word line.scheme) c (codes " at ")
role_words line (Window c) = of_two line (codes "the unblocking window for ") c (codes " at ")
role_words line (Lockout c) = of_two line (codes "the lockout of ") c (codes " at ")
role_words line (Guard k) = of_one line (codes "the reversal guard of ") k
role_words line (Coordination k) = of_one line (codes "the coordination time of ") k
role_words line (Echo k) = of_one line (codes "the echo of ") k
role_words line (Permission k) = of_one line (codes "the permission of all others at ") k
role_words line (AnyReceived k) = of_one line (any_word line.scheme) k

unfoldable pub part_words : Line → Part → List ℕ
part_words line (Is role) = role_words line role
part_words line (Trip k) = of_one line (codes "the trip of ") k
part_words line (Key k) = of_one line (sent_word line.scheme) k
