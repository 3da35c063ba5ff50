-- The names of terminals, parameters and scripts by their numbers, none where there is nothing of
-- that number; the words of an element, of a kind of fault, and of a scheme.
use Rattle.std.specs.Prelude.{ℕ, List, [], map, get_or, codes}
use Rattle.model_line.specs.declared.script.Element.TheVariants.{Z1, Z2, Rv, Uv, Cur}
use Rattle.model_line.specs.declared.script.Kind.{Kind}
use Rattle.model_line.specs.declared.script.Kind.TheVariants.{Internal, External}
use Rattle.model_line.specs.declared.line.Scheme.{Scheme}
use Rattle.model_line.specs.declared.line.Scheme.TheVariants as scheme
use Rattle.model_line.specs.{declared.line.Line.Line, declared.script.Element.Element}
use Rattle.model_line.specs.{declared.script.Script.Script, ParamNames.name_at}

abbrev pub terminal_name : Line → ℕ → List ℕ
terminal_name line k = name_at line.terminals.items k

abbrev pub parameter_name : Line → ℕ → List ℕ
parameter_name line i = get_or (map (λ param. param.name) line.params.items) i []

abbrev pub script_name : List Script → ℕ → List ℕ
script_name scripts s = get_or (map (λ script. script.name) scripts) s []

abbrev pub element_text : Element → List ℕ
element_text Z1 = codes "z1"
element_text Z2 = codes "z2"
element_text Rv = codes "rv"
element_text Uv = codes "uv"
element_text Cur = codes "cur"

abbrev pub kind_text : Kind → List ℕ
kind_text Internal = codes "internal"
kind_text External = codes "external"

abbrev pub scheme_initials : Scheme → List ℕ
scheme_initials scheme.Pott = codes "POTT"
scheme_initials scheme.Putt = codes "PUTT"
scheme_initials scheme.Dcb = codes "DCB"
scheme_initials scheme.Dcub = codes "DCUB"
scheme_initials scheme.Dtt = codes "DTT"
