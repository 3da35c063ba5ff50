-- A copy's lists are the line's, so it keeps the line's laws.
use Rattle.std.proofs.Common.{◌≡◌, ◌≤◌, List, length, sym, subst}
use Rattle.std.specs.Prelude.{map, IsTrue}
use Rattle.model_line.specs.Terminals.{are_plain_names, NamesDiffer, flags_fit}
use Rattle.model_line.specs.Intervals.{leasts, greatests, AreIntervals, LeastDelaysFromOne}
use Rattle.model_line.specs.{declared.line.Line.Line, declared.line.Terminal.Terminal}
use Rattle.model_line.specs.{declared.line.Channel.Channel, declared.line.Param.Param}
use Rattle.model_line.specs.{Channels.AreChannels, Settings.line_settings, ParamNames.param_name}

module _
    (line : Line) (ts : List Terminal) (cs : List Channel) (ps : List Param)
    (e : ts ≡ line.terminals.items) (f : cs ≡ line.channels.items) (g : ps ≡ line.params.items)
  where
    pub two_or_three : (2 ≤ length ts) × (length ts ≤ 3)
    two_or_three =
        subst (λ l. (2 ≤ length l) × (length l ≤ 3)) (sym e) line.two_or_three

    pub plain_names : IsTrue (are_plain_names ts)
    plain_names = subst (λ l. IsTrue (are_plain_names l)) (sym e) line.plain_names

    pub names_once : NamesDiffer ts (length ts)
    names_once = subst (λ l. NamesDiffer l (length l)) (sym e) line.names_once

    pub flags_by_scheme : IsTrue (flags_fit line.scheme ts)
    flags_by_scheme = subst (λ l. IsTrue (flags_fit line.scheme l)) (sym e) line.flags_by_scheme

    pub pairs_once : AreChannels (length ts) cs
    pairs_once =
        subst (λ l. AreChannels (length l) cs) (sym e)
        (subst (AreChannels (length line.terminals.items)) (sym f) line.pairs_once)

    pub param_names :
        map (λ p. p.name) ps ≡ map (param_name ts cs) (line_settings line.scheme ts cs)
    param_names =
        subst (λ l. map (λ p. p.name) ps ≡ map (param_name l cs) (line_settings line.scheme l cs))
        (sym e)
        (subst
        (λ l. map (λ p. p.name) ps
        ≡ map (param_name line.terminals.items l)
        (line_settings line.scheme line.terminals.items l))
        (sym f)
        (subst
        (λ l. map (λ p. p.name) l
        ≡ map (param_name line.terminals.items line.channels.items)
        (line_settings line.scheme line.terminals.items line.channels.items))
        (sym g) line.param_names))

    pub ends_in_range : AreIntervals (leasts ps) (greatests ps)
    ends_in_range = subst (λ l. AreIntervals (leasts l) (greatests l)) (sym g) line.ends_in_range

    pub delays_from_one : LeastDelaysFromOne line.scheme ts cs (leasts ps)
    delays_from_one =
        subst (λ l. LeastDelaysFromOne line.scheme l cs (leasts ps)) (sym e)
        (subst (λ l. LeastDelaysFromOne line.scheme line.terminals.items l (leasts ps)) (sym f)
        (subst
        (λ l. LeastDelaysFromOne line.scheme line.terminals.items line.channels.items (leasts l))
        (sym g) line.delays_from_one))
