-- What is told of a trip that may be set: where it may be for the longest, and what comes on then.
use Rattle.std.specs.Prelude.{◌++◌, ◌&&◌, ℕ, zero, suc, Bool, not, List, [], ◌∷◌, codes}
use Rattle.std.specs.Prelude.{Option, None, Some, get_or, nat_le, if◌then◌else◌}
use Rattle.std.specs.List.{list_all, position_or_len}
use Rattle.model_line.specs.{declared.line.Line.Line, declared.script.Script.Script}
use Rattle.model_logic.specs.Tree.{Tree}
use Rattle.model_logic.specs.Histories.{PairHistory}
use Rattle.judge_races.specs.Lasting.{may_be}
use Rattle.judge_races.specs.declared.stretch.Stretch.{Stretch}
use Rattle.call_races.specs.Words.{operand_word}

-- for how many ticks a trip may be set without a break
abbrev pub ticks_of : Option Stretch → ℕ
ticks_of None = 0
ticks_of (Some stretch) = stretch.ticks

-- none of these is longer
abbrev pub is_longest : List (Option Stretch) → Option Stretch → Bool
is_longest trips trip = list_all (λ other. nat_le (ticks_of other) (ticks_of trip)) trips

-- of scripts, the place of the first of the longest, counted from 0
abbrev pub longest_place : List (Option Stretch) → ℕ
longest_place trips = position_or_len (is_longest trips) trips

abbrev pub longest_trip : List (Option Stretch) → Option Stretch
longest_trip trips = get_or trips (longest_place trips) None

-- it may be on at a tick, and may not at the one before
abbrev pub came_on : Line → Script → PairHistory → ℕ → Tree → Bool
came_on line script w zero x = may_be line script w x 0
came_on line script w (suc t) x = may_be line script w x (suc t) && not (may_be line script w x t)

-- the words of the operands that come on at a tick
abbrev pub came_words : Line → Script → PairHistory → ℕ → List ℕ → List Tree → List ℕ
came_words line script w t before [] = []
came_words line script w t before (x ∷ xs) =
    if came_on line script w t x
    then (before ++ operand_word line x) ++ came_words line script w t (codes ";") xs
    else came_words line script w t before xs

-- all of these may be on
abbrev pub are_on : Line → Script → PairHistory → ℕ → List Tree → Bool
are_on line script w t xs = list_all (λ x. may_be line script w x t) xs

-- the same of the first conjunction that may be on then
abbrev pub begin_words : Line → Script → PairHistory → ℕ → List (List Tree) → List ℕ
begin_words line script w t [] = []
begin_words line script w t (xs ∷ more) =
    if are_on line script w t xs then came_words line script w t [] xs
    else begin_words line script w t more
