-- Programs, part by part.
use Rattle.std.proofs.Common.{◌≡◌, ◌≤◌, ◌<◌, ◌+◌, ◌++◌, ℕ, List, [], ◌∷◌, refl, sym, ap, ◌∙◌, subst, arith}
use Rattle.std.specs.Prelude.{false, Result, Ok, Err, IfOk}
use Rattle.model_line.specs.{declared.line.Line.Line, Parameters.terminal_count}
use Rattle.model_logic.specs.Laws.{TreesNameTheLine}
use Rattle.model_logic.specs.Logic.{key_by, pilot_by, key_tree, set_tree, trip_tree}
use Rattle.model_logic.specs.{Names.Names, Tree.Tree, Tree.Const}
use Rattle.model_plain.specs.declared.formula.Formula.{Formula}
use Rattle.model_plain.specs.declared.formula.Formula.TheVariants as formula
use Rattle.model_plain.specs.Formulas.{tree_of, own_tree, trees_after, operations, operations_of}
use Rattle.model_plain.specs.Formulas.{AreNamed, IsProgramOf}
use Rattle.model_plain.specs.declared.formula.Program.{Program}
use Rattle.model_plain.specs.Parts.{AreProgramParts, IsClosed, StandsAlways, StandsOver, trip_over}
use Rattle.model_plain.proofs.Counts.{trip_few}

-- what a formula adds to its parts names no more than its tree
pub names_own : (line : Line) (parts : List Tree) (f : Formula) → Names line (tree_of parts f)
    → Names line (own_tree f)
unfolding Names
names_own line parts (formula.Part n) h = tt
names_own line parts (formula.Const v) h = tt
names_own line parts (formula.Seen p) h = h
names_own line parts (formula.Loss c) h = h
names_own line parts (formula.Raw c) h = h
names_own line parts (formula.Not' p x) h = names_own line parts x h
names_own line parts (formula.And' p x q y) h =
    (names_own line parts x h.0, names_own line parts y h.1)
names_own line parts (formula.Or' p x q y) h =
    (names_own line parts x h.0, names_own line parts y h.1)
names_own line parts (formula.Timer' p x a b) h = (names_own line parts x h.0, h.1)
names_own line parts (formula.Seal' p x q y) h =
    (names_own line parts x h.0, names_own line parts y h.1)

pub names_from : {E : Type 0} (line : Line) (parts : List Tree) (tree : Tree) (r : Result Formula E)
    → IfOk r (λ f. tree_of parts f ≡ tree) → Names line tree
    → IfOk r (λ f. Names line (own_tree f))
names_from line parts tree (Ok f) is names =
    names_own line parts f (subst (Names line) (sym is) names)
names_from line parts tree (Err e) is names = tt

-- a formula whose tree over its parts is known, over any
pub stands_over : {E : Type 0} (tree : List Tree → Tree) (most : ℕ) (r : Result Formula E)
    → ((parts : List Tree) → IfOk r (λ f. tree_of parts f ≡ tree parts))
    → operations (tree []) ≤ most → (parts : List Tree) → IfOk r (StandsOver parts (tree parts) most)
stands_over tree most (Ok f) is few parts = record {
  is = is parts;
  few = subst (λ t. operations t ≤ most) (sym (is [])) few;
}
stands_over tree most (Err e) is few parts = tt

-- ---- one part more

trees_push : (trees : List Tree) (parts : List Formula) (f : Formula)
    → trees_after trees (parts ++ f ∷ [])
    ≡ trees_after trees parts ++ tree_of (trees_after trees parts) f ∷ []
trees_push trees [] f = refl
trees_push trees (p ∷ ps) f = trees_push (trees ++ tree_of trees p ∷ []) ps f

operations_push : (parts : List Formula) (f : Formula)
    → operations_of (parts ++ f ∷ []) ≡ operations_of parts + operations (own_tree f)
operations_push [] f = omega arith
operations_push (p ∷ ps) f = omega (arith, operations_push ps f)

named_push : (line : Line) (parts : List Formula) (f : Formula) → AreNamed line parts
    → Names line (own_tree f) → AreNamed line (parts ++ f ∷ [])
named_push line [] f all last = (last, tt)
named_push line (p ∷ ps) f all last = (all.0, named_push line ps f all.1 last)

pub parts_push : (line : Line) (trees : List Tree) (tree : Tree) (m n : ℕ) (parts : List Formula)
    (f : Formula) → AreProgramParts line trees m parts → StandsOver trees tree n f
    → Names line (own_tree f) → AreProgramParts line (trees ++ tree ∷ []) (m + n) (parts ++ f ∷ [])
parts_push line trees tree m n parts f all last named = record {
  are =
      trees_push [] parts f
      ∙ ap (λ ts. ts ++ tree_of ts f ∷ []) all.are
      ∙ ap (λ t. trees ++ t ∷ []) last.is;
  named = named_push line parts f all.named named;
  few = omega (arith, operations_push parts f, all.few, last.few);
}

pub no_parts : (line : Line) → AreProgramParts line [] 0 []
no_parts line = record { are = refl; named = tt; few = omega arith }

-- what trips a terminal, over what its pilot scheme trips on
pub trip_stands : {E : Type 0} (line : Line) (k : ℕ) (pilot trip : Result Formula E)
    → ((parts : List Tree) (t : Tree) → IfOk pilot (λ f. tree_of parts f ≡ t)
    → IfOk trip (λ f. tree_of parts f ≡ trip_over line k t))
    → (trees : List Tree) (t : Tree) (n : ℕ) → IfOk pilot (StandsOver trees t n)
    → IfOk trip (StandsOver trees (trip_over line k t) (n + 7))
trip_stands line k (Ok p) (Ok f) made trees t n stands = record {
  is = made trees t stands.is;
  few =
      subst (λ u. operations u ≤ n + 7) (sym (made [] (own_tree p) refl))
      (omega (arith, trip_few line k (own_tree p), stands.few));
}
trip_stands line k (Err e) (Ok f) made trees t n stands = record {
  is = made trees t tt;
  few =
      subst (λ u. operations u ≤ n + 7) (sym (made [] (Const false) tt))
      (omega (arith, trip_few line k (Const false)));
}
trip_stands line k pilot (Err e) made trees t n stands = tt

-- parts, and a key and a trip over them, are a program
pub program_is : (line : Line) (k : ℕ) (p : Program) (trees : List Tree) (l m n : ℕ)
    → TreesNameTheLine → k < terminal_count line → l + m + n ≤ 163
    → AreProgramParts line trees l p.parts.items
    → StandsOver trees (key_by line.scheme line k) m p.key
    → StandsOver trees (trip_over line k (pilot_by line.scheme line k)) (n + 7) p.trip
    → IsProgramOf line k p
unfolding key_tree trip_tree set_tree
program_is line k p trees l m n law lt bound parts key trip = record {
  key = ap (λ ts. tree_of ts p.key) parts.are ∙ key.is;
  trip = ap (λ ts. tree_of ts p.trip) parts.are ∙ trip.is;
  parts_named = parts.named;
  key_named = names_own line trees p.key (subst (Names line) (sym key.is) (law.keys line k lt));
  trip_named = names_own line trees p.trip (subst (Names line) (sym trip.is) (law.trips line k lt));
  few = omega (arith, bound, parts.few, key.few, trip.few);
}

-- ---- formulas that name no parts

pub closed_from : {E : Type 0} (tree : Tree) (r : Result Formula E) → StandsAlways tree r
    → IfOk r (IsClosed tree)
closed_from tree (Ok f) always = record { over = always }
closed_from tree (Err e) always = tt

pub closed_over : {E : Type 0} (tree : Tree) (r : Result Formula E) → IfOk r (IsClosed tree)
    → StandsAlways tree r
closed_over tree (Ok f) closed parts = closed.over parts
closed_over tree (Err e) closed parts = tt
