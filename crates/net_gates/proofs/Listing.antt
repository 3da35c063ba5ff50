-- The lists of those that read a gate or hear a channel.
use Rattle.std.proofs.Common.{◌≡◌, ◌<◌, ◌+◌, ℕ, List, [], ◌∷◌, ◌++◌, Some, refl, sym, length, subst}
use Rattle.std.proofs.Common.{⊎_elim, arith, ◌∙◌, ap}
use Rattle.std.proofs.lemmas.Bool.{cases_lt}
use Rattle.std.proofs.lemmas.Option.{slice_get_within}
use Rattle.std.specs.Prelude.{slice_get}
use Rattle.net_gates.specs.declared.gate.Gate.{Gate}
use Rattle.net_gates.specs.declared.gate.Gate.TheVariants.{Const, Seen, Loss, Raw, Not, And, Or}
use Rattle.net_gates.specs.declared.gate.Gate.TheVariants.{Timer, Seal}
use Rattle.net_gates.specs.declared.readers.Readers.{Readers}
use Rattle.net_gates.specs.Readers.{AreBelow, HearBelow, Hears, StandsIn}
use Rattle.net_gates.specs.Listing.{IsListed, ListGates, ListsGrow, ReadersSoFar, ReadsNone, ReadsOne}
use Rattle.net_gates.specs.Listing.{ReadsTwo}
use Rattle.model_history.specs.ListLaws.{before_append, at_push, last_push, one_value}

pub below_push : (n i : ℕ) (old new : List ℕ) → new ≡ old ++ i ∷ [] → i < n → AreBelow n old
    → AreBelow n new
below_push n i old new is lt below k j at =
    ⊎_elim (λ low. below k j low) (λ p. subst (λ (m : ℕ). m < n) (sym p.1) lt)
    (at_push old i j k (subst (λ l. slice_get l k ≡ Some j) is at))

pub stands_push : (i j : ℕ) (old new : List ℕ) → new ≡ old ++ i ∷ [] → StandsIn j old
    → StandsIn j new
stands_push i j old new is (k, at) =
    (k, subst (λ l. slice_get l k ≡ Some j) (sym is) (before_append old (i ∷ []) k j at))

pub stands_here : (i : ℕ) (old new : List ℕ) → new ≡ old ++ i ∷ [] → StandsIn i new
stands_here i old new is =
    (length old, subst (λ l. slice_get l (length old) ≡ Some i) (sym is) (last_push old i))

pub lists_same : (readers : Readers) → ListsGrow readers readers
lists_same readers = record {
  gates_are = refl;
  channels_are = refl;
  read = λ i a list at before. before list at;
  heard = λ i c list at before. before list at;
}

pub listed_on : (i : ℕ) (gate : Gate) (old new : Readers) → ListsGrow old new
    → IsListed i gate old → IsListed i gate new
listed_on i gate old new grow listed = record {
  read = λ a list has at. grow.read i a list at (λ list' at'. listed.read a list' has at');
  heard = λ c list hears at. grow.heard i c list at (λ list' at'. listed.heard c list' hears at');
}

-- a gate that is listed where its kind is to be
pub listed_none : (i : ℕ) (gate : Gate) (readers : Readers) → ReadsNone gate
    → IsListed i gate readers
listed_none i (Const v) readers is =
    record { read = λ a list has. absurd has; heard = λ c list hears. absurd hears }
listed_none i (Seen p) readers is =
    record { read = λ a list has. absurd has; heard = λ c list hears. absurd hears }
listed_none i (Loss k) readers is =
    record { read = λ a list has. absurd has; heard = λ c list hears. absurd hears }
listed_none i (Raw k) readers is = absurd is
listed_none i (Not x) readers is = absurd is
listed_none i (And x y) readers is = absurd is
listed_none i (Or x y) readers is = absurd is
listed_none i (Timer x p d) readers is = absurd is
listed_none i (Seal x y) readers is = absurd is

-- the gate stands in the list of channel c
abbrev pub IsHeardIn : ℕ → ℕ → Readers → Type 0
IsHeardIn i c readers =
    (list : _) → slice_get readers.of_channels.items c ≡ Some list → StandsIn i list.items

pub listed_raw : (i c : ℕ) (gate : Gate) (readers : Readers) → Hears c gate
    → IsHeardIn i c readers → IsListed i gate readers
listed_raw i c (Const v) readers is heard = absurd is
listed_raw i c (Seen p) readers is heard = absurd is
listed_raw i c (Loss k) readers is heard = absurd is
listed_raw i c (Raw k) readers is heard = record {
  read = λ a list has. absurd has;
  heard = λ x list hears.
      subst (λ (y : ℕ). IsHeardIn i y readers) (sym is ∙ hears) heard list;
}
listed_raw i c (Not x) readers is heard = absurd is
listed_raw i c (And x y) readers is heard = absurd is
listed_raw i c (Or x y) readers is heard = absurd is
listed_raw i c (Timer x p d) readers is heard = absurd is
listed_raw i c (Seal x y) readers is heard = absurd is

-- the gate stands in the list of gate a
abbrev pub IsListedIn : ℕ → ℕ → Readers → Type 0
IsListedIn i a readers =
    (list : _) → slice_get readers.of_gates.items a ≡ Some list → StandsIn i list.items

listed_at : (i a b : ℕ) (readers : Readers) → a ≡ b → IsListedIn i a readers
    → IsListedIn i b readers
listed_at i a b readers same listed = subst (λ (k : ℕ). IsListedIn i k readers) same listed

pub listed_one : (i a : ℕ) (gate : Gate) (readers : Readers) → ReadsOne a gate
    → IsListedIn i a readers → IsListed i gate readers
listed_one i a (Const v) readers is listed = absurd is
listed_one i a (Seen p) readers is listed = absurd is
listed_one i a (Loss k) readers is listed = absurd is
listed_one i a (Raw k) readers is listed = absurd is
listed_one i a (Not x) readers is listed = record {
  read = λ b list has at. listed_at i a b readers (sym is ∙ has) listed list at;
  heard = λ k list hears. absurd hears;
}
listed_one i a (And x y) readers is listed = absurd is
listed_one i a (Or x y) readers is listed = absurd is
listed_one i a (Timer x p d) readers is listed = record {
  read = λ b list has at. listed_at i a b readers (sym is ∙ has) listed list at;
  heard = λ k list hears. absurd hears;
}
listed_one i a (Seal x y) readers is listed = absurd is

pub listed_two : (i a b : ℕ) (gate : Gate) (readers : Readers) → ReadsTwo a b gate
    → IsListedIn i a readers → IsListedIn i b readers → IsListed i gate readers
listed_two i a b (Const v) readers is first second = absurd is
listed_two i a b (Seen p) readers is first second = absurd is
listed_two i a b (Loss k) readers is first second = absurd is
listed_two i a b (Raw k) readers is first second = absurd is
listed_two i a b (Not x) readers is first second = absurd is
listed_two i a b (And x y) readers is first second = record {
  read = λ c list has at.
      ⊎_elim (λ e. listed_at i a c readers (sym is.0 ∙ e) first list at)
      (λ e. listed_at i b c readers (sym is.1 ∙ e) second list at) has;
  heard = λ k list hears. absurd hears;
}
listed_two i a b (Or x y) readers is first second = record {
  read = λ c list has at.
      ⊎_elim (λ e. listed_at i a c readers (sym is.0 ∙ e) first list at)
      (λ e. listed_at i b c readers (sym is.1 ∙ e) second list at) has;
  heard = λ k list hears. absurd hears;
}
listed_two i a b (Timer x p d) readers is first second = absurd is
listed_two i a b (Seal x y) readers is first second = record {
  read = λ c list has at.
      ⊎_elim (λ e. listed_at i a c readers (sym is.0 ∙ e) first list at)
      (λ e. listed_at i b c readers (sym is.1 ∙ e) second list at) has;
  heard = λ k list hears. absurd hears;
}

pub grow_on : (first middle last : Readers) → ListsGrow first middle → ListsGrow middle last
    → ListsGrow first last
grow_on first middle last grow more = record {
  gates_are = more.gates_are ∙ grow.gates_are;
  channels_are = more.channels_are ∙ grow.channels_are;
  read = λ i a list at before.
      more.read i a list at (λ list' at'. grow.read i a list' at' before);
  heard = λ i c list at before.
      more.heard i c list at (λ list' at'. grow.heard i c list' at' before);
}

below_none : (n : ℕ) (list : List ℕ) → list ≡ [] → AreBelow n list
below_none n list is k i at =
    let inside : k < length list = slice_get_within list k i at in
    absurd (omega (arith, inside, ap length is))

-- where every list is empty, no gate is listed yet
pub listed_from_none : (gates : List Gate) (readers : Readers)
    → length readers.of_gates.items ≡ length gates
    → HearBelow (length readers.of_channels.items) gates
    → ((a : ℕ) (list : _) → slice_get readers.of_gates.items a ≡ Some list → list.items ≡ [])
    → ((c : ℕ) (list : _) → slice_get readers.of_channels.items c ≡ Some list → list.items ≡ [])
    → ReadersSoFar gates 0 readers
listed_from_none gates readers count heard empty heard_empty = record {
  of_gates = record {
    count = count;
    inside = λ a list at. below_none (length gates) list.items (empty a list at);
    heard_inside = λ c list at. below_none (length gates) list.items (heard_empty c list at);
  };
  of_channels = heard;
  listed = λ i gate lt. absurd (omega arith);
}

-- one gate more that is listed
pub listed_more : (gates : List Gate) (i : ℕ) (gate : Gate) (old new : Readers)
    → slice_get gates i ≡ Some gate → ListGates (length gates) new → ListsGrow old new
    → IsListed i gate new → ReadersSoFar gates i old
    → ReadersSoFar gates (i + 1) new
listed_more gates i gate old new ga lists grow listed before = record {
  of_gates = lists;
  of_channels = λ k d g at hears.
      let inside : d < length old.of_channels.items = before.of_channels k d g at hears in
      omega (arith, inside, grow.channels_are);
  listed = λ k g lt at.
      ⊎_elim
      (λ low. listed_on k g old new grow (before.listed k g low at))
      (λ ge. let here : i ≡ k = omega arith in
      subst (λ (j : ℕ). IsListed j g new) here
      (subst (λ (h : Gate). IsListed i h new) (one_value gates i k gate g here ga at) listed))
      (cases_lt k i);
}
