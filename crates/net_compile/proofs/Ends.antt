-- The keys and trips of the terminals below some number.
use Rattle.std.proofs.Common.{◌≡◌, ◌⊎◌, ℕ, zero, suc, ◌<◌, ◌≤◌, ◌*◌, List, [], ◌∷◌, ◌++◌, length}
use Rattle.std.proofs.Common.{refl, sym, ◌∙◌, subst, arith, inl, inr, ⊎_elim, length-append}
use Rattle.std.specs.Prelude.{Result, Ok, Err, IfOk}
use Rattle.model_line.specs.{declared.line.Line.Line, Parameters.terminal_count}
use Rattle.model_logic.specs.Logic.{key_tree, trip_tree}
use Rattle.model_logic.specs.Tree.{Tree}
use Rattle.net_gates.specs.Named.{NamedFrom}
use Rattle.net_gates.specs.{declared.gate.Gate.Gate, declared.gate.GateId.GateId, Formulas.Stands}
use Rattle.net_gates.specs.NetOf.{NetOf, AreGatesOf, IsNet, IsNetOf, id_at}
use Rattle.net_compile.specs.Growing.{Grows, ExtendsFor}
use Rattle.net_compile.specs.{declared.program_gates.Ends.Ends, Compiled.AreEndsOf}

-- one gate for each terminal below j, which stands for the terminal's tree
pub record StandInOrder (gates : List Gate) (ids : List GateId) (tree : ℕ → Tree) (j : ℕ)
    : Type 0 where
  pub count : length ids ≡ j
  pub each : (k : ℕ) → k < j → Stands gates (id_at ids k) (tree k)

-- the terminals below j have their gates
pub record HaveEnds (line : Line) (gates : List Gate) (keys trips : List GateId) (j : ℕ)
    : Type 0 where
  pub named : NamedFrom line 0 gates
  pub few : length gates ≤ 170 * j
  pub key_gates : StandInOrder gates keys (key_tree line) j
  pub trip_gates : StandInOrder gates trips (trip_tree line) j

pub stands_kept : (old new : List Gate) (id : ℕ) (tree : Tree) → Grows old new → Stands old id tree
    → Stands new id tree
stands_kept old new id tree grows s = record {
  within = omega (arith, s.within, grows.longer);
  is = grows.same id s.within ∙ s.is;
}

-- the number at a place of a list with one more at its end
at_push : (ids : List GateId) (last : GateId) (k : ℕ) → k < suc (length ids)
    → ((k < length ids)
    × (id_at (ids ++ last ∷ []) k ≡ id_at ids k))
    ⊎ ((k ≡ length ids) × (id_at (ids ++ last ∷ []) k ≡ last.0))
at_push [] last zero lt = inr (refl, refl)
at_push [] last (suc k) lt = absurd (omega arith)
at_push (id ∷ ids) last zero lt = inl (omega arith, refl)
at_push (id ∷ ids) last (suc k) lt =
    ⊎_elim
    (λ p. let within : suc k < length (id ∷ ids) = omega (arith, p.0) in inl (within, p.1))
    (λ p. let same : suc k ≡ length (id ∷ ids) = omega (arith, p.0) in inr (same, p.1))
    (at_push ids last k (omega arith))

pub in_order_more : (old new : List Gate) (ids : List GateId) (last : GateId)
    (tree : ℕ → Tree) (j : ℕ) → Grows old new → StandInOrder old ids tree j
    → Stands new last.0 (tree j) → StandInOrder new (ids ++ last ∷ []) tree (suc j)
in_order_more old new ids last tree j grows sofar next = record {
  count = omega (arith, length-append ids (last ∷ []), sofar.count);
  each = λ k lt.
      ⊎_elim
      (λ p. subst (λ id. Stands new id (tree k)) (sym p.1)
      (stands_kept old new (id_at ids k) (tree k) grows
      (sofar.each k (omega (arith, p.0, sofar.count)))))
      (λ p.
      let here : j ≡ k = omega (arith, p.0, sofar.count) in
      subst (λ id. Stands new id (tree k)) (sym p.1)
      (subst (λ i. Stands new last.0 (tree i)) here next))
      (at_push ids last k (omega (arith, sofar.count)));
}

pub have_none : (line : Line) → HaveEnds line [] [] [] 0
have_none line = record {
  named = record { each = λ i g le at. absurd (cc) };
  few = omega arith;
  key_gates = record { count = refl; each = λ k lt. absurd (omega arith) };
  trip_gates = record { count = refl; each = λ k lt. absurd (omega arith) };
}

-- and one terminal more
pub have_more : (line : Line) (old new : List Gate) (keys trips : List GateId) (ends : Ends) (j : ℕ)
    → HaveEnds line old keys trips j → ExtendsFor line 170 old new → AreEndsOf line j new ends
    → HaveEnds line new (keys ++ ends.key ∷ []) (trips ++ ends.trip ∷ []) (suc j)
have_more line old new keys trips ends j sofar adds next = record {
  named = adds.named 0 sofar.named;
  few = omega (arith, adds.few, sofar.few);
  key_gates =
      in_order_more old new keys ends.key (key_tree line) j adds.grows sofar.key_gates
      next.key_gate;
  trip_gates =
      in_order_more old new trips ends.trip (trip_tree line) j adds.grows sofar.trip_gates
      next.trip_gate;
}

-- the gates that stand in order are gates of the net
pub in_order_within : (gates : List Gate) (ids : List GateId) (tree : ℕ → Tree) (j : ℕ)
    → StandInOrder gates ids tree j → AreGatesOf ids (length gates)
in_order_within gates ids tree j stand k lt = (stand.each k (omega (arith, stand.count))).within

-- a net whose terminals all have their gates is the net of the line
pub net_of_line : (line : Line) (net : NetOf) (j : ℕ) → j ≡ terminal_count line
    → HaveEnds line net.gates net.keys net.trips j → IsNet net → IsNetOf line net
net_of_line line net j all have laws = record {
  laws = laws;
  terminals = have.key_gates.count ∙ all;
  keys = λ k lt. (have.key_gates.each k (omega arith)).is;
  trips = λ k lt. (have.trip_gates.each k (omega arith)).is;
  named = have.named;
}

-- two facts of what a call answers
pub both_ok : {A E : Type 0} (P Q R : A → Type 0) (r : Result A E)
    → ((x : A) → P x → Q x → R x) → IfOk r P → IfOk r Q → IfOk r R
both_ok P Q R (Ok x) f p q = f x p q
both_ok P Q R (Err e) f p q = tt
