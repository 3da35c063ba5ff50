-- A gate that is added keeps the laws.
use Rattle.std.proofs.Common.{◌≡◌, ◌≢◌, ◌||◌, ◌+◌, ◌≤◌, ℕ, zero, suc, ◌<◌, Bool, true, false, List, []}
use Rattle.std.proofs.Common.{◌∷◌, ◌++◌, length, Some, cond, refl, sym, ap, ◌∙◌, subst, arith}
use Rattle.std.proofs.Common.{⊎_elim, length-append}
use Rattle.std.proofs.Math.Seq.{take-append_seam, take-length}
use Rattle.std.specs.Prelude.{slice_get}
use Rattle.std.specs.List.{list_any}
use Rattle.model_line.specs.declared.line.Line.{Line}
use Rattle.net_gates.specs.{declared.gate.Gate.Gate, Gates.HasArguments, Gates.AreGates}
use Rattle.net_compile.specs.Growing.{Grows}
use Rattle.net_gates.specs.{Named.GateNames, Named.KeepsNames}
use Rattle.net_compile.specs.Growing.{Adds}
use Rattle.net_compile.proofs.Standing.{grows_from}
use Rattle.model_history.specs.ListLaws.{at_push, last_push}
use Rattle.net_compile.proofs.Equal.{gate_eq, gate_eq-same, gate_eq-refl}

-- a gate that a set contains is at some number of it, and one that it does not is at none
found : (g : Gate) (ks : List Gate) → list_any (gate_eq g) ks ≡ true
    → (i : ℕ) × (slice_get ks i ≡ Some g)
found g [] h = absurd (cc)
found g (k ∷ ks) h =
    by (gate_eq g k) refl
    (λ e. found g ks (ap (λ b. b || list_any (gate_eq g) ks) (sym e) ∙ h)) where
      by : (b : Bool) → gate_eq g k ≡ b
          → (gate_eq g k ≡ false → (i : ℕ) × (slice_get ks i ≡ Some g))
          → (i : ℕ) × (slice_get (k ∷ ks) i ≡ Some g)
      by true e rest = (0, ap Some (sym (gate_eq-same g k e)))
      by false e rest = let r = rest e in (suc r.0, r.1)

not_found : (g : Gate) (ks : List Gate) → list_any (gate_eq g) ks ≡ false → (i : ℕ)
    → slice_get ks i ≢ Some g
not_found g [] h i e = cc
not_found g (k ∷ ks) h i e =
    by (gate_eq g k) refl i e
    (λ f j. not_found g ks (ap (λ b. b || list_any (gate_eq g) ks) (sym f) ∙ h) j) where
      by : (b : Bool) → gate_eq g k ≡ b → (i : ℕ) → slice_get (k ∷ ks) i ≡ Some g
          → (gate_eq g k ≡ false → (j : ℕ) → slice_get ks j ≢ Some g) → ⊥
      by true f i e rest =
          let t : true ≡ false = sym (ap (λ b. b || list_any (gate_eq g) ks) f) ∙ h in cc
      by false f zero e rest =
          let same : k ≡ g = cc in
          let t : gate_eq g k ≡ true = subst (λ x. gate_eq x k ≡ true) same (gate_eq-refl k) in
          let u : true ≡ false = sym t ∙ f in cc
      by false f (suc j) e rest = rest f j e

grows_none : (ks : List Gate) → Grows ks ks
grows_none ks = grows_from ks ks (take-length ks) (omega arith)

grows_one : (ks : List Gate) (g : Gate) → Grows ks (ks ++ g ∷ [])
grows_one ks g =
    grows_from ks (ks ++ g ∷ []) (take-append_seam ks (g ∷ []))
    (omega (arith, length-append ks (g ∷ [])))

gates_push : (ks : List Gate) (g : Gate) → AreGates ks → length ks < 512
    → HasArguments (length ks) g → ((i : ℕ) → slice_get ks i ≢ Some g) → AreGates (ks ++ g ∷ [])
gates_push ks g net room args none = record {
  few = omega (arith, length-append ks (g ∷ []));
  earlier = λ i h e.
      ⊎_elim (λ old. net.earlier i h old)
      (λ p. subst (λ n. HasArguments n h) (sym p.0)
      (subst (HasArguments (length ks)) (sym p.1) args))
      (at_push ks g h i e);
  distinct = λ i j h e f.
      ⊎_elim
      (λ old. ⊎_elim (λ old'. net.distinct i j h old old')
      (λ p. absurd (none i (old ∙ ap Some p.1))) (at_push ks g h j f))
      (λ p. ⊎_elim (λ old'. absurd (none j (old' ∙ ap Some p.1)))
      (λ q. p.0 ∙ sym q.0) (at_push ks g h j f))
      (at_push ks g h i e);
}

names_push : (line : Line) (ks : List Gate) (g : Gate) → GateNames line g
    → KeepsNames line ks (ks ++ g ∷ [])
names_push line ks g named n all = record {
  each = λ i h le e.
      ⊎_elim (λ old. all.each i h le old) (λ p. subst (GateNames line) (sym p.1) named)
      (at_push ks g h i e);
}

-- what an insertion gives
abbrev pub Inserts : List Gate → List Gate → Gate → Type 0
Inserts ks new g = new ≡ cond (list_any (gate_eq g) ks) ks (ks ++ g ∷ [])

module _ (ks new : List Gate) (g : Gate) (ins : Inserts ks new g) where
  -- the set is as it was, or has the gate last
  inserted : (P : List Gate → Type 0) → P ks
      → (((i : ℕ) → slice_get ks i ≢ Some g) → P (ks ++ g ∷ [])) → P new
  inserted P old more = subst P (sym ins) (by (list_any (gate_eq g) ks) refl) where
    by : (b : Bool) → list_any (gate_eq g) ks ≡ b → P (cond b ks (ks ++ g ∷ []))
    by true e = old
    by false e = more (not_found g ks e)

  pub gates_more : AreGates ks → length ks < 512 → HasArguments (length ks) g → AreGates new
  gates_more net room args = inserted AreGates net (gates_push ks g net room args)

  pub grows_more : Grows ks new
  grows_more = inserted (λ l. Grows ks l) (grows_none ks) (λ none. grows_one ks g)

  pub names_more : (line : Line) → GateNames line g → KeepsNames line ks new
  names_more line named = inserted (KeepsNames line ks) (λ n all. all)
      (λ none. names_push line ks g named)

  pub few_more : length new ≤ length ks + 1
  few_more = inserted (λ l. length l ≤ length ks + 1) (omega arith)
      (λ none. omega (arith, length-append ks (g ∷ [])))

  pub adds : AreGates ks → length ks < 512 → HasArguments (length ks) g → (id : ℕ)
      → slice_get new id ≡ Some g → Adds ks new g id
  adds net room args id at = by (list_any (gate_eq g) ks) refl where
    by : (b : Bool) → list_any (gate_eq g) ks ≡ b → Adds ks new g id
    by true e =
        let same : new ≡ ks = ins ∙ ap (λ b. cond b ks (ks ++ g ∷ [])) e in
        let there : slice_get ks id ≡ Some g = ap (λ l. slice_get l id) (sym same) ∙ at in
        record {
          at = at;
          known = λ i h. (same, net.distinct id i g there h);
          last = λ none. absurd (none id there);
        }
    by false e =
        let same : new ≡ ks ++ g ∷ [] = ins ∙ ap (λ b. cond b ks (ks ++ g ∷ [])) e in
        let there : slice_get (ks ++ g ∷ []) id ≡ Some g =
        ap (λ l. slice_get l id) (sym same) ∙ at in
        let all : AreGates (ks ++ g ∷ []) =
        gates_push ks g net room args (not_found g ks e) in
        record {
          at = at;
          known = λ i h. absurd (not_found g ks e i h);
          last = λ none. (same, all.distinct id (length ks) g there (last_push ks g));
        }
