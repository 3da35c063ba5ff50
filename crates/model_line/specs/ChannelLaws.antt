-- The channel between two terminals.
use Rattle.std.proofs.Common.{◌≡◌, ◌≢◌, ◌==◌, ◌&&◌, ℕ, suc, ◌+◌, ◌<◌, Bool, true, false, List, []}
use Rattle.std.proofs.Common.{◌∷◌}
use Rattle.std.proofs.Common.{Option, Some, None, length, get_or, cond, refl, ap, ◌∙◌, arith, subst}
use Rattle.std.proofs.Common.{sym}
use Rattle.std.proofs.lemmas.Bool.{eqb-true}
use Rattle.std.proofs.lemmas.List.{get_or-map}
use Rattle.std.specs.Prelude.{◌↔◌, IsSome, IfSome, is_some}
use Rattle.std.specs.List.{position_from}
use Rattle.model_line.specs.Channels.{is_pair, channel_number, from_of, to_of, AreChannels}
use Rattle.model_line.specs.Channels.{AreChannelsBelow}
use Rattle.model_line.specs.declared.line.Channel.{Channel}

-- ---- a conjunction of tests and its parts

and_left : (a b : Bool) → a && b ≡ true → a ≡ true
and_left true b h = refl
and_left false b h = h

and_right : (a b : Bool) → a && b ≡ true → b ≡ true
and_right true b h = h
and_right false b h = absurd (cc)

-- ---- the channel between two terminals

-- channel m of the list goes from j to k
record Joins (cs : List Channel) (j k m : ℕ) : Type 0 where
  within : m < length cs
  from : from_of cs m ≡ j
  to : to_of cs m ≡ k

-- a channel that is found n places on is one of the list
Found : List Channel → ℕ → ℕ → ℕ → ℕ → Type 0
Found cs j k n i = (m : ℕ) × (i ≡ n + m) × Joins cs j k m

found_step :
    (x : Channel) (cs : List Channel) (j k n i : ℕ) (rest : Option ℕ) →
    (rest ≡ Some i → Found cs j k (n + 1) i) → (b : Bool) → is_pair j k x ≡ b →
    cond b (Some n) rest ≡ Some i → Found (x ∷ cs) j k n i
unfolding Found
found_step x cs j k n i rest later true is e =
    let same : n ≡ i = cc in (
      0,
      omega arith,
      record {
        within = omega arith;
        from = eqb-true x.from j (and_left (x.from == j) (x.to == k) is);
        to = eqb-true x.to k (and_right (x.from == j) (x.to == k) is);
      },
    )
found_step x cs j k n i rest later false is e =
    let at = later e in
    let below : at.0 < length cs = at.2.within in (
      suc at.0,
      omega (arith, at.1),
      record {
        within = omega arith;
        from = at.2.from;
        to = at.2.to;
      },
    )

found_joins :
    (cs : List Channel) (j k n i : ℕ) → position_from (is_pair j k) n cs ≡ Some i → Found cs j k n i
found_joins [] j k n i e = absurd (cc)
found_joins (x ∷ cs) j k n i e =
    found_step x cs j k n i (position_from (is_pair j k) (n + 1) cs)
    (found_joins cs j k (n + 1) i) (is_pair j k x) refl e

-- the channel that is found from j to k goes from j to k
pub channel_ends :
    (cs : List Channel) (j k c : ℕ) → channel_number cs j k ≡ Some c →
    (c < length cs) × (from_of cs c ≡ j) × (to_of cs c ≡ k)
unfolding Found
channel_ends cs j k c e =
    let at = found_joins cs j k 0 c e in
    let same : at.0 ≡ c = omega (arith, at.1) in
    let here : Joins cs j k c = subst (Joins cs j k) same at.2 in
    (here.within, here.from, here.to)

pub ends_if_found :
    (cs : List Channel) (j k : ℕ) (o : Option ℕ) → channel_number cs j k ≡ o →
    IfSome o (λ c. (c < length cs) × (from_of cs c ≡ j) × (to_of cs c ≡ k))
ends_if_found cs j k None e = tt
ends_if_found cs j k (Some c) e = channel_ends cs j k c e

-- there is one exactly between two distinct terminals
pub exists_between :
    (n : ℕ) (cs : List Channel) → AreChannels n cs → (j k : ℕ) (o : Option ℕ) →
    channel_number cs j k ≡ o → IsSome o ↔ ((j ≢ k) × (j < n) × (k < n))
exists_between n cs are j k o e = (there o e, λ h. ap is_some (sym e) ∙ are.found j k h.1 h.2 h.0)
  where
    there :
        (o : Option ℕ) → channel_number cs j k ≡ o → IsSome o → (j ≢ k) × (j < n) × (k < n)
    there None e s = absurd (cc)
    there (Some c) e s =
        let at = channel_ends cs j k c e in
        let from : from_of cs c < n = are.from c at.0 in
        let to : to_of cs c < n = are.to c at.0 in
        let apart : from_of cs c ≢ to_of cs c = are.apart c at.0 in
        (λ same. apart (at.1 ∙ same ∙ sym at.2), omega (arith, at.1), omega (arith, at.2))

pub channels_below :
    (n : ℕ) (cs : List Channel) → AreChannels n cs → AreChannelsBelow n cs (length cs)
channels_below n cs are c lt = record {
  from = are.from c lt;
  to = are.to c lt;
  apart = are.apart c lt;
  once = are.once c lt;
}

module _ (cs : List Channel) (c : ℕ) (d : Channel) (lt : c < length cs) where
  pub from_of-get : from_of cs c ≡ (get_or cs c d).from
  from_of-get = get_or-map (λ h. h.from) cs c d 0 lt

  pub to_of-get : to_of cs c ≡ (get_or cs c d).to
  to_of-get = get_or-map (λ h. h.to) cs c d 0 lt
