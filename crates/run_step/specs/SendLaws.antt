-- Keys that are sent, and what is received of them.
use Rattle.std.proofs.Common.{◌≡◌, ℕ, ◌+◌, ◌≤◌, List, [], ◌∷◌, ◌++◌, length, ◌∙◌, ap, ⊎_elim}
use Rattle.std.proofs.Common.{arith, ◌<◌, length-append, Some, subst, replicate, sym}
use Rattle.std.proofs.lemmas.Option.{slice_get-get_or, slice_get-map, get_or_from_slice_get}
use Rattle.std.specs.Prelude.{slice_get, option_map, get_or}
use Rattle.run_signal.specs.Stretches.{ElementsInAStretch}
use Rattle.net_gates.specs.declared.gate.GateId.{GateId}
use Rattle.run_step.specs.Ticks.{HasKeys, ValuesAgree, AreFresh, AreSent, KeysSent, HasSent}
use Rattle.net_gates.specs.NetOf.{id_at}
use Rattle.run_step.specs.{GatePairs.GateSignals}
use Rattle.model_history.specs.ListLaws.{at_push}
use Rattle.model_history.specs.Rails.{Rails, Ends, rails_at, rails_delayed}
use Rattle.model_history.specs.{Recorded.first_ticks, Laws.HistoryLaws}
use Rattle.run_signal.specs.Lanes.{in_lane}
use Rattle.run_signal.specs.SentKeys.{SentKeys}
use Rattle.model_logic.specs.PairMean.{PairSignals}

pub fresh_more : {V : Type 0} (n horizon : ℕ) (lines : List (SentKeys V)) (s : SentKeys V)
    → s ≡ record { keys = []; horizon = horizon } → AreFresh n horizon lines
    → AreFresh (n + 1) horizon (lines ++ s ∷ [])
fresh_more n horizon lines s is fresh = record {
  count = length-append lines (s ∷ []) ∙ ap (λ (k : ℕ). k + 1) fresh.count;
  empty = λ k x at.
      ⊎_elim (λ h. fresh.empty k x h) (λ p. p.1 ∙ is) (at_push lines s x k at);
}

-- lines with no keys
pub fresh_sent : {V : Type 0} (n horizon : ℕ) (lines : List (SentKeys V))
    → AreFresh n horizon lines → AreSent n horizon 0 lines
fresh_sent {V = V} n horizon lines fresh = record {
  count = fresh.count;
  each = λ k s at. (
    ap (λ (l : SentKeys V). length l.keys) (fresh.empty k s at),
    ap (λ (l : SentKeys V). l.horizon) (fresh.empty k s at),
  );
}

pub none_sent : {V : Type 0} (rails : V → ℕ → Rails) (lane n horizon : ℕ) (keys : PairSignals)
    (lines : List (SentKeys V)) → AreFresh n horizon lines → KeysSent rails lane keys 0 lines
none_sent {V = V} rails lane n horizon keys lines fresh k s at =
    ap (λ (l : SentKeys V). in_lane rails lane l.keys) (fresh.empty k s at)

-- what a delay line gives of a history's first ticks
pub received-is : (laws : HistoryLaws) (l : List Rails) (keys : ℕ → Rails) (t n : ℕ) (c e : Ends)
    → l ≡ first_ticks keys t → n ≡ t → c ≡ e → 1 ≤ e.least
    → rails_delayed (rails_at l) c n ≡ rails_delayed keys e t
received-is laws l keys t n c e is len same some =
    ap (λ k. rails_delayed (rails_at k) c n) is
    ∙ ap (rails_delayed (rails_at (first_ticks keys t)) c) len
    ∙ ap (λ d. rails_delayed (rails_at (first_ticks keys t)) d t) same
    ∙ laws.delays_earlier.rails (rails_at (first_ticks keys t)) keys (λ _. e) t
    (λ r early late. laws.recordings.rails keys t r (omega arith))

-- the number of a gate in a list
pub number_read : (gates : List GateId) (k : ℕ) (d : GateId) → k < length gates
    → id_at gates k ≡ (get_or gates k d).0
number_read gates k d lt =
    get_or_from_slice_get _ k (get_or gates k d).0 0
    (slice_get-map (λ (id : GateId). id.0) gates k
    ∙ ap (option_map (λ (id : GateId). id.0)) (slice_get-get_or gates k d lt))

-- so many more keys, all with the rails of one value
pub sent_for : {V : Type 0} → ElementsInAStretch → (rails : V → ℕ → Rails) (lane : ℕ)
    (keys : PairSignals) (t n k : ℕ) (old new : SentKeys V) (x : V)
    → in_lane rails lane new.keys ≡ in_lane rails lane old.keys ++ replicate n (rails x lane)
    → ((r : ℕ) → t ≤ r → r < t + n → keys k r ≡ rails x lane)
    → HasSent rails lane keys t k old → HasSent rails lane keys (t + n) k new
sent_for stretch rails lane keys t n k old new x pushed stays h =
    pushed
    ∙ ap (λ (l : List Rails). l ++ replicate n (rails x lane)) h
    ∙ stretch.recorded (keys k) (rails x lane) t n stays

pub keys_for : {V : Type 0} (horizon t n k : ℕ) (old new : SentKeys V)
    → length new.keys ≡ length old.keys + n → new.horizon ≡ old.horizon
    → HasKeys horizon t k old → HasKeys horizon (t + n) k new
keys_for horizon t n k old new long same h = (
  long ∙ ap (λ (m : ℕ). m + n) h.0,
  same ∙ h.1,
)

-- the values of some gates at a tick are those of the keys, as a stretch of this tick alone asks
pub one_tick_sent : {V : Type 0} (rails : V → ℕ → Rails) (lane : ℕ) (keys : PairSignals)
    (u : GateSignals) (t end : ℕ) (gates ids : List GateId) (column : List V) → end ≡ t + 1
    → ids ≡ gates → ValuesAgree rails lane u t column
    → ((k : ℕ) → k < length gates → u (id_at gates k) t ≡ keys k t)
    → (k : ℕ) (x : V) → k < length ids → slice_get column (id_at ids k) ≡ Some x
    → (r : ℕ) → t ≤ r → r < end → keys k r ≡ rails x lane
one_tick_sent rails lane keys u t end gates ids column is same agree are k x kn at r low high =
    let now : r ≡ t = omega (arith, is, low, high) in
    let there : k < length gates = subst (λ (l : List GateId). k < length l) same kn in
    let here : slice_get column (id_at gates k) ≡ Some x =
    subst (λ (l : List GateId). slice_get column (id_at l k) ≡ Some x) same at in
    ap (keys k) now ∙ sym (are k there) ∙ sym (agree (id_at gates k) x here)
