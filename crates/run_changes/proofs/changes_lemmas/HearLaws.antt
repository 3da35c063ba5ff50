-- Keys that change, and the gates that hear them.
use Rattle.run_signal.specs.Signals.{SignalOf}
use Rattle.std.proofs.Common.{◌≡◌, ℕ, ◌+◌, ◌-◌, ◌<◌, ◌≤◌, List, length, Some, sym, ◌∙◌, ap, subst}
use Rattle.std.proofs.Common.{arith, ⊎_elim, inl, inr, refl, ◌*◌}
use Rattle.std.proofs.Math.Nat.{mul-le-mul}
use Rattle.std.proofs.lemmas.Nat.{mul-le}
use Rattle.std.proofs.lemmas.Option.{slice_get_within}
use Rattle.std.specs.Prelude.{slice_get, slice_set}
use Rattle.model_history.specs.Rails.{Rails, Ends, rails_at}
use Rattle.model_history.specs.{Recorded.first_ticks, Laws.HistoryLaws}
use Rattle.run_signal.specs.SentKeys.{SentKeys}
use Rattle.model_line.specs.{declared.line.Line.Line}
use Rattle.model_line.specs.Parameters.{terminal_count, channel_count}
use Rattle.net_gates.specs.declared.gate.Gate.{Gate}
use Rattle.net_gates.specs.{NetOf.NetOf, NetOf.key_of, Readers.Hears}
use Rattle.run_step.specs.declared.delays.Delay.{Delay}
use Rattle.run_changes.specs.changes.Hears.{AreHeard, IsHeard, IsLastKey}
use Rattle.run_step.specs.Inputs.{AreDelaysFrom, AreSet, AreSoonest}
use Rattle.run_changes.specs.changes.Readers.{AreHastened}
use Rattle.run_step.specs.Ticks.{AreSent, KeysSent, ValuesAgree}
use Rattle.run_step.specs.{Lanes.LanePairs}
use Rattle.model_history.specs.ListLaws.{exists_at, at_set, one_value}
use Rattle.run_changes.specs.changes.LaneLaws.{lane_at}
use Rattle.run_changes.proofs.changes_lemmas.LagLaws.{HearsNo}

-- a line of at most three terminals has six channels at most
pub few_channels : (line : Line) → channel_count line ≤ 6
few_channels line =
    let n = terminal_count line in
    let less : n - 1 ≤ 2 = omega (arith, line.two_or_three.1) in
    let most : n * (n - 1) ≤ 3 * 2 = mul-le-mul line.two_or_three.1 less in
    omega (arith, most, line.pairs_once.count)

-- an element of a list that fits stands at a number that fits
pub offset_fits : (k n size : ℕ) → k < n → n * size < 9223372036854775808
    → k * size < 18446744073709551616
offset_fits k n size lt fits =
    let le : k * size ≤ n * size = mul-le k size n size (omega (arith, lt)) (omega arith) in
    omega (arith, le, fits)

-- a due tick that was made earlier still is
pub soon_kept : (first i : ℕ) (old new : List ℕ) → length old ≡ length new → AreHastened old new
    → ((due : ℕ) → slice_get old i ≡ Some due → due ≤ first)
    → (due : ℕ) → slice_get new i ≡ Some due → due ≤ first
soon_kept first i old new same hastened soon due da =
    let inside : i < length new = slice_get_within new i due da in
    let (before, ba) = exists_at old i (omega (arith, inside, same)) in
    let less : due ≤ before = hastened i due da before ba in
    let early : before ≤ first = soon before ba in
    omega (arith, less, early)

pub hastened_none : (dues : List ℕ) → AreHastened dues dues
hastened_none dues i due da before ba =
    let same : due ≡ before = one_value dues i i due before refl da ba in omega (arith, same)

-- one gate that is due earlier
pub hastened_one : (dues : List ℕ) (gate first : ℕ)
    → ((due : ℕ) → slice_get dues gate ≡ Some due → first ≤ due)
    → AreHastened dues (slice_set dues gate first)
hastened_one dues gate first less i due da before ba =
    ⊎_elim
    (λ p. let is : first ≡ due = p.1 in
    let early : first ≤ before =
    less before (subst (λ (k : ℕ). slice_get dues k ≡ Some before) p.0 ba) in
    omega (arith, is, early))
    (λ p. let same : due ≡ before = one_value dues i i due before refl p.1 ba in
    omega (arith, same))
    (at_set dues gate first i due da)

pub hastened_on : (first middle last : List ℕ) → length middle ≡ length last
    → AreHastened first middle → AreHastened middle last → AreHastened first last
hastened_on first middle last same one two i due da before ba =
    let inside : i < length last = slice_get_within last i due da in
    let (between, ma) = exists_at middle i (omega (arith, inside, same)) in
    let less : due ≤ between = two i due da between ma in
    let lower : between ≤ before = one i between ma before ba in
    omega (arith, less, lower)

pub heard_on : {V S : Type 0} (signal : SignalOf V S) (net : NetOf)
    (column : List V) (c : ℕ) (d : Delay S) (sent : List (SentKeys V)) (t : ℕ) (old new : List ℕ)
    → length old ≡ length new → AreHastened old new
    → IsHeard signal net column c d sent t old
    → IsHeard signal net column c d sent t new
heard_on signal net column c d sent t old new same hastened heard =
    ⊎_elim inl
    (λ soon. inr (λ i due gate at hears da. soon_kept (t + d.soonest) i old new same hastened
    (λ before ba. soon i before gate at hears ba) due da))
    heard

-- a gate hears no key that changes, or it is due when that first arrives
module _ {V S : Type 0} (history : HistoryLaws) (signal : SignalOf V S) (net : NetOf) (column : List V)
    (delays : List (Delay S)) (sent : List (SentKeys V)) (t n horizon channels : ℕ) (dues : List ℕ)
    (count : length delays ≡ channels)
    (tracks : AreSent n horizon t sent) (terminals : length net.keys ≡ n)
    (of_terminals : (c : ℕ) (d : Delay S) → slice_get delays c ≡ Some d → d.from < n)
    (inside_column : (k : ℕ) → k < length net.keys → key_of net k < length column)
    (soonest : AreSoonest signal delays) (set : AreSet t delays)
    (later : (c : ℕ) (d : Delay S) → slice_get delays c ≡ Some d → (lane : ℕ) → lane < signal.lanes
    → 1 ≤ (signal.ends d.span lane).least)
    (heard : AreHeard signal net column (length delays) delays sent t dues) where
  module _ (lane : ℕ) (below : lane < signal.lanes) (p : LanePairs)
      (from : AreDelaysFrom signal.ends lane delays p.world t)
      (have : KeysSent signal.rails lane p.keys t sent)
      (agree : ValuesAgree signal.rails lane p.pairs t column)
      (is : (k : ℕ) → k < length net.keys → p.keys k t ≡ p.pairs (key_of net k) t) where
    -- a key that is the last one
    key_same : (k : ℕ) (s : SentKeys V) (x : V) → k < length net.keys → slice_get sent k ≡ Some s
        → slice_get column (key_of net k) ≡ Some x → IsLastKey signal s.keys x
        → p.keys k t ≡ p.keys k (t - 1)
    key_same k s x kn sa xa last =
        let long : length s.keys ≡ t = (tracks.each k s sa).0 in
        let some : 1 ≤ length s.keys = last.some in
        let (y, ya) = exists_at s.keys (length s.keys - 1) (omega (arith, some)) in
        let place : length s.keys - 1 ≡ t - 1 = omega (arith, long) in
        let was : signal.rails y lane ≡ p.keys k (t - 1) =
        sym (lane_at signal.rails s.keys y lane (length s.keys - 1) ya)
        ∙ ap (λ (l : List Rails). rails_at l (length s.keys - 1)) (have k s sa)
        ∙ ap (λ (r : ℕ). rails_at (first_ticks (p.keys k) t) r) place
        ∙ history.recordings.rails (p.keys k) t (t - 1) (omega (arith, some, long)) in
        is k kn ∙ sym (agree (key_of net k) x xa) ∙ sym (last.same y ya lane below) ∙ was

    pub hears_no : (i due : ℕ) (g : Gate) → slice_get net.gates i ≡ Some g
        → slice_get dues i ≡ Some due → ((c : ℕ) → Hears c g → c < channels)
        → HearsNo p (t - 1) t t (due - t) g
    hears_no i due g ga da named c hears =
        let low : c < channels = named c hears in
        let (d, at) = exists_at delays c (omega (arith, low, count)) in
        let terminal : d.from < n = of_terminals c d at in
        let kn : d.from < length net.keys = omega (arith, terminal, terminals) in
        let (s, sa) = exists_at sent d.from (omega (arith, terminal, tracks.count)) in
        let (x, xa) = exists_at column (key_of net d.from) (inside_column d.from kn) in
        ⊎_elim
        (λ last. inl (subst (λ (k : ℕ). p.keys k t ≡ p.keys k (t - 1)) (from.from c d at)
        (key_same d.from s x kn sa xa (last s x sa xa))))
        (λ soon.
        let early : due ≤ t + d.soonest = soon i due g ga hears da in
        let first : d.soonest ≤ (signal.ends d.span lane).least =
        (soonest c d at).before lane below (later c d at lane below) in
        let until : t < d.until = set c d at in
        let same : signal.ends d.span lane ≡ p.world.delay c t = from.delay c d at t
        (omega arith) until in
        inr (subst (λ (e : Ends). due - t ≤ e.least) same (omega (arith, early, first))))
        (heard c d (omega (arith, low, count)) at)
