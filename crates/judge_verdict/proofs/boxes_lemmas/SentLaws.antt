-- What is received, delay by delay.
use Rattle.std.proofs.Common.{◌≡◌, ◌≤◌, ◌<◌, ◌+◌, ◌||◌, ◌&&◌, ℕ, zero, suc, Bool, true, false, List}
use Rattle.std.proofs.Common.{[], ◌∷◌, length, get_or, refl, sym, ◌∙◌, ap, arith}
use Rattle.std.proofs.Common.{Some}
use Rattle.std.proofs.lemmas.List.{get_or-map}
use Rattle.std.proofs.lemmas.Option.{slice_get_within, get_or_from_slice_get}
use Rattle.std.proofs.lemmas.Bool.{lt-ltb, le-ltb, lt-leb, le-leb}
use Rattle.std.specs.Prelude.{nat_lt, nat_le, slice_get}
use Rattle.model_history.specs.Elements.{every_below, some_below, delayed}
use Rattle.model_history.specs.Rails.{Rails, IsSound, both, rails_at, rails_delayed}
use Rattle.model_history.specs.Laws.{DelaysStaySound}
use Rattle.run_signal.specs.{Bits.bit_on, Lanes.in_lane, Spans.ends_of}
use Rattle.judge_verdict.specs.{declared.boxes.terns.Terns64.Terns64, boxes.Terns.terns_rails}
use Rattle.judge_verdict.specs.{boxes.TernLaws.terns_sound}
use Rattle.judge_verdict.proofs.boxes_lemmas.RailLaws.{may_alone}

-- whether the delays from the least one up to but without c all bring a key that is on
abbrev pub all_from : (ℕ → Bool) → ℕ → ℕ → ℕ → Bool
all_from u least t c = every_below (λ k. nat_lt k least || delayed u k t) c

-- whether some of them does
abbrev pub some_from : (ℕ → Bool) → ℕ → ℕ → ℕ → Bool
some_from u least t c = some_below (λ k. nat_le least k && delayed u k t) c

none_all : (u : ℕ → Bool) (least t c : ℕ) → c ≤ least → all_from u least t c ≡ true
none_all u least t zero low = refl
none_all u least t (suc c) low =
    let lt : c < least = omega arith in
    ap (λ (b : Bool). (b || delayed u c t) && all_from u least t c) (lt-ltb c least lt)
    ∙ none_all u least t c (omega arith)

none_some : (u : ℕ → Bool) (least t c : ℕ) → c ≤ least → some_from u least t c ≡ false
none_some u least t zero low = refl
none_some u least t (suc c) low =
    let lt : c < least = omega arith in
    ap (λ (b : Bool). (b && delayed u c t) || some_from u least t c) (lt-leb least c lt)
    ∙ none_some u least t c (omega arith)

pub all_none : (u : ℕ → Bool) (least t : ℕ) → all_from u least t least ≡ true
all_none u least t = none_all u least t least (omega arith)

pub some_none : (u : ℕ → Bool) (least t : ℕ) → some_from u least t least ≡ false
some_none u least t = none_some u least t least (omega arith)

-- one delay more
pub all_more : (u : ℕ → Bool) (least t c : ℕ) → least ≤ c
    → (delayed u c t && all_from u least t c) ≡ all_from u least t (c + 1)
all_more u least t c low =
    let next : c + 1 ≡ suc c = omega arith in
    ap (λ (b : Bool). (b || delayed u c t) && all_from u least t c) (sym (le-ltb c least low))
    ∙ ap (all_from u least t) (sym next)

pub some_more : (u : ℕ → Bool) (least t c : ℕ) → least ≤ c
    → (delayed u c t || some_from u least t c) ≡ some_from u least t (c + 1)
some_more u least t c low =
    let next : c + 1 ≡ suc c = omega arith in
    ap (λ (b : Bool). (b && delayed u c t) || some_from u least t c) (sym (le-leb least c low))
    ∙ ap (some_from u least t) (sym next)

-- the rails of what was sent
sent_at : (sent : List Terns64) (lane r : ℕ) (d : Terns64) → r < length sent
    → rails_at (in_lane terns_rails lane sent) r ≡ terns_rails (get_or sent r d) lane
sent_at sent lane r d h = get_or-map (λ v. terns_rails v lane) sent r d (both false) h

pub sent_is : (sent : List Terns64) (lane r : ℕ) (x : Terns64) → slice_get sent r ≡ Some x
    → rails_at (in_lane terns_rails lane sent) r ≡ terns_rails x lane
sent_is sent lane r x at =
    sent_at sent lane r x (slice_get_within sent r x at)
    ∙ ap (λ v. terns_rails v lane) (get_or_from_slice_get sent r x x at)

sent_sound : (sent : List Terns64) (lane r : ℕ)
    → IsSound (rails_at (in_lane terns_rails lane sent) r)
sent_sound [] lane r on = on
sent_sound (v ∷ sent) lane zero on = terns_sound v lane on
sent_sound (v ∷ sent) lane (suc r) on = sent_sound sent lane r on

-- the bits of both rails in a lane
pub by_bits : (must may lane : ℕ) (whole : Rails) → bit_on must lane ≡ whole.must
    → bit_on may lane ≡ whole.may → IsSound whole
    → terns_rails (record { must = must; may = may }) lane ≡ whole
by_bits must may lane whole em ey sound =
    ap (λ (v : Bool). record { must = v; may = v || bit_on may lane }) em
    ∙ ap (λ (v : Bool). record { must = whole.must; may = whole.must || v }) ey
    ∙ ap (λ (v : Bool). record { must = whole.must; may = v }) (may_alone whole sound)

-- after all delays of a span it is what is received
pub all_received : DelaysStaySound → (sent : List Terns64) (lane least greatest c must may : ℕ)
    → least ≤ greatest → c ≡ greatest + 1
    → bit_on must lane
    ≡ all_from (λ r. (rails_at (in_lane terns_rails lane sent) r).must) least (length sent) c
    → bit_on may lane
    ≡ some_from (λ r. (rails_at (in_lane terns_rails lane sent) r).may) least (length sent) c
    → terns_rails (record { must = must; may = may }) lane
    ≡ rails_delayed (rails_at (in_lane terns_rails lane sent)) (ends_of least greatest) (length sent)
unfolding rails_delayed
all_received sound sent lane least greatest c must may ordered end is_must is_may =
    let u : ℕ → Rails = rails_at (in_lane terns_rails lane sent) in
    let t = length sent in
    let whole : Rails = rails_delayed u (ends_of least greatest) t in
    let last : c ≡ suc greatest = omega arith in
    by_bits must may lane whole (is_must ∙ ap (all_from (λ r. (u r).must) least t) last)
    (is_may ∙ ap (some_from (λ r. (u r).may) least t) last)
    (sound u (λ _. ends_of least greatest) t ordered (λ r _. sent_sound sent lane r))
