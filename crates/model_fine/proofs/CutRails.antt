-- Each interval rule gives at a fine tick the pair that it gives at the tick.
use Rattle.std.proofs.Common.{◌≡◌, ◌+◌, ◌-◌, ◌*◌, ◌/◌, ◌<◌, ◌≤◌, ℕ, Bool, arith, sym, ◌∙◌, ap}
use Rattle.std.proofs.Common.{subst}
use Rattle.std.proofs.lemmas.Bool.Decides.{Decides-like, same_from_decides}
use Rattle.std.specs.Prelude.{IsTrue}
use Rattle.model_history.specs.Laws.{HistoryLaws}
use Rattle.model_history.specs.Comes.{Comes, AllCome, SomeComes}
use Rattle.model_history.specs.Rails.{Rails, Ends, rails_timed, rails_sealed, rails_delayed}
use Rattle.model_fine.specs.Cut.{cut, cut_ends}
use Rattle.model_fine.proofs.Floors.{begins, ends, times, times_back}
use Rattle.model_fine.proofs.Floors.{below_back}
use Rattle.model_fine.proofs.CutElements.{timed-cut, sealed-cut, comes_whole, comes_fine}

-- both rails the same
same_rails : (a b c d : Bool) → a ≡ b → c ≡ d
    → (let x : Rails = record { must = a; may = c } in x) ≡ record { must = b; may = d }
same_rails a b c d e f =
    ap (λ (x : Bool). record { must = x; may = c }) e
    ∙ ap (λ (x : Bool). record { must = b; may = x }) f

module _ (n : ℕ) (some : 1 ≤ n) where
  -- a delay of fine ticks within the ends reads a tick that a delay of whole ticks within them reads
  record Read (span : Ends) (c t : ℕ) : Type 0 where
    pub delay : ℕ
    pub least : span.least ≤ delay
    pub greatest : delay ≤ span.greatest
    pub past : delay ≤ t / n
    pub is : t / n - delay ≡ (t - c) / n

  read : (span : Ends) (c t : ℕ) → c ≤ t → span.least * n ≤ c → c ≤ span.greatest * n
      → Read span c t
  read span c t past low high =
      let at : ℕ = (t - c) / n in
      let b : at * n ≤ t - c = begins n some (t - c) in
      let e : t - c < at * n + n = ends n some (t - c) in
      let tb : t / n * n ≤ t = begins n some t in
      let te : t < t / n * n + n = ends n some t in
      let early : at + span.least < t / n + 1 =
      below_back n some (at + span.least) (t / n + 1) (omega (arith, b, te, past, low)) in
      let late : t / n < at + 1 + span.greatest =
      below_back n some (t / n) (at + 1 + span.greatest) (omega (arith, e, tb, past, high)) in
      record {
        delay = t / n - at;
        least = omega (arith, early);
        greatest = omega (arith, late, early);
        past = omega arith;
        is = omega (arith, early);
      }

  come_read : (u : ℕ → Bool) (c d t : ℕ) → c ≤ t → t / n - d ≡ (t - c) / n → Comes u d (t / n)
      → Comes (cut n u) c t
  come_read u c d t past is h =
      record { past = past; on = subst (λ (x : ℕ). IsTrue (u x)) is h.on }

  all_whole : (u : ℕ → Bool) (span : Ends) (t : ℕ) → AllCome (cut n u) (cut_ends n span) t
      → AllCome u span (t / n)
  all_whole u span t all c low high =
      let h : Comes (cut n u) (c * n) t =
      all (c * n) (times n some span.least c low) (times n some c span.greatest high) in
      comes_whole n some u c t h

  all_fine : (u : ℕ → Bool) (span : Ends) (t : ℕ) → AllCome u span (t / n)
      → AllCome (cut n u) (cut_ends n span) t
  all_fine u span t all c low high =
      let ordered : span.least ≤ span.greatest =
      times_back n some span.least span.greatest (omega (arith, low, high)) in
      let last : span.greatest ≤ t / n = (all span.greatest ordered (omega arith)).past in
      let m : span.greatest * n ≤ t / n * n = times n some span.greatest (t / n) last in
      let b : t / n * n ≤ t = begins n some t in
      let past : c ≤ t = omega (arith, m, b, high) in
      let r : Read span c t = read span c t past low high in
      come_read u c r.delay t past r.is (all r.delay r.least r.greatest)

  some_whole : (u : ℕ → Bool) (span : Ends) (t : ℕ) → SomeComes (cut n u) (cut_ends n span) t
      → SomeComes u span (t / n)
  some_whole u span t h =
      let r : Read span h.c t = read span h.c t h.comes.past h.least h.greatest in
      record {
        c = r.delay;
        least = r.least;
        greatest = r.greatest;
        comes = record {
          past = r.past;
          on = subst (λ (x : ℕ). IsTrue (u x)) (sym r.is) h.comes.on;
        };
      }

  some_fine : (u : ℕ → Bool) (span : Ends) (t : ℕ) → SomeComes u span (t / n)
      → SomeComes (cut n u) (cut_ends n span) t
  some_fine u span t h = record {
    c = h.c * n;
    least = times n some span.least h.c h.least;
    greatest = times n some h.c span.greatest h.greatest;
    comes = comes_fine n some u h.c t h.comes;
  }

  module _ (laws : HistoryLaws) where
    pub rails_timed-cut : (u : ℕ → Rails) (p d : Ends) (t : ℕ)
        → rails_timed (cut n u) (cut_ends n p) (cut_ends n d) t ≡ rails_timed u p d (t / n)
    rails_timed-cut u p d t = same_rails _ _ _ _
        (timed-cut n some laws (λ r. (u r).must) p.greatest d.least t)
        (timed-cut n some laws (λ r. (u r).may) p.least d.greatest t)

    pub rails_sealed-cut : (a b : ℕ → Rails) (t : ℕ)
        → rails_sealed (cut n a) (cut n b) t ≡ rails_sealed a b (t / n)
    rails_sealed-cut a b t = same_rails _ _ _ _
        (sealed-cut n some laws (λ r. (a r).must) (λ r. (b r).must) t)
        (sealed-cut n some laws (λ r. (a r).may) (λ r. (b r).may) t)

    pub rails_delayed-cut : (u : ℕ → Rails) (span : Ends) (t : ℕ)
        → rails_delayed (cut n u) (cut_ends n span) t ≡ rails_delayed u span (t / n)
    rails_delayed-cut u span t = same_rails _ _ _ _
        (same_from_decides (rails_delayed (cut n u) (cut_ends n span) t).must
        (rails_delayed u span (t / n)).must
        (Decides-like _ (all_whole (λ r. (u r).must) span t) (all_fine (λ r. (u r).must) span t)
        (laws.delays.must (cut n u) (λ s. cut_ends n span) t))
        (laws.delays.must u (λ s. span) (t / n)))
        (same_from_decides (rails_delayed (cut n u) (cut_ends n span) t).may
        (rails_delayed u span (t / n)).may
        (Decides-like _ (some_whole (λ r. (u r).may) span t) (some_fine (λ r. (u r).may) span t)
        (laws.delays.may (cut n u) (λ s. cut_ends n span) t))
        (laws.delays.may u (λ s. span) (t / n)))
