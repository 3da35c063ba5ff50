use Rattle.std.proofs.Common.{◌≡◌, eqb, ◌∙◌, sym, refl, arith, inl, inr}
use Rattle.std.proofs.Math.Nat.{le_refl, le_trans}
use Rattle.std.proofs.lemmas.Bool.{false≢true}
use Rattle.std.proofs.lemmas.Bool.Decides.{Decides-eqb}
use Rattle.std.proofs.lemmas.List.{append-nil}
use Rattle.std.proofs.lemmas.List.Elements.{contains_decides, Decides-contains}
use Rattle.base_text.proofs.store_lemmas.Counted.{raised-le, none_below}
use Rattle.base_text.proofs.store_lemmas.Pieces.{at_most-le, at_most-zero, least-le, min_some}
use Rattle.base_text.proofs.store.memory_sink.MemorySinkSink.push.Goals as goal
use Rattle.base_text.proofs.store.memory_sink.MemorySinkSink.push.Goals.{then-room-eq0-via-then-room-eq0}
use Rattle.base_text.proofs.store.memory_sink.MemorySinkSink.push.Goals.{then-room-eq0-via-else-room-eq0+then-contains}

pub invariant_of-self : goal.invariant_of-self
invariant_of-self c = c.self.invariant

pub returns-then-room-eq0 : goal.returns-then-room-eq0
returns-then-room-eq0 c =
    let pushed = c.saturating_add-self-inside.ensures in
    let failed = c.saturating_add-self-inside-then-room-eq0.ensures in
    rw (← c.self.view_is) (record {
      bound = tt;
      bytes = refl;
      later = raised-le _ 1 _ failed (omega arith);
      failed = rw failed (le_refl _);
      took_none = tt;
      took = tt;
      pushed = raised-le _ 1 _ pushed (omega arith);
      pushes = pushed;
      exact = (
        λ _. elim c.then-room-eq0.branch [
          | then-room-eq0-via-then-room-eq0 w ↦ inr (omega arith)
          | then-room-eq0-via-else-room-eq0+then-contains w ↦ inl (rw (← pushed, ← w.deref.ensures.value)
              ((Decides-contains _ _ _ (contains_decides eqb Decides-eqb _ _ _ w.contains.ensures.cases)).0
              w.if-contains.true))
        ],
        λ _. refl,
      );
      none = tt;
      fault = rw (pushed, failed) refl;
      none_fault = tt;
      count = tt;
      grew = tt;
    })

pub invariant_of-self-then-contains-2 : goal.invariant_of-self-then-contains-2
invariant_of-self-then-contains-2 c = c.self.invariant

pub returns-then-contains-2 : goal.returns-then-contains-2
returns-then-contains-2 c =
    let pushed = c.saturating_add-self-inside.ensures in
    let failed = c.saturating_add-self-inside-then-contains-2.ensures in
    let fails = Decides-contains _ _ _ (contains_decides eqb Decides-eqb _ _ _ c.contains.ensures.cases) in
    let takes = Decides-contains _ _ _ (contains_decides eqb Decides-eqb _ _ _ c.contains-2.ensures.cases) in
    let takes_none = rw (c.deref-2.ensures.value, pushed) at (takes.0 c.if-contains-2.true) in
    rw (← c.self.view_is) (record {
      bound = omega arith;
      bytes = sym (append-nil _);
      later = raised-le _ 1 _ failed (omega arith);
      failed = tt;
      took_none = λ _. rw failed (le_refl _);
      took = none_below;
      pushed = raised-le _ 1 _ pushed (omega arith);
      pushes = pushed;
      exact = (
        λ same. absurd (false≢true same),
        λ failing. elim failing [
          | inl said ↦ sym c.if-contains.false ∙ fails.1 (rw (c.deref.ensures.value, pushed) said)
          | inr full ↦ absurd (omega arith)
        ],
      );
      none = (λ _. takes_none, λ _. refl);
      fault = tt;
      none_fault = λ _. rw (pushed, failed) refl;
      count = none_below;
      grew = none_below;
    })

pub returns : goal.returns
returns c =
    let pushed = c.saturating_add-self-inside.ensures in
    let taken = c.at_most-count.ensures in
    let room = rw (c.len.ensures ∙ c.self.inside.written.ok.0) at c.min.ensures in
    let items = rw c.unwrap.ensures at c.extend_from_slice.ensures.items in
    let some : c.at_most-count.result ≡ 0 → ⊥ =
    λ none. min_some _ _ _ c.min.ensures c.requires c.if-room-eq0.false
    (at_most-zero _ _ c.self.invariant.2 (sym taken ∙ none)) in
    let fails = Decides-contains _ _ _ (contains_decides eqb Decides-eqb _ _ _ c.contains.ensures.cases) in
    let takes = Decides-contains _ _ _ (contains_decides eqb Decides-eqb _ _ _ c.contains-2.ensures.cases) in
    rw (← c.self.view_is) (record {
      bound = rw taken (le_trans (at_most-le _ _) (least-le _ _ _ c.min.ensures));
      bytes = items;
      later = le_refl _;
      failed = tt;
      took_none = λ none. absurd (some none);
      took = λ _. refl;
      pushed = raised-le _ 1 _ pushed (omega arith);
      pushes = pushed;
      exact = (
        λ same. absurd (false≢true same),
        λ failing. elim failing [
          | inl said ↦ sym c.if-contains.false ∙ fails.1 (rw (c.deref.ensures.value, pushed) said)
          | inr full ↦ absurd (omega arith)
        ],
      );
      none = (
        λ none. absurd (some none),
        λ told. absurd (false≢true (sym c.if-contains-2.false
            ∙ takes.1 (rw (c.deref-2.ensures.value, pushed) told))),
      );
      fault = tt;
      none_fault = λ none. absurd (some none);
      count = λ _. rw (← room) taken;
      grew = λ _. rw (items, pushed) refl;
    })
