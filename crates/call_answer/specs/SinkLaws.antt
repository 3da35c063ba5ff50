-- Laws of what a sink took: nothing, one text after another, and a line, whatever came of its put.
use Rattle.std.proofs.Common.{◌≡◌, ◌⊎◌, ◌<◌, ℕ, List, [], ◌++◌, Option, None, Some, Result, Ok, Err}
use Rattle.std.proofs.Common.{refl, sym, ap, ◌∙◌, inl, inr}
use Rattle.std.proofs.lemmas.List.{append-nil}
use Rattle.std.specs.Io.KnownBytes.{Appends, Keeps}
use Rattle.base_text.specs.{store.Counts.Rose, store.CountLaws.not_more, store.Sink.GrewByPart}
use Rattle.base_text.specs.store.SinkLaws.{appends_both, part_of_proper}
use Rattle.call_answer.specs.Sinks.{SinkView, GrewByAll, Puts}

pub appends_none : (a : Option (List ℕ)) → Appends a a []
appends_none None = tt
appends_none (Some xs) = sym (append-nil xs)

pub keeps_same : (a : Option (List ℕ)) → Keeps a a
keeps_same None = tt
keeps_same (Some xs) = refl

pub grew_none : (s : SinkView) → GrewByAll s s []
grew_none s = record { taken = appends_none s.written; same = refl }

pub grew_both : {a b c : SinkView} {x y : List ℕ}
    → GrewByAll a b x → GrewByAll b c y → GrewByAll a c (x ++ y)
grew_both {a} {b} {c} {x} {y} p q = record {
  taken = appends_both a.written b.written c.written x y p.taken q.taken;
  same = q.same ∙ p.same;
}

-- a put of a line, whatever came of it
pub put_or_part : {X Y : Type 0} (old new : SinkView) (line : List ℕ) (r : Result X Y)
    → Puts old new line r
    → GrewByAll old new line
    ⊎ (Rose old.faults new.faults × GrewByPart old.written new.written line)
put_or_part old new line (Ok x) puts = inl puts
put_or_part old new line (Err y) puts =
    inr (puts.0, part_of_proper old.written new.written line puts.1)

-- a sink that is as it was took nothing, and counted no fault
module _ {K : Type 0} (view : K → SinkView) (old new : K) where
  pub same_out : new ≡ old → Appends (view old).written (view new).written []
  same_out is = rw is (appends_none (view old).written)

  pub same_faults : {X : Type 0} → new ≡ old → (view old).faults < (view new).faults → X
  same_faults is more = not_more _ _ (ap (λ k. (view k).faults) is) more
