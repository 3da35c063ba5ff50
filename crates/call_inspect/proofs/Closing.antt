-- The clauses of the call, from how it ends.
use Rattle.std.proofs.Common.{◌≡◌, ◌⊎◌, ◌<◌, ℕ, List, Ok, Err, refl, inl, inr}
use Rattle.base_files.specs.declared.reason.Reason.{Reason}
use Rattle.base_text.specs.{store.Counts.Rose, store.CountLaws.not_more, store.Sink.GrewByPart}
use Rattle.call_answer.specs.{Sinks.GrewByAll, Sinks.SinkView}
use Rattle.call_answer.specs.SinkLaws.{same_faults}
use Rattle.call_answer.specs.declared.done.Done.{Done}
use Rattle.call_inspect.specs.{Clauses.Call, Clauses.Clauses, Clauses.OutIsAnswer, Clauses.OutIsFront}
use Rattle.call_inspect.specs.{Ends.EndsOf, Files.Held, Files.IsCause, Files.NoneRose}
use Rattle.call_inspect.specs.Halts.{End, IsEarly, line_of}
use Rattle.call_inspect.specs.declared.halt.Halt.TheVariants as halt

module _ {K : Type 0} (view : K → SinkView) (old new : K) (files : Held) (c1 c2 : List ℕ → ℕ)
    (names : List (List ℕ)) where
  abbrev EndsSo : End → Type 0
  EndsSo end = EndsOf view files c1 c2 names old new end

  -- out was left as it was where there is no text for another cause
  pub unwritten : (end : End) → EndsSo end → IsEarly end → new ≡ old
  unwritten (Ok status) e early = absurd early
  unwritten (Err (halt.Unread i)) e early = e.1
  unwritten (Err halt.Sink) e early = absurd early
  unwritten (Err halt.Memory) e early = e.1

  module _ (why : Reason) (e1 e2 : SinkView) where
    -- what the clauses see of the call
    abbrev pub seen : Call
    seen = record {
      names = names;
      files = files;
      faults_old = c1;
      faults_new = c2;
      reason = why;
      out_old = view old;
      out_new = view new;
      err_old = e1;
      err_new = e2;
    }

    done : (status : Done) → EndsSo (Ok status) → OutIsAnswer seen status
    done status e = record { text = e.1.text; is = e.1.is; out = e.1.grew.taken }

    answered : (end : End) → EndsSo end → (status : Done) → end ≡ Ok status → OutIsAnswer seen status
    answered end e status is = done status (rw is at e)

    store_failed : (end : End) → EndsSo end → (i : ℕ) → end ≡ Err (halt.Unread i)
        → IsCause c1 c2 names i
    store_failed end e i is = (rw is at e).0

    store_told : (end : End) → EndsSo end → (name : List ℕ) → c1 name < c2 name
        → (i : ℕ) × (end ≡ Err (halt.Unread i))
    store_told (Ok status) e name more = not_more _ _ (e.0 name) more
    store_told (Err (halt.Unread i)) e name more = (i, refl)
    store_told (Err halt.Sink) e name more = not_more _ _ (e.0 name) more
    store_told (Err halt.Memory) e name more = not_more _ _ (e.0 name) more

    sink_failed : (end : End) → EndsSo end → end ≡ Err halt.Sink
        → Rose (view old).faults (view new).faults × OutIsFront seen
    sink_failed end e is = let f = rw is at e in (
      f.1.grew.0,
      record { text = f.1.text; is = f.1.is; out = f.1.grew.1 },
    )

    sink_told : (end : End) → EndsSo end → (view old).faults < (view new).faults
        → end ≡ Err halt.Sink
    sink_told (Ok status) e more = not_more _ _ e.1.grew.same more
    sink_told (Err (halt.Unread i)) e more = same_faults view old new e.1 more
    sink_told (Err halt.Sink) e more = refl
    sink_told (Err halt.Memory) e more = same_faults view old new e.1 more

    complete : (end : End) → EndsSo end → NoneRose c1 c2 names
        → (Rose (view old).faults (view new).faults → ⊥)
        → (end ≡ Err halt.Memory) ⊎ ((status : Done) × OutIsAnswer seen status × (end ≡ Ok status))
    complete (Ok status) e none still = inr (status, done status e, refl)
    complete (Err (halt.Unread i)) e none still = absurd (none i e.0)
    complete (Err halt.Sink) e none still = absurd (still e.1.grew.0)
    complete (Err halt.Memory) e none still = inl refl

    -- the clauses, once the line to err is put
    pub closed : (end : End) → EndsSo end
        → GrewByAll e1 e2 (line_of names why end)
        ⊎ (Rose e1.faults e2.faults × GrewByPart e1.written e2.written (line_of names why end))
        → Clauses seen end
    closed end e told = record {
      answered = answered end e;
      store_failed = store_failed end e;
      store_told = store_told end e;
      sink_failed = sink_failed end e;
      sink_told = sink_told end e;
      complete = complete end e;
      reported = told;
    }
