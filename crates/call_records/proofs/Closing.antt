-- The clauses of the call, from how it ends.
use Rattle.std.proofs.Common.{◌≡◌, ◌⊎◌, ◌<◌, ℕ, List, [], Ok, Err, refl, inl, inr}
use Rattle.base_files.specs.declared.reason.Reason.{Reason}
use Rattle.base_text.specs.{store.Counts.Rose, store.CountLaws.not_more, store.Sink.GrewByPart}
use Rattle.call_answer.specs.{Sinks.GrewByAll, Sinks.SinkView}
use Rattle.call_answer.specs.SinkLaws.{same_faults, same_out}
use Rattle.call_records.specs.{Clauses.Call, Clauses.Clauses, Clauses.IsTold, Clauses.OutIsAnswer}
use Rattle.call_records.specs.{Clauses.OutIsFront, Course.course_of, Ends.EndsOf, Request.Request}
use Rattle.call_records.specs.Files.{Cause, Held, NoneRose}
use Rattle.call_records.specs.Halts.{End, IsAnswer, IsEarly, line_of, told_of}
use Rattle.call_records.specs.declared.halt.File.{File}
use Rattle.call_records.specs.declared.halt.Halt.TheVariants as halt
use Rattle.call_records.proofs.Running.{no_cause}

module _ {K : Type 0} (view : K → SinkView) (old new : K) (files : Held) (c1 c2 : List ℕ → ℕ)
    (request : Request) where
  abbrev EndsSo : End → Type 0
  EndsSo end = EndsOf view files c1 c2 (course_of request) old new end

  -- out was left as it was where there is no text for another cause
  pub unwritten : (end : End) → EndsSo end → IsEarly end → new ≡ old
  unwritten (Ok x) e early = absurd early
  unwritten (Err (halt.Refused line)) e early = e.1
  unwritten (Err (halt.Store f)) e early = e.1
  unwritten (Err halt.Sink) e early = absurd early
  unwritten (Err halt.Memory) e early = e.1

  module _ (why : Reason) (e1 e2 : SinkView) where
    -- what the clauses see of the call
    abbrev pub seen : Call
    seen = record {
      request = request;
      files = files;
      faults_old = c1;
      faults_new = c2;
      reason = why;
      out_old = view old;
      out_new = view new;
      err_old = e1;
      err_new = e2;
    }

    answered : (end : End) → EndsSo end → IsAnswer end → IsTold seen → OutIsAnswer seen end
    answered (Ok d) e is told = record {
      text = e.1.text;
      is = e.1.is told;
      out = e.1.grew.taken;
    }
    answered (Err (halt.Refused line)) e is told =
        record { text = []; is = e.2 told; out = same_out view old new e.1 }
    answered (Err (halt.Store f)) e is told = absurd is
    answered (Err halt.Sink) e is told = absurd is
    answered (Err halt.Memory) e is told = absurd is

    store_failed : (end : End) → EndsSo end → (file : File) → end ≡ Err (halt.Store file)
        → Cause files c1 c2 (course_of request) (told_of file)
    store_failed end e file is = (rw is at e).0

    store_told : (end : End) → EndsSo end → (name : List ℕ) → c1 name < c2 name
        → (file : File) × (end ≡ Err (halt.Store file))
    store_told (Ok x) e name more = not_more _ _ (e.0 name) more
    store_told (Err (halt.Refused line)) e name more = not_more _ _ (e.0 name) more
    store_told (Err (halt.Store f)) e name more = (f, refl)
    store_told (Err halt.Sink) e name more = not_more _ _ (e.0 name) more
    store_told (Err halt.Memory) e name more = not_more _ _ (e.0 name) more

    sink_failed : (end : End) → EndsSo end → end ≡ Err halt.Sink
        → Rose (view old).faults (view new).faults × (IsTold seen → OutIsFront seen)
    sink_failed end e is = let f = rw is at e in (
      f.1.grew.0,
      λ told. record { text = f.1.text; is = f.1.is told; out = f.1.grew.1 },
    )

    sink_told : (end : End) → EndsSo end → (view old).faults < (view new).faults
        → end ≡ Err halt.Sink
    sink_told (Ok x) e more = not_more _ _ e.1.grew.same more
    sink_told (Err (halt.Refused line)) e more = same_faults view old new e.1 more
    sink_told (Err (halt.Store f)) e more = same_faults view old new e.1 more
    sink_told (Err halt.Sink) e more = refl
    sink_told (Err halt.Memory) e more = same_faults view old new e.1 more

    complete : (end : End) → EndsSo end → IsTold seen → NoneRose files c1 c2 (course_of request)
        → (Rose (view old).faults (view new).faults → ⊥)
        → (end ≡ Err halt.Memory) ⊎ OutIsAnswer seen end
    complete (Ok x) e told none still = inr (answered (Ok x) e tt told)
    complete (Err (halt.Refused line)) e told none still = inr (answered _ e tt told)
    complete (Err (halt.Store f)) e told none still =
        absurd (no_cause files c1 c2 (course_of request) (told_of f) none e.0)
    complete (Err halt.Sink) e told none still = absurd (still e.1.grew.0)
    complete (Err halt.Memory) e told none still = inl refl

    -- the clauses, once the line to err is put
    pub closed : (end : End) → EndsSo end
        → GrewByAll e1 e2 (line_of request why end)
        ⊎ (Rose e1.faults e2.faults × GrewByPart e1.written e2.written (line_of request why end))
        → Clauses seen end
    closed end e told = record {
      answered = answered end e;
      store_failed = store_failed end e;
      store_told = store_told end e;
      sink_failed = sink_failed end e;
      sink_told = sink_told end e;
      complete = complete end e;
      reported = told;
    }
