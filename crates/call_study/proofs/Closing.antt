-- The clauses of the top call, from how it ends.
use Rattle.std.proofs.Common.{◌≡◌, ◌⊎◌, ◌<◌, ℕ, List, [], Option, Ok, Err, refl, inl, inr}
use Rattle.base_files.specs.declared.reason.Reason.{Reason}
use Rattle.base_text.specs.{store.Counts.Rose, store.CountLaws.not_more}
use Rattle.call_answer.specs.{Sinks.SinkView}
use Rattle.call_answer.specs.SinkLaws.{same_faults, same_out}
use Rattle.call_files.specs.{FileLaws.no_cause, Files.NoneRose, Files.StoreCause}
use Rattle.call_files.specs.declared.stop.File.{File}
use Rattle.call_files.specs.declared.stop.Stop.TheVariants as stop
use Rattle.call_study.specs.{Answers.answer_over, Clauses.Call, Clauses.Clauses, Clauses.IsTold}
use Rattle.call_study.specs.{Clauses.OutIsAnswer, Clauses.OutIsFront, Clauses.TellsBytes, Ends.EndsOf}
use Rattle.call_study.specs.{Ends.TellsEnd}
use Rattle.call_work.specs.load.Halts.{End, IsAnswer, IsEarly}
use Rattle.call_work.specs.load.Request.{Request, files_of}
use Rattle.call_work.specs.declared.load.halt.Halt.TheVariants as halt

module _ {K : Type 0} (view : K → SinkView) (old new : K) (files : List ℕ → Option (List ℕ))
    (c1 c2 : List ℕ → ℕ) (request : Request) where
  abbrev EndsSo : End → Type 0
  EndsSo end = EndsOf view (answer_over request) files (files_of request)
      c1 c2 old new end

  -- out was left as it was where there is no picture for another cause
  pub unwritten : (end : End) → EndsSo end → IsEarly end → new ≡ old
  unwritten (Ok x) e early = absurd early
  unwritten (Err (halt.Stopped stop.Usage)) e early = absurd e
  unwritten (Err (halt.Stopped (stop.Refused why))) e early = e.1
  unwritten (Err (halt.Stopped (stop.Store f))) e early = e.1
  unwritten (Err (halt.Stopped stop.Sink)) e early = absurd early
  unwritten (Err (halt.Stopped stop.Memory)) e early = e.1
  unwritten (Err (halt.Denied why)) e early = e.1

  module _ (reason : Reason) (e1 e2 : SinkView) where
    -- what the clauses see of the call
    abbrev pub seen : Call
    seen = record {
      request = request;
      files = files;
      faults_old = c1;
      faults_new = c2;
      reason = reason;
      out_old = view old;
      out_new = view new;
      err_old = e1;
      err_new = e2;
    }

    answered : (end : End) → EndsSo end → IsAnswer end → IsTold seen → OutIsAnswer seen end
    answered (Ok d) e is told = record {
      text = e.1.text;
      is = e.1.is told;
      out = e.1.grew.taken;
    }
    answered (Err (halt.Stopped stop.Usage)) e is told = absurd e
    answered (Err (halt.Stopped (stop.Refused why))) e is told =
        record { text = []; is = e.2 told; out = same_out view old new e.1 }
    answered (Err (halt.Stopped (stop.Store f))) e is told = absurd is
    answered (Err (halt.Stopped stop.Sink)) e is told = absurd is
    answered (Err (halt.Stopped stop.Memory)) e is told = absurd is
    answered (Err (halt.Denied why)) e is told =
        record { text = []; is = e.2 told; out = same_out view old new e.1 }

    store_failed : (end : End) → EndsSo end → (file : File)
        → end ≡ Err (halt.Stopped (stop.Store file))
        → StoreCause files c1 c2 (files_of request) file
    store_failed end e file is = (rw is at e).0

    store_told : (end : End) → EndsSo end → (name : List ℕ) → c1 name < c2 name
        → (file : File) × (end ≡ Err (halt.Stopped (stop.Store file)))
    store_told (Ok x) e name more = not_more _ _ (e.0 name) more
    store_told (Err (halt.Stopped stop.Usage)) e name more = absurd e
    store_told (Err (halt.Stopped (stop.Refused why))) e name more = not_more _ _ (e.0 name) more
    store_told (Err (halt.Stopped (stop.Store f))) e name more = (f, refl)
    store_told (Err (halt.Stopped stop.Sink)) e name more = not_more _ _ (e.0 name) more
    store_told (Err (halt.Stopped stop.Memory)) e name more = not_more _ _ (e.0 name) more
    store_told (Err (halt.Denied why)) e name more = not_more _ _ (e.0 name) more

    sink_failed : (end : End) → EndsSo end → end ≡ Err (halt.Stopped stop.Sink)
        → Rose (view old).faults (view new).faults × (IsTold seen → OutIsFront seen)
    sink_failed end e is = let f = rw is at e in (
      f.1.grew.0,
      λ told. record { text = f.1.text; is = (f.1.is.0, f.1.is.1 told); out = f.1.grew.1 },
    )

    sink_told : (end : End) → EndsSo end → (view old).faults < (view new).faults
        → end ≡ Err (halt.Stopped stop.Sink)
    sink_told (Ok x) e more = not_more _ _ e.1.grew.same more
    sink_told (Err (halt.Stopped stop.Usage)) e more = absurd e
    sink_told (Err (halt.Stopped (stop.Refused why))) e more = same_faults view old new e.1 more
    sink_told (Err (halt.Stopped (stop.Store f))) e more = same_faults view old new e.1 more
    sink_told (Err (halt.Stopped stop.Sink)) e more = refl
    sink_told (Err (halt.Stopped stop.Memory)) e more = same_faults view old new e.1 more
    sink_told (Err (halt.Denied why)) e more = same_faults view old new e.1 more

    complete : (end : End) → EndsSo end → IsTold seen → NoneRose c1 c2 (files_of request)
        → (Rose (view old).faults (view new).faults → ⊥)
        → (end ≡ Err (halt.Stopped stop.Memory)) ⊎ OutIsAnswer seen end
    complete (Ok x) e told none still = inr (answered (Ok x) e tt told)
    complete (Err (halt.Stopped stop.Usage)) e told none still = absurd e
    complete (Err (halt.Stopped (stop.Refused why))) e told none still =
        inr (answered _ e tt told)
    complete (Err (halt.Stopped (stop.Store f))) e told none still =
        absurd (no_cause files c1 c2 (files_of request) f none e.0)
    complete (Err (halt.Stopped stop.Sink)) e told none still = absurd (still e.1.grew.0)
    complete (Err (halt.Stopped stop.Memory)) e told none still = inl refl
    complete (Err (halt.Denied why)) e told none still = inr (answered _ e tt told)

    -- the clauses, once the line to err is put
    pub closed : (end : End) → EndsSo end
        → TellsEnd request (TellsBytes seen) reason end e1 e2
        → Clauses seen end
    closed end e told = record {
      answered = answered end e;
      store_failed = store_failed end e;
      store_told = store_told end e;
      sink_failed = sink_failed end e;
      sink_told = sink_told end e;
      complete = complete end e;
      reported = told;
    }
