-- The clauses of the top call, from how it ends.
use Rattle.std.proofs.Common.{◌≡◌, ◌⊎◌, ◌<◌, ℕ, List, [], Option, None, Some, OnOk, Result, Ok}
use Rattle.std.proofs.Common.{Err, refl, subst, inl, inr}
use Rattle.std.specs.Io.KnownBytes.{Keeps}
use Rattle.base_text.specs.{store.Counts.Rose, store.CountLaws.not_more, store.Sink.GrewByPart}
use Rattle.base_text.specs.store.Sink.{GrewByProper}
use Rattle.call_engine.specs.Calls.{Calls}
use Rattle.call_files.specs.{FileLaws.no_cause, Files.NoneRose, Files.StoreCause}
use Rattle.call_files.specs.Status.{IsAnswer, IsDone, IsEarly, status_of, stop_status}
use Rattle.call_pilot.specs.{top.Call.Asked, top.Call.Told, top.Clauses.Call, top.Clauses.Clauses, top.Clauses.IsLine}
use Rattle.call_pilot.specs.{top.Clauses.OutIsAnswer, top.Clauses.OutGrew}
use Rattle.call_pilot.specs.{top.Ends.EndsOf, top.Headline.Headline, top.Words.Command}
use Rattle.call_files.specs.Messages.{message_of}
use Rattle.call_pilot.specs.top.Words.{files_named}
use Rattle.call_files.specs.{declared.stop.File.File, declared.stop.Status.Status}
use Rattle.call_answer.specs.Sinks.{SinkView, GrewByAll, Puts}
use Rattle.call_files.specs.declared.stop.Status.TheVariants as status
use Rattle.call_files.specs.declared.stop.Stop.{Stop}
use Rattle.call_files.specs.declared.stop.Stop.TheVariants as stop
use Rattle.call_answer.specs.SinkLaws.{put_or_part, same_faults, same_out}

-- 0 to 3 is none of the other statuses
not_done : {X : Type 0} (s t : Status) → IsDone s → (IsDone t → ⊥) → s ≡ t → X
not_done s t done never is = absurd (never (subst IsDone is done))

-- 0 to 3 is not 4 to 6
pub not_early : (s : Status) → IsDone s → IsEarly s → ⊥
not_early status.Good done early = early
not_early status.SomeNo done early = early
not_early status.SomeUndecided done early = early
not_early status.Rejected done early = early
not_early status.Usage done early = done
not_early status.BadInput done early = done
not_early status.StoreFault done early = done
not_early status.SinkFault done early = done
not_early status.Memory done early = done

-- 0 to 3 is an answer
done_answers : (s : Status) → IsDone s → IsAnswer s
done_answers status.Good done = tt
done_answers status.SomeNo done = tt
done_answers status.SomeUndecided done = tt
done_answers status.Rejected done = tt
done_answers status.Usage done = tt
done_answers status.BadInput done = tt
done_answers status.StoreFault done = done
done_answers status.SinkFault done = done
done_answers status.Memory done = done

module _ {K : Type 0} (view : K → SinkView) (old new : K) (files : List ℕ → Option (List ℕ))
    (c1 c2 : List ℕ → ℕ) where
  -- out was left as it was by status 4 to 6
  pub unwritten : (command : Option Command) (r : Result Status Stop)
      → EndsOf view command files c1 c2 old new r → IsEarly (status_of r) → new ≡ old
  unwritten None r e = λ early. e.2
  unwritten (Some x) (Ok s) e = λ early. absurd (not_early s e.1.0 early)
  unwritten (Some x) (Err stop.Usage) e = absurd e.1
  unwritten (Some x) (Err (stop.Refused why)) e = λ early. e.1.1
  unwritten (Some x) (Err (stop.Store f)) e = λ early. e.1
  unwritten (Some x) (Err stop.Sink) e = λ early. absurd early
  unwritten (Some x) (Err stop.Memory) e = λ early. absurd early

-- a call whose sink out is of a type K, and what is seen of its other parts
module _ {K : Type 0} (view : K → SinkView) (old new : K) (files : List ℕ → Option (List ℕ))
    (c1 c2 : List ℕ → ℕ) (e1 e2 : SinkView) (g1 g2 : Calls) where
  -- what the clauses see of the call of this command
  abbrev pub seen : Option Command → Call
  seen command = record {
    command = command;
    files = files;
    faults_old = c1;
    faults_new = c2;
    asked_old = g1;
    asked_new = g2;
    out_old = view old;
    out_new = view new;
    err_old = e1;
    err_new = e2;
  }

  answered : (command : Option Command) (r : Result Status Stop)
      → EndsOf view command files c1 c2 old new r → IsAnswer (status_of r)
      → Told command files → OutIsAnswer (seen command) (status_of r)
  answered None r e = rw e.0 (λ is told. record {
    text = [];
    line = message_of stop.Usage;
    is = (refl, refl, refl);
    out = same_out view old new e.2;
  })
  answered (Some x) (Ok s) e =
      λ is told. record { text = e.1.1; line = []; is = e.1.2 told; out = e.1.3.taken }
  answered (Some x) (Err stop.Usage) e = absurd e.1
  answered (Some x) (Err (stop.Refused why)) e = λ is told. record {
    text = [];
    line = message_of (stop.Refused why);
    is = e.1.0 told;
    out = same_out view old new e.1.1;
  }
  answered (Some x) (Err (stop.Store f)) e = λ is told. absurd is
  answered (Some x) (Err stop.Sink) e = λ is told. absurd is
  answered (Some x) (Err stop.Memory) e = λ is told. absurd is

  asked : (command : Option Command) (r : Result Status Stop)
      → OnOk r (Asked command files g1 g2) → IsDone (status_of r) → Asked command files g1 g2
  asked command (Ok s) a = λ done. a
  asked command (Err stop.Usage) a = λ done. absurd done
  asked command (Err (stop.Refused why)) a = λ done. absurd done
  asked command (Err (stop.Store file)) a = λ done. absurd done
  asked command (Err stop.Sink) a = λ done. absurd done
  asked command (Err stop.Memory) a = λ done. absurd done

  store_failed : (command : Option Command) (r : Result Status Stop)
      → EndsOf view command files c1 c2 old new r → status_of r ≡ status.StoreFault
      → (file : File) × StoreCause files c1 c2 (files_named command) file
  store_failed None r e = rw e.0 (λ is. cc)
  store_failed (Some x) (Ok s) e = λ is. not_done s status.StoreFault e.1.0 (λ bad. bad) is
  store_failed (Some x) (Err stop.Usage) e = absurd e.1
  store_failed (Some x) (Err (stop.Refused why)) e = λ is. cc
  store_failed (Some x) (Err (stop.Store f)) e = λ is. (f, e.0)
  store_failed (Some x) (Err stop.Sink) e = λ is. cc
  store_failed (Some x) (Err stop.Memory) e = λ is. cc

  store_told : (command : Option Command) (r : Result Status Stop)
      → EndsOf view command files c1 c2 old new r → (name : List ℕ) → c1 name < c2 name
      → status_of r ≡ status.StoreFault
  store_told None r e = λ name more. not_more _ _ (e.1 name) more
  store_told (Some x) (Ok s) e = λ name more. not_more _ _ (e.0 name) more
  store_told (Some x) (Err stop.Usage) e = absurd e.1
  store_told (Some x) (Err (stop.Refused why)) e = λ name more. not_more _ _ (e.0 name) more
  store_told (Some x) (Err (stop.Store f)) e = λ name more. refl
  store_told (Some x) (Err stop.Sink) e = λ name more. not_more _ _ (e.0 name) more
  store_told (Some x) (Err stop.Memory) e = λ name more. not_more _ _ (e.0 name) more

  sink_failed : (command : Option Command) (r : Result Status Stop)
      → EndsOf view command files c1 c2 old new r → status_of r ≡ status.SinkFault
      → Rose (view old).faults (view new).faults
      × (Told command files → OutGrew (seen command) GrewByProper)
  sink_failed None r e = rw e.0 (λ is. cc)
  sink_failed (Some x) (Ok s) e = λ is. not_done s status.SinkFault e.1.0 (λ bad. bad) is
  sink_failed (Some x) (Err stop.Usage) e = absurd e.1
  sink_failed (Some x) (Err (stop.Refused why)) e = λ is. cc
  sink_failed (Some x) (Err (stop.Store f)) e = λ is. cc
  sink_failed (Some x) (Err stop.Sink) e = λ is. (
    e.1.0,
    λ told. record {
      status = e.1.1;
      text = e.1.2;
      line = e.1.3;
      is = e.1.4 told;
      out = e.1.5;
    },
  )
  sink_failed (Some x) (Err stop.Memory) e = λ is. cc

  sink_told : (command : Option Command) (r : Result Status Stop)
      → EndsOf view command files c1 c2 old new r → (view old).faults < (view new).faults
      → status_of r ≡ status.SinkFault
  sink_told None r e = λ more. same_faults view old new e.2 more
  sink_told (Some x) (Ok s) e = λ more. not_more _ _ e.1.3.same more
  sink_told (Some x) (Err stop.Usage) e = absurd e.1
  sink_told (Some x) (Err (stop.Refused why)) e = λ more. same_faults view old new e.1.1 more
  sink_told (Some x) (Err (stop.Store f)) e = λ more. same_faults view old new e.1 more
  sink_told (Some x) (Err stop.Sink) e = λ more. refl
  sink_told (Some x) (Err stop.Memory) e = λ more. not_more _ _ e.1.0 more

  memory : (command : Option Command) (r : Result Status Stop)
      → EndsOf view command files c1 c2 old new r → status_of r ≡ status.Memory
      → Told command files
      → Keeps (view old).written (view new).written ⊎ OutGrew (seen command) GrewByPart
  memory None r e = rw e.0 (λ is. cc)
  memory (Some x) (Ok s) e = λ is. not_done s status.Memory e.1.0 (λ bad. bad) is
  memory (Some x) (Err stop.Usage) e = absurd e.1
  memory (Some x) (Err (stop.Refused why)) e = λ is. cc
  memory (Some x) (Err (stop.Store f)) e = λ is. cc
  memory (Some x) (Err stop.Sink) e = λ is. cc
  memory (Some x) (Err stop.Memory) e = λ is told. elim e.1.1 [
    | inl kept ↦ inl kept
    | inr grew ↦ inr (record {
      status = grew.0;
      text = grew.1;
      line = grew.2;
      is = grew.3 told;
      out = grew.4;
    })
  ]

  complete : (command : Option Command) (r : Result Status Stop)
      → EndsOf view command files c1 c2 old new r → Told command files
      → NoneRose c1 c2 (files_named command)
      → (Rose (view old).faults (view new).faults → ⊥)
      → (status_of r ≡ status.Memory) ⊎ OutIsAnswer (seen command) (status_of r)
  complete None r e = λ told none still. inr (answered None r e (rw e.0 tt) told)
  complete (Some x) (Ok s) e =
      λ told none still. inr (answered (Some x) (Ok s) e (done_answers s e.1.0) told)
  complete (Some x) (Err stop.Usage) e = absurd e.1
  complete (Some x) (Err (stop.Refused why)) e =
      λ told none still. inr (answered (Some x) (Err (stop.Refused why)) e tt told)
  complete (Some x) (Err (stop.Store f)) e =
      λ told none still. absurd (no_cause files c1 c2 _ f none e.0)
  complete (Some x) (Err stop.Sink) e = λ told none still. absurd (still e.1.0)
  complete (Some x) (Err stop.Memory) e = λ told none still. inl refl

  -- a stop is told by its line
  is_line : (command : Option Command) (why : Stop)
      → EndsOf view command files c1 c2 old new (Err why)
      → IsLine (seen command) (stop_status why) (message_of why)
  is_line None stop.Usage e = refl
  is_line None (stop.Refused why) e = cc
  is_line None (stop.Store f) e = cc
  is_line None stop.Sink e = refl
  is_line None stop.Memory e = refl
  is_line (Some x) stop.Usage e = absurd e.1
  is_line (Some x) (stop.Refused why) e = ((why, refl), λ told. e.1.0 told)
  is_line (Some x) (stop.Store f) e = (f, refl, e.0)
  is_line (Some x) stop.Sink e = refl
  is_line (Some x) stop.Memory e = refl

  -- 0 to 3 tells nothing
  done_line : (command : Option Command) (s : Status)
      → EndsOf view command files c1 c2 old new (Ok s) → IsLine (seen command) s []
  done_line None s e = cc
  done_line (Some x) status.Good e = refl
  done_line (Some x) status.SomeNo e = refl
  done_line (Some x) status.SomeUndecided e = refl
  done_line (Some x) status.Rejected e = refl
  done_line (Some x) status.Usage e = absurd e.1.0
  done_line (Some x) status.BadInput e = absurd e.1.0
  done_line (Some x) status.StoreFault e = absurd e.1.0
  done_line (Some x) status.SinkFault e = absurd e.1.0
  done_line (Some x) status.Memory e = absurd e.1.0

  -- the clauses, once the line to err is known
  closed : (command : Option Command) (r : Result Status Stop) (line : List ℕ)
      → EndsOf view command files c1 c2 old new r → OnOk r (Asked command files g1 g2)
      → IsLine (seen command) (status_of r) line
      → GrewByAll e1 e2 line ⊎ (Rose e1.faults e2.faults × GrewByPart e1.written e2.written line)
      → Headline command files (view old) (view new) (status_of r)
      → Clauses (seen command) (status_of r)
  closed command r line e a is told true_of = record {
    answered = answered command r e;
    asked = asked command r a;
    store_failed = store_failed command r e;
    store_told = store_told command r e;
    sink_failed = sink_failed command r e;
    sink_told = sink_told command r e;
    memory = memory command r e;
    complete = complete command r e;
    headline = true_of;
    line = line;
    is_line = is;
    reported = told;
  }

  -- the command is done, and err was left as it was
  pub closed_done : (command : Option Command) (s : Status)
      → EndsOf view command files c1 c2 old new (Ok s) → Asked command files g1 g2
      → GrewByAll e1 e2 [] → Headline command files (view old) (view new) s
      → Clauses (seen command) s
  closed_done command s e a quiet true_of =
      closed command (Ok s) [] e a (done_line command s e) (inl quiet) true_of

  -- the call stopped, and its line was put
  pub closed_stopped : {X Y : Type 0} (command : Option Command) (why : Stop) (put : Result X Y)
      → EndsOf view command files c1 c2 old new (Err why) → Puts e1 e2 (message_of why) put
      → Headline command files (view old) (view new) (stop_status why)
      → Clauses (seen command) (stop_status why)
  closed_stopped command why put e puts true_of =
      closed command (Err why) (message_of why) e tt (is_line command why e)
      (put_or_part e1 e2 (message_of why) put puts) true_of
