-- Writers one after another: a writer that stops names the whole text.
use Rattle.std.proofs.Common.{ℕ, ◌+◌, List, ◌++◌, Option, Result, Ok, Err, refl, ◌∙◌, length}
use Rattle.std.proofs.Common.{take, ◌≤◌, length-append, arith}
use Rattle.std.proofs.lemmas.List.{take-append-le}
use Rattle.std.specs.Io.KnownBytes.{Appends}
use Rattle.base_text.specs.store.Sink.{GrewByPart}
use Rattle.base_text.specs.store.SinkLaws.{appends_both, proper_later, proper_more, take_past}
use Rattle.call_answer.specs.SinkLaws.{appends_none, grew_both}
use Rattle.call_answer.specs.Sinks.{SinkView, GrewByAll, WriteStops, Writes}
use Rattle.base_text.specs.declared.store.sink.PutFailed.{PutFailed}
use Rattle.base_memory.specs.declared.stopped.Stopped.{Stopped}
use Rattle.base_memory.specs.declared.stopped.Stopped.TheVariants as stopped

part_none : (a : Option (List ℕ)) (text : List ℕ) → GrewByPart a a text
part_none a text = record { count = 0; short = omega arith; taken = appends_none a }

part_more : (old new : Option (List ℕ)) (a b : List ℕ)
    → GrewByPart old new a → GrewByPart old new (a ++ b)
part_more old new a b p = record {
  count = p.count;
  short = (let e = length-append a b in let l = p.short in omega arith);
  taken = (let l : p.count ≤ length a = p.short in rw (take-append-le p.count a b) p.taken);
}

part_later : (old mid new : Option (List ℕ)) (a b : List ℕ)
    → Appends old mid a → GrewByPart mid new b → GrewByPart old new (a ++ b)
part_later old mid new a b p q = record {
  count = length a + q.count;
  short = (let e = length-append a b in let l = q.short in omega arith);
  taken = rw (take_past a b q.count) (appends_both old mid new a (take q.count b) p q.taken);
}

-- memory runs out before anything is written
pub stops_none : (s : SinkView) (text : List ℕ) → WriteStops s s text stopped.Memory
stops_none s text = record {
  sink = λ failed e. cc;
  memory = λ _. (refl, part_none s.written text);
}

-- a writer that stops, and more that would have followed
pub stops_more : {old new : SinkView} {a : List ℕ} {why : Stopped PutFailed} (b : List ℕ)
    → WriteStops old new a why → WriteStops old new (a ++ b) why
stops_more {old} {new} {a} {why} b w = record {
  sink = λ failed is.
      let p = w.sink failed is in (p.0, proper_more old.written new.written a b p.1);
  memory = λ is. let p = w.memory is in (p.0, part_more old.written new.written a b p.1);
}

-- a writer that stops after a text that is out
pub stops_then : {old mid new : SinkView} {a b : List ℕ} {why : Stopped PutFailed}
    → GrewByAll old mid a → WriteStops mid new b why → WriteStops old new (a ++ b) why
stops_then {old} {mid} {new} {a} {b} {why} g w = record {
  sink = λ failed is. let p = w.sink failed is in
      (rw g.same at p.0, proper_later old.written mid.written new.written a b g.taken p.1);
  memory = λ is. let p = w.memory is in
      (p.0 ∙ g.same, part_later old.written mid.written new.written a b g.taken p.1);
}

-- a writer after a text that is out
pub writes_then : {X : Type 0} (old mid new : SinkView) (a b : List ℕ) (r : Result X (Stopped PutFailed))
    → GrewByAll old mid a → Writes mid new b r → Writes old new (a ++ b) r
writes_then old mid new a b (Ok x) g w = grew_both g w
writes_then old mid new a b (Err e) g w = stops_then g w
