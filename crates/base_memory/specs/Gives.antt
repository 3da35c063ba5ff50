-- What a call answers, beside what its definition says, where memory may run out.
use Rattle.std.specs.Prelude.{◌≡◌, Bool, true, false, Result, Ok, Err, ⊤}
use Rattle.base_memory.specs.declared.stopped.Stopped.{Stopped}
use Rattle.base_memory.specs.declared.stopped.Stopped.TheVariants as stopped

-- ---- what is said

-- one check and then the next, which sees what the first one gave; the first fault ends it
infixl 10 ◌>>=◌
abbrev pub ◌>>=◌ : {A B F : Type 0} → Result A F → (A → Result B F) → Result B F
(Ok x) >>= next = next x
(Err fault) >>= next = Err fault

-- it passes, or else this fault
abbrev pub passes_or : {F : Type 0} → Bool → F → Result (Unit {0}) F
passes_or true fault = Ok tt
passes_or false fault = Err fault

-- a borrowed result as its value
abbrev pub seen : {X Y F : Type 0} → (X → Y) → Result X F → Result Y F
seen view (Ok x) = Ok (view x)
seen view (Err fault) = Err fault

-- ---- what is answered

-- this is so of the fault; want of memory says nothing
abbrev pub OfFault : {F : Type 0} → (F → Type 0) → Stopped F → Type 0
OfFault P (stopped.Fault fault) = P fault
OfFault P stopped.Memory = ⊤

-- the fault is what is said, unless memory ran out
abbrev pub Fails : {Y F : Type 0} → Stopped F → Result Y F → Type 0
Fails (stopped.Fault fault) said = said ≡ Err fault
Fails stopped.Memory said = ⊤

-- a result, seen by view, is what is said, unless memory ran out
abbrev pub Gives : {X Y F : Type 0} → (X → Y) → Result X (Stopped F) → Result Y F → Type 0
Gives view (Ok x) said = said ≡ Ok (view x)
Gives view (Err why) said = Fails why said

-- a value that a call changed is at its end what is said, unless memory ran out
abbrev pub Becomes : {Y F : Type 0} → Result (Unit {0}) (Stopped F) → Y → Result Y F → Type 0
Becomes (Ok done) new said = said ≡ Ok new
Becomes (Err why) new said = Fails why said
