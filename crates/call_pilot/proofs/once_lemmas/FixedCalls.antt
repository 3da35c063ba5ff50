-- Two calls with the same words and files end alike.
use Rattle.std.proofs.Common.{◌≡◌, ℕ, List, [], Option, sym, ◌∙◌, subst}
use Rattle.std.specs.Io.KnownBytes.{Appends}
use Rattle.call_pilot.specs.top.Clauses.{Call, Clauses, IsLine, IsTold}
use Rattle.call_pilot.specs.{top.Call.Told, top.Call.answers}
use Rattle.call_pilot.specs.{once.Fixed.AreAlike, once.Fixed.IsTextFixed}
use Rattle.call_files.specs.Status.{IsAnswer}
use Rattle.call_pilot.specs.top.Words.{Command}
use Rattle.call_files.specs.declared.stop.Status.{Status}
use Rattle.call_files.specs.declared.stop.Status.TheVariants as status

-- answers of these files are one
abbrev pub AreOne : Option Command → Type 0
AreOne command =
    (files : List ℕ → Option (List ℕ)) (s t : Status) (x y m n : List ℕ)
    → answers command files s x m → answers command files t y n
    → (s ≡ t) × (m ≡ n) × (IsTextFixed command → x ≡ y)

module _ (one other : Call) (commands : other.command ≡ one.command)
    (files : other.files ≡ one.files) (told : IsTold one) (fixed : AreOne one.command) where
  told_too : IsTold other
  told_too =
      subst (λ (f : List ℕ → Option (List ℕ)). Told other.command f) (sym files)
      (subst (λ (c : Option Command). Told c one.files) (sym commands) told)

  answer_of : (t : Status) (y n : List ℕ) → answers other.command other.files t y n
      → answers one.command one.files t y n
  answer_of t y n is =
      subst (λ (c : Option Command). answers c one.files t y n) commands
      (subst (λ (f : List ℕ → Option (List ℕ)). answers other.command f t y n) files is)

  line_once : (s : Status) (m n : List ℕ) → IsAnswer s → IsLine one s m → IsLine other s n → m ≡ n
  line_once status.Good m n is p q = p ∙ sym q
  line_once status.SomeNo m n is p q = p ∙ sym q
  line_once status.SomeUndecided m n is p q = p ∙ sym q
  line_once status.Rejected m n is p q = p ∙ sym q
  line_once status.Usage m n is p q = p ∙ sym q
  line_once status.BadInput m n is p q =
      (fixed one.files status.BadInput status.BadInput [] [] m n (p.1 told)
      (answer_of status.BadInput [] n (q.1 told_too))).1
  line_once status.StoreFault m n is p q = absurd is
  line_once status.SinkFault m n is p q = absurd is
  line_once status.Memory m n is p q = absurd is

  pub alike : (s t : Status) (p : Clauses one s) (q : Clauses other t) → IsAnswer s → IsAnswer t
      → AreAlike one other s t p.line q.line
  alike s t p q first second =
      let a = p.answered first told in
      let b = q.answered second told_too in
      let same =
      fixed one.files s t a.text b.text a.line b.line a.is (answer_of t b.text b.line b.is) in
      record {
        status = same.0;
        line = line_once s p.line q.line first p.is_line
            (subst (λ (u : Status). IsLine other u q.line) (sym same.0) q.is_line);
        text = λ spelt. (
          a.text,
          a.out,
          subst (λ (text : List ℕ). Appends other.out_old.written other.out_new.written text)
              (sym (same.2 spelt)) b.out,
        );
      }
