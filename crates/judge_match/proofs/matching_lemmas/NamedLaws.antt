-- Each head that a record file says is of a script.
use Rattle.std.proofs.Common.{◌≡◌, ◌<◌, ℕ, Bool, true, false, cond, List, [], ◌∷◌, ◌++◌, length}
use Rattle.std.proofs.Common.{map, Option, Some, None, Result, Ok, sym, ap, subst, ok_or}
use Rattle.std.proofs.lemmas.List.Elements.{All-nil, All-cons, All-head, All-tail, All-push}
use Rattle.std.proofs.lemmas.Map.Entries.{option_filter}
use Rattle.std.specs.Prelude.{◌&&◌, ◌==◌, nat_lt}
use Rattle.std.specs.{List.All, Str.bytes_eq}
use Rattle.base_text.specs.store.Number.{number_of}
use Rattle.model_line.specs.{declared.line.Line.Line, declared.script.Script.Script}
use Rattle.model_names.specs.NumbersByName.{script_named}
use Rattle.base_memory.specs.Gives.{◌>>=◌, passes_or}
use Rattle.base_records.specs.SoFar.{SoFar, all_of}
use Rattle.base_records.specs.ListLaws.{All-front, All-last, position_within}
use Rattle.base_memory.specs.CheckLaws.{filtered, found, passed, same_ok}
use Rattle.judge_match.specs.{declared.matching.change.Place.Place, declared.matching.fault.SeenFault.SeenFault}
use Rattle.judge_match.specs.declared.matching.fault.SeenFault.TheVariants as fault
use Rattle.judge_match.specs.matching.Heads.{HeadValues, with_head, AllHeadsNamed, IsNamed}
use Rattle.judge_match.specs.matching.Heads.{with_change}
use Rattle.judge_match.specs.matching.Waves.{SeenValues, seen_values, seen_of}
use Rattle.base_records.specs.Fields.{level_named}
use Rattle.judge_match.specs.matching.Checks.{is_head, is_taken, name_for, place_at, comes_later}
use Rattle.judge_match.specs.matching.Checks.{level_before, other_level, change_of}
use Rattle.judge_match.specs.matching.Records.{after_row, after_name, after_record}
use Rattle.judge_match.specs.{declared.matching.seen.Seen.Seen, matching.Row.Row, matching.Row.row_in}

none_is_not : {A B : Type 0} (x : A) → (let o : Option A = None in o ≡ Some x) → B
none_is_not x e = absurd (cc)

named_taken : (b : Bool) (x script : ℕ) → cond b None (Some x) ≡ Some script → x ≡ script
named_taken true x script e = none_is_not script e
named_taken false x script e = cc

named : (s : SoFar HeadValues) (head : Bool) (o : Option ℕ) (script : ℕ)
    → name_for s head o ≡ Some script → o ≡ Some script
named s head None script e = e
named s head (Some x) script e = ap Some (named_taken (head && is_taken s x) x script e)

module _ (line : Line) (scripts : List Script) where
  latest_named : (done : List HeadValues) (latest : Option HeadValues) (h : HeadValues)
      → latest ≡ Some h → AllHeadsNamed (length scripts) (record { done = done; latest = latest })
      → All (IsNamed (length scripts)) (done ++ h ∷ [])
  latest_named done None h e all = none_is_not h e
  latest_named done (Some g) h e all =
      let same : g ≡ h = cc in
      subst (λ (x : HeadValues). All (IsNamed (length scripts)) (done ++ x ∷ [])) same all

  changed : (s : SoFar HeadValues) (h : HeadValues) (p : Place) (t : ℕ) (level : Bool)
      → s.latest ≡ Some h → AllHeadsNamed (length scripts) s → AllHeadsNamed (length scripts) (with_change s h (change_of p t level))
  changed s h p t level e all =
      let both = latest_named s.done s.latest h e all in
      All-push (IsNamed (length scripts)) s.done
      (record {
        script = h.script;
        changes = h.changes ++ change_of p t level ∷ [];
        latest = Some (change_of p t level);
      })
      (All-front (IsNamed (length scripts)) s.done (h ∷ []) both)
      (All-last (IsNamed (length scripts)) s.done h both)

  row_named : (s : SoFar HeadValues) (n : ℕ) (row : Row) (script : ℕ) (t : SoFar HeadValues)
      → after_row line s n row script ≡ Ok t → AllHeadsNamed (length scripts) s → AllHeadsNamed (length scripts) t
  unfolding after_row
  row_named s n row script t e all =
      let own : HeadValues → Bool = λ h. h.script == script in
      let last : HeadValues → Place → ℕ → Bool → Result (SoFar HeadValues) SeenFault =
      λ h p k level. Ok (with_change s h (change_of p k level)) in
      let level : HeadValues → Place → Result Bool SeenFault =
      λ h p. ok_or (other_level (level_before h p) (level_named row.level)) (fault.Level n) in
      let later : HeadValues → Place → ℕ → Result (Unit {0}) SeenFault =
      λ h p k. passes_or (comes_later h.latest k p) (fault.Later n) in
      let tick : Result ℕ SeenFault =
      ok_or (option_filter (λ k. nat_lt k line.horizon) (number_of row.tick)) (fault.Ticks n) in
      let place : Result Place SeenFault = ok_or (place_at line row) (fault.BadPlace n) in
      let a = passed (ok_or (option_filter own s.latest) (fault.Order n))
      (λ h. place >>= λ p. tick >>= λ k. later h p k >>= λ l. level h p >>= last h p k) t e in
      let b = passed place
      (λ p. tick >>= λ k. later a.value p k >>= λ l. level a.value p >>= last a.value p k) t
      a.rest in
      let c = passed tick
      (λ k. later a.value b.value k >>= λ l. level a.value b.value >>= last a.value b.value k) t
      b.rest in
      let d = passed (later a.value b.value c.value)
      (λ l. level a.value b.value >>= last a.value b.value c.value) t c.rest in
      let f = passed (level a.value b.value) (last a.value b.value c.value) t d.rest in
      let same = same_ok (with_change s a.value (change_of b.value c.value f.value)) t f.rest in
      let head = found (option_filter own s.latest) (fault.Order n) a.value a.was in
      subst (λ (x : SoFar HeadValues). AllHeadsNamed (length scripts) x) same
      (changed s a.value b.value c.value f.value (filtered own s.latest a.value head).0 all)

  opened : (s : SoFar HeadValues) (script : ℕ) → script < length scripts → AllHeadsNamed (length scripts) s
      → AllHeadsNamed (length scripts) (with_head s script)
  opened s script less all =
      All-push (IsNamed (length scripts)) (all_of s)
      (record { script = script; changes = []; latest = None }) all less

  name_named : (b : Bool) (s : SoFar HeadValues) (n : ℕ) (row : Row) (script : ℕ) (t : SoFar HeadValues)
      → script < length scripts
      → cond b (Ok (with_head s script)) (after_row line s n row script) ≡ Ok t
      → AllHeadsNamed (length scripts) s → AllHeadsNamed (length scripts) t
  name_named true s n row script t less e all =
      subst (λ (x : SoFar HeadValues). AllHeadsNamed (length scripts) x) (same_ok (with_head s script) t e)
      (opened s script less all)
  name_named false s n row script t less e all = row_named s n row script t e all

  -- one record more
  pub record_named : (s : SoFar HeadValues) (n : ℕ) (fields : List (List ℕ)) (t : SoFar HeadValues)
      → after_record line scripts s n fields ≡ Ok t → AllHeadsNamed (length scripts) s → AllHeadsNamed (length scripts) t
  unfolding after_record
  record_named s n fields t e all =
      let named_by : Row → Option ℕ =
      λ row. name_for s (is_head row) (script_named scripts row.name) in
      let name : Row → Result ℕ SeenFault = λ row. ok_or (named_by row) (fault.BadName n) in
      let a = passed (ok_or (row_in fields) (fault.Fields n))
      (λ row. name row >>= after_name line s n row) t e in
      let b = passed (name a.value) (after_name line s n a.value) t a.rest in
      let known = named s (is_head a.value) (script_named scripts a.value.name) b.value
      (found (named_by a.value) (fault.BadName n) b.value b.was) in
      let within = position_within (λ x. bytes_eq x.name a.value.name) scripts b.value known in
      name_named (is_head a.value) s n a.value b.value t within b.rest all

  -- and what was seen under them
  pub seen_named : (all : List Seen) (heads : List HeadValues)
      → map seen_values all ≡ map (seen_of line) heads → All (IsNamed (length scripts)) heads
      → All (λ s. s.script < length scripts) all
  seen_named [] heads e named = All-nil (λ s. s.script < length scripts)
  seen_named (s ∷ all) [] e named = absurd (cc)
  seen_named (s ∷ all) (h ∷ heads) e named =
      let one : seen_values s ≡ seen_of line h = cc in
      let rest : map seen_values all ≡ map (seen_of line) heads = cc in
      let here = All-head (IsNamed (length scripts)) h heads named in
      All-cons (λ x. x.script < length scripts) s all
      (subst (λ (k : ℕ). k < length scripts) (sym (ap (λ (v : SeenValues). v.script) one)) here)
      (seen_named all heads rest (All-tail (IsNamed (length scripts)) h heads named))
