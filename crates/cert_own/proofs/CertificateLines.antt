-- The whole lines of a certificate: each verdict line is one of a claim.
use Rattle.std.proofs.Common.{◌≡◌, ◌&&◌, ℕ, zero, suc, true, List, [], ◌∷◌, ◌++◌, Some}
use Rattle.std.proofs.Common.{length, drop, get_or, map, refl, sym, ◌∙◌, ap, subst, arith}
use Rattle.std.proofs.Common.{append_assoc}
use Rattle.std.proofs.lemmas.List.Elements.{All-head, All-tail}
use Rattle.std.proofs.lemmas.Option.{get_or_from_slice_get, same_Some, slice_get_within}
use Rattle.std.specs.Prelude.{IsTrue, nat_le, slice_get}
use Rattle.std.specs.List.{All, flat_map, list_all}
use Rattle.run_signal.specs.declared.tern.Tern.{Tern}
use Rattle.model_line.specs.PlainNames.{is_plain_byte, is_plain_name}
use Rattle.model_line.specs.{declared.line.Line.Line, declared.script.Script.Script}
use Rattle.model_line.specs.{Terminals.are_plain_names, declared.line.Terminal.Terminal}
use Rattle.base_text.specs.lines.Lines.{BeginsWith, Lines}
use Rattle.base_text.specs.lines.LineLaws.{both_true}
use Rattle.base_text.specs.lines.NamedLaws.{first_same}
use Rattle.cert_claims.specs.text.Grammar.{Claims, HasNumbers, HasOneEach, IsCertificate, Place, Said}
use Rattle.cert_claims.specs.text.Grammar.{Stands, Verdict, yes, no, undecided, end_text, fixed}
use Rattle.cert_claims.specs.text.Grammar.{head_text, key_of, key_text, opens_none}
use Rattle.cert_claims.specs.text.Grammar.{part_places, part_said, says_key, says_nothing, says_verdict}
use Rattle.cert_claims.specs.text.Grammar.{script_text, terminal_names, verdict_of, verdict_text}
use Rattle.cert_claims.specs.text.Grammar.{verdict_words}
use Rattle.cert_claims.specs.{text.NameLaws.names_count, text.NumberLaws.numbers_tell}
use Rattle.cert_own.specs.Printed.{HasShortNumbers, HasVerdict, HoldsOf}
use Rattle.cert_own.specs.WholeLines.{whole_lines}
use Rattle.cert_own.specs.LineLaws.{AllGood, GoodUnder, first_whole, front_whole, good_front}
use Rattle.cert_own.specs.LineLaws.{good_there}

-- ---- a verdict line tells its terminal and its verdict

pub all_plain : (name : List ℕ) → IsTrue (is_plain_name name) → list_all is_plain_byte name ≡ true
all_plain name plain =
    (both_true (nat_le (length name) 16) (list_all is_plain_byte name)
    (both_true (nat_le 1 (length name))
    (nat_le (length name) 16 && list_all is_plain_byte name) plain).1).1

space_is_none : {X : Type 0} → is_plain_byte 32 ≡ true → X
space_is_none e = absurd (cc)

-- what stands before the first space
pub names_tell : (name other more rest : List ℕ) → list_all is_plain_byte name ≡ true
    → list_all is_plain_byte other ≡ true → name ++ 32 ∷ more ≡ other ++ 32 ∷ rest
    → (name ≡ other) × (more ≡ rest)
names_tell [] [] more rest plain known same = (refl, ap (drop 1) same)
names_tell [] (o ∷ other) more rest plain known same =
    let byte : 32 ≡ o = ap (λ (l : List ℕ). get_or l 0 0) same in
    let both = both_true (is_plain_byte o) (list_all is_plain_byte other) known in
    space_is_none (subst (λ (b : ℕ). is_plain_byte b ≡ true) (sym byte) both.0)
names_tell (n ∷ name) [] more rest plain known same =
    let byte : n ≡ 32 = ap (λ (l : List ℕ). get_or l 0 0) same in
    let both = both_true (is_plain_byte n) (list_all is_plain_byte name) plain in
    space_is_none (subst (λ (b : ℕ). is_plain_byte b ≡ true) byte both.0)
names_tell (n ∷ name) (o ∷ other) more rest plain known same =
    let byte : n ≡ o = ap (λ (l : List ℕ). get_or l 0 0) same in
    let a = both_true (is_plain_byte n) (list_all is_plain_byte name) plain in
    let b = both_true (is_plain_byte o) (list_all is_plain_byte other) known in
    let (names, mores) = names_tell name other more rest a.1 b.1 (ap (drop 1) same) in
    (ap (λ (m : ℕ). m ∷ name) byte ∙ ap (λ (l : List ℕ). o ∷ l) names, mores)

other_first : {X : Type 0} (text other : List ℕ) → text ≡ other
    → (get_or text 0 0 ≡ get_or other 0 0 → ⊥) → X
other_first text other same never = absurd (never (first_same text other same))

words_tell : (v w : Verdict) → HasShortNumbers v → HasShortNumbers w
    → verdict_words v ≡ verdict_words w → v ≡ w
words_tell yes yes p q same = refl
words_tell yes (no b) p q same =
    other_first (verdict_words yes) (verdict_words (no b)) same (λ e. omega (arith, e))
words_tell yes undecided p q same =
    other_first (verdict_words yes) (verdict_words undecided) same (λ e. omega (arith, e))
words_tell (no a) yes p q same =
    other_first (verdict_words (no a)) (verdict_words yes) same (λ e. omega (arith, e))
words_tell (no a) (no b) p q same = ap no (numbers_tell a b p q (ap (drop 2) same))
words_tell (no a) undecided p q same =
    other_first (verdict_words (no a)) (verdict_words undecided) same (λ e. omega (arith, e))
words_tell undecided yes p q same =
    other_first (verdict_words undecided) (verdict_words yes) same (λ e. omega (arith, e))
words_tell undecided (no b) p q same =
    other_first (verdict_words undecided) (verdict_words (no b)) same (λ e. omega (arith, e))
words_tell undecided undecided p q same = refl

verdict_tells : (name other : List ℕ) (v w : Verdict) → IsTrue (is_plain_name name)
    → IsTrue (is_plain_name other) → HasShortNumbers v → HasShortNumbers w
    → verdict_text name v ≡ verdict_text other w → (name ≡ other) × (v ≡ w)
verdict_tells name other v w plain known p q same =
    let (names, words) =
    names_tell name other (verdict_words v) (verdict_words w) (all_plain name plain)
    (all_plain other known) (ap (drop 8) same) in
    (names, words_tell v w p q words)

short_numbers : (line : Line) (v : Verdict) → HasNumbers line v → HasShortNumbers v
short_numbers line yes has = tt
short_numbers line (no numbers) has = has.small
short_numbers line undecided has = tt

-- ---- lines

module _ (Says : List ℕ → List ℕ → Verdict → Type 0) (line : Line) where
  -- where it is a verdict line, this is said
  abbrev IsGood : List ℕ → List ℕ → Type 0
  IsGood name text = (terminal : List ℕ) (v : Verdict) → IsTrue (is_plain_name terminal)
      → HasShortNumbers v → text ≡ verdict_text terminal v → Says name terminal v

  other_good : (name text : List ℕ) → (get_or text 0 0 ≡ 118 → ⊥) → IsGood name text
  other_good name text other terminal v plain short same =
      absurd (other (first_same text (verdict_text terminal v) same))

  abbrev Both : List ℕ → List ℕ → Type 0
  Both name text =
      GoodUnder IsGood name (whole_lines text) × AllGood IsGood (whole_lines text)

  abbrev pub Reads : List Place → List Said → List ℕ → Type 0
  Reads places said text = Lines (Stands line) opens_none places said text [] []

  one_more : (name text first rest : List ℕ) → BeginsWith text first rest
      → (get_or first 0 0 ≡ 115 → ⊥) → IsGood name first → Both name rest → Both name text
  one_more name text first rest begins other good both =
      let P : List (List ℕ) → Type 0 = λ l. GoodUnder IsGood name l × AllGood IsGood l in
      subst P (sym (first_whole text first rest begins)) (
        (good, λ _. both.0),
        (λ n is. absurd (other (first_same first (script_text n) is)), both.1),
      )

  keys_good : (name : List ℕ) (names : List (List ℕ)) (keys : List (List Tern))
      → length keys ≡ length names → (places : List Place) (said : List Said)
      → ((rest : List ℕ) → Reads places said rest → Both name rest) → (text : List ℕ)
      → Reads (map key_of names ++ places) (map says_key keys ++ said) text → Both name text
  keys_good name [] [] long places said then text reads = then text reads
  keys_good name [] (k ∷ keys) long places said then text reads = absurd (omega (arith, long))
  keys_good name (n ∷ names) [] long places said then text reads = absurd (omega (arith, long))
  keys_good name (n ∷ names) (k ∷ keys) long places said then text reads =
      let (first, (rest, (begins, (is, more)))) = reads in
      let byte : get_or first 0 0 ≡ 107 = first_same first (key_text n k) is.1 in
      one_more name text first rest begins (λ e. omega (arith, e, byte))
      (other_good name first (λ e. omega (arith, e, byte)))
      (keys_good name names keys (omega (arith, long)) places said then rest more)

  verdicts_good : (name : List ℕ) (names : List (List ℕ)) (verdicts : List Verdict)
      → length verdicts ≡ length names
      → ((k : ℕ) (n : List ℕ) → slice_get names k ≡ Some n → IsTrue (is_plain_name n))
      → ((k : ℕ) (n : List ℕ) (v : Verdict) → slice_get names k ≡ Some n
      → slice_get verdicts k ≡ Some v → Says name n v)
      → (places : List Place) (said : List Said)
      → ((rest : List ℕ) → Reads places said rest → Both name rest) → (text : List ℕ)
      → Reads (map verdict_of names ++ places) (map says_verdict verdicts ++ said) text
      → Both name text
  verdicts_good name [] [] long plain says places said then text reads = then text reads
  verdicts_good name [] (v ∷ verdicts) long plain says places said then text reads =
      absurd (omega (arith, long))
  verdicts_good name (n ∷ names) [] long plain says places said then text reads =
      absurd (omega (arith, long))
  verdicts_good name (n ∷ names) (v ∷ verdicts) long plain says places said then text reads =
      let (first, (rest, (begins, (is, more)))) = reads in
      let byte : get_or first 0 0 ≡ 118 = first_same first (verdict_text n v) is.1 in
      one_more name text first rest begins (λ e. omega (arith, e, byte))
      (λ terminal w known short same.
      let (names_same, verdicts_same) =
      verdict_tells n terminal v w (plain zero n refl) known (short_numbers line v is.0) short
      (sym is.1 ∙ same) in
      subst (λ (t : List ℕ). Says name t w) names_same
      (subst (Says name n) verdicts_same (says zero n v refl refl)))
      (verdicts_good name names verdicts (omega (arith, long)) (λ k. plain (suc k))
      (λ k. says (suc k)) places said then rest more)

  -- ---- the parts of scripts

  module _ (plain : (k : ℕ) (n : List ℕ) → slice_get (terminal_names line) k ≡ Some n
      → IsTrue (is_plain_name n)) where
    parts_good : (name : List ℕ) (scripts : List Script) (claims : List Claims)
        → length claims ≡ length scripts → All (HasOneEach line) claims
        → ((i : ℕ) (script : Script) (said : Claims) → slice_get scripts i ≡ Some script
        → slice_get claims i ≡ Some said → (k : ℕ) (n : List ℕ) (v : Verdict)
        → slice_get (terminal_names line) k ≡ Some n → slice_get said.verdicts k ≡ Some v
        → Says script.name n v) → (text : List ℕ)
        → Reads (flat_map (part_places line) scripts ++ fixed end_text ∷ [])
        (flat_map part_said claims ++ says_nothing ∷ []) text → Both name text
    parts_good name [] [] long whole says text reads =
        let (first, (rest, (begins, (is, more)))) = reads in
        let byte : get_or first 0 0 ≡ 101 = first_same first end_text is.1 in
        one_more name text first rest begins (λ e. omega (arith, e, byte))
        (other_good name first (λ e. omega (arith, e, byte)))
        (subst (λ (t : List ℕ). Both name t) (sym more.1) (tt, tt))
    parts_good name [] (c ∷ claims) long whole says text reads = absurd (omega (arith, long))
    parts_good name (s ∷ scripts) [] long whole says text reads = absurd (omega (arith, long))
    parts_good name (s ∷ scripts) (c ∷ claims) long whole says text reads =
        let names : List (List ℕ) = terminal_names line in
        let ks : List Place = map key_of names in
        let vs : List Place = map verdict_of names in
        let more_places : List Place =
        flat_map (part_places line) scripts ++ fixed end_text ∷ [] in
        let sk : List Said = map says_key c.keys in
        let sv : List Said = map says_verdict c.verdicts in
        let more_said : List Said = flat_map part_said claims ++ says_nothing ∷ [] in
        let (first, (rest, (begins, (is, more)))) = reads in
        let here : HasOneEach line c = All-head (HasOneEach line) c claims whole in
        let keys_many = here.keys in
        let verdicts_many = here.verdicts in
        let count = names_count line in
        let body : Reads (ks ++ (vs ++ more_places)) (sk ++ (sv ++ more_said)) rest =
        subst (λ (p : List Place). Reads p (sk ++ (sv ++ more_said)) rest)
        (append_assoc (ks ++ vs) (flat_map (part_places line) scripts) (fixed end_text ∷ [])
        ∙ append_assoc ks vs more_places)
        (subst (λ (l : List Said). Reads
        (((ks ++ vs) ++ flat_map (part_places line) scripts) ++ fixed end_text ∷ []) l rest)
        (append_assoc (sk ++ sv) (flat_map part_said claims) (says_nothing ∷ [])
        ∙ append_assoc sk sv more_said)
        more) in
        let both : Both s.name rest =
        keys_good s.name names c.keys (omega arith) (vs ++ more_places) (sv ++ more_said)
        (verdicts_good s.name names c.verdicts (omega arith) plain (says zero s c refl refl)
        more_places more_said
        (parts_good s.name scripts claims (omega (arith, long))
        (All-tail (HasOneEach line) c claims whole) (λ i. says (suc i))))
        rest body in
        let byte : get_or first 0 0 ≡ 115 = first_same first (script_text s.name) is.1 in
        let P : List (List ℕ) → Type 0 = λ l. GoodUnder IsGood name l × AllGood IsGood l in
        subst P (sym (first_whole text first rest begins)) (
          (other_good name first (λ e. omega (arith, e, byte)), λ never. absurd (never (s.name, is.1))),
          (
            λ n same.
                subst (λ (m : List ℕ). GoodUnder IsGood m (whole_lines rest))
                (ap (drop 7) (sym is.1 ∙ same)) both.0,
            both.1,
          ),
        )

    -- each verdict that stands in a front of a certificate is said
    pub said_there : (scripts : List Script) (claims : List Claims) (bytes : List ℕ)
        → IsCertificate line scripts claims bytes
        → ((i : ℕ) (script : Script) (said : Claims) → slice_get scripts i ≡ Some script
        → slice_get claims i ≡ Some said → (k : ℕ) (n : List ℕ) (v : Verdict)
        → slice_get (terminal_names line) k ≡ Some n → slice_get said.verdicts k ≡ Some v
        → Says script.name n v) → (front rest : List ℕ) → front ++ rest ≡ bytes
        → (name terminal : List ℕ) (v : Verdict) → HasVerdict front name terminal v
        → Says name terminal v
    said_there scripts claims bytes is says front rest same name terminal v has =
        let (first, (later, (begins, (head, more)))) = is.lines in
        let both = parts_good name scripts claims is.many is.each says later more in
        let byte : get_or first 0 0 ≡ 112 = first_same first head_text head.1 in
        let all : AllGood IsGood (whole_lines bytes) =
        subst (AllGood IsGood) (sym (first_whole bytes first later begins)) (
          λ n script. absurd (omega (arith, byte, first_same first (script_text n) script)),
          both.1,
        ) in
        let (others, is_front) = front_whole front rest in
        let good : AllGood IsGood (whole_lines front) =
        good_front IsGood (whole_lines front) others
        (subst (AllGood IsGood) (sym (ap whole_lines same) ∙ is_front) all) in
        good_there IsGood (whole_lines front) name (verdict_text terminal v) good has.stands
        terminal v has.plain has.short refl

-- ---- the obligation that a verdict is of

module _ (line : Line) (scripts : List Script) (claims : List Claims)
    (Fact : Verdict → Line → Script → ℕ → Type 0)
    (true_of : (i : ℕ) (script : Script) (said : Claims) → slice_get scripts i ≡ Some script
    → slice_get claims i ≡ Some said → (k : ℕ) (v : Verdict)
    → slice_get said.verdicts k ≡ Some v → Fact v line script k) where
  pub says_of : (i : ℕ) (script : Script) (said : Claims) → slice_get scripts i ≡ Some script
      → slice_get claims i ≡ Some said → (k : ℕ) (n : List ℕ) (v : Verdict)
      → slice_get (terminal_names line) k ≡ Some n → slice_get said.verdicts k ≡ Some v
      → HoldsOf line scripts script.name n (Fact v)
  says_of i script said at there k n v named has =
      let within = slice_get_within (terminal_names line) k n named in
      let count = names_count line in
      record {
        place = i;
        script = script;
        script_is = at;
        name_is = refl;
        k = k;
        exists = omega arith;
        terminal_is = get_or_from_slice_get (terminal_names line) k n [] named;
        holds = true_of i script said at there k v has;
      }

-- ---- terminals have plain names

plain_at : (terminals : List Terminal) → are_plain_names terminals ≡ true → (k : ℕ) (n : List ℕ)
    → slice_get (map (λ (t : Terminal). t.name) terminals) k ≡ Some n → IsTrue (is_plain_name n)
plain_at [] plain k n at = absurd (cc)
plain_at (t ∷ terminals) plain zero n at =
    let both = both_true (is_plain_name t.name) (are_plain_names terminals) plain in
    subst (λ (m : List ℕ). IsTrue (is_plain_name m)) (same_Some t.name n at) both.0
plain_at (t ∷ terminals) plain (suc k) n at =
    let both = both_true (is_plain_name t.name) (are_plain_names terminals) plain in
    plain_at terminals both.1 k n at

pub names_plain : (line : Line) (k : ℕ) (n : List ℕ)
    → slice_get (terminal_names line) k ≡ Some n → IsTrue (is_plain_name n)
names_plain line = plain_at line.terminals.items line.plain_names
