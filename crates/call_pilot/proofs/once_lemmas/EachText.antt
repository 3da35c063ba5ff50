-- A text is a certificate, or a line of it is the first that leaves the grammar.
use Rattle.std.proofs.Common.{◌≡◌, ◌+◌, ◌^◌, ◌<◌, ◌⊎◌, inl, inr, ℕ, zero, suc, Bool, true}
use Rattle.std.proofs.Common.{List, []}
use Rattle.std.proofs.Common.{◌∷◌, ◌++◌, length, map, refl, sym, ◌∙◌, ap, subst, arith}
use Rattle.std.proofs.lemmas.Bool.{cases_eq, ne_eqb}
use Rattle.std.proofs.lemmas.List.{length-map}
use Rattle.std.proofs.lemmas.List.Concat.{flat_map-cons}
use Rattle.std.proofs.lemmas.List.Elements.{All-cons, All-head, All-nil, All-tail}
use Rattle.std.proofs.lemmas.Slice.Eq.{bytes_eq-Decides}
use Rattle.std.specs.Prelude.{◌&&◌, not}
use Rattle.std.specs.Str.{bytes_eq}
use Rattle.std.specs.List.{All, AllZip, flat_map}
use Rattle.model_history.specs.TruthLaws.{told}
use Rattle.model_line.specs.Parameters.{param_count, terminal_count}
use Rattle.model_line.specs.{declared.line.Line.Line, declared.script.Script.Script}
use Rattle.run_signal.specs.declared.tern.Tern.{Tern}
use Rattle.run_signal.specs.declared.tern.Tern.TheVariants.{Zero, One, Unknown}
use Rattle.base_text.specs.lines.Lines.{BeginsWith, CannotGoOn, Lines, is_one_line}
use Rattle.base_text.specs.lines.LineLaws.{both_true, one_line}
use Rattle.cert_claims.specs.text.Grammar.{Claims, HasOneEach, IsCertificate, LeavesGrammar, Place}
use Rattle.cert_claims.specs.text.Grammar.{Said, Stands, Verdict, claim_places, claims_said, end_text}
use Rattle.cert_claims.specs.text.Grammar.{fixed, head_text, key_of, key_text, no}
use Rattle.cert_claims.specs.text.Grammar.{opens_none, part_places, part_said, says_key, says_nothing}
use Rattle.cert_claims.specs.text.Grammar.{says_verdict, terminal_names, undecided}
use Rattle.cert_claims.specs.text.Grammar.{verdict_of, verdict_text, yes}

-- ---- what is there, or is not

same_or_not : (xs ys : List ℕ) → (xs ≡ ys) ⊎ (¬ (xs ≡ ys))
same_or_not xs ys = told (bytes_eq xs ys) (bytes_eq-Decides xs ys)

-- among the things of which R holds one has the property, or none has
abbrev IsSearched : {A : Type 0} → (A → Type 0) → Type 1
IsSearched {A} R = (P : A → Type 0) → ((a : A) → P a ⊎ (¬ P a))
    → ((a : A) × R a × P a) ⊎ ((a : A) → R a → ¬ P a)

terns : IsSearched (λ (x : Tern). Unit {0})
terns P test = elim (test Zero) [
  | inl is ↦ inl (Zero, tt, is)
  | inr not_zero ↦ elim (test One) [
    | inl is ↦ inl (One, tt, is)
    | inr not_one ↦ elim (test Unknown) [
      | inl is ↦ inl (Unknown, tt, is)
      | inr not_unknown ↦ inr (no_tern P not_zero not_one not_unknown)
    ]
  ]
] where
  no_tern : (P : Tern → Type 0) → ¬ (P Zero) → ¬ (P One) → ¬ (P Unknown) → (a : Tern)
      → Unit {0} → ¬ (P a)
  no_tern P z o u Zero any = z
  no_tern P z o u One any = o
  no_tern P z o u Unknown any = u

below : (n : ℕ) → IsSearched (λ (x : ℕ). x < n)
below zero P test = inr (λ a lt. absurd (omega (arith, lt)))
below (suc n) P test = elim (below n P test) [
  | inl found ↦ inl (found.0, omega (arith, found.1), found.2)
  | inr none ↦ elim (test n) [
    | inl is ↦ inl (n, omega arith, is)
    | inr is_not ↦ inr (λ a lt is. elim (cases_eq a n) [
      | inl same ↦ is_not (subst P same is)
      | inr other ↦ none a (omega (arith, lt, other)) is
    ])
  ]
]

-- so it is among their lists of one length
record AreOf {A : Type 0} (R : A → Type 0) (n : ℕ) (xs : List A) : Type 0 where
  many : length xs ≡ n
  each : All R xs

longer : {A : Type 0} (R : A → Type 0) → IsSearched R → (n : ℕ) → IsSearched (AreOf R n)
    → IsSearched (AreOf R (suc n))
longer {A} R seek n shorter P test = elim (seek
    (λ x. (xs : List A) × AreOf R n xs × P (x ∷ xs)) later) [
      | inl found ↦ inl (
        found.0 ∷ found.2.0,
        record {
          many = ap suc found.2.1.many;
          each = All-cons R found.0 found.2.0 found.1 found.2.1.each;
        },
        found.2.2,
      )
      | inr none ↦ inr (none_of none)
    ] where
      later : (x : A) → ((xs : List A) × AreOf R n xs × P (x ∷ xs))
          ⊎ (¬ ((xs : List A) × AreOf R n xs × P (x ∷ xs)))
      later x = elim (shorter (λ xs. P (x ∷ xs)) (λ xs. test (x ∷ xs))) [
        | inl found ↦ inl found
        | inr none ↦ inr (λ found. none found.0 found.1 found.2)
      ]

      none_of : ((x : A) → R x → ¬ ((xs : List A) × AreOf R n xs × P (x ∷ xs)))
          → (xs : List A) → AreOf R (suc n) xs → ¬ (P xs)
      none_of none [] are = absurd (omega (arith, are.many))
      none_of none (x ∷ xs) are =
          λ is. none x (All-head R x xs are.each) (
            xs,
            record {
              many = omega (arith, are.many);
              each = All-tail R x xs are.each;
            },
            is,
          )

lists : {A : Type 0} (R : A → Type 0) → IsSearched R → (n : ℕ) → IsSearched (AreOf R n)
lists {A} R seek zero P test = elim (test []) [
  | inl is ↦ inl ([], record { many = refl; each = All-nil R }, is)
  | inr is_not ↦ inr (none_longer is_not)
] where
  none_longer : ¬ (P []) → (xs : List A) → AreOf R zero xs → ¬ (P xs)
  none_longer is_not [] are = is_not
  none_longer is_not (x ∷ xs) are = absurd (omega (arith, are.many))
lists R seek (suc n) P test = longer R seek n (lists R seek n) P test

-- ---- one line

first_line : (text : List ℕ)
    → ((line : List ℕ) × (rest : List ℕ) × BeginsWith text line rest)
    ⊎ ((line rest : List ℕ) → ¬ (BeginsWith text line rest))
first_line [] = inr none where
  none : (line rest : List ℕ) → ¬ (BeginsWith [] line rest)
  none [] rest b = let e : [] ≡ 10 ∷ rest = b.is in cc
  none (x ∷ line) rest b = let e : [] ≡ x ∷ (line ++ 10 ∷ rest) = b.is in cc
first_line (x ∷ text) = elim (cases_eq x 10) [
  | inl feed ↦ inl ([], text, record { whole = refl; is = ap (λ (b : ℕ). b ∷ text) feed })
  | inr other ↦ elim (first_line text) [
    | inl found ↦ inl (
      x ∷ found.0,
      found.1,
      record {
        whole = with_byte other (found.0) found.2.whole;
        is = ap (λ (l : List ℕ). x ∷ l) found.2.is;
      },
    )
    | inr none ↦ inr (none_of other none)
  ]
] where
  with_byte : (x ≡ 10 → ⊥) → (line : List ℕ) → is_one_line line ≡ true
      → is_one_line (x ∷ line) ≡ true
  with_byte other line whole =
      ap (λ (b : Bool). not b && is_one_line line) (ne_eqb x 10 other) ∙ whole

  none_of : (x ≡ 10 → ⊥) → ((line rest : List ℕ) → ¬ (BeginsWith text line rest))
      → (line rest : List ℕ) → ¬ (BeginsWith (x ∷ text) line rest)
  none_of other none [] rest b = other (let e : x ∷ text ≡ 10 ∷ rest = b.is in cc)
  none_of other none (y ∷ line) rest b =
      let e : x ∷ text ≡ y ∷ (line ++ 10 ∷ rest) = b.is in
      none line rest (record { whole = (both_true _ _ b.whole).1; is = cc })

module _ (line : Line) where
  -- ---- what stands at a place

  abbrev CanStand : Place → List ℕ → Type 0
  CanStand place bytes = ((said : Said) × Stands line place said bytes)
      ⊎ ((said : Said) → ¬ (Stands line place said bytes))

  at_key : (name bytes : List ℕ) → CanStand (key_of name) bytes
  at_key name bytes = elim (lists (λ (x : Tern). Unit {0}) terns line.horizon
      (λ w. bytes ≡ key_text name w) (λ w. same_or_not bytes (key_text name w))) [
        | inl found ↦ inl (says_key found.0, (found.1.many, found.2))
        | inr none ↦ inr (none_of none)
      ] where
        none_of : ((w : List Tern) → AreOf (λ (x : Tern). Unit {0}) line.horizon w
            → ¬ (bytes ≡ key_text name w)) → (said : Said) → ¬ (Stands line (key_of name) said bytes)
        none_of none says_nothing is = is
        none_of none (says_key w) is =
            none w (record { many = is.0; each = all_unit w }) is.1 where
              all_unit : (w : List Tern) → All (λ (x : Tern). Unit {0}) w
              all_unit [] = All-nil (λ (x : Tern). Unit {0})
              all_unit (x ∷ w) = All-cons (λ (x : Tern). Unit {0}) x w tt (all_unit w)
        none_of none (says_verdict v) is = is

  at_verdict : (name bytes : List ℕ) → CanStand (verdict_of name) bytes
  at_verdict name bytes = elim (same_or_not bytes (verdict_text name yes)) [
    | inl is ↦ inl (says_verdict yes, (tt, is))
    | inr not_yes ↦ elim (same_or_not bytes (verdict_text name undecided)) [
      | inl is ↦ inl (says_verdict undecided, (tt, is))
      | inr not_open ↦ elim (lists (λ (x : ℕ). x < 2 ^ 32) (below (2 ^ 32)) (param_count line)
          (λ numbers. bytes ≡ verdict_text name (no numbers))
          (λ numbers. same_or_not bytes (verdict_text name (no numbers)))) [
            | inl found ↦ inl (
              says_verdict (no found.0),
              (
                record {
                  many = found.1.many;
                  small = found.1.each;
                },
                found.2,
              ),
            )
            | inr none ↦ inr (none_of not_yes not_open none)
          ]
    ]
  ] where
    none_of : ¬ (bytes ≡ verdict_text name yes) → ¬ (bytes ≡ verdict_text name undecided)
        → ((numbers : List ℕ) → AreOf (λ (x : ℕ). x < 2 ^ 32) (param_count line) numbers
        → ¬ (bytes ≡ verdict_text name (no numbers))) → (said : Said)
        → ¬ (Stands line (verdict_of name) said bytes)
    none_of not_yes not_open none says_nothing is = is
    none_of not_yes not_open none (says_key w) is = is
    none_of not_yes not_open none (says_verdict yes) is = not_yes is.1
    none_of not_yes not_open none (says_verdict (no numbers)) is =
        none numbers (record { many = is.0.many; each = is.0.small }) is.1
    none_of not_yes not_open none (says_verdict undecided) is = not_open is.1

  can_stand : (place : Place) (bytes : List ℕ) → CanStand place bytes
  can_stand (fixed text) bytes = elim (same_or_not bytes text) [
    | inl is ↦ inl (says_nothing, (refl, is))
    | inr is_not ↦ inr (λ said is. is_not is.1)
  ]
  can_stand (key_of name) bytes = at_key name bytes
  can_stand (verdict_of name) bytes = at_verdict name bytes

  -- ---- the lines of a text

  abbrev Reads' : List Place → List Said → List ℕ → List Place → List ℕ → Type 0
  Reads' places said text left rest = Lines (Stands line) opens_none places said text left rest

  abbrev IsReadWhole : List Place → List ℕ → Type 0
  IsReadWhole places text = (said : List Said) × Reads' places said text [] []

  abbrev Stops : List Place → List ℕ → Type 0
  Stops places text = (said : List Said) × (left : List Place) × (rest : List ℕ)
      × Reads' places said text left rest × CannotGoOn (Stands line) left rest

  walk : (places : List Place) (text : List ℕ) → IsReadWhole places text ⊎ Stops places text
  walk [] [] = inl ([], (refl, refl))
  walk [] (x ∷ text) =
      inr ([], [], x ∷ text, (refl, refl), λ e. let f : x ∷ text ≡ [] = e in cc)
  walk (place ∷ places) text = elim (first_line text) [
    | inr none ↦ inr (
      [],
      place ∷ places,
      text,
      (refl, refl),
      λ said bytes later b. absurd (none bytes later b),
    )
    | inl first ↦ elim (can_stand place first.0) [
      | inr cannot ↦ inr (
        [],
        place ∷ places,
        text,
        (refl, refl),
        λ said bytes later b stands.
            cannot said (subst (Stands line place said)
            (one_line text bytes later first.0 first.1 b first.2) stands),
      )
      | inl stands ↦ elim (walk places first.1) [
        | inl all ↦ inl (stands.0 ∷ all.0, (first.0, (first.1, (first.2, (stands.1, all.1)))))
        | inr stop ↦ inr (
          stands.0 ∷ stop.0,
          stop.1,
          stop.2,
          (first.0, (first.1, (first.2, (stands.1, stop.3)))),
          stop.4,
        )
      ]
    ]
  ]

  -- ---- what whole lines say

  abbrev IsSaidAt : Place → Said → Type 0
  IsSaidAt place said = (bytes : List ℕ) × Stands line place said bytes

  said_at : (places : List Place) (said : List Said) (text : List ℕ)
      → Reads' places said text [] [] → AllZip IsSaidAt places said
  said_at [] [] text reads = tt
  said_at (place ∷ places) [] text reads =
      absurd (let e : place ∷ places ≡ [] = reads.0 in cc)
  said_at [] (s ∷ said) text reads = absurd reads
  said_at (place ∷ places) (s ∷ said) text (bytes, (later, (b, (stands, reads)))) =
      ((bytes, stands), said_at places said later reads)

  record Parted (first second : List Place) (said : List Said) : Type 0 where
    before : List Said
    after : List Said
    is : said ≡ before ++ after
    are_before : AllZip IsSaidAt first before
    are_after : AllZip IsSaidAt second after

  parted : (first second : List Place) (said : List Said)
      → AllZip IsSaidAt (first ++ second) said → Parted first second said
  parted [] second said are = record {
    before = [];
    after = said;
    is = refl;
    are_before = tt;
    are_after = are;
  }
  parted (place ∷ first) second [] are = absurd are
  parted (place ∷ first) second (s ∷ said) are =
      let rest = parted first second said are.1 in
      record {
        before = s ∷ rest.before;
        after = rest.after;
        is = ap (λ (l : List Said). s ∷ l) rest.is;
        are_before = (are.0, rest.are_before);
        are_after = rest.are_after;
      }

  keys_of : (names : List (List ℕ)) (said : List Said) → AllZip IsSaidAt (map key_of names) said
      → (keys : List (List Tern)) × (length keys ≡ length names) × (said ≡ map says_key keys)
  keys_of [] [] are = ([], refl, refl)
  keys_of [] (s ∷ said) are = absurd are
  keys_of (name ∷ names) [] are = absurd are
  keys_of (name ∷ names) (says_nothing ∷ said) are = absurd are.0.1
  keys_of (name ∷ names) (says_verdict v ∷ said) are = absurd are.0.1
  keys_of (name ∷ names) (says_key w ∷ said) are =
      let (keys, many, is) = keys_of names said are.1 in
      (w ∷ keys, ap suc many, ap (λ (l : List Said). says_key w ∷ l) is)

  verdicts_of : (names : List (List ℕ)) (said : List Said)
      → AllZip IsSaidAt (map verdict_of names) said
      → (verdicts : List Verdict) × (length verdicts ≡ length names)
      × (said ≡ map says_verdict verdicts)
  verdicts_of [] [] are = ([], refl, refl)
  verdicts_of [] (s ∷ said) are = absurd are
  verdicts_of (name ∷ names) [] are = absurd are
  verdicts_of (name ∷ names) (says_nothing ∷ said) are = absurd are.0.1
  verdicts_of (name ∷ names) (says_key w ∷ said) are = absurd are.0.1
  verdicts_of (name ∷ names) (says_verdict v ∷ said) are =
      let (verdicts, many, is) = verdicts_of names said are.1 in
      (v ∷ verdicts, ap suc many, ap (λ (l : List Said). says_verdict v ∷ l) is)

  many_names : length (terminal_names line) ≡ terminal_count line
  many_names = simp length-map

  claims_in_said : (said : List Said) → AllZip IsSaidAt (claim_places line) said
      → (claims : Claims) × HasOneEach line claims × (said ≡ claims_said claims)
  claims_in_said said are =
      let p = parted (map key_of (terminal_names line)) (map verdict_of (terminal_names line)) said
      are in
      let (keys, many_keys, keys_are) = keys_of (terminal_names line) p.before p.are_before in
      let (verdicts, many_verdicts, verdicts_are) =
      verdicts_of (terminal_names line) p.after p.are_after in (
        record { keys = keys; verdicts = verdicts },
        record { keys = many_keys ∙ many_names; verdicts = many_verdicts ∙ many_names },
        p.is ∙ ap (λ (l : List Said). l ++ p.after) keys_are
            ∙ ap (λ (l : List Said). map says_key keys ++ l) verdicts_are,
      )

  part_in_said : (script : Script) (said : List Said)
      → AllZip IsSaidAt (part_places line script) said
      → (claims : Claims) × HasOneEach line claims × (said ≡ part_said claims)
  part_in_said script [] are = absurd are
  part_in_said script (s ∷ said) are =
      let (claims, whole, is) = claims_in_said said are.1 in (
        claims,
        whole,
        ap (λ (x : Said). x ∷ said) are.0.1.0 ∙ ap (λ (l : List Said). says_nothing ∷ l) is,
      )

  record MeansParts (scripts : List Script) (said : List Said) : Type 0 where
    claims : List Claims
    many : length claims ≡ length scripts
    each : All (HasOneEach line) claims
    is : said ≡ flat_map part_said claims

  parts_in_said : (scripts : List Script) (said : List Said)
      → AllZip IsSaidAt (flat_map (part_places line) scripts) said → MeansParts scripts said
  parts_in_said [] [] are = record {
    claims = [];
    many = refl;
    each = All-nil (HasOneEach line);
    is = refl;
  }
  parts_in_said [] (s ∷ said) are = absurd are
  parts_in_said (script ∷ scripts) said are =
      let p = parted (part_places line script) (flat_map (part_places line) scripts) said
      (subst (λ (places : List Place). AllZip IsSaidAt places said)
      (flat_map-cons (part_places line) script scripts) are) in
      let (claims, whole, is) = part_in_said script p.before p.are_before in
      let rest = parts_in_said scripts p.after p.are_after in
      record {
        claims = claims ∷ rest.claims;
        many = ap suc rest.many;
        each = All-cons (HasOneEach line) claims rest.claims whole rest.each;
        is = p.is ∙ ap (λ (l : List Said). l ++ p.after) is
            ∙ ap (λ (l : List Said). part_said claims ++ l) rest.is
            ∙ sym (flat_map-cons part_said claims rest.claims);
      }

  last_said : (said : List Said) → AllZip IsSaidAt (fixed end_text ∷ []) said
      → said ≡ says_nothing ∷ []
  last_said [] are = absurd are
  last_said (s ∷ []) are = ap (λ (x : Said). x ∷ []) are.0.1.0
  last_said (s ∷ t ∷ said) are = absurd are.1

  abbrev ended_places : List Script → List Place
  ended_places scripts = flat_map (part_places line) scripts ++ fixed end_text ∷ []

  means : (scripts : List Script) (said : List Said)
      → AllZip IsSaidAt (fixed head_text ∷ ended_places scripts) said
      → (claims : List Claims) × (length claims ≡ length scripts) × All (HasOneEach line) claims
      × (said ≡ says_nothing ∷ (flat_map part_said claims ++ says_nothing ∷ []))
  means scripts [] are = absurd are
  means scripts (s ∷ said) are =
      let p = parted (flat_map (part_places line) scripts) (fixed end_text ∷ []) said are.1 in
      let parts = parts_in_said scripts p.before p.are_before in (
        parts.claims,
        parts.many,
        parts.each,
        ap (λ (x : Said). x ∷ said) are.0.1.0
            ∙ ap (λ (l : List Said). says_nothing ∷ l)
            (p.is ∙ ap (λ (l : List Said). l ++ p.after) parts.is
            ∙ ap (λ (l : List Said). flat_map part_said parts.claims ++ l)
            (last_said p.after p.are_after)),
      )

  pub each_text : (scripts : List Script) (bytes : List ℕ)
      → ((claims : List Claims) × IsCertificate line scripts claims bytes)
      ⊎ ((n : ℕ) × LeavesGrammar line scripts bytes n)
  each_text scripts bytes = elim (walk (fixed head_text ∷ ended_places scripts) bytes) [
    | inl all ↦
        let (claims, many, each, is) =
        means scripts all.0 (said_at (fixed head_text ∷ ended_places scripts) all.0 bytes all.1) in
        inl (
          claims,
          record {
            many = many;
            each = each;
            lines = subst
                (λ (said : List Said). Reads' (fixed head_text ∷ ended_places scripts) said bytes [] [])
                is all.1;
          },
        )
    | inr stop ↦ inr (
      1 + length stop.0,
      record {
        said = stop.0;
        left = stop.1;
        rest = stop.2;
        before = stop.3;
        stops = stop.4;
        number = refl;
      },
    )
  ]
