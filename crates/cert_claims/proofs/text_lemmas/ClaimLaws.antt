-- What all lines say tells what is claimed.
use Rattle.std.proofs.Common.{◌≡◌, List, [], ◌∷◌, ◌++◌, length, map, take, drop, refl, sym, ◌∙◌, ap}
use Rattle.std.proofs.Common.{arith, length-append}
use Rattle.std.proofs.lemmas.List.{take_at, drop_at, length-map}
use Rattle.std.proofs.lemmas.List.Elements.{All-head, All-tail}
use Rattle.std.specs.List.{All, flat_map}
use Rattle.run_signal.specs.declared.tern.Tern.{Tern}
use Rattle.model_line.specs.declared.line.Line.{Line}
use Rattle.cert_claims.specs.text.Grammar.{Claims, HasOneEach, Verdict, part_said}
use Rattle.cert_claims.specs.text.Grammar.{says_key, says_verdict}
use Rattle.cert_claims.specs.text.ClaimLaws.{same_claims}

fronts : {X : Type 0} (a b c d : List X) → length a ≡ length b → a ++ c ≡ b ++ d → a ≡ b
fronts a b c d long same =
    sym (take_at a c (length a) refl) ∙ ap (take (length a)) same
    ∙ take_at b d (length a) (sym long)

backs : {X : Type 0} (a b c d : List X) → length a ≡ length b → a ++ c ≡ b ++ d → c ≡ d
backs a b c d long same =
    sym (drop_at a c (length a) refl) ∙ ap (drop (length a)) same
    ∙ drop_at b d (length a) (sym long)

keys_tell : (keys others : List (List Tern)) → map says_key keys ≡ map says_key others
    → keys ≡ others
keys_tell [] [] same = refl
keys_tell [] (w ∷ others) same = cc
keys_tell (w ∷ keys) [] same = cc
keys_tell (w ∷ keys) (u ∷ others) same =
    let rest : keys ≡ others = keys_tell keys others (ap (drop 1) same) in
    let first : says_key w ∷ map says_key keys ≡ says_key u ∷ map says_key others = same in
    cc

verdicts_tell : (verdicts others : List Verdict)
    → map says_verdict verdicts ≡ map says_verdict others → verdicts ≡ others
verdicts_tell [] [] same = refl
verdicts_tell [] (v ∷ others) same = cc
verdicts_tell (v ∷ verdicts) [] same = cc
verdicts_tell (v ∷ verdicts) (u ∷ others) same =
    let rest : verdicts ≡ others = verdicts_tell verdicts others (ap (drop 1) same) in
    let first : says_verdict v ∷ map says_verdict verdicts
    ≡ says_verdict u ∷ map says_verdict others = same in
    cc

pub parts_tell : (line : Line) (claims others : List Claims) → length claims ≡ length others
    → All (HasOneEach line) claims → All (HasOneEach line) others
    → flat_map part_said claims ≡ flat_map part_said others → claims ≡ others
parts_tell line [] [] long a b same = refl
parts_tell line [] (d ∷ others) long a b same = absurd (omega arith)
parts_tell line (c ∷ claims) [] long a b same = absurd (omega arith)
parts_tell line (c ∷ claims) (d ∷ others) long a b same =
    let x = All-head (HasOneEach line) c claims a in
    let y = All-head (HasOneEach line) d others b in
    let keys : length (map says_key c.keys) ≡ length (map says_key d.keys) =
    length-map c.keys says_key ∙ x.keys ∙ sym y.keys ∙ sym (length-map d.keys says_key) in
    let verdicts : length (map says_verdict c.verdicts) ≡ length (map says_verdict d.verdicts) =
    length-map c.verdicts says_verdict ∙ x.verdicts ∙ sym y.verdicts
    ∙ sym (length-map d.verdicts says_verdict) in
    let long_part : length (part_said c) ≡ length (part_said d) =
    omega (
      arith,
      length-append (map says_key c.keys) (map says_verdict c.verdicts),
      length-append (map says_key d.keys) (map says_verdict d.verdicts),
      keys,
      verdicts,
    ) in
    let part : part_said c ≡ part_said d =
    fronts (part_said c) (part_said d) (flat_map part_said claims) (flat_map part_said others)
    long_part same in
    let rest : claims ≡ others =
    parts_tell line claims others (omega arith) (All-tail (HasOneEach line) c claims a)
    (All-tail (HasOneEach line) d others b)
    (backs (part_said c) (part_said d) (flat_map part_said claims) (flat_map part_said others)
    long_part same) in
    let both : map says_key c.keys ++ map says_verdict c.verdicts
    ≡ map says_key d.keys ++ map says_verdict d.verdicts = ap (drop 1) part in
    let first : c ≡ d =
    same_claims c d
    (keys_tell c.keys d.keys (fronts (map says_key c.keys) (map says_key d.keys)
    (map says_verdict c.verdicts) (map says_verdict d.verdicts) keys both))
    (verdicts_tell c.verdicts d.verdicts (backs (map says_key c.keys) (map says_key d.keys)
    (map says_verdict c.verdicts) (map says_verdict d.verdicts) keys both)) in
    ap (λ (e : Claims). e ∷ claims) first ∙ ap (λ (l : List Claims). d ∷ l) rest
