-- A certificate as it is written: its head, the part of each script, and its end.
use Rattle.std.proofs.Common.{◌≡◌, ℕ, ◌+◌, ◌<◌, ◌≤◌, false, ◌||◌, List, [], ◌∷◌, ◌++◌}
use Rattle.std.proofs.Common.{length, get_or, take, drop, Result, Ok, Err, refl, sym, ap, ◌∙◌}
use Rattle.std.proofs.Common.{subst}
use Rattle.std.proofs.lemmas.List.{append_assoc, append-nil, drop_more, take-append-drop, take_all}
use Rattle.std.proofs.lemmas.List.{take_more}
use Rattle.std.proofs.lemmas.List.Elements.{All-cons, All-drop, All-nil}
use Rattle.std.proofs.lemmas.Slice.Zip.{AllZip-long}
use Rattle.std.specs.List.{All}
use Rattle.model_line.specs.{declared.line.Line.Line, declared.script.Script.Script, Fits.Fits}
use Rattle.cert_claims.specs.text.Grammar.{Claims, HasOneEach}
use Rattle.cert_claims.specs.text.Text.{certificate_text, part_text, parts_text}
use Rattle.cert_claims.specs.check.Counts.{all_verdicts}
use Rattle.model_history.specs.ZipLaws.{zip_append}
use Rattle.cert_own.specs.Certified.{AreCertified, IsCertified}
use Rattle.call_pilot.specs.commands.Certify.{IsCertifiedText, certify_answer}
use Rattle.call_pilot.specs.commands.PartWrites.{WritesPart, WritesParts}
use Rattle.call_answer.specs.Sinks.{SinkView, GrewByAll, WriteStops}
use Rattle.call_pilot.specs.commands.Verdicts.{verdicts_status}
use Rattle.call_answer.specs.Answers.{WritesAnswer}
use Rattle.call_pilot.specs.declared.commands.found.Found.{Found}
use Rattle.call_answer.specs.declared.done.Done.{Done}
use Rattle.base_text.specs.declared.store.sink.PutFailed.{PutFailed}
use Rattle.base_memory.specs.declared.stopped.Stopped.{Stopped}
use Rattle.base_memory.specs.declared.stopped.Stopped.TheVariants as stopped
use Rattle.call_answer.specs.SinkLaws.{grew_both, grew_none}
use Rattle.call_pilot.proofs.commands_lemmas.Verdicts.{found_more, found_none}
use Rattle.call_pilot.proofs.commands_lemmas.Writing.{stops_more, stops_none, stops_then}

-- ---- scripts that fit have one certificate

pub certificate_of : (line : Line) (scripts : List Script) (claims : List Claims)
    → AreCertified line scripts claims
    → IsCertifiedText line scripts (verdicts_status (all_verdicts claims))
    (certificate_text line scripts claims)
certificate_of line scripts claims certified =
    record { claims = claims; certified = certified; status_is = refl; text_is = refl }

pub certificate_exists : (line : Line) (scripts : List Script)
    → (claims : List Claims) × AreCertified line scripts claims
    → (s : Done) × (text : List ℕ) × IsCertifiedText line scripts s text
certificate_exists line scripts (claims, certified) = (
  verdicts_status (all_verdicts claims),
  certificate_text line scripts claims,
  certificate_of line scripts claims certified,
)

pub certificate_once : (line : Line) (scripts : List Script) (s t : Done) (a b : List ℕ)
    → ((p q : List Claims) → AreCertified line scripts p → AreCertified line scripts q → p ≡ q)
    → IsCertifiedText line scripts s a → IsCertifiedText line scripts t b
    → (s ≡ t) × (a ≡ b)
certificate_once line scripts s t a b one p q =
    let same : p.claims ≡ q.claims = one p.claims q.claims p.certified q.certified in (
      p.status_is
          ∙ ap (λ (c : List Claims). verdicts_status (all_verdicts c)) same
          ∙ sym q.status_is,
      p.text_is
          ∙ ap (λ (c : List Claims). certificate_text line scripts c) same
          ∙ sym q.text_is,
    )

-- of one script alone
pub only_one : (line : Line) (script : Script) (claims : List Claims)
    → AreCertified line (script ∷ []) claims → (one : Claims) × IsCertified line script one
only_one line script [] certified = absurd certified
only_one line script (c ∷ claims) certified = (c, certified.0)

-- ---- its pieces

module _ (line : Line)
    (each : (script : Script) (claims : Claims) → IsCertified line script claims
    → HasOneEach line claims) where
  -- each script's claims have one key and one verdict for each terminal
  pub one_each : (scripts : List Script) (claims : List Claims) → AreCertified line scripts claims
      → All (HasOneEach line) claims
  one_each scripts [] certified = All-nil (HasOneEach line)
  one_each [] (c ∷ claims) certified = absurd certified
  one_each (script ∷ scripts) (c ∷ claims) certified =
      All-cons (HasOneEach line) c claims (each script c certified.0)
      (one_each scripts claims certified.1)

  pub in_pieces : (head last : List ℕ)
      → ((scripts : List Script) (claims : List Claims) → length claims ≡ length scripts
      → All (HasOneEach line) claims → certificate_text line scripts claims
      ≡ head ++ (parts_text line scripts claims ++ last))
      → (scripts : List Script) (claims : List Claims) → AreCertified line scripts claims
      → certificate_text line scripts claims
      ≡ (head ++ parts_text line scripts claims) ++ last
  in_pieces head last pieces scripts claims certified =
      pieces scripts claims (AllZip-long (IsCertified line) scripts claims certified)
      (one_each scripts claims certified)
      ∙ sym (append_assoc head (parts_text line scripts claims) last)

module _ (line : Line) where
  parts_append : (xs ys : List Script) (cs ds : List Claims) → AreCertified line xs cs
      → parts_text line (xs ++ ys) (cs ++ ds) ≡ parts_text line xs cs ++ parts_text line ys ds
  parts_append [] ys [] ds certified = refl
  parts_append [] ys (c ∷ cs) ds certified = absurd certified
  parts_append (x ∷ xs) ys [] ds certified = absurd certified
  parts_append (x ∷ xs) ys (c ∷ cs) ds certified =
      ap (λ (t : List ℕ). part_text line x c ++ t) (parts_append xs ys cs ds certified.1)
      ∙ sym (append_assoc (part_text line x c) (parts_text line xs cs) (parts_text line ys ds))

  -- ---- what is written

  -- no part yet
  pub parts_none : (s : SinkView) (found : Found) → found.some_no ≡ false
      → found.some_open ≡ false → WritesParts line [] s s (Ok found)
  parts_none s found noes undecideds = record {
    claims = [];
    certified = tt;
    writes = grew_none s;
    found = found_none found noes undecideds;
  }

  -- a part whose script is not decided for want of memory
  pub part_undecided : (script : Script) (s : SinkView)
      → (claims : Claims) × IsCertified line script claims
      → WritesPart line script s s (Err stopped.Memory)
  part_undecided script s exists = record {
    claims = exists.0;
    certified = exists.1;
    writes = stops_none s (part_text line script exists.0);
    found = tt;
  }

  module _ (scripts : List Script) (i : ℕ) (script : Script) (lt : i < length scripts)
      (here : get_or scripts i script ≡ script) where
    -- one part more
    pub parts_more : (a b c : SinkView) (f g h : Found) → h.some_no ≡ f.some_no || g.some_no
        → h.some_open ≡ f.some_open || g.some_open
        → WritesParts line (take i scripts) a b (Ok f) → WritesPart line script b c (Ok g)
        → WritesParts line (take (i + 1) scripts) a c (Ok h)
    parts_more a b c f g h noes undecideds w p =
        subst (λ (xs : List Script). WritesParts line xs a c (Ok h))
        (sym (take_more scripts i script lt ∙ ap (λ x. take i scripts ++ x ∷ []) here))
        (record {
          claims = w.claims ++ p.claims ∷ [];
          certified = zip_append (IsCertified line) (take i scripts) (script ∷ []) w.claims
              (p.claims ∷ []) w.certified (p.certified, tt);
          writes = subst (GrewByAll a c)
              (sym (parts_append (take i scripts) (script ∷ []) w.claims (p.claims ∷ [])
              w.certified
              ∙ ap (λ z. parts_text line (take i scripts) w.claims ++ z)
              (append-nil (part_text line script p.claims))))
              (grew_both w.writes p.writes);
          found = found_more (λ (said : Claims). said.verdicts) w.claims p.claims f g h noes
              undecideds w.found p.found;
        })

    -- a part stops: the others are still to come
    pub parts_stop : (a b c : SinkView) (f : Found) (why : Stopped PutFailed)
        → ((xs : List Script) → All (Fits line) xs
        → (claims : List Claims) × AreCertified line xs claims) → All (Fits line) scripts
        → WritesParts line (take i scripts) a b (Ok f) → WritesPart line script b c (Err why)
        → WritesParts line scripts a c (Err why)
    parts_stop a b c f why certify fits w p =
        let later = drop (i + 1) scripts in
        let rest = certify later (All-drop (Fits line) (i + 1) scripts fits) in
        subst (λ (xs : List Script). WritesParts line xs a c (Err why))
        (ap (λ z. take i scripts ++ z)
        (sym (drop_more scripts i script lt ∙ ap (λ x. x ∷ drop (i + 1) scripts) here))
        ∙ take-append-drop i scripts)
        (record {
          claims = w.claims ++ p.claims ∷ rest.0;
          certified = zip_append (IsCertified line) (take i scripts) (script ∷ later) w.claims
              (p.claims ∷ rest.0) w.certified (p.certified, rest.1);
          writes = subst (λ z. WriteStops a c z why)
              (sym (parts_append (take i scripts) (script ∷ later) w.claims
              (p.claims ∷ rest.0) w.certified))
              (stops_then w.writes (stops_more (parts_text line later rest.0) p.writes));
          found = tt;
        })

  -- all parts
  pub parts_all : (scripts : List Script) (i : ℕ) (a b : SinkView) (r : Result Found (Stopped PutFailed))
      → length scripts ≤ i → WritesParts line (take i scripts) a b r
      → WritesParts line scripts a b r
  parts_all scripts i a b r le w =
      subst (λ xs. WritesParts line xs a b r) (take_all i scripts le) w

  -- a writer of a certificate that stops
  pub certificate_stops : (scripts : List Script) (claims : List Claims) (old new : SinkView)
      (pieces : List ℕ) (why : Stopped PutFailed) → AreCertified line scripts claims
      → certificate_text line scripts claims ≡ pieces → WriteStops old new pieces why
      → WritesAnswer (certify_answer line scripts) old new (Err why)
  certificate_stops scripts claims old new pieces why certified same stops = record {
    status = verdicts_status (all_verdicts claims);
    text = certificate_text line scripts claims;
    is = certificate_of line scripts claims certified;
    writes = subst (λ z. WriteStops old new z why) (sym same) stops;
    gives = tt;
  }
