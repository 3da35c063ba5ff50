-- How a call ends, file after file.
use Rattle.std.proofs.Common.{◌≡◌, ℕ, ◌≤◌, List, [], ◌∷◌, Option, IfSome, Result, Ok, Err, length}
use Rattle.std.proofs.Common.{refl, sym, ◌∙◌, inl, inr, subst, ap}
use Rattle.base_text.specs.{store.CountLaws.same_both, store.Store.SameCounts}
use Rattle.call_answer.specs.Sinks.{SinkView}
use Rattle.call_files.specs.FileLaws.{cause_from, short_of, told_contents}
use Rattle.call_files.specs.Files.{contents, in_front, limit_of, AllTold, NamedFile}
use Rattle.call_files.specs.declared.stop.File.{File}
use Rattle.call_pilot.specs.{top.CallAnswers.CallAnswers, top.Ends.Works, top.Ends.EndsOverFiles}
use Rattle.call_files.specs.{declared.stop.Status.Status, declared.stop.Stop.Stop}
use Rattle.call_files.specs.declared.stop.Stop.TheVariants as stop

-- a work may answer what a wider relation allows
pub works_wider : {K : Type 0} (view : K → SinkView) (A B : CallAnswers) (old new : K)
    (r : Result Status Stop)
    → ((s : Status) (text line : List ℕ) → A s text line → B s text line)
    → Works view A old new r → Works view B old new r
works_wider view A B old new (Ok s) wider w = (w.0, w.1, wider s w.1 [] w.2, w.3)
works_wider view A B old new (Err stop.Usage) wider w = absurd w
works_wider view A B old new (Err (stop.Refused why)) wider w = (wider _ _ _ w.0, w.1)
works_wider view A B old new (Err (stop.Store file)) wider w = absurd w
works_wider view A B old new (Err stop.Sink) wider w =
    (w.0, w.1, w.2, w.3, wider w.1 w.2 w.3 w.4, w.5)
works_wider view A B old new (Err stop.Memory) wider w = (
  w.0,
  elim w.1 [
    | inl kept ↦ inl kept
    | inr grew ↦ inr (grew.0, grew.1, grew.2, wider grew.0 grew.1 grew.2 grew.3, grew.4)
  ],
)

module _ {K : Type 0} (view : K → SinkView) (next : Result (List (List ℕ)) File → CallAnswers)
    (files : List ℕ → Option (List ℕ)) (old new : K) where
  -- what a call over these files may answer
  abbrev allowed : List NamedFile → CallAnswers
  allowed asked s text line = AllTold files asked → next (contents files asked) s text line

  at_end : (r : Result Status Stop) → Works view (next (Ok [])) old new r
      → Works view (allowed []) old new r
  at_end r w = works_wider view (next (Ok [])) (allowed []) old new r (λ s text line a _. a) w

  -- a work with no file to fetch
  pub ends_of_works : (c1 c2 : List ℕ → ℕ) (r : Result Status Stop)
      → SameCounts c1 c2 → Works view (next (Ok [])) old new r
      → EndsOverFiles view next files [] c1 c2 old new r
  ends_of_works c1 c2 (Ok s) same w = (same, at_end (Ok s) w)
  ends_of_works c1 c2 (Err stop.Usage) same w = absurd w
  ends_of_works c1 c2 (Err (stop.Refused why)) same w =
      (same, at_end (Err (stop.Refused why)) w)
  ends_of_works c1 c2 (Err (stop.Store file)) same w = absurd w
  ends_of_works c1 c2 (Err stop.Sink) same w = (same, at_end (Err stop.Sink) w)
  ends_of_works c1 c2 (Err stop.Memory) same w = (same, at_end (Err stop.Memory) w)

module _ {K : Type 0} (view : K → SinkView) (next : Result (List (List ℕ)) File → CallAnswers)
    (files : List ℕ → Option (List ℕ)) (old new : K) (a : NamedFile) (rest : List NamedFile)
    (v : List ℕ) (short : length v ≤ limit_of a.file)
    (is : IfSome (files a.name) (λ b. b ≡ v)) where
  abbrev before : CallAnswers
  before s text line = AllTold files rest → next (in_front v (contents files rest)) s text line

  abbrev after : CallAnswers
  after s text line = AllTold files (a ∷ rest) → next (contents files (a ∷ rest)) s text line

  go_on : (r : Result Status Stop) → Works view before old new r → Works view after old new r
  go_on r w =
      works_wider view before after old new r
      (λ s text line p told.
      subst (λ (x : Result (List (List ℕ)) File). next x s text line)
      (sym (told_contents files a rest v short is told)) (p told.1))
      w

  -- a call whose first file was fetched
  pub ends_next : (c1 c2 c3 : List ℕ → ℕ) (r : Result Status Stop) → SameCounts c1 c2
      → EndsOverFiles view (λ x. next (in_front v x)) files rest c2 c3 old new r
      → EndsOverFiles view next files (a ∷ rest) c1 c3 old new r
  ends_next c1 c2 c3 (Ok s) same e = (same_both c1 c2 c3 same e.0, go_on (Ok s) e.1)
  ends_next c1 c2 c3 (Err stop.Usage) same e = absurd e.1
  ends_next c1 c2 c3 (Err (stop.Refused why)) same e =
      (same_both c1 c2 c3 same e.0, go_on (Err (stop.Refused why)) e.1)
  ends_next c1 c2 c3 (Err (stop.Store file)) same e = (
    inr (
      short_of (files a.name) v (limit_of a.file) short is,
      cause_from files c1 c2 c3 rest file same e.0,
    ),
    e.1,
  )
  ends_next c1 c2 c3 (Err stop.Sink) same e =
      (same_both c1 c2 c3 same e.0, go_on (Err stop.Sink) e.1)
  ends_next c1 c2 c3 (Err stop.Memory) same e =
      (same_both c1 c2 c3 same e.0, go_on (Err stop.Memory) e.1)

-- a file that was fetched: it is no longer than its limit, and has the bytes that are told
pub record IsFetched (files : List ℕ → Option (List ℕ)) (a : NamedFile) (v : List ℕ) : Type 0 where
  pub short : length v ≤ limit_of a.file
  pub is : IfSome (files a.name) (λ b. b ≡ v)

module _ {K : Type 0} (view : K → SinkView) (files : List ℕ → Option (List ℕ)) (old new : K) where
  -- a command of one file, which was fetched
  pub ends_of_one : (next : Result (List (List ℕ)) File → CallAnswers) (a : NamedFile) (v : List ℕ)
      → IsFetched files a v → (c1 c2 : List ℕ → ℕ) (r : Result Status Stop) → SameCounts c1 c2
      → Works view (next (Ok (v ∷ []))) old new r
      → EndsOverFiles view next files (a ∷ []) c1 c2 old new r
  ends_of_one next a v f c1 c2 r same w =
      ends_next view next files old new a [] v f.short f.is c1 c2 c2 r same
      (ends_of_works view (λ x. next (in_front v x)) files old new c2 c2 r (λ name. refl) w)

  -- a command of two files
  pub ends_of_two : (next : Result (List (List ℕ)) File → CallAnswers) (a b : NamedFile)
      (v w : List ℕ) → IsFetched files a v → IsFetched files b w
      → (c1 c2 c3 : List ℕ → ℕ) (r : Result Status Stop) → SameCounts c1 c2 → SameCounts c2 c3
      → Works view (next (Ok (v ∷ w ∷ []))) old new r
      → EndsOverFiles view next files (a ∷ b ∷ []) c1 c3 old new r
  ends_of_two next a b v w f g c1 c2 c3 r same_a same_b work =
      ends_next view next files old new a (b ∷ []) v f.short f.is c1 c2 c3 r same_a
      (ends_of_one (λ x. next (in_front v x)) b w g c2 c3 r same_b work)

  -- a command of three files
  pub ends_of_three : (next : Result (List (List ℕ)) File → CallAnswers) (a b d : NamedFile)
      (v w u : List ℕ) → IsFetched files a v → IsFetched files b w → IsFetched files d u
      → (c1 c2 c3 c4 : List ℕ → ℕ) (r : Result Status Stop) → SameCounts c1 c2
      → SameCounts c2 c3 → SameCounts c3 c4
      → Works view (next (Ok (v ∷ w ∷ u ∷ []))) old new r
      → EndsOverFiles view next files (a ∷ b ∷ d ∷ []) c1 c4 old new r
  ends_of_three next a b d v w u f g h c1 c2 c3 c4 r same_a same_b same_d work =
      ends_next view next files old new a (b ∷ d ∷ []) v f.short f.is c1 c2 c4 r same_a
      (ends_of_two (λ x. next (in_front v x)) b d w u g h c2 c3 c4 r same_b same_d work)

-- ---- what holds of the contents, of which the same is told

module _ (files : List ℕ → Option (List ℕ)) (P : Result (List (List ℕ)) File → Type 0) where
  pub told_one : (a : NamedFile) (v : List ℕ) → IsFetched files a v → P (Ok (v ∷ []))
      → AllTold files (a ∷ []) → P (contents files (a ∷ []))
  told_one a v f p told = subst P (sym (told_contents files a [] v f.short f.is told)) p

  pub told_two : (a b : NamedFile) (v w : List ℕ) → IsFetched files a v → IsFetched files b w
      → P (Ok (v ∷ w ∷ [])) → AllTold files (a ∷ b ∷ []) → P (contents files (a ∷ b ∷ []))
  told_two a b v w f g p told =
      subst P (sym (told_contents files a (b ∷ []) v f.short f.is told
      ∙ ap (in_front v) (told_contents files b [] w g.short g.is told.1))) p

  pub told_three : (a b d : NamedFile) (v w u : List ℕ) → IsFetched files a v
      → IsFetched files b w → IsFetched files d u → P (Ok (v ∷ w ∷ u ∷ []))
      → AllTold files (a ∷ b ∷ d ∷ []) → P (contents files (a ∷ b ∷ d ∷ []))
  told_three a b d v w u f g h p told =
      subst P (sym (told_contents files a (b ∷ d ∷ []) v f.short f.is told
      ∙ ap (in_front v) (told_contents files b (d ∷ []) w g.short g.is told.1
      ∙ ap (in_front w) (told_contents files d [] u h.short h.is told.1.1)))) p
