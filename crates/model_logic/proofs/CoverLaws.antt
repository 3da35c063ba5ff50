-- In a wider world each pair covers that of the narrower one.
use Rattle.std.proofs.Common.{◌≡◌, ℕ, zero, suc, ◌<◌, ◌≤◌, refl, sym, subst, arith}
use Rattle.std.proofs.Common.{⊎_elim}
use Rattle.std.proofs.lemmas.Bool.{cases_lt}
use Rattle.model_history.specs.Laws.{HistoryLaws}
use Rattle.model_history.specs.Rails.{Rails, rails_delayed, RailsCover}
use Rattle.model_history.specs.RailLaws.{covers_same}
use Rattle.model_line.specs.declared.line.Line.{Line}
use Rattle.model_logic.specs.Tree.{Tree, Const, Seen, Loss, Raw, Not, And, Or, Timer, Seal}
use Rattle.model_logic.specs.PairMean.{PairWorld, PairSignals, pair_mean}
use Rattle.model_logic.specs.Covering.{IsWider, CoverBefore, CoverOwn}
use Rattle.model_logic.specs.Names.{Names, AllNamed}
use Rattle.model_logic.specs.Solution.{IsDelayed, Solves}

cover_earlier : (line : Line) (a b : PairSignals) (r t : ℕ) → r ≤ t
    → CoverBefore line a b t → CoverBefore line a b r
cover_earlier line a b r t le same k s kn lt = same k s kn (omega arith)

module _ (laws : HistoryLaws) where
  module _ (line : Line) (w v : PairWorld) (wider : IsWider line w v) (d : IsDelayed line w) where
    -- over keys that cover, the pair of a tree covers
    pub pair_mean-wider : (a b : PairSignals) (x : Tree) (t : ℕ) → t < line.horizon → Names line x
        → CoverBefore line a b t → RailsCover (pair_mean w a x t) (pair_mean v b x t)
    unfolding pair_mean Names
    pair_mean-wider a b (Const c) t early h cover = covers_same c c refl
    pair_mean-wider a b (Seen p) t early h cover = wider.seen p t
    pair_mean-wider a b (Loss c) t early h cover = wider.lost c t
    pair_mean-wider a b (Raw c) t early h cover =
        subst (λ (k : ℕ). RailsCover (rails_delayed (a (w.from c)) (w.delay c t) t)
        (rails_delayed (b k) (v.delay c t) t)) (wider.from c)
        (laws.delays_cover.rails (a (w.from c)) (b (w.from c)) (w.delay c) (v.delay c) t
        (d.later c t h early) (wider.delay c t h early)
        (λ r lt. cover (w.from c) r (d.from c h) lt))
    pair_mean-wider a b (Not x) t early h cover =
        laws.cover_rails.not (pair_mean w a x t) (pair_mean v b x t)
        (pair_mean-wider a b x t early h cover)
    pair_mean-wider a b (And x y) t early h cover =
        laws.cover_rails.and (pair_mean w a x t) (pair_mean w a y t) (pair_mean v b x t)
        (pair_mean v b y t) (pair_mean-wider a b x t early h.0 cover)
        (pair_mean-wider a b y t early h.1 cover)
    pair_mean-wider a b (Or x y) t early h cover =
        laws.cover_rails.or (pair_mean w a x t) (pair_mean w a y t) (pair_mean v b x t)
        (pair_mean v b y t) (pair_mean-wider a b x t early h.0 cover)
        (pair_mean-wider a b y t early h.1 cover)
    pair_mean-wider a b (Timer x p e) t early h cover =
        laws.cover_rails.timed (pair_mean w a x) (pair_mean v b x) (w.time p) (v.time p) (w.time e)
        (v.time e) t
        (λ r le. pair_mean-wider a b x r (omega arith) h.0 (cover_earlier line a b r t le cover))
        (wider.time p h.1.0) (wider.time e h.1.1)
    pair_mean-wider a b (Seal x y) t early h cover =
        laws.cover_rails.sealed (pair_mean w a x) (pair_mean w a y) (pair_mean v b x) (pair_mean v b y) t
        (λ r le. pair_mean-wider a b x r (omega arith) h.0 (cover_earlier line a b r t le cover))
        (λ r le. pair_mean-wider a b y r (omega arith) h.1 (cover_earlier line a b r t le cover))

    -- claims that cover what is derived from them cover the keys of the narrower world
    pub claims_wider : (trees : ℕ → Tree) (a b : PairSignals) → AllNamed line trees
        → CoverOwn line w trees a → Solves line v trees b
        → (t : ℕ) → t ≤ line.horizon → CoverBefore line a b t
    claims_wider trees a b named claims sb zero le k r kn lt = absurd (omega arith)
    claims_wider trees a b named claims sb (suc t) le k r kn lt =
        let before : CoverBefore line a b t =
        claims_wider trees a b named claims sb t (omega arith) in
        ⊎_elim (λ earlier. before k r kn earlier)
        (λ last. let e : t ≡ r = omega arith in
        let now : RailsCover (pair_mean w a (trees k) t) (pair_mean v b (trees k) t) =
        pair_mean-wider a b (trees k) t (omega arith) (named k kn) before in
        let all : RailsCover (a k t) (pair_mean v b (trees k) t) =
        laws.covering.on (a k t) (pair_mean w a (trees k) t) (pair_mean v b (trees k) t)
        (claims k t kn (omega arith)) now in
        let told : RailsCover (a k t) (b k t) =
        subst (RailsCover (a k t)) (sym (sb k t kn (omega arith))) all in
        subst (λ (s : ℕ). RailsCover (a k s) (b k s)) e told)
        (cases_lt r t)

    -- the keys of the wider world cover those of the narrower one
    pub solution_wider : (trees : ℕ → Tree) (a b : PairSignals) → AllNamed line trees
        → Solves line w trees a → Solves line v trees b
        → (t : ℕ) → t ≤ line.horizon → CoverBefore line a b t
    solution_wider trees a b named sa sb =
        claims_wider trees a b named
        (λ k t kn lt. subst (λ (x : Rails). RailsCover x (pair_mean w a (trees k) t))
        (sym (sa k t kn lt)) (laws.covering.itself (pair_mean w a (trees k) t)))
        sb
