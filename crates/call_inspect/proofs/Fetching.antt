-- The files that are fetched, one on.
use Rattle.std.proofs.Common.{◌≡◌, ◌<◌, ◌+◌, ◌++◌, Bor, ℕ, List, [], ◌∷◌, Some, Err, get_or, length, map, refl}
use Rattle.std.proofs.Common.{◌∙◌, ap, subst, sym, take}
use Rattle.std.proofs.lemmas.List.{map_more}
use Rattle.std.proofs.lemmas.Option.{slice_get-get_or, slice_get-map}
use Rattle.std.specs.Prelude.{slice_get}
use Rattle.std.specs.Option.{option_map}
use Rattle.base_text.specs.{store.Counts.Rose, store.CountLaws.same_both, store.Store.SameCounts}
use Rattle.call_inspect.specs.Files.{AreBytesOf, AreFetched, FetchesAll, FetchesOne, Held, IsCause}
use Rattle.call_inspect.specs.declared.given.GivenFile.{GivenFile}
use Rattle.call_inspect.specs.declared.halt.Halt.{Halt}
use Rattle.call_inspect.specs.declared.halt.Halt.TheVariants as halt

pub none_fetched : (files : Held) → AreFetched files [] []
unfolding AreFetched
none_fetched files = tt

one_more : (files : Held) (names : List (List ℕ)) (fs : List GivenFile) (n : List ℕ) (f : GivenFile)
    → AreFetched files names fs → f.name.now ≡ n → AreBytesOf (files n) f.bytes
    → AreFetched files (names ++ n ∷ []) (fs ++ f ∷ [])
unfolding AreFetched
one_more files [] [] n f are name bytes = (name, bytes, tt)
one_more files [] (x ∷ fs) n f are name bytes = absurd are
one_more files (x ∷ names) [] n f are name bytes = absurd are
one_more files (x ∷ names) (y ∷ fs) n f are name bytes =
    (are.0, are.1, one_more files names fs n f are.2 name bytes)

pub one_file_fetched : (files : Held) (names : List (Bor (List ℕ))) (i : ℕ) (fs more : List GivenFile)
    (f : GivenFile) (d : Bor (List ℕ)) → i < length names
    → AreFetched files (map (λ name. name.now) (take i names)) fs
    → f.name.now ≡ (get_or names i d).now → AreBytesOf (files (get_or names i d).now) f.bytes
    → more ≡ fs ++ f ∷ []
    → AreFetched files (map (λ name. name.now) (take (i + 1) names)) more
one_file_fetched files names i fs more f d inside are name bytes is =
    let next = map_more (λ (name : Bor (List ℕ)). name.now) names i d inside in
    rw (next, is) (one_more files (map (λ name. name.now) (take i names)) fs (get_or names i d).now f are
    name bytes)

named : (names : List (Bor (List ℕ))) (i : ℕ) (d : Bor (List ℕ)) → i < length names
    → slice_get (map (λ name. name.now) names) i ≡ Some (get_or names i d).now
named names i d inside =
    slice_get-map (λ (name : Bor (List ℕ)). name.now) names i
    ∙ ap (option_map (λ (name : Bor (List ℕ)). name.now)) (slice_get-get_or names i d inside)

-- the fetch of the file at this place fails, and all those before it are fetched
pub stops_here : (files held : Held) (c0 c1 c2 : List ℕ → ℕ) (names : List (Bor (List ℕ))) (i : ℕ)
    (d : Bor (List ℕ)) (why : Halt) → i < length names → SameCounts c0 c1
    → FetchesOne held c1 c2 (get_or names i d).now i (Err why)
    → FetchesAll files c0 c2 (map (λ name. name.now) names) (Err why)
stops_here files held c0 c1 c2 names i d (halt.Unread k) inside same f =
    let name = (get_or names i d).now in
    subst (λ (n : ℕ). IsCause c0 c2 (map (λ name. name.now) names) n) (sym f.0)
    (name, named names i d inside, subst (λ (n : ℕ). Rose n (c2 name)) (same name) f.1)
stops_here files held c0 c1 c2 names i d halt.Sink inside same f = absurd f
stops_here files held c0 c1 c2 names i d halt.Memory inside same f = same_both c0 c1 c2 same f
