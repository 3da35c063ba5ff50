-- What is written of a place in a map and of words is the line of these.
use Rattle.std.proofs.Common.{◌≡◌, ◌≤◌, ◌++◌, ℕ, List, [], ◌∷◌, length, map, append_assoc}
use Rattle.std.specs.List.{concat}
use Rattle.call_refused.specs.told.Told.{place_text, within_line}
use Rattle.call_records.specs.Lines.{IsWorded}

pub worded_so : (name bytes : List ℕ) (at : ℕ) (words : List (List ℕ))
    (none place said all line : List ℕ) → at ≤ length bytes
    → none ≡ [] → place ≡ none ++ place_text name bytes at → said ≡ concat words
    → all ≡ place ++ map within_line said → line ≡ all ++ 10 ∷ []
    → IsWorded name bytes words line
worded_so name bytes at words none place said all line within e0 e1 e2 e3 e4 = record {
  at = at;
  within = within;
  is = rw (e4, e3, e2, e1, e0)
      (append_assoc (place_text name bytes at) (map within_line (concat words)) (10 ∷ []));
}
